-- Paths by number that are compared part by part.
use Rattle.std.proofs.Common.{◌≡◌, ◌∙◌, ℕ, ◌+◌, ◌<◌, Vec, Box, Global, List, [], ◌∷◌, ◌++◌, length, map, take, get_or, sym, ap}
use Rattle.std.proofs.lemmas.List.{map-append, take_more}
use Rattle.rdf_model.specs.declared.term.Term.{Term}
use Rattle.rdf_model.specs.Numbers.{term_at}
use Rattle.shape_model.specs.Paths as defined
use Rattle.path_ast.specs.declared.path.Path.{Path, Sequence, Alternative}
use Rattle.path_ast.specs.PathReadings.{members, path_of}
use Rattle.path_ast.proofs.Rows.{alternative_read, sequence_read}

-- both read as one path, whatever the terms
abbrev pub ReadSame : Path ℕ → Path ℕ → Type 0
ReadSame p q = (terms : List Term) → path_of terms p ≡ path_of terms q

abbrev pub ReadAllSame : List (Path ℕ) → List (Path ℕ) → Type 0
ReadAllSame ps qs = (terms : List Term) → map (path_of terms) ps ≡ map (path_of terms) qs

module _ (path other : Path ℕ) (b c : Box (Path ℕ) Global) (v w : Vec (Path ℕ) Global) (p q : Path ℕ) (ps qs : List (Path ℕ)) (is_p : p ≡ b.value) (is_q : q ≡ c.value) (are_p : ps ≡ v.items) (are_q : qs ≡ w.items)
    (first : ReadSame p q) (rest : ReadAllSame ps qs) where
  heads : (terms : List Term) → path_of terms b.value ≡ path_of terms c.value
  heads terms = sym (ap (path_of terms) is_p) ∙ (first terms ∙ ap (path_of terms) is_q)

  tails : (terms : List Term) → map (path_of terms) v.items ≡ map (path_of terms) w.items
  tails terms = sym (ap (map (path_of terms)) are_p) ∙ (rest terms ∙ ap (map (path_of terms)) are_q)

  pub sequences_same : path ≡ Sequence b v → other ≡ Sequence c w → ReadSame path other
  sequences_same e f terms =
      ap (path_of terms) e ∙ (sequence_read b v (term_at terms) ∙ ((λ i. defined.Sequence (members (heads terms i) (tails terms i))) ∙ (sym (sequence_read c w (term_at terms)) ∙ sym (ap (path_of terms) f))))

  pub alternatives_same : path ≡ Alternative b v → other ≡ Alternative c w → ReadSame path other
  alternatives_same e f terms =
      ap (path_of terms) e ∙ (alternative_read b v (term_at terms) ∙ ((λ i. defined.Alternative (members (heads terms i) (tails terms i))) ∙ (sym (alternative_read c w (term_at terms)) ∙ sym (ap (path_of terms) f))))

-- one path more of both lists
pub next_same : (ps qs : List (Path ℕ)) (i : ℕ) (p q : Path ℕ) → i < length ps → i < length qs → p ≡ get_or ps i p → q ≡ get_or qs i q → ReadAllSame (take i ps) (take i qs) → ReadSame p q → ReadAllSame (take (i + 1) ps) (take (i + 1) qs)
next_same ps qs i p q l m is_p is_q before here terms =
    let f = path_of terms in
    let item : f (get_or ps i p) ≡ f (get_or qs i q) = sym (ap f is_p) ∙ (here terms ∙ ap f is_q) in
    ap (map f) (take_more ps i p l) ∙ (map-append f (take i ps) (get_or ps i p ∷ []) ∙ ((λ j. before terms j ++ item j ∷ []) ∙ (sym (map-append f (take i qs) (get_or qs i q ∷ [])) ∙ sym (ap (map f) (take_more qs i q m)))))
