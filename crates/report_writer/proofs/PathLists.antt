-- The text of a path, part by part.
use Rattle.std.proofs.Common.{◌≡◌, ◌∙◌, ℕ, ◌+◌, ◌<◌, List, [], ◌∷◌, ◌++◌, Vec, Box, Global, codes, get_or, length, map, take, sym, ap, append_assoc, append-nil, arith}
use Rattle.std.specs.List.{flat_map}
use Rattle.std.proofs.lemmas.Grind.{flat_map-append}
use Rattle.std.proofs.lemmas.List.{take_more}
use Rattle.rdf_model.specs.declared.term.Term.{Term}
use Rattle.shape_model.specs.Paths as defined
use Rattle.path_ast.specs.declared.path.Path.{Path, Sequence, Alternative}
use Rattle.path_ast.specs.PathReadings.{defined_path, members}
use Rattle.path_ast.proofs.Rows.{alternative_read, sequence_read}
use Rattle.path_ast.proofs.Sizes.{alternative_size, list_size, path_size, sequence_size}
use Rattle.report_writer.specs.PathTexts.{list_text, members_text, node_text, path_text}

-- a path after another
abbrev pub further : Path Term → List ℕ
further p = codes " " ++ path_text (defined_path p)

pub members_are : (p : defined.Path) (ps : List (Path Term)) → members_text (members p (map defined_path ps)) ≡ path_text p ++ flat_map further ps
members_are p [] = sym (append-nil (path_text p))
members_are p (q ∷ qs) = rw (members_are (defined_path q) qs) (simp append_assoc)

-- what was written of a list, with its end and with a path more
pub ended : (o now new : List ℕ) (p : defined.Path) (ps : List (Path Term)) → now ≡ o ++ (codes "( " ++ path_text p ++ flat_map further ps) → new ≡ now ++ codes " )" → new ≡ o ++ list_text (members_text (members p (map defined_path ps)))
ended o now new p ps e f = rw (f, e, members_are p ps) (simp append_assoc)

pub begun_list : (o now new : List ℕ) (text : List ℕ) → now ≡ o ++ codes "( " → new ≡ now ++ text → new ≡ o ++ (codes "( " ++ text ++ flat_map further [])
begun_list o now new text e f = rw (f, e) (simp (append_assoc, append-nil))

pub one_further : (o now spaced new : List ℕ) (first : List ℕ) (ps : List (Path Term)) (i : ℕ) (p : Path Term) → i < length ps → p ≡ get_or ps i p → now ≡ o ++ (codes "( " ++ first ++ flat_map further (take i ps)) → spaced ≡ now ++ codes " " → new ≡ spaced ++ path_text (defined_path p)
    → new ≡ o ++ (codes "( " ++ first ++ flat_map further (take (i + 1) ps))
one_further o now spaced new first ps i p lt is e f g =
    let whole : take (i + 1) ps ≡ take i ps ++ p ∷ [] = take_more ps i p lt ∙ ap (λ (q : Path Term). take i ps ++ q ∷ []) (sym is) in
    let more : flat_map further (take i ps ++ p ∷ []) ≡ flat_map further (take i ps) ++ flat_map further (p ∷ []) = flat_map-append further (take i ps) (p ∷ []) in
    rw (g, f, e, whole, more) (simp (append_assoc, append-nil))

-- a path between brackets
pub bracketed : (o now inner new text : List ℕ) → now ≡ o ++ codes "[ sh:alternativePath " → inner ≡ now ++ text → new ≡ inner ++ codes " ]" → new ≡ o ++ node_text (codes "sh:alternativePath") text
bracketed o now inner new text e f g = rw (g, f, e) (simp append_assoc)

module _ (path : Path Term) (first : Box (Path Term) Global) (others : Vec (Path Term) Global) (f : Path Term) (is_first : f ≡ first.value) (ps : List (Path Term)) (are_others : ps ≡ others.items) where
  pub sequence_text : path ≡ Sequence first others → path_text (defined_path path) ≡ list_text (members_text (members (defined_path f) (map defined_path ps)))
  sequence_text e =
      ap (λ (p : Path Term). path_text (defined_path p)) e ∙ ap path_text (sequence_read first others (λ t. t))
      ∙ (λ i. list_text (members_text (members (defined_path (sym is_first i)) (map defined_path (sym are_others i)))))

  pub alternative_text : path ≡ Alternative first others → path_text (defined_path path) ≡ node_text (codes "sh:alternativePath") (list_text (members_text (members (defined_path f) (map defined_path ps))))
  alternative_text e =
      ap (λ (p : Path Term). path_text (defined_path p)) e ∙ ap path_text (alternative_read first others (λ t. t))
      ∙ (λ i. node_text (codes "sh:alternativePath") (list_text (members_text (members (defined_path (sym is_first i)) (map defined_path (sym are_others i))))))

  pub sequence_less : path ≡ Sequence first others → path_size f + path_size f + list_size ps + list_size ps + 1 < path_size path + path_size path
  sequence_less e = omega (arith, ap path_size e, sequence_size first others, ap path_size is_first, ap list_size are_others)

  pub alternative_less : path ≡ Alternative first others → path_size f + path_size f + list_size ps + list_size ps + 1 < path_size path + path_size path
  alternative_less e = omega (arith, ap path_size e, alternative_size first others, ap path_size is_first, ap list_size are_others)
