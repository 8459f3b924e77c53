-- The paths of which a path is made, at the nodes of which its node is made.
use Rattle.std.proofs.Common.{◌≡◌, ◌∙◌, ℕ, List, [], ◌∷◌, get_or, true, false, refl, sym, ap, subst, arith, inl, inr, codes}
use Rattle.std.specs.Prelude.{◌≢◌, bytes_eq}
use Rattle.rdf_model.specs.declared.term.Term.{Term}
use Rattle.rdf_model.specs.declared.term.Term.TheVariants.{Blank, Iri, Literal}
use Rattle.rdf_model.specs.declared.triple.Triple.{Triple}
use Rattle.shape_model.specs.Vocabulary.{sh, rdf, rdf_first, rdf_nil, rdf_rest}
use Rattle.shape_model.specs.Triples.{Has, IsBlank, IsIri}
use Rattle.shape_model.specs.Paths.{Path, Predicate, Inverse, Sequence, Alternative, ZeroOrMore, OneOrMore, ZeroOrOne, Paths, Last, Also}
use Rattle.shape_model.specs.ShapeSyntax.{HasAlone, ListOf, PathOf, PathsOf}
use Rattle.shape_syntax.specs.PathSteps.{ModifiesPath}
use Rattle.shape_syntax.proofs.PathWays.{sh_exact}
use Rattle.shape_sizes.specs.PathLooks.{IsMadeOf, MayBePath}

-- names that differ in a letter
letter : ℕ → Term → ℕ
letter i (Blank session number) = 0
letter i (Iri text) = get_or text i 0
letter i (Literal text datatype language) = 0

apart_at : (i : ℕ) (t u : Term) → letter i t ≢ letter i u → t ≢ u
apart_at i t u apart e = apart (ap (letter i) e)

n_not_one : ◌≢◌ {A = ℕ} 110 49
n_not_one e = omega arith

sh_not_rest : (name : List ℕ) → sh name ≢ rdf_rest
unfolding sh rdf rdf_rest letter
sh_not_rest name = apart_at 18 (sh name) rdf_rest n_not_one

inverse_differs : codes "alternativePath" ≢ codes "inversePath"
inverse_differs e = let g : true ≡ false = ap (λ (x : List ℕ). bytes_eq (codes "alternativePath") x) e in cc

zeroOrMore_differs : codes "alternativePath" ≢ codes "zeroOrMorePath"
zeroOrMore_differs e = let g : true ≡ false = ap (λ (x : List ℕ). bytes_eq (codes "alternativePath") x) e in cc

oneOrMore_differs : codes "alternativePath" ≢ codes "oneOrMorePath"
oneOrMore_differs e = let g : true ≡ false = ap (λ (x : List ℕ). bytes_eq (codes "alternativePath") x) e in cc

zeroOrOne_differs : codes "alternativePath" ≢ codes "zeroOrOnePath"
zeroOrOne_differs e = let g : true ≡ false = ap (λ (x : List ℕ). bytes_eq (codes "alternativePath") x) e in cc

nil_not_blank : IsBlank rdf_nil → ⊥
unfolding rdf rdf_nil
nil_not_blank b = b

-- a node with one triple, whose property is a name of SHACL, is the head of no list
no_list_at : (s : List Triple) (n : Term) (name : List ℕ) (v : Term) → HasAlone s n name v → (xs : List Term) → ListOf s n xs → ⊥
no_list_at s n name v alone [] l = nil_not_blank (subst (λ (x : Term). IsBlank x) l.0 alone.0)
no_list_at s n name v alone (m ∷ ms) l = sh_not_rest name (sym (alone.2 rdf_rest l.0 l.1.1.0).0)

pub member_may_be : (s : List Triple) (n m : Term) → Has s n rdf_first m → MayBePath s m
member_may_be s n m h = (record { subject = n; predicate = rdf_first; object = m }, h, inr (inl refl), refl)

-- the path that is reversed or repeated, at the one node
abbrev pub IsPart : List Triple → Path → List Term → Type 0
IsPart s r to = (v : Term) × PathOf s v r × MayBePath s v × (to ≡ v ∷ [])

-- those of a list, at its members
abbrev pub AreParts : List Triple → Paths → List Term → Type 0
AreParts s ps to = (head : Term) × PathsOf s head ps × ListOf s head to

abbrev pub IsMadeAs : List Triple → Path → List Term → Type 0
IsMadeAs s (Predicate p) to = ⊥
IsMadeAs s (Inverse r) to = IsPart s r to
IsMadeAs s (Sequence ps) to = AreParts s ps to
IsMadeAs s (Alternative ps) to = AreParts s ps to
IsMadeAs s (ZeroOrMore r) to = IsPart s r to
IsMadeAs s (OneOrMore r) to = IsPart s r to
IsMadeAs s (ZeroOrOne r) to = IsPart s r to

first_of : (s : List Triple) (n : Term) (ps : Paths) → PathsOf s n ps → (m : Term) × Has s n rdf_first m
first_of s n (Last p) h = (h.0, h.2.0.0)
first_of s n (Also p ps) h = (h.0, h.2.0.0)

list_of : (s : List Triple) (n : Term) (ps : Paths) → PathsOf s n ps → (ms : List Term) × ListOf s n ms
list_of s n (Last p) h = (h.0 ∷ [], (h.1, h.2, h.3))
list_of s n (Also p ps) h = let rest = list_of s h.1 ps h.4 in (h.0 ∷ rest.0, (h.1, h.2, rest.1))

module _ (s : List Triple) (n : Term) (to : List Term) (made : IsMadeOf s n to) where
  modified_part : (name : List ℕ) → ModifiesPath (sh name) → codes "alternativePath" ≢ name → (v : Term) → HasAlone s n name v → (r : Path) → PathOf s v r → IsPart s r to
  modified_part name modifies other v alone r path = elim made [
    | inl list ↦ absurd (no_list_at s n name v alone to list)
    | inr (inl h) ↦
        let same = alone.2 h.1.0 h.1.1 h.1.2 in
        elim h.1.3 [
          | inl k ↦ absurd (other (sh_exact (codes "alternativePath") name (sym k.0 ∙ same.0)))
          | inr k ↦
              let may : MayBePath s v = (record { subject = n; predicate = sh name; object = v }, alone.1, inr (inr modifies), refl) in
              (v, path, may, k.1 ∙ ap (λ (x : Term). x ∷ []) same.1)
        ]
    | inr (inr h) ↦ absurd (h.0 (sh name) v alone.1)
  ]

  sequence_parts : (ps : Paths) → PathsOf s n ps → AreParts s ps to
  sequence_parts ps path = elim made [
    | inl list ↦ (n, path, list)
    | inr (inl h) ↦ let found = list_of s n ps path in absurd (h.0 found.0 found.1)
    | inr (inr h) ↦ let m = first_of s n ps path in absurd (h.0 rdf_first m.0 m.1)
  ]

  offered_parts : (v : Term) → HasAlone s n (codes "alternativePath") v → (ps : Paths) → PathsOf s v ps → AreParts s ps to
  offered_parts v alone ps path = elim made [
    | inl list ↦ absurd (no_list_at s n (codes "alternativePath") v alone to list)
    | inr (inl h) ↦
        let same = alone.2 h.1.0 h.1.1 h.1.2 in
        elim h.1.3 [
          | inl k ↦
              let here : PathsOf s h.1.1 ps = subst (λ (x : Term). PathsOf s x ps) (sym same.1) path in
              elim k.1 [
                | inl list ↦ (h.1.1, here, list)
                | inr none ↦ let found = list_of s h.1.1 ps here in absurd (none.0 found.0 found.1)
              ]
          | inr k ↦ absurd (k.0 same.0)
        ]
    | inr (inr h) ↦ absurd (h.0 (sh (codes "alternativePath")) v alone.1)
  ]

-- a blank node that stands for a path is made of those of which the path is made
pub made_as : (s : List Triple) (n : Term) (to : List Term) → IsMadeOf s n to → (IsIri n → ⊥) → (q : Path) → PathOf s n q → IsMadeAs s q to
made_as s n to made blank (Predicate p) h = absurd (blank h.1)
made_as s n to made blank (Inverse r) h = modified_part s n to made (codes "inversePath") (inl refl) (inverse_differs) h.0 h.1 r h.2
made_as s n to made blank (Sequence ps) h = sequence_parts s n to made ps h.2
made_as s n to made blank (Alternative ps) h = offered_parts s n to made h.0 h.1 ps h.3
made_as s n to made blank (ZeroOrMore r) h = modified_part s n to made (codes "zeroOrMorePath") (inr (inl refl)) (zeroOrMore_differs) h.0 h.1 r h.2
made_as s n to made blank (OneOrMore r) h = modified_part s n to made (codes "oneOrMorePath") (inr (inr (inl refl))) (oneOrMore_differs) h.0 h.1 r h.2
made_as s n to made blank (ZeroOrOne r) h = modified_part s n to made (codes "zeroOrOnePath") (inr (inr (inr refl))) (zeroOrOne_differs) h.0 h.1 r h.2
