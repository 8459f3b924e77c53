-- A node stands for one path at most.
use Rattle.std.proofs.Common.{◌≡◌, ◌∙◌, ℕ, ◌<◌, List, cond, Option, Some, None, refl, sym, ap, subst, codes}
use Rattle.std.specs.Prelude.{bytes_eq}
use Rattle.rdf_model.specs.declared.term.Term.{Term}
use Rattle.rdf_model.specs.declared.triple.Triple.{Triple}
use Rattle.shape_model.specs.Vocabulary.{sh}
use Rattle.shape_model.specs.Triples.{IsBlank, IsIri}
use Rattle.shape_model.specs.Paths.{Path, Predicate, Inverse, Sequence, Alternative, ZeroOrMore, OneOrMore, ZeroOrOne, Paths, Last, Also}
use Rattle.shape_model.specs.ShapeSyntax.{IsListEnd, HasAlone, PathOf, PathsOf}
use Rattle.shape_syntax.proofs.Lists.{end_no_cell}
use Rattle.shape_syntax.specs.declared.way.PathModifier.{PathModifier}
use Rattle.shape_syntax.specs.declared.way.PathModifier.TheVariants as modifiers
use Rattle.shape_syntax.specs.PathSteps.{IsAlone}
use Rattle.shape_syntax.specs.PathDepth.{IsDeep, IsTooDeep, depth_of}
use Rattle.shape_syntax.specs.PathWays.{modifier_name, modified}
use Rattle.shape_syntax.proofs.PathWays.{sh_exact, modifiers_no_alternative, no_blank_iri, no_paths_alone}

-- each of the four properties has a name of its own
modifier_from : List ℕ → Option PathModifier
modifier_from name = cond (bytes_eq (codes "inversePath") name) (Some modifiers.Inverse) (cond (bytes_eq (codes "zeroOrMorePath") name) (Some modifiers.ZeroOrMore) (cond (bytes_eq (codes "oneOrMorePath") name) (Some modifiers.OneOrMore) (cond (bytes_eq (codes "zeroOrOnePath") name) (Some modifiers.ZeroOrOne) None)))

by_name : (modifier : PathModifier) → modifier_from (modifier_name modifier) ≡ Some modifier
unfolding modifier_from
by_name modifiers.Inverse = refl
by_name modifiers.ZeroOrMore = refl
by_name modifiers.OneOrMore = refl
by_name modifiers.ZeroOrOne = refl

one_modifier : (t u : PathModifier) → sh (modifier_name t) ≡ sh (modifier_name u) → t ≡ u
one_modifier t u e =
    let d : Some t ≡ Some u = sym (by_name t) ∙ ap modifier_from (sh_exact (modifier_name t) (modifier_name u) e) ∙ by_name u in
    cc

module _ (s : List Triple) (n m : Term) where
  -- a path of a node whose one triple has this property is what the property makes of the path of its value
  modified_as : (t u : PathModifier) → IsAlone s n (sh (modifier_name t)) m → (v : Term) → HasAlone s n (modifier_name u) v → (q : Path) → PathOf s v q → (r : Path) × (modified u q ≡ modified t r) × PathOf s m r
  modified_as t u alone v h q k =
      let same = alone.1 (sh (modifier_name u)) v h.1 in
      (q, ap (λ (x : PathModifier). modified x q) (one_modifier u t same.0), subst (λ (x : Term). PathOf s x q) same.1 k)

  modified_only : (t : PathModifier) → IsBlank n → IsAlone s n (sh (modifier_name t)) m → (q : Path) → PathOf s n q → (r : Path) × (q ≡ modified t r) × PathOf s m r
  modified_only t blank alone (Predicate p) h = absurd (no_blank_iri n blank h.1)
  modified_only t blank alone (Inverse q) h = modified_as t modifiers.Inverse alone h.0 h.1 q h.2
  modified_only t blank alone (Sequence qs) h = absurd (no_paths_alone s n (sh (modifier_name t)) m alone qs h.2)
  modified_only t blank alone (Alternative qs) h = absurd (modifiers_no_alternative t (sh_exact (codes "alternativePath") (modifier_name t) (alone.1 (sh (codes "alternativePath")) h.0 h.1.1).0))
  modified_only t blank alone (ZeroOrMore q) h = modified_as t modifiers.ZeroOrMore alone h.0 h.1 q h.2
  modified_only t blank alone (OneOrMore q) h = modified_as t modifiers.OneOrMore alone h.0 h.1 q h.2
  modified_only t blank alone (ZeroOrOne q) h = modified_as t modifiers.ZeroOrOne alone h.0 h.1 q h.2

  no_modifier : (t : PathModifier) → IsAlone s n (sh (codes "alternativePath")) m → (v : Term) → HasAlone s n (modifier_name t) v → ⊥
  no_modifier t alone v h = modifiers_no_alternative t (sym (sh_exact (modifier_name t) (codes "alternativePath") (alone.1 (sh (modifier_name t)) v h.1).0))

  offered_only : IsBlank n → IsAlone s n (sh (codes "alternativePath")) m → (q : Path) → PathOf s n q → (qs : Paths) × (q ≡ Alternative qs) × PathsOf s m qs
  offered_only blank alone (Predicate p) h = absurd (no_blank_iri n blank h.1)
  offered_only blank alone (Inverse q) h = absurd (no_modifier modifiers.Inverse alone h.0 h.1)
  offered_only blank alone (Sequence qs) h = absurd (no_paths_alone s n (sh (codes "alternativePath")) m alone qs h.2)
  offered_only blank alone (Alternative qs) h = (qs, refl, subst (λ (x : Term). PathsOf s x qs) (alone.1 (sh (codes "alternativePath")) h.0 h.1.1).1 h.3)
  offered_only blank alone (ZeroOrMore q) h = absurd (no_modifier modifiers.ZeroOrMore alone h.0 h.1)
  offered_only blank alone (OneOrMore q) h = absurd (no_modifier modifiers.OneOrMore alone h.0 h.1)
  offered_only blank alone (ZeroOrOne q) h = absurd (no_modifier modifiers.ZeroOrOne alone h.0 h.1)

alone_of : (s : List Triple) (n : Term) (name : List ℕ) (m : Term) → HasAlone s n name m → IsAlone s n (sh name) m
alone_of s n name m h = (h.1, h.2)

listed_only : (s : List Triple) (n : Term) (ps : Paths) → IsBlank n → PathsOf s n ps → (q : Path) → PathOf s n q → (qs : Paths) × (q ≡ Sequence qs) × PathsOf s n qs
listed_only s n ps blank l (Predicate p) h = absurd (no_blank_iri n blank h.1)
listed_only s n ps blank l (Inverse q) h = absurd (no_paths_alone s n (sh (codes "inversePath")) h.0 (alone_of s n (codes "inversePath") h.0 h.1) ps l)
listed_only s n ps blank l (Sequence qs) h = (qs, refl, h.2)
listed_only s n ps blank l (Alternative qs) h = absurd (no_paths_alone s n (sh (codes "alternativePath")) h.0 (alone_of s n (codes "alternativePath") h.0 h.1) ps l)
listed_only s n ps blank l (ZeroOrMore q) h = absurd (no_paths_alone s n (sh (codes "zeroOrMorePath")) h.0 (alone_of s n (codes "zeroOrMorePath") h.0 h.1) ps l)
listed_only s n ps blank l (OneOrMore q) h = absurd (no_paths_alone s n (sh (codes "oneOrMorePath")) h.0 (alone_of s n (codes "oneOrMorePath") h.0 h.1) ps l)
listed_only s n ps blank l (ZeroOrOne q) h = absurd (no_paths_alone s n (sh (codes "zeroOrOnePath")) h.0 (alone_of s n (codes "zeroOrOnePath") h.0 h.1) ps l)

iri_only : (s : List Triple) (n p : Term) → n ≡ p → IsIri n → (q : Path) → PathOf s n q → q ≡ Predicate p
iri_only s n p e i (Predicate q) h = ap Predicate (sym h.0 ∙ e)
iri_only s n p e i (Inverse q) h = absurd (no_blank_iri n h.1.0 i)
iri_only s n p e i (Sequence qs) h = absurd (no_blank_iri n h.0 i)
iri_only s n p e i (Alternative qs) h = absurd (no_blank_iri n h.1.0 i)
iri_only s n p e i (ZeroOrMore q) h = absurd (no_blank_iri n h.1.0 i)
iri_only s n p e i (OneOrMore q) h = absurd (no_blank_iri n h.1.0 i)
iri_only s n p e i (ZeroOrOne q) h = absurd (no_blank_iri n h.1.0 i)

end_no_paths : (s : List Triple) (k : Term) → IsListEnd s k → (ps : Paths) → PathsOf s k ps → ⊥
end_no_paths s k e (Last p) h = end_no_cell s k h.0 h.1 e h.2
end_no_paths s k e (Also p ps) h = end_no_cell s k h.0 h.1 e h.2

mutual
  pub one_path : (s : List Triple) (n : Term) (p q : Path) → PathOf s n p → PathOf s n q → q ≡ p
  one_path s n (Predicate p) q h k = iri_only s n p h.0 h.1 q k
  one_path s n (Inverse p) q h k = let r = modified_only s n h.0 modifiers.Inverse h.1.0 (h.1.1, h.1.2) q k in r.1 ∙ ap Inverse (one_path s h.0 p r.0 h.2 r.2)
  one_path s n (Sequence ps) q h k = let r = listed_only s n ps h.0 h.2 q k in r.1 ∙ ap Sequence (one_paths s n ps r.0 h.2 r.2)
  one_path s n (Alternative ps) q h k = let r = offered_only s n h.0 h.1.0 (h.1.1, h.1.2) q k in r.1 ∙ ap Alternative (one_paths s h.0 ps r.0 h.3 r.2)
  one_path s n (ZeroOrMore p) q h k = let r = modified_only s n h.0 modifiers.ZeroOrMore h.1.0 (h.1.1, h.1.2) q k in r.1 ∙ ap ZeroOrMore (one_path s h.0 p r.0 h.2 r.2)
  one_path s n (OneOrMore p) q h k = let r = modified_only s n h.0 modifiers.OneOrMore h.1.0 (h.1.1, h.1.2) q k in r.1 ∙ ap OneOrMore (one_path s h.0 p r.0 h.2 r.2)
  one_path s n (ZeroOrOne p) q h k = let r = modified_only s n h.0 modifiers.ZeroOrOne h.1.0 (h.1.1, h.1.2) q k in r.1 ∙ ap ZeroOrOne (one_path s h.0 p r.0 h.2 r.2)

  one_paths : (s : List Triple) (n : Term) (ps qs : Paths) → PathsOf s n ps → PathsOf s n qs → qs ≡ ps
  one_paths s n (Last p) (Last q) h k = ap Last (one_path s h.0 p q h.4 (subst (λ (x : Term). PathOf s x q) (h.2.0.1 k.0 k.2.0.0) k.4))
  one_paths s n (Last p) (Also q qs) h k = absurd (end_no_paths s h.1 h.3 qs (subst (λ (x : Term). PathsOf s x qs) (h.2.1.1 k.1 k.2.1.0) k.4))
  one_paths s n (Also p ps) (Last q) h k = absurd (end_no_paths s h.1 (subst (λ (x : Term). IsListEnd s x) (h.2.1.1 k.1 k.2.1.0) k.3) ps h.4)
  one_paths s n (Also p ps) (Also q qs) h k =
      let first = one_path s h.0 p q h.3 (subst (λ (x : Term). PathOf s x q) (h.2.0.1 k.0 k.2.0.0) k.3) in
      let others = one_paths s h.1 ps qs h.4 (subst (λ (x : Term). PathsOf s x qs) (h.2.1.1 k.1 k.2.1.0) k.4) in
      ap (λ (x : Path). Also x qs) first ∙ ap (λ (xs : Paths). Also p xs) others

-- where the path of the node is deep, no other of its paths is less so
pub too_deep : (s : List Triple) (n : Term) (levels : ℕ) → IsDeep s n levels → IsTooDeep s n levels
too_deep s n levels d = ((d.0, d.1), λ p h. subst (λ (q : Path). levels < depth_of q) (sym (one_path s n d.0 p d.1 h)) d.2)
