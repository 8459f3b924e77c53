-- The one triple of a blank node, and the path that it makes.
use Rattle.std.proofs.Common.{◌≡◌, ◌∙◌, ℕ, true, false, ◌+◌, ◌≤◌, List, [], ◌∷◌, sym, ap, subst, refl, arith, inl, inr}
use Rattle.std.specs.Prelude.{◌⊎◌, ◌↔◌, bytes_eq, codes}
use Rattle.rdf_model.specs.declared.term.Term.{Term}
use Rattle.rdf_model.specs.declared.triple.Triple.{Triple}
use Rattle.shape_model.specs.Vocabulary.{sh}
use Rattle.shape_model.specs.Triples.{IsBlank}
use Rattle.shape_model.specs.Paths.{Path, Paths, Predicate, Inverse, Sequence, Alternative, ZeroOrMore, OneOrMore, ZeroOrOne, AreSeveral}
use Rattle.shape_model.specs.ShapeSyntax.{HasAlone, PathOf, PathsOf}
use Rattle.shape_model.specs.Walks.{Chain, Walk}
use Rattle.shape_syntax.specs.PathDepth.{IsRead, depth_of, deepest_of}
use Rattle.shape_syntax.specs.PathSteps.{IsAlone}
use Rattle.shape_syntax.specs.PathWays.{AreReadPaths}
use Rattle.shape_syntax.proofs.OnePath.{one_path}
use Rattle.shape_syntax.proofs.PathWays.{listed_inner, listed_read, no_blank_iri, no_paths_alone, sh_exact}
use Rattle.plain_terms.specs.declared.ways.PathModifier.{PathModifier}
use Rattle.plain_terms.specs.declared.ways.PathModifier.TheVariants as modifiers
use Rattle.plain_terms.specs.declared.relation.Relation.{Relation}
use Rattle.plain_terms.specs.Relations.{Joins, JoinsOnceOrMore, Means}
use Rattle.plain_terms.specs.Ways.{AreUnread, IsOf, IsUnread, JoinsModified, modifier_name, modified}
use Rattle.plain_terms.proofs.Chains.{chain_same}
use Rattle.plain_terms.proofs.Made.{means_same}

not_alternative : (t : PathModifier) → codes "alternativePath" ≡ modifier_name t → ⊥
not_alternative modifiers.Inverse e = let g : true ≡ false = ap (λ (x : List ℕ). bytes_eq (codes "alternativePath") x) e in cc
not_alternative modifiers.ZeroOrMore e = let g : true ≡ false = ap (λ (x : List ℕ). bytes_eq (codes "alternativePath") x) e in cc
not_alternative modifiers.OneOrMore e = let g : true ≡ false = ap (λ (x : List ℕ). bytes_eq (codes "alternativePath") x) e in cc
not_alternative modifiers.ZeroOrOne e = let g : true ≡ false = ap (λ (x : List ℕ). bytes_eq (codes "alternativePath") x) e in cc

depth_modified : (t : PathModifier) (r : Path) → depth_of (modified t r) ≡ depth_of r + 1
depth_modified modifiers.Inverse r = refl
depth_modified modifiers.ZeroOrMore r = refl
depth_modified modifiers.OneOrMore r = refl
depth_modified modifiers.ZeroOrOne r = refl

module _ (s : List Triple) (n p m : Term) (alone : IsAlone s n p m) (blank : IsBlank n) where
  as_named : (name : List ℕ) (v : Term) → HasAlone s n name v → (sh name ≡ p) × (v ≡ m)
  as_named name v h = alone.1 (sh name) v h.1

  named : (name : List ℕ) → p ≡ sh name → HasAlone s n name m
  named name e = let a = subst (λ (x : Term). IsAlone s n x m) e alone in (blank, a.0, a.1)

  inner : (name : List ℕ) (v : Term) → HasAlone s n name v → (r : Path) → PathOf s v r → PathOf s m r
  inner name v h r k = subst (λ (x : Term). PathOf s x r) (as_named name v h).1 k

  no_alternative : (t : PathModifier) → p ≡ sh (modifier_name t) → (v : Term) → HasAlone s n (codes "alternativePath") v → ⊥
  no_alternative t e v h = not_alternative t (sh_exact (codes "alternativePath") (modifier_name t) ((as_named (codes "alternativePath") v h).0 ∙ e))

  no_modifier : (t : PathModifier) → p ≡ sh (codes "alternativePath") → (v : Term) → HasAlone s n (modifier_name t) v → ⊥
  no_modifier t e v h = not_alternative t (sym (sh_exact (modifier_name t) (codes "alternativePath") ((as_named (modifier_name t) v h).0 ∙ e)))

  -- the value of the property stands for a path where the node does
  below_modifier : (t : PathModifier) → p ≡ sh (modifier_name t) → (q : Path) → PathOf s n q → (r : Path) × PathOf s m r
  below_modifier t e (Predicate q) h = absurd (no_blank_iri n blank h.1)
  below_modifier t e (Inverse q) h = (q, inner (codes "inversePath") h.0 h.1 q h.2)
  below_modifier t e (Sequence qs) h = absurd (no_paths_alone s n p m alone qs h.2)
  below_modifier t e (Alternative qs) h = absurd (no_alternative t e h.0 h.1)
  below_modifier t e (ZeroOrMore q) h = (q, inner (codes "zeroOrMorePath") h.0 h.1 q h.2)
  below_modifier t e (OneOrMore q) h = (q, inner (codes "oneOrMorePath") h.0 h.1 q h.2)
  below_modifier t e (ZeroOrOne q) h = (q, inner (codes "zeroOrOnePath") h.0 h.1 q h.2)

  modified_of : (t : PathModifier) → p ≡ sh (modifier_name t) → (r : Path) → PathOf s m r → PathOf s n (modified t r)
  modified_of modifiers.Inverse e r h = (m, named (codes "inversePath") e, h)
  modified_of modifiers.ZeroOrMore e r h = (m, named (codes "zeroOrMorePath") e, h)
  modified_of modifiers.OneOrMore e r h = (m, named (codes "oneOrMorePath") e, h)
  modified_of modifiers.ZeroOrOne e r h = (m, named (codes "zeroOrOnePath") e, h)

  pub modified_read : (t : PathModifier) → p ≡ sh (modifier_name t) → (levels : ℕ) (r : Path) → IsRead s m levels r → IsRead s n (levels + 1) (modified t r)
  modified_read t e levels r h = let d = depth_modified t r in let le : depth_of r ≤ levels = h.1 in (modified_of t e r h.0, omega (arith, d, le))

  pub modified_unread : (t : PathModifier) → p ≡ sh (modifier_name t) → (levels : ℕ) → IsUnread s m levels → IsUnread s n (levels + 1)
  modified_unread t e levels none q h =
      let r = below_modifier t e q h.0 in
      let same : modified t r.0 ≡ q = sym (one_path s n (modified t r.0) q (modified_of t e r.0 r.1) h.0) in
      let d = depth_modified t r.0 in
      let le : depth_of (modified t r.0) ≤ levels + 1 = subst (λ (x : Path). depth_of x ≤ levels + 1) (sym same) h.1 in
      none r.0 (r.1, omega (arith, d, le))

  -- and its value is the head of a list of paths
  below_alternative : p ≡ sh (codes "alternativePath") → (q : Path) → PathOf s n q → (qs : Paths) × (q ≡ Alternative qs) × AreSeveral qs × PathsOf s m qs
  below_alternative e (Predicate q) h = absurd (no_blank_iri n blank h.1)
  below_alternative e (Inverse q) h = absurd (no_modifier modifiers.Inverse e h.0 h.1)
  below_alternative e (Sequence qs) h = absurd (no_paths_alone s n p m alone qs h.2)
  below_alternative e (Alternative qs) h = (qs, refl, h.2, subst (λ (x : Term). PathsOf s x qs) (as_named (codes "alternativePath") h.0 h.1).1 h.3)
  below_alternative e (ZeroOrMore q) h = absurd (no_modifier modifiers.ZeroOrMore e h.0 h.1)
  below_alternative e (OneOrMore q) h = absurd (no_modifier modifiers.OneOrMore e h.0 h.1)
  below_alternative e (ZeroOrOne q) h = absurd (no_modifier modifiers.ZeroOrOne e h.0 h.1)

  pub alternative_read : p ≡ sh (codes "alternativePath") → (levels : ℕ) (qs : Paths) → AreReadPaths s m levels qs → IsRead s n (levels + 1) (Alternative qs)
  alternative_read e levels qs h = let le : deepest_of qs ≤ levels = h.2 in ((m, named (codes "alternativePath") e, h.0, h.1), omega (arith, le))

  pub alternative_unread : p ≡ sh (codes "alternativePath") → (levels : ℕ) → AreUnread s m levels → IsUnread s n (levels + 1)
  alternative_unread e levels none q h =
      let w = below_alternative e q h.0 in
      let le : depth_of (Alternative w.0) ≤ levels + 1 = subst (λ (x : Path). depth_of x ≤ levels + 1) w.1 h.1 in
      none w.0 (w.2, w.3, omega (arith, le))

  -- a node whose one triple has none of the properties stands for no path
  module _ (never : (t : PathModifier) → p ≡ sh (modifier_name t) → ⊥) (not : p ≡ sh (codes "alternativePath") → ⊥) where
    no_path : (q : Path) → PathOf s n q → ⊥
    no_path (Predicate q) h = no_blank_iri n blank h.1
    no_path (Inverse q) h = never modifiers.Inverse (sym (as_named (codes "inversePath") h.0 h.1).0)
    no_path (Sequence qs) h = no_paths_alone s n p m alone qs h.2
    no_path (Alternative qs) h = not (sym (as_named (codes "alternativePath") h.0 h.1).0)
    no_path (ZeroOrMore q) h = never modifiers.ZeroOrMore (sym (as_named (codes "zeroOrMorePath") h.0 h.1).0)
    no_path (OneOrMore q) h = never modifiers.OneOrMore (sym (as_named (codes "oneOrMorePath") h.0 h.1).0)
    no_path (ZeroOrOne q) h = never modifiers.ZeroOrOne (sym (as_named (codes "zeroOrOnePath") h.0 h.1).0)

    pub other_unread : (levels : ℕ) → IsUnread s n levels
    other_unread levels q h = no_path q h.0

-- a blank node that isn't the subject of one triple alone stands for no other path than a sequence
pub sequence_unread : (s : List Triple) (n : Term) (levels : ℕ) → IsBlank n → ((p v : Term) → IsAlone s n p v → ⊥) → AreUnread s n levels → IsUnread s n (levels + 1)
sequence_unread s n levels blank never none q h =
    let w = listed_inner s n blank never (q, h.0) in
    let same : Sequence w.0 ≡ q = sym (one_path s n (Sequence w.0) q (blank, w.1, w.2) h.0) in
    let le : depth_of (Sequence w.0) ≤ levels + 1 = subst (λ (x : Path). depth_of x ≤ levels + 1) (sym same) h.1 in
    none w.0 (w.1, w.2, omega (arith, le))

pub sequence_read : (s : List Triple) (n : Term) (levels : ℕ) → IsBlank n → (qs : Paths) → AreReadPaths s n levels qs → IsRead s n (levels + 1) (Sequence qs)
sequence_read s n levels blank qs h = listed_read s n levels blank qs h

-- the relation of the path that the property makes
module _ (g : List Triple) (p : Path) (r : Relation) (h : IsOf g p r) where
  chain_to : (x : Term) (zs : List Term) (y : Term) → Chain (Joins r) x zs y → Chain (Walk g p) x zs y
  chain_to = chain_same (Joins r) (Walk g p) (λ x y. (h.joins x y).0)

  chain_from : (x : Term) (zs : List Term) (y : Term) → Chain (Walk g p) x zs y → Chain (Joins r) x zs y
  chain_from = chain_same (Walk g p) (Joins r) (λ x y. (h.joins x y).1)

  any_number : (x y : Term) → ((x ≡ y) ⊎ JoinsOnceOrMore r x y) ↔ Walk g (ZeroOrMore p) x y
  any_number x y = (
    elim [ inl e ↦ ([], e) | inr w ↦ (w.0, chain_to x w.0 y w.2) ],
    λ w. at w.0 (chain_from x w.0 y w.1),
  )
    where
      at : (zs : List Term) → Chain (Joins r) x zs y → (x ≡ y) ⊎ JoinsOnceOrMore r x y
      at [] e = inl e
      at (z ∷ zs) k = inr (z ∷ zs, (λ e. cc), k)

  modified_joins : (t : PathModifier) (x y : Term) → JoinsModified t r x y ↔ Walk g (modified t p) x y
  modified_joins modifiers.Inverse x y = h.joins y x
  modified_joins modifiers.ZeroOrMore x y = any_number x y
  modified_joins modifiers.OneOrMore x y = (λ w. (w.0, w.1, chain_to x w.0 y w.2), λ w. (w.0, w.1, chain_from x w.0 y w.2))
  modified_joins modifiers.ZeroOrOne x y = (elim [ inl e ↦ inl e | inr j ↦ inr ((h.joins x y).0 j) ], elim [ inl e ↦ inl e | inr w ↦ inr ((h.joins x y).1 w) ])

  pub modified_is : (t : PathModifier) (made : Relation) → Means (JoinsModified t r) made → IsOf g (modified t p) made
  modified_is t made k = means_same (JoinsModified t r) (Walk g (modified t p)) made (modified_joins t) k
