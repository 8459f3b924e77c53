-- What is found of a node.
use Rattle.std.proofs.Common.{◌≡◌, ℕ, ◌+◌, ◌≤◌, List, length, arith, refl, subst}
use Rattle.std.specs.Prelude.{MatchOption, Option, Some, None, codes}
use Rattle.rdf_model.specs.declared.term.Term.{Term}
use Rattle.rdf_model.specs.declared.triple.Triple.{Triple}
use Rattle.shape_model.specs.Paths.{Path, Paths, Predicate, Inverse, Sequence, Alternative, ZeroOrMore, OneOrMore, ZeroOrOne}
use Rattle.shape_model.specs.Triples.{IsBlank, IsIri}
use Rattle.shape_model.specs.ShapeSyntax.{PathOf}
use Rattle.shape_model.specs.Vocabulary.{sh}
use Rattle.shape_model.specs.Walks.{Walk}
use Rattle.shape_syntax.specs.PathDepth.{IsRead, depth_of}
use Rattle.shape_syntax.specs.PathSteps.{IsAlone}
use Rattle.shape_syntax.specs.PathWays.{AreReadPaths}
use Rattle.shape_syntax.proofs.PathWays.{blank_path}
use Rattle.plain_terms.specs.Finds.{Finds}
use Rattle.plain_terms.specs.declared.relation.Relation.{Relation}
use Rattle.plain_terms.specs.declared.ways.Join.TheVariants as ways
use Rattle.plain_terms.specs.declared.ways.PathModifier.{PathModifier}
use Rattle.plain_terms.specs.Relations.{Joins}
use Rattle.plain_terms.specs.Ways.{AreUnread, IsOf, IsRelationAt, IsUnread, LeadsTo, joined, modifier_name, modified}
use Rattle.shape_syntax.proofs.OnePath.{one_path}
use Rattle.plain_terms.proofs.Depths.{read_whole}
use Rattle.plain_terms.proofs.Modifiers.{alternative_read, alternative_unread, other_unread, sequence_read, sequence_unread, modified_read, modified_unread}

module _ (g s : List Triple) (n : Term) where
  pub predicate_found : IsIri n → (levels : ℕ) (r : Relation) → IsOf g (Predicate n) r → IsRelationAt g s n levels r
  predicate_found iri levels r h = (Predicate n, ((refl, iri), omega arith), h)

  module _ (levels : ℕ) (blank : IsBlank n) where
    pub modified_found : (p m : Term) → IsAlone s n p m → (t : PathModifier) → p ≡ sh (modifier_name t) → (found : Option Relation)
        → MatchOption found (IsUnread s m levels) (λ r. (q : Path) × IsRead s m levels q × IsOf g (modified t q) r) → MatchOption found (IsUnread s n (levels + 1)) (IsRelationAt g s n (levels + 1))
    modified_found p m alone t e None h = modified_unread s n p m alone blank t e levels h
    modified_found p m alone t e (Some r) h = (modified t h.0, modified_read s n p m alone blank t e levels h.0 h.1, h.2)

    pub sequence_found : ((p v : Term) → IsAlone s n p v → ⊥) → (found : Option Relation)
        → MatchOption found (AreUnread s n levels) (λ r. (ps : Paths) × AreReadPaths s n levels ps × IsOf g (joined ways.Sequence ps) r) → MatchOption found (IsUnread s n (levels + 1)) (IsRelationAt g s n (levels + 1))
    sequence_found never None h = sequence_unread s n levels blank never h
    sequence_found never (Some r) h = (Sequence h.0, sequence_read s n levels blank h.0 h.1, h.2)

    pub offered_found : (p m : Term) → IsAlone s n p m → ((t : PathModifier) → p ≡ sh (modifier_name t) → ⊥) → (found : Option Relation)
        → MatchOption found (p ≡ sh (codes "alternativePath") → AreUnread s m levels) (λ r. (p ≡ sh (codes "alternativePath")) × ((ps : Paths) × AreReadPaths s m levels ps × IsOf g (joined ways.Alternative ps) r))
        → MatchOption found (IsUnread s n (levels + 1)) (IsRelationAt g s n (levels + 1))
    offered_found p m alone never None h = λ q k. other_unread s n p m alone blank never (λ e. alternative_unread s n p m alone blank e levels (h e) q k) (levels + 1) q k
    offered_found p m alone never (Some r) h = (Alternative h.1.0, alternative_read s n p m alone blank h.0 levels h.1.0 h.1.1, h.1.2)

-- a node that is no IRI stands for no path without members
no_flat : (s : List Triple) (n : Term) → (IsIri n → ⊥) → (p : Path) → PathOf s n p → depth_of p ≤ 0 → ⊥
no_flat s n never (Predicate p) h le = never h.1
no_flat s n never (Inverse p) h le = absurd (omega (arith, le))
no_flat s n never (Sequence ps) h le = absurd (omega (arith, le))
no_flat s n never (Alternative ps) h le = absurd (omega (arith, le))
no_flat s n never (ZeroOrMore p) h le = absurd (omega (arith, le))
no_flat s n never (OneOrMore p) h le = absurd (omega (arith, le))
no_flat s n never (ZeroOrOne p) h le = absurd (omega (arith, le))

pub flat_unread : (s : List Triple) (n : Term) (levels : ℕ) → (IsIri n → ⊥) → levels ≡ 0 → IsUnread s n levels
flat_unread s n levels never e p h = let le : depth_of p ≤ levels = h.1 in no_flat s n never p h.0 (omega (arith, le, e))

-- nor does one that isn't blank either
pub literal_unread : (s : List Triple) (n : Term) (levels : ℕ) → (IsIri n → ⊥) → (IsBlank n → ⊥) → IsUnread s n levels
literal_unread s n levels never not p h = not (blank_path s n never (p, h.0))

-- where the path leads
pub leads_found : (g s : List Triple) (n x : Term) (r : Relation) → IsRelationAt g s n (length s) r → (ends : List Term) → Finds (Joins r x) ends → Finds (LeadsTo g s n x) ends
leads_found g s n x r h ends k = record {
  members = λ y. (
    λ c. (h.0, h.1.0, (h.2.joins x y).0 ((k.members y).0 c)),
    λ w. (k.members y).1 ((h.2.joins x y).1 (subst (λ (q : Path). Walk g q x y) (one_path s n h.0 w.0 h.1.0 w.1) w.2)),
  );
}

pub leads_nowhere : (g s : List Triple) (n x y : Term) → IsUnread s n (length s) → LeadsTo g s n x y → ⊥
leads_nowhere g s n x y none w = none w.0 (read_whole s n w.0 w.1)
