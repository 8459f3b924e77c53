-- The references that a validation follows are among those of the rules.
use Rattle.std.proofs.Common.{List, [], ◌∷◌, ◌++◌, None, refl, inl, inr}
use Rattle.rdf_model.specs.declared.term.Term.{Term}
use Rattle.rdf_model.specs.declared.triple.Triple.{Triple}
use Rattle.shape_model.specs.Readings as read
use Rattle.shape_model.specs.Readings.{References, reading}
use Rattle.shape_references.specs.Chains.{Chain}
use Rattle.shape_properties.specs.declared.property.ShapeProperty.TheVariants as properties
use Rattle.shape_rules.specs.Laws.{AcyclicLaw}
use Rattle.shape_sizes.specs.References.{NamesShape}
use Rattle.shape_rules.specs.Rows.{row}

pub refers : (s : List Triple) (a t : Term) → read.Refers (reading s a) t → NamesShape s a t
refers s a t = elim [
  | inl h ↦ inl (properties.Not, t, h, refl)
  | inr (inl h) ↦ inl (properties.Node, t, h, refl)
  | inr (inr (inl h)) ↦ inl (properties.Property, t, h, refl)
  | inr (inr (inr (inl h))) ↦ inl (properties.And, h.0, h.2.0, (h.1, h.2.1, h.3))
  | inr (inr (inr (inr (inl h)))) ↦ inl (properties.Or, h.0, h.2.0, (h.1, h.2.1, h.3))
  | inr (inr (inr (inr (inr (inl h))))) ↦ inl (properties.Xone, h.0, h.2.0, (h.1, h.2.1, h.3))
  | inr (inr (inr (inr (inr (inr (inl h)))))) ↦ inl (properties.QualifiedValueShape, t, h.1, refl)
  | inr (inr (inr (inr (inr (inr (inr h)))))) ↦ inr h.1
]

chain : (s : List Triple) (a : Term) (ms : List Term) (b : Term) → References (reading s) a (ms ++ b ∷ []) → Chain (NamesShape s) a ms b
chain s a [] b h = refers s a b h.0
chain s a (m ∷ ms) b h = (refers s a m h.0, chain s m ms b h.1)

pub acyclic : AcyclicLaw
acyclic s well a ms h = well (row a 38 None) (inl (inr ((ms, chain s a ms a h), refl)))
