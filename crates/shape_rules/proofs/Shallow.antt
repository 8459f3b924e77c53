-- In a well-formed shapes graph no chain of references is too long.
use Rattle.std.proofs.Common.{ℕ, List, [], ◌∷◌, length, None, refl, subst, inl, inr}
use Rattle.rdf_model.specs.declared.term.Term.{Term}
use Rattle.rdf_model.specs.declared.triple.Triple.{Triple}
use Rattle.shape_model.specs.Readings.{References, reading}
use Rattle.shape_references.specs.Chains.{HasChain}
use Rattle.shape_rules.specs.Laws.{ShallowLaw}
use Rattle.shape_sizes.specs.References.{NamesShape}
use Rattle.shape_rules.specs.Rows.{row}
use Rattle.shape_rules.proofs.Acyclic.{refers}

chain : (s : List Triple) (a : Term) (ms : List Term) → References (reading s) a ms → HasChain (NamesShape s) (length ms) a
chain s a [] h = tt
chain s a (m ∷ ms) h = (m, refers s a m h.0, chain s m ms h.1)

pub shallow : ShallowLaw
shallow s well a ms long h = well (row a 41 None) (inr (λ r k. well r (inl k), inl (inl (subst (λ (n : ℕ). HasChain (NamesShape s) n a) long (chain s a ms h)), refl)))
