-- The shapes graph without a triple: it breaks no rule.
use Rattle.std.proofs.Common.{List, [], ◌∷◌, arith, inl, inr}
use Rattle.rdf_model.specs.declared.term.Term.{Term}
use Rattle.shape_model.specs.Triples.{Has}
use Rattle.shape_references.specs.Chains.{Chain}
use Rattle.shape_rules.specs.declared.rule_row.RuleRow.{RuleRow}
use Rattle.shape_rules.specs.Broken.{IsBroken, IsWellFormed}
use Rattle.shape_model.specs.Limits.{levels_limit}
use Rattle.shape_sizes.specs.References.{HasLongChain, NamesShape}
use Rattle.shape_properties.specs.Syntax.{IsShape as IsRuledShape}

pub nowhere : (x p y : Term) → Has [] x p y → ⊥
nowhere x p y c = absurd (omega arith)

no_ruled_shape : (n : Term) → IsRuledShape [] n → ⊥
no_ruled_shape n = elim [
  | inl i ↦ nowhere _ _ _ i.1
  | inr (inl i) ↦ nowhere _ _ _ i.1
  | inr (inr (inl i)) ↦ nowhere _ _ _ i.2
  | inr (inr (inr i)) ↦ nowhere _ _ _ i.1.2
]

no_reference : (a b : Term) → NamesShape [] a b → ⊥
no_reference a b = elim [ inl i ↦ nowhere _ _ _ i.2 | inr i ↦ nowhere _ _ _ i.0.1 ]

no_chain : (a : Term) (ms : List Term) (b : Term) → Chain (NamesShape []) a ms b → ⊥
no_chain a [] b h = no_reference a b h
no_chain a (m ∷ ms) b h = no_reference a m h.0

no_long_chain : (n : Term) → HasLongChain [] n → ⊥
unfolding levels_limit
no_long_chain n h = no_reference n h.0 h.1

unbroken : (r : RuleRow) → IsBroken [] r → ⊥
unbroken r = elim [
  | inl (inl (inl i)) ↦ no_ruled_shape r.node i.0
  | inl (inl (inr (inl i))) ↦ nowhere _ _ _ i.2
  | inl (inl (inr (inr i))) ↦ nowhere _ _ _ i.0
  | inl (inr i) ↦ no_chain r.node i.0.0 r.node i.0.1
  | inr (k, inl d) ↦ elim d.0 [ inl c ↦ no_long_chain r.node c | inr p ↦ no_ruled_shape r.node p.0 ]
  | inr (k, inr (inl z)) ↦ no_ruled_shape r.node z.0.0
  | inr (k, inr (inr z)) ↦ no_ruled_shape r.node z.0.0
]

pub empty_well_formed : IsWellFormed []
empty_well_formed r h = unbroken r h
