-- The shapes graph without a triple: no shape is compiled of it.
use Rattle.std.proofs.Common.{[], arith, inl, inr}
use Rattle.std.specs.List.{Contains}
use Rattle.rdf_model.specs.declared.term.Term.{Term}
use Rattle.shape_model.specs.ShapeSyntax.{IsShape}
use Rattle.shape_rules.proofs.Empty.{nowhere}
use Rattle.shape_ast.specs.Once.{AreOnce}
use Rattle.shape_ast.specs.Standing.{AreCompiled, StandFor}

none_in : {X : Type 0} → (x : X) → Contains [] x → ⊥
none_in x c = absurd (omega arith)

no_shape : (n : Term) → IsShape [] n → ⊥
no_shape n = elim [
  | inl i ↦ nowhere _ _ _ i.1
  | inr (inl i) ↦ nowhere _ _ _ i.1
  | inr (inr (inl i)) ↦ nowhere _ _ _ i.3
  | inr (inr (inr (inl i))) ↦ nowhere _ _ _ i.3
  | inr (inr (inr (inr i))) ↦ nowhere _ _ _ i.5
]

empty_stands : StandFor [] []
empty_stands = record {
  each = λ c here. absurd (none_in c here);
  are_shapes = λ c here. absurd (none_in c here);
  all = λ n shape. absurd (no_shape n shape);
  ascending = tt;
  linked = λ c here. absurd (none_in c here);
  severity = λ c here. absurd (none_in c here);
  messages = λ c here. absurd (none_in c here);
}

pub empty_compiled : AreCompiled [] []
empty_compiled = record {
  stand = empty_stands;
  built = λ k d lt. absurd (omega (arith, lt));
  within = λ k d lt. absurd (omega (arith, lt));
}

pub empty_once : AreOnce []
empty_once c here = absurd (none_in c here)
