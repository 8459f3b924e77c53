use Rattle.std.proofs.Common.{◌≡◌, ◌<◌, ℕ, Some}
use Rattle.std.specs.Prelude.{slice_get}
use Rattle.rdf_model.specs.Numbers.{term_at}
use Rattle.shape_ast.specs.Readings.{ReadShape, named_shapes}
use Rattle.evidence_verdict.proofs.lookup.place_with.Given as goal

abbrev pub invariant-loop-place : goal.invariant-loop-place
invariant-loop-place g l =
    (j : ℕ) (c : ReadShape) → j < l.place → slice_get (named_shapes l.evaluation.terms l.evaluation.shapes) j ≡ Some c → c.node ≡ term_at l.evaluation.terms l.node → ⊥
