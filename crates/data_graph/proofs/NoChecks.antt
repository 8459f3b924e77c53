-- Without shapes nothing is checked.
use Rattle.std.proofs.Common.{ℕ, List, [], refl, arith, inl, inr}
use Rattle.std.specs.List.{Contains}
use Rattle.rdf_model.specs.declared.change.Change.{Change}
use Rattle.rdf_model.specs.declared.term.Term.{Term}
use Rattle.rdf_model.specs.declared.triple.Triple.{Triple}
use Rattle.shape_model.specs.ShapeSyntax.{IsShape}
use Rattle.parallel_validate.specs.Counting.{GrowsByCount}
use Rattle.parallel_validate.specs.Verdicts.{IsEvaluated}
use Rattle.shape_model.proofs.Bridges.{makes_shape}
use Rattle.shape_model.specs.Readings.{reading}
use Rattle.shape_model.specs.Targets.{HasTarget}
use Rattle.change_laws.specs.Pairs.{IsCheckFootprint}

pub no_checks : (g s : List Triple) (net : List Change) → ((shape : Term) → IsShape s shape → ⊥) → (old : ℕ) → GrowsByCount (IsEvaluated g s net) old old
no_checks g s net none old = (
  0,
  record {
    items = [];
    apart = tt;
    members = λ e. (λ c. absurd (omega (arith, c.1)), λ t. absurd (none e.0 (makes_shape s e.0 t.0.0)));
    count = refl;
  },
  omega arith,
)

none_in : {X : Type 0} → (x : X) → Contains [] x → ⊥
none_in x c = absurd (omega (arith, c.1))

-- a check makes no look
pub no_looks : (g s : List Triple) (net : List Change) → ((shape : Term) → IsShape s shape → ⊥) → IsCheckFootprint g s net []
no_looks g s net none =
    let never : (shape : Term) → HasTarget (reading s shape) → ⊥ = λ shape t. none shape (makes_shape s shape t) in
    λ look. (λ c. absurd (none_in look c), elim [ inl f ↦ absurd (never f.0 f.1) | inr c ↦ absurd (never c.0 c.2.0) ])
