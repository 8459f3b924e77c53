-- A shapes graph without shapes gives no result.
use Rattle.std.proofs.Common.{◌≡◌, ℕ, List, [], ◌∷◌, refl, arith}
use Rattle.std.specs.List.{Contains}
use Rattle.collections.proofs.Members.{has_head}
use Rattle.rdf_model.specs.declared.term.Term.{Term}
use Rattle.rdf_model.specs.declared.triple.Triple.{Triple}
use Rattle.shape_model.specs.declared.result_row.ResultRow.{ResultRow}
use Rattle.shape_model.specs.ShapeSyntax.{IsShape}
use Rattle.shape_model.specs.Validation.{IsResult, Listing}
use Rattle.shape_model.proofs.Bridges.{makes_shape}
use Rattle.shape_model.proofs.Covers.{has_target}
use Rattle.shape_ast.specs.declared.shape.Shape.{Shape}
use Rattle.shape_ast.specs.Readings.{ReadShape, read_shapes}
use Rattle.shape_ast.specs.Standing.{StandFor}
use Rattle.parallel_validate.specs.Counting.{GrowsByCount, IsTargetPair}

none_in : {X : Type 0} → (x : X) → Contains [] x → ⊥
none_in x c = absurd (omega arith)

-- where nothing is compiled there are none, and where there are none nothing is
pub none_stand : (s : List Triple) → StandFor [] s → (shape : Term) → IsShape s shape → ⊥
none_stand s stand shape i = let c = stand.all shape i in none_in c.0 c.1

none_read : (s : List Triple) (shapes : List ReadShape) → StandFor shapes s → ((shape : Term) → IsShape s shape → ⊥) → shapes ≡ []
none_read s [] stand none = refl
none_read s (c ∷ cs) stand none = absurd (none c.node (stand.are_shapes c (has_head c cs)))

pub none_compiled : (s : List Triple) (shapes : List (Shape Term)) → StandFor (read_shapes shapes) s → ((shape : Term) → IsShape s shape → ⊥) → shapes ≡ []
none_compiled s [] stand none = refl
none_compiled s (c ∷ cs) stand none = let e = none_read s (read_shapes (c ∷ cs)) stand none in cc

no_result : (g s : List Triple) → ((shape : Term) → IsShape s shape → ⊥) → (r : ResultRow) → IsResult g s r → ⊥
no_result g s none r i = none i.0 (makes_shape s i.0 (has_target g s i.0 i.1 i.2))

pub no_shapes : (g s : List Triple) → ((shape : Term) → IsShape s shape → ⊥) → Listing g s []
no_shapes g s none = record { ascending = tt; members = λ r. (λ c. absurd (none_in r c), λ i. absurd (no_result g s none r i)) }

-- nor is a node a target of a shape
pub no_pairs : (g s : List Triple) → ((shape : Term) → IsShape s shape → ⊥) → (old : ℕ) → GrowsByCount (IsTargetPair g s) old old
no_pairs g s none old = (
  0,
  record {
    items = [];
    apart = tt;
    members = λ e. (λ c. absurd (none_in e c), λ t. absurd (none e.0 (makes_shape s e.0 (has_target g s e.0 e.1 t))));
    count = refl;
  },
  omega arith,
)
