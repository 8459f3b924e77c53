-- What is found of pairs of a shape and a node, part by part.
use Rattle.std.specs.Prelude.{ℕ, List, []}
use Rattle.std.specs.List.{Contains}
use Rattle.rdf_model.specs.declared.term.Term.{Term}
use Rattle.rdf_model.specs.declared.triple.Triple.{Triple}
use Rattle.rdf_model.specs.declared.ids.Ids.{Ids}
use Rattle.rdf_model.specs.declared.look.Look.{Look}
use Rattle.rdf_model.specs.Numbers.{graph_of, term_at}
use Rattle.shape_model.specs.Limits.{levels_limit}
use Rattle.shape_model.specs.NodeLooks.{IsLook}
use Rattle.shape_model.specs.Readings.{IsAcyclic, IsShallow, reading}
use Rattle.shape_model.specs.ShapeLooks.{ResultLook, TargetLook}
use Rattle.shape_model.specs.Targets.{Target}
use Rattle.path_eval.specs.Naming.{AddsLooks}
use Rattle.shape_ast.specs.declared.shape.Shape.{Shape}
use Rattle.shape_ast.specs.Readings.{named_shapes}
use Rattle.shape_ast.specs.Standing.{StandFor}
use Rattle.parallel_validate.specs.PairsResults.{HaveRows, shape_at}
use Rattle.parallel_validate.specs.declared.pairs.CheckedRows.{CheckedRows}
use Rattle.threaded_check.specs.PermittedPairs.{pairs_in}
use Rattle.threaded_check.specs.declared.pairs.Found.{Found}
use Rattle.threaded_check.specs.declared.pairs.Share.{Share}

-- the looks that decide whether a node is a target of a shape, and those of its results where it is one
abbrev pub AimLook : List Triple → List Triple → Term → Term → Look Term → Type 0
AimLook h s shape f look = IsLook h (TargetLook (reading s shape)) f look

abbrev pub RowLook : List Triple → List Triple → Term → Term → Look Term → Type 0
RowLook h s shape f look = Target h s shape f × IsLook h (ResultLook s shape) f look

-- just the looks of each of the pairs have been added, for each shapes graph that the shapes stand for, in which no shape
-- refers to itself and no chain of references is too long
abbrev pub AddsOfPairs : (List Triple → Term → Term → Look Term → Type 0) → List Term → List (Shape ℕ) → List (ℕ × ℕ) → List (Look ℕ) → List (Look ℕ) → Type 0
AddsOfPairs Looks terms shapes pairs old new = (s : List Triple) → StandFor (named_shapes terms shapes) s → IsAcyclic s → IsShallow levels_limit s
    → AddsLooks terms (λ l. (e : ℕ × ℕ) × Contains pairs e × Looks s (shape_at terms shapes e) (term_at terms e.1) l) old new

abbrev pub AddsAimLooks : List Term → List Ids → List (Shape ℕ) → List (ℕ × ℕ) → List (Look ℕ) → List (Look ℕ) → Type 0
AddsAimLooks terms ids shapes = AddsOfPairs (AimLook (graph_of terms ids)) terms shapes

abbrev pub AddsRowLooks : List Term → List Ids → List (Shape ℕ) → List (ℕ × ℕ) → List (Look ℕ) → List (Look ℕ) → Type 0
AddsRowLooks terms ids shapes = AddsOfPairs (RowLook (graph_of terms ids)) terms shapes

-- the pairs in turn, each with its results, and just the looks of these
pub record AreFound (terms : List Term) (ids : List Ids) (shapes : List (Shape ℕ)) (pairs : List (ℕ × ℕ)) (checked : List CheckedRows) (made : List (Look ℕ)) : Type 0 where
  pub rows : HaveRows terms ids shapes pairs checked
  pub looks : AddsRowLooks terms ids shapes pairs [] made

-- they are found of the pairs of a share
abbrev pub IsFoundOf : List Term → List Ids → List (Shape ℕ) → Share → Found → Type 0
IsFoundOf terms ids shapes share found = AreFound terms ids shapes (pairs_in share.pairs.items) found.pairs.items found.looks
