-- What a check keeps stands for, by the terms of its numbers.
use Rattle.std.specs.Prelude.{ℕ, List, length, map}
use Rattle.std.specs.List.{All}
use Rattle.collections.specs.Ordered.{IsAscending}
use Rattle.rdf_model.specs.declared.term.Term.{Term}
use Rattle.rdf_model.specs.declared.triple.Triple.{Triple}
use Rattle.rdf_model.specs.declared.change.Change.{Change}
use Rattle.rdf_model.specs.declared.ids.Ids.{Ids}
use Rattle.rdf_model.specs.declared.look.Look.{Look}
use Rattle.rdf_model.specs.Graphs.{after}
use Rattle.rdf_model.specs.Numbers.{graph_of, term_at}
use Rattle.rdf_model.specs.Terms.{triple_cmp}
use Rattle.shape_model.specs.Agreement.{Agree}
use Rattle.shape_model.specs.Limits.{levels_limit}
use Rattle.shape_model.specs.Readings.{IsAcyclic, IsShallow}
use Rattle.shape_model.specs.Targets.{Target}
use Rattle.shape_model.specs.Touching.{Touched}
use Rattle.path_eval.specs.Naming.{IsBoundLook, look_of}
use Rattle.shape_ast.specs.declared.shape.Shape.{Shape}
use Rattle.shape_ast.specs.Readings.{named_shapes}
use Rattle.shape_ast.specs.Standing.{StandFor}
use Rattle.focus_affected.specs.Touched.{AreChanged}
use Rattle.change_laws.specs.Checks.{AreChecked, CheckedPair, SameMembers}
use Rattle.parallel_validate.specs.Counting.{GrowsByCount}
use Rattle.change_laws.specs.Pairs.{IsCheckFootprint}
use Rattle.parallel_validate.specs.declared.pairs.CheckedRows.{CheckedRows}
use Rattle.parallel_validate.specs.PairsResults.{pair_of, shape_at}

-- the pair and its results, read as terms
abbrev pub checked_pair : List Term → List (Shape ℕ) → CheckedRows → CheckedPair
checked_pair terms shapes c = record { shape = shape_at terms shapes (pair_of c); focus = term_at terms c.focus; rows = c.rows }

abbrev pub checked_pairs : List Term → List (Shape ℕ) → List CheckedRows → List CheckedPair
checked_pairs terms shapes checked = map (checked_pair terms shapes) checked

-- for each data graph with these triples before the changes, and with those after them, and each shapes graph that the shapes
-- stand for
abbrev pub WhereChecked : List Term → List Ids → List Ids → List (Shape ℕ) → List Ids → (List Triple → List Triple → List Change → Type 0) → Type 0
WhereChecked terms before later shapes changed P = (g s : List Triple) (net : List Change) → StandFor (named_shapes terms shapes) s → IsAcyclic s → IsShallow levels_limit s
    → IsAscending triple_cmp g → SameMembers (graph_of terms before) g → SameMembers (graph_of terms later) (after g net) → AreChanged terms changed net → P g s net

-- what was kept is what the changes of g touch, and what that gives
abbrev pub KeepsChecked : List Term → List (Shape ℕ) → List CheckedRows → List Triple → List Triple → List Change → Type 0
KeepsChecked terms shapes checked g s net = AreChecked g s net (checked_pairs terms shapes checked)

abbrev pub KeepsLooks : List Term → List (Look ℕ) → List Triple → List Triple → List Change → Type 0
KeepsLooks terms looks g s net = IsCheckFootprint g s net (map (look_of terms) looks)

-- each number of the looks has a term
abbrev pub AreBoundLooks : List Term → List (Look ℕ) → Type 0
AreBoundLooks terms looks = All (IsBoundLook (length terms)) looks

-- it stands for each graph that agrees with g on the looks
abbrev pub StandsBeside : List Term → List (Shape ℕ) → List CheckedRows → List (Look ℕ) → List Triple → List Triple → List Change → Type 0
StandsBeside terms shapes checked looks g s net = (k : List Triple) → IsAscending triple_cmp k → Agree g k (map (look_of terms) looks) → AreChecked k s net (checked_pairs terms shapes checked)

-- a pair that the changes touch, and that is one of a shape and its target after them
abbrev pub IsEvaluated : List Triple → List Triple → List Change → Term × Term → Type 0
IsEvaluated g s net e = Touched g s net e.0 e.1 × Target (after g net) s e.0 e.1

-- one step was counted for each touched pair that is a target after the changes
abbrev pub CountsEvaluated : ℕ → ℕ → List Triple → List Triple → List Change → Type 0
CountsEvaluated old new g s net = GrowsByCount (IsEvaluated g s net) old new
