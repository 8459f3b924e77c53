-- What is known of chains while the nodes of a graph are asked in turn.
use Rattle.std.specs.Prelude.{◌≡◌, ◌⊎◌, ◌≤◌, ◌++◌, ◌∷◌, [], ℕ, List, length}
use Rattle.std.specs.List.{Contains}
use Rattle.rdf_model.specs.declared.term.Term.{Term}
use Rattle.rdf_model.specs.declared.triple.Triple.{Triple}
use Rattle.shape_syntax.specs.PathSteps.{Adds}
use Rattle.shape_syntax.specs.Subjects.{IsSubject}
use Rattle.shape_references.specs.Chains.{IsJoined, LeadsTo}

-- each subject of a triple is among the nodes
abbrev pub ArePending : List Triple → List Term → Type 0
ArePending g nodes = (n : Term) → IsSubject g n → Contains nodes n

-- from each of the nodes a chain leads to the goal
abbrev pub AreLeading : List Triple → Term → List Term → Type 0
AreLeading g goal nodes = (a : Term) → Contains nodes a → LeadsTo (IsJoined g) a goal

-- the node refers to the goal, or to one from which a chain is known to lead to the goal
abbrev pub Shows : List Triple → Term → List Term → Term → Type 0
Shows g goal known n = (b : Term) × IsJoined g n b × ((b ≡ goal) ⊎ Contains known b)

-- A node was asked: a chain leads from it and it is known now, or that isn't shown and it is left.
abbrev pub WasAsked : List Triple → Term → Term → List Term → List Term → List Term → List Term → Type 0
WasAsked g goal n known new left new_left =
    (Shows g goal known n × Adds known n new × (new_left ≡ left))
    ⊎ ((Shows g goal known n → ⊥) × (new ≡ known) × (new_left ≡ left ++ n ∷ []))

-- So many nodes were asked, in turn.
pub record WereAsked (g : List Triple) (goal : Term) (n : ℕ) (asked known new left : List Term) : Type 0 where
  pub sound : AreLeading g goal known → AreLeading g goal new
  pub kept : (a : Term) → Contains known a → Contains new a
  pub each : (a : Term) → Contains asked a → Contains new a ⊎ Contains left a
  pub fewer : length left ≤ n
  -- where all are left, none was shown
  pub still : length left ≡ n → (new ≡ known) × ((a : Term) → Contains asked a → Shows g goal known a → ⊥)
