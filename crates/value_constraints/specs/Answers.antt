-- Answers to value nodes, one for each in their order.
use Rattle.std.specs.Prelude.{◌≡◌, ◌↔◌, ◌<◌, ℕ, Bool, true, false, List, length}
use Rattle.std.specs.List.{Contains}
use Rattle.std.proofs.Common.{get_or}
use Rattle.rdf_model.specs.declared.term.Term.{Term}
use Rattle.shape_model.specs.Components.{Surroundings}
use Rattle.component_rows.specs.Listed.{at_nodes}
use Rattle.component_rows.specs.Nodes.{HasNode, IsAnswered}

-- surroundings in which a value node is an instance, of whatever class, where the answer to it is yes
abbrev pub answered_nodes : List Term → List ℕ → List Bool → Surroundings
answered_nodes terms values answers = record (at_nodes (HasNode terms values)) { instance = λ v c. IsAnswered terms values answers v }

-- the answers say which of the numbers are members
pub record AreAnswers (numbers members : List ℕ) (answers : List Bool) : Type 0 where
  pub as_many : length answers ≡ length numbers
  pub each : (i : ℕ) → i < length numbers → (get_or answers i false ≡ true) ↔ Contains members (get_or numbers i 0)
