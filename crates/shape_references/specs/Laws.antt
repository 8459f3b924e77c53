-- What is promised of chains.
use Rattle.std.specs.Prelude.{◌↔◌, List, [], ◌∷◌, ◌++◌}
use Rattle.rdf_model.specs.declared.term.Term.{Term}
use Rattle.rdf_model.specs.declared.triple.Triple.{Triple}
use Rattle.shape_model.specs.Walks.{Chain as Steps}
use Rattle.shape_references.specs.Chains.{Chain, IsJoined}

-- A chain of references leads on as the steps of a repeated path do: through the nodes in turn, and to its end as the last.
abbrev pub ChainLaw : Type 0
ChainLaw = (g : List Triple) (a : Term) (ms : List Term) (b : Term) → Chain (IsJoined g) a ms b ↔ Steps (IsJoined g) a (ms ++ b ∷ []) b
