use Rattle.std.proofs.Common.{List, [], ◌∷◌, ◌++◌, refl}
use Rattle.std.specs.Prelude.{◌↔◌}
use Rattle.rdf_model.specs.declared.term.Term.{Term}
use Rattle.shape_model.specs.Walks.{Chain as Steps}
use Rattle.shape_references.specs.Chains.{Chain, IsJoined}
use Rattle.shape_references.proofs.laws.chain_law.Goals as goal

leads : (R : Term → Term → Type 0) (a : Term) (ms : List Term) (b : Term) → Chain R a ms b ↔ Steps R a (ms ++ b ∷ []) b
leads R a [] b = (λ h. (h, refl), λ h. h.0)
leads R a (m ∷ ms) b = let rest = leads R m ms b in (λ h. (h.0, rest.0 h.1), λ h. (h.0, rest.1 h.1))

pub returns : goal.returns
returns c = λ g a ms b. leads (IsJoined g) a ms b
