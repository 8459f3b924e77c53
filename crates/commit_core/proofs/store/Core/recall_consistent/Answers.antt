use Rattle.std.proofs.Common.{subst}
use Rattle.store_model.specs.Store.{RecordedStore}
use Rattle.commit_core.specs.Consistent.{IsConsistent}
use Rattle.commit_core.proofs.store.Core.recall_consistent.Goals as goal

pub returns : goal.returns
returns c = subst (λ (s : RecordedStore). IsConsistent s) c.self.view_is c.self.invariant.0
