use Rattle.std.proofs.Common.{◌≡◌, ◌∙◌, Some, sym}
use Rattle.store_model.specs.Nodes.{unknown_by}
use Rattle.commit_core.specs.Naming.{first_of}
use Rattle.commit_core.proofs.Consistency.{consistent_unknown}
use Rattle.commit_core.proofs.store.Core.name.Goals as goal

pub invariant_of-self : goal.invariant_of-self
invariant_of-self c =
    let first : Some c.in-Some.node ≡ first_of (unknown_by c.args.kind c.self.inside.given c.args.terms.now) = sym c.in-Some.is ∙ c.in_ok-node.ensures in
    rw (c.push.ensures, c.in_ok-asked.ensures, c.in_ok-clone.ensures.cases) (consistent_unknown _ _ _ _ _ _ c.self.view_is c.requires first c.self.invariant.0, c.self.invariant.1, c.self.invariant.2)
