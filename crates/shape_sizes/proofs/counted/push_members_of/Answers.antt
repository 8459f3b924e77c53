use Rattle.std.proofs.Common.{List, [], refl, subst, arith}
use Rattle.std.proofs.lemmas.List.{take_all}
use Rattle.rdf_model.specs.declared.term.Term.{Term}
use Rattle.shape_sizes.specs.Counted.{HasAdded}
use Rattle.shape_sizes.specs.Sizes.{AreMembersOf}
use Rattle.shape_sizes.proofs.Gathered.{added_none, members_next}
use Rattle.shape_sizes.proofs.counted.push_members_of.Goals as goal

pub loop-head-init : goal.loop-head-init
loop-head-init c = added_none (AreMembersOf c.args.graph.now []) c.args.nodes.now refl

pub loop-head-preserved : goal.loop-head-preserved
loop-head-preserved c = members_next c.args.graph.now c.args.heads.now c.loop-head.head-index c.head-item.result c.args.nodes.now c.loop-head.nodes c.push_members_at.new.nodes (omega arith) c.head-item.is c.loop-head.invariant c.in_ok-push_members_at.ensures

pub returns : goal.returns
returns c = subst (λ (xs : List Term). HasAdded (AreMembersOf c.args.graph.now xs) c.args.nodes.now c.loop-head.nodes) (take_all c.loop-head.head-index c.args.heads.now (omega arith)) c.loop-head.invariant
