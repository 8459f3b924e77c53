use Rattle.std.proofs.Common.{◌<◌, ℕ, List, [], length, get_or, arith, subst}
use Rattle.std.proofs.lemmas.List.{get_or_default, take_all}
use Rattle.rdf_model.specs.Numbers.{graph_of, term_at}
use Rattle.shape_ast.specs.declared.target.Target.{Target}
use Rattle.shape_ast.specs.declared.target.Target.TheVariants.{Node}
use Rattle.target_nodes.specs.Declarations.{IsTargetBy, IsTargetBySome}
use Rattle.target_nodes.specs.TargetNumbers.{AreMembers}
use Rattle.path_eval.proofs.Footprints.{none_before}
use Rattle.target_nodes.proofs.Members.{members_none, next_members}
use Rattle.target_nodes.proofs.listing.all_targets.Goals as goal

pub loop-target-init : goal.loop-target-init
loop-target-init g c = λ terms numbering numbered named bound lt.
    members_none terms (IsTargetBySome terms (graph_of terms (g.R.Triples.triples c.args.graph.now)) (term_at terms c.args.shape) []) c.new-found.result.items c.new-found.ensures.items
    (λ f. none_before (λ t. IsTargetBy terms (graph_of terms (g.R.Triples.triples c.args.graph.now)) (term_at terms c.args.shape) t f))

pub loop-target-preserved : goal.loop-target-preserved
loop-target-preserved g c = λ terms numbering numbered named bound lt.
    let i = c.loop-target.target-index in
    let ts = c.args.declared.now in
    let t = get_or ts i (Node 0) in
    let less : i < length ts = omega (arith, c.loop-target-test.true) in
    let is = get_or_default ts i (Node 0) t less in
    next_members terms (IsTargetBy terms (graph_of terms (g.R.Triples.triples c.args.graph.now)) (term_at terms c.args.shape)) ts i t less is c.loop-target.found.items c.in_ok-more.more.items c.append.new.self.items
    c.in_ok-append.ensures.items (c.loop-target.invariant terms numbering numbered named bound lt)
    (c.in_ok-more.ensures terms numbering numbered named (bound i (Node 0) less) lt)

pub returns : goal.returns
returns g c = λ terms numbering numbered named bound lt.
    subst (λ (ts : List (Target ℕ)). AreMembers terms (IsTargetBySome terms (graph_of terms (g.R.Triples.triples c.args.graph.now)) (term_at terms c.args.shape) ts) c.loop-target.found.items)
    (take_all c.loop-target.target-index c.args.declared.now c.loop-target-test.false) (c.loop-target.invariant terms numbering numbered named bound lt)
