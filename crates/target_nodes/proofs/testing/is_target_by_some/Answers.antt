use Rattle.std.proofs.Common.{◌<◌, ℕ, List, [], length, get_or, arith, subst}
use Rattle.std.proofs.lemmas.List.{get_or_default, take_all}
use Rattle.rdf_model.specs.Numbers.{graph_of, term_at}
use Rattle.shape_ast.specs.declared.target.Target.{Target}
use Rattle.shape_ast.specs.declared.target.Target.TheVariants.{Node}
use Rattle.target_nodes.specs.Declarations.{DecidesBy, DecidesBySome, IsTargetBy}
use Rattle.target_nodes.specs.TargetNumbers.{IsDecidedBySome}
use Rattle.path_eval.proofs.Footprints.{looks_none, next_looks, none_before}
use Rattle.target_nodes.proofs.Looking.{next_answer}
use Rattle.target_nodes.proofs.testing.is_target_by_some.Goals as goal

pub loop-target-init : goal.loop-target-init
loop-target-init g c = record {
  decided = λ terms numbering numbered named bound lt at.
      let graph = graph_of terms (g.R.Triples.triples c.args.graph.now) in
      let f = term_at terms c.args.node in
      record {
        answered = (λ h. cc, λ k. absurd (none_before (λ t. IsTargetBy terms graph (term_at terms c.args.shape) t f) k));
        looks = looks_none terms (DecidesBySome terms graph [] f) (λ l. none_before (λ t. DecidesBy terms graph t f l)) c.args.footprint.now;
      };
  kept = λ look h. h;
}

pub loop-target-preserved : goal.loop-target-preserved
loop-target-preserved g c = record {
  decided = λ terms numbering numbered named bound lt at.
      let graph = graph_of terms (g.R.Triples.triples c.args.graph.now) in
      let f = term_at terms c.args.node in
      let i = c.loop-target.target-index in
      let ts = c.args.declared.now in
      let t = get_or ts i (Node 0) in
      let less : i < length ts = omega (arith, c.loop-target-test.true) in
      let is = get_or_default ts i (Node 0) t less in
      let before = c.loop-target.invariant.decided terms numbering numbered named bound lt at in
      let here = c.in_ok-more.ensures.decided terms numbering numbered named (bound i (Node 0) less) lt at in
      record {
        answered = next_answer (λ u. IsTargetBy terms graph (term_at terms c.args.shape) u f) ts i t less is c.loop-target.answer c.in_ok-more.more c.either-answer.result c.either-answer.ensures before.answered here.answered;
        looks = next_looks terms (λ u l. DecidesBy terms graph u f l) ts i t less is c.args.footprint.now c.loop-target.footprint c.is_target_by.new.footprint before.looks here.looks;
      };
  kept = λ look h. c.is_target_by.ensures.kept look (c.loop-target.invariant.kept look h);
}

pub returns-clause-decided : goal.returns-clause-decided
returns-clause-decided g c = λ terms numbering numbered named bound lt at.
    subst (λ (ts : List (Target ℕ)). IsDecidedBySome terms (g.R.Triples.triples c.args.graph.now) ts c.args.shape c.args.node c.loop-target.answer c.args.footprint.now c.loop-target.footprint)
    (take_all c.loop-target.target-index c.args.declared.now c.loop-target-test.false) (c.loop-target.invariant.decided terms numbering numbered named bound lt at)

pub returns-clause-kept : goal.returns-clause-kept
returns-clause-kept g c = c.loop-target.invariant.kept

pub returns-in_err-more-clause-kept : goal.returns-in_err-more-clause-kept
returns-in_err-more-clause-kept g c = λ look h. c.is_target_by.ensures.kept look (c.loop-target.invariant.kept look h)
