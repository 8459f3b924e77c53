use Rattle.std.proofs.Common.{◌∙◌, subst, sym, arith}
use Rattle.std.proofs.lemmas.List.{get_or_default}
use Rattle.rdf_model.specs.declared.term.Term.TheVariants.{Iri}
use Rattle.rdf_model.specs.declared.triple.Triple.{Triple}
use Rattle.shape_syntax.specs.Scans.{IsAt}
use Rattle.shape_syntax.proofs.Ranges.{within_none, within_more}
use Rattle.shape_syntax.proofs.lookup.count_at.Goals as goal

pub returns-then-not-is_at-clause-end : goal.returns-then-not-is_at-clause-end
returns-then-not-is_at-clause-end c = λ t l e.
    let x = c.index-triples-count.result in
    let k = c.is_at.ensures.1 (subst (λ (y : Triple). IsAt c.args.node.now (Iri c.args.predicate.now) y) (sym (c.index-triples-count.is ∙ get_or_default c.args.triples.now c.loop-count.count x t l)) e) in
    cc

pub loop-count-init : goal.loop-count-init
loop-count-init c = within_none (λ (t : Triple). IsAt c.args.node.now (Iri c.args.predicate.now) t) c.args.triples.now

pub loop-count-preserved : goal.loop-count-preserved
loop-count-preserved c =
    within_more (λ (t : Triple). IsAt c.args.node.now (Iri c.args.predicate.now) t) c.args.triples.now c.loop-count.count c.index-triples-count.result c.loop-count-test.true c.index-triples-count.is
    (c.is_at.ensures.0 cc) c.loop-count.invariant

pub returns-clause-before : goal.returns-clause-before
returns-clause-before c = λ m d low high. c.loop-count.invariant m d low (omega arith)

pub returns-clause-end : goal.returns-clause-end
returns-clause-end c = λ t l. absurd (omega arith)
