use Rattle.std.proofs.Common.{◌∙◌, subst, arith}
use Rattle.std.proofs.lemmas.List.{get_or_default}
use Rattle.rdf_model.specs.declared.term.Term.TheVariants.{Iri}
use Rattle.rdf_model.specs.declared.triple.Triple.{Triple}
use Rattle.shape_syntax.specs.Scans.{IsAt}
use Rattle.shape_syntax.proofs.Ranges.{within_none, within_more}
use Rattle.shape_syntax.proofs.lookup.count_before.Goals as goal

pub returns-then-is_at-clause-here : goal.returns-then-is_at-clause-here
returns-then-is_at-clause-here c = λ t l.
    let x = c.index-triples-count.result in
    subst (λ (y : Triple). IsAt c.args.node.now (Iri c.args.predicate.now) y) (c.index-triples-count.is ∙ get_or_default c.args.triples.now c.loop-count.count x t l) (c.is_at.ensures.0 c.if-is_at.true)

pub loop-count-init : goal.loop-count-init
loop-count-init c = within_none (λ (t : Triple). IsAt c.args.node.now (Iri c.args.predicate.now) t → ⊥) c.args.triples.now

pub loop-count-preserved : goal.loop-count-preserved
loop-count-preserved c =
    within_more (λ (t : Triple). IsAt c.args.node.now (Iri c.args.predicate.now) t → ⊥) c.args.triples.now c.loop-count.count c.index-triples-count.result c.loop-count-test.true c.index-triples-count.is
    (λ e. let k = c.is_at.ensures.1 e in cc) c.loop-count.invariant

pub returns-clause-before : goal.returns-clause-before
returns-clause-before c = λ m d low high. c.loop-count.invariant m d low (omega arith)

pub returns-clause-here : goal.returns-clause-here
returns-clause-here c = λ t l. absurd (omega arith)
