use Rattle.std.proofs.Common.{◌∙◌, sym}
use Rattle.rdf_model.proofs.SameTerms.{same_equal}
use Rattle.rdf_model.proofs.Finding.{none_more, none_upto, read_at}
use Rattle.rdf_model.proofs.names.place_of.Goals as goal

pub returns-then-eq : goal.returns-then-eq
returns-then-eq c = (c.loop-place-test.true, read_at c.args.terms.now c.loop-place.place c.index-terms-place.result c.loop-place-test.true c.index-terms-place.is ∙ same_equal c.index-terms-place.result c.args.term.now (sym c.eq.ensures ∙ c.if-eq.true))

pub loop-place-preserved : goal.loop-place-preserved
loop-place-preserved c = none_more c.args.terms.now c.loop-place.place c.index-terms-place.result c.args.term.now c.loop-place-test.true c.index-terms-place.is (sym c.eq.ensures ∙ c.if-eq.false) c.loop-place.invariant

pub returns : goal.returns
returns c = none_upto c.args.terms.now c.loop-place.place c.args.term.now c.loop-place-test.false c.loop-place.invariant
