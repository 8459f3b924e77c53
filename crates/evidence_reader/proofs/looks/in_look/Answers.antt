use Rattle.evidence_reader.proofs.LookTexts.{in_alone, in_missing, in_not_spaced}
use Rattle.evidence_reader.proofs.looks.in_look.Goals as goal

pub returns-in_default : goal.returns-in_default
returns-in_default c = in_not_spaced c.args.words.now c.in_default.ensures

pub returns-in-Some-2 : goal.returns-in-Some-2
returns-in-Some-2 c = in_alone c.args.words.now c.in-Some.predicate.now c.in-Some.object.now c.in_ok-object.field-0 c.in-Some.ensures.0 c.in-Some.ensures.1 c.in_ok-object.ensures.sound c.in_ok-object.ensures.every c.in-Some-2.object c.in-Some-2.predicate c.in-Some-2.is

pub returns-in-None : goal.returns-in-None
returns-in-None c = in_missing c.args.words.now c.in-Some.predicate.now c.in-Some.object.now c.in_ok-object.field-0 c.in-Some.ensures.0 c.in-Some.ensures.1 c.in_ok-object.ensures.every c.in-None.is
