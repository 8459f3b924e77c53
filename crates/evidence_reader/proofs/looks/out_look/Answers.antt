use Rattle.evidence_reader.proofs.LookTexts.{out_alone, out_missing, out_not_spaced}
use Rattle.evidence_reader.proofs.looks.out_look.Goals as goal

pub returns-in_default : goal.returns-in_default
returns-in_default c = out_not_spaced c.args.words.now c.in_default.ensures

pub returns-in-Some-2 : goal.returns-in-Some-2
returns-in-Some-2 c = out_alone c.args.words.now c.in-Some.subject.now c.in-Some.predicate.now c.in_ok-subject.field-0 c.in-Some.ensures.0 c.in-Some.ensures.1 c.in_ok-subject.ensures.sound c.in_ok-subject.ensures.every c.in-Some-2.subject c.in-Some-2.predicate c.in-Some-2.is

pub returns-in-None : goal.returns-in-None
returns-in-None c = out_missing c.args.words.now c.in-Some.subject.now c.in-Some.predicate.now c.in_ok-subject.field-0 c.in-Some.ensures.0 c.in-Some.ensures.1 c.in_ok-subject.ensures.every c.in-None.is
