use Rattle.std.proofs.Common.{Option, subst, codes}
use Rattle.rdf_model.specs.declared.term.Term.{Term}
use Rattle.rdf_model.specs.declared.look.Look.{Look}
use Rattle.evidence_blocks.specs.BlockText.{look_text}
use Rattle.evidence_reader.specs.Finding.{FindsAlone, IsReadableAny, look_words}
use Rattle.evidence_reader.proofs.LookTexts.{any_is_look, any_lined, look_no_end}
use Rattle.evidence_reader.proofs.Splits.{found_in_line, none_in_line, not_in_line}
use Rattle.evidence_reader.proofs.looks.any_line.Goals as goal

pub returns-in_default-clause-look : goal.returns-in_default-clause-look
returns-in_default-clause-look c = none_in_line IsReadableAny look_text look_words (codes "any ") c.args.text.now any_lined (λ look r. look_no_end look (any_is_look look r)) c.in_default.ensures.line

pub returns-in-Some-2-clause-look : goal.returns-in-Some-2-clause-look
returns-in-Some-2-clause-look c =
    found_in_line IsReadableAny look_text look_words (codes "any ") c.args.text.now any_lined (λ look r. look_no_end look (any_is_look look r)) c.in-Some.word c.in-Some.rest c.in-Some.ensures.line c.in-Some-2.look
    (subst (λ (o : Option (Look Term)). FindsAlone IsReadableAny look_words c.in-Some.word.now o) c.in-Some-2.is c.in_ok-look.ensures)

pub returns-in-None-clause-look : goal.returns-in-None-clause-look
returns-in-None-clause-look c =
    not_in_line IsReadableAny look_text look_words (codes "any ") c.args.text.now any_lined (λ look r. look_no_end look (any_is_look look r)) c.in-Some.word c.in-Some.rest c.in-Some.ensures.line
    (subst (λ (o : Option (Look Term)). FindsAlone IsReadableAny look_words c.in-Some.word.now o) c.in-None.is c.in_ok-look.ensures)
