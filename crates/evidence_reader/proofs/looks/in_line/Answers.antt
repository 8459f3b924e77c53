use Rattle.std.proofs.Common.{Option, subst, codes}
use Rattle.rdf_model.specs.declared.term.Term.{Term}
use Rattle.rdf_model.specs.declared.look.Look.{Look}
use Rattle.evidence_blocks.specs.BlockText.{look_text}
use Rattle.evidence_reader.specs.Finding.{FindsAlone, IsReadableIn, look_words}
use Rattle.evidence_reader.proofs.LookTexts.{in_is_look, in_lined, look_no_end}
use Rattle.evidence_reader.proofs.Splits.{found_in_line, none_in_line, not_in_line}
use Rattle.evidence_reader.proofs.looks.in_line.Goals as goal

pub returns-in_default-clause-look : goal.returns-in_default-clause-look
returns-in_default-clause-look c = none_in_line IsReadableIn look_text look_words (codes "in ") c.args.text.now in_lined (λ look r. look_no_end look (in_is_look look r)) c.in_default.ensures.line

pub returns-in-Some-2-clause-look : goal.returns-in-Some-2-clause-look
returns-in-Some-2-clause-look c =
    found_in_line IsReadableIn look_text look_words (codes "in ") c.args.text.now in_lined (λ look r. look_no_end look (in_is_look look r)) c.in-Some.words c.in-Some.rest c.in-Some.ensures.line c.in-Some-2.look
    (subst (λ (o : Option (Look Term)). FindsAlone IsReadableIn look_words c.in-Some.words.now o) c.in-Some-2.is c.in_ok-look.ensures)

pub returns-in-None-clause-look : goal.returns-in-None-clause-look
returns-in-None-clause-look c =
    not_in_line IsReadableIn look_text look_words (codes "in ") c.args.text.now in_lined (λ look r. look_no_end look (in_is_look look r)) c.in-Some.words c.in-Some.rest c.in-Some.ensures.line
    (subst (λ (o : Option (Look Term)). FindsAlone IsReadableIn look_words c.in-Some.words.now o) c.in-None.is c.in_ok-look.ensures)
