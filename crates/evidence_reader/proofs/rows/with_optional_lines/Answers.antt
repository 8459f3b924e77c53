use Rattle.evidence_reader.proofs.RowTexts.{terms_found}
use Rattle.evidence_reader.proofs.rows.with_optional_lines.Goals as goal

pub returns : goal.returns
returns c =
    terms_found c.args.head c.args.text.now c.in_ok-parameter.text.now c.in_ok-about.text.now c.in_ok-value.text.now c.in_ok-other.text.now c.in_ok-parameter.parameter c.in_ok-about.about c.in_ok-value.value c.in_ok-other.other c.in_ok-parameter.ensures c.in_ok-about.ensures c.in_ok-value.ensures c.in_ok-other.ensures
