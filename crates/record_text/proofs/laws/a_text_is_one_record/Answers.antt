use Rattle.record_text.proofs.Sections.{texts_apart}
use Rattle.record_text.proofs.laws.a_text_is_one_record.Goals as goal

pub returns : goal.returns
returns c = texts_apart
