use Rattle.ntriples_text.proofs.LabelLaws.{store_labels_written}
use Rattle.ntriples_text.proofs.laws.store_labels_are_written.Goals as goal

pub returns : goal.returns
returns c = store_labels_written
