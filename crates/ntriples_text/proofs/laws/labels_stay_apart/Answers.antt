use Rattle.ntriples_text.proofs.Numbers.{labels_apart}
use Rattle.ntriples_text.proofs.laws.labels_stay_apart.Goals as goal

pub returns : goal.returns
returns c = labels_apart
