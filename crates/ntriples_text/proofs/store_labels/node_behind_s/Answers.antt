use Rattle.std.proofs.Common.{None, sym, arith}
use Rattle.std.proofs.lemmas.Str.Pattern.{split_once_first}
use Rattle.ntriples_text.proofs.StoreLabels.{without_x}
use Rattle.ntriples_text.proofs.store_labels.node_behind_s.Goals as goal

pub returns-in-None : goal.returns-in-None
returns-in-None c = sym (without_x c.args.text.now (split_once_first 120 c.args.text.now None c.in-None.ensures.cases (omega arith)))
