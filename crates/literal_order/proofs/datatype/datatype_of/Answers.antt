use Rattle.std.proofs.Common.{false, codes, rules}
use Rattle.std.proofs.lemmas.Str.Pattern.{starts_text}
use Rattle.literal_order.specs.Datatypes.{datatype_of}
use Rattle.literal_order.proofs.datatype.datatype_of.Goals as goal

pub returns-in-None : goal.returns-in-None
unfolding datatype_of
returns-in-None c = search (rules, starts_text false (codes "http://www.w3.org/2001/XMLSchema#") c.args.iri.now c.in-None.ensures.cases)
