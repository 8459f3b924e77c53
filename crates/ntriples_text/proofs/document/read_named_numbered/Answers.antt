use Rattle.std.proofs.Common.{[]}
use Rattle.rdf_model.specs.Graphs.{with_each}
use Rattle.ntriples_text.proofs.Characters.{named_reading}
use Rattle.ntriples_text.proofs.document.read_named_numbered.Goals as goal

pub returns : goal.returns
returns c = named_reading (with_each []) c.read_by.result _ _ c.read_by.ensures.reads
