use Rattle.std.proofs.Common.{[], arith}
use Rattle.rdf_model.specs.Graphs.{with_each}
use Rattle.session_reader.proofs.Readable.{block_readable, command_read}
use Rattle.session_reader.proofs.session_file.read_block.Goals as goal

pub accepted_block-requires : goal.accepted_block-requires
accepted_block-requires c =
    block_readable c.args.kind c.args.text.now c.args.session c.args.next.now c.read_kind.new.next (with_each [] c.in-Ok.table) c.in-Ok.ensures.reads c.requires.session.0 c.requires.session.1 c.requires.next (omega (arith, c.read_kind.ensures.room.1, c.requires.room))

pub returns-in-Ok-clause-command : goal.returns-in-Ok-clause-command
returns-in-Ok-clause-command c = command_read c.args.kind c.accepted_block.result _ (with_each [] c.in-Ok.table) c.args.next.now c.read_kind.new.next c.in-Ok.ensures.reads (c.accepted_block.ensures c.read_kind.new.next)
