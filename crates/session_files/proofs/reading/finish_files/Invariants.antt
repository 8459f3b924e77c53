use Rattle.std.proofs.Common.{List, ◌++◌}
use Rattle.outside.specs.Faults.{Refusal}
use Rattle.session_model.specs.declared.command.Command.{Command}
use Rattle.session_reader.specs.Checking.{OnlyGrows}
use Rattle.session_files.specs.Reading.{AreFinished}
use Rattle.session_files.proofs.reading.finish_files.Given as goal

abbrev pub invariant-loop-file : goal.invariant-loop-file
invariant-loop-file g l = record {
  finished : (more : List (List Command)) (new : List Refusal) → AreFinished l.file-iterator.rest.items l.texts.items more (g.M.Maker.refused l.maker) new → AreFinished l.fn.prepared l.fn.read.items (l.all ++ more) (g.M.Maker.refused l.fn.maker) new;
  refused : OnlyGrows (g.M.Maker.refused l.fn.maker) (g.M.Maker.refused l.maker);
}
