use Rattle.std.proofs.Common.{◌≡◌, ◌++◌}
use Rattle.std.specs.Prelude.{map}
use Rattle.session_files.specs.Reading.{prepared_of, texts_of}
use Rattle.session_files.proofs.reading.take_texts.Given as goal

abbrev pub invariant-loop-file : goal.invariant-loop-file
invariant-loop-file l = record {
  prepared : l.prepared ++ map prepared_of l.file-iterator.rest.items ≡ map prepared_of l.fn.files;
  texts : l.texts ++ texts_of l.file-iterator.rest.items ≡ texts_of l.fn.files;
}
