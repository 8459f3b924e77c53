use Rattle.std.proofs.Common.{◌≡◌, ◌++◌, string_bytes, take}
use Rattle.std.specs.List.{flat_map}
use Rattle.record_text.specs.Records.{marked_line}
use Rattle.record_text.proofs.writing.write_lines.Given as goal

abbrev pub invariant-loop-triple : goal.invariant-loop-triple
invariant-loop-triple l = string_bytes l.text ≡ string_bytes l.fn.text ++ flat_map (marked_line l.mark) (take l.triple-index l.triples)
