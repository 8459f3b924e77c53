use Rattle.std.proofs.Common.{◌≡◌, string_bytes, take}
use Rattle.ntriples_text.specs.Writing.{written}
use Rattle.ntriples_text.proofs.writing.write.Given as goal

abbrev pub invariant-loop-triple : goal.invariant-loop-triple
invariant-loop-triple l = string_bytes l.text ≡ written (take l.triple-index l.triples)
