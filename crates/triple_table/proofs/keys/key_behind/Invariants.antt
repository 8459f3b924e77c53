use Rattle.std.proofs.Common.{◌≡◌, drop}
use Rattle.triple_table.specs.Keys.{text_key}
use Rattle.triple_table.proofs.keys.key_behind.Given as goal

abbrev pub invariant-loop-byte : goal.invariant-loop-byte
invariant-loop-byte l = text_key (drop l.byte-index l.beginning) l.rest ≡ text_key l.beginning l.bytes
