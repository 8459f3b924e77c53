use Rattle.std.proofs.Common.{◌≡◌, ◌++◌, ◌-◌, ◌≤◌, drop, string_bytes, take}
use Rattle.std.specs.List.{flat_map}
use Rattle.std.specs.Str.{IsCharBoundary}
use Rattle.report_writer.specs.EscapedBytes.{escaped_byte}
use Rattle.report_writer.proofs.terms.push_escaped.Given as goal

-- what is written, and what comes after it as it is, are the bytes so far as they stand within quotes
abbrev pub invariant-loop-i : goal.invariant-loop-i
invariant-loop-i l = record {
  within : l.written ≤ l.i;
  boundary : IsCharBoundary l.lexical l.written;
  bytes : string_bytes l.out ++ take (l.i - l.written) (drop l.written l.lexical) ≡ string_bytes l.fn.out ++ flat_map escaped_byte (take l.i l.lexical);
}
