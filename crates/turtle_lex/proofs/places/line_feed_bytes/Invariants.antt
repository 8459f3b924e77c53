use Rattle.std.proofs.Common.{◌≡◌, ◌≤◌, take}
use Rattle.turtle_lex.specs.Places.{line_feeds}
use Rattle.turtle_lex.proofs.places.line_feed_bytes.Given as goal

abbrev pub invariant-loop-byte : goal.invariant-loop-byte
invariant-loop-byte l = record {
  value : l.count ≡ line_feeds (take l.byte-index l.bytes);
  bound : l.count ≤ l.byte-index;
}
