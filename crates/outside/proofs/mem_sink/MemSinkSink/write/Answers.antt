use Rattle.std.proofs.Common.{rules, arith, inl, inr}
use Rattle.std.proofs.lemmas.Bool.Decides.{nat_tests}
use Rattle.outside.proofs.mem_sink.MemSinkSink.write.Goals as goal
use Rattle.outside.proofs.mem_sink.MemSinkSink.write.Goals.{then-contains-via-then-contains, then-contains-via-else-contains+then-not-is_empty, then-left-eq0, else-left-eq0}

pub returns-then-contains-clause-gives : goal.returns-then-contains-clause-gives
returns-then-contains-clause-gives c = elim c.then-contains.branch [
  | then-contains-via-then-contains w ↦ (inl (search rules), search rules)
  | then-contains-via-else-contains+then-not-is_empty w ↦ elim w.if-left-eq0.branch [
    | then-left-eq0 w' ↦ (inr (search rules, grind (arith, nat_tests)), search rules)
    | else-left-eq0 w' ↦ absurd (grind (arith, nat_tests))
  ]
]
