use Rattle.std.proofs.Common.{◌∙◌, rules, sym}
use Rattle.triple_table.proofs.KeyOrder.{are_bytes, key_short}
use Rattle.triple_table.proofs.keys.key_behind.Goals as goal

pub returns-in_default-clause-key : goal.returns-in_default-clause-key
returns-in_default-clause-key c = sym (key_short c.loop-byte.byte-index c.args.beginning.now c.loop-byte.rest.now c.loop-byte-test.true c.in_default.ensures.cases) ∙ c.loop-byte.invariant

pub returns-in_default-clause-bytes : goal.returns-in_default-clause-bytes
returns-in_default-clause-bytes c = are_bytes c.args.bytes.now (λ i. search (rules, c.type_inv.bytes i))

pub returns-in-Less-clause-bytes : goal.returns-in-Less-clause-bytes
returns-in-Less-clause-bytes c = are_bytes c.args.bytes.now (λ i. search (rules, c.type_inv.bytes i))

pub returns-in-Greater-clause-bytes : goal.returns-in-Greater-clause-bytes
returns-in-Greater-clause-bytes c = are_bytes c.args.bytes.now (λ i. search (rules, c.type_inv.bytes i))

pub returns-clause-bytes : goal.returns-clause-bytes
returns-clause-bytes c = are_bytes c.args.bytes.now (λ i. search (rules, c.type_inv.bytes i))
