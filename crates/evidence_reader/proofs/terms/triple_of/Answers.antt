use Rattle.std.proofs.Common.{◌≡◌, length, rules}
use Rattle.std.specs.Prelude.{vec_len}
use Rattle.ntriples_text.specs.Document.{reads_named}
use Rattle.evidence_reader.proofs.Spelled.{last_read, none_read, refused}
use Rattle.evidence_reader.proofs.terms.triple_of.Goals as goal

pub returns-in-Ok : goal.returns-in-Ok
returns-in-Ok c =
    let items = c.into_vec.result.items in
    let count : vec_len c.into_vec.result ≡ length items = search rules in
    last_read c.args.line.now c.in-Ok.triples items c.pop.new.self.items c.pop.result (vec_len c.into_vec.result) c.in-Ok.ensures c.into_vec.ensures count c.pop.ensures.items c.pop.ensures.value

pub returns-in-Err-Refusal : goal.returns-in-Err-Refusal
returns-in-Err-Refusal c = none_read c.args.line.now (refused (reads_named c.args.line.now) c.in-Err-Refusal.field-0 c.in-Err-Refusal.field-0-0 c.in-Err-Refusal.field-0-1 c.in-Err-Refusal.field-0-is c.in-Err-Refusal.ensures)
