use Rattle.std.proofs.Common.{◌≡◌, true, false, get_or}
use Rattle.rdf_model.specs.declared.term.Term.{Term}
use Rattle.shape_syntax.proofs.Loops.{gave_as, gave_none}
use Rattle.shape_references.proofs.chains.put_marked.Goals as goal

pub returns-then-is_marked : goal.returns-then-is_marked
returns-then-is_marked c = gave_as (λ (n : Term). c.args.triple.now.subject ≡ n) (λ (n : Term). (get_or c.args.marks.now c.args.index false ≡ true) × (c.args.triple.now.subject ≡ n)) c.args.nodes.now.keys c.put.new.nodes.keys
    (λ n. (λ h. ((let e = c.is_marked.ensures in let f = c.if-is_marked.true in cc), h), λ h. h.1)) c.in_ok-put.ensures

pub returns : goal.returns
returns c = gave_none (λ (n : Term). (get_or c.args.marks.now c.args.index false ≡ true) × (c.args.triple.now.subject ≡ n)) c.args.nodes.now.keys
    (λ n h. let e = c.is_marked.ensures in let f = c.if-is_marked.false in let k = h.0 in cc)
