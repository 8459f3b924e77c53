use Rattle.std.proofs.Common.{[]}
use Rattle.std.proofs.lemmas.Result.{IfOk-weaker}
use Rattle.plain_terms.specs.Finds.{Finds}
use Rattle.plain_terms.proofs.FoundItems.{finds_at, finds_none}
use Rattle.plain_terms.specs.Relations.{Joins}
use Rattle.plain_terms.specs.Ways.{LeadsTo}
use Rattle.plain_terms.proofs.Found.{leads_found, leads_nowhere}
use Rattle.plain_terms.proofs.reading.path_values.Goals as goal

pub returns-in-Some : goal.returns-in-Some
returns-in-Some c =
    let g = c.args.graph.now in
    let s = c.args.shapes.now in
    let n = c.args.node.now in
    let x = c.args.focus.now in
    IfOk-weaker c.ends_of.result (λ ends. Finds (Joins c.in-Some.relation x) ends.items) (λ values. Finds (LeadsTo g s n x) values.items)
    (λ ends h. leads_found g s n x c.in-Some.relation (rw c.in-Some.is at c.in_ok-relation.ensures) ends.items h) c.ends_of.ensures

pub returns-in-None : goal.returns-in-None
returns-in-None c =
    let g = c.args.graph.now in
    let s = c.args.shapes.now in
    let n = c.args.node.now in
    let x = c.args.focus.now in
    finds_at (LeadsTo g s n x) [] c.new.result.items c.new.ensures.items (finds_none (LeadsTo g s n x) (λ y. leads_nowhere g s n x y (rw c.in-None.is at c.in_ok-relation.ensures)))
