use Rattle.std.proofs.Common.{◌∙◌, List, ◌++◌, ap, append-nil, subst, sym}
use Rattle.rdf_model.specs.declared.change.Change.{Change}
use Rattle.triple_index.specs.Changes.{change_at}
use Rattle.data_graph.specs.Finding.{AreLast}
use Rattle.data_graph.proofs.Laid.{asked_none, asked_one}
use Rattle.data_graph.proofs.asked.push_asked.Goals as goal

pub returns-in_ok-push : goal.returns-in_ok-push
returns-in_ok-push c =
    let p = c.args.pattern.now in
    let d = change_at c.args.terms.now c.args.change.now in
    let new = c.push.new.self in
    λ net last. subst (λ (cs : List Change). AreLast (net ++ cs) new.added.keys new.removed.keys) (asked_one p c.in_ok-copied_change.field-0 d c.in_ok-copied_change.ensures c.if-asks_for.ensures) (c.in_ok-push.ensures net last)

pub returns-else-asks_for : goal.returns-else-asks_for
returns-else-asks_for c =
    let p = c.args.pattern.now in
    let d = change_at c.args.terms.now c.args.change.now in
    let old = c.args.last.now in
    λ net last. subst (λ (cs : List Change). AreLast cs old.added.keys old.removed.keys) (sym (append-nil net) ∙ ap (λ (cs : List Change). net ++ cs) (asked_none p d c.if-asks_for.ensures)) last
