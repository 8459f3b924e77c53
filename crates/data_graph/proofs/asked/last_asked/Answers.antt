use Rattle.std.proofs.Common.{◌≡◌, ◌∙◌, List, map, take, ap, arith, subst, sym, take_all}
use Rattle.rdf_model.specs.declared.change.Change.{Change}
use Rattle.triple_index.specs.declared.change.NumberedChange.{NumberedChange}
use Rattle.triple_index.specs.Changes.{change_at}
use Rattle.data_graph.specs.Finding.{AreLast, changes_asked}
use Rattle.data_graph.proofs.Laid.{asked_more}
use Rattle.data_graph.proofs.asked.last_asked.Goals as goal

pub loop-change-preserved : goal.loop-change-preserved
loop-change-preserved c =
    let p = c.args.pattern.now in
    let terms = c.parts.result.0.now in
    let changes = c.parts.result.1.now in
    let i = c.loop-change.change-index in
    let new = c.push_asked.new.last in
    subst (λ (cs : List Change). AreLast cs new.added.keys new.removed.keys) (sym (asked_more p terms changes i _ (omega arith))) (c.in_ok-push_asked.ensures (changes_asked p (map (change_at terms) (take i changes))) c.loop-change.invariant)

pub returns : goal.returns
returns c =
    let p = c.args.pattern.now in
    let terms = c.parts.result.0.now in
    let changes = c.parts.result.1.now in
    let i = c.loop-change.change-index in
    let last = c.loop-change.last in
    let all : take i changes ≡ changes = take_all i changes (omega arith) in
    subst (λ (cs : List Change). AreLast cs last.added.keys last.removed.keys) (ap (λ (cs : List NumberedChange). changes_asked p (map (change_at terms) cs)) all ∙ ap (changes_asked p) c.parts.ensures.changes) c.loop-change.invariant
