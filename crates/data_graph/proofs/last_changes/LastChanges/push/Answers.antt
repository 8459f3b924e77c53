use Rattle.std.proofs.Common.{◌++◌, [], ◌∷◌, subst, sym}
use Rattle.rdf_model.specs.declared.change.Change.{Change}
use Rattle.data_graph.specs.Finding.{AreLast}
use Rattle.data_graph.proofs.Laid.{last_added, last_removed, less, more}
use Rattle.data_graph.proofs.last_changes.LastChanges.push.Goals as goal

pub returns-in_ok-insert-in-Add : goal.returns-in_ok-insert-in-Add
returns-in_ok-insert-in-Add c =
    let old = c.args.self.now in
    let added = c.insert.new.self.keys in
    let removed = c.remove.new.self.keys in
    let u = c.in-Add.triple in
    λ net last. subst (λ (d : Change). AreLast (net ++ d ∷ []) added removed) (sym c.in-Add.is)
    (last_added net old.added.keys old.removed.keys added removed u last (more u old.added.keys added c.in_ok-insert-in-Add.ensures.updates.0) (less u old.removed.keys removed c.remove.ensures.updates.0))

pub returns-in_ok-insert-in-Remove : goal.returns-in_ok-insert-in-Remove
returns-in_ok-insert-in-Remove c =
    let old = c.args.self.now in
    let added = c.remove-in-Remove.new.self.keys in
    let removed = c.insert-in-Remove.new.self.keys in
    let u = c.in-Remove.triple in
    λ net last. subst (λ (d : Change). AreLast (net ++ d ∷ []) added removed) (sym c.in-Remove.is)
    (last_removed net old.added.keys old.removed.keys added removed u last (less u old.added.keys added c.remove-in-Remove.ensures.updates.0) (more u old.removed.keys removed c.in_ok-insert-in-Remove.ensures.updates.0))
