use Rattle.std.proofs.Common.{◌∙◌, ◌+◌, List, ap}
use Rattle.store_model.specs.declared.commit.Accepted.{Accepted}
use Rattle.store_model.specs.Store.{overtaker, overtaker_from}
use Rattle.snapshot_store.specs.Named.{NamedCommits}
use Rattle.snapshot_store.proofs.Telling.{told_after}
use Rattle.snapshot_store.proofs.commits.Commits.overtaker.Goals as goal

pub returns : goal.returns
returns c =
    let base = c.args.base in
    let ps = c.args.patterns.now in
    let later = told_after c.self.inside.names.terms c.deref.result.now c.self.inside.kept.items base c.deref.ensures.value in
    c.in_ok-found.ensures ∙ ap (λ (as' : List Accepted). overtaker_from (base + 1) ps as') later ∙ ap (λ (s : NamedCommits). overtaker s.commits base ps) c.self.view_is
