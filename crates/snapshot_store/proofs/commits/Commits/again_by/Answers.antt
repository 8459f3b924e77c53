use Rattle.std.proofs.Common.{◌≡◌, ◌∙◌, ◌+◌, ◌-◌, List, None, Option, drop, length, map, sym, take, ap}
use Rattle.rdf_model.specs.declared.look.Look.{Look}
use Rattle.rdf_model.specs.declared.term.Term.{Term}
use Rattle.store_model.specs.declared.commit.Accepted.{Accepted}
use Rattle.store_model.specs.declared.commit.Verdict.{Verdict}
use Rattle.store_model.specs.Store.{again, again_from}
use Rattle.snapshot_store.specs.Kept.{told}
use Rattle.snapshot_store.specs.Named.{NamedCommits}
use Rattle.snapshot_store.proofs.Telling.{told_after}
use Rattle.snapshot_store.proofs.commits.Commits.again_by.Goals as goal

pub returns-in_ok-why-in-Some : goal.returns-in_ok-why-in-Some
returns-in_ok-why-in-Some c =
    let v = c.in-Some.verdict in
    let names = c.self.inside.names.terms in
    let all = c.deref.result.now in
    let later = told_after names all c.self.inside.kept.items v.head c.deref.ensures.value in
    c.in_ok-why-in-Some.ensures ∙ ap (λ (ls : List (Look Term)). again_from (v.head + 1) ls (map (told names) (take (length all - v.head) (drop v.head all)))) c.as_slice-looks.ensures
    ∙ ap (λ (as' : List Accepted). again_from (v.head + 1) v.looks as') later ∙ ap (λ (s : NamedCommits). again_from (v.head + 1) v.looks (drop v.head s.commits)) c.self.view_is
    ∙ sym (ap (λ (o : Option Verdict). again c.args.self.now.commits None o) c.in-Some.is)
