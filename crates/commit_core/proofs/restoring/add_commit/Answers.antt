use Rattle.std.proofs.Common.{rules, ◌≡◌, ◌∙◌, List, [], ◌∷◌, ◌++◌, sym, ap, subst}
use Rattle.rdf_model.specs.declared.term.Term.{Term}
use Rattle.rdf_model.specs.Graphs.{with_each}
use Rattle.rdf_model.specs.Numbers.{AreNumbered, graph_of}
use Rattle.store_model.specs.declared.commit.Accepted.{Accepted}
use Rattle.store_model.specs.Store.{is_staged}
use Rattle.term_dict.specs.Names.{Named}
use Rattle.snapshot_store.specs.Named.{NamedCommits, commit_of}
use Rattle.commit_core.specs.Restored.{accepted_by}
use Rattle.commit_core.proofs.NamedTerms.{begins_same}
use Rattle.commit_core.proofs.RestoredParts.{recorded}
use Rattle.commit_core.proofs.restoring.add_commit.Goals as goal

pub push_reserved-requires-clause-more : goal.push_reserved-requires-clause-more
push_reserved-requires-clause-more c = begins_same c.make_room.new.self.names c.in_ok-share.share.terms (ap (λ (d : Named). d.terms) c.in_ok-share.ensures ∙ sym (c.make_room.ensures.same.1 ∙ c.requires.names))

pub push_reserved-requires-clause-numbered : goal.push_reserved-requires-clause-numbered
push_reserved-requires-clause-numbered c = subst (λ (ts : List Term). AreNumbered ts c.args.changed.items) (sym (ap (λ (d : Named). d.terms) c.in_ok-share.ensures)) c.requires.changed.0

pub returns : goal.returns
returns c =
    let names = ap (λ (d : Named). d.terms) c.in_ok-share.ensures in
    let ids = c.args.changed.items in
    let entry = c.args.entry.now in
    let staged : c.is_some.result ≡ is_staged entry.shapes = search rules in
    let changed : with_each [] (graph_of c.in_ok-share.share.terms ids) ≡ with_each entry.removed entry.added =
    ap (λ (ts : List Term). with_each [] (graph_of ts ids)) names ∙ recorded c.args.names.now.terms ids entry c.requires.removed c.requires.changed.1 in
    let commit : commit_of c.in_ok-share.share.terms ids c.is_some.result ≡ accepted_by entry = λ i. record { changed = changed i; staged = staged i } in (
      ap (λ (k : NamedCommits). k.commits) c.push_reserved.ensures ∙ ap (λ (as' : List Accepted). as' ++ commit_of c.in_ok-share.share.terms ids c.is_some.result ∷ []) c.make_room.ensures.same.0
          ∙ ap (λ (a : Accepted). c.args.commits.now.commits ++ a ∷ []) commit,
      ap (λ (k : NamedCommits). k.names) c.push_reserved.ensures ∙ names,
    )
