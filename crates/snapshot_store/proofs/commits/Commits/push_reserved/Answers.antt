use Rattle.std.proofs.Common.{◌≡◌, ◌∙◌, Bool, List, [], ◌∷◌, ◌++◌, sym, ap, subst}
use Rattle.std.specs.Vec.{vec_capacity}
use Rattle.rdf_model.specs.declared.ids.Ids.{Ids}
use Rattle.snapshot_store.specs.declared.kept.KeptCommit.{KeptCommit}
use Rattle.snapshot_store.specs.Kept.{told}
use Rattle.event_history.specs.Named.{IsBeginning}
use Rattle.snapshot_store.specs.Named.{NamedCommits}
use Rattle.snapshot_store.proofs.Telling.{have_later, told_later}
use Rattle.snapshot_store.proofs.commits.Commits.push_reserved.Goals as goal

abbrev kept_of : List Ids → Bool → KeptCommit
kept_of changed staged = record { changed = changed; staged = staged }

pub invariant_of-self : goal.invariant_of-self
invariant_of-self c =
    let k = kept_of c.args.changed.items c.args.staged in
    let more = subst (λ (h : NamedCommits). IsBeginning h.names c.args.names.terms) (sym c.self.view_is) c.requires.more in
    let pushed = c.push_reserved.ensures.items ∙ ap (λ (ids : List Ids). c.self.inside.kept.items ++ kept_of ids c.args.staged ∷ []) c.from_vec.ensures in
    have_later c.self.inside.names.terms c.args.names.terms c.self.inside.kept.items c.push_reserved.new.self.items k more pushed c.self.invariant c.requires.numbered

pub returns : goal.returns
returns c =
    let k = kept_of c.args.changed.items c.args.staged in
    let more = subst (λ (h : NamedCommits). IsBeginning h.names c.args.names.terms) (sym c.self.view_is) c.requires.more in
    let pushed = c.push_reserved.ensures.items ∙ ap (λ (ids : List Ids). c.self.inside.kept.items ++ kept_of ids c.args.staged ∷ []) c.from_vec.ensures in
    let commits = told_later c.self.inside.names.terms c.args.names.terms c.self.inside.kept.items c.push_reserved.new.self.items k more pushed c.self.invariant
    ∙ ap (λ (h : NamedCommits). h.commits ++ told c.args.names.terms k ∷ []) c.self.view_is in
    let room : vec_capacity c.push_reserved.new.self ≡ c.args.self.now.room = c.push_reserved.ensures.capacity ∙ ap (λ (h : NamedCommits). h.room) c.self.view_is in
    λ i. record { commits = commits i; names = c.args.names.terms; room = room i }
