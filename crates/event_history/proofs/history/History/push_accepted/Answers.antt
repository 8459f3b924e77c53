use Rattle.std.proofs.Common.{◌∙◌, [], ◌∷◌, ◌++◌, ap, subst, sym}
use Rattle.std.specs.List.{AllByRecursion}
use Rattle.triple_index.specs.Changes.{IsNumberedChange}
use Rattle.event_history.specs.declared.kept.KeptEvent.TheVariants.{Accepted}
use Rattle.event_history.specs.Named.{NamedHistory, accepted_commit, net_at}
use Rattle.event_history.proofs.Telling.{have_pushed, told_pushed}
use Rattle.event_history.proofs.history.History.push_accepted.Goals as goal

pub invariant_of-self : goal.invariant_of-self
invariant_of-self c = have_pushed _ _ _ _ c.push.ensures c.self.invariant (subst (λ (h : NamedHistory). AllByRecursion (IsNumberedChange h.names) c.args.commit.net) (sym c.self.view_is) c.requires)

pub returns : goal.returns
returns c =
    let names = c.self.inside.names.terms in
    let commit = c.args.commit in
    let events = told_pushed names c.self.inside.kept c.push.new.self (Accepted commit) c.push.ensures in
    (λ i. record { events = events i; names = names })
    ∙ ap (λ (h : NamedHistory). record { events = h.events ++ accepted_commit commit (net_at h.names commit.net) ∷ []; names = h.names }) c.self.view_is
