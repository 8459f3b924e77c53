use Rattle.std.proofs.Common.{◌∙◌, [], ◌∷◌, ◌++◌, sym, ap, subst}
use Rattle.event_history.specs.declared.kept.KeptEvent.TheVariants.{Block}
use Rattle.event_history.specs.Kept.{told}
use Rattle.event_history.specs.Named.{IsBeginning, NamedHistory}
use Rattle.event_history.proofs.Telling.{have_later, told_later}
use Rattle.event_history.proofs.history.History.push_named.Goals as goal

pub invariant_of-self : goal.invariant_of-self
invariant_of-self c =
    let more = subst (λ (h : NamedHistory). IsBeginning h.names c.args.names.terms) (sym c.self.view_is) c.requires.more in
    have_later c.self.inside.names.terms c.args.names.terms c.self.inside.kept c.push.new.self (Block c.args.block) more c.push.ensures c.self.invariant c.requires.named

pub returns : goal.returns
returns c =
    let more = subst (λ (h : NamedHistory). IsBeginning h.names c.args.names.terms) (sym c.self.view_is) c.requires.more in
    let events = told_later c.self.inside.names.terms c.args.names.terms c.self.inside.kept c.push.new.self (Block c.args.block) more c.push.ensures c.self.invariant
    ∙ ap (λ (h : NamedHistory). h.events ++ told c.args.names.terms (Block c.args.block) ∷ []) c.self.view_is in
    λ i. record { events = events i; names = c.args.names.terms }
