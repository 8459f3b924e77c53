use Rattle.std.proofs.Common.{◌∙◌, List, map, sym, ap}
use Rattle.event_history.specs.declared.kept.KeptEvent.{KeptEvent}
use Rattle.event_history.specs.Kept.{told}
use Rattle.event_history.specs.Named.{NamedHistory}
use Rattle.event_history.specs.Replies.{newest_replied}
use Rattle.event_history.specs.Rows.{kept_events}
use Rattle.event_history.proofs.Telling.{newest_told}
use Rattle.event_history.proofs.history.History.newest_has.Goals as goal

pub returns-in-After : goal.returns-in-After
returns-in-After c =
    let names = c.self.inside.names.terms in
    let row = c.in-After.row.value in
    let replied = rw c.deref.ensures at c.has_reply.ensures in
    replied ∙ sym (newest_told names row.older row.event c.args.reply.now)
    ∙ ap (λ (ks : List KeptEvent). newest_replied (map (told names) ks) c.args.reply.now) (sym (ap kept_events c.in-After.is) ∙ ap (λ i. i.kept) c.self-inside.view_is)
    ∙ ap (λ (h : NamedHistory). newest_replied h.events c.args.reply.now) c.self.view_is
