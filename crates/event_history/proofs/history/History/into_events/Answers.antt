use Rattle.std.proofs.Common.{◌∙◌, ap}
use Rattle.event_history.specs.Named.{NamedHistory}
use Rattle.event_history.proofs.Telling.{all_told}
use Rattle.event_history.proofs.history.History.into_events.Goals as goal

pub returns : goal.returns
returns c =
    c.reverse.ensures.items ∙ all_told _ _ _ _ c.in-Ok.ensures.read c.events_back-events.ensures
    ∙ ap (λ (h : NamedHistory). h.events) c.self.view_is
