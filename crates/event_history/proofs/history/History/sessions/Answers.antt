use Rattle.std.proofs.Common.{◌∙◌, map, reverse, ap}
use Rattle.std.proofs.lemmas.List.{reverse-reverse}
use Rattle.event_history.specs.Kept.{session_of}
use Rattle.event_history.specs.Named.{NamedHistory}
use Rattle.event_history.proofs.Telling.{sessions_told}
use Rattle.event_history.proofs.history.History.sessions.Goals as goal

pub returns : goal.returns
returns c =
    c.reverse.ensures.items ∙ ap reverse c.in_ok-sessions.ensures ∙ reverse-reverse (map session_of c.self.inside.kept) ∙ sessions_told c.self.inside.names.terms c.self.inside.kept
    ∙ ap (λ (h : NamedHistory). map (λ e. e.session) h.events) c.self.view_is
