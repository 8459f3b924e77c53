use Rattle.std.proofs.Common.{◌-◌, get_or, ap}
use Rattle.session_player.specs.Players.{Player}
use Rattle.session_player.proofs.Seats.{place_of_event, place_of_opening}
use Rattle.session_player.proofs.replay.take_place.Goals as goal

pub returns-then-session-opened-clause-taken : goal.returns-then-session-opened-clause-taken
returns-then-session-opened-clause-taken g c =
    let s = c.in_ok-open_next.ensures in
    (place_of_opening s.0 c.args.session c.args.opened.now _ _ c.args.players.now c.requires.ready c.if-session-opened.true c.requires.opened c.if-session-players.false s.1).0

pub returns-clause-taken : goal.returns-clause-taken
returns-clause-taken g c =
    let there : Player = get_or c.args.players.now (c.args.session - 1) c.index-players-session.result in
    let is = ap (λ (d : Player). get_or c.args.players.now (c.args.session - 1) d) c.index-players-session.is in
    place_of_event c.args.session c.args.core.now c.take_event.new.core c.args.players.now there c.take_event.new.self c.take_event.result c.requires.ready c.if-session-eq0.false (rw c.requires.opened at c.if-session-opened-2.false) is c.take_event.ensures
