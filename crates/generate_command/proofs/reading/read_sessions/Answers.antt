use Rattle.std.proofs.Common.{◌≡◌, ◌+◌, ◌∷◌, [], ℕ, List, length, ap, sym, subst, arith, length-append}
use Rattle.session_reader.proofs.Checks.{grows_on}
use Rattle.session_reader.specs.SessionFile.{IsSession}
use Rattle.session_model.specs.declared.command.Command.{Command}
use Rattle.load_maker.specs.Workload.{workload}
use Rattle.generate_command.specs.Load.{AreSessions}
use Rattle.generate_command.proofs.Loading.{one_session_more}
use Rattle.generate_command.proofs.reading.read_sessions.Goals as goal

pub loop-before-preserved : goal.loop-before-preserved
loop-before-preserved g c =
    let i = c.loop-before.invariant in
    let n = c.args.n in
    let all = c.loop-before.all in
    let commands = c.in_ok-commands.commands in
    let here : 1 + length all ≡ c.loop-before.before + 1 = omega (arith, i.count) in
    let session = subst (λ (k : ℕ). IsSession k 1 (workload n k) commands (g.M.Maker.refused c.loop-before.maker) (g.M.Maker.refused c.read_session.new.maker)) (sym here) c.in_ok-commands.ensures.session in
    record {
      sessions = subst (λ (xs : List (List Command)). AreSessions n 1 xs (g.M.Maker.refused c.args.maker.now) (g.M.Maker.refused c.read_session.new.maker)) (sym c.in_ok-push.ensures.ok) (one_session_more n 1 all commands _ _ _ i.sessions session);
      count = omega (arith, ap length c.in_ok-push.ensures.ok, length-append all (commands ∷ []), i.count);
      refused = grows_on _ _ _ i.refused c.read_session.ensures.refused;
    }
