use Rattle.std.proofs.Common.{◌∙◌}
use Rattle.commit_log.proofs.Puts.{not_synced, was_synced}
use Rattle.commit_log.proofs.log.read_all.Goals as goal

pub returns-in_err-sync-clause-crash : goal.returns-in_err-sync-clause-crash
returns-in_err-sync-clause-crash g c tells =
    not_synced (g.D.Disk.history c.args.disk.now) (g.D.Disk.history c.sync.new.self) (g.D.Disk.bytes c.args.disk.now) (c.in_err-sync.ensures.history tells)

pub returns-in_err-size-clause-crash : goal.returns-in_err-size-clause-crash
returns-in_err-size-clause-crash g c tells =
    was_synced (g.D.Disk.history c.args.disk.now) (g.D.Disk.history c.len.new.self) (g.D.Disk.bytes c.args.disk.now) (c.len.ensures.history tells ∙ c.in_ok-sync.ensures.history tells)

pub returns-in_err-bytes-clause-crash : goal.returns-in_err-bytes-clause-crash
returns-in_err-bytes-clause-crash g c tells =
    was_synced (g.D.Disk.history c.args.disk.now) (g.D.Disk.history c.read.new.self) (g.D.Disk.bytes c.args.disk.now) (c.read.ensures.history tells ∙ c.len.ensures.history tells ∙ c.in_ok-sync.ensures.history tells)

pub returns-clause-crash : goal.returns-clause-crash
returns-clause-crash g c tells =
    was_synced (g.D.Disk.history c.args.disk.now) (g.D.Disk.history c.read.new.self) (g.D.Disk.bytes c.args.disk.now) (c.read.ensures.history tells ∙ c.len.ensures.history tells ∙ c.in_ok-sync.ensures.history tells)
