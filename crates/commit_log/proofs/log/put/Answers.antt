use Rattle.std.proofs.Common.{◌∙◌, inl, inr}
use Rattle.commit_log.proofs.Puts.{put_failed, put_written, put_synced}
use Rattle.commit_log.proofs.log.put.Goals as goal

pub returns-in_err-write_at-clause-crash : goal.returns-in_err-write_at-clause-crash
returns-in_err-write_at-clause-crash g c tells durable =
    put_failed (g.D.Disk.history c.args.disk.now) (g.D.Disk.bytes c.args.disk.now) c.args.at c.args.piece.now durable
    (g.D.Disk.history c.write_at.new.self) (c.in_err-write_at.ensures.history tells)

pub returns-in_err-sync-clause-crash : goal.returns-in_err-sync-clause-crash
returns-in_err-sync-clause-crash g c tells durable =
    put_written (g.D.Disk.history c.args.disk.now) (g.D.Disk.bytes c.args.disk.now) c.args.at c.args.piece.now durable
    (g.D.Disk.history c.sync.new.self) (c.in_err-sync.ensures.history tells ∙ c.in_ok-write_at.ensures.history tells)

pub returns-clause-crash : goal.returns-clause-crash
returns-clause-crash g c tells durable =
    put_synced (g.D.Disk.history c.args.disk.now) (g.D.Disk.bytes c.args.disk.now) c.args.at c.args.piece.now durable
    (g.D.Disk.history c.write_at.new.self) (g.D.Disk.history c.sync.new.self) (g.D.Disk.bytes c.write_at.new.self)
    (c.in_ok-write_at.ensures.history tells) (c.in_ok-write_at.ensures.written tells) (c.in_ok-sync.ensures.history tells)

pub returns-in_err-write_at-clause-left : goal.returns-in_err-write_at-clause-left
returns-in_err-write_at-clause-left g c tells = inl (c.in_err-write_at.ensures.written tells)

pub returns-in_err-sync-clause-left : goal.returns-in_err-sync-clause-left
returns-in_err-sync-clause-left g c tells = inr (c.sync.ensures.bytes tells ∙ c.in_ok-write_at.ensures.written tells)

pub returns-clause-left : goal.returns-clause-left
returns-clause-left g c tells = inr (c.sync.ensures.bytes tells ∙ c.in_ok-write_at.ensures.written tells)
