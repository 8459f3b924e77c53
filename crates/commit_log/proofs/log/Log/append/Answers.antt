use Rattle.std.proofs.Common.{◌≡◌, ℕ, ◌+◌, ◌++◌, List, [], ◌∷◌, false, length, sym, ◌∙◌, ap, subst, arith}
use Rattle.disk.specs.Crashes.{EachCrash, Throughout}
use Rattle.disk.proofs.Moments.{weaker}
use Rattle.record_text.specs.declared.record.Record.{Record}
use Rattle.record_text.specs.Records.{record_text}
use Rattle.commit_log.specs.Format.{Opens}
use Rattle.commit_log.specs.Log.{LogState, IsSettled, OpensOneOf}
use Rattle.commit_log.proofs.Logs.{durable_stays, as_opens}
use Rattle.commit_log.proofs.Appends.{done}
use Rattle.commit_log.proofs.Records.{leaves_one, opens_more}
use Rattle.commit_log.proofs.log.Log.append.Goals as goal

pub returns-in-Err-clause-crash : goal.returns-in-Err-clause-crash
returns-in-Err-clause-crash g c =
    subst (λ (s : LogState g.row.D.Denot). g.D.Disk.tells → s.closed ≡ false → (records : List Record) → Opens (g.D.Disk.bytes s.disk) records →
    Throughout (g.D.Disk.history s.disk) (g.D.Disk.history c.enter.new.disk) (OpensOneOf records c.args.next.now)) c.self.view_is
    (λ tells shut records o.
    let is = c.self.invariant.is_settled shut tells in
    let piece_is = c.deref.ensures.value ∙ c.in_ok-piece.ensures.piece in
    let number = c.requires.number ∙ sym (ap (λ (s : LogState g.row.D.Denot). s.count + 1) c.self.view_is) in
    weaker _ _ (leaves_one _ _ _ _ is records o c.args.next.now c.deref.result.now number c.requires.readable piece_is c.in_ok-piece.ensures.size) _ _ (c.enter.ensures.crash tells is.durable))

pub returns-in-Err-clause-left : goal.returns-in-Err-clause-left
returns-in-Err-clause-left g c =
    subst (λ (s : LogState g.row.D.Denot). g.D.Disk.tells → s.closed ≡ false → (records : List Record) → Opens (g.D.Disk.bytes s.disk) records →
    OpensOneOf records c.args.next.now (g.D.Disk.bytes c.enter.new.disk)) c.self.view_is
    (λ tells shut records o.
    let is = c.self.invariant.is_settled shut tells in
    let piece_is = c.deref.ensures.value ∙ c.in_ok-piece.ensures.piece in
    let number = c.requires.number ∙ sym (ap (λ (s : LogState g.row.D.Denot). s.count + 1) c.self.view_is) in
    leaves_one _ _ _ _ is records o c.args.next.now c.deref.result.now number c.requires.readable piece_is c.in_ok-piece.ensures.size _ (c.enter.ensures.left tells))

pub invariant_of-self-in-Ok : goal.invariant_of-self-in-Ok
invariant_of-self-in-Ok g c =
    let size : c.len.result ≡ length c.deref.result.now = c.len.ensures ∙ sym c.deref.ensures.len in
    record {
      bound = omega (arith, size, c.in-Ok.ensures.bound);
      is_settled = λ shut tells.
          let is = c.self.invariant.is_settled c.if-self.false tells in
          let piece_is = c.deref.ensures.value ∙ c.in_ok-piece.ensures.piece in
          let number = c.requires.number ∙ sym (ap (λ (s : LogState g.row.D.Denot). s.count + 1) c.self.view_is) in
          subst (λ (k : ℕ). IsSettled (g.D.Disk.bytes c.enter.new.disk) (g.D.Disk.history c.enter.new.disk).now (c.self.inside.end + c.len.result) k) (sym number)
          (subst (λ (n : ℕ). IsSettled (g.D.Disk.bytes c.enter.new.disk) (g.D.Disk.history c.enter.new.disk).now (c.self.inside.end + n) (c.self.inside.count + 1)) (sym size)
          (done _ _ _ _ is _ (as_opens _ _ _ _ is) (record_text c.args.next.now) c.deref.result.now piece_is _ _ (c.in-Ok.ensures.bytes tells) (c.in-Ok.ensures.durable tells) c.in_ok-piece.ensures.size));
    }

pub returns-clause-crash : goal.returns-clause-crash
returns-clause-crash g c =
    subst (λ (s : LogState g.row.D.Denot). g.D.Disk.tells → s.closed ≡ false → (records : List Record) → Opens (g.D.Disk.bytes s.disk) records →
    Throughout (g.D.Disk.history s.disk) (g.D.Disk.history c.enter.new.disk) (OpensOneOf records c.args.next.now)) c.self.view_is
    (λ tells shut records o.
    let is = c.self.invariant.is_settled shut tells in
    let piece_is = c.deref.ensures.value ∙ c.in_ok-piece.ensures.piece in
    let number = c.requires.number ∙ sym (ap (λ (s : LogState g.row.D.Denot). s.count + 1) c.self.view_is) in
    weaker _ _ (leaves_one _ _ _ _ is records o c.args.next.now c.deref.result.now number c.requires.readable piece_is c.in_ok-piece.ensures.size) _ _ (c.enter.ensures.crash tells is.durable))

pub returns-clause-left : goal.returns-clause-left
returns-clause-left g c =
    subst (λ (s : LogState g.row.D.Denot). g.D.Disk.tells → s.closed ≡ false → (records : List Record) → Opens (g.D.Disk.bytes s.disk) records →
    OpensOneOf records c.args.next.now (g.D.Disk.bytes c.enter.new.disk)) c.self.view_is
    (λ tells shut records o.
    let is = c.self.invariant.is_settled shut tells in
    let piece_is = c.deref.ensures.value ∙ c.in_ok-piece.ensures.piece in
    let number = c.requires.number ∙ sym (ap (λ (s : LogState g.row.D.Denot). s.count + 1) c.self.view_is) in
    leaves_one _ _ _ _ is records o c.args.next.now c.deref.result.now number c.requires.readable piece_is c.in_ok-piece.ensures.size _ (c.enter.ensures.left tells))

pub returns-clause-durable : goal.returns-clause-durable
returns-clause-durable g c =
    subst (λ (s : LogState g.row.D.Denot). g.D.Disk.tells → (records : List Record) → Opens (g.D.Disk.bytes s.disk) records →
    EachCrash (λ image. Opens image (records ++ c.args.next.now ∷ [])) (g.D.Disk.history c.enter.new.disk).now × Opens (g.D.Disk.bytes c.enter.new.disk) (records ++ c.args.next.now ∷ [])) c.self.view_is
    (λ tells records o.
    let is = c.self.invariant.is_settled c.if-self.false tells in
    let piece_is = c.deref.ensures.value ∙ c.in_ok-piece.ensures.piece in
    let number = c.requires.number ∙ sym (ap (λ (s : LogState g.row.D.Denot). s.count + 1) c.self.view_is) in
    let more = opens_more _ _ _ _ is records o c.args.next.now c.deref.result.now number c.requires.readable piece_is c.in_ok-piece.ensures.size _ (c.in-Ok.ensures.bytes tells) in
    (durable_stays (λ image. Opens image (records ++ c.args.next.now ∷ [])) _ _ (c.in-Ok.ensures.durable tells) more, more))
