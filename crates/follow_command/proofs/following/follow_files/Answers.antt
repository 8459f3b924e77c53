use Rattle.std.proofs.Common.{string_bytes}
use Rattle.follow_command.proofs.Stopping.{texts_followed}
use Rattle.follow_command.proofs.following.follow_files.Goals as goal

pub returns : goal.returns
returns g c = λ refused.
    let h = c.in-Ok.ensures.answer refused in
    texts_followed (λ text. string_bytes text) c.follow_texts.result _ c.args.followed.now _ _ _ _ _ _ h.0 h.1 c.deref.ensures.value c.deref-2.ensures.value c.follow_texts.ensures
