use Rattle.std.proofs.Common.{List, Bor, sym, ap, subst}
use Rattle.std.specs.List.{Contains}
use Rattle.record_text.specs.declared.record.Record.{Record}
use Rattle.follower.specs.Followed.{Followed}
use Rattle.follower.proofs.Placed.{under_either}
use Rattle.follower.proofs.following.Follower.under.Goals as goal

pub returns-in-None : goal.returns-in-None
returns-in-None c =
    under_either (λ (b : Bor Record). b.now) c.kept_under.result c.args.self.now c.self.inside.applied.items c.self.inside.kept.items c.args.number
    (ap (λ (s : Followed). s.applied) (sym c.self.view_is)) (ap (λ (s : Followed). s.kept) (sym c.self.view_is))
    (λ other d. c.in-None.ensures other (subst (λ (rs : List Record). Contains rs other) (sym c.deref.ensures.value) d))
    (rw c.deref-in-None.ensures.value at c.kept_under.ensures)
