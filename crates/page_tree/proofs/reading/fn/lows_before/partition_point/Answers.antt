use Rattle.std.proofs.Common.{◌∙◌, [], ◌∷◌, ap, refl}
use Rattle.std.specs.Ordering.{is_lt}
use Rattle.page_tree.specs.Blocks.{Block}
use Rattle.page_tree.proofs.reading.fn.lows_before.partition_point.Goals as goal

pub returns : goal.returns
returns g c = record {
  value = λ of ck. let p = (g.met.F.FnMut.1.post_iff _ _ _).0 c.order.ensures in c.is_lt.ensures ∙ ap is_lt (ck.at (_ ∷ []) c.order.result p.0 p.1).0 ∙ ap (λ (b : Block g.row.K.Denot). is_lt (of b.low)) c.entry.view_is;
  same = refl;
}
