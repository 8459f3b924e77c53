use Rattle.std.proofs.Common.{◌≡◌, ◌∙◌, ◌+◌, ◌*◌, ◌/◌, ◌%◌, ◌<◌, ℕ, List, Vec, Global, length, sym, refl, ap, arith}
use Rattle.std.proofs.lemmas.Bool.{ltb-false, ltb-true}
use Rattle.std.proofs.lemmas.Option.{slice_get_read}
use Rattle.growing_list.proofs.Filled.{none_at, some_at}
use Rattle.growing_list.proofs.block.Block.get.Goals as goal

below : (n : ℕ) → n % 64 < 64
below n = omega arith

placed : (n : ℕ) → n / 64 * 64 + n % 64 ≡ n
placed n = omega arith

pub returns-in-None : goal.returns-in-None
returns-in-None g c =
    let read = c.deref-2.result.now in
    none_at 64 _ read _ (c.args.at / 64) (c.args.at % 64) c.args.at c.self.invariant.0 c.self.view_is (c.deref-2.ensures.value ∙ ap (λ (v : Vec (List g.row.T.Denot) Global). v.items) c.deref.ensures) (placed c.args.at)
    (ltb-false (c.args.at / 64) (length read) (sym c.in-None.ensures.lookup.0))

pub returns-in-Some : goal.returns-in-Some
returns-in-Some g c =
    let read = c.deref-2.result.now in
    let chunk = c.in-Some.chunk.now in
    some_at 64 _ read _ (c.args.at / 64) (c.args.at % 64) c.args.at c.self.invariant.0 c.self.view_is (c.deref-2.ensures.value ∙ ap (λ (v : Vec (List g.row.T.Denot) Global). v.items) c.deref.ensures) (placed c.args.at) c.get-in-Some.result (λ v. v.now) chunk (below c.args.at)
    (slice_get_read read (length read) (c.args.at / 64) chunk refl (ltb-true (c.args.at / 64) (length read) (sym c.in-Some.ensures.lookup.0)) c.in-Some.ensures.lookup.1)
    c.get-in-Some.ensures
