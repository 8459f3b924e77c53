use Rattle.std.proofs.Common.{◌≡◌, ◌∙◌, ◌+◌, ◌*◌, ◌/◌, ◌%◌, ◌<◌, ℕ, List, Vec, Global, length, sym, refl, ap, arith}
use Rattle.std.proofs.lemmas.Bool.{ltb-false, ltb-true}
use Rattle.std.proofs.lemmas.Option.{slice_get_read}
use Rattle.growing_list.proofs.Filled.{none_at, some_at}
use Rattle.growing_list.proofs.blocks.Blocks.get.Goals as goal

below : (n : ℕ) → n % 8192 < 8192
below n = omega arith

placed : (n : ℕ) → n / 8192 * 8192 + n % 8192 ≡ n
placed n = omega arith

pub returns-in-None : goal.returns-in-None
returns-in-None g c =
    let read = c.deref-2.result.now in
    none_at 8192 _ read _ (c.args.at / 8192) (c.args.at % 8192) c.args.at c.self.invariant c.self.view_is (c.deref-2.ensures.value ∙ ap (λ (v : Vec (List g.row.T.Denot) Global). v.items) c.deref.ensures) (placed c.args.at)
    (ltb-false (c.args.at / 8192) (length read) (sym c.in-None.ensures.lookup.0))

pub returns-in-Some : goal.returns-in-Some
returns-in-Some g c =
    let read = c.deref-2.result.now in
    let block = c.in-Some.block.now in
    some_at 8192 _ read _ (c.args.at / 8192) (c.args.at % 8192) c.args.at c.self.invariant c.self.view_is (c.deref-2.ensures.value ∙ ap (λ (v : Vec (List g.row.T.Denot) Global). v.items) c.deref.ensures) (placed c.args.at) c.get-in-Some.result (λ v. v.now) block (below c.args.at)
    (slice_get_read read (length read) (c.args.at / 8192) block refl (ltb-true (c.args.at / 8192) (length read) (sym c.in-Some.ensures.lookup.0)) c.in-Some.ensures.lookup.1)
    c.get-in-Some.ensures
