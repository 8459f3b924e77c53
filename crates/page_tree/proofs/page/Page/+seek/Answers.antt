use Rattle.std.proofs.Common.{◌≡◌, ◌∙◌, ◌<◌, ◌≤◌, ◌-◌, ℕ, List, length, get_or, ap, sym, subst, arith, drop, true, false}
use Rattle.std.specs.Prelude.{Option, MatchOption, None, Some}
use Rattle.std.specs.List.Sorted.{IsPartitionedBy, IsPartitionPoint}
use Rattle.std.specs.Ordering.{is_lt}
use Rattle.page_tree.specs.Blocks.{Block, Image, keys_of, height_of, first_of}
use Rattle.page_tree.specs.Pages.{image_of}
use Rattle.page_tree.specs.Reading.{IsRising, first_reached}
use Rattle.page_tree.proofs.Opened.{opened}
use Rattle.page_tree.proofs.Reached.{keys-rising, lows-follow, first-none, first-at, passed-to, beyond-to, rising-at, first-of-none, first-of-some}
use Rattle.page_tree.proofs.page.Page.+seek.Goals as goal

pub returns-then-at-len : goal.returns-then-at-len
returns-then-at-len g t c = λ of ck r.
    let same : c.args.self.now.keys ≡ c.deref.result.now = sym (ap (λ (d : Image g.row.K.Denot). d.keys) (ap image_of (sym c.in-Leaf.is) ∙ c.self.view_is)) ∙ sym c.deref.ensures.value in
    let own = subst (λ (ks : List g.row.K.Denot). IsRising of ks) same r in
    let point = c.keys_before-at.ensures.point of ck (keys-rising of c.deref.result.now own) in
    let n = c.len.ensures in let d = c.deref.ensures.len in let b = c.keys_before-at.ensures.bound in
    let e = c.if-at-len.true in
    ap (first_reached of) same ∙ first-none of c.deref.result.now c.keys_before-at.result point (omega arith)

pub returns-else-at-len : goal.returns-else-at-len
returns-else-at-len g t c = λ of ck r.
    let same : c.args.self.now.keys ≡ c.deref.result.now = sym (ap (λ (d : Image g.row.K.Denot). d.keys) (ap image_of (sym c.in-Leaf.is) ∙ c.self.view_is)) ∙ sym c.deref.ensures.value in
    let own = subst (λ (ks : List g.row.K.Denot). IsRising of ks) same r in
    let point = c.keys_before-at.ensures.point of ck (keys-rising of c.deref.result.now own) in
    let n = c.len.ensures in let d = c.deref.ensures.len in let b = c.keys_before-at.ensures.bound in
    let e = c.if-at-len.false in
    let lt : c.keys_before-at.result < length c.deref.result.now = omega arith in
    ap (first_reached of) same ∙ first-at of c.deref.result.now c.keys_before-at.result c.index.result.now point lt (c.index.ensures ∙ ap (λ (ks : List g.row.K.Denot). get_or ks c.keys_before-at.result c.index.result.now) (sym c.deref.ensures.value))

pub returns-then-after-eq0 : goal.returns-then-after-eq0
returns-then-after-eq0 g t c = λ of ck r.
    let over = opened g.K.Ord.cmp c.self.inside.node c.in-Inner.entries c.args.self.now c.self.invariant c.in-Inner.is c.self.view_is in
    let h = height_of c.in-Inner.entries.items in
    let rises = subst (λ (ks : List g.row.K.Denot). IsRising of ks) over.keys r in
    let search-at = subst (λ (bs : List (Block g.row.K.Denot)). IsPartitionedBy (λ b. is_lt (of b.low)) bs → IsPartitionPoint (λ b. is_lt (of b.low) ≡ true) (λ b. is_lt (of b.low) ≡ false) bs c.lows_before-after.result) c.deref-in-Inner.ensures.value (c.lows_before-after.ensures.point of ck) in
    let point = search-at (lows-follow of h c.in-Inner.entries.items rises over.sound.below) in
    let beyond = beyond-to of h c.in-Inner.entries.items c.lows_before-after.result over.sound.below point in
    let low = subst (λ (bs : List (Block g.row.K.Denot)). MatchOption c.low_at-next.result (first_of (keys_of (drop c.lows_before-after.result bs)) ≡ None) (λ key. first_of (keys_of (drop c.lows_before-after.result bs)) ≡ Some key.now)) c.deref-in-Inner-2.ensures.value c.low_at-next.ensures in
    let total : first_reached of c.args.self.now.keys ≡ first_of (keys_of (drop c.lows_before-after.result c.in-Inner.entries.items)) = ap (first_reached of) (over.keys ∙ ap (λ (n : ℕ). keys_of (drop n c.in-Inner.entries.items)) (sym c.if-after-eq0.true)) ∙ beyond in
    subst (λ (w : Option g.row.K.Denot). MatchOption c.low_at-next.result (w ≡ None) (λ key. w ≡ Some key.now)) (sym total) low

pub returns-in-Some : goal.returns-in-Some
returns-in-Some g t c = λ of ck r.
    let over = opened g.K.Ord.cmp c.self.inside.node c.in-Inner.entries c.args.self.now c.self.invariant c.in-Inner.is c.self.view_is in
    let h = height_of c.in-Inner.entries.items in
    let rises = subst (λ (ks : List g.row.K.Denot). IsRising of ks) over.keys r in
    let search-at = subst (λ (bs : List (Block g.row.K.Denot)). IsPartitionedBy (λ b. is_lt (of b.low)) bs → IsPartitionPoint (λ b. is_lt (of b.low) ≡ true) (λ b. is_lt (of b.low) ≡ false) bs c.lows_before-after.result) c.deref-in-Inner.ensures.value (c.lows_before-after.ensures.point of ck) in
    let point = search-at (lows-follow of h c.in-Inner.entries.items rises over.sound.below) in
    let beyond = beyond-to of h c.in-Inner.entries.items c.lows_before-after.result over.sound.below point in
    let le = subst (λ (bs : List (Block g.row.K.Denot)). c.lows_before-after.result ≤ length bs) c.deref-in-Inner.ensures.value c.lows_before-after.ensures.bound in
    let pos = c.if-after-eq0.false in
    let some : 0 < c.lows_before-after.result = omega arith in
    let lt : c.lows_before-after.result - 1 < length c.in-Inner.entries.items = omega arith in
    let page : c.deref-in-Inner-3.result.now ≡ c.index-entry.result.now.page = c.deref-in-Inner-3.ensures ∙ ap (λ (b : Block g.row.K.Denot). b.page) c.entry.view_is in
    let at : c.deref-in-Inner-3.result.now.keys ≡ (get_or c.in-Inner.entries.items (c.lows_before-after.result - 1) c.index-entry.result.now).page.keys = ap (λ (d : Image g.row.K.Denot). d.keys) page ∙ ap (λ (b : Block g.row.K.Denot). b.page.keys) c.index-entry.ensures in
    let own = subst (λ (ks : List g.row.K.Denot). IsRising of ks) (sym at) (rising-at of h c.in-Inner.entries.items (c.lows_before-after.result - 1) c.index-entry.result.now rises over.sound.below lt) in
    let to = passed-to of h c.in-Inner.entries.items c.lows_before-after.result c.index-entry.result.now rises over.sound.below some le point in
    let ks = (get_or c.in-Inner.entries.items (c.lows_before-after.result - 1) c.index-entry.result.now).page.keys in
    let ls = keys_of (drop c.lows_before-after.result c.in-Inner.entries.items) in
    ap (first_reached of) over.keys ∙ to ∙ first-of-some of ks ls c.in-Some.key.now (ap (first_reached of) (sym at) ∙ c.in-Some.ensures of ck own)

pub returns-in-None : goal.returns-in-None
returns-in-None g t c = λ of ck r.
    let over = opened g.K.Ord.cmp c.self.inside.node c.in-Inner.entries c.args.self.now c.self.invariant c.in-Inner.is c.self.view_is in
    let h = height_of c.in-Inner.entries.items in
    let rises = subst (λ (ks : List g.row.K.Denot). IsRising of ks) over.keys r in
    let search-at = subst (λ (bs : List (Block g.row.K.Denot)). IsPartitionedBy (λ b. is_lt (of b.low)) bs → IsPartitionPoint (λ b. is_lt (of b.low) ≡ true) (λ b. is_lt (of b.low) ≡ false) bs c.lows_before-after.result) c.deref-in-Inner.ensures.value (c.lows_before-after.ensures.point of ck) in
    let point = search-at (lows-follow of h c.in-Inner.entries.items rises over.sound.below) in
    let beyond = beyond-to of h c.in-Inner.entries.items c.lows_before-after.result over.sound.below point in
    let low = subst (λ (bs : List (Block g.row.K.Denot)). MatchOption c.low_at-next.result (first_of (keys_of (drop c.lows_before-after.result bs)) ≡ None) (λ key. first_of (keys_of (drop c.lows_before-after.result bs)) ≡ Some key.now)) c.deref-in-Inner-2.ensures.value c.low_at-next.ensures in
    let le = subst (λ (bs : List (Block g.row.K.Denot)). c.lows_before-after.result ≤ length bs) c.deref-in-Inner.ensures.value c.lows_before-after.ensures.bound in
    let pos = c.if-after-eq0.false in
    let some : 0 < c.lows_before-after.result = omega arith in
    let lt : c.lows_before-after.result - 1 < length c.in-Inner.entries.items = omega arith in
    let page : c.deref-in-Inner-3.result.now ≡ c.index-entry.result.now.page = c.deref-in-Inner-3.ensures ∙ ap (λ (b : Block g.row.K.Denot). b.page) c.entry.view_is in
    let at : c.deref-in-Inner-3.result.now.keys ≡ (get_or c.in-Inner.entries.items (c.lows_before-after.result - 1) c.index-entry.result.now).page.keys = ap (λ (d : Image g.row.K.Denot). d.keys) page ∙ ap (λ (b : Block g.row.K.Denot). b.page.keys) c.index-entry.ensures in
    let own = subst (λ (ks : List g.row.K.Denot). IsRising of ks) (sym at) (rising-at of h c.in-Inner.entries.items (c.lows_before-after.result - 1) c.index-entry.result.now rises over.sound.below lt) in
    let to = passed-to of h c.in-Inner.entries.items c.lows_before-after.result c.index-entry.result.now rises over.sound.below some le point in
    let ks = (get_or c.in-Inner.entries.items (c.lows_before-after.result - 1) c.index-entry.result.now).page.keys in
    let ls = keys_of (drop c.lows_before-after.result c.in-Inner.entries.items) in
    let total : first_reached of c.args.self.now.keys ≡ first_of ls = ap (first_reached of) over.keys ∙ to ∙ first-of-none of ks ls (ap (first_reached of) (sym at) ∙ c.in-None.ensures of ck own) ∙ beyond in
    subst (λ (w : Option g.row.K.Denot). MatchOption c.low_at-next.result (w ≡ None) (λ key. w ≡ Some key.now)) (sym total) low
