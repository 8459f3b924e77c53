use Rattle.std.proofs.Common.{◌≡◌, ◌∙◌, ◌∷◌, ◌++◌, [], List, true, false, ap, sym, subst, append-nil, append_assoc, rules}
use Rattle.std.specs.Prelude.{Some, OnOk, filter}
use Rattle.std.specs.Ordering.{is_lt, is_ge, is_gt}
use Rattle.collections.specs.Ordered.{IsAscending}
use Rattle.page_index.specs.Reading.{keys_above}
use Rattle.page_tree.proofs.Above.{filter-ascends}
use Rattle.page_index.proofs.Ranges.{front-stays, none-after, not_below}
use Rattle.page_index.proofs.pages.add_from.Goals as goal

pub returns-then-is_ge : goal.returns-then-is_ge
returns-then-is_ge g c =
    let L = λ (k : g.row.K.Denot). is_lt (g.K.Ord.cmp k c.args.to.now) in
    let past : is_ge (g.K.Ord.cmp c.args.first.now c.args.to.now) ≡ true = let a = c.cmp.ensures in let b = c.is_ge.ensures in let t = c.if-is_ge.true in cc (a, b, t) in
    sym (append-nil c.args.into.now.items) ∙ ap (λ (ks : List g.row.K.Denot). c.args.into.now.items ++ ks) (sym (none-after g.K.Ord.cmp g.met.K.Ord.total c.args.to.now c.args.first.now c.args.pages.now (not_below (g.K.Ord.cmp c.args.first.now c.args.to.now) past)))

pub add_until-requires : goal.add_until-requires
add_until-requires g c =
    subst (λ (ks : List g.row.K.Denot). IsAscending g.K.Ord.cmp ks) (sym c.iter_above.ensures) (filter-ascends g.K.Ord.cmp g.met.K.Ord.total (λ k. is_gt (g.K.Ord.cmp k c.args.first.now)) c.args.pages.now c.recall_ascending.ensures)

pub returns : goal.returns
returns g c =
    let L = λ (k : g.row.K.Denot). is_lt (g.K.Ord.cmp k c.args.to.now) in
    let front : is_ge (g.K.Ord.cmp c.args.first.now c.args.to.now) ≡ false = let a = c.cmp.ensures in let b = c.is_ge.ensures in let t = c.if-is_ge.false in cc (a, b, t) in
    let same : c.in_ok-clone.field-0 ≡ c.args.first.now = search rules in
    let pushed : c.push.new.self.items ≡ c.args.into.now.items ++ c.args.first.now ∷ [] = c.in_ok-push.ensures.items ∙ ap (λ (k : g.row.K.Denot). c.args.into.now.items ++ k ∷ []) same in
    let rest = keys_above g.K.Ord.cmp (Some c.args.first.now) c.args.pages.now in
    let all : c.push.new.self.items ++ filter L c.iter_above.result ≡ c.args.into.now.items ++ filter L (c.args.first.now ∷ rest) =
    ap (λ (is : List g.row.K.Denot). is ++ filter L c.iter_above.result) pushed ∙ ap (λ (ks : List g.row.K.Denot). (c.args.into.now.items ++ c.args.first.now ∷ []) ++ filter L ks) c.iter_above.ensures
    ∙ append_assoc c.args.into.now.items (c.args.first.now ∷ []) (filter L rest) ∙ ap (λ (ks : List g.row.K.Denot). c.args.into.now.items ++ ks) (front-stays g.K.Ord.cmp g.met.K.Ord.total c.args.to.now c.args.first.now rest front) in
    subst (λ (is : List g.row.K.Denot). OnOk c.add_until.result (c.add_until.new.into.items ≡ is)) all c.add_until.ensures
