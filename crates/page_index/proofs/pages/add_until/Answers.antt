use Rattle.std.proofs.Common.{◌≡◌, ◌∙◌, ◌∷◌, ◌++◌, [], List, true, ap, sym, subst, append-nil}
use Rattle.std.specs.Prelude.{filter}
use Rattle.std.specs.Ordering.{is_lt, is_ge}
use Rattle.collections.specs.Ordered.{IsAscending}
use Rattle.page_index.proofs.Ranges.{none-from, not_below}
use Rattle.page_index.proofs.pages.add_until.Goals as goal

pub returns-then-is_ge : goal.returns-then-is_ge
returns-then-is_ge g c =
    let R = g.K.Ord.cmp in
    let L = λ (k : g.row.K.Denot). is_lt (g.K.Ord.cmp k c.args.to.now) in
    let is : c.loop-key.key-iterator ≡ c.in-Some.key.now ∷ c.next.new.self = c.in-Some.ensures.steps in
    let ascends = subst (λ (ks : List g.row.K.Denot). IsAscending R ks) is c.loop-key.invariant.ascending in
    let past : is_ge (g.K.Ord.cmp c.in-Some.key.now c.args.to.now) ≡ true = let a = c.cmp.ensures in let b = c.is_ge.ensures in let t = c.if-is_ge.true in cc (a, b, t) in
    let none : filter L c.loop-key.key-iterator ≡ [] = ap (filter L) is ∙ none-from R g.met.K.Ord.total c.args.to.now c.in-Some.key.now c.next.new.self ascends (not_below (g.K.Ord.cmp c.in-Some.key.now c.args.to.now) past) in
    sym (append-nil c.loop-key.into.items) ∙ ap (λ (ks : List g.row.K.Denot). c.loop-key.into.items ++ ks) (sym none) ∙ c.loop-key.invariant.rest
