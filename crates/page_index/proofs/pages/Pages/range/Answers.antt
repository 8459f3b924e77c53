use Rattle.std.proofs.Common.{◌∙◌, ◌∷◌, ◌++◌, List, ap, sym, subst}
use Rattle.std.specs.Prelude.{Some, filter}
use Rattle.std.specs.Ordering.{is_lt}
use Rattle.collections.specs.Ordered.{IsAscending}
use Rattle.page_index.specs.Reading.{keys_above}
use Rattle.page_index.proofs.Ranges.{range-from, range-none}
use Rattle.page_index.proofs.pages.Pages.range.Goals as goal

pub returns-in-None : goal.returns-in-None
returns-in-None g c = record { keys = c.new-keys.ensures.items ∙ sym (range-none g.K.Ord.cmp g.met.K.Ord.total c.args.from.now c.args.to.now c.args.self.now c.in-None.ensures) }

pub returns-in_ok-add_from-in-Some : goal.returns-in_ok-add_from-in-Some
returns-in_ok-add_from-in-Some g c =
    let L = λ (k : g.row.K.Denot). is_lt (g.K.Ord.cmp k c.args.to.now) in
    let ascends = subst (λ (ks : List g.row.K.Denot). IsAscending g.K.Ord.cmp ks) c.self.view_is c.self.invariant.ascending in
    let all = filter L (c.in-Some.first.now ∷ keys_above g.K.Ord.cmp (Some c.in-Some.first.now) c.args.self.now) in
    record { keys = c.in_ok-add_from-in-Some.ensures ∙ ap (λ (is : List g.row.K.Denot). is ++ all) c.new-keys.ensures.items ∙ sym (range-from g.K.Ord.cmp g.met.K.Ord.total c.args.from.now c.args.to.now c.in-Some.first.now c.args.self.now ascends c.in-Some.ensures) }
