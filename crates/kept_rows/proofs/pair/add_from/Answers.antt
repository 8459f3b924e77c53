use Rattle.std.proofs.Common.{◌≡◌, ◌∙◌, ◌∷◌, ◌++◌, List, false, ap, sym, append-nil, subst}
use Rattle.std.specs.Prelude.{Some, filter}
use Rattle.collections.specs.Ordered.{IsAscending}
use Rattle.page_index.specs.Reading.{keys_above}
use Rattle.kept_rows.specs.declared.kept_row.KeptRow.{KeptRow}
use Rattle.kept_rows.specs.Kept.{kept_cmp}
use Rattle.kept_rows.specs.Merging.{is_of}
use Rattle.kept_rows.proofs.Pairs.{past, past_above}
use Rattle.kept_rows.proofs.pair.add_from.Goals as goal

pub returns-then-not-is_of_pair : goal.returns-then-not-is_of_pair
returns-then-not-is_of_pair c =
    let e : is_of c.args.pair c.args.start.now ≡ false = sym c.is_of_pair.ensures ∙ c.if-not-is_of_pair.true in
    let none = past c.args.pair c.args.start.now (keys_above kept_cmp (Some c.args.start.now) c.args.rows.now) c.requires.ascending.0 c.requires.reached e in
    sym (ap (λ (ks : List KeptRow). c.args.into.now.items ++ ks) none ∙ append-nil c.args.into.now.items)

pub returns-then-not-is_of_pair-2 : goal.returns-then-not-is_of_pair-2
returns-then-not-is_of_pair-2 c =
    let rest = c.next.new.self in
    let e : is_of c.args.pair c.in-Some.row.now ≡ false = sym c.is_of_pair-in-loop-row.ensures ∙ c.if-not-is_of_pair-2.true in
    let rises = subst (λ (ks : List KeptRow). IsAscending kept_cmp (c.args.start.now ∷ ks)) c.in-Some.ensures.steps c.loop-row.invariant.ascending in
    let none = past_above c.args.pair c.args.start.now c.in-Some.row.now rest rises c.requires.reached e in
    sym (ap (λ (ks : List KeptRow). c.loop-row.into.items ++ ks) (ap (filter (is_of c.args.pair)) c.in-Some.ensures.steps ∙ none) ∙ append-nil c.loop-row.into.items) ∙ c.loop-row.invariant.rest
