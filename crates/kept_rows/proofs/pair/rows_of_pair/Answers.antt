use Rattle.std.proofs.Common.{◌∙◌, ◌∷◌, ◌++◌, List, ap, sym, rules}
use Rattle.std.proofs.lemmas.Fn.{always_returns_same}
use Rattle.std.specs.Prelude.{Some, filter}
use Rattle.page_index.specs.Reading.{keys_above}
use Rattle.kept_rows.specs.declared.kept_row.KeptRow.{KeptRow}
use Rattle.kept_rows.specs.Kept.{kept_cmp}
use Rattle.kept_rows.specs.Merging.{is_of, pair_cmp}
use Rattle.kept_rows.proofs.Pairs.{rising, none_asked, from_found}
use Rattle.kept_rows.proofs.pair.rows_of_pair.Goals as goal

pub add_from-requires-clause-ascending : goal.add_from-requires-clause-ascending
add_from-requires-clause-ascending c =
    let found = c.in-Some.ensures (pair_cmp c.args.pair) (always_returns_same _ _ _ (λ a r f k. search rules)) (rising c.args.pair c.args.rows.now c.requires) in
    (from_found c.args.pair c.args.rows.now c.in-Some.start.now c.requires found).ascending

pub add_from-requires-clause-reached : goal.add_from-requires-clause-reached
add_from-requires-clause-reached c =
    let found = c.in-Some.ensures (pair_cmp c.args.pair) (always_returns_same _ _ _ (λ a r f k. search rules)) (rising c.args.pair c.args.rows.now c.requires) in
    (from_found c.args.pair c.args.rows.now c.in-Some.start.now c.requires found).reached

pub returns-in-None : goal.returns-in-None
returns-in-None c =
    let found = c.in-None.ensures (pair_cmp c.args.pair) (always_returns_same _ _ _ (λ a r f k. search rules)) (rising c.args.pair c.args.rows.now c.requires) in
    c.new-found.ensures.items ∙ sym (none_asked c.args.pair c.args.rows.now found)

pub returns-in_ok-add_from-in-Some : goal.returns-in_ok-add_from-in-Some
returns-in_ok-add_from-in-Some c =
    let found = c.in-Some.ensures (pair_cmp c.args.pair) (always_returns_same _ _ _ (λ a r f k. search rules)) (rising c.args.pair c.args.rows.now c.requires) in
    let from = from_found c.args.pair c.args.rows.now c.in-Some.start.now c.requires found in
    c.in_ok-add_from-in-Some.ensures ∙ ap (λ (ks : List KeptRow). ks ++ filter (is_of c.args.pair) (c.in-Some.start.now ∷ keys_above kept_cmp (Some c.in-Some.start.now) c.args.rows.now)) c.new-found.ensures.items ∙ from.same
