use Rattle.std.proofs.Common.{◌∙◌, ◌∷◌, ◌++◌, List, ap, sym, rules}
use Rattle.std.proofs.lemmas.Fn.{always_returns_same}
use Rattle.std.specs.Prelude.{Some, filter}
use Rattle.page_index.specs.Reading.{keys_above}
use Rattle.triple_index.specs.declared.key.Key.{Key}
use Rattle.triple_index.specs.Keys.{key_cmp}
use Rattle.triple_index.specs.Patterns.{prefix_cmp, begins_with}
use Rattle.triple_index.proofs.Prefixes.{rising, none_asked, from_found}
use Rattle.triple_index.proofs.run.keys_with.Goals as goal

pub add_from-requires-clause-ascending : goal.add_from-requires-clause-ascending
add_from-requires-clause-ascending c =
    let found = c.in-Some.ensures (prefix_cmp c.args.prefix) (always_returns_same _ _ _ (λ a r f k. search rules)) (rising c.args.prefix c.args.pages.now c.requires) in
    (from_found c.args.prefix c.args.pages.now c.in-Some.start.now c.requires found).ascending

pub add_from-requires-clause-reached : goal.add_from-requires-clause-reached
add_from-requires-clause-reached c =
    let found = c.in-Some.ensures (prefix_cmp c.args.prefix) (always_returns_same _ _ _ (λ a r f k. search rules)) (rising c.args.prefix c.args.pages.now c.requires) in
    (from_found c.args.prefix c.args.pages.now c.in-Some.start.now c.requires found).reached

pub returns-in-None : goal.returns-in-None
returns-in-None c =
    let found = c.in-None.ensures (prefix_cmp c.args.prefix) (always_returns_same _ _ _ (λ a r f k. search rules)) (rising c.args.prefix c.args.pages.now c.requires) in
    c.new-keys.ensures.items ∙ sym (none_asked c.args.prefix c.args.pages.now found)

pub returns-in_ok-add_from-in-Some : goal.returns-in_ok-add_from-in-Some
returns-in_ok-add_from-in-Some c =
    let found = c.in-Some.ensures (prefix_cmp c.args.prefix) (always_returns_same _ _ _ (λ a r f k. search rules)) (rising c.args.prefix c.args.pages.now c.requires) in
    let from = from_found c.args.prefix c.args.pages.now c.in-Some.start.now c.requires found in
    c.in_ok-add_from-in-Some.ensures ∙ ap (λ (ks : List Key). ks ++ filter (begins_with c.args.prefix) (c.in-Some.start.now ∷ keys_above key_cmp (Some c.in-Some.start.now) c.args.pages.now)) c.new-keys.ensures.items ∙ from.same
