use Rattle.std.proofs.Common.{◌≡◌, ◌∙◌, ◌∷◌, ◌++◌, List, false, ap, sym, append-nil, subst}
use Rattle.std.specs.Prelude.{Some, filter}
use Rattle.collections.specs.Ordered.{IsAscending}
use Rattle.page_index.specs.Reading.{keys_above}
use Rattle.triple_index.specs.declared.key.Key.{Key}
use Rattle.triple_index.specs.Keys.{key_cmp}
use Rattle.triple_index.specs.Patterns.{begins_with}
use Rattle.triple_index.proofs.Prefixes.{past, past_above}
use Rattle.triple_index.proofs.run.add_from.Goals as goal

pub returns-then-not-begins : goal.returns-then-not-begins
returns-then-not-begins c =
    let e : begins_with c.args.prefix c.args.start.now ≡ false = sym c.begins.ensures ∙ c.if-not-begins.true in
    let none = past c.args.prefix c.args.start.now (keys_above key_cmp (Some c.args.start.now) c.args.pages.now) c.requires.ascending.0 c.requires.reached e in
    sym (ap (λ (ks : List Key). c.args.into.now.items ++ ks) none ∙ append-nil c.args.into.now.items)

pub returns-then-not-begins-2 : goal.returns-then-not-begins-2
returns-then-not-begins-2 c =
    let rest = c.next.new.self in
    let e : begins_with c.args.prefix c.in-Some.key.now ≡ false = sym c.begins-in-loop-key.ensures ∙ c.if-not-begins-2.true in
    let rises = subst (λ (ks : List Key). IsAscending key_cmp (c.args.start.now ∷ ks)) c.in-Some.ensures.steps c.loop-key.invariant.ascending in
    let none = past_above c.args.prefix c.args.start.now c.in-Some.key.now rest rises c.requires.reached e in
    sym (ap (λ (ks : List Key). c.loop-key.into.items ++ ks) (ap (filter (begins_with c.args.prefix)) c.in-Some.ensures.steps ∙ none) ∙ append-nil c.loop-key.into.items) ∙ c.loop-key.invariant.rest
