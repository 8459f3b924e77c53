use Rattle.std.proofs.Common.{◌≡◌, ◌∙◌, ℕ, List, ap, sym, subst}
use Rattle.std.specs.Prelude.{map, filter}
use Rattle.std.specs.List.{Contains}
use Rattle.collections.specs.Pairs.{pair_cmp}
use Rattle.collections.specs.Listings.{IsListing}
use Rattle.triple_index.specs.declared.key.Key.{Key}
use Rattle.triple_index.specs.declared.prefix.Prefix.TheVariants.{One}
use Rattle.triple_index.specs.Keys.{key_of}
use Rattle.triple_index.specs.Patterns.{begins_with}
use Rattle.triple_index.proofs.Listings.{pairs_listed}
use Rattle.triple_index.proofs.find.pairs_with.Goals as goal

pub returns : goal.returns
returns c =
    let is : c.in_ok-pairs.field-0.items ≡ map (λ (k : Key). (k.second, k.third)) (filter (begins_with (One c.args.first)) c.args.pages.now) = c.in_ok-pairs.ensures ∙ ap (map (λ (k : Key). (k.second, k.third))) (c.deref.ensures.value ∙ c.in_ok-keys.ensures) in
    subst (λ (ys : List (ℕ × ℕ)). IsListing pair_cmp (λ e. Contains c.args.pages.now (key_of c.args.first e.0 e.1)) ys) (sym is) (pairs_listed c.args.first c.args.pages.now c.requires)
