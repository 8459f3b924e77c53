use Rattle.std.proofs.Common.{◌≡◌, ◌∙◌, ℕ, List, ap, sym, subst}
use Rattle.std.specs.Prelude.{map, filter}
use Rattle.std.specs.List.{Contains}
use Rattle.std.specs.Ordering.{nat_cmp}
use Rattle.collections.specs.Listings.{IsListing}
use Rattle.triple_index.specs.declared.key.Key.{Key}
use Rattle.triple_index.specs.declared.prefix.Prefix.TheVariants.{Two}
use Rattle.triple_index.specs.Keys.{key_of}
use Rattle.triple_index.specs.Patterns.{begins_with}
use Rattle.triple_index.proofs.Listings.{thirds_listed}
use Rattle.triple_index.proofs.find.thirds_with.Goals as goal

pub returns : goal.returns
returns c =
    let is : c.in_ok-thirds.field-0.items ≡ map (λ (k : Key). k.third) (filter (begins_with (Two c.args.first c.args.second)) c.args.pages.now) = c.in_ok-thirds.ensures ∙ ap (map (λ (k : Key). k.third)) (c.deref.ensures.value ∙ c.in_ok-keys.ensures) in
    subst (λ (ys : List ℕ). IsListing nat_cmp (λ n. Contains c.args.pages.now (key_of c.args.first c.args.second n)) ys) (sym is) (thirds_listed c.args.first c.args.second c.args.pages.now c.requires)
