-- Which triples of a record misfit, and the least of them.
use Rattle.std.proofs.Common.{◌≡◌, ◌∙◌, ◌<◌, Bool, List, [], ◌∷◌, ◌++◌, length, refl, sym, ap, subst, arith, inl, inr}
use Rattle.std.specs.Prelude.{◌↔◌, not, slice_index_or}
use Rattle.std.specs.List.{Contains, filter}
use Rattle.std.specs.declared.cmp.Ordering.TheVariants.{Less}
use Rattle.std.specs.Ordering.{ordering_reverse}
use Rattle.std.specs.Cmp.{tied_itself}
use Rattle.collections.specs.Listings.{IsListing}
use Rattle.collections.specs.Ordered.{has_item}
use Rattle.collections.proofs.Members.{below, has_cases, has_head}
use Rattle.rdf_model.specs.declared.triple.Triple.{Triple}
use Rattle.rdf_model.specs.Orders.{triple_total}
use Rattle.rdf_model.specs.Terms.{triple_cmp}
use Rattle.record_text.specs.declared.record.Record.{Record}
use Rattle.follower.specs.Records.{Fits, IsLeastMisfit, misfits}
use Rattle.follower.proofs.Tests.{same_tests}

-- graphs with the same members have the same misfits
pub same_misfits : (g h : List Triple) (r : Record) → ((t : Triple) → Contains g t ↔ Contains h t) → misfits g r ≡ misfits h r
same_misfits g h r same =
    let e : (λ (t : Triple). has_item triple_cmp t g) ≡ (λ (t : Triple). has_item triple_cmp t h) = λ i t. same_tests g h same t i in
    ap (λ (f : Triple → Bool). filter (λ (t : Triple). not (f t)) r.removed ++ filter f r.added) e

-- nothing is listed of a list that has nothing, nor of any other
pub none_listed : (ts sorted : List Triple) → IsListing triple_cmp (Contains ts) sorted → length sorted ≡ 0 → ts ≡ []
none_listed [] sorted l e = refl
none_listed (t ∷ ts) sorted l e = let c = (l.members t).1 (has_head t ts) in let lt = c.1 in absurd (omega (arith, lt, e))

-- no triple is less than itself, nor than a lesser one
not_both : (t u : Triple) → triple_cmp t u ≡ Less → triple_cmp u t ≡ Less → ⊥
not_both t u p q = let e = triple_total.antisymm t u in let k = ap ordering_reverse q in cc (e, k)

not_itself : (t u : Triple) → t ≡ u → triple_cmp u t ≡ Less → ⊥
not_itself t u e p = let k = tied_itself triple_total t in let m : triple_cmp t t ≡ Less = subst (λ (w : Triple). triple_cmp w t ≡ Less) (sym e) p in cc (k, m)

-- the first one listed is the least
pub least_listed : (g : List Triple) (r : Record) (ts sorted : List Triple) (t : Triple) → ts ≡ misfits g r → IsListing triple_cmp (Contains ts) sorted → 0 < length sorted → t ≡ slice_index_or sorted 0 t →
    IsLeastMisfit g r t
least_listed g r ts [] t e l lt is = absurd (omega (arith, lt))
least_listed g r ts (x ∷ xs) t e l lt is = record {
  there = subst (λ (us : List Triple). Contains us t) e ((l.members t).0 (0, omega arith, sym is));
  least = λ u c less. elim (has_cases x xs u ((l.members u).1 (subst (λ (us : List Triple). Contains us u) (sym e) c))) [
    | inl same ↦ not_itself t u (is ∙ same) less
    | inr d ↦ not_both u t less (subst (λ (w : Triple). triple_cmp w u ≡ Less) (sym is) (below triple_cmp x xs u l.ascending.0 d))
  ];
}

-- what is said of the misfits of a graph is so of each graph with its members
pub fits_in : (g h : List Triple) (r : Record) → ((t : Triple) → Contains g t ↔ Contains h t) → Fits g r → Fits h r
fits_in g h r same f = sym (same_misfits g h r same) ∙ f

pub least_in : (g h : List Triple) (r : Record) (t : Triple) → ((t : Triple) → Contains g t ↔ Contains h t) → IsLeastMisfit g r t → IsLeastMisfit h r t
least_in g h r t same l =
    let e = same_misfits g h r same in
    record { there = subst (λ (ts : List Triple). Contains ts t) e l.there; least = λ u c. l.least u (subst (λ (ts : List Triple). Contains ts u) (sym e) c) }

-- a record with a misfit doesn't fit
pub not_fit : (g : List Triple) (r : Record) (t : Triple) → IsLeastMisfit g r t → Fits g r → ⊥
not_fit g r t l f = let c = subst (λ (ts : List Triple). Contains ts t) f l.there in let lt = c.1 in absurd (omega (arith, lt))
