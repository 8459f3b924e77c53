-- The listing of triples is the set into which each is put.
use Rattle.std.proofs.Common.{◌≡◌, ◌∙◌, ℕ, List, [], ◌∷◌, Ok, Result, ap, sym, subst, inl, inr, arith}
use Rattle.turtle_reader.specs.Parsers.{Refusal}
use Rattle.turtle_reader.specs.Document.{graph_of}
use Rattle.std.specs.Prelude.{◌⊎◌, ◌↔◌}
use Rattle.std.specs.List.{Contains}
use Rattle.collections.specs.Listings.{IsListing}
use Rattle.collections.specs.Ordered.{IsAscending, with_item}
use Rattle.collections.proofs.Ascending.{IsAscending-with_item}
use Rattle.rdf_model.specs.declared.triple.Triple.{Triple}
use Rattle.rdf_model.specs.Terms.{triple_cmp}
use Rattle.rdf_model.specs.Orders.{triple_total, triple_exact}
use Rattle.rdf_model.specs.Graphs.{with_each}
use Rattle.turtle_reader.proofs.Sets.{has_cases, has_tail, has_this, same_lists, with_old, with_new, with_cases}

pub each_ascends : (ts g : List Triple) → IsAscending triple_cmp g → IsAscending triple_cmp (with_each g ts)
each_ascends [] g a = a
each_ascends (t ∷ ts) g a = each_ascends ts (with_item triple_cmp t g) (IsAscending-with_item triple_total t g a)

each_old : (ts g : List Triple) (w : Triple) → Contains g w → Contains (with_each g ts) w
each_old [] g w c = c
each_old (t ∷ ts) g w c = each_old ts (with_item triple_cmp t g) w (with_old triple_cmp triple_total triple_exact t g w c)

with_this : (t : Triple) (g : List Triple) (w : Triple) → t ≡ w → Contains (with_item triple_cmp t g) w
with_this t g w e = subst (λ (v : Triple). Contains (with_item triple_cmp t g) v) e (with_new triple_cmp triple_total triple_exact t g)

each_new : (ts g : List Triple) (w : Triple) → Contains ts w → Contains (with_each g ts) w
each_new [] g w c = absurd (omega arith)
each_new (t ∷ ts) g w c = elim (has_cases t ts w c) [
  | inl e ↦ each_old ts (with_item triple_cmp t g) w (with_this t g w e)
  | inr d ↦ each_new ts (with_item triple_cmp t g) w d
]

each_cases : (ts g : List Triple) (w : Triple) → Contains (with_each g ts) w → Contains ts w ⊎ Contains g w
each_cases [] g w c = inr c
each_cases (t ∷ ts) g w c = elim (each_cases ts (with_item triple_cmp t g) w c) [
  | inl d ↦ inl (has_tail t ts w d)
  | inr d ↦ elim (with_cases triple_cmp triple_total triple_exact t g w d) [ inl e ↦ inl (has_this t ts w e) | inr k ↦ inr k ]
]

only : (ts : List Triple) (w : Triple) → Contains (with_each [] ts) w → Contains ts w
only ts w c = elim (each_cases ts [] w c) [ inl d ↦ d | inr d ↦ absurd (omega arith) ]

-- their set has just the triples of a list
pub each_members : (ts : List Triple) (w : Triple) → Contains ts w ↔ Contains (with_each [] ts) w
each_members ts w = (λ c. each_new ts [] w c, λ c. only ts w c)

-- the listing of the triples that a list contains is their set
pub listing_each : (xs zs : List Triple) → IsListing triple_cmp (λ t. Contains xs t) zs → zs ≡ with_each [] xs
listing_each xs zs l = same_lists triple_cmp triple_total zs (with_each [] xs) l.ascending (each_ascends xs [] tt) (λ w. (
  λ c. each_new xs [] w ((l.members w).0 c),
  λ c. (l.members w).1 (only xs w c),
))

pub graph_found : (o : Result (List Triple × ℕ) Refusal) (ts zs : List Triple) (next : ℕ) → o ≡ Ok (ts, next) → zs ≡ with_each [] ts → graph_of o ≡ Ok (zs, next)
graph_found o ts zs next h e = ap graph_of h ∙ ap (λ g. Ok (g, next)) (sym e)
