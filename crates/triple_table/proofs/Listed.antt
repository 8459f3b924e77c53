-- Triples by the ranks of their terms ascend as the triples do.
use Rattle.std.proofs.Common.{◌≡◌, ◌∙◌, ℕ, zero, suc, ◌<◌, ◌≤◌, List, [], ◌∷◌, length, map, refl, sym, subst, ap, arith, inl, inr}
use Rattle.std.specs.List.{AllByRecursion, Contains}
use Rattle.std.specs.declared.cmp.Ordering.{Ordering}
use Rattle.std.specs.declared.cmp.Ordering.TheVariants.{Less, Equal, Greater}
use Rattle.std.specs.Ordering.{nat_cmp, ordering_reverse, ordering_then}
use Rattle.std.specs.Cmp.{nat_cmp_is, tied_itself}
use Rattle.std.proofs.lemmas.List.{length-map}
use Rattle.std.proofs.lemmas.Bool.{cases_eq, cases_lt}
use Rattle.std.proofs.lemmas.Cmp.{nat_cmp_total}
use Rattle.collections.specs.Listings.{IsListing}
use Rattle.collections.specs.Ordered.{AllAbove, IsAscending}
use Rattle.collections.proofs.Members.{below, has_cases, has_equal, has_tail}
use Rattle.rdf_model.specs.declared.ids.Ids.{Ids}
use Rattle.rdf_model.specs.declared.term.Term.{Term}
use Rattle.rdf_model.specs.declared.term.Term.TheVariants.{Blank}
use Rattle.rdf_model.specs.declared.triple.Triple.{Triple}
use Rattle.rdf_model.specs.Numbers.{AreNumbered, IsNumbering, graph_of, term_at, triple_at}
use Rattle.rdf_model.specs.Orders.{term_exact, term_total}
use Rattle.rdf_model.specs.Terms.{term_cmp, triple_cmp}
use Rattle.triple_table.specs.Ranks.{HasRank, IsBelow, IsRanking, Placed, Ranked, ranked, ranked_cmp, terms_of, unranked}
use Rattle.triple_table.proofs.Ranking.{apart, get_or-other, used_each}

-- what stands in a list of images
in_image : {X Y : Type 0} (f : X → Y) (xs : List X) (x : X) → Contains xs x → Contains (map f xs) (f x)
in_image f [] x c = absurd (omega arith)
in_image f (y ∷ xs) x c = elim (has_cases y xs x c) [
  | inl e ↦ has_equal (f y) (map f xs) (f x) (ap f e)
  | inr d ↦ has_tail (f y) (map f xs) (f x) (in_image f xs x d)
]

from_image : {X Y : Type 0} (f : X → Y) (xs : List X) (y : Y) → Contains (map f xs) y → (x : X) × Contains xs x × (f x ≡ y)
from_image f [] y c = absurd (omega arith)
from_image f (x ∷ xs) y c = elim (has_cases (f x) (map f xs) y c) [
  | inl e ↦ (x, has_equal x xs x refl, e)
  | inr d ↦ let r = from_image f xs y d in (r.0, has_tail x xs r.0 r.1, r.2)
]

pub each_is : {X : Type 0} (P : X → Type 0) (xs : List X) (x : X) → AllByRecursion P xs → Contains xs x → P x
each_is P [] x a c = absurd (omega arith)
each_is P (y ∷ xs) x a c = elim (has_cases y xs x c) [
  | inl e ↦ subst P e a.0
  | inr d ↦ each_is P xs x a.1 d
]

from_each : {X : Type 0} (P : X → Type 0) (xs : List X) → ((x : X) → Contains xs x → P x) → AllByRecursion P xs
from_each P [] f = tt
from_each P (x ∷ xs) f = (f x (has_equal x xs x refl), from_each P xs (λ y c. f y (has_tail x xs y c)))

-- the order of ascending terms is that of their places
rises : (ts : List Term) (n m : ℕ) → IsAscending term_cmp ts → n < m → m < length ts → term_cmp (term_at ts n) (term_at ts m) ≡ Less
rises [] n m a l w = absurd (omega arith)
rises (t ∷ ts) n zero a l w = absurd (omega arith)
rises (t ∷ ts) zero (suc m) a l w = below term_cmp t ts (term_at ts m) a.0 (m, omega arith, get_or-other ts m (term_at ts m) (Blank 0 0) (omega arith))
rises (t ∷ ts) (suc n) (suc m) a l w = rises ts n m a.1 (omega arith) (omega arith)

order_at : (ts : List Term) (n m : ℕ) → IsAscending term_cmp ts → n < length ts → m < length ts → term_cmp (term_at ts n) (term_at ts m) ≡ nat_cmp n m
order_at ts n m a v w = elim (cases_eq n m) [
  | inl e ↦ subst (λ (k : ℕ). term_cmp (term_at ts n) (term_at ts k) ≡ nat_cmp n k) e (tied_itself term_total (term_at ts n) ∙ sym (tied_itself nat_cmp_total n))
  | inr f ↦ elim (cases_lt n m) [
    | inl l ↦ rises ts n m a l w ∙ nat_cmp_is n m Less l
    | inr g ↦ (let l : m < n = less f g in term_total.antisymm (term_at ts n) (term_at ts m) ∙ ap ordering_reverse (rises ts m n a l v) ∙ nat_cmp_is n m Greater l)
  ]
]
  where
    less : (n ≡ m → ⊥) → m ≤ n → m < n
    less f g = elim (cases_lt m n) [ inl l ↦ l | inr k ↦ absurd (f (omega arith)) ]

-- the triple of ranks among sorted terms and an object
abbrev ranked_triple : List Term → Ranked → Triple
ranked_triple us r = record { subject = term_at us r.subject; predicate = term_at us r.predicate; object = r.object }

-- three orders in turn are Less where they are with a fourth, of numbers that are one where they find no difference
less_before : (o p q : Ordering) (n m : ℕ) → (o ≡ Equal → p ≡ Equal → q ≡ Equal → n ≡ m) → ordering_then o (ordering_then p (ordering_then q (nat_cmp n m))) ≡ Less → ordering_then o (ordering_then p q) ≡ Less
less_before Less p q n m f h = refl
less_before Greater p q n m f h = cc h
less_before Equal Less q n m f h = refl
less_before Equal Greater q n m f h = cc h
less_before Equal Equal q n m f h = apart q n m (f refl refl) h

triple_order : (us : List Term) → IsAscending term_cmp us → (r q : Ranked) → IsBelow (length us) r → IsBelow (length us) q → triple_cmp (ranked_triple us r) (ranked_triple us q) ≡ ordering_then (nat_cmp r.subject q.subject) (ordering_then (nat_cmp r.predicate q.predicate) (term_cmp r.object q.object))
triple_order us a r q v w =
    let s = order_at us r.subject q.subject a v.0 w.0 in
    let p = order_at us r.predicate q.predicate a v.1 w.1 in
    λ k. ordering_then (s k) (ordering_then (p k) (term_cmp r.object q.object))

abbrev IsWithin : List Term → Ids → Type 0
IsWithin ts i = (i.subject < length ts) × (i.predicate < length ts) × (i.object < length ts)

module _ (ts : List Term) (placed : List Placed) (ranks : List ℕ) (ids : List Ids) (one : IsNumbering ts) (r : IsRanking ts placed ranks ids) (n : AreNumbered ts ids) where
  within : (i : Ids) → Contains ids i → IsWithin ts i
  within i c = each_is (IsWithin ts) ids i n c

  have : (i : Ids) → Contains ids i → HasRank ts (terms_of placed) ranks i.subject × HasRank ts (terms_of placed) ranks i.predicate
  have i c =
      let w = within i c in
      let u = used_each ids i c in
      (r.stand i.subject w.0 u.0, r.stand i.predicate w.1 u.1)

  -- the triple of ranks is that of the numbers, which its ranks give back
  same_triple : (i : Ids) → Contains ids i → ranked_triple (terms_of placed) (ranked ts ranks i) ≡ triple_at ts i
  same_triple i c =
      let h = have i c in
      let s = h.0.1 in
      let p = h.1.1 in
      λ k. record { subject = s k; predicate = p k; object = term_at ts i.object }

  same_ids : (i : Ids) → Contains ids i → unranked placed (ranked ts ranks i) ≡ i
  same_ids i c =
      let w = within i c in
      let u = used_each ids i c in
      let s = r.back i.subject w.0 u.0 in
      let p = r.back i.predicate w.1 u.1 in
      λ k. record { subject = s k; predicate = p k; object = i.object }

  ranked_below : (i : Ids) → Contains ids i → IsBelow (length (terms_of placed)) (ranked ts ranks i)
  ranked_below i c = let h = have i c in (h.0.0, h.1.0)

  module _ (out : List Ranked) (l : IsListing ranked_cmp (Contains (map (ranked ts ranks) ids)) out) where
    made : (o : Ranked) → Contains out o → (i : Ids) × Contains ids i × (ranked ts ranks i ≡ o)
    made o c = from_image (ranked ts ranks) ids o ((l.members o).0 c)

    below_each : (o : Ranked) → Contains out o → IsBelow (length (terms_of placed)) o
    below_each o c = let i = made o c in subst (IsBelow (length (terms_of placed))) i.2 (ranked_below i.0 i.1)

    pub out_below : AllByRecursion (IsBelow (length (terms_of placed))) out
    out_below = from_each (IsBelow (length (terms_of placed))) out below_each

    gives_back : (o : Ranked) (c : Contains out o) → unranked placed o ≡ (made o c).0
    gives_back o c = let i = made o c in ap (unranked placed) (sym i.2) ∙ same_ids i.0 i.1

    each_triple : (o : Ranked) → Contains out o → triple_at ts (unranked placed o) ≡ ranked_triple (terms_of placed) o
    each_triple o c = let i = made o c in ap (triple_at ts) (gives_back o c) ∙ sym (same_triple i.0 i.1) ∙ ap (ranked_triple (terms_of placed)) i.2

    -- an object has one number
    same_number : (o p : Ranked) → Contains out o → Contains out p → o.object ≡ p.object → o.number ≡ p.number
    same_number o p c d e =
        let i = made o c in
        let j = made p d in
        let v = within i.0 i.1 in
        let w = within j.0 j.1 in
        sym (ap (λ (x : Ranked). x.number) i.2)
        ∙ one i.0.object j.0.object v.2 w.2 (ap (λ (x : Ranked). x.object) i.2 ∙ e ∙ sym (ap (λ (x : Ranked). x.object) j.2))
        ∙ ap (λ (x : Ranked). x.number) j.2

    triples_above : (o : Ranked) (os : List Ranked) → Contains out o → ((p : Ranked) → Contains os p → Contains out p) → AllAbove ranked_cmp o os → AllAbove triple_cmp (ranked_triple (terms_of placed) o) (map (ranked_triple (terms_of placed)) os)
    triples_above o [] c from above = tt
    triples_above o (p ∷ ps) c from above =
        let d = from p (has_equal p ps p refl) in
        let order = triple_order (terms_of placed) r.ascending o p (below_each o c) (below_each p d) in
        let less = less_before (nat_cmp o.subject p.subject) (nat_cmp o.predicate p.predicate) (term_cmp o.object p.object) o.number p.number (λ s t u. same_number o p c d (term_exact o.object p.object u)) above.0 in
        (order ∙ less, triples_above o ps c (λ q k. from q (has_tail p ps q k)) above.1)

    triples_ascend : (os : List Ranked) → ((p : Ranked) → Contains os p → Contains out p) → IsAscending ranked_cmp os → IsAscending triple_cmp (map (ranked_triple (terms_of placed)) os)
    triples_ascend [] from b = tt
    triples_ascend (o ∷ os) from b = (triples_above o os (from o (has_equal o os o refl)) (λ q k. from q (has_tail o os q k)) b.0, triples_ascend os (λ q k. from q (has_tail o os q k)) b.1)

    all_triples : (os : List Ranked) → ((p : Ranked) → Contains os p → Contains out p) → graph_of ts (map (unranked placed) os) ≡ map (ranked_triple (terms_of placed)) os
    all_triples [] from = refl
    all_triples (o ∷ os) from =
        let first = each_triple o (from o (has_equal o os o refl)) in
        let rest = all_triples os (λ q k. from q (has_tail o os q k)) in
        λ k. first k ∷ rest k

    all_within : (os : List Ranked) → ((p : Ranked) → Contains os p → Contains out p) → AreNumbered ts (map (unranked placed) os)
    all_within [] from = tt
    all_within (o ∷ os) from =
        let c = from o (has_equal o os o refl) in
        let i = made o c in
        (subst (IsWithin ts) (sym (gives_back o c)) (within i.0 i.1), all_within os (λ q k. from q (has_tail o os q k)))

    to : (t : Triple) → Contains (graph_of ts (map (unranked placed) out)) t → Contains (graph_of ts ids) t
    to t c =
        let k = from_image (triple_at ts) (map (unranked placed) out) t c in
        let o = from_image (unranked placed) out k.0 k.1 in
        let i = made o.0 o.1 in
        subst (λ (u : Triple). Contains (graph_of ts ids) u) (ap (triple_at ts) (sym (gives_back o.0 o.1) ∙ o.2) ∙ k.2) (in_image (triple_at ts) ids i.0 i.1)

    back : (t : Triple) → Contains (graph_of ts ids) t → Contains (graph_of ts (map (unranked placed) out)) t
    back t c =
        let i = from_image (triple_at ts) ids t c in
        let o = ranked ts ranks i.0 in
        let d = (l.members o).1 (in_image (ranked ts ranks) ids i.0 i.1) in
        subst (λ (u : Triple). Contains (graph_of ts (map (unranked placed) out)) u) (ap (triple_at ts) (same_ids i.0 i.1) ∙ i.2) (in_image (triple_at ts) (map (unranked placed) out) (unranked placed o) (in_image (unranked placed) out o d))

    pub numbers_listing : IsListing triple_cmp (Contains (graph_of ts ids)) (graph_of ts (map (unranked placed) out))
    numbers_listing = record {
      ascending = subst (IsAscending triple_cmp) (sym (all_triples out (λ p c. c))) (triples_ascend out (λ p c. c) l.ascending);
      members = λ t. (λ c. to t c, λ c. back t c);
    }

    pub numbers_within : AreNumbered ts (map (unranked placed) out)
    numbers_within = all_within out (λ p c. c)

-- the same of what was read, where it is what was made
pub listing_as : (ts : List Term) (ranks rs : List ℕ) (ids : List Ids) (found out : List Ranked) → rs ≡ ranks → found ≡ map (ranked ts rs) ids → IsListing ranked_cmp (Contains found) out → IsListing ranked_cmp (Contains (map (ranked ts ranks) ids)) out
listing_as ts ranks rs ids found out e f l = subst (λ (is : List Ranked). IsListing ranked_cmp (Contains is) out) (f ∙ ap (λ (r : List ℕ). map (ranked ts r) ids) e) l

pub below_as : (placed us : List Placed) (out outs : List Ranked) → us ≡ placed → outs ≡ out → AllByRecursion (IsBelow (length (terms_of placed))) out → AllByRecursion (IsBelow (length us)) outs
below_as placed us out outs e f a =
    let long = length-map placed (λ (p : Placed). p.term) ∙ sym (ap (λ (ps : List Placed). length ps) e) in
    subst (λ (is : List Ranked). AllByRecursion (IsBelow (length us)) is) (sym f) (subst (λ (n : ℕ). AllByRecursion (IsBelow n) out) long a)

pub numbers_as : (placed us : List Placed) (out outs : List Ranked) (numbers : List Ids) → us ≡ placed → outs ≡ out → numbers ≡ map (unranked us) outs → numbers ≡ map (unranked placed) out
numbers_as placed us out outs numbers e f g = g ∙ (λ k. map (unranked (e k)) (f k))

-- one triple, or none, is a listing of itself
alone : (ts : List Term) (is : List Ids) → length is < 2 → IsListing triple_cmp (Contains (graph_of ts is)) (graph_of ts is)
alone ts [] w = record { ascending = tt; members = λ x. (λ c. c, λ c. c) }
alone ts (i ∷ []) w = record { ascending = (tt, tt); members = λ x. (λ c. c, λ c. c) }
alone ts (i ∷ j ∷ is) w = absurd (omega arith)

pub one_listed : (ts : List Term) (is js : List Ids) → length is < 2 → js ≡ is → IsListing triple_cmp (Contains (graph_of ts is)) (graph_of ts js)
one_listed ts is js w e = subst (λ (ks : List Ids). IsListing triple_cmp (Contains (graph_of ts is)) (graph_of ts ks)) (sym e) (alone ts is w)
