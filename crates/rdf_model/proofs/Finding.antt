-- What a look finds in a list of triples, and the edges of a subject.
use Rattle.std.proofs.Common.{◌≡◌, ◌≢◌, ℕ, ◌+◌, ◌<◌, ◌≤◌, Bool, true, false, List, [], ◌∷◌, ◌++◌, length, take, get_or, Option, Some, None, refl, sym, ap, subst, arith, inl, inr, ◌∙◌}
use Rattle.std.proofs.lemmas.List.{get_or_default, take_all}
use Rattle.rdf_model.specs.declared.term.Term.TheVariants.{Blank}
use Rattle.std.specs.Prelude.{◌↔◌, ◌&&◌, ◌==◌, if◌then◌else◌}
use Rattle.std.specs.List.{All, Contains, cons_option, filter_map}
use Rattle.std.specs.declared.cmp.Ordering.{Ordering}
use Rattle.std.proofs.lemmas.Bool.Decides.{nat_tests}
use Rattle.std.proofs.lemmas.List.Elements.{All-contains, All-more, filter_map-append}
use Rattle.collections.specs.Listings.{IsListing}
use Rattle.collections.proofs.Members.{has_cases, has_equal, has_tail}
use Rattle.rdf_model.specs.declared.ids.Ids.{Ids}
use Rattle.rdf_model.specs.declared.term.Term.{Term}
use Rattle.rdf_model.specs.Matching.{same_term}
use Rattle.rdf_model.proofs.SameTerms.{equal_same}
use Rattle.rdf_model.specs.declared.look.Look.{Look}
use Rattle.rdf_model.specs.declared.look.Look.TheVariants.{Out, In, OutAny}
use Rattle.rdf_model.specs.Numbers.{IsFound, IsEdge, IsJoined, number_in, edge_in, pair_in, term_at}

-- what a function gives of the items of a list
later : {X Y : Type 0} → (h : X → Option Y) (x : X) (xs : List X) (y : Y) → (w : X) × Contains xs w × (h w ≡ Some y) → (w : X) × Contains (x ∷ xs) w × (h w ≡ Some y)
later h x xs y i = (i.0, has_tail x xs i.0 i.1, i.2)

pub from_given : {X Y : Type 0} → (h : X → Option Y) (xs : List X) (y : Y) → Contains (filter_map h xs) y → (w : X) × Contains xs w × (h w ≡ Some y)
from_given h [] y c = absurd (omega arith)
from_given {X = X} h (x ∷ xs) y c = elim (h x) as (λ o. h x ≡ o → Contains (cons_option o (filter_map h xs)) y → (w : X) × Contains (x ∷ xs) w × (h w ≡ Some y)) [
  | None ↦ λ e d. later h x xs y (from_given h xs y d)
  | Some z ↦ λ e d. elim (has_cases z (filter_map h xs) y d) [ inl i ↦ (x, has_equal x xs x refl, e ∙ ap Some i) | inr i ↦ later h x xs y (from_given h xs y i) ]
] refl c

more : {Y : Type 0} → (o : Option Y) (ys : List Y) (y : Y) → Contains ys y → Contains (cons_option o ys) y
more None ys y c = c
more (Some z) ys y c = has_tail z ys y c

first : {Y : Type 0} → (o : Option Y) (ys : List Y) (y : Y) → o ≡ Some y → Contains (cons_option o ys) y
first None ys y e = absurd (cc)
first (Some z) ys y e = has_equal z ys y (cc)

pub to_given : {X Y : Type 0} → (h : X → Option Y) (xs : List X) (y : Y) (w : X) → Contains xs w → h w ≡ Some y → Contains (filter_map h xs) y
to_given h [] y w c e = absurd (omega arith)
to_given h (x ∷ xs) y w c e = elim (has_cases x xs w c) [
  | inl i ↦ first (h x) (filter_map h xs) y (ap h i ∙ e)
  | inr i ↦ more (h x) (filter_map h xs) y (to_given h xs y w i e)
]

out_in : (x p : ℕ) (i : Ids) (n : ℕ) → number_in (Out x p) i ≡ Some n → i ≡ record { subject = x; predicate = p; object = n }
out_in x p i n = elim (x == i.subject && p == i.predicate) as (λ b. (x == i.subject && p == i.predicate) ≡ b → (if b then Some i.object else None) ≡ Some n → i ≡ record { subject = x; predicate = p; object = n }) [
  | true ↦ λ h e.
      let subject : i.subject ≡ x = grind (arith, nat_tests) in
      let predicate : i.predicate ≡ p = grind (arith, nat_tests) in
      let object : i.object ≡ n = cc in
      λ j. record { subject = subject j; predicate = predicate j; object = object j }
  | false ↦ λ h e. absurd (cc)
] refl

in_in : (p x : ℕ) (i : Ids) (n : ℕ) → number_in (In p x) i ≡ Some n → i ≡ record { subject = n; predicate = p; object = x }
in_in p x i n = elim (p == i.predicate && x == i.object) as (λ b. (p == i.predicate && x == i.object) ≡ b → (if b then Some i.subject else None) ≡ Some n → i ≡ record { subject = n; predicate = p; object = x }) [
  | true ↦ λ h e.
      let subject : i.subject ≡ n = cc in
      let predicate : i.predicate ≡ p = grind (arith, nat_tests) in
      let object : i.object ≡ x = grind (arith, nat_tests) in
      λ j. record { subject = subject j; predicate = predicate j; object = object j }
  | false ↦ λ h e. absurd (cc)
] refl

edge_of : (x : ℕ) (i : Ids) (e : ℕ × ℕ) → edge_in x i ≡ Some e → i ≡ record { subject = x; predicate = e.0; object = e.1 }
edge_of x i e = elim (i.subject == x) as (λ b. (i.subject == x) ≡ b → (if b then Some (i.predicate, i.object) else None) ≡ Some e → i ≡ record { subject = x; predicate = e.0; object = e.1 }) [
  | true ↦ λ h k.
      let subject : i.subject ≡ x = grind (arith, nat_tests) in
      let pair : (i.predicate, i.object) ≡ e = cc in
      λ j. record { subject = subject j; predicate = (pair j).0; object = (pair j).1 }
  | false ↦ λ h k. absurd (cc)
] refl

pair_of : (p : ℕ) (i : Ids) (e : ℕ × ℕ) → pair_in p i ≡ Some e → i ≡ record { subject = e.0; predicate = p; object = e.1 }
pair_of p i e = elim (i.predicate == p) as (λ b. (i.predicate == p) ≡ b → (if b then Some (i.subject, i.object) else None) ≡ Some e → i ≡ record { subject = e.0; predicate = p; object = e.1 }) [
  | true ↦ λ h k.
      let predicate : i.predicate ≡ p = grind (arith, nat_tests) in
      let pair : (i.subject, i.object) ≡ e = cc in
      λ j. record { subject = (pair j).0; predicate = predicate j; object = (pair j).1 }
  | false ↦ λ h k. absurd (cc)
] refl

same_test : (n : ℕ) → (n == n) ≡ true
same_test n = grind (arith, nat_tests)

chosen : {Y : Type 0} → (b : Bool) (y : Y) → b ≡ true → (if b then Some y else None) ≡ Some y
chosen true y e = refl
chosen false y e = absurd (cc)

both : (a b : Bool) → a ≡ true → b ≡ true → (a && b) ≡ true
both true b e f = f
both false b e f = e

-- the numbers that a look gives of the triples are those that it finds
pub found_is : (look : Look ℕ) (ids : List Ids) (n : ℕ) → Contains (filter_map (number_in look) ids) n ↔ IsFound look ids n
found_is (Out x p) ids n = (
  λ c. let g = from_given (number_in (Out x p)) ids n c in subst (λ (i : Ids). Contains ids i) (out_in x p g.0 n g.2) g.1,
  λ c. to_given (number_in (Out x p)) ids n (record { subject = x; predicate = p; object = n }) c (chosen (x == x && p == p) n (both (x == x) (p == p) (same_test x) (same_test p))),
)
found_is (In p x) ids n = (
  λ c. let g = from_given (number_in (In p x)) ids n c in subst (λ (i : Ids). Contains ids i) (in_in p x g.0 n g.2) g.1,
  λ c. to_given (number_in (In p x)) ids n (record { subject = n; predicate = p; object = x }) c (chosen (p == p && x == x) n (both (p == p) (x == x) (same_test p) (same_test x))),
)
found_is (OutAny x) ids n = (
  λ c. let g = from_given (number_in (OutAny x)) ids n c in absurd (cc (g.2)),
  λ c. absurd c,
)

pub edge_is : (x : ℕ) (ids : List Ids) (e : ℕ × ℕ) → Contains (filter_map (edge_in x) ids) e ↔ IsEdge ids x e
edge_is x ids e = (
  λ c. let g = from_given (edge_in x) ids e c in subst (λ (i : Ids). Contains ids i) (edge_of x g.0 e g.2) g.1,
  λ c. to_given (edge_in x) ids e (record { subject = x; predicate = e.0; object = e.1 }) c (chosen (x == x) e (same_test x)),
)

pub joined_is : (p : ℕ) (ids : List Ids) (e : ℕ × ℕ) → Contains (filter_map (pair_in p) ids) e ↔ IsJoined ids p e
joined_is p ids e = (
  λ c. let g = from_given (pair_in p) ids e c in subst (λ (i : Ids). Contains ids i) (pair_of p g.0 e g.2) g.1,
  λ c. to_given (pair_in p) ids e (record { subject = e.0; predicate = p; object = e.1 }) c (chosen (p == p) e (same_test p)),
)

-- listings of what is equally so
pub listing_same : {X : Type 0} → (R : X → X → Ordering) (P Q : X → Type 0) (xs : List X) → ((x : X) → P x ↔ Q x) → IsListing R P xs → IsListing R Q xs
listing_same R P Q xs e l = record { ascending = l.ascending; members = λ x. (λ c. (e x).0 ((l.members x).0 c), λ q. (l.members x).1 ((e x).1 q)) }

pub filter_map_append : {X Y : Type 0} → (h : X → Option Y) (xs ys : List X) → filter_map h (xs ++ ys) ≡ filter_map h xs ++ filter_map h ys
filter_map_append h xs ys = filter_map-append h xs ys

-- no term up to a place is the one that is looked for, nor the one there
pub none_more : (xs : List Term) (i : ℕ) (x t : Term) → i < length xs → x ≡ get_or xs i x → same_term x t ≡ false → All (λ y. y ≢ t) (take i xs) → All (λ y. y ≢ t) (take (i + 1) xs)
none_more xs i x t l e h a = All-more (λ y. y ≢ t) xs i x l a (λ k. let s = equal_same x t (e ∙ k) in cc (s, h))

pub none_there : (xs : List Term) (t : Term) → All (λ y. y ≢ t) xs → Contains xs t → ⊥
none_there xs t a c = All-contains (λ y. y ≢ t) xs t a c refl

pub none_upto : (xs : List Term) (i : ℕ) (t : Term) → length xs ≤ i → All (λ y. y ≢ t) (take i xs) → Contains xs t → ⊥
none_upto xs i t l a c = none_there xs t (subst (λ (ys : List Term). All (λ y. y ≢ t) ys) (take_all i xs l) a) c

pub read_at : (xs : List Term) (i : ℕ) (x : Term) → i < length xs → x ≡ get_or xs i x → term_at xs i ≡ x
read_at xs i x l e = get_or_default xs i (Blank 0 0) x l ∙ sym e
