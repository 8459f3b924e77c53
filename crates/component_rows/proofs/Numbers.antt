-- How many nodes there are, by numbers and by terms.
use Rattle.std.proofs.Common.{◌≡◌, ◌∙◌, ℕ, zero, suc, ◌<◌, Bool, true, false, cond, List, [], ◌∷◌, length, map, get_or, refl, sym, ap, arith, subst, inl, inr}
use Rattle.std.specs.Prelude.{◌↔◌}
use Rattle.std.specs.List.{Contains}
use Rattle.std.specs.Ordering.{nat_cmp, match_ordering}
use Rattle.std.specs.declared.cmp.Ordering.TheVariants.{Less, Equal, Greater}
use Rattle.std.specs.Cmp.{tied_itself}
use Rattle.std.proofs.lemmas.Cmp.{nat_cmp_total}
use Rattle.std.proofs.lemmas.List.Elements.{Contains-get_or}
use Rattle.collections.specs.Ordered.{AllAbove, IsAscending, with_item}
use Rattle.collections.proofs.Ascending.{IsAscending-with_item}
use Rattle.collections.proofs.Members.{has_cases, has_equal, has_tail, below, with_cases, with_old, with_new}
use Rattle.rdf_model.specs.declared.term.Term.{Term}
use Rattle.rdf_model.specs.Terms.{term_cmp}
use Rattle.rdf_model.specs.Orders.{term_total, term_exact}
use Rattle.rdf_model.specs.Numbers.{term_at, IsNumbering}
use Rattle.shape_model.specs.Listings.{Counts}
use Rattle.shape_model.proofs.Listings.{one_listing}
use Rattle.component_rows.specs.Answers.{Tells}
use Rattle.component_rows.specs.Conformance.{how_many}
use Rattle.component_rows.specs.Nodes.{AreNodes, HasNode}
use Rattle.component_rows.proofs.Answering.{place_in}
use Rattle.component_rows.proofs.Collecting.{mapped_from, mapped_to}

-- the terms of numbers, ascending
sorted_terms : List Term → List ℕ → List Term
sorted_terms terms [] = []
sorted_terms terms (n ∷ ns) = with_item term_cmp (term_at terms n) (sorted_terms terms ns)

sorted_ascending : (terms : List Term) (ns : List ℕ) → IsAscending term_cmp (sorted_terms terms ns)
unfolding sorted_terms
sorted_ascending terms [] = tt
sorted_ascending terms (n ∷ ns) = IsAscending-with_item term_total (term_at terms n) (sorted_terms terms ns) (sorted_ascending terms ns)

sorted_from : (terms : List Term) (ns : List ℕ) (t : Term) → Contains (sorted_terms terms ns) t → HasNode terms ns t
unfolding sorted_terms
sorted_from terms [] t c = c
sorted_from terms (n ∷ ns) t c = elim (with_cases term_cmp (term_at terms n) (sorted_terms terms ns) t c) [
  | inl e ↦ has_equal (term_at terms n) (map (term_at terms) ns) t e
  | inr d ↦ has_tail (term_at terms n) (map (term_at terms) ns) t (sorted_from terms ns t d)
]

sorted_to : (terms : List Term) (ns : List ℕ) (t : Term) → HasNode terms ns t → Contains (sorted_terms terms ns) t
unfolding sorted_terms
sorted_to terms [] t c = c
sorted_to terms (n ∷ ns) t c = elim (has_cases (term_at terms n) (map (term_at terms) ns) t c) [
  | inl e ↦ subst (λ (w : Term). Contains (with_item term_cmp (term_at terms n) (sorted_terms terms ns)) w) e (with_new term_cmp term_total term_exact (term_at terms n) (sorted_terms terms ns))
  | inr d ↦ with_old term_cmp (term_at terms n) (sorted_terms terms ns) t (sorted_to terms ns t d)
]

length_with : (t : Term) (ts : List Term) → (Contains ts t → ⊥) → length (with_item term_cmp t ts) ≡ suc (length ts)
length_with t [] none = refl
length_with t (u ∷ us) none = elim (term_cmp t u) as (λ o. term_cmp t u ≡ o → length (match_ordering o (t ∷ u ∷ us) (u ∷ us) (u ∷ with_item term_cmp t us)) ≡ suc (suc (length us))) [
  | Less ↦ λ h. refl
  | Equal ↦ λ h. absurd (none (has_equal u us t (sym (term_exact t u h))))
  | Greater ↦ λ h. ap suc (length_with t us (λ c. none (has_tail u us t c)))
] refl

not_below : (n : ℕ) → nat_cmp n n ≡ Less → ⊥
not_below n h = let k = tied_itself nat_cmp_total n in cc (h, k)

-- the term of a number stands not among those of later ones
not_again : (terms : List Term) → IsNumbering terms → (n : ℕ) (ns : List ℕ) → AreNodes terms (n ∷ ns) → HasNode terms ns (term_at terms n) → ⊥
not_again terms numbering n ns nodes c =
    let k = mapped_from (term_at terms) ns (term_at terms n) c in
    let e : k.0 ≡ n = numbering k.0 n (nodes.named k.0 (has_tail n ns k.0 k.1)) (nodes.named n (has_equal n ns n refl)) k.2 in
    not_below n (subst (λ (m : ℕ). nat_cmp n m ≡ Less) e (below nat_cmp n ns k.0 nodes.ascending.0 k.1))

rest_nodes : (terms : List Term) (n : ℕ) (ns : List ℕ) → AreNodes terms (n ∷ ns) → AreNodes terms ns
rest_nodes terms n ns nodes = record { ascending = nodes.ascending.1; named = λ m c. nodes.named m (has_tail n ns m c) }

length_sorted : (terms : List Term) → IsNumbering terms → (ns : List ℕ) → AreNodes terms ns → length (sorted_terms terms ns) ≡ length ns
unfolding sorted_terms
length_sorted terms numbering [] nodes = refl
length_sorted terms numbering (n ∷ ns) nodes =
    length_with (term_at terms n) (sorted_terms terms ns) (λ c. not_again terms numbering n ns nodes (sorted_from terms ns (term_at terms n) c))
    ∙ ap suc (length_sorted terms numbering ns (rest_nodes terms n ns nodes))

-- there are as many terms as numbers
pub counted : (terms : List Term) → IsNumbering terms → (ns : List ℕ) → AreNodes terms ns → Counts (HasNode terms ns) (length ns)
counted terms numbering ns nodes = record {
  items = sorted_terms terms ns;
  listing = record { ascending = sorted_ascending terms ns; members = λ t. (sorted_from terms ns t, sorted_to terms ns t) };
  count = length_sorted terms numbering ns nodes;
}

-- and no other number
pub one_count : (P : Term → Type 0) (n m : ℕ) → Counts P n → Counts P m → n ≡ m
one_count P n m c d = sym c.count ∙ ap length (one_listing term_cmp term_total P c.items d.items c.listing d.listing) ∙ d.count

pub counts_same : (P Q : Term → Type 0) → ((v : Term) → P v ↔ Q v) → (n : ℕ) → Counts P n → Counts Q n
counts_same P Q e n c = record {
  items = c.items;
  listing = record {
    ascending = c.listing.ascending;
    members = λ v. (λ i. (e v).0 ((c.listing.members v).0 i), λ p. (c.listing.members v).1 ((e v).1 p));
  };
  count = c.count;
}

-- the numbers to which the answer is yes
chosen : List ℕ → List Bool → List ℕ
chosen [] bs = []
chosen (n ∷ ns) [] = []
chosen (n ∷ ns) (b ∷ bs) = cond b (n ∷ chosen ns bs) (chosen ns bs)

chosen_above : (x : ℕ) (ns : List ℕ) (bs : List Bool) → AllAbove nat_cmp x ns → AllAbove nat_cmp x (chosen ns bs)
unfolding chosen
chosen_above x [] bs h = tt
chosen_above x (n ∷ ns) [] h = tt
chosen_above x (n ∷ ns) (true ∷ bs) h = (h.0, chosen_above x ns bs h.1)
chosen_above x (n ∷ ns) (false ∷ bs) h = chosen_above x ns bs h.1

chosen_ascends : (ns : List ℕ) (bs : List Bool) → IsAscending nat_cmp ns → IsAscending nat_cmp (chosen ns bs)
unfolding chosen
chosen_ascends [] bs h = tt
chosen_ascends (n ∷ ns) [] h = tt
chosen_ascends (n ∷ ns) (true ∷ bs) h = (chosen_above n ns bs h.0, chosen_ascends ns bs h.1)
chosen_ascends (n ∷ ns) (false ∷ bs) h = chosen_ascends ns bs h.1

chosen_place : (ns : List ℕ) (bs : List Bool) (x : ℕ) → Contains (chosen ns bs) x → (i : ℕ) × (i < length ns) × (get_or ns i 0 ≡ x) × (get_or bs i false ≡ true)
unfolding chosen
chosen_place [] bs x c = absurd (omega arith)
chosen_place (n ∷ ns) [] x c = absurd (omega arith)
chosen_place (n ∷ ns) (true ∷ bs) x c = elim (has_cases n (chosen ns bs) x c) [
  | inl e ↦ (0, omega arith, e, refl)
  | inr d ↦ (let k = chosen_place ns bs x d in let lt = k.1 in (suc k.0, omega (arith, lt), k.2, k.3))
]
chosen_place (n ∷ ns) (false ∷ bs) x c = let k = chosen_place ns bs x c in let lt = k.1 in (suc k.0, omega (arith, lt), k.2, k.3)

place_chosen : (ns : List ℕ) (bs : List Bool) (i : ℕ) → i < length ns → get_or bs i false ≡ true → Contains (chosen ns bs) (get_or ns i 0)
unfolding chosen
place_chosen [] bs i lt e = absurd (omega (arith, lt))
place_chosen (n ∷ ns) [] i lt e = cc
place_chosen (n ∷ ns) (true ∷ bs) zero lt e = has_equal n (chosen ns bs) n refl
place_chosen (n ∷ ns) (false ∷ bs) zero lt e = cc
place_chosen (n ∷ ns) (true ∷ bs) (suc i) lt e = has_tail n (chosen ns bs) (get_or ns i 0) (place_chosen ns bs i (omega (arith, lt)) e)
place_chosen (n ∷ ns) (false ∷ bs) (suc i) lt e = place_chosen ns bs i (omega (arith, lt)) e

chosen_many : (ns : List ℕ) (bs : List Bool) → length bs ≡ length ns → length (chosen ns bs) ≡ how_many bs
unfolding chosen
chosen_many [] [] h = refl
chosen_many [] (b ∷ bs) h = absurd (omega (arith, h))
chosen_many (n ∷ ns) [] h = refl
chosen_many (n ∷ ns) (true ∷ bs) h = let rest = chosen_many ns bs (omega (arith, h)) in omega (arith, rest)
chosen_many (n ∷ ns) (false ∷ bs) h = let rest = chosen_many ns bs (omega (arith, h)) in omega (arith, rest)

-- as many nodes are such that P holds as answers are yes
pub counted_answers : (P : Term → Type 0) (terms : List Term) → IsNumbering terms → (values : List ℕ) → AreNodes terms values → (answers : List Bool)
    → Tells (λ i. P (term_at terms (get_or values i 0))) (length values) answers → Counts (λ v. HasNode terms values v × P v) (how_many answers)
counted_answers P terms numbering values nodes answers told =
    subst (λ (n : ℕ). Counts (λ v. HasNode terms values v × P v) n) (chosen_many values answers told.as_many)
    (counts_same (HasNode terms (chosen values answers)) (λ v. HasNode terms values v × P v) (λ v. (
      λ h. let m = mapped_from (term_at terms) (chosen values answers) v h in
          let k = chosen_place values answers m.0 m.1 in
          let is : term_at terms (get_or values k.0 0) ≡ v = ap (term_at terms) k.2 ∙ m.2 in (
            subst (λ (t : Term). HasNode terms values t) is (mapped_to (term_at terms) values (get_or values k.0 0) (Contains-get_or values k.0 0 k.1)),
            subst P is ((told.each k.0 k.1).0 k.3),
          ),
      λ h. let m = mapped_from (term_at terms) values v h.0 in
          let place = place_in values m.0 m.1 in
          let is : term_at terms (get_or values place.0 0) ≡ v = ap (term_at terms) place.2 ∙ m.2 in
          subst (λ (t : Term). HasNode terms (chosen values answers) t) is
          (mapped_to (term_at terms) (chosen values answers) (get_or values place.0 0) (place_chosen values answers place.0 place.1 ((told.each place.0 place.1).1 (subst P (sym is) h.1)))),
    )) (length (chosen values answers)) (counted terms numbering (chosen values answers) (record {
      ascending = chosen_ascends values answers nodes.ascending;
      named = λ n c. (let k = chosen_place values answers n c in subst (λ (m : ℕ). m < length terms) k.2 (nodes.named (get_or values k.0 0) (Contains-get_or values k.0 0 k.1)));
    })))
