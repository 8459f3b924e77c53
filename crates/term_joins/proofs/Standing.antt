-- The bindings in a graph of terms are all assignments of just the variables under which each pattern stands there.
use Rattle.std.proofs.Common.{◌≡◌, ◌∙◌, ◌<◌, ◌+◌, ◌-◌, ◌==◌, ◌&&◌, ◌||◌, ◌++◌, cond, ℕ, zero, suc, Bool, true, false, List, [], ◌∷◌, refl, sym, subst, ap, arith, inl, inr, length, get_or}
use Rattle.std.specs.Prelude.{◌⊎◌, ◌↔◌}
use Rattle.std.specs.List.{Contains, filter, flat_map, list_all, list_any}
use Rattle.std.specs.declared.cmp.Ordering.{Ordering}
use Rattle.std.specs.declared.cmp.Ordering.TheVariants.{Less, Equal, Greater}
use Rattle.std.specs.Ordering.{is_eq}
use Rattle.std.specs.Cmp.{tied_itself}
use Rattle.std.proofs.lemmas.Bool.Decides.{nat_tests}
use Rattle.std.proofs.lemmas.List.{get_or_default}
use Rattle.std.proofs.lemmas.List.Elements.{All-contains, Contains-append_cases, Contains-append_left, Contains-append_right, Contains-get_or}
use Rattle.std.proofs.lemmas.List.Sums.{AllPass-from_list_all, list_all-from_AllPass}
use Rattle.std.proofs.lemmas.Option.{get_or_from_slice_get, slice_get-get_or}
use Rattle.collections.specs.Listings.{IsListing}
use Rattle.collections.specs.Ordered.{AllAbove, IsAscending, has_item, with_item}
use Rattle.collections.proofs.Ascending.{IsAscending-with_item}
use Rattle.collections.proofs.Members.{has_cases, has_equal, has_tail, same_lists, with_new, with_old}
use Rattle.rdf_model.specs.declared.pattern.Pattern.{Pattern}
use Rattle.rdf_model.specs.declared.term.Term.{Term}
use Rattle.rdf_model.specs.declared.term.Term.TheVariants.{Blank}
use Rattle.rdf_model.specs.declared.triple.Triple.{Triple}
use Rattle.rdf_model.specs.Matching.{fits, matches}
use Rattle.rdf_model.specs.Numbers.{term_at}
use Rattle.rdf_model.specs.Orders.{term_exact, term_total, triple_exact, triple_total}
use Rattle.rdf_model.specs.Terms.{term_cmp, triple_cmp}
use Rattle.rdf_model.proofs.SameTerms.{equal_same}
use Rattle.triple_index.proofs.Matching.{keeps, kept_of}
use Rattle.bgp_query.specs.declared.pattern.JoinPattern.{JoinPattern}
use Rattle.bgp_query.specs.declared.pattern.Part.{Part}
use Rattle.bgp_query.specs.declared.pattern.Part.TheVariants.{Variable, Constant}
use Rattle.bgp_query.specs.Bindings.{HasVariable, IsBinding, IsVariable, Occurs, StandsFor, StandsIn}
use Rattle.bgp_query.specs.TermBindings.{assignments, bindings, opened, part_opened, has_all_below, part_variables, pattern_variables, reach_of, stands_in, term_under, terms_in}
use Rattle.bgp_query.specs.Trails.{IsReach}
use Rattle.bgp_query.proofs.Reaching.{reach_as, reach_either}
use Rattle.term_joins.specs.Laws.{BindingsAreAll, BindingsRestOnFinds, IsThere}
use Rattle.term_joins.specs.Orders.{row_cmp, row_total}
use Rattle.term_joins.proofs.Assigned.{assignments_ascend, in_assignments, in_flat, of_assignments, of_flat}

-- the terms of a graph
pub terms_ascend : (g : List Triple) → IsAscending term_cmp (terms_in g)
terms_ascend [] = tt
terms_ascend (t ∷ ts) =
    IsAscending-with_item term_total t.subject (with_item term_cmp t.predicate (with_item term_cmp t.object (terms_in ts)))
    (IsAscending-with_item term_total t.predicate (with_item term_cmp t.object (terms_in ts)) (IsAscending-with_item term_total t.object (terms_in ts) (terms_ascend ts)))

-- a term of one triple more
module _ (t : Triple) (terms : List Term) where
  abbrev three : List Term
  three = with_item term_cmp t.subject (with_item term_cmp t.predicate (with_item term_cmp t.object terms))

  three_old : (x : Term) → Contains terms x → Contains three x
  three_old x c = with_old term_cmp t.subject (with_item term_cmp t.predicate (with_item term_cmp t.object terms)) x (with_old term_cmp t.predicate (with_item term_cmp t.object terms) x (with_old term_cmp t.object terms x c))

  three_subject : Contains three t.subject
  three_subject = with_new term_cmp term_total term_exact t.subject (with_item term_cmp t.predicate (with_item term_cmp t.object terms))

  three_predicate : Contains three t.predicate
  three_predicate = with_old term_cmp t.subject (with_item term_cmp t.predicate (with_item term_cmp t.object terms)) t.predicate (with_new term_cmp term_total term_exact t.predicate (with_item term_cmp t.object terms))

  three_object : Contains three t.object
  three_object = with_old term_cmp t.subject (with_item term_cmp t.predicate (with_item term_cmp t.object terms)) t.object
      (with_old term_cmp t.predicate (with_item term_cmp t.object terms) t.object (with_new term_cmp term_total term_exact t.object terms))

pub has_subject : (g : List Triple) (t : Triple) → Contains g t → Contains (terms_in g) t.subject
has_subject [] t c = absurd (omega arith)
has_subject (u ∷ us) t c = elim (has_cases u us t c) [
  | inl e ↦ subst (λ (v : Triple). Contains (terms_in (u ∷ us)) v.subject) e (three_subject u (terms_in us))
  | inr d ↦ three_old u (terms_in us) t.subject (has_subject us t d)
]

pub has_predicate : (g : List Triple) (t : Triple) → Contains g t → Contains (terms_in g) t.predicate
has_predicate [] t c = absurd (omega arith)
has_predicate (u ∷ us) t c = elim (has_cases u us t c) [
  | inl e ↦ subst (λ (v : Triple). Contains (terms_in (u ∷ us)) v.predicate) e (three_predicate u (terms_in us))
  | inr d ↦ three_old u (terms_in us) t.predicate (has_predicate us t d)
]

pub has_object : (g : List Triple) (t : Triple) → Contains g t → Contains (terms_in g) t.object
has_object [] t c = absurd (omega arith)
has_object (u ∷ us) t c = elim (has_cases u us t c) [
  | inl e ↦ subst (λ (v : Triple). Contains (terms_in (u ∷ us)) v.object) e (three_object u (terms_in us))
  | inr d ↦ three_old u (terms_in us) t.object (has_object us t d)
]

-- what is left of a list that ascends
module _ {X : Type 0} (R : X → X → Ordering) (q : X → Bool) where
  above_filter : (x : X) (ys : List X) → AllAbove R x ys → AllAbove R x (filter q ys)
  above_filter x [] a = tt
  above_filter x (y ∷ ys) a = elim (q y) as (λ b. AllAbove R x (cond b (y ∷ filter q ys) (filter q ys))) [ true ↦ (a.0, above_filter x ys a.1) | false ↦ above_filter x ys a.1 ]

  ascending_filter : (xs : List X) → IsAscending R xs → IsAscending R (filter q xs)
  ascending_filter [] a = tt
  ascending_filter (x ∷ xs) a = elim (q x) as (λ b. IsAscending R (cond b (x ∷ filter q xs) (filter q xs))) [ true ↦ (above_filter x xs a.0, ascending_filter xs a.1) | false ↦ ascending_filter xs a.1 ]

-- a test finds the triples that are there
tied_triple : (t u : Triple) → t ≡ u → triple_cmp t u ≡ Equal
tied_triple t u e = subst (λ (w : Triple). triple_cmp t w ≡ Equal) e (tied_itself triple_total t)

pub there_tested : (g : List Triple) (t : Triple) → Contains g t → has_item triple_cmp t g ≡ true
there_tested [] t c = absurd (omega arith)
there_tested (u ∷ us) t c = elim (has_cases u us t c) [
  | inl e ↦ ap (λ (o : Ordering). is_eq o || has_item triple_cmp t us) (tied_triple u t e)
  | inr d ↦ elim (triple_cmp u t) as (λ o. (is_eq o || has_item triple_cmp t us) ≡ true) [ Less ↦ there_tested us t d | Equal ↦ refl | Greater ↦ there_tested us t d ]
]

pub tested_there : (g : List Triple) (t : Triple) → has_item triple_cmp t g ≡ true → Contains g t
tested_there [] t e = absurd (cc (e))
tested_there (u ∷ us) t e = elim (triple_cmp u t) as (λ o. triple_cmp u t ≡ o → (is_eq o || has_item triple_cmp t us) ≡ true → Contains (u ∷ us) t) [
  | Less ↦ λ h k. has_tail u us t (tested_there us t k)
  | Equal ↦ λ h k. has_equal u us t (triple_exact u t h)
  | Greater ↦ λ h k. has_tail u us t (tested_there us t k)
] refl e

-- the variables of patterns
equal : (x y : ℕ) → (x == y) ≡ true → x ≡ y
equal x y e = grind (arith, nat_tests)

tested : (x y : ℕ) → x ≡ y → (x == y) ≡ true
tested x y e = grind (arith, nat_tests)

part_has : (part : Part Term) (v : ℕ) → Contains (part_variables part) v ↔ IsVariable v part
part_has (Variable w) v = (λ c. elim (has_cases w [] v c) [ inl e ↦ e | inr d ↦ absurd (omega arith) ], λ e. has_equal w [] v e)
part_has (Constant x) v = (λ c. absurd (omega arith), λ e. absurd e)

pattern_has : (p : JoinPattern Term) (v : ℕ) → Contains (pattern_variables p) v ↔ HasVariable p v
pattern_has p v = (
  λ c. elim (Contains-append_cases (part_variables p.subject) (part_variables p.predicate ++ part_variables p.object) v c) [
    | inl d ↦ inl ((part_has p.subject v).0 d)
    | inr d ↦ elim (Contains-append_cases (part_variables p.predicate) (part_variables p.object) v d) [ inl k ↦ inr (inl ((part_has p.predicate v).0 k)) | inr k ↦ inr (inr ((part_has p.object v).0 k)) ]
  ],
  λ h. elim h [
    | inl i ↦ Contains-append_left (part_variables p.subject) (part_variables p.predicate ++ part_variables p.object) v ((part_has p.subject v).1 i)
    | inr (inl i) ↦ Contains-append_right (part_variables p.subject) (part_variables p.predicate ++ part_variables p.object) v (Contains-append_left (part_variables p.predicate) (part_variables p.object) v ((part_has p.predicate v).1 i))
    | inr (inr i) ↦ Contains-append_right (part_variables p.subject) (part_variables p.predicate ++ part_variables p.object) v (Contains-append_right (part_variables p.predicate) (part_variables p.object) v ((part_has p.object v).1 i))
  ],
)

occurs : (ps : List (JoinPattern Term)) (v : ℕ) → Contains (flat_map pattern_variables ps) v ↔ Occurs ps v
occurs ps v = (
  λ c. let r = of_flat pattern_variables ps v c in (r.0, r.1, (pattern_has r.0 v).0 r.2),
  λ o. in_flat pattern_variables ps o.0 v o.1 ((pattern_has o.0 v).1 o.2),
)

-- the reach of numbers
either : (w : ℕ) (vs : List ℕ) (v : ℕ) → ((w ≡ v) ⊎ Contains vs v) ↔ Contains (w ∷ vs) v
either w vs v = (λ c. elim c [ inl e ↦ has_equal w vs v e | inr d ↦ has_tail w vs v d ], λ c. has_cases w vs v c)

pub reaches : (vs : List ℕ) → IsReach (Contains vs) (reach_of vs)
reaches [] = record { below = λ v c. absurd (omega arith); top = λ v e. absurd (omega (arith, e)) }
reaches (w ∷ vs) = reach_as (λ v. (w ≡ v) ⊎ Contains vs v) (Contains (w ∷ vs)) (reach_of (w ∷ vs)) (reach_of (w ∷ vs)) (either w vs) refl
    (reach_either (λ v. w ≡ v) (Contains vs) (w + 1) (reach_of vs) (record { below = λ v e. omega (arith, e); top = λ v e. omega (arith, e) }) (reaches vs))

-- whether all numbers below one are there
any_equal : (vs : List ℕ) (n : ℕ) → list_any (λ v. v == n) vs ≡ true → Contains vs n
any_equal [] n e = absurd (cc (e))
any_equal (v ∷ vs) n e = elim (v == n) as (λ b. (v == n) ≡ b → (b || list_any (λ w. w == n) vs) ≡ true → Contains (v ∷ vs) n) [
  | true ↦ λ h k. has_equal v vs n (equal v n h)
  | false ↦ λ h k. has_tail v vs n (any_equal vs n k)
] refl e

or_true : (b c : Bool) → c ≡ true → (b || c) ≡ true
or_true true c e = refl
or_true false c e = e

equal_any : (vs : List ℕ) (n : ℕ) → Contains vs n → list_any (λ v. v == n) vs ≡ true
equal_any [] n c = absurd (omega arith)
equal_any (v ∷ vs) n c = elim (has_cases v vs n c) [
  | inl e ↦ ap (λ b. b || list_any (λ w. w == n) vs) (tested v n e)
  | inr d ↦ or_true (v == n) (list_any (λ w. w == n) vs) (equal_any vs n d)
]

both_true : (a b : Bool) → (a && b) ≡ true → (a ≡ true) × (b ≡ true)
both_true true b e = (refl, e)
both_true false b e = absurd (cc (e))

and_true : (a b : Bool) → a ≡ true → b ≡ true → (a && b) ≡ true
and_true true b e f = f
and_true false b e f = absurd (cc (e))

all_there : (n : ℕ) (vs : List ℕ) → has_all_below n vs ≡ true → (v : ℕ) → v < n → Contains vs v
all_there zero vs e v l = absurd (omega (arith, l))
all_there (suc n) vs e v l =
    let k = both_true (list_any (λ w. w == n) vs) (has_all_below n vs) e in
    elim (v == n) as (λ b. (v == n) ≡ b → Contains vs v) [
      | true ↦ λ h. subst (λ (w : ℕ). Contains vs w) (sym (equal v n h)) (any_equal vs n k.0)
      | false ↦ λ h. all_there n vs k.1 v (grind (arith, nat_tests))
    ] refl

there_all : (n : ℕ) (vs : List ℕ) → ((v : ℕ) → v < n → Contains vs v) → has_all_below n vs ≡ true
there_all zero vs f = refl
there_all (suc n) vs f = and_true (list_any (λ w. w == n) vs) (has_all_below n vs) (equal_any vs n (f n (omega arith))) (there_all n vs (λ v l. f v (omega (arith, l))))

not_below : (a b : ℕ) → ((v : ℕ) → v < a → v < b) → b < a → ⊥
not_below a b f l = let k = f b l in absurd (omega (arith, k))

same_size : (a b : ℕ) → ((v : ℕ) → v < a → v < b) → ((v : ℕ) → v < b → v < a) → a ≡ b
same_size a b f g = let p = not_below a b f in let q = not_below b a g in omega (arith, p, q)

-- what a part stands for
stood : (xs : List Term) (part : Part Term) (x : Term) → StandsFor xs part x → term_under xs part ≡ x
stood xs (Variable v) x s = get_or_from_slice_get xs v x (Blank 0 0) s
stood xs (Constant c) x s = s

stands : (xs : List Term) (part : Part Term) → ((v : ℕ) → IsVariable v part → v < length xs) → StandsFor xs part (term_under xs part)
stands xs (Variable v) f = slice_get-get_or xs v (Blank 0 0) (f v refl)
stands xs (Constant c) f = refl

-- the triple for which a pattern stands
abbrev under : List Term → JoinPattern Term → Triple
under xs p = record { subject = term_under xs p.subject; predicate = term_under xs p.predicate; object = term_under xs p.object }

stood_in : (g : List Triple) (xs : List Term) (p : JoinPattern Term) → StandsIn (IsThere g) xs p → Contains g (under xs p)
stood_in g xs p s =
    let a = stood xs p.subject s.0 s.3 in
    let b = stood xs p.predicate s.1 s.4 in
    let c = stood xs p.object s.2 s.5 in
    let e : Path Triple (under xs p) (record { subject = s.0; predicate = s.1; object = s.2 }) = λ i. record { subject = a i; predicate = b i; object = c i } in
    subst (λ (t : Triple). Contains g t) (sym e) s.6

module _ (g : List Triple) (ps : List (JoinPattern Term)) where
  abbrev variables : List ℕ
  variables = flat_map pattern_variables ps

  -- an assignment that passes the test is a binding
  is_binding : (xs : List Term) → length xs ≡ reach_of variables → has_all_below (reach_of variables) variables ≡ true → list_all (stands_in g xs) ps ≡ true → IsBinding (IsThere g) ps xs
  is_binding xs size all pass =
      let inside : (v : ℕ) → Occurs ps v → v < length xs = λ v o. subst (λ (n : ℕ). v < n) (sym size) ((reaches variables).below v ((occurs ps v).1 o)) in
      record {
        variables = λ v. (λ l. (occurs ps v).0 (all_there (reach_of variables) variables all v (subst (λ (n : ℕ). v < n) size l)), inside v);
        stand = λ p c.
            let there = tested_there g (under xs p) (All-contains (λ (q : JoinPattern Term). stands_in g xs q ≡ true) ps p (AllPass-from_list_all (stands_in g xs) ps pass) c) in (
              term_under xs p.subject,
              term_under xs p.predicate,
              term_under xs p.object,
              stands xs p.subject (λ v i. inside v (p, c, inl i)),
              stands xs p.predicate (λ v i. inside v (p, c, inr (inl i))),
              stands xs p.object (λ v i. inside v (p, c, inr (inr i))),
              there,
            );
      }

  module _ (xs : List Term) (b : IsBinding (IsThere g) ps xs) where
    size : length xs ≡ reach_of variables
    size = same_size (length xs) (reach_of variables)
        (λ v l. (reaches variables).below v ((occurs ps v).1 ((b.variables v).0 l)))
        (λ v l. below_reach v l)
      where
        below_reach : (v : ℕ) → v < reach_of variables → v < length xs
        below_reach v l =
            let top = (reaches variables).top (reach_of variables - 1) (omega (arith, l)) in
            let k = (b.variables (reach_of variables - 1)).1 ((occurs ps (reach_of variables - 1)).0 top) in
            omega (arith, l, k)

    all : has_all_below (reach_of variables) variables ≡ true
    all = there_all (reach_of variables) variables (λ v l. (occurs ps v).1 ((b.variables v).0 (subst (λ (n : ℕ). v < n) (sym size) l)))

    pass : list_all (stands_in g xs) ps ≡ true
    pass = list_all-from_AllPass (stands_in g xs) ps (λ k d l. there_tested g (under xs (get_or ps k d)) (stood_in g xs (get_or ps k d) (b.stand (get_or ps k d) (Contains-get_or ps k d l))))

    -- each term is one of the graph, since its variable stands in a pattern
    part_term : (part : Part Term) (v : ℕ) (x : Term) → IsVariable v part → StandsFor xs part x → term_at xs v ≡ x
    part_term (Variable w) v x e s = ap (term_at xs) (sym e) ∙ get_or_from_slice_get xs w x (Blank 0 0) s
    part_term (Constant c) v x e s = absurd e

    place_term : (v : ℕ) → v < length xs → Contains (terms_in g) (term_at xs v)
    place_term v l =
        let o = (b.variables v).0 l in
        let s = b.stand o.0 o.1 in
        let t : Triple = record { subject = s.0; predicate = s.1; object = s.2 } in
        elim o.2 [
          | inl i ↦ subst (λ (x : Term). Contains (terms_in g) x) (sym (part_term o.0.subject v s.0 i s.3)) (has_subject g t s.6)
          | inr (inl i) ↦ subst (λ (x : Term). Contains (terms_in g) x) (sym (part_term o.0.predicate v s.1 i s.4)) (has_predicate g t s.6)
          | inr (inr i) ↦ subst (λ (x : Term). Contains (terms_in g) x) (sym (part_term o.0.object v s.2 i s.5)) (has_object g t s.6)
        ]

    terms : (x : Term) → Contains xs x → Contains (terms_in g) x
    terms x c = subst (λ (y : Term). Contains (terms_in g) y) (get_or_default xs c.0 (Blank 0 0) x c.1 ∙ c.2) (place_term c.0 c.1)

  abbrev test : List Term → Bool
  test xs = list_all (stands_in g xs) ps

  abbrev all_rows : List (List Term)
  all_rows = assignments (reach_of variables) (terms_in g)

  abbrev shown : Bool → List (List Term)
  shown b = cond b (filter test all_rows) []

  shown_are : (xs : List Term) → Contains (shown (has_all_below (reach_of variables) variables)) xs → IsBinding (IsThere g) ps xs
  shown_are xs c = elim (has_all_below (reach_of variables) variables) as (λ b. has_all_below (reach_of variables) variables ≡ b → Contains (shown b) xs → IsBinding (IsThere g) ps xs) [
    | true ↦ λ h d. let k = kept_of test all_rows xs d in let a = of_assignments (reach_of variables) (terms_in g) xs k.0 in is_binding xs a.0 h k.1
    | false ↦ λ h d. absurd (omega arith)
  ] refl c

  are_shown : (xs : List Term) → IsBinding (IsThere g) ps xs → Contains (shown (has_all_below (reach_of variables) variables)) xs
  are_shown xs b = subst (λ (t : Bool). Contains (shown t) xs) (sym (all xs b))
      (keeps test all_rows xs (in_assignments (reach_of variables) (terms_in g) xs (size xs b, terms xs b)) (pass xs b))

  shown_ascend : (b : Bool) → IsAscending row_cmp (shown b)
  shown_ascend true = ascending_filter row_cmp test all_rows (assignments_ascend (reach_of variables) (terms_in g) (terms_ascend g))
  shown_ascend false = tt

  bindings_shown : bindings g ps ≡ shown (has_all_below (reach_of variables) variables)
  unfolding bindings
  bindings_shown = refl

  -- they list all bindings, in order
  pub bindings_listing : IsListing row_cmp (IsBinding (IsThere g) ps) (bindings g ps)
  bindings_listing = subst (λ (rows : List (List Term)). IsListing row_cmp (IsBinding (IsThere g) ps) rows) (sym bindings_shown) (record {
    ascending = shown_ascend (has_all_below (reach_of variables) variables);
    members = λ xs. (shown_are xs, are_shown xs);
  })

pub bindings_are_all : BindingsAreAll
bindings_are_all g ps = bindings_listing g ps

-- a triple for which a pattern stands is one for which it asks
part_asks : (xs : List Term) (part : Part Term) (x : Term) → StandsFor xs part x → fits (part_opened part) x ≡ true
part_asks xs (Variable v) x s = refl
part_asks xs (Constant c) x s = equal_same c x s

asks : (xs : List Term) (p : JoinPattern Term) (t : Triple) → StandsFor xs p.subject t.subject → StandsFor xs p.predicate t.predicate → StandsFor xs p.object t.object → matches (opened p) t ≡ true
asks xs p t s q o =
    and_true (fits (part_opened p.subject) t.subject && fits (part_opened p.predicate) t.predicate) (fits (part_opened p.object) t.object)
    (and_true (fits (part_opened p.subject) t.subject) (fits (part_opened p.predicate) t.predicate) (part_asks xs p.subject t.subject s) (part_asks xs p.predicate t.predicate q)) (part_asks xs p.object t.object o)

binding_as : (g h : List Triple) (ps : List (JoinPattern Term)) → ((p : JoinPattern Term) → Contains ps p → (t : Triple) → matches (opened p) t ≡ true → Contains g t → Contains h t) → (xs : List Term) → IsBinding (IsThere g) ps xs → IsBinding (IsThere h) ps xs
binding_as g h ps more xs b = record {
  variables = b.variables;
  stand = λ p c.
      let s = b.stand p c in
      let t : Triple = record { subject = s.0; predicate = s.1; object = s.2 } in
      (s.0, s.1, s.2, s.3, s.4, s.5, more p c t (asks xs p t s.3 s.4 s.5) s.6);
}

-- graphs with the same triples that are asked for have the same bindings
pub bindings_rest_on_finds : BindingsRestOnFinds
bindings_rest_on_finds g h ps same =
    let one = bindings_listing g ps in
    let other = bindings_listing h ps in
    same_lists row_cmp row_total (bindings g ps) (bindings h ps) one.ascending other.ascending (λ xs. (
      λ c. (other.members xs).1 (binding_as g h ps (λ p d t m. (same p d t m).0) xs ((one.members xs).0 c)),
      λ c. (one.members xs).1 (binding_as h g ps (λ p d t m. (same p d t m).1) xs ((other.members xs).0 c)),
    ))

pub same_bindings : (g h : List Triple) (ps : List (JoinPattern Term)) → ((t : Triple) → Contains g t ↔ Contains h t) → bindings g ps ≡ bindings h ps
same_bindings g h ps same = bindings_rest_on_finds g h ps (λ p c t m. same t)

-- where two graphs have the same triples that a pattern asks for
pub asked_same : (g h : List Triple) (p : Pattern) → filter (λ t. matches p t) g ≡ filter (λ t. matches p t) h → (t : Triple) → matches p t ≡ true → Contains g t ↔ Contains h t
asked_same g h p e t m = (
  λ c. (kept_of (λ u. matches p u) h t (subst (λ (ts : List Triple). Contains ts t) e (keeps (λ u. matches p u) g t c m))).0,
  λ c. (kept_of (λ u. matches p u) g t (subst (λ (ts : List Triple). Contains ts t) (sym e) (keeps (λ u. matches p u) h t c m))).0,
)
