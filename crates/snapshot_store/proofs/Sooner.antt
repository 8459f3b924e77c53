-- The first triple that is asked for, in the order of triples, is the first of those whose numbers are asked for.
use Rattle.std.proofs.Common.{◌≡◌, ◌∙◌, ℕ, zero, suc, ◌<◌, Bool, true, false, cond, List, [], ◌∷◌, ◌++◌, Option, Some, None, length, get_or, map, refl, sym, ap, subst, arith, inl, inr}
use Rattle.std.specs.Prelude.{filter}
use Rattle.std.specs.List.{Contains}
use Rattle.std.specs.Ordering.{match_ordering}
use Rattle.std.specs.declared.cmp.Ordering.TheVariants.{Less, Equal, Greater}
use Rattle.std.proofs.lemmas.List.{map-append}
use Rattle.collections.specs.Ordered.{IsAscending, with_item}
use Rattle.collections.proofs.Ascending.{IsAscending-with_item}
use Rattle.collections.proofs.Members.{same_lists, with_cases, with_new, with_old}
use Rattle.rdf_model.specs.declared.ids.Ids.{Ids}
use Rattle.rdf_model.specs.declared.look.Look.{Look}
use Rattle.rdf_model.specs.declared.pattern.Pattern.{Pattern}
use Rattle.rdf_model.specs.declared.term.Term.{Term}
use Rattle.rdf_model.specs.declared.triple.Triple.{Triple}
use Rattle.rdf_model.specs.Graphs.{with_each}
use Rattle.rdf_model.specs.Matching.{is_found, is_read}
use Rattle.rdf_model.specs.Numbers.{AreNumbered, graph_of, triple_at}
use Rattle.rdf_model.specs.Orders.{triple_exact, triple_total}
use Rattle.rdf_model.specs.Terms.{triple_cmp}
use Rattle.store_model.specs.Store.{first_matching, first_read}
use Rattle.store_model.proofs.SetMembers.{ascending-filter}
use Rattle.triple_index.proofs.Matching.{keeps, kept_of}
use Rattle.triple_index.specs.Changes.{IsNumbered}
use Rattle.snapshot_store.specs.First.{IsFirst, first_at, first_in, sooner}

-- the first of a set with one triple more
head_with : (t : Triple) (g : List Triple) → first_in (with_item triple_cmp t g) ≡ sooner t (first_in g)
head_with t [] = refl
head_with t (y ∷ ys) = elim (triple_cmp t y) as (λ o. first_in (match_ordering o (t ∷ y ∷ ys) (y ∷ ys) (y ∷ with_item triple_cmp t ys)) ≡ Some (match_ordering o t y y)) [
  | Less ↦ refl
  | Equal ↦ refl
  | Greater ↦ refl
]

each_push : (g ts : List Triple) (t : Triple) → with_each g (ts ++ t ∷ []) ≡ with_item triple_cmp t (with_each g ts)
each_push g [] t = refl
each_push g (u ∷ us) t = each_push (with_item triple_cmp u g) us t

pub numbered_at : (terms : List Term) (ids : List Ids) (k : ℕ) (d : Ids) → AreNumbered terms ids → k < length ids → IsNumbered terms (get_or ids k d)
numbered_at terms [] k d a lt = absurd (omega arith)
numbered_at terms (i ∷ ids) zero d a lt = a.0
numbered_at terms (i ∷ ids) (suc k) d a lt = numbered_at terms ids k d a.1 (omega arith)

pub first_more : (terms : List Term) (ids more : List Ids) (i : Ids) (first : Option Ids) (next : Ids) → more ≡ ids ++ i ∷ [] → IsFirst terms ids first → IsNumbered terms next → Some (triple_at terms next) ≡ sooner (triple_at terms i) (first_at terms first) → IsFirst terms more (Some next)
first_more terms ids more i first next e f n s =
    let g = with_each [] (graph_of terms ids) in
    let whole : with_each [] (graph_of terms more) ≡ with_item triple_cmp (triple_at terms i) g =
    ap (λ (js : List Ids). with_each [] (graph_of terms js)) e ∙ ap (with_each []) (map-append (triple_at terms) ids (i ∷ [])) ∙ each_push [] (graph_of terms ids) (triple_at terms i) in
    record {
      numbered = n;
      is = s ∙ ap (sooner (triple_at terms i)) f.is ∙ sym (head_with (triple_at terms i) g) ∙ ap first_in (sym whole);
    }

module _ (q : Triple → Bool) where
  module _ (g : List Triple) (ascending : IsAscending triple_cmp g) where
    kept_ascend : IsAscending triple_cmp (filter q g)
    kept_ascend = ascending-filter triple_total q g ascending

    more_ascend : (t : Triple) → IsAscending triple_cmp (filter q (with_item triple_cmp t g))
    more_ascend t = ascending-filter triple_total q (with_item triple_cmp t g) (IsAscending-with_item triple_total t g ascending)

    differs : (t w : Triple) → q t ≡ false → q w ≡ true → t ≡ w → ⊥
    differs t w f k e = let h = ap q e in cc (h, f, k)

    with_asked : (t : Triple) → q t ≡ true → filter q (with_item triple_cmp t g) ≡ with_item triple_cmp t (filter q g)
    with_asked t k = same_lists triple_cmp triple_total (filter q (with_item triple_cmp t g)) (with_item triple_cmp t (filter q g)) (more_ascend t) (IsAscending-with_item triple_total t (filter q g) kept_ascend)
        (λ w. (
          λ c. let h = kept_of q (with_item triple_cmp t g) w c in elim (with_cases triple_cmp t g w h.0) [
            | inl e ↦ subst (λ (x : Triple). Contains (with_item triple_cmp t (filter q g)) x) e (with_new triple_cmp triple_total triple_exact t (filter q g))
            | inr d ↦ with_old triple_cmp t (filter q g) w (keeps q g w d h.1)
          ],
          λ c. elim (with_cases triple_cmp t (filter q g) w c) [
            | inl e ↦ keeps q (with_item triple_cmp t g) w (subst (λ (x : Triple). Contains (with_item triple_cmp t g) x) e (with_new triple_cmp triple_total triple_exact t g)) (subst (λ (x : Triple). q x ≡ true) e k)
            | inr d ↦ let h = kept_of q g w d in keeps q (with_item triple_cmp t g) w (with_old triple_cmp t g w h.0) h.1
          ],
        ))

    with_other : (t : Triple) → q t ≡ false → filter q (with_item triple_cmp t g) ≡ filter q g
    with_other t f = same_lists triple_cmp triple_total (filter q (with_item triple_cmp t g)) (filter q g) (more_ascend t) kept_ascend
        (λ w. (
          λ c. let h = kept_of q (with_item triple_cmp t g) w c in elim (with_cases triple_cmp t g w h.0) [ inl e ↦ absurd (differs t w f h.1 e) | inr d ↦ keeps q g w d h.1 ],
          λ c. let h = kept_of q g w c in keeps q (with_item triple_cmp t g) w (with_old triple_cmp t g w h.0) h.1,
        ))

  -- those that are asked for, of triples that are put into their places
  filter_each : (g ts : List Triple) → IsAscending triple_cmp g → filter q (with_each g ts) ≡ with_each (filter q g) (filter q ts)
  filter_each g [] a = refl
  filter_each g (t ∷ ts) a =
      filter_each (with_item triple_cmp t g) ts (IsAscending-with_item triple_total t g a) ∙ (elim (q t) as (λ b. q t ≡ b → with_each (filter q (with_item triple_cmp t g)) (filter q ts) ≡ with_each (filter q g) (cond b (t ∷ filter q ts) (filter q ts))) [
        | true ↦ λ k. ap (λ (h : List Triple). with_each h (filter q ts)) (with_asked g a t k)
        | false ↦ λ f. ap (λ (h : List Triple). with_each h (filter q ts)) (with_other g a t f)
      ] refl)

  module _ (terms : List Term) (p : Ids → Bool) (same : (i : Ids) → IsNumbered terms i → p i ≡ q (triple_at terms i)) where
    filter_graph : (ids : List Ids) → AreNumbered terms ids → graph_of terms (filter p ids) ≡ filter q (graph_of terms ids)
    filter_graph [] a = refl
    filter_graph (i ∷ ids) a =
        let more = filter_graph ids a.1 in
        let here : p i ≡ q (triple_at terms i) = same i a.0 in
        elim (p i) as (λ b. p i ≡ b → graph_of terms (cond b (i ∷ filter p ids) (filter p ids)) ≡ cond (q (triple_at terms i)) (triple_at terms i ∷ filter q (graph_of terms ids)) (filter q (graph_of terms ids))) [
          | true ↦ λ e. ap (λ (ts : List Triple). triple_at terms i ∷ ts) more ∙ sym (ap (λ b. cond b (triple_at terms i ∷ filter q (graph_of terms ids)) (filter q (graph_of terms ids))) (sym here ∙ e))
          | false ↦ λ e. more ∙ sym (ap (λ b. cond b (triple_at terms i ∷ filter q (graph_of terms ids)) (filter q (graph_of terms ids))) (sym here ∙ e))
        ] refl

    -- the first of those by number is the first that is asked for
    pub first_asked : (ids found : List Ids) → AreNumbered terms ids → found ≡ filter p ids → first_in (with_each [] (graph_of terms found)) ≡ first_in (filter q (with_each [] (graph_of terms ids)))
    first_asked ids found a e =
        ap (λ (js : List Ids). first_in (with_each [] (graph_of terms js))) e ∙ ap (λ (ts : List Triple). first_in (with_each [] ts)) (filter_graph ids a) ∙ ap first_in (sym (filter_each [] (graph_of terms ids) tt))

filtered : (terms : List Term) (p : Ids → Bool) (js : List Ids) → AreNumbered terms js → AreNumbered terms (filter p js)
filtered terms p [] b = tt
filtered terms p (j ∷ js) b = elim (p j) as (λ c. AreNumbered terms (cond c (j ∷ filter p js) (filter p js))) [
  | true ↦ (b.0, filtered terms p js b.1)
  | false ↦ filtered terms p js b.1
]

pub found_numbered : (terms : List Term) (p : Ids → Bool) (ids found : List Ids) → AreNumbered terms ids → found ≡ filter p ids → AreNumbered terms found
found_numbered terms p ids found a e = subst (λ (js : List Ids). AreNumbered terms js) (sym e) (filtered terms p ids a)

pub first_match : (ps : List Pattern) (ts : List Triple) → first_in (filter (is_found ps) ts) ≡ first_matching ps ts
first_match ps [] = refl
first_match ps (t ∷ ts) = elim (is_found ps t) as (λ b. first_in (cond b (t ∷ filter (is_found ps) ts) (filter (is_found ps) ts)) ≡ cond b (Some t) (first_matching ps ts)) [
  | true ↦ refl
  | false ↦ first_match ps ts
]

pub first_look : (ls : List (Look Term)) (ts : List Triple) → first_in (filter (is_read ls) ts) ≡ first_read ls ts
first_look ls [] = refl
first_look ls (t ∷ ts) = elim (is_read ls t) as (λ b. first_in (cond b (t ∷ filter (is_read ls) ts) (filter (is_read ls) ts)) ≡ cond b (Some t) (first_read ls ts)) [
  | true ↦ refl
  | false ↦ first_look ls ts
]
