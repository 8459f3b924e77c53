-- Rows of plans that are listed by the predicates that they ask of.
use Rattle.std.proofs.Common.{◌≡◌, ◌∙◌, Bool, true, false, ℕ, ◌+◌, ◌<◌, ◌≤◌, List, [], ◌∷◌, ◌++◌, length, map, take, get_or, refl, sym, ap, subst, arith, inl, inr}
use Rattle.std.specs.Prelude.{◌⊎◌, ◌↔◌, ltb}
use Rattle.std.specs.List.{Contains}
use Rattle.std.proofs.lemmas.Bool.{ltb-false, ltb-true}
use Rattle.std.proofs.lemmas.List.{get_or_default, take_all}
use Rattle.std.proofs.lemmas.List.Elements.{Contains-append_cases, Contains-append_left, Contains-append_right}
use Rattle.collections.proofs.Members.{has_cases, has_equal}
use Rattle.path_eval.proofs.Footprints.{some_next}
use Rattle.path_eval.proofs.Mirrors.{mapped_from, mapped_to}
use Rattle.focus_affected.specs.declared.plan.NumberedKind.{NumberedKind}
use Rattle.focus_affected.specs.declared.plan.NumberedKind.TheVariants.{Out, In, OutAny}
use Rattle.focus_affected.specs.declared.plan.NumberedLook.{NumberedLook}
use Rattle.focus_affected.specs.declared.plan.ShapePlan.{ShapePlan}
use Rattle.focus_affected.specs.declared.index.IndexedRow.{IndexedRow}
use Rattle.focus_affected.specs.declared.index.RowPlace.{RowPlace}
use Rattle.focus_affected.specs.Plans.{IsOf}
use Rattle.focus_affected.specs.Index.{IsAskedOf, IsBefore, IsItem, IsKindAt, IsRowAt, ListsRows, any_added, indexed, rows_added}

pub rows_same : (P Q : RowPlace → NumberedKind → Type 0) (rows : List IndexedRow) (any : List RowPlace) → ((at : RowPlace) (kind : NumberedKind) → P at kind ↔ Q at kind) → ListsRows P rows any → ListsRows Q rows any
rows_same P Q rows any e l = record {
  under = λ r. (λ c. let k = (l.under r).0 c in (k.0, (e r.at k.0).0 k.1, k.2), λ h. (l.under r).1 (h.0, (e r.at h.0).1 h.1, h.2));
  anywhere = λ at. (λ c. (e at OutAny).0 ((l.anywhere at).0 c), λ h. (l.anywhere at).1 ((e at OutAny).1 h));
}

no_item : {X : Type 0} → (x : X) → Contains [] x → ⊥
no_item x c = absurd (omega (arith, c.1))

pub rows_none : (P : RowPlace → NumberedKind → Type 0) → ((at : RowPlace) (kind : NumberedKind) → P at kind → ⊥) → (rows : List IndexedRow) (any : List RowPlace) → rows ≡ [] → any ≡ [] → ListsRows P rows any
rows_none P never rows any e d = record {
  under = λ r. (λ c. absurd (no_item r (subst (λ (l : List IndexedRow). Contains l r) e c)), λ h. absurd (never r.at h.0 h.1));
  anywhere = λ at. (λ c. absurd (no_item at (subst (λ (l : List RowPlace). Contains l at) d c)), λ h. absurd (never at OutAny h));
}

-- what a row adds
one_cases : {X : Type 0} → (y x : X) → Contains (y ∷ []) x → y ≡ x
one_cases y x c = elim (has_cases y [] x c) [ inl e ↦ e | inr d ↦ absurd (no_item x d) ]

one_row : (p : ℕ) (at : RowPlace) (r : IndexedRow) → Contains (indexed p at ∷ []) r ↔ ((at ≡ r.at) × (p ≡ r.predicate))
one_row p at r = (
  λ c. let e = one_cases (indexed p at) r c in (ap (λ (q : IndexedRow). q.at) e, ap (λ (q : IndexedRow). q.predicate) e),
  λ h. let e : indexed p at ≡ r = λ i. record { predicate = h.1 i; at = h.0 i } in has_equal (indexed p at) [] r e,
)

added_under : (kind : NumberedKind) (at : RowPlace) (r : IndexedRow) → Contains (rows_added kind at) r ↔ ((at ≡ r.at) × IsOf kind r.predicate)
added_under (Out p) at r = one_row p at r
added_under (In p) at r = one_row p at r
added_under OutAny at r = (λ c. absurd (no_item r c), λ h. absurd h.1)

abbrev is_any : NumberedKind → Type 0
is_any (Out p) = ⊥
is_any (In p) = ⊥
is_any OutAny = Unit {0}

added_anywhere : (kind : NumberedKind) (at x : RowPlace) → Contains (any_added kind at) x ↔ ((at ≡ x) × (kind ≡ OutAny))
added_anywhere (Out p) at x = (λ c. absurd (no_item x c), λ h. absurd (subst is_any (sym h.1) tt))
added_anywhere (In p) at x = (λ c. absurd (no_item x c), λ h. absurd (subst is_any (sym h.1) tt))
added_anywhere OutAny at x = (λ c. (one_cases at x c, refl), λ h. has_equal at [] x h.0)

pub rows_more : (P : RowPlace → NumberedKind → Type 0) (kind : NumberedKind) (at : RowPlace) (rows later : List IndexedRow) (any more : List RowPlace) → later ≡ rows ++ rows_added kind at → more ≡ any ++ any_added kind at
    → ListsRows P rows any → ListsRows (λ x k. P x k ⊎ ((at ≡ x) × (kind ≡ k))) later more
rows_more P kind at rows later any more e d l = record {
  under = λ r. (
    λ c. elim (Contains-append_cases rows (rows_added kind at) r (subst (λ (rs : List IndexedRow). Contains rs r) e c)) [
      | inl b ↦ let k = (l.under r).0 b in (k.0, inl k.1, k.2)
      | inr b ↦ let k = (added_under kind at r).0 b in (kind, inr (k.0, refl), k.1)
    ],
    λ h. subst (λ (rs : List IndexedRow). Contains rs r) (sym e) (elim h.1 [
      | inl p ↦ Contains-append_left rows (rows_added kind at) r ((l.under r).1 (h.0, p, h.2))
      | inr q ↦ Contains-append_right rows (rows_added kind at) r ((added_under kind at r).1 (q.0, subst (λ (k : NumberedKind). IsOf k r.predicate) (sym q.1) h.2))
    ]),
  );
  anywhere = λ x. (
    λ c. elim (Contains-append_cases any (any_added kind at) x (subst (λ (xs : List RowPlace). Contains xs x) d c)) [
      | inl b ↦ inl ((l.anywhere x).0 b)
      | inr b ↦ inr ((added_anywhere kind at x).0 b)
    ],
    λ h. subst (λ (xs : List RowPlace). Contains xs x) (sym d) (elim h [
      | inl p ↦ Contains-append_left any (any_added kind at) x ((l.anywhere x).1 p)
      | inr q ↦ Contains-append_right any (any_added kind at) x ((added_anywhere kind at x).1 q)
    ]),
  );
}

last : (n m : ℕ) → m < n + 1 → (m < n) ⊎ (n ≡ m)
last n m lt = elim (ltb m n) as (λ (t : Bool). ltb m n ≡ t → (m < n) ⊎ (n ≡ m)) [ true ↦ λ e. inl (ltb-true m n e) | false ↦ λ e. let le = ltb-false m n e in inr (omega (arith, le, lt)) ] refl

-- row by row of a plan, and plan by plan
module _ (plans : List ShapePlan) where
  abbrev Before : ℕ → ℕ → RowPlace → NumberedKind → Type 0
  Before p j at kind = IsBefore p j at × IsKindAt plans at kind

  pub no_rows : (rows : List IndexedRow) (any : List RowPlace) → rows ≡ [] → any ≡ [] → ListsRows (λ at kind. IsBefore 0 0 at × IsKindAt plans at kind) rows any
  no_rows rows any e d = rows_none (Before 0 0) (λ at kind h. elim h.0 [ inl lt ↦ absurd (omega (arith, lt)) | inr b ↦ absurd (omega (arith, b.1)) ]) rows any e d

  module _ (p : ℕ) (plan : ShapePlan) (here : IsItem plans p plan) where
    is_plan : (q : ShapePlan) → IsItem plans p q → plan ≡ q
    is_plan q i = sym here.1 ∙ (get_or_default plans p plan q here.0 ∙ i.1)

    pub next_row : (j : ℕ) (look : NumberedLook) → IsItem plan.looks j look → (rows later : List IndexedRow) (any more : List RowPlace)
        → later ≡ rows ++ rows_added look.kind (record { plan = p; look = j }) → more ≡ any ++ any_added look.kind (record { plan = p; look = j })
        → ListsRows (λ at kind. IsBefore p j at × IsKindAt plans at kind) rows any → ListsRows (λ at kind. IsBefore p (j + 1) at × IsKindAt plans at kind) later more
    next_row j look item rows later any more e d l =
        let here_at : RowPlace = record { plan = p; look = j } in
        let row : IsRowAt plans here_at plan look = record { of_plans = here; of_plan = item } in
        rows_same (λ x k. Before p j x k ⊎ ((here_at ≡ x) × (look.kind ≡ k))) (Before p (j + 1)) later more
        (λ x k. (
          elim [
            | inl h ↦ (elim h.0 [ inl lt ↦ inl lt | inr b ↦ inr (b.0, omega (arith, b.1)) ], h.1)
            | inr q ↦ subst (λ (y : RowPlace). Before p (j + 1) y k) q.0 (inr (refl, omega arith), (plan, look, row, q.1))
          ],
          λ h. elim h.0 [
            | inl lt ↦ inl (inl lt, h.1)
            | inr b ↦ elim (last j x.look b.1) [
              | inl less ↦ inl (inr (b.0, less), h.1)
              | inr same ↦
                  let is : here_at ≡ x = λ i. record { plan = sym b.0 i; look = same i } in
                  let at_here = subst (λ (y : RowPlace). IsKindAt plans y k) (sym is) h.1 in
                  let q = is_plan at_here.0 at_here.2.of_plans in
                  let there : IsItem plan.looks j at_here.1 = subst (λ (o : ShapePlan). IsItem o.looks j at_here.1) (sym q) at_here.2.of_plan in
                  let w : look ≡ at_here.1 = sym item.1 ∙ (get_or_default plan.looks j look at_here.1 item.0 ∙ there.1) in
                  inr (is, ap (λ (m : NumberedLook). m.kind) w ∙ at_here.3)
            ]
          ],
        )) (rows_more (Before p j) look.kind here_at rows later any more e d l)

    pub next_plan : (j : ℕ) → length plan.looks ≤ j → (rows : List IndexedRow) (any : List RowPlace) → ListsRows (λ at kind. IsBefore p j at × IsKindAt plans at kind) rows any
        → ListsRows (λ at kind. IsBefore (p + 1) 0 at × IsKindAt plans at kind) rows any
    next_plan j le rows any l = rows_same (Before p j) (Before (p + 1) 0) rows any
        (λ x k. (
          λ h. (inl (elim h.0 [ inl lt ↦ omega (arith, lt) | inr b ↦ omega (arith, b.0) ]), h.1),
          λ h. elim h.0 [
            | inl lt ↦ elim (last p x.plan lt) [
              | inl less ↦ (inl less, h.1)
              | inr same ↦
                  let q = is_plan h.1.0 (subst (λ (n : ℕ). IsItem plans n h.1.0) (sym same) h.1.2.of_plans) in
                  let there : IsItem plan.looks x.look h.1.1 = subst (λ (o : ShapePlan). IsItem o.looks x.look h.1.1) (sym q) h.1.2.of_plan in
                  (inr (sym same, omega (arith, there.0, le)), h.1)
            ]
            | inr b ↦ absurd (omega (arith, b.1))
          ],
        )) l

  pub all_plans : (p : ℕ) → length plans ≤ p → (rows : List IndexedRow) (any : List RowPlace) → ListsRows (λ at kind. IsBefore p 0 at × IsKindAt plans at kind) rows any → ListsRows (IsKindAt plans) rows any
  all_plans p le rows any l = rows_same (Before p 0) (IsKindAt plans) rows any (λ x k. (λ h. h.1, λ h. (inl (omega (arith, h.2.of_plans.0, le)), h))) l

-- the same rows in another order
pub rows_sorted : (P : RowPlace → NumberedKind → Type 0) (rows sorted : List IndexedRow) (any : List RowPlace) → ((r : IndexedRow) → Contains sorted r ↔ Contains rows r) → ListsRows P rows any → ListsRows P sorted any
rows_sorted P rows sorted any same l = record {
  under = λ r. (λ c. (l.under r).0 ((same r).0 c), λ h. (same r).1 ((l.under r).1 h));
  anywhere = l.anywhere;
}

-- the rows under a predicate
pub pushed_under : (rows : List IndexedRow) (p : ℕ) (run : List IndexedRow) → ((r : IndexedRow) → Contains run r ↔ (Contains rows r × (r.predicate ≡ p))) → (places later : List RowPlace) → later ≡ places ++ map (λ (r : IndexedRow). r.at) run
    → (at : RowPlace) → Contains later at ↔ (Contains places at ⊎ Contains rows (indexed p at))
pushed_under rows p run runs places later e at = (
  λ c. elim (Contains-append_cases places (map (λ (r : IndexedRow). r.at) run) at (subst (λ (xs : List RowPlace). Contains xs at) e c)) [
    | inl b ↦ inl b
    | inr b ↦
        let k = mapped_from (λ (r : IndexedRow). r.at) run at b in
        let m = (runs k.0).0 k.1 in
        let is : k.0 ≡ indexed p at = λ i. record { predicate = m.1 i; at = k.2 i } in
        inr (subst (λ (r : IndexedRow). Contains rows r) is m.0)
  ],
  λ h. subst (λ (xs : List RowPlace). Contains xs at) (sym e) (elim h [
    | inl b ↦ Contains-append_left places (map (λ (r : IndexedRow). r.at) run) at b
    | inr b ↦ Contains-append_right places (map (λ (r : IndexedRow). r.at) run) at (mapped_to (λ (r : IndexedRow). r.at) run (indexed p at) ((runs (indexed p at)).1 (b, refl)))
  ]),
)

-- predicate by predicate
module _ (P : RowPlace → NumberedKind → Type 0) (rows : List IndexedRow) (any : List RowPlace) (listed : ListsRows P rows any) (predicates : List ℕ) where
  pub no_predicate : (places : List RowPlace) → places ≡ any → (at : RowPlace) → Contains places at ↔ ((kind : NumberedKind) × P at kind × IsAskedOf [] kind)
  no_predicate places e at = (
    λ c. (OutAny, (listed.anywhere at).0 (subst (λ (xs : List RowPlace). Contains xs at) e c), inl refl),
    λ h. elim h.2 [
      | inl q ↦ subst (λ (xs : List RowPlace). Contains xs at) (sym e) ((listed.anywhere at).1 (subst (λ (k : NumberedKind). P at k) q h.1))
      | inr b ↦ absurd (no_item b.0 b.1)
    ],
  )

  pub next_predicate : (i p : ℕ) → i < length predicates → p ≡ get_or predicates i p → (places later : List RowPlace) → ((at : RowPlace) → Contains later at ↔ (Contains places at ⊎ Contains rows (indexed p at)))
      → ((at : RowPlace) → Contains places at ↔ ((kind : NumberedKind) × P at kind × IsAskedOf (take i predicates) kind))
      → (at : RowPlace) → Contains later at ↔ ((kind : NumberedKind) × P at kind × IsAskedOf (take (i + 1) predicates) kind)
  next_predicate i p lt is places later step before at =
      let next = λ (kind : NumberedKind). some_next (λ (q : ℕ). IsOf kind q) predicates i p lt in (
        λ c. elim ((step at).0 c) [
          | inl b ↦ let k = (before at).0 b in (k.0, k.1, elim k.2 [ inl q ↦ inl q | inr o ↦ inr ((next k.0).1 (inl o)) ])
          | inr b ↦ let k = (listed.under (indexed p at)).0 b in (k.0, k.1, inr ((next k.0).1 (inr (subst (λ (q : ℕ). IsOf k.0 q) is k.2))))
        ],
        λ h. elim h.2 [
          | inl q ↦ (step at).1 (inl ((before at).1 (h.0, h.1, inl q)))
          | inr o ↦ elim ((next h.0).0 o) [
            | inl b ↦ (step at).1 (inl ((before at).1 (h.0, h.1, inr b)))
            | inr b ↦ (step at).1 (inr ((listed.under (indexed p at)).1 (h.0, h.1, subst (λ (q : ℕ). IsOf h.0 q) (sym is) b)))
          ]
        ],
      )

  pub all_predicates : (i : ℕ) → length predicates ≤ i → (places : List RowPlace) → ((at : RowPlace) → Contains places at ↔ ((kind : NumberedKind) × P at kind × IsAskedOf (take i predicates) kind))
      → (at : RowPlace) → Contains places at ↔ ((kind : NumberedKind) × P at kind × IsAskedOf predicates kind)
  all_predicates i le places before at = subst (λ (ps : List ℕ). Contains places at ↔ ((kind : NumberedKind) × P at kind × IsAskedOf ps kind)) (take_all i predicates le) (before at)
