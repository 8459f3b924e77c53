-- Lists that collect results, item by item.
use Rattle.std.proofs.Common.{◌≡◌, ◌∙◌, ℕ, ◌+◌, ◌<◌, ◌≤◌, false, List, [], ◌∷◌, ◌++◌, length, map, take, get_or, refl, sym, ap, append_assoc, arith, subst, inl, inr}
use Rattle.std.specs.Prelude.{◌↔◌}
use Rattle.std.specs.List.{Contains}
use Rattle.std.proofs.lemmas.List.{take_more, take_all}
use Rattle.std.proofs.lemmas.List.Elements.{Contains-append_left, Contains-append_right, Contains-append_cases}
use Rattle.collections.proofs.Members.{has_cases, has_equal, has_tail}
use Rattle.rdf_model.specs.declared.term.Term.{Term}
use Rattle.rdf_model.specs.Numbers.{term_at}
use Rattle.shape_model.specs.declared.result_row.ResultRow.{ResultRow}
use Rattle.shape_model.specs.Components.{Finding, ForEach, found_at}
use Rattle.collections.specs.Listings.{IsListing}
use Rattle.shape_model.specs.Rows.{result_row_cmp}
use Rattle.component_rows.specs.Listed.{Collects, Lists, at_nodes}
use Rattle.component_rows.specs.Nodes.{HasNode}

-- the results that some item of the list gives
abbrev pub FromSome : {X : Type 0} → List X → (X → ResultRow → Type 0) → ResultRow → Type 0
FromSome xs Gives r = (x : _) × Contains xs x × Gives x r

pub collects_same : (P Q : ResultRow → Type 0) (rows : List ResultRow) → ((r : ResultRow) → P r ↔ Q r) → Collects P rows → Collects Q rows
collects_same P Q rows e h r = (λ c. (e r).0 ((h r).0 c), λ q. (h r).1 ((e r).1 q))

pub collects_none : (P : ResultRow → Type 0) → ((r : ResultRow) → P r → ⊥) → Collects P []
collects_none P none r = (λ c. absurd (omega arith), λ p. absurd (none r p))

pub collects_one : (P : ResultRow → Type 0) (row : ResultRow) → P row → ((r : ResultRow) → P r → r ≡ row) → Collects P (row ∷ [])
collects_one P row is only r = (
  λ c. elim (has_cases row [] r c) [ inl e ↦ subst P e is | inr d ↦ absurd (omega arith) ],
  λ p. has_equal row [] r (sym (only r p)),
)

-- the same of lists in order
pub lists_same : (P Q : ResultRow → Type 0) (rows : List ResultRow) → ((r : ResultRow) → P r ↔ Q r) → Lists P rows → Lists Q rows
lists_same P Q rows e h = record { ascending = h.ascending; members = collects_same P Q rows e h.members }

pub lists_none : (P : ResultRow → Type 0) → ((r : ResultRow) → P r → ⊥) → Lists P []
lists_none P none = record { ascending = tt; members = collects_none P none }

pub lists_one : (P : ResultRow → Type 0) (row : ResultRow) → P row → ((r : ResultRow) → P r → r ≡ row) → Lists P (row ∷ [])
lists_one P row is only = record { ascending = (tt, tt); members = collects_one P row is only }

-- results that were put in order
pub lists_sorted : (P : ResultRow → Type 0) (rows sorted : List ResultRow) → Collects P rows → IsListing result_row_cmp (Contains rows) sorted → Lists P sorted
lists_sorted P rows sorted h k = record { ascending = k.ascending; members = λ r. ((λ c. (h r).0 ((k.members r).0 c)), (λ p. (k.members r).1 ((h r).1 p))) }

-- before the first item nothing is given
pub from_none : {X : Type 0} → (Gives : X → ResultRow → Type 0) → Collects (FromSome [] Gives) []
from_none Gives r = (λ c. absurd (omega arith), λ h. let c = h.1 in absurd (omega arith))

-- one item more gives its own results
pub from_more : {X : Type 0} → (Gives : X → ResultRow → Type 0) (xs : List X) (x : X) (rows more : List ResultRow) → Collects (FromSome xs Gives) rows → Collects (Gives x) more → Collects (FromSome (xs ++ x ∷ []) Gives) (rows ++ more)
from_more {X} Gives xs x rows more h k r = (
  λ c. elim (Contains-append_cases rows more r c) [
    | inl d ↦ let i = (h r).0 d in (i.0, Contains-append_left xs (x ∷ []) i.0 i.1, i.2)
    | inr d ↦ (x, Contains-append_right xs (x ∷ []) x (has_equal x [] x refl), (k r).0 d)
  ],
  λ i. elim (Contains-append_cases xs (x ∷ []) i.0 i.1) [
    | inl d ↦ Contains-append_left rows more r ((h r).1 (i.0, d, i.2))
    | inr d ↦ elim (has_cases x [] i.0 d) [
      | inl e ↦ Contains-append_right rows more r ((k r).1 (subst (λ (y : X). Gives y r) (sym e) i.2))
      | inr never ↦ absurd (omega arith)
    ]
  ],
)

-- what stands in a list that was made item by item
pub mapped_from : {X Y : Type 0} → (h : X → Y) (xs : List X) (y : Y) → Contains (map h xs) y → (x : X) × Contains xs x × (h x ≡ y)
mapped_from h [] y c = absurd (omega arith)
mapped_from h (x ∷ xs) y c = elim (has_cases (h x) (map h xs) y c) [
  | inl e ↦ (x, has_equal x xs x refl, e)
  | inr d ↦ let k = mapped_from h xs y d in (k.0, has_tail x xs k.0 k.1, k.2)
]

pub mapped_to : {X Y : Type 0} → (h : X → Y) (xs : List X) (x : X) → Contains xs x → Contains (map h xs) (h x)
mapped_to h [] x c = absurd (omega arith)
mapped_to h (z ∷ zs) x c = elim (has_cases z zs x c) [ inl e ↦ has_equal (h z) (map h zs) (h x) (ap h e) | inr d ↦ has_tail (h z) (map h zs) (h x) (mapped_to h zs x d) ]

-- by items, and by what they stand for
by_map : {X Y : Type 0} → (h : X → Y) (xs : List X) (Gives : Y → ResultRow → Type 0) (r : ResultRow) → FromSome xs (λ x r. Gives (h x) r) r ↔ FromSome (map h xs) Gives r
by_map {X} {Y} h xs Gives r = (
  λ i. (h i.0, mapped_to h xs i.0 i.1, i.2),
  λ i. let k = mapped_from h xs i.0 i.1 in (k.0, k.1, subst (λ (y : Y). Gives y r) (sym k.2) i.2),
)

-- a loop's next item gives its own results
pub loop_more : {X : Type 0} → (Gives : X → ResultRow → Type 0) (xs : List X) (i : ℕ) (d : X) (rows new : List ResultRow) → i < length xs
    → Collects (FromSome (take i xs) Gives) rows → ((more : List ResultRow) × (new ≡ rows ++ more) × Collects (Gives (get_or xs i d)) more) → Collects (FromSome (take (i + 1) xs) Gives) new
loop_more {X} Gives xs i d rows new lt h k =
    subst (λ (ys : List X). Collects (FromSome ys Gives) new) (sym (take_more xs i d lt))
    (subst (λ (all : List ResultRow). Collects (FromSome (take i xs ++ get_or xs i d ∷ []) Gives) all) (sym k.1) (from_more Gives (take i xs) (get_or xs i d) rows k.0 h k.2))

-- and its end all of them, said of what the items stand for
pub loop_end : {X Y : Type 0} → (h : X → Y) (Gives : Y → ResultRow → Type 0) (xs : List X) (i : ℕ) (rows : List ResultRow) → length xs ≤ i
    → Collects (FromSome (take i xs) (λ x r. Gives (h x) r)) rows → Collects (FromSome (map h xs) Gives) rows
loop_end {X} {Y} h Gives xs i rows le all =
    collects_same (FromSome xs (λ x r. Gives (h x) r)) (FromSome (map h xs) Gives) rows (by_map h xs Gives)
    (subst (λ (ys : List X). Collects (FromSome ys (λ x r. Gives (h x) r)) rows) (take_all i xs le) all)

-- of value nodes: the results about those of which P holds
pub about_each : (terms : List Term) (P : Term → Type 0) (row : Finding → ResultRow) (ns : List ℕ) (i : ℕ) (rows : List ResultRow) → length ns ≤ i
    → Collects (FromSome (take i ns) (λ n r. P (term_at terms n) × (r ≡ row (found_at (term_at terms n))))) rows → Collects (ForEach (at_nodes (HasNode terms ns)) row P) rows
about_each terms P row ns i rows le all =
    collects_same (FromSome (map (term_at terms) ns) (λ v r. P v × (r ≡ row (found_at v)))) (ForEach (at_nodes (HasNode terms ns)) row P) rows
    (λ r. (λ h. (h.0, h.1, h.2.0, h.2.1), λ h. (h.0, h.1, (h.2, h.3))))
    (loop_end (term_at terms) (λ v r. P v × (r ≡ row (found_at v))) ns i rows le all)

-- results that were added before, and those of one item more
pub grown : {X : Type 0} → (Gives : X → ResultRow → Type 0) (xs : List X) (i : ℕ) (d : X) (old rows new : List ResultRow) → i < length xs
    → ((more : List ResultRow) × (rows ≡ old ++ more) × Collects (FromSome (take i xs) Gives) more)
    → ((more : List ResultRow) × (new ≡ rows ++ more) × Collects (Gives (get_or xs i d)) more)
    → (more : List ResultRow) × (new ≡ old ++ more) × Collects (FromSome (take (i + 1) xs) Gives) more
grown {X} Gives xs i d old rows new lt h k =
    (h.0 ++ k.0, k.1 ∙ ap (λ (rs : List ResultRow). rs ++ k.0) h.1 ∙ append_assoc old h.0 k.0, loop_more Gives xs i d h.0 (h.0 ++ k.0) lt h.2 (k.0, refl, k.2))

pub all_grown : {X : Type 0} → (Gives : X → ResultRow → Type 0) (xs : List X) (i : ℕ) (old rows : List ResultRow) → length xs ≤ i
    → ((more : List ResultRow) × (rows ≡ old ++ more) × Collects (FromSome (take i xs) Gives) more)
    → (more : List ResultRow) × (rows ≡ old ++ more) × Collects (FromSome xs Gives) more
all_grown {X} Gives xs i old rows le h = (h.0, h.1, subst (λ (ys : List X). Collects (FromSome ys Gives) h.0) (take_all i xs le) h.2)

pub loop_all : {X : Type 0} → (Gives : X → ResultRow → Type 0) (xs : List X) (i : ℕ) (rows : List ResultRow) → length xs ≤ i → Collects (FromSome (take i xs) Gives) rows → Collects (FromSome xs Gives) rows
loop_all {X} Gives xs i rows le h = subst (λ (ys : List X). Collects (FromSome ys Gives) rows) (take_all i xs le) h

-- the one result that is added where the answer is no
pub without_test : (row : ResultRow) (rows new : List ResultRow) → ((more : List ResultRow) × (new ≡ rows ++ more) × Collects (λ r. (false ≡ false) × (r ≡ row)) more)
    → (more : List ResultRow) × (new ≡ rows ++ more) × Collects (λ r. r ≡ row) more
without_test row rows new h = (h.0, h.1, collects_same (λ r. (false ≡ false) × (r ≡ row)) (λ r. r ≡ row) h.0 (λ r. (λ p. p.1, λ e. (refl, e))) h.2)
