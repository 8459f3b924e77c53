-- The results at value nodes, by the lists at their places.
use Rattle.std.proofs.Common.{◌≡◌, ◌∙◌, ℕ, ◌<◌, List, [], ◌∷◌, ◌++◌, length, map, get_or, refl, sym, subst, arith}
use Rattle.std.specs.List.{Contains}
use Rattle.std.proofs.lemmas.List.{get_or_default, take_all}
use Rattle.std.proofs.lemmas.List.Elements.{Contains-get_or}
use Rattle.rdf_model.specs.declared.term.Term.{Term}
use Rattle.rdf_model.specs.Numbers.{term_at}
use Rattle.shape_model.specs.declared.result_row.ResultRow.{ResultRow}
use Rattle.shape_model.specs.Components.{PropertyRow}
use Rattle.component_rows.specs.Listed.{Collects}
use Rattle.component_rows.proofs.Collecting.{FromSome, collects_same, from_more, loop_end, mapped_to}
use Rattle.logic_constraints.specs.Properties.{told_rows, with_property}

-- a list of no items
pub nothing_left : {X : Type 0} → (xs : List X) → length xs ≡ 0 → xs ≡ []
nothing_left [] e = refl
nothing_left (x ∷ xs) e = absurd (omega (arith, e))

-- the lists one after another give the results of each of them
pub lists_joined : {X : Type 0} → (rows_in : X → List ResultRow) (lists : List X) (all : List ResultRow) → Collects (FromSome lists (λ x r. Contains (rows_in x) r)) all
    → Collects (FromSome (map rows_in lists) (λ list r. Contains list r)) all
lists_joined {X} rows_in lists all h =
    loop_end rows_in (λ list r. Contains list r) lists (length lists) all (omega arith) (subst (λ (ls : List X). Collects (FromSome ls (λ x r. Contains (rows_in x) r)) all) (sym (take_all (length lists) lists (omega arith))) h)

-- one list more gives its own results
pub list_more : {X : Type 0} → (rows_in : X → List ResultRow) (lists : List X) (list : X) (all new : List ResultRow) → new ≡ all ++ rows_in list
    → Collects (FromSome lists (λ x r. Contains (rows_in x) r)) all → Collects (FromSome (lists ++ list ∷ []) (λ x r. Contains (rows_in x) r)) new
list_more {X} rows_in lists list all new is before =
    subst (λ (rows : List ResultRow). Collects (FromSome (lists ++ list ∷ []) (λ x r. Contains (rows_in x) r)) rows) (sym is)
    (from_more (λ x r. Contains (rows_in x) r) lists list all (rows_in list) before (λ r. (λ c. c, λ c. c)))

module _ (terms : List Term) (values : List ℕ) (shape : Term) (lists : List (List ResultRow)) (all : List ResultRow) where
  -- as results of the property shape
  pub told : length lists ≡ length values → Collects (FromSome lists (λ list r. Contains list r)) all → Collects (PropertyRow (told_rows terms values lists) (with_property shape)) all
  told many = collects_same (FromSome lists (λ list r. Contains list r)) (PropertyRow (told_rows terms values lists) (with_property shape)) all (λ r. (
    λ h.
        let i = h.1.0 in
        let lt = subst (λ (n : ℕ). i < n) many h.1.1 in
        let node = get_or values i 0 in (
          shape,
          (refl, refl),
          (
            term_at terms node,
            mapped_to (term_at terms) values node (Contains-get_or values i 0 lt),
            (i, lt, refl, subst (λ (list : List ResultRow). Contains list r) (sym h.1.2 ∙ get_or_default lists i h.0 [] h.1.1) h.2),
          ),
        ),
    λ h.
        let at = h.2.2 in
        let i = at.0 in
        (get_or lists i [], Contains-get_or lists i [] (subst (λ (n : ℕ). i < n) (sym many) at.1), at.3),
  ))
