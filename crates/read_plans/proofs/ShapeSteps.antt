-- The rows of a shape at a place, step by step.
use Rattle.std.proofs.Common.{◌≡◌, ◌∙◌, ◌<◌, ◌≤◌, ◌-◌, ℕ, zero, suc, Bool, true, false, List, [], ◌∷◌, ◌++◌, length, get_or, ap, refl, sym, arith}
use Rattle.std.specs.Prelude.{◌↔◌, IsTrue, Option, Some, None, slice_get, option_map, if◌then◌else◌}
use Rattle.std.specs.List.{flat_map}
use Rattle.std.proofs.lemmas.Option.{slice_get-map}
use Rattle.rdf_model.specs.declared.term.Term.{Term}
use Rattle.rdf_model.specs.Matching.{same_term}
use Rattle.rdf_model.proofs.SameTerms.{equal_same, same_equal}
use Rattle.shape_model.specs.Looks.{ByOutAny}
use Rattle.shape_model.specs.Paths.{Path}
use Rattle.shape_model.specs.Vocabulary.{true_literal}
use Rattle.shape_ast.specs.declared.shape.Shape.{Shape}
use Rattle.shape_ast.specs.Readings.{ReadShape, read_shape, read_shapes}
use Rattle.read_plans.specs.ShapeRows.{closed_rows, own_rows, referred_places, rows_with, shape_rows, value_way}

pub read_at : (shapes : List (Shape Term)) (n : ℕ) (s : Shape Term) → slice_get shapes n ≡ Some s → slice_get (read_shapes shapes) n ≡ Some (read_shape (λ t. t) s)
read_at shapes n s e = slice_get-map (read_shape (λ t. t)) shapes n ∙ ap (option_map (read_shape (λ t. t))) e

pub none_at : (shapes : List (Shape Term)) (n : ℕ) → slice_get shapes n ≡ None → slice_get (read_shapes shapes) n ≡ None
none_at shapes n e = slice_get-map (read_shape (λ t. t)) shapes n ∙ ap (option_map (read_shape (λ t. t))) e

module _ (shapes : List ReadShape) (place : ℕ) (q : List Path) where
  pub no_shape : (levels : ℕ) → slice_get shapes place ≡ None → shape_rows shapes levels place q ≡ []
  no_shape zero e = refl
  no_shape (suc levels) e = ap (λ (o : Option ReadShape). rows_with (shape_rows shapes levels) o q) e

  pub no_levels : (levels : ℕ) → levels ≡ 0 → shape_rows shapes levels place q ≡ []
  no_levels levels e = ap (λ (n : ℕ). shape_rows shapes n place q) e

  module _ (c : ReadShape) (at : slice_get shapes place ≡ Some c) where
    pub deactivated : (levels : ℕ) → c.is_deactivated ≡ true → shape_rows shapes levels place q ≡ []
    deactivated zero e = refl
    deactivated (suc levels) e =
        ap (λ (o : Option ReadShape). rows_with (shape_rows shapes levels) o q) at
        ∙ ap (λ (b : Bool). if b then [] else own_rows c q ++ flat_map (λ n. shape_rows shapes levels n (value_way c.path q)) (referred_places c)) e

    pub activated : (levels : ℕ) → 0 < levels → c.is_deactivated ≡ false
        → shape_rows shapes levels place q ≡ own_rows c q ++ flat_map (λ n. shape_rows shapes (levels - 1) n (value_way c.path q)) (referred_places c)
    activated zero lt e = absurd (omega (arith, lt))
    activated (suc levels) lt e =
        let less : suc levels - 1 ≡ levels = omega arith in
        ap (λ (o : Option ReadShape). rows_with (shape_rows shapes levels) o q) at
        ∙ ap (λ (b : Bool). if b then [] else own_rows c q ++ flat_map (λ n. shape_rows shapes levels n (value_way c.path q)) (referred_places c)) e
        ∙ ap (λ (k : ℕ). own_rows c q ++ flat_map (λ n. shape_rows shapes k n (value_way c.path q)) (referred_places c)) (sym less)

-- whether a value of sh:closed is true
module _ (b : Bool) (p : Term) (is : IsTrue b ↔ (p ≡ true_literal)) (w : List Path) where
  true_as : b ≡ same_term p true_literal
  true_as = elim b as (λ (a : Bool). (IsTrue a ↔ (p ≡ true_literal)) → a ≡ same_term p true_literal) [
    | true ↦ λ k. sym (equal_same p true_literal (k.0 refl))
    | false ↦ λ k. elim (same_term p true_literal) as (λ (a : Bool). same_term p true_literal ≡ a → false ≡ a) [
      | true ↦ λ h. (let never : false ≡ true = k.1 (same_equal p true_literal h) in never)
      | false ↦ λ h. refl
    ] refl
  ] is

  pub closed_row : b ≡ true → closed_rows p w ≡ record { way = w; kind = ByOutAny } ∷ []
  closed_row e = ap (λ (a : Bool). if a then record { way = w; kind = ByOutAny } ∷ [] else []) (sym true_as ∙ e)

  pub no_closed_row : b ≡ false → closed_rows p w ≡ []
  no_closed_row e = ap (λ (a : Bool). if a then record { way = w; kind = ByOutAny } ∷ [] else []) (sym true_as ∙ e)

pub got_at : {X : Type 0} → (xs : List X) (n : ℕ) (d : X) → n < length xs → slice_get xs n ≡ Some (get_or xs n d)
got_at [] n d lt = absurd (omega (arith, lt))
got_at (x ∷ xs) zero d lt = refl
got_at (x ∷ xs) (suc n) d lt = got_at xs n d (omega (arith, lt))

pub found_at : {X : Type 0} → (xs : List X) (n : ℕ) (x : X) → n < length xs → x ≡ get_or xs n x → slice_get xs n ≡ Some x
found_at xs n x lt e = got_at xs n x lt ∙ ap Some (sym e)

pub none_from : {X : Type 0} → (xs : List X) (n : ℕ) → length xs ≤ n → slice_get xs n ≡ None
none_from [] n le = refl
none_from (x ∷ xs) zero le = absurd (omega (arith, le))
none_from (x ∷ xs) (suc n) le = none_from xs n (omega (arith, le))

pub positive : (n : ℕ) → (n ≡ 0 → ⊥) → 0 < n
positive zero h = absurd (h refl)
positive (suc n) h = omega arith
