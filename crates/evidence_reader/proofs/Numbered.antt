-- Components by their numbers.
use Rattle.std.proofs.Common.{◌≡◌, ◌∙◌, ℕ, zero, suc, ◌+◌, ◌<◌, ◌≤◌, List, [], ◌∷◌, take, get_or, Option, Some, None, Result, Ok, refl, sym, ap, subst, arith, inl, inr}
use Rattle.std.specs.Prelude.{MatchOption}
use Rattle.std.specs.List.{Contains}
use Rattle.std.specs.Cmp.{tied_itself}
use Rattle.std.specs.Fmt.{decimal}
use Rattle.std.specs.Ordering.{nat_cmp}
use Rattle.std.specs.declared.cmp.Ordering.TheVariants.{Equal}
use Rattle.std.specs.Str.{IsAscii, IsUtf8}
use Rattle.std.specs.Str.Parse.{AllDigits, ParsesUnsigned, digits_value}
use Rattle.std.proofs.lemmas.Cmp.{nat_cmp_total}
use Rattle.std.proofs.lemmas.Fmt.{decimal_is_IsNumeral, digits_value-decimal, parse-decimal}
use Rattle.std.proofs.lemmas.List.{take_all, take_more}
use Rattle.std.proofs.lemmas.List.Elements.{Contains-push_cases}
use Rattle.std.proofs.lemmas.Str.{IsUtf8-from_ascii}
use Rattle.std.proofs.lemmas.Str.Parse.{digit_at, numerals_by_value, tells_digits}
use Rattle.shape_model.specs.declared.component.Component.{Component}
use Rattle.shape_model.specs.declared.component.Component.TheVariants as components
use Rattle.shape_model.specs.Orders.{component_exact}
use Rattle.shape_model.specs.Rows.{component_number}
use Rattle.evidence_reader.specs.declared.components.TheConstants.{COMPONENTS}
use Rattle.evidence_reader.specs.Finding.{HasNo}

-- components of one number are one
pub one_number : (c d : Component) → component_number c ≡ component_number d → c ≡ d
one_number c d e = component_exact c d (subst (λ n. nat_cmp (component_number c) n ≡ Equal) e (tied_itself nat_cmp_total (component_number c)))

-- each stands in the list
listed : (c : Component) → Contains COMPONENTS c
listed components.Class = (0, omega arith, refl)
listed components.Datatype = (1, omega arith, refl)
listed components.NodeKind = (2, omega arith, refl)
listed components.MinCount = (3, omega arith, refl)
listed components.MaxCount = (4, omega arith, refl)
listed components.MinExclusive = (5, omega arith, refl)
listed components.MinInclusive = (6, omega arith, refl)
listed components.MaxExclusive = (7, omega arith, refl)
listed components.MaxInclusive = (8, omega arith, refl)
listed components.MinLength = (9, omega arith, refl)
listed components.MaxLength = (10, omega arith, refl)
listed components.Pattern = (11, omega arith, refl)
listed components.LanguageIn = (12, omega arith, refl)
listed components.UniqueLang = (13, omega arith, refl)
listed components.Equals = (14, omega arith, refl)
listed components.Disjoint = (15, omega arith, refl)
listed components.LessThan = (16, omega arith, refl)
listed components.LessThanOrEquals = (17, omega arith, refl)
listed components.Not = (18, omega arith, refl)
listed components.And = (19, omega arith, refl)
listed components.Or = (20, omega arith, refl)
listed components.Xone = (21, omega arith, refl)
listed components.Node = (22, omega arith, refl)
listed components.QualifiedMinCount = (23, omega arith, refl)
listed components.QualifiedMaxCount = (24, omega arith, refl)
listed components.Closed = (25, omega arith, refl)
listed components.HasValue = (26, omega arith, refl)
listed components.In = (27, omega arith, refl)

-- none so far has the number, nor has the next
pub none_with : (n i : ℕ) → i < 28 → ((c : Component) → Contains (take i COMPONENTS) c → component_number c ≡ n → ⊥) → (component_number (get_or COMPONENTS i components.Class) ≡ n → ⊥) → (c : Component) → Contains (take (i + 1) COMPONENTS) c → component_number c ≡ n → ⊥
none_with n i lt before here c k e = elim (Contains-push_cases (take i COMPONENTS) (get_or COMPONENTS i components.Class) c (subst (λ (cs : List Component). Contains cs c) (take_more COMPONENTS i components.Class lt) k)) [
  | inl d ↦ before c d e
  | inr f ↦ here (ap component_number f ∙ e)
]

-- none at all has it
pub none_at_all : (n i : ℕ) → 28 ≤ i → ((c : Component) → Contains (take i COMPONENTS) c → component_number c ≡ n → ⊥) → (c : Component) → component_number c ≡ n → ⊥
none_at_all n i le before c e = before c (subst (λ (cs : List Component). Contains cs c) (sym (take_all i COMPONENTS le)) (listed c)) e

-- their numbers are small, and their decimals are text
below_29 : (c : Component) → component_number c < 29
below_29 components.Class = omega arith
below_29 components.Datatype = omega arith
below_29 components.NodeKind = omega arith
below_29 components.MinCount = omega arith
below_29 components.MaxCount = omega arith
below_29 components.MinExclusive = omega arith
below_29 components.MinInclusive = omega arith
below_29 components.MaxExclusive = omega arith
below_29 components.MaxInclusive = omega arith
below_29 components.MinLength = omega arith
below_29 components.MaxLength = omega arith
below_29 components.Pattern = omega arith
below_29 components.LanguageIn = omega arith
below_29 components.UniqueLang = omega arith
below_29 components.Equals = omega arith
below_29 components.Disjoint = omega arith
below_29 components.LessThan = omega arith
below_29 components.LessThanOrEquals = omega arith
below_29 components.Not = omega arith
below_29 components.And = omega arith
below_29 components.Or = omega arith
below_29 components.Xone = omega arith
below_29 components.Node = omega arith
below_29 components.QualifiedMinCount = omega arith
below_29 components.QualifiedMaxCount = omega arith
below_29 components.Closed = omega arith
below_29 components.HasValue = omega arith
below_29 components.In = omega arith

digits_ascii : (ds : List ℕ) → AllDigits 10 ds → IsAscii ds
digits_ascii [] a i = omega arith
digits_ascii (d ∷ ds) a zero = let range = digit_at (d ∷ []) 0 (a.0, tt) (omega arith) in omega (arith, range.1)
digits_ascii (d ∷ ds) a (suc i) = digits_ascii ds a.1 i

pub number_is_text : (c : Component) → IsUtf8 (decimal (component_number c))
number_is_text c = let small = below_29 c in IsUtf8-from_ascii (decimal (component_number c)) (digits_ascii (decimal (component_number c)) ((decimal_is_IsNumeral (component_number c) (omega (arith, small))).0.1))

-- what the decimal of a number is read as
pub number_parsed : {E : Type 0} (c : Component) (text : List ℕ) (r : Result ℕ E) → text ≡ decimal (component_number c) → ParsesUnsigned 8 10 text r → r ≡ Ok (component_number c)
number_parsed c text r e p = let small = below_29 c in parse-decimal 8 (component_number c) text r (omega (arith, small)) (omega (arith, small)) e p

-- no digit ends a line
digits_no_end : (ds : List ℕ) → AllDigits 10 ds → HasNo 10 ds
digits_no_end ds a i lt e = let range = digit_at ds i a lt in omega (arith, range.0, e)

pub number_no_end : (c : Component) → HasNo 10 (decimal (component_number c))
number_no_end c = let small = below_29 c in digits_no_end (decimal (component_number c)) ((decimal_is_IsNumeral (component_number c) (omega (arith, small))).0.1)

pub same_number : (c d : Component) → decimal (component_number c) ≡ decimal (component_number d) → c ≡ d
same_number c d e =
    let own : (x : Component) → digits_value 10 (decimal (component_number x)) ≡ component_number x = λ x. let small = below_29 x in digits_value-decimal (numerals_by_value _ tells_digits) (component_number x) (omega (arith, small)) in
    one_number c d (sym (own c) ∙ ap (digits_value 10) e ∙ own d)

-- each component is one
pub is_component : (o : Option Component) → MatchOption o (Unit {0}) (λ _. Unit {0})
is_component None = tt
is_component (Some c) = tt
