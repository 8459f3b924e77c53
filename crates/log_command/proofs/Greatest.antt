-- The greatest numbers of blank nodes, and whether one is spent.
use Rattle.std.proofs.Common.{◌≡◌, ◌∙◌, ◌++◌, ◌+◌, ℕ, zero, suc, ◌<◌, ◌≤◌, Bool, true, false, List, [], ◌∷◌, ◌||◌, Option, Some, None, ap, sym, refl, arith, drop, get_or, length, subst}
use Rattle.std.specs.List.{AllByRecursion, flat_map, list_any}
use Rattle.std.proofs.lemmas.Bool.Decides.{nat_tests}
use Rattle.std.proofs.lemmas.List.Folds.{list_any-append}
use Rattle.rdf_model.specs.declared.term.Term.{Term}
use Rattle.rdf_model.specs.declared.term.Term.TheVariants.{Blank, Iri, Literal}
use Rattle.rdf_model.specs.declared.triple.Triple.{Triple}
use Rattle.record_text.specs.declared.record.Record.{Record}
use Rattle.store_model.specs.Store.{terms_of}
use Rattle.commit_core.specs.Restored.{record_terms, shapes_terms}
use Rattle.log_command.specs.Nodes.{IsFirstNumber, first_number, first_numbers, greatest, has_record_past_most, have_past_most, have_shapes_past_most, is_past_most, is_spent, larger, most_number, number_in, terms_in}

larger_of_none : (a : ℕ) → larger 0 a ≡ a
larger_of_none a = grind (arith, nat_tests)

larger_assoc : (a b c : ℕ) → larger (larger a b) c ≡ larger a (larger b c)
larger_assoc a b c = grind (arith, nat_tests)

larger_within : (a b m : ℕ) → a ≤ m → b ≤ m → larger a b ≤ m
larger_within a b m h k = grind (arith, nat_tests)

pub greatest_append : (session : ℕ) (xs ys : List Term) → greatest session (xs ++ ys) ≡ larger (greatest session xs) (greatest session ys)
greatest_append session [] ys = sym (larger_of_none (greatest session ys))
greatest_append session (x ∷ xs) ys = ap (larger (number_in session x)) (greatest_append session xs ys) ∙ sym (larger_assoc (number_in session x) (greatest session xs) (greatest session ys))

-- of a record, list by list
pub greatest_of : (session : ℕ) (r : Record) → greatest session (record_terms r) ≡ larger (greatest session (flat_map terms_of r.removed)) (larger (greatest session (flat_map terms_of r.added)) (greatest session (shapes_terms r.shapes)))
greatest_of session r =
    greatest_append session (flat_map terms_of r.removed) (flat_map terms_of r.added ++ shapes_terms r.shapes)
    ∙ ap (larger (greatest session (flat_map terms_of r.removed))) (greatest_append session (flat_map terms_of r.added) (shapes_terms r.shapes))

-- from the greatest numbers of its lists
pub greatest_by : (session a b c both all : ℕ) (r : Record) → a ≡ greatest session (flat_map terms_of r.removed) → b ≡ greatest session (flat_map terms_of r.added) → c ≡ greatest session (shapes_terms r.shapes)
    → both ≡ larger b c → all ≡ larger a both → all ≡ greatest session (record_terms r)
greatest_by session a b c both all r ea eb ec eboth eall =
    eall ∙ ap (λ n. larger n both) ea ∙ ap (larger (greatest session (flat_map terms_of r.removed))) (eboth ∙ ap (λ n. larger n c) eb ∙ ap (larger (greatest session (flat_map terms_of r.added))) ec) ∙ sym (greatest_of session r)

drop_next : (rs : List Record) (i : ℕ) (r : Record) → i < length rs → r ≡ get_or rs i r → drop i rs ≡ r ∷ drop (suc i) rs
drop_next [] i r lt is = absurd (omega (arith, lt))
drop_next (q ∷ qs) zero r lt is = ap (λ (x : Record). x ∷ qs) (sym is)
drop_next (q ∷ qs) (suc i) r lt is = drop_next qs i r (omega (arith, lt)) is

-- one record more
pub greatest_on : (session g next more : ℕ) (rs : List Record) (i : ℕ) (r : Record) → i < length rs → r ≡ get_or rs i r → next ≡ greatest session (record_terms r) → more ≡ larger g next
    → larger g (greatest session (terms_in (drop i rs))) ≡ greatest session (terms_in rs) → larger more (greatest session (terms_in (drop (i + 1) rs))) ≡ greatest session (terms_in rs)
greatest_on session g next more rs i r lt is en em h =
    let rest = greatest session (terms_in (drop (i + 1) rs)) in
    let front : drop i rs ≡ r ∷ drop (i + 1) rs = let one : suc i ≡ i + 1 = omega arith in subst (λ n. drop i rs ≡ r ∷ drop n rs) one (drop_next rs i r lt is) in
    let all : greatest session (terms_in (drop i rs)) ≡ larger (greatest session (record_terms r)) rest = ap (λ (xs : List Record). greatest session (terms_in xs)) front ∙ greatest_append session (record_terms r) (terms_in (drop (i + 1) rs)) in
    ap (λ n. larger n rest) (em ∙ ap (larger g) en) ∙ larger_assoc g (greatest session (record_terms r)) rest ∙ sym (ap (larger g) all) ∙ h

any_flat_map : {X A : Type 0} (p : A → Bool) (f : X → List A) (xs : List X) → list_any p (flat_map f xs) ≡ list_any (λ x. list_any p (f x)) xs
any_flat_map p f [] = refl
any_flat_map p f (x ∷ xs) = list_any-append p (f x) (flat_map f xs) ∙ ap (λ b. list_any p (f x) || b) (any_flat_map p f xs)

same_any : {X : Type 0} (p q : X → Bool) → ((x : X) → p x ≡ q x) → (xs : List X) → list_any p xs ≡ list_any q xs
same_any p q h [] = refl
same_any p q h (x ∷ xs) = ap (λ b. b || list_any p xs) (h x) ∙ ap (λ b. q x || b) (same_any p q h xs)

shapes_any : (shapes : Option (List Triple)) → list_any is_past_most (shapes_terms shapes) ≡ have_shapes_past_most shapes
shapes_any None = refl
shapes_any (Some triples) = any_flat_map is_past_most terms_of triples

or_assoc : (a b c : Bool) → (a || (b || c)) ≡ ((a || b) || c)
or_assoc true b c = refl
or_assoc false b c = refl

record_any : (r : Record) → list_any is_past_most (record_terms r) ≡ has_record_past_most r
record_any r =
    list_any-append is_past_most (flat_map terms_of r.removed) (flat_map terms_of r.added ++ shapes_terms r.shapes)
    ∙ ap (λ b. list_any is_past_most (flat_map terms_of r.removed) || b) (list_any-append is_past_most (flat_map terms_of r.added) (shapes_terms r.shapes))
    ∙ ap (λ b. b || (list_any is_past_most (flat_map terms_of r.added) || list_any is_past_most (shapes_terms r.shapes))) (any_flat_map is_past_most terms_of r.removed)
    ∙ ap (λ b. have_past_most r.removed || (b || list_any is_past_most (shapes_terms r.shapes))) (any_flat_map is_past_most terms_of r.added)
    ∙ ap (λ b. have_past_most r.removed || (have_past_most r.added || b)) (shapes_any r.shapes)
    ∙ or_assoc (have_past_most r.removed) (have_past_most r.added) (have_shapes_past_most r.shapes)

pub spent_by_records : (records : List Record) → list_any has_record_past_most records ≡ is_spent records
spent_by_records records = sym (any_flat_map is_past_most record_terms records ∙ same_any (λ r. list_any is_past_most (record_terms r)) has_record_past_most record_any records)

-- where none is spent, no number is past the most
neither : (a b : Bool) → (a || b) ≡ false → (a ≡ false) × (b ≡ false)
neither false b h = (refl, h)
neither true b h = cc

number_within : (session : ℕ) (t : Term) → is_past_most t ≡ false → number_in session t ≤ most_number
number_within session (Blank s n) h = grind (arith, nat_tests)
number_within session (Iri a) h = omega arith
number_within session (Literal lexical datatype language) h = omega arith

pub greatest_within : (session : ℕ) (ts : List Term) → list_any is_past_most ts ≡ false → greatest session ts ≤ most_number
greatest_within session [] h = omega arith
greatest_within session (t ∷ ts) h =
    let k = neither (is_past_most t) (list_any is_past_most ts) h in
    larger_within (number_in session t) (greatest session ts) most_number (number_within session t k.0) (greatest_within session ts k.1)

all_more : {X : Type 0} (P : X → Type 0) (xs : List X) (x : X) → AllByRecursion P xs → P x → AllByRecursion P (xs ++ x ∷ [])
all_more P [] x a h = (h, tt)
all_more P (y ∷ ys) x a h = (a.0, all_more P ys x a.1 h)

pub numbers_within : (records : List Record) (n : ℕ) → is_spent records ≡ false → AllByRecursion IsFirstNumber (first_numbers records n)
numbers_within records zero h = tt
numbers_within records (suc n) h =
    let within : greatest (n + 1) (terms_in records) ≤ most_number = greatest_within (n + 1) (terms_in records) h in
    all_more IsFirstNumber (first_numbers records n) (first_number records (n + 1)) (numbers_within records n h) (omega arith, omega (arith, within))
