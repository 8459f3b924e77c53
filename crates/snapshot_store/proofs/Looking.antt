-- Looks are at triples of numbers where they read the triples that these stand for.
use Rattle.std.proofs.Common.{◌≡◌, ◌∙◌, ℕ, ◌<◌, ◌==◌, Bool, true, false, ◌&&◌, ◌||◌, List, [], ◌∷◌, ◌++◌, length, refl, sym, ap, subst, arith, inl, inr}
use Rattle.std.specs.Prelude.{◌⊎◌, MatchOption, Option, Some, None}
use Rattle.std.specs.List.{Contains}
use Rattle.std.specs.Ordering.{eq_by_cmp, is_eq, nat_cmp, ordering_then}
use Rattle.std.specs.Cmp.{IsTotalOrder, tied_itself, unsigned_tied}
use Rattle.std.specs.FinMap.{nat_cmp-IsAntisymmetric}
use Rattle.std.specs.declared.cmp.Ordering.{Ordering}
use Rattle.std.specs.declared.cmp.Ordering.TheVariants.{Less, Equal, Greater}
use Rattle.std.proofs.lemmas.Cmp.{nat_cmp_total, on_total, then_total}
use Rattle.collections.specs.Listings.{IsListing}
use Rattle.collections.specs.Ordered.{has_item}
use Rattle.collections.specs.Pairs.{pair_cmp, pair_exact}
use Rattle.collections.proofs.Members.{has_cases, has_equal, has_tail}
use Rattle.rdf_model.specs.declared.ids.Ids.{Ids}
use Rattle.rdf_model.specs.declared.look.Look.{Look}
use Rattle.rdf_model.specs.declared.look.Look.TheVariants.{Out, In, OutAny}
use Rattle.rdf_model.specs.declared.term.Term.{Term}
use Rattle.rdf_model.specs.Matching.{is_read, is_read_by, same_term}
use Rattle.rdf_model.specs.Numbers.{IsNumbering, term_at, triple_at}
use Rattle.numbered_patterns.proofs.Asking.{none_alike, one_alike}
use Rattle.triple_index.specs.Changes.{IsNumbered}
use Rattle.snapshot_store.specs.declared.looks.LookNumbers.{LookNumbers}
use Rattle.snapshot_store.specs.Asking.{AddsNumber, AddsPair, AreSorted, IsNumberAlike, IsPairAlike, IsUnnamed, LookAlike, LookSame, LooksBesides, NoneIsPaired, is_looked_at}
use Rattle.snapshot_store.proofs.Asking.{any_push, or_false}

pub pair_total : IsTotalOrder pair_cmp
pair_total = then_total (on_total (λ (x : ℕ × ℕ). x.0) nat_cmp_total) (on_total (λ (x : ℕ × ℕ). x.1) nat_cmp_total)

-- the number of a term
pub number_result : (terms : List Term) (t : Term) → IsNumbering terms → (o : Option ℕ) → MatchOption o (Contains terms t → ⊥) (λ n. (n < length terms) × (term_at terms n ≡ t)) → MatchOption o (IsUnnamed terms t) (IsNumberAlike terms t)
number_result terms t numbering None never = none_alike terms t never
number_result terms t numbering (Some m) h = λ n lt. unsigned_tied m n ∙ one_alike terms numbering t m h.0 h.1 n lt

both_tied : (o p : Ordering) → is_eq (ordering_then o p) ≡ (is_eq o && is_eq p)
both_tied Less p = refl
both_tied Equal p = refl
both_tied Greater p = refl

module _ (terms : List Term) (t u : Term) where
  pub pair_alike : (n m : ℕ) → IsNumberAlike terms t n → IsNumberAlike terms u m → IsPairAlike terms t u (n, m)
  pair_alike n m a b x y l k = both_tied (nat_cmp n x) (nat_cmp m y) ∙ (λ i. a x l i && b y k i)

  last_false : (a b : Bool) → b ≡ false → (a && b) ≡ false
  last_false true b h = h
  last_false false b h = refl

  pub none_first : IsUnnamed terms t → NoneIsPaired terms t u
  none_first a x y l k = ap (λ b. b && same_term u (term_at terms y)) (a x l)

  pub none_second : IsUnnamed terms u → NoneIsPaired terms t u
  none_second a x y l k = last_false (same_term t (term_at terms x)) (same_term u (term_at terms y)) (a y k)

  pub adds_pair : (before later : List (ℕ × ℕ)) (pair : ℕ × ℕ) → later ≡ before ++ pair ∷ [] → IsPairAlike terms t u pair → AddsPair terms t u before later
  adds_pair before later pair e alike n m l k =
      any_push (λ (x : ℕ × ℕ). eq_by_cmp pair_cmp x (n, m)) before later pair e ∙ ap (λ b. has_item pair_cmp (n, m) before || b) (alike n m l k)

  pub adds_no_pair : (before later : List (ℕ × ℕ)) → later ≡ before → NoneIsPaired terms t u → AddsPair terms t u before later
  adds_no_pair before later e none n m l k =
      ap (λ (xs : List (ℕ × ℕ)). has_item pair_cmp (n, m) xs) e ∙ sym (ap (λ b. has_item pair_cmp (n, m) before || b) (none n m l k) ∙ or_false (has_item pair_cmp (n, m) before))

module _ (terms : List Term) (t : Term) where
  pub adds_number : (before later : List ℕ) (number : ℕ) → later ≡ before ++ number ∷ [] → IsNumberAlike terms t number → AddsNumber terms t before later
  adds_number before later number e alike n l =
      any_push (λ (x : ℕ). eq_by_cmp nat_cmp x n) before later number e ∙ ap (λ b. has_item nat_cmp n before || b) (alike n l)

  pub adds_no_number : (before later : List ℕ) → later ≡ before → IsUnnamed terms t → AddsNumber terms t before later
  adds_no_number before later e none n l =
      ap (λ (xs : List ℕ). has_item nat_cmp n xs) e ∙ sym (ap (λ b. has_item nat_cmp n before || b) (none n l) ∙ or_false (has_item nat_cmp n before))

out_besides : (a b c x : Bool) → (((a || x) || b) || c) ≡ (((a || b) || c) || x)
out_besides true b c x = refl
out_besides false true c true = refl
out_besides false true c false = refl
out_besides false false true true = refl
out_besides false false true false = refl
out_besides false false false true = refl
out_besides false false false false = refl

in_besides : (a b c x : Bool) → ((a || (b || x)) || c) ≡ (((a || b) || c) || x)
in_besides true b c x = refl
in_besides false true c x = refl
in_besides false false true true = refl
in_besides false false true false = refl
in_besides false false false true = refl
in_besides false false false false = refl

any_besides : (a b c x : Bool) → ((a || b) || (c || x)) ≡ (((a || b) || c) || x)
any_besides true b c x = refl
any_besides false true c x = refl
any_besides false false c x = refl

module _ (terms : List Term) (l m : LookNumbers) where
  pub looks_out : (x p : Term) → AddsPair terms x p l.out.items m.out.items → m.into.items ≡ l.into.items → m.any.items ≡ l.any.items → LooksBesides terms (Out x p) l m
  looks_out x p a e f i h =
      (λ k. (a i.subject i.predicate h.0 h.1 k || has_item pair_cmp (i.predicate, i.object) (e k)) || has_item nat_cmp i.subject (f k))
      ∙ out_besides (has_item pair_cmp (i.subject, i.predicate) l.out.items) (has_item pair_cmp (i.predicate, i.object) l.into.items) (has_item nat_cmp i.subject l.any.items) (is_read_by (Out x p) (triple_at terms i))

  pub looks_in : (p x : Term) → m.out.items ≡ l.out.items → AddsPair terms p x l.into.items m.into.items → m.any.items ≡ l.any.items → LooksBesides terms (In p x) l m
  looks_in p x e a f i h =
      (λ k. (has_item pair_cmp (i.subject, i.predicate) (e k) || a i.predicate i.object h.1 h.2 k) || has_item nat_cmp i.subject (f k))
      ∙ in_besides (has_item pair_cmp (i.subject, i.predicate) l.out.items) (has_item pair_cmp (i.predicate, i.object) l.into.items) (has_item nat_cmp i.subject l.any.items) (is_read_by (In p x) (triple_at terms i))

  pub looks_any : (x : Term) → m.out.items ≡ l.out.items → m.into.items ≡ l.into.items → AddsNumber terms x l.any.items m.any.items → LooksBesides terms (OutAny x) l m
  looks_any x e f a i h =
      (λ k. (has_item pair_cmp (i.subject, i.predicate) (e k) || has_item pair_cmp (i.predicate, i.object) (f k)) || a i.subject h.0 k)
      ∙ any_besides (has_item pair_cmp (i.subject, i.predicate) l.out.items) (has_item pair_cmp (i.predicate, i.object) l.into.items) (has_item nat_cmp i.subject l.any.items) (is_read_by (OutAny x) (triple_at terms i))

  pub looks_more : (look : Look Term) (ls ks : List (Look Term)) → ks ≡ ls ++ look ∷ [] → LookAlike terms ls l → LooksBesides terms look l m → LookAlike terms ks m
  looks_more look ls ks e so_far step i h =
      step i h ∙ ap (λ b. b || is_read_by look (triple_at terms i)) (so_far i h) ∙ sym (any_push (λ (k : Look Term). is_read_by k (triple_at terms i)) ls ks look e)

-- what is found among items is found among the same in order
or_cases : (a b : Bool) → (a || b) ≡ true → (a ≡ true) ⊎ (b ≡ true)
or_cases true b h = inl refl
or_cases false b h = inr h

or_first : (a b : Bool) → a ≡ true → (a || b) ≡ true
or_first true b h = refl
or_first false b h = cc

or_last : (a b : Bool) → b ≡ true → (a || b) ≡ true
or_last true b h = refl
or_last false b h = h

is_equal : (o : Ordering) → is_eq o ≡ true → o ≡ Equal
is_equal Less e = cc
is_equal Equal e = refl
is_equal Greater e = cc

same_test : (a b : Bool) → (a ≡ true → b ≡ true) → (b ≡ true → a ≡ true) → a ≡ b
same_test true b f g = sym (f refl)
same_test false true f g = g refl
same_test false false f g = refl

module _ {X : Type 0} (R : X → X → Ordering) (total : IsTotalOrder R) (exact : (x y : X) → R x y ≡ Equal → x ≡ y) where
  there : (xs : List X) (x : X) → has_item R x xs ≡ true → Contains xs x
  there [] x h = cc
  there (y ∷ ys) x h = elim (or_cases (eq_by_cmp R y x) (has_item R x ys) h) [
    | inl e ↦ has_equal y ys x (exact y x (is_equal (R y x) e))
    | inr d ↦ has_tail y ys x (there ys x d)
  ]

  found : (xs : List X) (x : X) → Contains xs x → has_item R x xs ≡ true
  found [] x c = absurd (omega (arith, c.1))
  found (y ∷ ys) x c = elim (has_cases y ys x c) [
    | inl e ↦ or_first (eq_by_cmp R y x) (has_item R x ys) (subst (λ (z : X). eq_by_cmp R y z ≡ true) e (ap is_eq (tied_itself total y)))
    | inr d ↦ or_last (eq_by_cmp R y x) (has_item R x ys) (found ys x d)
  ]

  pub same_there : (xs ys : List X) (x : X) → IsListing R (Contains xs) ys → has_item R x ys ≡ has_item R x xs
  same_there xs ys x l = same_test (has_item R x ys) (has_item R x xs)
      (λ h. found xs x ((l.members x).0 (there ys x h)))
      (λ h. found ys x ((l.members x).1 (there xs x h)))

pub sorted_same : (l m : LookNumbers) → IsListing pair_cmp (Contains l.out.items) m.out.items → IsListing pair_cmp (Contains l.into.items) m.into.items → IsListing nat_cmp (Contains l.any.items) m.any.items → LookSame l m
sorted_same l m a b c i =
    let out = same_there pair_cmp pair_total pair_exact l.out.items m.out.items (i.subject, i.predicate) a in
    let into = same_there pair_cmp pair_total pair_exact l.into.items m.into.items (i.predicate, i.object) b in
    let any = same_there nat_cmp nat_cmp_total nat_cmp-IsAntisymmetric l.any.items m.any.items i.subject c in
    λ k. (out k || into k) || any k
