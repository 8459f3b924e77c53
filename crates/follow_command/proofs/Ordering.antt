-- Places of an order.
use Rattle.std.proofs.Common.{◌≡◌, ◌∙◌, ◌==◌, ◌<◌, ◌≤◌, ◌+◌, ◌-◌, ◌^◌, ℕ, zero, suc, List, [], ◌∷◌, ◌++◌, length, map, take, drop, Option, None, Result, Ok, Err, refl, sym, ap, subst, arith, inl, inr}
use Rattle.std.specs.Prelude.{◌⊎◌, MatchOption, MatchResult, codes, slice_index_or}
use Rattle.std.specs.Str.{IsUtf8}
use Rattle.std.specs.Str.Parse.{ParsesUnsigned}
use Rattle.std.proofs.lemmas.Fmt.{IsAscii-decimal, parse-decimal}
use Rattle.std.proofs.lemmas.List.{take_all}
use Rattle.std.proofs.lemmas.Str.{IsUtf8-from_ascii}
use Rattle.std.specs.List.{AllByRecursion, slice_split}
use Rattle.std.specs.Io.BufRead.{strip_last}
use Rattle.std.specs.Fmt.{decimal}
use Rattle.follow_command.specs.declared.fault.FollowFault.{FollowFault}
use Rattle.follow_command.specs.declared.fault.FollowFault.TheVariants as fault
use Rattle.follow_command.specs.Order.{HasPlaces, IsFirstBad, IsOneOf, IsOrder, NameRecords, NamesNone, NamesRecord, RefusesOrder, RefusesPlaces}

decimals : (ns : List ℕ) (n : ℕ) → map decimal (ns ++ n ∷ []) ≡ map decimal ns ++ decimal n ∷ []
decimals [] n = refl
decimals (m ∷ ns) n = ap (λ (ps : List (List ℕ)). decimal m ∷ ps) (decimals ns n)

each_one : (count : ℕ) (ns : List ℕ) (n : ℕ) → AllByRecursion (IsOneOf count) ns → IsOneOf count n → AllByRecursion (IsOneOf count) (ns ++ n ∷ [])
each_one count [] n a o = (o, tt)
each_one count (m ∷ ns) n a o = (a.0, each_one count ns n a.1 o)

-- a place names one more
pub named_more : (count : ℕ) (places : List (List ℕ)) (place : List ℕ) (ns later : List ℕ) (n : ℕ) → NameRecords count places ns → NamesRecord count place n → later ≡ ns ++ n ∷ [] → NameRecords count (places ++ place ∷ []) later
named_more count places place ns later n a o e = subst (λ (xs : List ℕ). NameRecords count (places ++ place ∷ []) xs) (sym e) (record {
  places_are = (λ i. a.places_are i ++ o.0 i ∷ []) ∙ sym (decimals ns n);
  each = each_one count ns n a.each o.1;
})

-- a place names none
pub first_bad : (count k : ℕ) (all before : List (List ℕ)) (place : List ℕ) (rest : List (List ℕ)) (ns : List ℕ) → all ≡ before ++ place ∷ rest → NameRecords count before ns → NamesNone count place → k ≡ length ns + 1 → IsFirstBad count all k
first_bad count k all before place rest ns e a none is = record {
  numbers = ns;
  each = a.each;
  place = place;
  rest = rest;
  places_are = e ∙ ap (λ (ps : List (List ℕ)). ps ++ place ∷ rest) a.places_are;
  none = none;
  place_is = is;
}

-- A place that is read as a number of 64 bits.
module _ (count : ℕ) (place : List ℕ) (bound : count < 2 ^ 64) where
  pub unread : ParsesUnsigned {E = Unit {0}} 64 10 place (Err tt) → NamesNone count place
  unread p n h =
      let small = h.1.1 in
      let none : Result ℕ (Unit {0}) = Err tt in
      let r : none ≡ Ok n = parse-decimal 64 n place none (omega (arith, bound, small)) (omega (arith, bound, small)) h.0 p in cc

  -- it is the one that it may name
  read_as : (number : ℕ) → ParsesUnsigned {E = Unit {0}} 64 10 place (Ok number) → (n : ℕ) → NamesRecord count place n → number ≡ n
  read_as number p n h =
      let small = h.1.1 in
      let answer : Result ℕ (Unit {0}) = Ok number in
      let r : answer ≡ Ok n = parse-decimal 64 n place answer (omega (arith, bound, small)) (omega (arith, bound, small)) h.0 p in cc

  pub outside : (number : ℕ) → ParsesUnsigned {E = Unit {0}} 64 10 place (Ok number) → (number ≡ 0) ⊎ (count < number) → NamesNone count place
  outside number p (inl none) n h = let same = read_as number p n h in let low = h.1.0 in omega (arith, same, low, none)
  outside number p (inr over) n h = let same = read_as number p n h in let high = h.1.1 in omega (arith, same, high, over)

  pub other_spelling : (number : ℕ) (written : List ℕ) → ParsesUnsigned {E = Unit {0}} 64 10 place (Ok number) → written ≡ decimal number → (written ≡ place → ⊥) → NamesNone count place
  other_spelling number written p w other n h = other (w ∙ (ap decimal (read_as number p n h) ∙ sym h.0))

-- a decimal is ASCII
pub no_utf8 : (count : ℕ) (place : List ℕ) → count < 2 ^ 64 → (IsUtf8 place → ⊥) → NamesNone count place
no_utf8 count place bound none n h = let small = h.1.1 in none (subst IsUtf8 (sym h.0) (IsUtf8-from_ascii (decimal n) (IsAscii-decimal n (omega (arith, bound, small)))))

-- a list at one place
pub place_split : {A B : Type 0} (f : A → B) (xs : List A) (i : ℕ) (d : A) → i < length xs → (rest : List B) × (map f xs ≡ map f (take i xs) ++ f (slice_index_or xs i d) ∷ rest)
place_split f [] i d lt = absurd (omega (arith, lt))
place_split f (x ∷ xs) zero d lt = (map f xs, refl)
place_split {B = B} f (x ∷ xs) (suc i) d lt = let more = place_split f xs i d (omega (arith, lt)) in (more.0, ap (λ (ys : List B). f x ∷ ys) more.1)

-- the first part is the word
pub has_places : {A : Type 0} (f : A → List ℕ) (text line : List ℕ) (items : List A) (d : A) → line ≡ strip_last 10 text → map f items ≡ slice_split (λ c. c == 32) line → 1 ≤ length items → f (slice_index_or items 0 d) ≡ codes "order" → HasPlaces text (map f (drop 1 items))
has_places f text line [] d l e some word = absurd (omega (arith, some))
has_places f text line (x ∷ xs) d l e some word = ap (slice_split (λ c. c == 32)) (sym l) ∙ (sym e ∙ ap (λ (w : List ℕ). w ∷ map f xs) word)

-- the places are those of the text
pub ordered : {T : Type 0} (numbers : T → List ℕ) (answer : Result T FollowFault) (count : ℕ) (text : List ℕ) (places seen : List (List ℕ)) → HasPlaces text places → seen ≡ places → MatchResult answer (λ t. NameRecords count seen (numbers t)) (RefusesPlaces count seen)
    → MatchResult answer (λ t. IsOrder count text (numbers t)) (RefusesOrder count text)
ordered numbers (Ok t) count text places seen h e a = (places, h, subst (λ (ps : List (List ℕ)). NameRecords count ps (numbers t)) e a)
ordered numbers (Err fault.ReadFault) count text places seen h e a = a
ordered numbers (Err (fault.TooLong file)) count text places seen h e a = a
ordered numbers (Err (fault.BadLog number)) count text places seen h e a = a
ordered numbers (Err (fault.BadOrder place)) count text places seen h e a = inr (places, h, subst (λ (ps : List (List ℕ)). IsFirstBad count ps place) e a)
ordered numbers (Err fault.Memory) count text places seen h e a = a

pub whole_rest : {A : Type 0} (xs : List A) → take (length xs - 1) (drop 1 xs) ≡ drop 1 xs
whole_rest [] = take_all 0 [] (omega arith)
whole_rest (x ∷ xs) = take_all (length (x ∷ xs) - 1) xs (omega arith)

pub none_named : (P : Type 0) (Q : ℕ → Type 0) (o : Option ℕ) → o ≡ None → MatchOption o P Q → P
none_named P Q o e m = subst (λ (x : Option ℕ). MatchOption x P Q) e m
