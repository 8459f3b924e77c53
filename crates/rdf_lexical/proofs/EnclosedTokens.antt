-- An IRIREF or a string is read to its end.
use Rattle.std.proofs.Common.{◌≡◌, ◌∙◌, nat_lt, ℕ, zero, suc, ◌+◌, ◌-◌, ◌<◌, true, false, cond, ◌==◌, List, [], ◌∷◌, ◌++◌, length, take, drop, Some, None, Ok, refl, sym, ap, subst, arith, append_assoc, length-append, inl, inr}
use Rattle.std.specs.Prelude.{replicate}
use Rattle.std.specs.List.{AllByRecursion}
use Rattle.std.proofs.lemmas.Bool.{eqb-true, eq-eqb}
use Rattle.std.proofs.lemmas.Bool.Decides.{nat_tests}
use Rattle.std.proofs.lemmas.List.{length-replicate}
use Rattle.std.proofs.Math.Seq.{drop-append_seam, take-append_seam}
use Rattle.rdf_lexical.specs.Escapes.{escaped_char, numbered_char}
use Rattle.rdf_lexical.specs.declared.quoting.Quotes.TheVariants.{Double, Single, LongDouble, LongSingle}
use Rattle.rdf_lexical.specs.declared.refusal.RefusalKind.TheVariants.{NoToken, BadEscape}
use Rattle.rdf_lexical.specs.declared.classes.Class.TheVariants.{Hexadecimal}
use Rattle.rdf_lexical.specs.declared.enclosing.Enclosed.{Enclosed}
use Rattle.rdf_lexical.specs.declared.enclosing.Enclosed.TheVariants.{Iri, Text}
use Rattle.rdf_lexical.specs.declared.enclosing.Piece.TheVariants.{Held, Closing, Faulty}
use Rattle.rdf_lexical.specs.declared.escapes.Escape.TheVariants as escapes
use Rattle.rdf_lexical.specs.Classes.{run_length}
use Rattle.rdf_lexical.specs.Escaping.{escape_of, numbered_escape, character_escape, escape_at}
use Rattle.rdf_lexical.specs.Enclosed.{mark, closing_length, may_hold, may_hold_escaped, escaped_unit, unit, leading_marks, with_marks, piece_after, next_piece, enclosed_length, opened}
use Rattle.rdf_lexical.specs.Productions.{AllOf, joined_texts, IsUchar, IsEchar, IsEscape, IsUnit, IsPiece}
use Rattle.rdf_lexical.proofs.Runs.{apart, run_all}
use Rattle.rdf_lexical.proofs.EnclosedSteps.{opened_zero, held_piece, closing_piece}

-- the escape by its digits
digits_met : (n : ℕ) (ds r : List ℕ) (v : ℕ) → length ds ≡ n → AllOf Hexadecimal ds → numbered_char ds ≡ Some v → numbered_escape n (ds ++ r) ≡ escapes.Character v (suc n)
digits_met n ds r v size all is =
    let run = run_all Hexadecimal ds r all in
    let enough : nat_lt (run_length Hexadecimal (ds ++ r)) n ≡ false = grind (arith, nat_tests) in
    let front : take n (ds ++ r) ≡ ds = ap (λ k. take k (ds ++ r)) (sym size) ∙ take-append_seam ds r in
    ap (λ b. cond b (cond (run_length Hexadecimal (ds ++ r) == length (ds ++ r)) escapes.Cut escapes.Faulty) (escape_of (suc n) (numbered_char (take n (ds ++ r))))) enough
    ∙ ap (λ x. escape_of (suc n) (numbered_char x)) front
    ∙ ap (escape_of (suc n)) is

-- a backslash's escape: the character and its length
abbrev pub Met : List ℕ → List ℕ → ℕ → Type 0
Met t r v = (n : ℕ) × (u : List ℕ) × (t ≡ 92 ∷ u) × (length u ≡ n) × (escape_at (u ++ r) ≡ escapes.Character v n) × (0 < n)

pub uchar_met : (t r : List ℕ) (v : ℕ) → IsUchar t v → (n : ℕ) × (u : List ℕ) × (t ≡ 92 ∷ u) × (length u ≡ n) × (escape_at (u ++ r) ≡ escapes.Character v n) × (1 < n)
uchar_met t r v (inl (ds, e, size, all, is)) = (5, 117 ∷ ds, e, omega arith, digits_met 4 ds r v size all is, omega arith)
uchar_met t r v (inr (ds, e, size, all, is)) = (9, 85 ∷ ds, e, omega arith, digits_met 8 ds r v size all is, omega arith)

not_at : (c n v : ℕ) → escaped_char c ≡ Some v → escaped_char n ≡ None → (c == n) ≡ false
not_at c n v here there = elim (c == n) as (λ b. (c == n) ≡ b → b ≡ false) [
  | true ↦ λ e. let same = eqb-true c n e in let both : None ≡ Some v = sym there ∙ ap escaped_char (sym same) ∙ here in cc
  | false ↦ λ e. refl
] refl

not_u : (c v : ℕ) → escaped_char c ≡ Some v → ((c == 117) ≡ false) × ((c == 85) ≡ false)
not_u c v is = (not_at c 117 v is refl, not_at c 85 v is refl)

pub echar_met : (t r : List ℕ) (v : ℕ) → IsEchar t v → Met t r v
echar_met t r v (c, e, is) =
    let other = not_u c v is in
    let value : escape_at (c ∷ r) ≡ escapes.Character v 1 =
    ap (λ b. cond b (numbered_escape 4 r) (cond (c == 85) (numbered_escape 8 r) (character_escape c))) other.0
    ∙ ap (λ b. cond b (numbered_escape 8 r) (character_escape c)) other.1
    ∙ ap (escape_of 1) is in
    (1, c ∷ [], e, refl, value, omega arith)

escape_unit : (e : Enclosed) (t r : List ℕ) (v n : ℕ) (u : List ℕ) → t ≡ 92 ∷ u → length u ≡ n → escape_at (u ++ r) ≡ escapes.Character v n → may_hold_escaped e v n ≡ true → unit e (t ++ r) ≡ Held (length t)
escape_unit e t r v n u is size met held =
    let whole : length t ≡ suc n = ap length is ∙ ap suc size in
    ap (λ x. unit e (x ++ r)) is ∙ ap (escaped_unit e) met ∙ ap (λ b. cond b (Held (suc n)) (Faulty BadEscape)) held ∙ ap (λ k. Held k) (sym whole)

escape_met : (e : Enclosed) (t r : List ℕ) → IsEscape e t → unit e (t ++ r) ≡ Held (length t)
escape_met Iri t r (v, uchar, held) =
    let met = uchar_met t r v uchar in
    let long : nat_lt 1 met.0 ≡ true = grind (arith, nat_tests, met.5) in
    let may : may_hold_escaped Iri v met.0 ≡ true = rw (long, held) refl in
    escape_unit Iri t r v met.0 met.1 met.2 met.3 met.4 may
escape_met (Text quotes) t r (v, inl uchar) = let met = uchar_met t r v uchar in escape_unit (Text quotes) t r v met.0 met.1 met.2 met.3 met.4 refl
escape_met (Text quotes) t r (v, inr echar) = let met = echar_met t r v echar in escape_unit (Text quotes) t r v met.0 met.1 met.2 met.3 met.4 refl

pub backslash_not_held : (e : Enclosed) → may_hold e 92 ≡ false
backslash_not_held Iri = refl
backslash_not_held (Text Double) = refl
backslash_not_held (Text Single) = refl
backslash_not_held (Text LongDouble) = refl
backslash_not_held (Text LongSingle) = refl

mark_not_held : (e : Enclosed) → may_hold e (mark e) ≡ false
mark_not_held Iri = refl
mark_not_held (Text Double) = refl
mark_not_held (Text Single) = refl
mark_not_held (Text LongDouble) = refl
mark_not_held (Text LongSingle) = refl

pub backslash_no_mark : (e : Enclosed) → (92 == mark e) ≡ false
backslash_no_mark Iri = refl
backslash_no_mark (Text Double) = refl
backslash_no_mark (Text Single) = refl
backslash_no_mark (Text LongDouble) = refl
backslash_no_mark (Text LongSingle) = refl

pub some_closing : (e : Enclosed) → 0 < closing_length e
some_closing Iri = omega arith
some_closing (Text Double) = omega arith
some_closing (Text Single) = omega arith
some_closing (Text LongDouble) = omega arith
some_closing (Text LongSingle) = omega arith

unit_met : (e : Enclosed) (t r : List ℕ) → IsUnit e t → unit e (t ++ r) ≡ Held (length t)
unit_met e t r (inl (c, is, held)) =
    let other = apart (may_hold e) c 92 held (backslash_not_held e) in
    subst (λ (x : List ℕ). unit e (x ++ r) ≡ Held (length x)) (sym is) (ap (λ b. cond b (escaped_unit e (escape_at r)) (cond (may_hold e c) (Held 1) (Faulty NoToken))) other ∙ ap (λ b. cond b (Held 1) (Faulty NoToken)) held)
unit_met e t r (inr escape) = escape_met e t r escape

-- it begins with no mark
pub other_first : (e : Enclosed) (c k : ℕ) (r : List ℕ) → (c == mark e) ≡ false → leading_marks (mark e) k (c ∷ r) ≡ 0
other_first e c k r other = elim (k == 0) as (λ b. cond b 0 (cond (c == mark e) (suc (leading_marks (mark e) (k - 1) r)) 0) ≡ 0) [
  | true ↦ refl
  | false ↦ ap (λ b. cond b (suc (leading_marks (mark e) (k - 1) r)) 0) other
]

escape_begins : (e : Enclosed) (t : List ℕ) → IsEscape e t → (u : List ℕ) × (t ≡ 92 ∷ u)
escape_begins Iri t (v, inl (ds, is, x, y, z), held) = (117 ∷ ds, is)
escape_begins Iri t (v, inr (ds, is, x, y, z), held) = (85 ∷ ds, is)
escape_begins (Text quotes) t (v, inl (inl (ds, is, x, y, z))) = (117 ∷ ds, is)
escape_begins (Text quotes) t (v, inl (inr (ds, is, x, y, z))) = (85 ∷ ds, is)
escape_begins (Text quotes) t (v, inr (c, is, x)) = (c ∷ [], is)

pub unit_first : (e : Enclosed) (t r : List ℕ) (k : ℕ) → IsUnit e t → (leading_marks (mark e) k (t ++ r) ≡ 0) × (0 < length t)
unit_first e t r k (inl (c, is, held)) = subst (λ (x : List ℕ). (leading_marks (mark e) k (x ++ r) ≡ 0) × (0 < length x)) (sym is) (other_first e c k r (apart (may_hold e) c (mark e) held (mark_not_held e)), omega arith)
unit_first e t r k (inr escape) = let begun = escape_begins e t escape in subst (λ (x : List ℕ). (leading_marks (mark e) k (x ++ r) ≡ 0) × (0 < length x)) (sym begun.1) (other_first e 92 k (begun.0 ++ r) (backslash_no_mark e), omega arith)

pub marks_met : (m n j : ℕ) (r : List ℕ) → leading_marks m j r ≡ 0 → leading_marks m (n + j) (replicate n m ++ r) ≡ n
marks_met m zero j r none = let e : 0 + j ≡ j = omega arith in ap (λ k. leading_marks m k r) e ∙ none
marks_met m (suc n) j r none =
    let some : (suc n + j == 0) ≡ false = grind (arith, nat_tests) in
    let less : suc n + j - 1 ≡ n + j = omega arith in
    ap (λ b. cond b 0 (cond (m == m) (suc (leading_marks m (suc n + j - 1) (replicate n m ++ r))) 0)) some
    ∙ ap (λ b. cond b (suc (leading_marks m (suc n + j - 1) (replicate n m ++ r))) 0) (eq-eqb m m refl)
    ∙ ap (λ k. suc (leading_marks m k (replicate n m ++ r))) less
    ∙ ap suc (marks_met m n j r none)

pub piece_met : (e : Enclosed) (p r : List ℕ) → IsPiece e p → (next_piece e (p ++ r) ≡ Held (length p)) × (0 < length p)
piece_met e p r (n, u, is, few, met) =
    let m = mark e in
    let k = closing_length e in
    let first = unit_first e u r (k - n) met in
    let whole : p ++ r ≡ replicate n m ++ (u ++ r) = ap (λ x. x ++ r) is ∙ append_assoc (replicate n m) u r in
    let size : length p ≡ n + length u = ap length is ∙ length-append (replicate n m) u ∙ ap (λ x. x + length u) (length-replicate n m) in
    let sum : n + (k - n) ≡ k = omega arith in
    let marks : leading_marks m k (p ++ r) ≡ n = ap (leading_marks m k) whole ∙ ap (λ x. leading_marks m x (replicate n m ++ (u ++ r))) (sym sum) ∙ marks_met m n (k - n) (u ++ r) first.0 in
    let other : (n == k) ≡ false = grind (arith, nat_tests) in
    let rest : drop n (p ++ r) ≡ u ++ r = ap (drop n) whole ∙ ap (λ x. drop x (replicate n m ++ (u ++ r))) (sym (length-replicate n m)) ∙ drop-append_seam (replicate n m) (u ++ r) in (
      ap (λ x. piece_after e x (p ++ r)) marks
          ∙ ap (λ b. cond b (Closing n) (with_marks n (unit e (drop n (p ++ r))))) other
          ∙ ap (λ x. with_marks n (unit e x)) rest
          ∙ ap (with_marks n) (unit_met e u r met)
          ∙ ap (λ x. Held x) (sym size),
      omega (arith, first.1),
    )

pub no_marks : (m : ℕ) (r : List ℕ) → leading_marks m 0 r ≡ 0
no_marks m [] = refl
no_marks m (c ∷ r) = refl

closing_met : (e : Enclosed) (r : List ℕ) → next_piece e (replicate (closing_length e) (mark e) ++ r) ≡ Closing (closing_length e)
closing_met e r =
    let m = mark e in
    let k = closing_length e in
    let sum : k + 0 ≡ k = omega arith in
    let marks : leading_marks m k (replicate k m ++ r) ≡ k = ap (λ x. leading_marks m x (replicate k m ++ r)) (sym sum) ∙ marks_met m k 0 r (no_marks m r) in
    ap (λ x. piece_after e x (replicate k m ++ r)) marks ∙ ap (λ b. cond b (Closing k) (with_marks k (unit e (drop k (replicate k m ++ r))))) (eq-eqb k k refl)

pub enclosed_met : (e : Enclosed) (ps : List (List ℕ)) (r : List ℕ) → AllByRecursion (IsPiece e) ps → enclosed_length e 0 ((joined_texts ps ++ replicate (closing_length e) (mark e)) ++ r) ≡ Ok (length (joined_texts ps ++ replicate (closing_length e) (mark e)))
enclosed_met e [] r all =
    let c = replicate (closing_length e) (mark e) in
    let size : length c ≡ closing_length e = length-replicate (closing_length e) (mark e) in
    let whole : length (c ++ r) ≡ length c + length r = length-append c r in
    let some = some_closing e in
    closing_piece e (c ++ r) (closing_length e) some (omega arith) (closing_met e r) ∙ ap (λ n. Ok n) (sym size)
enclosed_met e (q ∷ qs) r all =
    let c = replicate (closing_length e) (mark e) in
    let rest = (joined_texts qs ++ c) ++ r in
    let whole : ((q ++ joined_texts qs) ++ c) ++ r ≡ q ++ rest = ap (λ x. x ++ r) (append_assoc q (joined_texts qs) c) ∙ append_assoc q (joined_texts qs ++ c) r in
    let size : length ((q ++ joined_texts qs) ++ c) ≡ length q + length (joined_texts qs ++ c) = ap length (append_assoc q (joined_texts qs) c) ∙ length-append q (joined_texts qs ++ c) in
    let met = piece_met e q rest all.0 in
    let long : length (q ++ rest) ≡ length q + length rest = length-append q rest in
    let none : 0 + length q ≡ length q = omega arith in
    ap (enclosed_length e 0) whole
    ∙ sym (opened_zero (enclosed_length e 0 (q ++ rest)))
    ∙ held_piece e (q ++ rest) (length q) 0 met.1 (omega arith) met.0
    ∙ ap (λ n. opened n (enclosed_length e 0 (drop (length q) (q ++ rest)))) none
    ∙ ap (λ x. opened (length q) (enclosed_length e 0 x)) (drop-append_seam q rest)
    ∙ ap (opened (length q)) (enclosed_met e qs r all.1)
    ∙ ap (λ n. Ok n) (sym size)

-- a character that may stand for itself
pub held_character : (e : Enclosed) (cs after : List ℕ) (c count : ℕ) → cs ≡ c ∷ after → may_hold e c ≡ true → opened count (enclosed_length e 0 cs) ≡ opened (count + 1) (enclosed_length e 0 after)
held_character e cs after c count is held =
    ap (λ x. opened count (enclosed_length e 0 x)) is
    ∙ held_piece e (c ∷ after) 1 count (omega arith) (omega arith) (piece_met e (c ∷ []) after (0, c ∷ [], refl, some_closing e, inl (c, refl, held))).0
