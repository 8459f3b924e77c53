-- What is read to its end is what an IRIREF or a string holds, and what closes it.
use Rattle.std.proofs.Common.{◌≡◌, ◌∙◌, nat_lt, ℕ, zero, suc, ◌-◌, ◌<◌, ◌≤◌, Bool, true, false, cond, ◌==◌, ◌&&◌, List, [], ◌∷◌, ◌++◌, length, take, drop, Some, None, Result, Ok, Err, refl, sym, ap, subst, arith, append_assoc, ◌⊎◌, inl, inr}
use Rattle.std.specs.Prelude.{replicate}
use Rattle.std.proofs.lemmas.Bool.{eqb-true}
use Rattle.std.proofs.lemmas.Bool.Decides.{nat_tests}
use Rattle.std.proofs.lemmas.List.{length-take-le}
use Rattle.std.proofs.Math.Seq.{take-add}
use Rattle.rdf_lexical.specs.Characters.{is_iri_char}
use Rattle.rdf_lexical.specs.Escapes.{escaped_char, numbered_char}
use Rattle.rdf_lexical.specs.declared.refusal.RefusalKind.{RefusalKind}
use Rattle.rdf_lexical.specs.declared.refusal.RefusalKind.TheVariants.{NoToken, BadEscape}
use Rattle.rdf_lexical.specs.declared.classes.Class.{Class}
use Rattle.rdf_lexical.specs.declared.classes.Class.TheVariants.{Hexadecimal}
use Rattle.rdf_lexical.specs.declared.enclosing.Enclosed.{Enclosed}
use Rattle.rdf_lexical.specs.declared.enclosing.Enclosed.TheVariants.{Iri, Text}
use Rattle.rdf_lexical.specs.declared.enclosing.Piece.{Piece}
use Rattle.rdf_lexical.specs.declared.enclosing.Piece.TheVariants.{Held, Closing, Faulty}
use Rattle.rdf_lexical.specs.declared.escapes.Escape.{Escape}
use Rattle.rdf_lexical.specs.declared.escapes.Escape.TheVariants as escapes
use Rattle.rdf_lexical.specs.Classes.{holds, run_length}
use Rattle.rdf_lexical.specs.Escaping.{escape_of, numbered_escape, character_escape, escape_at}
use Rattle.rdf_lexical.specs.Enclosed.{mark, closing_length, may_hold, may_hold_escaped, escaped_unit, unit, leading_marks, with_marks, next_piece, one_more, with_piece, enclosed_length}
use Rattle.rdf_lexical.specs.Productions.{AllOf, joined_texts, IsUchar, IsEchar, IsEscape, IsUnit, IsPiece, IsEnclosed}
use Rattle.rdf_lexical.proofs.Runs.{run_bound}

fewer_of : (k : Class) (n : ℕ) (cs : List ℕ) → n ≤ run_length k cs → AllOf k (take n cs)
fewer_of k zero cs h = tt
fewer_of k (suc n) [] h = absurd (omega arith)
fewer_of k (suc n) (c ∷ cs) h = elim (holds k c) as (λ b. holds k c ≡ b → suc n ≤ cond b (suc (run_length k cs)) 0 → AllOf k (c ∷ take n cs)) [
  | true ↦ λ e f. (e, fewer_of k n cs (omega arith))
  | false ↦ λ e f. absurd (omega arith)
] refl h

abbrev IsEscapeOf : Escape → List ℕ → Type 0
IsEscapeOf (escapes.Character v l) r = (IsUchar (92 ∷ take l r) v × (1 < l)) ⊎ (IsEchar (92 ∷ take l r) v × (l ≡ 1))
IsEscapeOf escapes.Cut r = Unit {0}
IsEscapeOf escapes.Faulty r = Unit {0}

-- what the digits give
digits_shape : (n d : ℕ) (ds : List ℕ) → n ≤ run_length Hexadecimal ds → ((v : ℕ) → numbered_char (take n ds) ≡ Some v → IsUchar (92 ∷ d ∷ take n ds) v) → 0 < n → IsEscapeOf (escape_of (suc n) (numbered_char (take n ds))) (d ∷ ds)
digits_shape n d ds most made some = elim (numbered_char (take n ds)) as (λ o. numbered_char (take n ds) ≡ o → IsEscapeOf (escape_of (suc n) o) (d ∷ ds)) [
  | None ↦ λ e. tt
  | Some v ↦ λ e. inl (made v e, omega arith)
] refl

numbered_shape : (n d : ℕ) (ds : List ℕ) → 0 < n → ((v : ℕ) → length (take n ds) ≡ n → AllOf Hexadecimal (take n ds) → numbered_char (take n ds) ≡ Some v → IsUchar (92 ∷ d ∷ take n ds) v) → IsEscapeOf (numbered_escape n ds) (d ∷ ds)
numbered_shape n d ds some made = elim (nat_lt (run_length Hexadecimal ds) n) as (λ b. nat_lt (run_length Hexadecimal ds) n ≡ b → IsEscapeOf (cond b (cond (run_length Hexadecimal ds == length ds) escapes.Cut escapes.Faulty) (escape_of (suc n) (numbered_char (take n ds)))) (d ∷ ds)) [
  | true ↦ λ e. elim (run_length Hexadecimal ds == length ds) as (λ b. IsEscapeOf (cond b escapes.Cut escapes.Faulty) (d ∷ ds)) [ true ↦ tt | false ↦ tt ]
  | false ↦ λ e. let most : n ≤ run_length Hexadecimal ds = grind (arith, nat_tests) in let all = run_bound Hexadecimal ds in
      digits_shape n d ds most (λ v is. made v (length-take-le n ds (omega arith)) (fewer_of Hexadecimal n ds most) is) some
] refl

character_shape : (c : ℕ) (r : List ℕ) → IsEscapeOf (character_escape c) (c ∷ r)
character_shape c r = elim (escaped_char c) as (λ o. escaped_char c ≡ o → IsEscapeOf (escape_of 1 o) (c ∷ r)) [
  | None ↦ λ e. tt
  | Some v ↦ λ e. inr ((c, refl, e), refl)
] refl

escape_shape : (r : List ℕ) → IsEscapeOf (escape_at r) r
escape_shape [] = tt
escape_shape (c ∷ r) = elim (c == 117) as (λ b. (c == 117) ≡ b → IsEscapeOf (cond b (numbered_escape 4 r) (cond (c == 85) (numbered_escape 8 r) (character_escape c))) (c ∷ r)) [
  | true ↦ λ e. numbered_shape 4 c r (omega arith) (λ v size all is. inl (take 4 r, ap (λ x. 92 ∷ x ∷ take 4 r) (eqb-true c 117 e), size, all, is))
  | false ↦ λ e. elim (c == 85) as (λ b. (c == 85) ≡ b → IsEscapeOf (cond b (numbered_escape 8 r) (character_escape c)) (c ∷ r)) [
    | true ↦ λ f. numbered_shape 8 c r (omega arith) (λ v size all is. inr (take 8 r, ap (λ x. 92 ∷ x ∷ take 8 r) (eqb-true c 85 f), size, all, is))
    | false ↦ λ f. character_shape c r
  ] refl
] refl

abbrev IsUnitOf : Enclosed → Piece → List ℕ → Type 0
IsUnitOf e (Held n) r = IsUnit e (take n r) × (0 < n)
IsUnitOf e (Closing n) r = Unit {0}
IsUnitOf e (Faulty f) r = Unit {0}

first : (a b : Bool) → (a && b) ≡ true → a ≡ true
first true b h = refl
first false b h = h

second : (a b : Bool) → (a && b) ≡ true → b ≡ true
second true b h = h
second false b h = cc

-- an escape that may stand there
may_stand : (e : Enclosed) (v l : ℕ) (r : List ℕ) → may_hold_escaped e v l ≡ true → IsEscapeOf (escapes.Character v l) r → IsEscape e (92 ∷ take l r)
may_stand Iri v l r may (inl (uchar, long)) = let held : is_iri_char v ≡ true = second (nat_lt 1 l) (is_iri_char v) may in (v, uchar, held)
may_stand Iri v l r may (inr (echar, one)) = let long : nat_lt 1 l ≡ true = first (nat_lt 1 l) (is_iri_char v) may in let more : 1 < l = grind (arith, nat_tests) in absurd (omega arith)
may_stand (Text quotes) v l r may (inl (uchar, long)) = (v, inl uchar)
may_stand (Text quotes) v l r may (inr (echar, one)) = (v, inr echar)

escaped_shape : (e : Enclosed) (x : Escape) (r : List ℕ) → IsEscapeOf x r → (c : ℕ) → c ≡ 92 → IsUnitOf e (escaped_unit e x) (c ∷ r)
escaped_shape e (escapes.Character v l) r met c is = elim (may_hold_escaped e v l) as (λ b. may_hold_escaped e v l ≡ b → IsUnitOf e (cond b (Held (suc l)) (Faulty BadEscape)) (c ∷ r)) [
  | true ↦ λ may. subst (λ (x : ℕ). IsUnit e (x ∷ take l r) × (0 < suc l)) (sym is) (inr (may_stand e v l r may met), omega arith)
  | false ↦ λ may. tt
] refl
escaped_shape e escapes.Cut r met c is = tt
escaped_shape e escapes.Faulty r met c is = tt

unit_shape : (e : Enclosed) (r : List ℕ) → IsUnitOf e (unit e r) r
unit_shape e [] = tt
unit_shape e (c ∷ r) = elim (c == 92) as (λ b. (c == 92) ≡ b → IsUnitOf e (cond b (escaped_unit e (escape_at r)) (cond (may_hold e c) (Held 1) (Faulty NoToken))) (c ∷ r)) [
  | true ↦ λ is. escaped_shape e (escape_at r) r (escape_shape r) c (eqb-true c 92 is)
  | false ↦ λ is. elim (may_hold e c) as (λ b. may_hold e c ≡ b → IsUnitOf e (cond b (Held 1) (Faulty NoToken)) (c ∷ r)) [
    | true ↦ λ held. (inl (c, refl, held), omega arith)
    | false ↦ λ held. tt
  ] refl
] refl

pub marks_shape : (m k : ℕ) (cs : List ℕ) → (take (leading_marks m k cs) cs ≡ replicate (leading_marks m k cs) m) × (leading_marks m k cs ≤ k)
marks_shape m k [] = (refl, omega arith)
marks_shape m k (c ∷ cs) = elim (k == 0) as (λ b. (k == 0) ≡ b → (take (cond b 0 (cond (c == m) (suc (leading_marks m (k - 1) cs)) 0)) (c ∷ cs) ≡ replicate (cond b 0 (cond (c == m) (suc (leading_marks m (k - 1) cs)) 0)) m) × (cond b 0 (cond (c == m) (suc (leading_marks m (k - 1) cs)) 0) ≤ k)) [
  | true ↦ λ e. (refl, omega arith)
  | false ↦ λ e. elim (c == m) as (λ b. (c == m) ≡ b → (take (cond b (suc (leading_marks m (k - 1) cs)) 0) (c ∷ cs) ≡ replicate (cond b (suc (leading_marks m (k - 1) cs)) 0) m) × (cond b (suc (leading_marks m (k - 1) cs)) 0 ≤ k)) [
    | true ↦ λ is. let more = marks_shape m (k - 1) cs in let some : 0 < k = grind (arith, nat_tests) in
        (ap (λ x. c ∷ x) more.0 ∙ ap (λ x. x ∷ replicate (leading_marks m (k - 1) cs) m) (eqb-true c m is), omega (arith, more.1))
    | false ↦ λ is. (refl, omega arith)
  ] refl
] refl

pub marks_bound : (m k : ℕ) (cs : List ℕ) → leading_marks m k cs ≤ length cs
marks_bound m k [] = omega arith
marks_bound m k (c ∷ cs) = let more = marks_bound m (k - 1) cs in elim (k == 0) as (λ b. cond b 0 (cond (c == m) (suc (leading_marks m (k - 1) cs)) 0) ≤ suc (length cs)) [
  | true ↦ omega arith
  | false ↦ elim (c == m) as (λ b. cond b (suc (leading_marks m (k - 1) cs)) 0 ≤ suc (length cs)) [ true ↦ omega arith | false ↦ omega arith ]
]

abbrev pub IsPieceOf : Enclosed → Piece → List ℕ → Type 0
IsPieceOf e (Held n) r = IsPiece e (take n r) × (0 < n)
IsPieceOf e (Closing n) r = (take n r ≡ replicate (closing_length e) (mark e)) × (n ≤ length r)
IsPieceOf e (Faulty f) r = Unit {0}

marked_shape : (e : Enclosed) (n : ℕ) (cs : List ℕ) (p : Piece) → take n cs ≡ replicate n (mark e) → n < closing_length e → IsUnitOf e p (drop n cs) → ((k : ℕ) → p ≡ Closing k → ⊥) → IsPieceOf e (with_marks n p) cs
marked_shape e n cs (Held k) marks few met never = ((n, take k (drop n cs), take-add n k cs ∙ ap (λ x. x ++ take k (drop n cs)) marks, few, met.0), omega (arith, met.1))
marked_shape e n cs (Closing k) marks few met never = absurd (never k refl)
marked_shape e n cs (Faulty f) marks few met never = tt

abbrev NotClosing : Piece → Type 0
NotClosing p = (k : ℕ) → p ≡ Closing k → ⊥

escaped_open : (e : Enclosed) (x : Escape) → NotClosing (escaped_unit e x)
escaped_open e (escapes.Character v l) = elim (may_hold_escaped e v l) as (λ b. NotClosing (cond b (Held (suc l)) (Faulty BadEscape))) [ true ↦ λ k h. cc | false ↦ λ k h. cc ]
escaped_open e escapes.Cut = λ k h. cc
escaped_open e escapes.Faulty = λ k h. cc

unit_open : (e : Enclosed) (r : List ℕ) → NotClosing (unit e r)
unit_open e [] = λ k h. cc
unit_open e (c ∷ r) = elim (c == 92) as (λ b. NotClosing (cond b (escaped_unit e (escape_at r)) (cond (may_hold e c) (Held 1) (Faulty NoToken)))) [
  | true ↦ escaped_open e (escape_at r)
  | false ↦ elim (may_hold e c) as (λ b. NotClosing (cond b (Held 1) (Faulty NoToken))) [ true ↦ λ k h. cc | false ↦ λ k h. cc ]
]

pub piece_shape : (e : Enclosed) (cs : List ℕ) → IsPieceOf e (next_piece e cs) cs
piece_shape e cs =
    let n = leading_marks (mark e) (closing_length e) cs in
    let marks = marks_shape (mark e) (closing_length e) cs in
    elim (n == closing_length e) as (λ b. (n == closing_length e) ≡ b → IsPieceOf e (cond b (Closing n) (with_marks n (unit e (drop n cs)))) cs) [
      | true ↦ λ is. (marks.0 ∙ ap (λ k. replicate k (mark e)) (eqb-true n (closing_length e) is), marks_bound (mark e) (closing_length e) cs)
      | false ↦ λ is. let few : n < closing_length e = grind (arith, nat_tests, marks.1) in marked_shape e n cs (unit e (drop n cs)) marks.0 few (unit_shape e (drop n cs)) (unit_open e (drop n cs))
    ] refl

abbrev EnclosedAfter : Enclosed → ℕ → Result ℕ RefusalKind → List ℕ → Type 0
EnclosedAfter e k (Ok n) cs = (x : List ℕ) × (take n cs ≡ take k cs ++ x) × IsEnclosed e x × (n ≤ length cs)
EnclosedAfter e k (Err f) cs = Unit {0}

longer : (e : Enclosed) (k : ℕ) (r : Result ℕ RefusalKind) (c : ℕ) (cs : List ℕ) → EnclosedAfter e k r cs → EnclosedAfter e (suc k) (one_more r) (c ∷ cs)
longer e k (Ok n) c cs (x, is, met, most) = (x, ap (λ y. c ∷ y) is, met, omega arith)
longer e k (Err f) c cs met = tt

one_piece : (e : Enclosed) (k : ℕ) (r : Result ℕ RefusalKind) (c : ℕ) (cs : List ℕ) → IsPiece e (c ∷ take k cs) → EnclosedAfter e k r cs → EnclosedAfter e 0 (one_more r) (c ∷ cs)
one_piece e k (Ok n) c cs piece (x, is, (ps, parts, all), most) =
    ((c ∷ take k cs) ++ x, ap (λ y. c ∷ y) is, ((c ∷ take k cs) ∷ ps, ap (λ y. (c ∷ take k cs) ++ y) parts ∙ sym (append_assoc (c ∷ take k cs) (joined_texts ps) (replicate (closing_length e) (mark e))), (piece, all)), omega arith)
one_piece e k (Err f) c cs piece met = tt

by_piece : (e : Enclosed) (c : ℕ) (cs : List ℕ) (p : Piece) → IsPieceOf e p (c ∷ cs) → ((k : ℕ) → EnclosedAfter e k (enclosed_length e k cs) cs) → EnclosedAfter e 0 (with_piece p (λ k. enclosed_length e k cs)) (c ∷ cs)
by_piece e c cs (Held zero) met more = absurd (omega (arith, met.1))
by_piece e c cs (Held (suc n)) met more =
    let less : suc n - 1 ≡ n = omega arith in
    subst (λ k. EnclosedAfter e 0 (one_more (enclosed_length e k cs)) (c ∷ cs)) (sym less) (one_piece e n (enclosed_length e n cs) c cs met.0 (more n))
by_piece e c cs (Closing n) met more = (take n (c ∷ cs), refl, ([], met.0, tt), met.1)
by_piece e c cs (Faulty f) met more = tt

enclosed_after : (e : Enclosed) (k : ℕ) (cs : List ℕ) → EnclosedAfter e k (enclosed_length e k cs) cs
enclosed_after e zero [] = tt
enclosed_after e (suc k) [] = tt
enclosed_after e (suc k) (c ∷ cs) = longer e k (enclosed_length e k cs) c cs (enclosed_after e k cs)
enclosed_after e zero (c ∷ cs) = by_piece e c cs (next_piece e (c ∷ cs)) (piece_shape e (c ∷ cs)) (λ k. enclosed_after e k cs)

pub enclosed_shape : (e : Enclosed) (cs : List ℕ) (n : ℕ) → enclosed_length e 0 cs ≡ Ok n → IsEnclosed e (take n cs)
enclosed_shape e cs n is = let met : EnclosedAfter e 0 (Ok n) cs = subst (λ r. EnclosedAfter e 0 r cs) is (enclosed_after e 0 cs) in subst (λ (x : List ℕ). IsEnclosed e x) (sym met.1) met.2

some_left : (e : Enclosed) (cs : List ℕ) (n : ℕ) → enclosed_length e 0 cs ≡ Ok n → 0 < length cs
some_left e [] n is = cc
some_left e (c ∷ cs) n is = omega arith

pub enclosed_bound : (e : Enclosed) (cs : List ℕ) (n : ℕ) → enclosed_length e 0 cs ≡ Ok n → (n ≤ length cs) × (0 < length cs)
enclosed_bound e cs n is = let met : EnclosedAfter e 0 (Ok n) cs = subst (λ r. EnclosedAfter e 0 r cs) is (enclosed_after e 0 cs) in (met.3, some_left e cs n is)
