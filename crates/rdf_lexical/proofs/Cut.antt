-- An IRIREF or a string that the text's end cuts off; and other faults, which stay whatever follows.
use Rattle.std.proofs.Common.{◌≡◌, ◌∙◌, nat_lt, ℕ, zero, suc, ◌+◌, ◌-◌, ◌<◌, ◌≤◌, Bool, true, false, cond, ◌==◌, List, [], ◌∷◌, ◌++◌, length, take, drop, Option, Some, None, Result, Ok, Err, refl, sym, ap, subst, arith, append_assoc, append-nil, length-append, ◌⊎◌, inl, inr}
use Rattle.std.specs.Prelude.{replicate}
use Rattle.std.specs.List.{AllByRecursion}
use Rattle.std.proofs.lemmas.Bool.{eqb-true}
use Rattle.std.proofs.lemmas.Bool.Decides.{nat_tests}
use Rattle.std.proofs.lemmas.List.{length-replicate, take-append-drop, take_all}
use Rattle.std.proofs.Math.Seq.{drop-append_seam}
use Rattle.rdf_lexical.specs.declared.refusal.RefusalKind.{RefusalKind}
use Rattle.rdf_lexical.specs.declared.refusal.RefusalKind.TheVariants.{NoToken, BadEscape, UnexpectedEnd}
use Rattle.rdf_lexical.specs.declared.classes.Class.{Class}
use Rattle.rdf_lexical.specs.declared.classes.Class.TheVariants.{Hexadecimal}
use Rattle.rdf_lexical.specs.declared.enclosing.Enclosed.{Enclosed}
use Rattle.rdf_lexical.specs.declared.enclosing.Piece.{Piece}
use Rattle.rdf_lexical.specs.declared.enclosing.Piece.TheVariants.{Held, Closing, Faulty}
use Rattle.rdf_lexical.specs.declared.escapes.Escape.{Escape}
use Rattle.rdf_lexical.specs.declared.escapes.Escape.TheVariants as escapes
use Rattle.rdf_lexical.specs.Escapes.{escaped_char, numbered_char}
use Rattle.rdf_lexical.specs.Classes.{holds, run_length}
use Rattle.rdf_lexical.specs.Escaping.{escape_of, numbered_escape, character_escape, escape_at}
use Rattle.rdf_lexical.specs.Enclosed.{mark, closing_length, may_hold, may_hold_escaped, escaped_unit, unit, leading_marks, with_marks, piece_after, next_piece, one_more, with_piece, enclosed_length, opened}
use Rattle.rdf_lexical.specs.Productions.{AllOf, joined_texts, IsPiece, IsCutEscape}
use Rattle.rdf_lexical.proofs.Runs.{run_bound, run_taken, run_exact}
use Rattle.rdf_lexical.proofs.EnclosedSteps.{opened_zero, held_piece, faulty_piece}
use Rattle.rdf_lexical.proofs.EnclosedTexts.{marks_shape, marks_bound, IsPieceOf, piece_shape}
use Rattle.rdf_lexical.proofs.EnclosedTokens.{some_closing, piece_met, marks_met, no_marks, other_first, backslash_no_mark}

-- faults other than the early end
abbrev pub Other : RefusalKind → Type 0
Other f = f ≡ UnexpectedEnd → ⊥

abbrev pub is_early : RefusalKind → Bool
is_early UnexpectedEnd = true
is_early _ = false

pub early_is : (f : RefusalKind) → is_early f ≡ true → f ≡ UnexpectedEnd
early_is UnexpectedEnd h = refl
early_is _ h = cc

pub other_is : (f : RefusalKind) → is_early f ≡ false → Other f
other_is f h is = let both : true ≡ false = sym (ap is_early is) ∙ h in cc

-- parts of a text that grows
pub take_front : (n : ℕ) (t u : List ℕ) → n ≤ length t → take n (t ++ u) ≡ take n t
take_front zero t u h = refl
take_front (suc n) [] u h = absurd (omega arith)
take_front (suc n) (c ∷ t) u h = ap (λ x. c ∷ x) (take_front n t u (omega arith))

pub drop_front : (n : ℕ) (t u : List ℕ) → n ≤ length t → drop n (t ++ u) ≡ drop n t ++ u
drop_front zero t u h = refl
drop_front (suc n) [] u h = absurd (omega arith)
drop_front (suc n) (c ∷ t) u h = drop_front n t u (omega arith)

pub run_same : (k : Class) (t u : List ℕ) → run_length k t < length t → run_length k (t ++ u) ≡ run_length k t
run_same k [] u h = absurd (omega arith)
run_same k (c ∷ t) u h = elim (holds k c) as (λ b. cond b (suc (run_length k t)) 0 < suc (length t) → cond b (suc (run_length k (t ++ u))) 0 ≡ cond b (suc (run_length k t)) 0) [
  | true ↦ λ g. ap suc (run_same k t u (omega arith))
  | false ↦ λ g. refl
] h

pub run_more : (k : Class) (t u : List ℕ) → run_length k t ≤ run_length k (t ++ u)
run_more k [] u = omega arith
run_more k (c ∷ t) u = let more = run_more k t u in elim (holds k c) as (λ b. cond b (suc (run_length k t)) 0 ≤ cond b (suc (run_length k (t ++ u))) 0) [ true ↦ omega arith | false ↦ omega arith ]

-- escapes by their digits
numbered_faulty : (n : ℕ) (ds : List ℕ) → run_length Hexadecimal ds < n → run_length Hexadecimal ds < length ds → numbered_escape n ds ≡ escapes.Faulty
numbered_faulty n ds few less =
    let r = run_length Hexadecimal ds in
    let a : nat_lt r n ≡ true = grind (arith, nat_tests) in
    let b : (r == length ds) ≡ false = grind (arith, nat_tests) in
    ap (λ x. cond x (cond (r == length ds) escapes.Cut escapes.Faulty) (escape_of (suc n) (numbered_char (take n ds)))) a ∙ ap (λ x. cond x escapes.Cut escapes.Faulty) b

numbered_whole : (n : ℕ) (ds : List ℕ) → n ≤ run_length Hexadecimal ds → numbered_escape n ds ≡ escape_of (suc n) (numbered_char (take n ds))
numbered_whole n ds enough =
    let r = run_length Hexadecimal ds in
    let a : nat_lt r n ≡ false = grind (arith, nat_tests) in
    ap (λ x. cond x (cond (r == length ds) escapes.Cut escapes.Faulty) (escape_of (suc n) (numbered_char (take n ds)))) a

numbered_met : (n : ℕ) (ds : List ℕ) → run_length Hexadecimal ds < n → run_length Hexadecimal ds ≡ length ds → numbered_escape n ds ≡ escapes.Cut
numbered_met n ds few all =
    let r = run_length Hexadecimal ds in
    let a : nat_lt r n ≡ true = grind (arith, nat_tests) in
    let b : (r == length ds) ≡ true = grind (arith, nat_tests) in
    ap (λ x. cond x (cond (r == length ds) escapes.Cut escapes.Faulty) (escape_of (suc n) (numbered_char (take n ds)))) a ∙ ap (λ x. cond x escapes.Cut escapes.Faulty) b

numbered_stable : (n : ℕ) (ds more : List ℕ) → (numbered_escape n ds ≡ escapes.Cut → ⊥) → numbered_escape n (ds ++ more) ≡ numbered_escape n ds
numbered_stable n ds more open_ =
    let r = run_length Hexadecimal ds in
    let most = run_bound Hexadecimal ds in
    let long : length (ds ++ more) ≡ length ds + length more = length-append ds more in
    elim (nat_lt r n) as (λ b. nat_lt r n ≡ b → numbered_escape n (ds ++ more) ≡ numbered_escape n ds) [
      | true ↦ λ e.
          let few : r < n = grind (arith, nat_tests) in
          let less : r < length ds = elim (r == length ds) as (λ b. (r == length ds) ≡ b → r < length ds) [
            | true ↦ λ q. absurd (open_ (numbered_met n ds few (eqb-true r (length ds) q)))
            | false ↦ λ q. grind (arith, nat_tests, most)
          ] refl in
          let same = run_same Hexadecimal ds more less in
          numbered_faulty n (ds ++ more) (omega (arith, same, few)) (omega (arith, same, less, long)) ∙ sym (numbered_faulty n ds few less)
      | false ↦ λ e.
          let enough : n ≤ r = grind (arith, nat_tests) in
          let grown = run_more Hexadecimal ds more in
          numbered_whole n (ds ++ more) (omega (arith, enough, grown))
          ∙ ap (λ x. escape_of (suc n) (numbered_char x)) (take_front n ds more (omega (arith, enough, most)))
          ∙ sym (numbered_whole n ds enough)
    ] refl

pub escape_stable : (r more : List ℕ) → (escape_at r ≡ escapes.Cut → ⊥) → escape_at (r ++ more) ≡ escape_at r
escape_stable [] more open_ = absurd (open_ refl)
escape_stable (c ∷ ds) more open_ = elim (c == 117) as (λ b. (cond b (numbered_escape 4 ds) (cond (c == 85) (numbered_escape 8 ds) (character_escape c)) ≡ escapes.Cut → ⊥) → cond b (numbered_escape 4 (ds ++ more)) (cond (c == 85) (numbered_escape 8 (ds ++ more)) (character_escape c)) ≡ cond b (numbered_escape 4 ds) (cond (c == 85) (numbered_escape 8 ds) (character_escape c))) [
  | true ↦ λ k. numbered_stable 4 ds more k
  | false ↦ λ k. elim (c == 85) as (λ b. (cond b (numbered_escape 8 ds) (character_escape c) ≡ escapes.Cut → ⊥) → cond b (numbered_escape 8 (ds ++ more)) (character_escape c) ≡ cond b (numbered_escape 8 ds) (character_escape c)) [
    | true ↦ λ j. numbered_stable 8 ds more j
    | false ↦ λ j. refl
  ] k
] open_

-- the shape of an escape that is cut off
not_cut : (n : ℕ) (o : Option ℕ) → escape_of n o ≡ escapes.Cut → ⊥
not_cut n None h = cc
not_cut n (Some v) h = cc

numbered_cut : (n : ℕ) (ds : List ℕ) → numbered_escape n ds ≡ escapes.Cut → AllOf Hexadecimal ds × (length ds < n)
numbered_cut n ds h =
    let r = run_length Hexadecimal ds in
    elim (nat_lt r n) as (λ b. nat_lt r n ≡ b → cond b (cond (r == length ds) escapes.Cut escapes.Faulty) (escape_of (suc n) (numbered_char (take n ds))) ≡ escapes.Cut → AllOf Hexadecimal ds × (length ds < n)) [
      | true ↦ λ few k. elim (r == length ds) as (λ b. (r == length ds) ≡ b → cond b escapes.Cut escapes.Faulty ≡ escapes.Cut → AllOf Hexadecimal ds × (length ds < n)) [
        | true ↦ λ q j.
            let same = eqb-true r (length ds) q in
            let less : r < n = grind (arith, nat_tests) in
            let whole : take r ds ≡ ds = take_all r ds (omega (arith, same)) in
            (subst (λ (x : List ℕ). AllOf Hexadecimal x) whole (run_taken Hexadecimal ds), omega (arith, same, less))
        | false ↦ λ q j. cc
      ] refl k
      | false ↦ λ few k. absurd (not_cut (suc n) (numbered_char (take n ds)) k)
    ] refl h

escape_cut : (d : List ℕ) → escape_at d ≡ escapes.Cut → IsCutEscape d
escape_cut [] h = inl refl
escape_cut (c ∷ ds) h = elim (c == 117) as (λ b. (c == 117) ≡ b → cond b (numbered_escape 4 ds) (cond (c == 85) (numbered_escape 8 ds) (character_escape c)) ≡ escapes.Cut → IsCutEscape (c ∷ ds)) [
  | true ↦ λ q k. let n = numbered_cut 4 ds k in inr (inl (ds, ap (λ x. x ∷ ds) (eqb-true c 117 q), n.0, n.1))
  | false ↦ λ q k. elim (c == 85) as (λ b. (c == 85) ≡ b → cond b (numbered_escape 8 ds) (character_escape c) ≡ escapes.Cut → IsCutEscape (c ∷ ds)) [
    | true ↦ λ p j. let n = numbered_cut 8 ds j in inr (inr (ds, ap (λ x. x ∷ ds) (eqb-true c 85 p), n.0, n.1))
    | false ↦ λ p j. absurd (not_cut 1 (escaped_char c) j)
  ] refl k
] refl h

digits_cut : (n : ℕ) (h : List ℕ) → AllOf Hexadecimal h → length h < n → numbered_escape n h ≡ escapes.Cut
digits_cut n h all few =
    let run : run_length Hexadecimal h ≡ length h = ap (run_length Hexadecimal) (sym (append-nil h)) ∙ run_exact Hexadecimal h [] all refl in
    numbered_met n h (omega (arith, run, few)) run

escape_cut_met : (d : List ℕ) → IsCutEscape d → escape_at d ≡ escapes.Cut
escape_cut_met d (inl e) = ap escape_at e
escape_cut_met d (inr (inl (h, e, all, few))) = ap escape_at e ∙ digits_cut 4 h all few
escape_cut_met d (inr (inr (h, e, all, few))) = ap escape_at e ∙ digits_cut 8 h all few

-- a character or an escape
unit_stable : (e : Enclosed) (r more : List ℕ) → (unit e r ≡ Faulty UnexpectedEnd → ⊥) → unit e (r ++ more) ≡ unit e r
unit_stable e [] more open_ = absurd (open_ refl)
unit_stable e (c ∷ r) more open_ =
    let plain = cond (may_hold e c) (Held 1) (Faulty NoToken) in
    elim (c == 92) as (λ b. (cond b (escaped_unit e (escape_at r)) plain ≡ Faulty UnexpectedEnd → ⊥) → cond b (escaped_unit e (escape_at (r ++ more))) plain ≡ cond b (escaped_unit e (escape_at r)) plain) [
      | true ↦ λ k. ap (escaped_unit e) (escape_stable r more (λ cut. k (ap (escaped_unit e) cut)))
      | false ↦ λ k. refl
    ] open_

escaped_cut : (e : Enclosed) (x : Escape) → escaped_unit e x ≡ Faulty UnexpectedEnd → x ≡ escapes.Cut
escaped_cut e (escapes.Character v l) h = elim (may_hold_escaped e v l) as (λ b. cond b (Held (suc l)) (Faulty BadEscape) ≡ Faulty UnexpectedEnd → escapes.Character v l ≡ escapes.Cut) [ true ↦ λ k. cc | false ↦ λ k. cc ] h
escaped_cut e escapes.Cut h = refl
escaped_cut e escapes.Faulty h = cc

unit_cut : (e : Enclosed) (r : List ℕ) → unit e r ≡ Faulty UnexpectedEnd → (r ≡ []) ⊎ ((d : List ℕ) × (r ≡ 92 ∷ d) × IsCutEscape d)
unit_cut e [] h = inl refl
unit_cut e (c ∷ r) h = elim (c == 92) as (λ b. (c == 92) ≡ b → cond b (escaped_unit e (escape_at r)) (cond (may_hold e c) (Held 1) (Faulty NoToken)) ≡ Faulty UnexpectedEnd → (c ∷ r ≡ []) ⊎ ((d : List ℕ) × (c ∷ r ≡ 92 ∷ d) × IsCutEscape d)) [
  | true ↦ λ q k. inr (r, ap (λ x. x ∷ r) (eqb-true c 92 q), escape_cut r (escaped_cut e (escape_at r) k))
  | false ↦ λ q k. elim (may_hold e c) as (λ b. cond b (Held 1) (Faulty NoToken) ≡ Faulty UnexpectedEnd → (c ∷ r ≡ []) ⊎ ((d : List ℕ) × (c ∷ r ≡ 92 ∷ d) × IsCutEscape d)) [ true ↦ λ j. cc | false ↦ λ j. cc ] k
] refl h

-- marks before it
pub marks_stable : (m k : ℕ) (cs more : List ℕ) → (leading_marks m k cs ≡ k) ⊎ (0 < length (drop (leading_marks m k cs) cs)) → leading_marks m k (cs ++ more) ≡ leading_marks m k cs
marks_stable m k [] more (inl e) = ap (λ x. leading_marks m x more) (sym e) ∙ no_marks m more
marks_stable m k [] more (inr some) = absurd (omega arith)
marks_stable m k (c ∷ cs) more h =
    let n = leading_marks m (k - 1) cs in
    elim (k == 0) as (λ b. (k == 0) ≡ b → (cond b 0 (cond (c == m) (suc n) 0) ≡ k) ⊎ (0 < length (drop (cond b 0 (cond (c == m) (suc n) 0)) (c ∷ cs))) → cond b 0 (cond (c == m) (suc (leading_marks m (k - 1) (cs ++ more))) 0) ≡ cond b 0 (cond (c == m) (suc n) 0)) [
      | true ↦ λ z g. refl
      | false ↦ λ z g. elim (c == m) as (λ b. (cond b (suc n) 0 ≡ k) ⊎ (0 < length (drop (cond b (suc n) 0) (c ∷ cs))) → cond b (suc (leading_marks m (k - 1) (cs ++ more))) 0 ≡ cond b (suc n) 0) [
        | true ↦ λ g. ap suc (marks_stable m (k - 1) cs more (one_less n k (drop n cs) g))
        | false ↦ λ g. refl
      ] g
    ] refl h
  where
    one_less : (n k : ℕ) (rest : List ℕ) → (suc n ≡ k) ⊎ (0 < length rest) → (n ≡ k - 1) ⊎ (0 < length rest)
    one_less n k rest (inl e) = inl (omega arith)
    one_less n k rest (inr some) = inr some

-- a piece
piece_open : (e : Enclosed) (cs : List ℕ) → (leading_marks (mark e) (closing_length e) cs == closing_length e) ≡ false → next_piece e cs ≡ with_marks (leading_marks (mark e) (closing_length e) cs) (unit e (drop (leading_marks (mark e) (closing_length e) cs) cs))
piece_open e cs q = let n = leading_marks (mark e) (closing_length e) cs in ap (λ b. cond b (Closing n) (with_marks n (unit e (drop n cs)))) q

some_left : (e : Enclosed) (r : List ℕ) → (unit e r ≡ Faulty UnexpectedEnd → ⊥) → 0 < length r
some_left e [] open_ = absurd (open_ refl)
some_left e (c ∷ r) open_ = omega arith

piece_stable : (e : Enclosed) (cs more : List ℕ) → (next_piece e cs ≡ Faulty UnexpectedEnd → ⊥) → next_piece e (cs ++ more) ≡ next_piece e cs
piece_stable e cs more open_ =
    let k = closing_length e in
    let n = leading_marks (mark e) k cs in
    elim (n == k) as (λ b. (n == k) ≡ b → next_piece e (cs ++ more) ≡ next_piece e cs) [
      | true ↦ λ q.
          let same = marks_stable (mark e) k cs more (inl (eqb-true n k q)) in
          ap (λ x. piece_after e x (cs ++ more)) same
          ∙ ap (λ b. cond b (Closing n) (with_marks n (unit e (drop n (cs ++ more))))) q
          ∙ sym (ap (λ b. cond b (Closing n) (with_marks n (unit e (drop n cs)))) q)
      | false ↦ λ q.
          let value = piece_open e cs q in
          let inside : unit e (drop n cs) ≡ Faulty UnexpectedEnd → ⊥ = λ f. open_ (value ∙ ap (with_marks n) f) in
          let same = marks_stable (mark e) k cs more (inr (some_left e (drop n cs) inside)) in
          let rest = drop_front n cs more (marks_bound (mark e) k cs) in
          ap (λ x. piece_after e x (cs ++ more)) same
          ∙ ap (λ b. cond b (Closing n) (with_marks n (unit e (drop n (cs ++ more))))) q
          ∙ ap (λ x. with_marks n (unit e x)) rest
          ∙ ap (with_marks n) (unit_stable e (drop n cs) more inside)
          ∙ sym value
    ] refl

-- other faults stay
one_more_err : (r : Result ℕ RefusalKind) (f : RefusalKind) → one_more r ≡ Err f → r ≡ Err f
one_more_err (Ok n) f h = cc
one_more_err (Err g) f h = h

by_piece_stable : (e : Enclosed) (cs more : List ℕ) (p : Piece) (f : RefusalKind) → with_piece p (λ n. enclosed_length e n cs) ≡ Err f → ((k : ℕ) → enclosed_length e k cs ≡ Err f → enclosed_length e k (cs ++ more) ≡ Err f) → with_piece p (λ n. enclosed_length e n (cs ++ more)) ≡ Err f
by_piece_stable e cs more (Held n) f h rest = ap one_more (rest (n - 1) (one_more_err (enclosed_length e (n - 1) cs) f h))
by_piece_stable e cs more (Closing n) f h rest = cc
by_piece_stable e cs more (Faulty g) f h rest = h

early : (g f : RefusalKind) → (let r : Result ℕ RefusalKind = Err g in r) ≡ Err f → g ≡ UnexpectedEnd → f ≡ UnexpectedEnd
early g f h is = cc

pub enclosed_stable : (e : Enclosed) (k : ℕ) (cs more : List ℕ) (f : RefusalKind) → (f ≡ UnexpectedEnd → ⊥) → enclosed_length e k cs ≡ Err f → enclosed_length e k (cs ++ more) ≡ Err f
enclosed_stable e zero [] more f other h = absurd (other (early UnexpectedEnd f h refl))
enclosed_stable e (suc k) [] more f other h = absurd (other (early UnexpectedEnd f h refl))
enclosed_stable e (suc k) (c ∷ cs) more f other h = ap one_more (enclosed_stable e k cs more f other (one_more_err (enclosed_length e k cs) f h))
enclosed_stable e zero (c ∷ cs) more f other h =
    let open_ : next_piece e (c ∷ cs) ≡ Faulty UnexpectedEnd → ⊥ = λ cut. other (early UnexpectedEnd f (sym (ap (λ p. with_piece p (λ n. enclosed_length e n cs)) cut) ∙ h) refl) in
    ap (λ p. with_piece p (λ n. enclosed_length e n (cs ++ more))) (piece_stable e (c ∷ cs) more open_)
    ∙ by_piece_stable e cs more (next_piece e (c ∷ cs)) f h (λ k. enclosed_stable e k cs more f other)

-- what is cut off: pieces, and then fewer marks than close it, or these and an escape that is cut off
abbrev pub IsCutEnd : Enclosed → List ℕ → Type 0
IsCutEnd e y = (n : ℕ) × (n < closing_length e) × ((y ≡ replicate n (mark e)) ⊎ ((d : List ℕ) × (y ≡ replicate n (mark e) ++ 92 ∷ d) × IsCutEscape d))

abbrev pub IsCutBody : Enclosed → List ℕ → Type 0
IsCutBody e x = (ps : List (List ℕ)) × (y : List ℕ) × (x ≡ joined_texts ps ++ y) × AllByRecursion (IsPiece e) ps × IsCutEnd e y

marked_cut : (n : ℕ) (p : Piece) → with_marks n p ≡ Faulty UnexpectedEnd → p ≡ Faulty UnexpectedEnd
marked_cut n (Held k) h = cc
marked_cut n (Closing k) h = cc
marked_cut n (Faulty f) h = h

by_unit : (e : Enclosed) (n : ℕ) (cs : List ℕ) → take n cs ≡ replicate n (mark e) → n < closing_length e → (drop n cs ≡ []) ⊎ ((d : List ℕ) × (drop n cs ≡ 92 ∷ d) × IsCutEscape d) → IsCutEnd e cs
by_unit e n cs marks few (inl none) = (n, few, inl (sym (take-append-drop n cs) ∙ ap (λ x. take n cs ++ x) none ∙ append-nil (take n cs) ∙ marks))
by_unit e n cs marks few (inr (d, is, cut)) = (n, few, inr (d, sym (take-append-drop n cs) ∙ ap (λ x. take n cs ++ x) is ∙ ap (λ x. x ++ 92 ∷ d) marks, cut))

piece_cut : (e : Enclosed) (cs : List ℕ) → next_piece e cs ≡ Faulty UnexpectedEnd → IsCutEnd e cs
piece_cut e cs h =
    let k = closing_length e in
    let n = leading_marks (mark e) k cs in
    let marks = marks_shape (mark e) k cs in
    elim (n == k) as (λ b. (n == k) ≡ b → cond b (Closing n) (with_marks n (unit e (drop n cs))) ≡ Faulty UnexpectedEnd → IsCutEnd e cs) [
      | true ↦ λ q g. cc
      | false ↦ λ q g. let few : n < k = grind (arith, nat_tests, marks.1) in by_unit e n cs marks.0 few (unit_cut e (drop n cs) (marked_cut n (unit e (drop n cs)) g))
    ] refl h

abbrev CutAfter : Enclosed → ℕ → Result ℕ RefusalKind → List ℕ → Type 0
CutAfter e k (Ok n) cs = Unit {0}
CutAfter e k (Err f) cs = f ≡ UnexpectedEnd → (x : List ℕ) × (cs ≡ take k cs ++ x) × IsCutBody e x

none_left : (e : Enclosed) → IsCutBody e []
none_left e = ([], [], refl, tt, (0, some_closing e, inl refl))

cut_longer : (e : Enclosed) (k : ℕ) (r : Result ℕ RefusalKind) (c : ℕ) (cs : List ℕ) → CutAfter e k r cs → CutAfter e (suc k) (one_more r) (c ∷ cs)
cut_longer e k (Ok n) c cs met = tt
cut_longer e k (Err f) c cs met = λ u. let m = met u in (m.0, ap (λ x. c ∷ x) m.1, m.2)

cut_piece : (e : Enclosed) (k : ℕ) (r : Result ℕ RefusalKind) (c : ℕ) (cs : List ℕ) → IsPiece e (c ∷ take k cs) → CutAfter e k r cs → CutAfter e 0 (one_more r) (c ∷ cs)
cut_piece e k (Ok n) c cs piece met = tt
cut_piece e k (Err f) c cs piece met = λ u. more_body (met u)
  where
    more_body : ((x : List ℕ) × (cs ≡ take k cs ++ x) × IsCutBody e x) → (x : List ℕ) × (c ∷ cs ≡ take 0 (c ∷ cs) ++ x) × IsCutBody e x
    more_body (x, is, (ps, y, parts, all, end)) =
        (c ∷ cs, refl, ((c ∷ take k cs) ∷ ps, y, ap (λ z. c ∷ z) is ∙ ap (λ z. (c ∷ take k cs) ++ z) parts ∙ sym (append_assoc (c ∷ take k cs) (joined_texts ps) y), (piece, all), end))

by_piece : (e : Enclosed) (c : ℕ) (cs : List ℕ) (p : Piece) → next_piece e (c ∷ cs) ≡ p → IsPieceOf e p (c ∷ cs) → ((k : ℕ) → CutAfter e k (enclosed_length e k cs) cs) → CutAfter e 0 (with_piece p (λ k. enclosed_length e k cs)) (c ∷ cs)
by_piece e c cs (Held zero) is met more = absurd (omega (arith, met.1))
by_piece e c cs (Held (suc n)) is met more =
    let less : suc n - 1 ≡ n = omega arith in
    subst (λ k. CutAfter e 0 (one_more (enclosed_length e k cs)) (c ∷ cs)) (sym less) (cut_piece e n (enclosed_length e n cs) c cs met.0 (more n))
by_piece e c cs (Closing n) is met more = tt
by_piece e c cs (Faulty f) is met more = λ u. (c ∷ cs, refl, ([], c ∷ cs, refl, tt, piece_cut e (c ∷ cs) (is ∙ ap (λ g. Faulty g) u)))

cut_after : (e : Enclosed) (k : ℕ) (cs : List ℕ) → CutAfter e k (enclosed_length e k cs) cs
cut_after e zero [] = λ u. ([], refl, none_left e)
cut_after e (suc k) [] = λ u. ([], refl, none_left e)
cut_after e (suc k) (c ∷ cs) = cut_longer e k (enclosed_length e k cs) c cs (cut_after e k cs)
cut_after e zero (c ∷ cs) = by_piece e c cs (next_piece e (c ∷ cs)) refl (piece_shape e (c ∷ cs)) (λ k. cut_after e k cs)

pub enclosed_cut : (e : Enclosed) (cs : List ℕ) → enclosed_length e 0 cs ≡ Err UnexpectedEnd → IsCutBody e cs
enclosed_cut e cs is =
    let met : CutAfter e 0 (Err UnexpectedEnd) cs = subst (λ r. CutAfter e 0 r cs) is (cut_after e 0 cs) in
    let m = met refl in
    subst (λ (x : List ℕ). IsCutBody e x) (sym m.1) m.2

-- where an escape is cut off the text ends early
end_met : (e : Enclosed) (n : ℕ) (d : List ℕ) → n < closing_length e → IsCutEscape d → next_piece e (replicate n (mark e) ++ 92 ∷ d) ≡ Faulty UnexpectedEnd
end_met e n d few cut =
    let m = mark e in
    let k = closing_length e in
    let t = replicate n m ++ 92 ∷ d in
    let sum : n + (k - n) ≡ k = omega arith in
    let marks : leading_marks m k t ≡ n = ap (λ x. leading_marks m x t) (sym sum) ∙ marks_met m n (k - n) (92 ∷ d) (other_first e 92 (k - n) d (backslash_no_mark e)) in
    let other : (n == k) ≡ false = grind (arith, nat_tests) in
    let rest : drop n t ≡ 92 ∷ d = ap (λ x. drop x t) (sym (length-replicate n m)) ∙ drop-append_seam (replicate n m) (92 ∷ d) in
    ap (λ x. piece_after e x t) marks
    ∙ ap (λ b. cond b (Closing n) (with_marks n (unit e (drop n t)))) other
    ∙ ap (λ x. with_marks n (unit e x)) rest
    ∙ ap (λ x. with_marks n (escaped_unit e x)) (escape_cut_met d cut)

pub cut_met : (e : Enclosed) (ps : List (List ℕ)) (n : ℕ) (d : List ℕ) → AllByRecursion (IsPiece e) ps → n < closing_length e → IsCutEscape d → enclosed_length e 0 (joined_texts ps ++ (replicate n (mark e) ++ 92 ∷ d)) ≡ Err UnexpectedEnd
cut_met e [] n d all few cut = faulty_piece e (replicate n (mark e) ++ 92 ∷ d) UnexpectedEnd (end_met e n d few cut)
cut_met e (q ∷ qs) n d all few cut =
    let last = replicate n (mark e) ++ 92 ∷ d in
    let rest = joined_texts qs ++ last in
    let met = piece_met e q rest all.0 in
    let long : length (q ++ rest) ≡ length q + length rest = length-append q rest in
    let none : 0 + length q ≡ length q = omega arith in
    ap (enclosed_length e 0) (append_assoc q (joined_texts qs) last)
    ∙ sym (opened_zero (enclosed_length e 0 (q ++ rest)))
    ∙ held_piece e (q ++ rest) (length q) 0 met.1 (omega arith) met.0
    ∙ ap (λ x. opened x (enclosed_length e 0 (drop (length q) (q ++ rest)))) none
    ∙ ap (λ x. opened (length q) (enclosed_length e 0 x)) (drop-append_seam q rest)
    ∙ ap (opened (length q)) (cut_met e qs n d all.1 few cut)
