-- The longest names reach over each name of the productions.
use Rattle.std.proofs.Common.{◌≡◌, ◌∙◌, ℕ, zero, suc, ◌+◌, ◌<◌, ◌≤◌, true, cond, List, [], ◌∷◌, ◌++◌, length, refl, sym, ap, subst, arith, append_assoc, length-append, ◌⊎◌, inl, inr}
use Rattle.std.specs.List.{AllByRecursion}
use Rattle.rdf_lexical.specs.declared.classes.Class.TheVariants.{Hexadecimal, NameStart, NameUnderscoreOrDigit, Name, LocalStart, NameOrColon, LocalEscape}
use Rattle.rdf_lexical.specs.Classes.{holds, begins_with}
use Rattle.rdf_lexical.specs.Names.{with_dot, name_length}
use Rattle.turtle_lex.specs.Names.{begins_with_pair, local_piece, with_piece, local_run, local_length, prefix_length}
use Rattle.rdf_lexical.specs.Productions.{joined_texts, IsNameTail}
use Rattle.turtle_lex.specs.Productions.{IsPrefix, IsLocalPiece, IsLocalPieceOrDot, IsLocal}
use Rattle.rdf_lexical.proofs.Runs.{apart}
use Rattle.rdf_lexical.proofs.NameTails.{name_before, named, label_is_name}

start_is_name : (c : ℕ) → holds NameStart c ≡ true → holds Name c ≡ true
start_is_name c h = rw h refl

pub label_reached : (c : ℕ) (v u : List ℕ) → holds NameUnderscoreOrDigit c ≡ true → IsNameTail Name v → suc (length v) ≤ name_length Name (c ∷ (v ++ u))
label_reached c v u h tail = named Name c v u (label_is_name c h) tail

-- the prefix before its colon
pub prefix_reached : (p u : List ℕ) → (p ≡ []) ⊎ IsPrefix p → prefix_length (p ++ 58 ∷ u) ≡ length p
prefix_reached p u (inl e) = subst (λ (x : List ℕ). prefix_length (x ++ 58 ∷ u) ≡ length x) (sym e) refl
prefix_reached p u (inr (c, v, e, first, tail)) = subst (λ (x : List ℕ). prefix_length (x ++ 58 ∷ u) ≡ length x) (sym e) (
    let low = named Name c v (58 ∷ u) (start_is_name c first) tail in
    let high = name_before Name (c ∷ v) 58 u refl in
    let value : prefix_length (c ∷ (v ++ 58 ∷ u)) ≡ name_length Name (c ∷ (v ++ 58 ∷ u)) = ap (λ b. cond b (name_length Name (c ∷ (v ++ 58 ∷ u))) 0) first in
    omega arith)

-- the pieces of a local name
one_character : (c : ℕ) (r : List ℕ) → holds NameOrColon c ≡ true → local_run 0 (c ∷ r) ≡ suc (local_run 0 r)
one_character c r h =
    let dot = apart (holds NameOrColon) c 46 h refl in
    let percent = apart (holds NameOrColon) c 37 h refl in
    let backslash = apart (holds NameOrColon) c 92 h refl in
    let piece : local_piece (c ∷ r) ≡ 1 = rw (percent, backslash, h) refl in
    ap (λ b. cond b (with_dot (local_run 0 r)) (with_piece (local_piece (c ∷ r)) (λ n. local_run n r))) dot ∙ ap (λ m. with_piece m (λ n. local_run n r)) piece

percent_pair : (a b : ℕ) (r : List ℕ) → holds Hexadecimal a ≡ true → holds Hexadecimal b ≡ true → local_run 0 (37 ∷ a ∷ b ∷ r) ≡ suc (suc (suc (local_run 0 r)))
percent_pair a b r high low =
    let pair : begins_with_pair (a ∷ b ∷ r) ≡ true = rw (high, low) refl in
    ap (λ t. with_piece (cond t 3 0) (λ n. local_run n (a ∷ b ∷ r))) pair

escaped_pair : (c : ℕ) (r : List ℕ) → holds LocalEscape c ≡ true → local_run 0 (92 ∷ c ∷ r) ≡ suc (suc (local_run 0 r))
escaped_pair c r h = ap (λ t. with_piece (cond t 2 0) (λ n. local_run n (c ∷ r))) h

piece_met : (p r : List ℕ) → IsLocalPiece p → (local_run 0 (p ++ r) ≡ length p + local_run 0 r) × (0 < length p)
piece_met p r (inl (c, e, h)) = subst (λ (x : List ℕ). (local_run 0 (x ++ r) ≡ length x + local_run 0 r) × (0 < length x)) (sym e) (let one = one_character c r h in (omega arith, omega arith))
piece_met p r (inr (inl (a, b, e, high, low))) = subst (λ (x : List ℕ). (local_run 0 (x ++ r) ≡ length x + local_run 0 r) × (0 < length x)) (sym e) (let one = percent_pair a b r high low in (omega arith, omega arith))
piece_met p r (inr (inr (c, e, h))) = subst (λ (x : List ℕ). (local_run 0 (x ++ r) ≡ length x + local_run 0 r) × (0 < length x)) (sym e) (let one = escaped_pair c r h in (omega arith, omega arith))

dots_too : (n m : ℕ) → 0 < n → n ≤ m → suc n ≤ with_dot m
dots_too n zero some h = absurd (omega arith)
dots_too n (suc m) some h = omega arith

first_met : (q js p u : List ℕ) → IsLocalPieceOrDot q → (length (js ++ p) ≤ local_run 0 ((js ++ p) ++ u)) × (0 < length (js ++ p)) → (length ((q ++ js) ++ p) ≤ local_run 0 (((q ++ js) ++ p) ++ u)) × (0 < length ((q ++ js) ++ p))
first_met q js p u (inl piece) rest =
    let met = piece_met q ((js ++ p) ++ u) piece in
    let whole : ((q ++ js) ++ p) ++ u ≡ q ++ ((js ++ p) ++ u) = ap (λ x. x ++ u) (append_assoc q js p) ∙ append_assoc q (js ++ p) u in
    let size : length ((q ++ js) ++ p) ≡ length q + length (js ++ p) = ap length (append_assoc q js p) ∙ length-append q (js ++ p) in
    let value : local_run 0 (((q ++ js) ++ p) ++ u) ≡ length q + local_run 0 ((js ++ p) ++ u) = ap (local_run 0) whole ∙ met.0 in
    (omega (arith, rest.0), omega (arith, rest.1))
first_met q js p u (inr dot) rest = subst (λ (x : List ℕ). (length ((x ++ js) ++ p) ≤ local_run 0 (((x ++ js) ++ p) ++ u)) × (0 < length ((x ++ js) ++ p))) (sym dot) (dots_too (length (js ++ p)) (local_run 0 ((js ++ p) ++ u)) rest.1 rest.0, omega arith)

run_reached : (ps : List (List ℕ)) (p u : List ℕ) → AllByRecursion IsLocalPieceOrDot ps → IsLocalPiece p → (length (joined_texts ps ++ p) ≤ local_run 0 ((joined_texts ps ++ p) ++ u)) × (0 < length (joined_texts ps ++ p))
run_reached [] p u all last = let met = piece_met p u last in (omega (arith, met.0), met.1)
run_reached (q ∷ qs) p u all last = first_met q (joined_texts qs) p u all.0 (run_reached qs p u all.1 last)

starts_front : (t u : List ℕ) → begins_with LocalStart t ≡ true → begins_with LocalStart (t ++ u) ≡ true
starts_front [] u h = cc
starts_front (c ∷ t) u h = h

pub local_reached : (t u : List ℕ) → IsLocal t → (length t ≤ local_length (t ++ u)) × (0 < length t)
local_reached t u (ps, p, e, all, last, first) =
    let reached = run_reached ps p u all last in
    let value : local_length (t ++ u) ≡ local_run 0 (t ++ u) = ap (λ b. cond b (local_run 0 (t ++ u)) 0) (starts_front t u first) in
    let here : (length t ≤ local_run 0 (t ++ u)) × (0 < length t) = subst (λ (x : List ℕ). (length x ≤ local_run 0 (x ++ u)) × (0 < length x)) (sym e) reached in
    (omega (arith, here.0), here.1)
