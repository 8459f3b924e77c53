-- The longest names are those of the productions.
use Rattle.std.proofs.Common.{◌≡◌, ◌∙◌, ℕ, zero, suc, ◌≤◌, true, false, cond, ◌==◌, ◌&&◌, List, [], ◌∷◌, ◌++◌, length, take, refl, sym, ap, subst, arith, append_assoc, append-nil, ◌⊎◌, inl, inr}
use Rattle.std.specs.List.{AllByRecursion}
use Rattle.std.proofs.lemmas.Bool.{eqb-true}
use Rattle.rdf_lexical.specs.declared.classes.Class.TheVariants.{Hexadecimal, NameStart, Name, LocalStart, NameOrColon, LocalEscape}
use Rattle.rdf_lexical.specs.Classes.{holds, begins_with}
use Rattle.rdf_lexical.specs.Names.{with_dot, name_length}
use Rattle.rdf_lexical.proofs.NameTails.{tail_shape, dotted_bound}
use Rattle.turtle_lex.specs.Names.{begins_with_pair, local_piece, with_piece, local_run, local_length, prefix_length}
use Rattle.rdf_lexical.specs.Productions.{joined_texts}
use Rattle.turtle_lex.specs.Productions.{IsPrefix, IsLocalPiece, IsLocalPieceOrDot, IsLocal}

by_length : (c : ℕ) (cs : List ℕ) → holds NameStart c ≡ true → (n : ℕ) → name_length Name (c ∷ cs) ≡ n → (take n (c ∷ cs) ≡ []) ⊎ IsPrefix (take n (c ∷ cs))
by_length c cs h zero e = inl refl
by_length c cs h (suc n) e = inr (c, take n cs, refl, h, tail_shape Name c n cs e)

pub prefix_shape : (cs : List ℕ) → (take (prefix_length cs) cs ≡ []) ⊎ IsPrefix (take (prefix_length cs) cs)
prefix_shape [] = inl refl
prefix_shape (c ∷ cs) = elim (holds NameStart c) as (λ b. holds NameStart c ≡ b → (take (cond b (name_length Name (c ∷ cs)) 0) (c ∷ cs) ≡ []) ⊎ IsPrefix (take (cond b (name_length Name (c ∷ cs)) 0) (c ∷ cs))) [
  | true ↦ λ h. by_length c cs h (name_length Name (c ∷ cs)) refl
  | false ↦ λ h. inl refl
] refl

-- the pieces of a local name
abbrev Piece : ℕ → ℕ → List ℕ → Type 0
Piece c n cs = IsLocalPiece (c ∷ take n cs) × (n ≤ length cs)

percent_shape : (c n : ℕ) (cs : List ℕ) → c ≡ 37 → cond (begins_with_pair cs) 3 0 ≡ suc n → Piece c n cs
percent_shape c n [] is f = absurd (omega arith)
percent_shape c n (a ∷ []) is f = absurd (omega arith)
percent_shape c n (a ∷ b ∷ r) is f = elim (holds Hexadecimal a) as (λ t. holds Hexadecimal a ≡ t → cond (t && holds Hexadecimal b) 3 0 ≡ suc n → Piece c n (a ∷ b ∷ r)) [
  | true ↦ λ h. elim (holds Hexadecimal b) as (λ t. holds Hexadecimal b ≡ t → cond t 3 0 ≡ suc n → Piece c n (a ∷ b ∷ r)) [
    | true ↦ λ g e. let two : n ≡ 2 = omega arith in subst (λ m. Piece c m (a ∷ b ∷ r)) (sym two) (inr (inl (a, b, ap (λ x. x ∷ a ∷ b ∷ []) is, h, g)), omega arith)
    | false ↦ λ g e. absurd (omega arith)
  ] refl
  | false ↦ λ h e. absurd (omega arith)
] refl f

escape_shape : (c n : ℕ) (cs : List ℕ) → c ≡ 92 → cond (begins_with LocalEscape cs) 2 0 ≡ suc n → Piece c n cs
escape_shape c n [] is f = absurd (omega arith)
escape_shape c n (a ∷ r) is f = elim (holds LocalEscape a) as (λ t. holds LocalEscape a ≡ t → cond t 2 0 ≡ suc n → Piece c n (a ∷ r)) [
  | true ↦ λ h e. let one : n ≡ 1 = omega arith in subst (λ m. Piece c m (a ∷ r)) (sym one) (inr (inr (a, ap (λ x. x ∷ a ∷ []) is, h)), omega arith)
  | false ↦ λ h e. absurd (omega arith)
] refl f

character_shape : (c n : ℕ) (cs : List ℕ) → cond (holds NameOrColon c) 1 0 ≡ suc n → Piece c n cs
character_shape c n cs f = elim (holds NameOrColon c) as (λ t. holds NameOrColon c ≡ t → cond t 1 0 ≡ suc n → Piece c n cs) [
  | true ↦ λ h e. let none : n ≡ 0 = omega arith in subst (λ m. Piece c m cs) (sym none) (inl (c, refl, h), omega arith)
  | false ↦ λ h e. absurd (omega arith)
] refl f

piece_shape : (c n : ℕ) (cs : List ℕ) → local_piece (c ∷ cs) ≡ suc n → Piece c n cs
piece_shape c n cs f = elim (c == 37) as (λ b. (c == 37) ≡ b → cond b (cond (begins_with_pair cs) 3 0) (cond (c == 92) (cond (begins_with LocalEscape cs) 2 0) (cond (holds NameOrColon c) 1 0)) ≡ suc n → Piece c n cs) [
  | true ↦ λ h. percent_shape c n cs (eqb-true c 37 h)
  | false ↦ λ h. elim (c == 92) as (λ b. (c == 92) ≡ b → cond b (cond (begins_with LocalEscape cs) 2 0) (cond (holds NameOrColon c) 1 0) ≡ suc n → Piece c n cs) [
    | true ↦ λ g. escape_shape c n cs (eqb-true c 92 g)
    | false ↦ λ g. character_shape c n cs
  ] refl
] refl f

abbrev IsLocalRun : List ℕ → Type 0
IsLocalRun t = (ps : List (List ℕ)) × (p : List ℕ) × (t ≡ joined_texts ps ++ p) × AllByRecursion IsLocalPieceOrDot ps × IsLocalPiece p

abbrev LocalRun : ℕ → ℕ → List ℕ → Type 0
LocalRun k n cs = (x : List ℕ) × (take n cs ≡ take k cs ++ x) × ((x ≡ []) ⊎ IsLocalRun x)

piece_bound : (c : ℕ) (cs : List ℕ) (m : ℕ) → local_piece (c ∷ cs) ≡ m → ((k : ℕ) → k ≤ length cs → local_run k cs ≤ length cs) → with_piece m (λ n. local_run n cs) ≤ suc (length cs)
piece_bound c cs zero e more = omega arith
piece_bound c cs (suc m) e more = let inside = more m (piece_shape c m cs e).1 in omega arith

pub run_bound : (k : ℕ) (cs : List ℕ) → k ≤ length cs → local_run k cs ≤ length cs
run_bound k [] h = omega arith
run_bound (suc k) (c ∷ cs) h = let more = run_bound k cs (omega arith) in omega arith
run_bound zero (c ∷ cs) h = let more = run_bound 0 cs (omega arith) in elim (c == 46) as (λ b. cond b (with_dot (local_run 0 cs)) (with_piece (local_piece (c ∷ cs)) (λ n. local_run n cs)) ≤ suc (length cs)) [
  | true ↦ dotted_bound (local_run 0 cs) (length cs) more
  | false ↦ piece_bound c cs (local_piece (c ∷ cs)) refl (λ m. run_bound m cs)
]

-- a dot before more
dot_before : (c n : ℕ) (cs : List ℕ) → c ≡ 46 → n ≤ length cs → LocalRun 0 n cs → LocalRun 0 (with_dot n) (c ∷ cs)
dot_before c zero cs is h run = ([], refl, inl refl)
dot_before c (suc n) [] is h run = absurd (omega arith)
dot_before c (suc n) (d ∷ cs) is h (x, e, inl none) = let nothing : d ∷ take n cs ≡ [] = e ∙ none in cc
dot_before c (suc n) (d ∷ cs) is h (x, e, inr (ps, p, parts, all, last)) =
    (c ∷ x, ap (λ y. c ∷ y) e, inr ((46 ∷ []) ∷ ps, p, ap (λ y. c ∷ y) parts ∙ ap (λ y. y ∷ (joined_texts ps ++ p)) is, (inr refl, all), last))

-- a piece before what follows
piece_before : (c k n : ℕ) (cs : List ℕ) → IsLocalPiece (c ∷ take k cs) → LocalRun k n cs → LocalRun 0 (suc n) (c ∷ cs)
piece_before c k n cs piece (x, e, inl none) = (c ∷ take k cs, ap (λ y. c ∷ y) (e ∙ ap (λ y. take k cs ++ y) none ∙ append-nil (take k cs)), inr ([], c ∷ take k cs, refl, tt, piece))
piece_before c k n cs piece (x, e, inr (ps, p, parts, all, last)) =
    ((c ∷ take k cs) ++ x, ap (λ y. c ∷ y) e, inr ((c ∷ take k cs) ∷ ps, p, ap (λ y. (c ∷ take k cs) ++ y) parts ∙ sym (append_assoc (c ∷ take k cs) (joined_texts ps) p), (inl piece, all), last))

longer : (c k n : ℕ) (cs : List ℕ) → LocalRun k n cs → LocalRun (suc k) (suc n) (c ∷ cs)
longer c k n cs (x, e, run) = (x, ap (λ y. c ∷ y) e, run)

at_piece : (c : ℕ) (cs : List ℕ) (m : ℕ) → local_piece (c ∷ cs) ≡ m → ((k : ℕ) → k ≤ length cs → LocalRun k (local_run k cs) cs) → LocalRun 0 (with_piece m (λ n. local_run n cs)) (c ∷ cs)
at_piece c cs zero e more = ([], refl, inl refl)
at_piece c cs (suc m) e more = let piece = piece_shape c m cs e in piece_before c m (local_run m cs) cs piece.0 (more m piece.1)

some_run : (c n : ℕ) (cs : List ℕ) (m : ℕ) → m ≡ suc n → holds LocalStart c ≡ true → LocalRun 0 m (c ∷ cs) → IsLocal (take m (c ∷ cs))
some_run c n cs zero f h run = absurd (omega arith)
some_run c n cs (suc m) f h (x, e, inl none) = let nothing : c ∷ take m cs ≡ [] = e ∙ none in cc
some_run c n cs (suc m) f h (x, e, inr (ps, p, parts, all, last)) = (ps, p, e ∙ parts, all, last, h)

local_run_shape : (k : ℕ) (cs : List ℕ) → k ≤ length cs → LocalRun k (local_run k cs) cs
local_run_shape zero [] h = ([], refl, inl refl)
local_run_shape (suc k) [] h = absurd (omega arith)
local_run_shape (suc k) (c ∷ cs) h = longer c k (local_run k cs) cs (local_run_shape k cs (omega arith))
local_run_shape zero (c ∷ cs) h = elim (c == 46) as (λ b. (c == 46) ≡ b → LocalRun 0 (cond b (with_dot (local_run 0 cs)) (with_piece (local_piece (c ∷ cs)) (λ n. local_run n cs))) (c ∷ cs)) [
  | true ↦ λ e. dot_before c (local_run 0 cs) cs (eqb-true c 46 e) (run_bound 0 cs (omega arith)) (local_run_shape 0 cs (omega arith))
  | false ↦ λ e. at_piece c cs (local_piece (c ∷ cs)) refl (λ m. local_run_shape m cs)
] refl

pub local_shape : (cs : List ℕ) (n : ℕ) → local_length cs ≡ suc n → IsLocal (take (local_length cs) cs)
local_shape [] n e = absurd (omega arith)
local_shape (c ∷ cs) n e = elim (holds LocalStart c) as (λ b. holds LocalStart c ≡ b → cond b (local_run 0 (c ∷ cs)) 0 ≡ suc n → IsLocal (take (cond b (local_run 0 (c ∷ cs)) 0) (c ∷ cs))) [
  | true ↦ λ h f. some_run c n cs (local_run 0 (c ∷ cs)) f h (local_run_shape 0 (c ∷ cs) (omega arith))
  | false ↦ λ h f. absurd (omega arith)
] refl e
