-- Lines: a text has its lines in one way.
use Rattle.std.proofs.Common.{◌≡◌, ◌≢◌, ◌∙◌, ℕ, suc, ◌+◌, ◌≤◌, List, [], ◌∷◌, ◌++◌, length, take-append-drop, get_or, refl, sym, ap, arith, append_assoc, append-nil, length-append}
use Rattle.std.specs.Prelude.{MatchOption, nat_eq, take, drop, Option, None, Some, true, false}
use Rattle.std.specs.Borrow.{Bor}
use Rattle.std.specs.List.{AllByRecursion, flat_map}
use lib.Pointwise.{pointwise}
use Rattle.std.proofs.lemmas.Bool.Decides.{Decides-eqb}
use Rattle.std.proofs.lemmas.Slice.Eq.{strip_prefix_is, slice_eq-Decides}
use Rattle.std.proofs.lemmas.List.{append_cancel_left}
use Rattle.std.proofs.lemmas.Grind.{flat_map-append}
use Rattle.record_text.specs.Lines.{HasNoEnd, ended, marked, HasNoMark}

-- the first line, and what follows it
pub same_first : (a b x y : List ℕ) → HasNoEnd a → HasNoEnd b → ended a ++ x ≡ ended b ++ y → (a ≡ b) × (x ≡ y)
same_first [] [] x y n m e = (refl, append_cancel_left (10 ∷ []) x y e)
same_first [] (d ∷ b) x y n m e = absurd (m 0 (omega arith) (sym (ap (λ (l : List ℕ). get_or l 0 0) e)))
same_first (c ∷ a) [] x y n m e = absurd (n 0 (omega arith) (ap (λ (l : List ℕ). get_or l 0 0) e))
same_first (c ∷ a) (d ∷ b) x y n m e =
    let first : c ≡ d = ap (λ (l : List ℕ). get_or l 0 0) e in
    let rest : ended a ++ x ≡ ended b ++ y = append_cancel_left (c ∷ []) _ _ (e ∙ ap (λ z. z ∷ (ended b ++ y)) (sym first)) in
    let more = same_first a b x y (λ i lt. n (suc i) (omega (arith, lt))) (λ i lt. m (suc i) (omega (arith, lt))) rest in
    ((λ i. first i ∷ more.0 i), more.1)

-- the same of a line with a mark
pub same_marked : (mark a b x y : List ℕ) → HasNoEnd a → HasNoEnd b → marked mark a ++ x ≡ marked mark b ++ y → (a ≡ b) × (x ≡ y)
same_marked mark a b x y n m e =
    same_first a b x y n m (append_cancel_left mark _ _ (sym (append_assoc mark (ended a) x) ∙ e ∙ append_assoc mark (ended b) y))

-- all first lines that have a mark, and what follows them
pub same_lines : (mark : List ℕ) (ls ms : List (List ℕ)) (x y : List ℕ) → AllByRecursion HasNoEnd ls → AllByRecursion HasNoEnd ms → HasNoMark mark x → HasNoMark mark y
    → flat_map (marked mark) ls ++ x ≡ flat_map (marked mark) ms ++ y → (ls ≡ ms) × (x ≡ y)
same_lines mark [] [] x y n m p q e = (refl, e)
same_lines mark [] (b ∷ ms) x y n m p q e = absurd (p b (flat_map (marked mark) ms ++ y) m.0 (e ∙ append_assoc (marked mark b) (flat_map (marked mark) ms) y))
same_lines mark (a ∷ ls) [] x y n m p q e = absurd (q a (flat_map (marked mark) ls ++ x) n.0 (sym e ∙ append_assoc (marked mark a) (flat_map (marked mark) ls) x))
same_lines mark (a ∷ ls) (b ∷ ms) x y n m p q e =
    let first = same_marked mark a b (flat_map (marked mark) ls ++ x) (flat_map (marked mark) ms ++ y) n.0 m.0
    (sym (append_assoc (marked mark a) (flat_map (marked mark) ls) x) ∙ e ∙ append_assoc (marked mark b) (flat_map (marked mark) ms) y) in
    let more = same_lines mark ls ms x y n.1 m.1 p q first.1 in
    ((λ i. first.0 i ∷ more.0 i), more.1)

-- a text without the mark, and one with it
pub not_marked : (mark text : List ℕ) → pointwise nat_eq (take (length mark) text) mark ≡ false → HasNoMark mark text
not_marked mark text h line rest n e = strip_prefix_is Decides-eqb text mark None h (ended line ++ rest) (e ∙ append_assoc mark (ended line) rest)

abbrev IsFirst : (List ℕ → List ℕ) → List ℕ → Option (Bor (List ℕ) × Bor (List ℕ)) → Type 0
IsFirst spelled text r = MatchOption r ((line rest : List ℕ) → HasNoEnd line → text ≢ spelled line ++ rest) (λ s. (line : List ℕ) × HasNoEnd line × (s.0.now ≡ ended line) × (text ≡ spelled line ++ s.1.now))

pub marked_first : (mark text behind : List ℕ) (r : Option (Bor (List ℕ) × Bor (List ℕ))) → text ≡ mark ++ behind → IsFirst ended behind r → IsFirst (marked mark) text r
marked_first mark text behind None is h = λ line rest n e. h line rest n (append_cancel_left mark _ _ (sym is ∙ e ∙ append_assoc mark (ended line) rest))
marked_first mark text behind (Some s) is h = (h.0, h.1, h.2, is ∙ ap (λ (l : List ℕ). mark ++ l) h.3 ∙ sym (append_assoc mark (ended h.0) s.1.now))

pub behind_mark : (mark text behind : List ℕ) → pointwise nat_eq (take (length mark) text) mark ≡ true → behind ≡ drop (length mark) text → text ≡ mark ++ behind
behind_mark mark text behind t d = sym (take-append-drop (length mark) text) ∙ ap (λ (l : List ℕ). l ++ drop (length mark) text) (same_texts (take (length mark) text) mark t) ∙ ap (λ (l : List ℕ). mark ++ l) (sym d)
  where
    same_texts : (a b : List ℕ) → pointwise nat_eq a b ≡ true → a ≡ b
    same_texts a b h = (slice_eq-Decides Decides-eqb a b (pointwise nat_eq a b) refl).0 h

pub all_push : {X : Type 0} (P : X → Type 0) (xs : List X) (x : X) → AllByRecursion P xs → P x → AllByRecursion P (xs ++ x ∷ [])
all_push P [] x a p = (p, tt)
all_push P (y ∷ xs) x a p = (a.0, all_push P xs x a.1 p)

push : (f : List ℕ → List ℕ) (xs : List (List ℕ)) (x : List ℕ) → flat_map f (xs ++ x ∷ []) ≡ flat_map f xs ++ f x
push f xs x = flat_map-append f xs (x ∷ []) ∙ ap (λ (l : List ℕ). flat_map f xs ++ l) (append-nil (f x))

-- one marked line more
pub one_more : (mark text lines rest : List ℕ) (each : List (List ℕ)) (x next new : List ℕ) → AllByRecursion HasNoEnd each → text ≡ flat_map (marked mark) each ++ rest → lines ≡ flat_map ended each
    → length lines + length rest ≤ length text → HasNoEnd x → rest ≡ marked mark x ++ next → new ≡ lines ++ ended x
    → AllByRecursion HasNoEnd (each ++ x ∷ []) × (text ≡ flat_map (marked mark) (each ++ x ∷ []) ++ next) × (new ≡ flat_map ended (each ++ x ∷ [])) × (length new + length next ≤ length text)
one_more mark text lines rest each x next new ends t l size n r w =
    let whole = t ∙ ap (λ (y : List ℕ). flat_map (marked mark) each ++ y) r ∙ sym (append_assoc (flat_map (marked mark) each) (marked mark x) next) ∙ ap (λ (y : List ℕ). y ++ next) (sym (push (marked mark) each x)) in
    let all = w ∙ ap (λ (y : List ℕ). y ++ ended x) l ∙ sym (push ended each x) in
    let a : length new ≡ length lines + length (ended x) = ap length w ∙ length-append lines (ended x) in
    let b : length rest ≡ length (marked mark x) + length next = ap length r ∙ length-append (marked mark x) next in
    let d : length (marked mark x) ≡ length mark + length (ended x) = length-append mark (ended x) in
    (all_push HasNoEnd each x ends n, whole, all, omega (arith, a, b, d, size))
