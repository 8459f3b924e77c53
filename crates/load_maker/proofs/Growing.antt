-- A file that grows by the lines of one number more.
use Rattle.std.proofs.Common.{◌≡◌, ℕ, ◌+◌, List, [], ◌∷◌, ◌++◌, sym, ap, ◌∙◌, append_assoc, arith}
use Rattle.std.specs.List.{flat_map, range_with_len}
use Rattle.std.proofs.lemmas.Grind.{flat_map-append}
use Rattle.std.proofs.lemmas.List.{append-nil, map-id}
use Rattle.std.proofs.lemmas.List.FromFn.{map-range_with_len_more}
use Rattle.load_maker.specs.Workload.{line, lines_text, type_lines, value_lines, commit_lines, transaction_lines}

parts_text : (a b c : List (List ℕ)) → lines_text (a ++ b ++ c) ≡ lines_text a ++ lines_text b ++ lines_text c
parts_text a b c = flat_map-append line (a ++ b) c ∙ ap (λ x. x ++ lines_text c) (flat_map-append line a b)

pub three_parts : (n i : ℕ) → lines_text (transaction_lines n i) ≡ lines_text (type_lines i) ++ lines_text (value_lines n i) ++ lines_text commit_lines
unfolding transaction_lines
three_parts n i = parts_text (type_lines i) (value_lines n i) commit_lines

pub put : (a b c old mid more new : List ℕ) → mid ≡ old ++ a → more ≡ mid ++ b → new ≡ more ++ c → new ≡ old ++ (a ++ b ++ c)
put a b c old mid more new e f g = g ∙ ap (λ x. x ++ c) f ∙ ap (λ x. (x ++ b) ++ c) e ∙ simp append_assoc

one_number : (k : ℕ) → 1 + k ≡ k + 1
one_number k = omega arith

range_more : (k : ℕ) → range_with_len 1 (k + 1) ≡ range_with_len 1 k ++ (k + 1) ∷ []
range_more k = sym (map-id (range_with_len 1 (k + 1))) ∙ (map-range_with_len_more (λ x. x) 1 k (k + 1) (one_number k) ∙ ap (λ xs. xs ++ (k + 1) ∷ []) (map-id (range_with_len 1 k)))

more_lines : (f : ℕ → List (List ℕ)) (k : ℕ) → flat_map f (range_with_len 1 (k + 1)) ≡ flat_map f (range_with_len 1 k) ++ f (k + 1)
more_lines f k = ap (flat_map f) (range_more k) ∙ (flat_map-append f (range_with_len 1 k) ((k + 1) ∷ []) ∙ ap (λ x. flat_map f (range_with_len 1 k) ++ x) (append-nil (f (k + 1))))

-- the lines of the first k numbers, and of one more
pub one_more : (f : ℕ → List (List ℕ)) (head : List (List ℕ)) (k : ℕ) (old new : List ℕ) → old ≡ lines_text (head ++ flat_map f (range_with_len 1 k)) → new ≡ old ++ lines_text (f (k + 1)) → new ≡ lines_text (head ++ flat_map f (range_with_len 1 (k + 1)))
one_more f head k old new e h =
    h ∙ (ap (λ x. x ++ lines_text (f (k + 1))) e ∙ (sym (flat_map-append line (head ++ flat_map f (range_with_len 1 k)) (f (k + 1))) ∙ ap lines_text (append_assoc head (flat_map f (range_with_len 1 k)) (f (k + 1)) ∙ ap (λ x. head ++ x) (sym (more_lines f k)))))
