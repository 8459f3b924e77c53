-- Paths without dot segments.
use Rattle.std.proofs.Common.{◌≡◌, ℕ, zero, suc, ◌+◌, ◌<◌, ◌≤◌, Bool, true, false, ◌||◌, ◌⊎◌, inl, inr, List, [], ◌∷◌, ◌++◌, length, get_or, take, drop, refl, sym, ap, ◌∙◌, subst, cond, eqb, arith, ⊎_elim, append_assoc, add-one, add_comm, drop-cons, length-append, codes, bytes_eq}
use Rattle.std.specs.List.{starts_with, position_or_len, list_any, onto_first}
use Rattle.std.proofs.lemmas.Bool.{cases_Bool, cases_lt, cases_eq, cond_both, cond-false, both_ways, or_cases, or_from, or_parts, eq-eqb, ne_eqb, eqb-true, eqb-false, false_from_ne_true}
use Rattle.std.proofs.lemmas.List.{append-nil, take-append-drop, drop_all}
use Rattle.std.proofs.lemmas.List.Folds.{list_any-append}
use Rattle.std.proofs.lemmas.List.Sums.{passes_at_first}
use Rattle.std.proofs.lemmas.Slice.Eq.{bytes_eq-Decides}
use Rattle.iri_ref.specs.DotSegments.{Buffers, step, begins_with_segment, segment_len, output_after, without_last_segment, without_dot_segments, segments, is_dot_segment, has_dot_segment}
use Rattle.iri_ref.specs.Laws.{RemovesDotSegments, KeepsOtherSegments, Lacks}
use Rattle.iri_ref.proofs.Marks.{lacks-before, before_last-at, before_last-lacks, last_place, take-one_more}
use Rattle.iri_ref.proofs.Prefixes.{starts_with-true, starts_with-append, begins-end, begins-slash, bytes_eq-false}

-- the segments of a path that is cut at a slash

some_part : (text : List ℕ) → (first : List ℕ) × (others : List (List ℕ)) × (segments text ≡ first ∷ others)
some_part [] = ([], [], refl)
some_part (x ∷ xs) =
    let p = some_part xs in
    ⊎_elim
    (λ (e : eqb x 47 ≡ true). ([], segments xs, ap (λ b. cond b ([] ∷ segments xs) (onto_first x (segments xs))) e))
    (λ (e : eqb x 47 ≡ false). (x ∷ p.0, p.1, ap (λ b. cond b ([] ∷ segments xs) (onto_first x (segments xs))) e ∙ ap (onto_first x) p.2))
    (cases_Bool (eqb x 47))

onto_first-append : (x : ℕ) (parts more : List (List ℕ)) (first : List ℕ) (others : List (List ℕ)) → parts ≡ first ∷ others → onto_first x (parts ++ more) ≡ onto_first x parts ++ more
onto_first-append x parts more first others e = ap (λ l. onto_first x (l ++ more)) e ∙ sym (ap (λ l. onto_first x l ++ more) e)

segments-append : (xs ys : List ℕ) → segments (xs ++ 47 ∷ ys) ≡ segments xs ++ segments ys
segments-append [] ys = refl
segments-append (x ∷ xs) ys =
    let p = some_part xs in
    let more : segments (xs ++ 47 ∷ ys) ≡ segments xs ++ segments ys = segments-append xs ys in
    elim (eqb x 47) as (λ b. cond b ([] ∷ segments (xs ++ 47 ∷ ys)) (onto_first x (segments (xs ++ 47 ∷ ys))) ≡ cond b ([] ∷ segments xs) (onto_first x (segments xs)) ++ segments ys) [
      | true ↦ ap (λ l. [] ∷ l) more
      | false ↦ ap (onto_first x) more ∙ onto_first-append x (segments xs) (segments ys) p.0 p.1 p.2
    ]

segments-one : (text : List ℕ) → Lacks 47 text → segments text ≡ text ∷ []
segments-one [] h = refl
segments-one (x ∷ xs) h =
    let parts = or_parts (eqb x 47) (list_any (λ c. eqb c 47) xs) h in
    ap (λ b. cond b ([] ∷ segments xs) (onto_first x (segments xs))) parts.0 ∙ ap (onto_first x) (segments-one xs parts.1)

has_dot-append : (xs ys : List ℕ) → has_dot_segment (xs ++ 47 ∷ ys) ≡ (has_dot_segment xs || has_dot_segment ys)
has_dot-append xs ys = ap (list_any is_dot_segment) (segments-append xs ys) ∙ list_any-append is_dot_segment (segments xs) (segments ys)

has_dot-one : (text : List ℕ) → Lacks 47 text → is_dot_segment text ≡ false → has_dot_segment text ≡ false
has_dot-one text h e = ap (list_any is_dot_segment) (segments-one text h) ∙ or_from _ _ e refl

-- what follows a complete segment
abbrev pub EndsSegment : List ℕ → Type 0
EndsSegment rest = (rest ≡ []) ⊎ ((more : List ℕ) × (rest ≡ 47 ∷ more))

from-ends : (text : List ℕ) → EndsSegment (drop (position_or_len (λ c. eqb c 47) text) text)
from-ends text =
    ⊎_elim
    (λ (l : position_or_len (λ c. eqb c 47) text < length text).
    let at : get_or text (position_or_len (λ c. eqb c 47) text) 0 ≡ 47 = eqb-true _ 47 (passes_at_first (λ c. eqb c 47) text 0 l) in
    inr (drop (suc (position_or_len (λ c. eqb c 47) text)) text, drop-cons text (position_or_len (λ c. eqb c 47) text) 0 l ∙ ap (λ c. c ∷ drop (suc (position_or_len (λ c. eqb c 47) text)) text) at))
    (λ (l : length text ≤ position_or_len (λ c. eqb c 47) text). inl (drop_all _ text l))
    (cases_lt (position_or_len (λ c. eqb c 47) text) (length text))

-- the first segment of an input that is not empty
pub record Cut (input : List ℕ) : Type 0 where
  pub first : ℕ
  pub name : List ℕ
  pub rest : List ℕ
  pub whole : input ≡ first ∷ (name ++ rest)
  pub moves : take (segment_len input) input ≡ first ∷ name
  pub leaves : drop (segment_len input) input ≡ rest
  pub lacks : Lacks 47 name
  pub ends : EndsSegment rest

drop-one_more : (n x : ℕ) (xs : List ℕ) → drop (1 + n) (x ∷ xs) ≡ drop n xs
drop-one_more n x xs = ap (λ m. drop m (x ∷ xs)) (add_comm 1 n ∙ add-one n)

cut_of : (input : List ℕ) → 0 < length input → Cut input
cut_of [] some = absurd (omega arith)
cut_of (x ∷ xs) some =
    let at : ℕ = position_or_len (λ c. eqb c 47) xs in
    record {
      first = x;
      name = take at xs;
      rest = drop at xs;
      whole = ap (λ t. x ∷ t) (sym (take-append-drop at xs));
      moves = take-one_more at x xs;
      leaves = drop-one_more at x xs;
      lacks = lacks-before 47 xs;
      ends = from-ends xs;
    }

begins-complete : (text segment rest : List ℕ) → text ≡ segment ++ rest → EndsSegment rest → begins_with_segment text segment ≡ true
begins-complete text segment rest e ends =
    ⊎_elim
    (λ (none : rest ≡ []). begins-end text segment rest e (ap length none))
    (λ (slash : (more : List ℕ) × (rest ≡ 47 ∷ more)). begins-slash text segment slash.0 (e ∙ ap (λ t. segment ++ t) slash.1))
    ends

-- a segment that steps B and C leave alone is no dot segment
slash-name : (input name rest : List ℕ) → input ≡ 47 ∷ (name ++ rest) → EndsSegment rest → begins_with_segment input (codes "/.") ≡ false → begins_with_segment input (codes "/..") ≡ false → is_dot_segment name ≡ false
slash-name input name rest e ends one two =
    or_from _ _
    (bytes_eq-false name (codes ".") (λ d. both_ways _ one (begins-complete input (codes "/.") rest (e ∙ ap (λ t. 47 ∷ (t ++ rest)) d) ends)))
    (bytes_eq-false name (codes "..") (λ d. both_ways _ two (begins-complete input (codes "/..") rest (e ∙ ap (λ t. 47 ∷ (t ++ rest)) d) ends)))

bytes_eq-true : (text other : List ℕ) → text ≡ other → bytes_eq text other ≡ true
bytes_eq-true text other e = (bytes_eq-Decides text other).1 e

-- nor is one that steps A and D leave alone
first-name : (input name rest : List ℕ) → input ≡ name ++ rest → EndsSegment rest → starts_with eqb input (codes "../") ≡ false → starts_with eqb input (codes "./") ≡ false → (bytes_eq input (codes ".") || bytes_eq input (codes "..")) ≡ false → is_dot_segment name ≡ false
first-name input name rest e ends two one only =
    let alone = or_parts (bytes_eq input (codes ".")) (bytes_eq input (codes "..")) only in
    or_from _ _
    (bytes_eq-false name (codes ".") (λ d.
    ⊎_elim
    (λ (none : rest ≡ []). both_ways _ alone.0 (bytes_eq-true input (codes ".") (e ∙ ap (λ t. t ++ rest) d ∙ ap (λ t. codes "." ++ t) none)))
    (λ (slash : (more : List ℕ) × (rest ≡ 47 ∷ more)). both_ways _ one (starts_with-append input (codes "./") slash.0 (e ∙ ap (λ t. t ++ rest) d ∙ ap (λ t. codes "." ++ t) slash.1)))
    ends))
    (bytes_eq-false name (codes "..") (λ d.
    ⊎_elim
    (λ (none : rest ≡ []). both_ways _ alone.1 (bytes_eq-true input (codes "..") (e ∙ ap (λ t. t ++ rest) d ∙ ap (λ t. codes ".." ++ t) none)))
    (λ (slash : (more : List ℕ) × (rest ≡ 47 ∷ more)). both_ways _ two (starts_with-append input (codes "../") slash.0 (e ∙ ap (λ t. t ++ rest) d ∙ ap (λ t. codes ".." ++ t) slash.1)))
    ends))

-- what holds before and after each step: the output has no dot segment, and the input goes on with a new one
pub record IsClean (b : Buffers) : Type 0 where
  pub clean : has_dot_segment b.output ≡ false
  pub apart : (b.output ≡ []) ⊎ EndsSegment b.input

without_last-clean : (output : List ℕ) → has_dot_segment output ≡ false → has_dot_segment (without_last_segment output) ≡ false
without_last-clean output h =
    ⊎_elim
    (λ (none : Lacks 47 output). ap has_dot_segment (before_last-lacks output none))
    (λ (last : (front : List ℕ) × (name : List ℕ) × (output ≡ front ++ 47 ∷ name) × Lacks 47 name).
    let parts = or_parts (has_dot_segment last.0) (has_dot_segment last.1) (sym (has_dot-append last.0 last.1) ∙ sym (ap has_dot_segment last.2) ∙ h) in
    ap has_dot_segment (before_last-at output last.0 last.1 last.2 last.3) ∙ parts.0)
    (last_place output)

-- an input that begins with a dot is only taken while the output is empty
dot_first : (b : Buffers) (more : List ℕ) → IsClean b → b.input ≡ 46 ∷ more → b.output ≡ []
dot_first b more h e =
    ⊎_elim
    (λ (none : b.output ≡ []). none)
    (λ (ends : EndsSegment b.input).
    ⊎_elim
    (λ (none : b.input ≡ []). absurd (omega (arith, ap length none, ap length e)))
    (λ (slash : (rest : List ℕ) × (b.input ≡ 47 ∷ rest)). absurd (omega (arith, ap (λ t. get_or t 0 0) slash.1, ap (λ t. get_or t 0 0) e)))
    ends)
    h.apart

moved-clean : (b : Buffers) → 0 < length b.input → IsClean b → starts_with eqb b.input (codes "../") ≡ false → starts_with eqb b.input (codes "./") ≡ false
    → begins_with_segment b.input (codes "/.") ≡ false → begins_with_segment b.input (codes "/..") ≡ false → (bytes_eq b.input (codes ".") || bytes_eq b.input (codes "..")) ≡ false
    → IsClean (record { input = drop (segment_len b.input) b.input; output = b.output ++ take (segment_len b.input) b.input })
moved-clean b some h two one slash_one slash_two only =
    let cut : Cut b.input = cut_of b.input some in
    let ends : EndsSegment (drop (segment_len b.input) b.input) = subst (λ (t : List ℕ). EndsSegment t) (sym cut.leaves) cut.ends in
    ⊎_elim
    (λ (at : cut.first ≡ 47).
    let whole : b.input ≡ 47 ∷ (cut.name ++ cut.rest) = cut.whole ∙ ap (λ c. c ∷ (cut.name ++ cut.rest)) at in
    let name : is_dot_segment cut.name ≡ false = slash-name b.input cut.name cut.rest whole cut.ends slash_one slash_two in
    record {
      clean = ap (λ t. has_dot_segment (b.output ++ t)) (cut.moves ∙ ap (λ c. c ∷ cut.name) at) ∙ has_dot-append b.output cut.name ∙ or_from _ _ h.clean (has_dot-one cut.name cut.lacks name);
      apart = inr ends;
    })
    (λ (other : cut.first ≡ 47 → ⊥).
    let empty : b.output ≡ [] = unless_slash b.output b.input cut.first (cut.name ++ cut.rest) cut.whole other h.apart in
    let lacks : Lacks 47 (cut.first ∷ cut.name) = or_from _ _ (ne_eqb _ 47 other) cut.lacks in
    let name : is_dot_segment (cut.first ∷ cut.name) ≡ false = first-name b.input (cut.first ∷ cut.name) cut.rest cut.whole cut.ends two one only in
    record {
      clean = ap (λ t. has_dot_segment (t ++ take (segment_len b.input) b.input)) empty ∙ ap has_dot_segment cut.moves ∙ has_dot-one (cut.first ∷ cut.name) lacks name;
      apart = inr ends;
    })
    (cases_eq cut.first 47)
  where
    unless_slash : (output input : List ℕ) (c : ℕ) (more : List ℕ) → input ≡ c ∷ more → (c ≡ 47 → ⊥) → (output ≡ []) ⊎ EndsSegment input → output ≡ []
    unless_slash output input c more e other apart =
        ⊎_elim
        (λ (none : output ≡ []). none)
        (λ (ends : EndsSegment input).
        ⊎_elim
        (λ (none : input ≡ []). absurd (omega (arith, ap length none, ap length e)))
        (λ (slash : (rest : List ℕ) × (input ≡ 47 ∷ rest)). absurd (other (sym (ap (λ t. get_or t 0 0) e) ∙ ap (λ t. get_or t 0 0) slash.1)))
        ends)
        apart

step-clean : (b : Buffers) → 0 < length b.input → IsClean b → IsClean (step b)
step-clean b some h =
    cond_both (starts_with eqb b.input (codes "../")) _ _ IsClean
    (λ two. record { clean = h.clean; apart = inl (dot_first b _ h (starts_with-true b.input (codes "../") two)) })
    (λ two. cond_both (starts_with eqb b.input (codes "./")) _ _ IsClean
    (λ one. record { clean = h.clean; apart = inl (dot_first b _ h (starts_with-true b.input (codes "./") one)) })
    (λ one. cond_both (begins_with_segment b.input (codes "/.")) _ _ IsClean
    (λ _. record { clean = h.clean; apart = inr (inr (drop 3 b.input, refl)) })
    (λ slash_one. cond_both (begins_with_segment b.input (codes "/..")) _ _ IsClean
    (λ _. record { clean = without_last-clean b.output h.clean; apart = inr (inr (drop 4 b.input, refl)) })
    (λ slash_two. cond_both (bytes_eq b.input (codes ".") || bytes_eq b.input (codes "..")) _ _ IsClean
    (λ _. record { clean = h.clean; apart = inr (inl refl) })
    (λ only. moved-clean b some h two one slash_one slash_two only)))))

output_after-clean : (n : ℕ) (b : Buffers) → IsClean b → has_dot_segment (output_after n b) ≡ false
output_after-clean zero b h = h.clean
output_after-clean (suc n) b h =
    cond_both (eqb (length b.input) 0) b.output (output_after n (step b)) (λ t. has_dot_segment t ≡ false) (λ _. h.clean)
    (λ e. let other : length b.input ≡ 0 → ⊥ = eqb-false _ 0 e in output_after-clean n (step b) (step-clean b (omega arith) h))

pub removes_dot_segments : RemovesDotSegments
unfolding without_dot_segments
removes_dot_segments path = output_after-clean (length path) (record { input = path; output = [] }) (record { clean = refl; apart = inl refl })

-- an input with no dot segment only moves

free_of : (text : List ℕ) (test : Bool) → has_dot_segment text ≡ false → (test ≡ true → has_dot_segment text ≡ true) → test ≡ false
free_of text test h f = false_from_ne_true _ (λ e. both_ways _ h (f e))

begins-dots : (text segment : List ℕ) → has_dot_segment segment ≡ true → ((rest : List ℕ) → has_dot_segment ((segment ++ 47 ∷ []) ++ rest) ≡ true) → begins_with_segment text segment ≡ true → has_dot_segment text ≡ true
begins-dots text segment whole front h =
    ⊎_elim
    (λ (s : starts_with eqb text (segment ++ 47 ∷ []) ≡ true). ap has_dot_segment (starts_with-true text (segment ++ 47 ∷ []) s) ∙ front _)
    (λ (s : bytes_eq text segment ≡ true). ap has_dot_segment ((bytes_eq-Decides text segment).0 s) ∙ whole)
    (or_cases _ _ h)

step-moves : (b : Buffers) → has_dot_segment b.input ≡ false → step b ≡ record { input = drop (segment_len b.input) b.input; output = b.output ++ take (segment_len b.input) b.input }
step-moves b h =
    cond-false _ _ _ (free_of b.input _ h (λ e. ap has_dot_segment (starts_with-true b.input (codes "../") e)))
    ∙ cond-false _ _ _ (free_of b.input _ h (λ e. ap has_dot_segment (starts_with-true b.input (codes "./") e)))
    ∙ cond-false _ _ _ (free_of b.input _ h (begins-dots b.input (codes "/.") refl (λ rest. refl)))
    ∙ cond-false _ _ _ (free_of b.input _ h (begins-dots b.input (codes "/..") refl (λ rest. refl)))
    ∙ cond-false _ _ _ (free_of b.input _ h (λ e.
    ⊎_elim
    (λ (s : bytes_eq b.input (codes ".") ≡ true). ap has_dot_segment ((bytes_eq-Decides b.input (codes ".")).0 s))
    (λ (s : bytes_eq b.input (codes "..") ≡ true). ap has_dot_segment ((bytes_eq-Decides b.input (codes "..")).0 s))
    (or_cases _ _ e)))

rest-free : (input : List ℕ) (cut : Cut input) → has_dot_segment input ≡ false → has_dot_segment cut.rest ≡ false
rest-free input cut h =
    ⊎_elim
    (λ (none : cut.rest ≡ []). ap has_dot_segment none)
    (λ (slash : (more : List ℕ) × (cut.rest ≡ 47 ∷ more)).
    let whole : input ≡ (cut.first ∷ cut.name) ++ 47 ∷ slash.0 = cut.whole ∙ ap (λ t. cut.first ∷ (cut.name ++ t)) slash.1 in
    let parts = or_parts (has_dot_segment (cut.first ∷ cut.name)) (has_dot_segment slash.0) (sym (has_dot-append (cut.first ∷ cut.name) slash.0) ∙ sym (ap has_dot_segment whole) ∙ h) in
    ap has_dot_segment slash.1 ∙ parts.1)
    cut.ends

empty-nil : (text : List ℕ) → length text ≡ 0 → text ≡ []
empty-nil [] e = refl
empty-nil (x ∷ xs) e = absurd (omega arith)

output_after-free : (n : ℕ) (input output : List ℕ) → length input ≤ n → has_dot_segment input ≡ false → output_after n (record { input = input; output = output }) ≡ output ++ input
output_after-free zero input output l h = sym (append-nil output) ∙ ap (λ t. output ++ t) (sym (empty-nil input (omega arith)))
output_after-free (suc n) input output l h =
    let b : Buffers = record { input = input; output = output } in
    ⊎_elim
    (λ (e : length input ≡ 0).
    ap (λ t. cond t output (output_after n (step b))) (eq-eqb _ 0 e) ∙ sym (append-nil output) ∙ ap (λ t. output ++ t) (sym (empty-nil input e)))
    (λ (e : length input ≡ 0 → ⊥).
    let cut : Cut input = cut_of input (omega arith) in
    let shorter : length cut.rest ≤ n = omega (arith, ap length cut.whole, length-append cut.name cut.rest) in
    let next : step b ≡ record { input = cut.rest; output = output ++ (cut.first ∷ cut.name) } = step-moves b h ∙ (λ i. record { input = cut.leaves i; output = output ++ cut.moves i }) in
    ap (λ t. cond t output (output_after n (step b))) (ne_eqb _ 0 e) ∙ ap (output_after n) next
    ∙ output_after-free n cut.rest (output ++ (cut.first ∷ cut.name)) shorter (rest-free input cut h)
    ∙ append_assoc output (cut.first ∷ cut.name) cut.rest ∙ ap (λ t. output ++ t) (sym cut.whole))
    (cases_eq (length input) 0)

pub keeps_other_segments : KeepsOtherSegments
unfolding without_dot_segments
keeps_other_segments path h = output_after-free (length path) path [] (omega arith) h
