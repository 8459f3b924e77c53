-- The names and the patterns of a select's block.
use Rattle.std.proofs.Common.{◌≡◌, ◌∙◌, ℕ, suc, ◌+◌, ◌-◌, ◌<◌, ◌≤◌, ◌&&◌, ◌==◌, nat_lt, not, true, false, cond, List, [], ◌∷◌, ◌++◌, length, map, take, drop, get_or, slice_index, Option, Some, None, Result, Ok, Err, refl, sym, ap, subst, add-one, drop-cons, arith, append_assoc, bytes_eq, length-append}
use Rattle.std.specs.Prelude.{IfOk}
use Rattle.std.specs.declared.alloc.AllocError.{AllocError}
use Rattle.std.specs.List.{flat_map, list_any, onto_first}
use Rattle.std.proofs.lemmas.Bool.Decides.{nat_tests}
use Rattle.std.proofs.lemmas.List.Filters.{length-filter_both}
use Rattle.std.proofs.lemmas.List.{length-take}
use Rattle.rdf_model.specs.declared.term.Term.{Term}
use Rattle.bgp_query.specs.declared.pattern.JoinPattern.{JoinPattern}
use Rattle.bgp_query.specs.declared.pattern.Part.{Part}
use Rattle.session_reader.specs.declared.find_line.LinePlace.{LinePlace}
use Rattle.session_reader.specs.declared.find_line.LinePlace.TheVariants.{Outside}
use Rattle.session_reader.specs.declared.find_line.Role.TheVariants.{Subject, Predicate, Object}
use Rattle.session_reader.specs.declared.read_command.ReadCommand.TheVariants.{BadSelect}
use Rattle.session_reader.specs.declared.read_command.ReadCommand.{ReadCommand}
use Rattle.session_reader.specs.declared.select_block.SelectLineFault.{SelectLineFault}
use Rattle.session_reader.specs.Faults.{RefusesLine}
use Rattle.session_reader.specs.FindLine.{asked, behind, has_blank_end, is_part, parts, pieces, separates}
use Rattle.session_reader.specs.LineEnds.{without_cr}
use Rattle.session_reader.specs.SelectBlock.{block_names, command_of, most_patterns, name_of, part_by, part_of, pattern_by, pattern_from, pattern_of, patterns_from, select_of, with_line, with_name, with_names, with_pattern}
use Rattle.session_reader.specs.Progress.{with_patterns}
use Rattle.session_reader.specs.SessionFile.{block_text}

pub with_names-append : (a xs ys : List (List ℕ)) → with_names a (xs ++ ys) ≡ with_names (with_names a xs) ys
with_names-append a [] ys = refl
with_names-append a (x ∷ xs) ys = with_names-append (with_name a (name_of x)) xs ys

-- There are no more names than parts, and no more parts than characters and one for each line.
with_name-length : (names : List (List ℕ)) (o : Option (List ℕ)) → length (with_name names o) ≤ length names + 1
with_name-length names None = omega arith
with_name-length names (Some name) = elim (list_any (λ n. bytes_eq n name) names) as (λ b. length (cond b names (names ++ name ∷ [])) ≤ length names + 1) [
  | true ↦ omega arith
  | false ↦ let e : length (names ++ name ∷ []) ≡ length names + 1 = simp length-append in omega (arith, e)
]

with_names-length : (names ps : List (List ℕ)) → length (with_names names ps) ≤ length names + length ps
with_names-length names [] = omega arith
with_names-length names (p ∷ ps) = omega (arith, with_names-length (with_name names (name_of p)) ps, with_name-length names (name_of p))

onto_first-length : (c : ℕ) (ps : List (List ℕ)) (k : ℕ) → length ps ≤ suc k → length (onto_first c ps) ≤ suc k
onto_first-length c [] k h = omega arith
onto_first-length c (p ∷ ps) k h = h

pieces-length : (place : LinePlace) (cs : List ℕ) → length (pieces place cs) ≤ suc (length cs)
pieces-length place [] = omega arith
pieces-length place (c ∷ cs) = elim (separates place c) as (λ b. length (cond b ([] ∷ pieces Outside cs) (onto_first c (pieces (behind place c) cs))) ≤ suc (suc (length cs))) [
  | true ↦ omega (arith, pieces-length Outside cs)
  | false ↦ onto_first-length c (pieces (behind place c) cs) (suc (length cs)) (omega (arith, pieces-length (behind place c) cs))
]

without_cr-length : (line : List ℕ) → length (without_cr line) ≤ length line
without_cr-length line = elim (nat_lt 0 (length line) && slice_index line (length line - 1) == 13) as (λ b. length (cond b (take (length line - 1) line) line) ≤ length line) [
  | true ↦ omega (arith, length-take (length line - 1) line)
  | false ↦ omega arith
]

parts-length : (line : List ℕ) → length (parts (without_cr line)) ≤ length line + 1
parts-length line =
    let text = without_cr line in
    omega (arith, length-filter_both is_part (λ x. not (is_part x)) (λ x. refl) (pieces Outside text), pieces-length Outside text, without_cr-length line)

lines-length : (lines : List (List ℕ)) → length (flat_map (λ line. parts (without_cr line)) lines) ≤ length (block_text lines)
lines-length [] = omega arith
lines-length (line ∷ lines) =
    let more = flat_map (λ l. parts (without_cr l)) lines in
    let here : length (parts (without_cr line) ++ more) ≡ length (parts (without_cr line)) + length more = simp length-append in
    let there : length ((line ++ 10 ∷ []) ++ block_text lines) ≡ length line + 1 + length (block_text lines) = simp length-append (omega arith) in
    omega (arith, here, there, parts-length line, lines-length lines)

pub names-length : (lines : List (List ℕ)) → length (block_names lines) ≤ length (block_text lines)
names-length lines = omega (arith, with_names-length [] (flat_map (λ line. parts (without_cr line)) lines), lines-length lines)

-- A line is a pattern or none, whatever the names of the variables are.
part_none : (a b : List (List ℕ)) (o : Option (List ℕ)) (t : Option (Option Term)) → part_by a o t ≡ None → part_by b o t ≡ None
part_none a b (Some name) t h = cc
part_none a b None t h = h

second_none : (s o : Option (Part Term)) → pattern_from s None o ≡ None
second_none None o = refl
second_none (Some s) o = refl

third_none : (s p : Option (Part Term)) → pattern_from s p None ≡ None
third_none None p = refl
third_none (Some s) None = refl
third_none (Some s) (Some p) = refl

from_none : (s p o s' p' o' : Option (Part Term)) → (s ≡ None → s' ≡ None) → (p ≡ None → p' ≡ None) → (o ≡ None → o' ≡ None) → pattern_from s p o ≡ None → pattern_from s' p' o' ≡ None
from_none None p o s' p' o' f g h e = ap (λ x. pattern_from x p' o') (f refl)
from_none (Some s) None o s' p' o' f g h e = ap (λ x. pattern_from s' x o') (g refl) ∙ second_none s' o'
from_none (Some s) (Some p) None s' p' o' f g h e = ap (λ x. pattern_from s' p' x) (h refl) ∙ third_none s' p'
from_none (Some s) (Some p) (Some o) s' p' o' f g h e = cc

by_none : (a b : List (List ℕ)) (ps : List (List ℕ)) → pattern_by a ps ≡ None → pattern_by b ps ≡ None
by_none a b [] h = refl
by_none a b (s ∷ []) h = refl
by_none a b (s ∷ p ∷ []) h = refl
by_none a b (s ∷ p ∷ o ∷ []) h =
    from_none (part_of a Subject s) (part_of a Predicate p) (part_of a Object o) (part_of b Subject s) (part_of b Predicate p) (part_of b Object o)
    (part_none a b (name_of s) (asked Subject s)) (part_none a b (name_of p) (asked Predicate p)) (part_none a b (name_of o) (asked Object o)) h
by_none a b (s ∷ p ∷ o ∷ x ∷ xs) h = refl

pattern_none : (a b : List (List ℕ)) (line : List ℕ) → pattern_of a line ≡ None → pattern_of b line ≡ None
pattern_none a b line h =
    elim (has_blank_end line) as (λ c. cond c None (pattern_by a (parts line)) ≡ None → cond c None (pattern_by b (parts line)) ≡ None) [
      | true ↦ λ e. refl
      | false ↦ λ e. by_none a b (parts line) e
    ] h

step_alike : (n k : ℕ) (o p : Option (JoinPattern Term)) (r t : Result (List (JoinPattern Term)) ℕ) → (o ≡ None → p ≡ None) → (p ≡ None → o ≡ None) → (r ≡ Err k → t ≡ Err k) → with_pattern n o r ≡ Err k → with_pattern n p t ≡ Err k
step_alike n k None p r t f g h e = ap (λ x. with_pattern n x t) (f refl) ∙ e
step_alike n k (Some q) None r t f g h e = let no : Some q ≡ None = g refl in cc
step_alike n k (Some q) (Some p) (Ok qs) t f g h e = cc
step_alike n k (Some q) (Some p) (Err j) t f g h e = ap (λ x. with_pattern n (Some p) x) (h e)

-- so the line that is refused is one
refused_alike : (a b : List (List ℕ)) (n k : ℕ) (lines : List (List ℕ)) → patterns_from a n lines ≡ Err k → patterns_from b n lines ≡ Err k
refused_alike a b n k [] h = cc
refused_alike a b n k (line ∷ lines) h =
    let text = without_cr line in
    elim (nat_lt most_patterns n)
    as (λ c. cond c (Err n) (with_pattern n (pattern_of a text) (patterns_from a (n + 1) lines)) ≡ Err k → cond c (Err n) (with_pattern n (pattern_of b text) (patterns_from b (n + 1) lines)) ≡ Err k) [
      | true ↦ λ e. e
      | false ↦ λ e. step_alike n k (pattern_of a text) (pattern_of b text) (patterns_from a (n + 1) lines) (patterns_from b (n + 1) lines) (pattern_none a b text) (pattern_none b a text) (refused_alike a b (n + 1) k lines) e
    ] h

-- the command of a block with a line that is refused, and of any other
pub refused_select : (lines : List (List ℕ)) (n : ℕ) → (lines ≡ [] → ⊥) → patterns_from [] 1 lines ≡ Err n → BadSelect n ≡ select_of lines
refused_select [] n some bad = absurd (some refl)
refused_select (line ∷ lines) n some bad = sym (ap command_of (refused_alike [] (block_names (line ∷ lines)) 1 n (line ∷ lines) bad))

pub named_select : (r : Result ReadCommand AllocError) (names lines : List (List ℕ)) → (lines ≡ [] → ⊥) → names ≡ block_names lines → IfOk r (λ c. c ≡ command_of (patterns_from names 1 lines)) → IfOk r (λ c. c ≡ select_of lines)
named_select (Ok c) names [] some is h = absurd (some refl)
named_select (Ok c) names (line ∷ lines) some is h = h ∙ ap (λ ns. command_of (patterns_from ns 1 (line ∷ lines))) is
named_select (Err e) names lines some is h = tt

-- a name that is known already
pub known_name : (names : List (List ℕ)) (o : Option (List ℕ)) (name : List ℕ) → Some name ≡ o → true ≡ list_any (λ n. bytes_eq n name) names → names ≡ with_name names o
known_name names o name is known = ap (λ b. cond b names (names ++ name ∷ [])) known ∙ ap (with_name names) is

-- a line more
moved_patterns : (ps : List (JoinPattern Term)) (n : ℕ) (p : JoinPattern Term) (r : Result (List (JoinPattern Term)) ℕ) → with_patterns ps (with_pattern n (Some p) r) ≡ with_patterns (ps ++ p ∷ []) r
moved_patterns ps n p (Ok qs) = ap Ok (sym (append_assoc ps (p ∷ []) qs))
moved_patterns ps n p (Err k) = refl

module _ (names : List (List ℕ)) (ps : List (JoinPattern Term)) (n : ℕ) (line : List ℕ) (rest : Result (List (JoinPattern Term)) ℕ) where
  pub past_most : 8 < n → with_patterns ps (with_line names n line rest) ≡ Err n
  past_most more =
      let past : nat_lt most_patterns n ≡ true = grind (arith, nat_tests, more) in
      ap (λ b. with_patterns ps (cond b (Err n) (with_pattern n (pattern_of names (without_cr line)) rest))) past

  pub line_refused : n ≤ 8 → pattern_of names (without_cr line) ≡ None → with_patterns ps (with_line names n line rest) ≡ Err n
  line_refused few none =
      let within : nat_lt most_patterns n ≡ false = grind (arith, nat_tests, few) in
      ap (λ b. with_patterns ps (cond b (Err n) (with_pattern n (pattern_of names (without_cr line)) rest))) within
      ∙ ap (λ o. with_patterns ps (with_pattern n o rest)) none

  pub line_read : (p : JoinPattern Term) → n ≤ 8 → pattern_of names (without_cr line) ≡ Some p → with_patterns ps (with_line names n line rest) ≡ with_patterns (ps ++ p ∷ []) rest
  line_read p few some =
      let within : nat_lt most_patterns n ≡ false = grind (arith, nat_tests, few) in
      ap (λ b. with_patterns ps (cond b (Err n) (with_pattern n (pattern_of names (without_cr line)) rest))) within
      ∙ ap (λ o. with_patterns ps (with_pattern n o rest)) some
      ∙ moved_patterns ps n p rest

pub some_lines : {X : Type 0} (f : X → List ℕ) (xs : List X) → false ≡ (length xs == 0) → map f xs ≡ [] → ⊥
some_lines f [] some e = cc
some_lines f (x ∷ xs) some e = cc

-- a line that is there
pub next_line : {X : Type 0} (f : X → List ℕ) (xs : List X) (i : ℕ) (d : X) → i < length xs → map f (drop i xs) ≡ f (get_or xs i d) ∷ map f (drop (i + 1) xs)
next_line {X} f xs i d lt =
    let there : drop i xs ≡ get_or xs i d ∷ drop (i + 1) xs = rw add-one (drop-cons xs i d lt) in
    ap (map f) there

-- the block fails at it
pub fails_line : (e : SelectLineFault) (names : List (List ℕ)) (ps : List (JoinPattern Term)) (n : ℕ) (line : List ℕ) (there lines : List (List ℕ)) (whole : Result (List (JoinPattern Term)) ℕ) → there ≡ line ∷ lines
    → RefusesLine (with_patterns ps (with_line names n line (patterns_from names (n + 1) lines))) e → with_patterns ps (patterns_from names n there) ≡ whole → RefusesLine whole e
fails_line e names ps n line there lines whole same h before =
    subst (λ (r : Result (List (JoinPattern Term)) ℕ). RefusesLine r e) (sym (ap (λ ls. with_patterns ps (patterns_from names n ls)) same) ∙ before) h

-- its names are known
pub names_on : (names more : List (List ℕ)) (text line : List ℕ) (there lines whole : List (List ℕ)) → there ≡ line ∷ lines → text ≡ without_cr line → more ≡ with_names names (parts text)
    → with_names names (flat_map (λ l. parts (without_cr l)) there) ≡ whole → with_names more (flat_map (λ l. parts (without_cr l)) lines) ≡ whole
names_on names more text line there lines whole same trimmed is before =
    let rest = flat_map (λ l. parts (without_cr l)) lines in
    ap (λ ns. with_names ns rest) (is ∙ ap (λ t. with_names names (parts t)) trimmed)
    ∙ sym (with_names-append names (parts (without_cr line)) rest)
    ∙ sym (ap (λ ls. with_names names (flat_map (λ l. parts (without_cr l)) ls)) same) ∙ before
