-- The characters of a target are those of the base and of the reference, and delimiters.
use Rattle.std.proofs.Common.{◌≡◌, ◌∙◌, ℕ, zero, suc, ◌+◌, ◌<◌, ◌≤◌, Bool, true, ◌&&◌, ◌||◌, List, [], ◌∷◌, ◌++◌, length, get_or, take, drop, Option, Some, None, IfSome, refl, sym, ap, subst, eqb, ltb, arith, add-zero, ⊎_elim, codes, bytes_eq, is_some, IsCharBoundary, length-append}
use Rattle.std.specs.List.{list_all, list_any, starts_with, after_first, before_last, position_or_len}
use Rattle.std.specs.Str.{IsUtf8, chars}
use Rattle.std.proofs.lemmas.Bool.{cond_both, cases_lt, and_parts, and_from, or_cases, eqb-true, eqb-false, ltb-true}
use Rattle.std.proofs.lemmas.List.{take-append-drop, take-append-le, take_all, drop_all}
use Rattle.std.proofs.lemmas.List.Folds.{list_all-append}
use Rattle.std.proofs.lemmas.List.Sums.{passes_at_first}
use Rattle.std.proofs.lemmas.Slice.Eq.{bytes_eq-Decides}
use Rattle.std.proofs.lemmas.Str.{IsUtf8-take, IsUtf8-drop, IsUtf8-append, IsUtf8-nil, chars-append, chars-encodes, encode_ascii, IsCharBoundary-before_ascii, IsCharBoundary-after_ascii}
use Rattle.std.proofs.Math.Seq.{get_or-append-add}
use lib.Utf8.{encodes, scalars, scalar}
use Rattle.iri_ref.specs.Scheme.{has_scheme}
use Rattle.iri_ref.specs.Components
use Rattle.iri_ref.specs.Components.{Components, components, led_by, ended_by, joined}
use Rattle.iri_ref.specs.DotSegments.{Buffers, step, begins_with_segment, segment_len, output_after, without_last_segment, without_dot_segments}
use Rattle.iri_ref.specs.Resolution.{directory, merged, target, resolved}
use Rattle.iri_ref.specs.Laws.{KeepsCharacters, Lacks}
use Rattle.iri_ref.proofs.Marks.{IsCharBoundary-position, boundary_after_first, last_place, before_last-at, before_last-lacks}
use Rattle.iri_ref.proofs.Prefixes.{starts_with-true}

module _ (p : ℕ → Bool) where
  -- a text all of whose characters pass
  abbrev Holds : List ℕ → Type 0
  Holds a = IsUtf8 a × (list_all p (chars a) ≡ true)

  abbrev HoldsIf : Option (List ℕ) → Type 0
  HoldsIf o = IfSome o Holds

  holds_nil : Holds []
  unfolding chars
  holds_nil = (IsUtf8-nil, refl)

  holds_append : (a b : List ℕ) → Holds a → Holds b → Holds (a ++ b)
  holds_append a b h k = (
    IsUtf8-append a b h.0 k.0,
    ap (list_all p) (chars-append a b h.0) ∙ list_all-append p (chars a) (chars b) ∙ and_from (list_all p (chars a)) (list_all p (chars b)) h.1 k.1,
  )

  -- a text may be cut where a character begins
  holds_cut : (a : List ℕ) (n : ℕ) → Holds a → IsCharBoundary a n → Holds (take n a) × Holds (drop n a)
  holds_cut a n h at =
      let front : IsUtf8 (take n a) = IsUtf8-take a n h.0 at in
      let whole : (list_all p (chars (take n a)) && list_all p (chars (drop n a))) ≡ true =
      sym (ap (list_all p) (chars-append (take n a) (drop n a) front) ∙ list_all-append p (chars (take n a)) (chars (drop n a))) ∙ ap (λ t. list_all p (chars t)) (take-append-drop n a) ∙ h.1 in
      let both = and_parts (list_all p (chars (take n a))) (list_all p (chars (drop n a))) whole in
      ((front, both.0), (IsUtf8-drop a n h.0 at, both.1))

  holds_before : (mark : ℕ) (a : List ℕ) → mark < 128 → Holds a → Holds (Components.before mark a)
  holds_before mark a low h = (holds_cut a (position_or_len (λ c. eqb c mark) a) h (IsCharBoundary-position mark a low)).0

  holds_from : (mark : ℕ) (a : List ℕ) → mark < 128 → Holds a → Holds (Components.from mark a)
  holds_from mark a low h = (holds_cut a (position_or_len (λ c. eqb c mark) a) h (IsCharBoundary-position mark a low)).1

  holds_after : (mark : ℕ) (a : List ℕ) → mark < 128 → Holds a → Holds (after_first (λ c. eqb c mark) a)
  holds_after mark a low h =
      let n = position_or_len (λ c. eqb c mark) a in
      ⊎_elim
      (λ (l : n < length a).
      let at : get_or a n 0 ≡ mark = eqb-true _ mark (passes_at_first (λ c. eqb c mark) a 0 l) in
      (holds_cut a (n + 1) h (IsCharBoundary-after_ascii a n h.0 l (omega arith))).1)
      (λ (l : length a ≤ n). subst (λ (t : List ℕ). Holds t) (sym (drop_all (n + 1) a (omega arith))) holds_nil)
      (cases_lt n (length a))

  holds_after_if : (mark : ℕ) (a : List ℕ) → mark < 128 → Holds a → HoldsIf (Components.after mark a)
  holds_after_if mark a low h = cond_both (list_any (λ c. eqb c mark) a) (Some (after_first (λ c. eqb c mark) a)) None HoldsIf (λ _. holds_after mark a low h) (λ _. tt)

  -- behind an ASCII character
  holds_tail : (c : ℕ) (rest : List ℕ) → c < 128 → Holds (c ∷ rest) → Holds rest
  holds_tail c rest low h = (holds_cut (c ∷ rest) 1 h (IsCharBoundary-after_ascii (c ∷ rest) 0 h.0 (omega arith) low)).1

  -- and before it
  holds_front : (front : List ℕ) (c : ℕ) (rest : List ℕ) → c < 128 → Holds (front ++ c ∷ rest) → Holds front
  holds_front front c rest low h =
      let a : List ℕ = front ++ c ∷ rest in
      let at : get_or a (length front) 0 ≡ c = ap (λ k. get_or a k 0) (sym (add-zero (length front))) ∙ get_or-append-add front (c ∷ rest) 0 0 in
      let inside : length front < length a = omega (arith, length-append front (c ∷ rest)) in
      let is : take (length front) a ≡ front = take-append-le (length front) front (c ∷ rest) (omega arith) ∙ take_all (length front) front (omega arith) in
      subst (λ (t : List ℕ). Holds t) is (holds_cut a (length front) h (IsCharBoundary-before_ascii a (length front) inside (omega arith))).0

  holds_behind : (word rest : List ℕ) → list_all (λ c. ltb c 128) word ≡ true → Holds (word ++ rest) → Holds rest
  holds_behind [] rest low h = h
  holds_behind (c ∷ word) rest low h =
      let parts = and_parts (ltb c 128) (list_all (λ c. ltb c 128) word) low in
      holds_behind word rest parts.1 (holds_tail c (word ++ rest) (ltb-true c 128 parts.0) h)

  holds_past : (word a : List ℕ) → list_all (λ c. ltb c 128) word ≡ true → starts_with eqb a word ≡ true → Holds a → Holds (drop (length word) a)
  holds_past word a low s h = holds_behind word (drop (length word) a) low (subst (λ (t : List ℕ). Holds t) (starts_with-true a word s) h)

  -- paths without dot segments

  holds_segment : (segment a : List ℕ) (n : ℕ) → list_all (λ c. ltb c 128) (segment ++ 47 ∷ []) ≡ true → n ≡ length (segment ++ 47 ∷ []) → begins_with_segment a segment ≡ true → Holds a → Holds (drop n a)
  holds_segment segment a n low e begins h =
      ⊎_elim
      (λ (s : starts_with eqb a (segment ++ 47 ∷ []) ≡ true). subst (λ k. Holds (drop k a)) (sym e) (holds_past (segment ++ 47 ∷ []) a low s h))
      (λ (s : bytes_eq a segment ≡ true).
      let is : a ≡ segment = (bytes_eq-Decides a segment).0 s in
      subst (λ (t : List ℕ). Holds t) (sym (drop_all n a (omega (arith, ap length is, e, length-append segment (47 ∷ []))))) holds_nil)
      (or_cases _ _ begins)

  holds_without_last : (a : List ℕ) → Holds a → Holds (without_last_segment a)
  holds_without_last a h =
      ⊎_elim
      (λ (none : Lacks 47 a). subst (λ (t : List ℕ). Holds t) (sym (before_last-lacks a none)) holds_nil)
      (λ (last : (front : List ℕ) × (name : List ℕ) × (a ≡ front ++ 47 ∷ name) × Lacks 47 name).
      subst (λ (t : List ℕ). Holds t) (sym (before_last-at a last.0 last.1 last.2 last.3)) (holds_front last.0 47 last.1 (omega arith) (subst (λ (t : List ℕ). Holds t) last.2 h)))
      (last_place a)

  holds_mark : (c : ℕ) → c < 128 → scalar c ≡ true → p c ≡ true → Holds (c ∷ [])
  holds_mark c low s h =
      let are : scalars (c ∷ []) ≡ true = and_from (scalar c) true s refl in
      let same : encodes (c ∷ []) ≡ c ∷ [] = ap (λ t. t ++ []) (encode_ascii c low) in
      ((c ∷ [], (are, same)), ap (list_all p) (ap chars (sym same) ∙ chars-encodes (c ∷ []) are) ∙ and_from (p c) true h refl)

  -- both buffers
  abbrev AreHeld : Buffers → Type 0
  AreHeld b = Holds b.input × Holds b.output

  held_step : p 47 ≡ true → (b : Buffers) → 0 < length b.input → AreHeld b → AreHeld (step b)
  held_step slash b some (h, k) =
      let mark : Holds (47 ∷ []) = holds_mark 47 (omega arith) refl slash in
      let cut = holds_cut b.input (segment_len b.input) h (boundary_after_first b.input (drop 1 b.input) (position_or_len (λ c. eqb c 47) (drop 1 b.input)) some refl refl) in
      cond_both (starts_with eqb b.input (codes "../")) _ _ AreHeld (λ s. (holds_past (codes "../") b.input refl s h, k))
      (λ _. cond_both (starts_with eqb b.input (codes "./")) _ _ AreHeld (λ s. (holds_past (codes "./") b.input refl s h, k))
      (λ _. cond_both (begins_with_segment b.input (codes "/.")) _ _ AreHeld (λ s. (holds_append (47 ∷ []) (drop 3 b.input) mark (holds_segment (codes "/.") b.input 3 refl refl s h), k))
      (λ _. cond_both (begins_with_segment b.input (codes "/..")) _ _ AreHeld (λ s. (holds_append (47 ∷ []) (drop 4 b.input) mark (holds_segment (codes "/..") b.input 4 refl refl s h), holds_without_last b.output k))
      (λ _. cond_both (bytes_eq b.input (codes ".") || bytes_eq b.input (codes "..")) _ _ AreHeld (λ _. (holds_nil, k))
      (λ _. (cut.1, holds_append b.output (take (segment_len b.input) b.input) k cut.0))))))

  held_after : p 47 ≡ true → (n : ℕ) (b : Buffers) → AreHeld b → Holds (output_after n b)
  held_after slash zero b h = h.1
  held_after slash (suc n) b h =
      cond_both (eqb (length b.input) 0) b.output (output_after n (step b)) Holds (λ _. h.1)
      (λ e. let other : length b.input ≡ 0 → ⊥ = eqb-false (length b.input) 0 e in held_after slash n (step b) (held_step slash b (omega arith) h))

  holds_path : p 47 ≡ true → (a : List ℕ) → Holds a → Holds (without_dot_segments a)
  unfolding without_dot_segments
  holds_path slash a h = held_after slash (length a) (record { input = a; output = [] }) (h, holds_nil)

  -- components

  record AreComponents (parts : Components) : Type 0 where
    scheme : HoldsIf parts.scheme
    authority : HoldsIf parts.authority
    path : Holds parts.path
    query : HoldsIf parts.query
    fragment : HoldsIf parts.fragment

  held_parts : (a : List ℕ) → Holds a → AreComponents (components a)
  unfolding components
  held_parts a h =
      let rest : Holds (Components.after_scheme a) = cond_both (has_scheme a) (after_first (λ c. eqb c 58) a) a Holds (λ _. holds_after 58 a (omega arith) h) (λ _. h) in
      let front : Holds (Components.before 35 (Components.after_scheme a)) = holds_before 35 _ (omega arith) rest in
      let part : Holds (Components.hierarchical_part a) = holds_before 63 _ (omega arith) front in
      let slashes = starts_with eqb (Components.hierarchical_part a) (codes "//") in
      record {
        scheme = cond_both (has_scheme a) (Some (Components.before 58 a)) None HoldsIf (λ _. holds_before 58 a (omega arith) h) (λ _. tt);
        authority = cond_both slashes (Some (Components.before 47 (drop 2 (Components.hierarchical_part a)))) None HoldsIf (λ s. holds_before 47 _ (omega arith) (holds_past (codes "//") _ refl s part)) (λ _. tt);
        path = cond_both slashes (Components.from 47 (drop 2 (Components.hierarchical_part a))) (Components.hierarchical_part a) Holds (λ s. holds_from 47 _ (omega arith) (holds_past (codes "//") _ refl s part)) (λ _. part);
        query = holds_after_if 63 _ (omega arith) front;
        fragment = holds_after_if 35 _ (omega arith) rest;
      }

  holds_led : (mark : List ℕ) (o : Option (List ℕ)) → Holds mark → HoldsIf o → Holds (led_by mark o)
  holds_led mark None m h = holds_nil
  holds_led mark (Some a) m h = holds_append mark a m h

  holds_ended : (mark : List ℕ) (o : Option (List ℕ)) → Holds mark → HoldsIf o → Holds (ended_by mark o)
  holds_ended mark None m h = holds_nil
  holds_ended mark (Some a) m h = holds_append a mark h m

  module _ (marks : list_all p (codes ":/?#") ≡ true) where
    slash : p 47 ≡ true
    slash = (and_parts (p 47) _ ((and_parts (p 58) _ marks).1)).0

    holds_joined : (parts : Components) → AreComponents parts → Holds (joined parts)
    holds_joined parts h =
        let behind_colon = (and_parts (p 58) _ marks).1 in
        let behind_slash = (and_parts (p 47) _ behind_colon).1 in
        let behind_question = (and_parts (p 63) _ behind_slash).1 in
        let colon : Holds (codes ":") = holds_mark 58 (omega arith) refl ((and_parts (p 58) _ marks).0) in
        let one : Holds (47 ∷ []) = holds_mark 47 (omega arith) refl slash in
        let slashes : Holds (codes "//") = holds_append (47 ∷ []) (47 ∷ []) one one in
        let question : Holds (codes "?") = holds_mark 63 (omega arith) refl ((and_parts (p 63) _ behind_slash).0) in
        let number : Holds (codes "#") = holds_mark 35 (omega arith) refl ((and_parts (p 35) _ behind_question).0) in
        let scheme = holds_ended (codes ":") parts.scheme colon h.scheme in
        let authority = holds_led (codes "//") parts.authority slashes h.authority in
        let query = holds_led (codes "?") parts.query question h.query in
        let fragment = holds_led (codes "#") parts.fragment number h.fragment in
        holds_append _ _ (holds_append _ _ (holds_append _ _ (holds_append _ _ scheme authority) h.path) query) fragment

    holds_directory : (a : List ℕ) → Holds a → Holds (directory a)
    holds_directory a h = cond_both (list_any (λ c. eqb c 47) a) (before_last (λ c. eqb c 47) a ++ codes "/") [] Holds
        (λ _. holds_append _ (codes "/") (holds_without_last a h) (holds_mark 47 (omega arith) refl slash)) (λ _. holds_nil)

    holds_merged : (base : Components) (a : List ℕ) → AreComponents base → Holds a → Holds (merged base a)
    holds_merged base a b h = cond_both (is_some base.authority && eqb (length base.path) 0) (codes "/" ++ a) (directory base.path ++ a) Holds
        (λ _. holds_append (codes "/") a (holds_mark 47 (omega arith) refl slash) h) (λ _. holds_append _ a (holds_directory base.path b.path) h)

    held_target : (base reference : Components) → AreComponents base → AreComponents reference → AreComponents (target base reference)
    held_target base reference b r = record {
      scheme = b.scheme;
      authority = cond_both (is_some reference.authority) reference.authority base.authority HoldsIf (λ _. r.authority) (λ _. b.authority);
      path = cond_both (is_some reference.authority) _ _ Holds (λ _. holds_path slash reference.path r.path)
          (λ _. cond_both (eqb (length reference.path) 0) _ _ Holds (λ _. b.path)
          (λ _. cond_both (starts_with eqb reference.path (codes "/")) _ _ Holds (λ _. holds_path slash reference.path r.path)
          (λ _. holds_path slash (merged base reference.path) (holds_merged base reference.path b r.path))));
      query = cond_both (is_some reference.authority) _ _ HoldsIf (λ _. r.query)
          (λ _. cond_both (eqb (length reference.path) 0) _ _ HoldsIf
          (λ _. cond_both (is_some reference.query) reference.query base.query HoldsIf (λ _. r.query) (λ _. b.query))
          (λ _. r.query));
      fragment = r.fragment;
    }

    holds_resolved : (base reference : List ℕ) → Holds base → Holds reference → Holds (resolved base reference)
    unfolding resolved
    holds_resolved base reference b r = cond_both (has_scheme reference) reference (joined (target (components base) (components reference))) Holds (λ _. r)
        (λ _. holds_joined _ (held_target (components base) (components reference) (held_parts base b) (held_parts reference r)))

pub keeps_characters : KeepsCharacters
keeps_characters p base reference marks utf8 utf8' b r = holds_resolved p marks base reference (utf8, b) (utf8', r)
