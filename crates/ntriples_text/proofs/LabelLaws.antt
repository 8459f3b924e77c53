-- A label of the store is how its blank node is written.
use Rattle.std.proofs.Common.{◌≡◌, ◌∙◌, ℕ, suc, ◌+◌, ◌<◌, ◌≤◌, ◌^◌, true, false, cond, not, List, [], ◌∷◌, ◌++◌, length, take, drop, Option, Some, None, codes, refl, sym, ap, subst, eqb, arith, append_assoc, ⊎_elim}
use Rattle.std.specs.Prelude.{◌&&◌, nat_lt, nat_le, bytes_eq}
use Rattle.std.specs.List.{position_or_len, before_first, after_first}
use Rattle.std.specs.Fmt.{decimal}
use Rattle.std.specs.Char.{digit_value}
use Rattle.std.specs.Str.Parse.{AllDigits, digits_value}
use Rattle.std.proofs.lemmas.Bool.{and_parts, false_from_ne_true, cases_lt}
use Rattle.std.proofs.lemmas.Bool.Decides.{nat_tests}
use Rattle.std.proofs.lemmas.Fmt.{decimal_is_IsNumeral, decimal_nonempty}
use Rattle.std.proofs.lemmas.Slice.Eq.{bytes_eq-Decides}
use Rattle.std.proofs.Math.ListN.{drop_of_length-le}
use Rattle.std.proofs.Math.Seq.{take-append_seam}
use Rattle.iri_ref.proofs.Marks.{split_at_character}
use Rattle.rdf_model.specs.declared.term.Term.TheVariants.{Blank}
use Rattle.rdf_model.specs.NTriples.{term_text}
use Rattle.ntriples_text.specs.StoreLabels.{number_within, node_of_numbers, node_behind_s, stored_node}
use Rattle.ntriples_text.specs.Laws.{IsStored, StoreLabelsAreWritten}
use Rattle.ntriples_text.proofs.StoreLabels.{a_number}

-- digits have no `x`
digits_before : (ds rest : List ℕ) → AllDigits 10 ds → position_or_len (λ c. eqb c 120) (ds ++ 120 ∷ rest) ≡ length ds
digits_before [] rest d = refl
digits_before (c ∷ cs) rest d =
    let other : eqb c 120 ≡ false = false_from_ne_true (eqb c 120) (λ e.
    let is : c ≡ 120 = grind (arith, nat_tests, e) in
    let low : digit_value 120 < 10 = subst (λ x. digit_value x < 10) is d.0 in
    absurd (omega (arith, low))) in
    let more = digits_before cs rest d.1 in
    ap (λ b. cond (not b) (1 + position_or_len (λ x. eqb x 120) (cs ++ 120 ∷ rest)) 0) other ∙ omega (arith, more)

behind_seam : (ds rest : List ℕ) → drop (suc (length ds)) (ds ++ 120 ∷ rest) ≡ rest
behind_seam [] rest = refl
behind_seam (d ∷ ds) rest = behind_seam ds rest

-- the two numbers of a label
parts_of : (s n : ℕ) → s < 2 ^ 64 → let text = decimal s ++ 120 ∷ decimal n in (before_first (λ c. eqb c 120) text ≡ decimal s) × (after_first (λ c. eqb c 120) text ≡ decimal n)
parts_of s n small =
    let text = decimal s ++ 120 ∷ decimal n in
    let at = digits_before (decimal s) (decimal n) (decimal_is_IsNumeral s small).0.1 in
    let next : position_or_len (λ c. eqb c 120) text + 1 ≡ suc (length (decimal s)) = omega (arith, at) in
    (ap (λ k. take k text) at ∙ take-append_seam (decimal s) (120 ∷ decimal n), ap (λ k. drop k text) next ∙ behind_seam (decimal s) (decimal n))

pub stored : (label : List ℕ) (s n : ℕ) → IsStored s n → label ≡ 115 ∷ (decimal s ++ 120 ∷ decimal n) → stored_node label ≡ Some (Blank s n)
stored label s n (s1, s64, n1, top) is =
    let p = parts_of s n (omega (arith, s64)) in
    let one = a_number 64 s (before_first (λ c. eqb c 120) (decimal s ++ 120 ∷ decimal n)) (omega (arith, s64)) p.0 s1 s64 in
    let two = a_number 4294967295 n (after_first (λ c. eqb c 120) (decimal s ++ 120 ∷ decimal n)) (omega (arith, top)) p.1 n1 top in
    ap stored_node is ∙ (ap (λ a. node_of_numbers a (number_within 4294967295 (after_first (λ c. eqb c 120) (decimal s ++ 120 ∷ decimal n)))) one ∙ ap (node_of_numbers (Some s)) two)

number_is : (highest n : ℕ) (text : List ℕ) → number_within highest text ≡ Some n → (text ≡ decimal n) × (1 ≤ n) × (n ≤ highest)
number_is highest n text h =
    let v = digits_value 10 text in
    elim (bytes_eq text (decimal v) && nat_lt 0 v && nat_le v highest) as (λ b. (bytes_eq text (decimal v) && nat_lt 0 v && nat_le v highest) ≡ b → cond b (Some v) None ≡ Some n → (text ≡ decimal n) × (1 ≤ n) × (n ≤ highest)) [
      | true ↦ λ e k.
          let same : v ≡ n = cc in
          let p = and_parts (bytes_eq text (decimal v) && nat_lt 0 v) (nat_le v highest) e in
          let q = and_parts (bytes_eq text (decimal v)) (nat_lt 0 v) p.0 in
          let some : 1 ≤ v = grind (arith, nat_tests, q.1) in
          let most : v ≤ highest = grind (arith, nat_tests, p.1) in
          ((bytes_eq-Decides text (decimal v)).0 q.0 ∙ ap decimal same, omega (arith, same, some), omega (arith, same, most))
      | false ↦ λ e k. cc
    ] refl h

both_numbers : (a b : Option ℕ) (s n : ℕ) → node_of_numbers a b ≡ Some (Blank s n) → (a ≡ Some s) × (b ≡ Some n)
both_numbers None b s n h = cc
both_numbers (Some x) None s n h = cc
both_numbers (Some x) (Some y) s n h = (cc, cc)

behind_s : (cs : List ℕ) (s n : ℕ) → node_behind_s cs ≡ Some (Blank s n) → IsStored s n × (cs ≡ decimal s ++ 120 ∷ decimal n)
behind_s cs s n h =
    let b = both_numbers _ _ s n h in
    let one = number_is 64 s (before_first (λ c. eqb c 120) cs) b.0 in
    let two = number_is 4294967295 n (after_first (λ c. eqb c 120) cs) b.1 in
    let whole : cs ≡ before_first (λ c. eqb c 120) cs ++ 120 ∷ after_first (λ c. eqb c 120) cs =
    ⊎_elim
    (λ (l : position_or_len (λ c. eqb c 120) cs < length cs). split_at_character 120 cs l)
    (λ (l : length cs ≤ position_or_len (λ c. eqb c 120) cs).
    let nothing : after_first (λ c. eqb c 120) cs ≡ [] = drop_of_length-le cs (omega (arith, l)) in
    let empty : length (decimal n) ≡ 0 = ap length (sym two.0 ∙ nothing) in
    absurd (omega (arith, empty, decimal_nonempty n (omega (arith, two.2)))))
    (cases_lt (position_or_len (λ c. eqb c 120) cs) (length cs)) in
    ((one.1, one.2, two.1, two.2), whole ∙ (ap (λ x. x ++ 120 ∷ after_first (λ c. eqb c 120) cs) one.0 ∙ ap (λ x. decimal s ++ 120 ∷ x) two.0))

written : (label : List ℕ) (s n : ℕ) → stored_node label ≡ Some (Blank s n) → IsStored s n × (label ≡ 115 ∷ (decimal s ++ 120 ∷ decimal n))
written [] s n h = cc
written (c ∷ cs) s n h = elim (eqb c 115) as (λ b. eqb c 115 ≡ b → cond b (node_behind_s cs) None ≡ Some (Blank s n) → IsStored s n × (c ∷ cs ≡ 115 ∷ (decimal s ++ 120 ∷ decimal n))) [
  | true ↦ λ e k.
      let first : c ≡ 115 = grind (arith, nat_tests, e) in
      let rest = behind_s cs s n k in
      (rest.0, ap (λ x. x ∷ cs) first ∙ ap (λ x. 115 ∷ x) rest.1)
  | false ↦ λ e k. cc
] refl h

joined : (s n : List ℕ) → codes "_:s" ++ s ++ codes "x" ++ n ≡ 95 ∷ 58 ∷ 115 ∷ (s ++ 120 ∷ n)
joined s n = simp append_assoc

pub store_labels_written : StoreLabelsAreWritten
store_labels_written label s n =
    let text : term_text (Blank s n) ≡ 95 ∷ 58 ∷ 115 ∷ (decimal s ++ 120 ∷ decimal n) = joined (decimal s) (decimal n) in (
      λ h. let w = written label s n h in (w.0, text ∙ ap (λ x. 95 ∷ 58 ∷ x) (sym w.1)),
      λ h.
          let same : 95 ∷ 58 ∷ label ≡ 95 ∷ 58 ∷ 115 ∷ (decimal s ++ 120 ∷ decimal n) = sym h.1 ∙ text in
          stored label s n h.0 (ap (drop 2) same),
    )
