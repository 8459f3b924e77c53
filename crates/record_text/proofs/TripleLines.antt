-- The line of a triple ends nowhere but at its end.
use Rattle.std.proofs.Common.{◌≡◌, ◌≢◌, ◌⊎◌, inl, inr, ◌∙◌, ℕ, ◌+◌, ◌-◌, ◌<◌, true, false, cond, List, [], ◌∷◌, ◌++◌, length, get_or, drop, map, refl, sym, ap, arith, append-nil, length-append}
use Rattle.std.specs.List.{AllByRecursion, flat_map, onto_first}
use Rattle.std.proofs.lemmas.Str.{inside_one, encode_ascii}
use Rattle.std.proofs.lemmas.List.{get_or_append_left, get_or-append_right}
use Rattle.std.proofs.lemmas.Bool.{cases_lt}
use Rattle.std.proofs.lemmas.Bool.Decides.{nat_tests}
use lib.Utf8.{encodes, encode}
use Rattle.rdf_lexical.specs.Characters.{is_line_end}
use Rattle.rdf_model.specs.declared.term.Term.{Term}
use Rattle.rdf_model.specs.declared.term.Term.TheVariants.{Blank, Iri, Literal}
use Rattle.rdf_model.specs.declared.triple.Triple.{Triple}
use Rattle.rdf_model.specs.NTriples.{triple_text}
use Rattle.ntriples_text.specs.declared.statement.LabelKind.TheVariants.{OfStore}
use Rattle.ntriples_text.specs.Document.{lines}
use Rattle.ntriples_text.specs.Writing.{written}
use Rattle.ntriples_text.specs.Laws.{IsReadable, IsReadableIri, IsReadableObject, IsStored}
use Rattle.ntriples_text.proofs.StoreNodes.{IsNodeOf}
use Rattle.ntriples_text.proofs.Written.{parts_chars, as_object, encodes-all}
use Rattle.ntriples_text.proofs.ReadAgain.{parts_on}
use Rattle.record_text.specs.Lines.{HasNoEnd, ended, marked}
use Rattle.record_text.specs.Records.{marked_line}

-- a character that ends no line has no byte that does
inside : (c : ℕ) (rest : List ℕ) (k : ℕ) → is_line_end c ≡ false → k < length (encode c) → get_or (encode c ++ rest) k 0 ≢ 10
inside c rest k n lt e =
    let is : c ≡ 10 = inside_one c rest (encode c ++ rest) k refl lt (omega (arith, e)) ∙ e in
    let bad : true ≡ false = sym (ap is_line_end is) ∙ n in
    cc

end_is_short : (c : ℕ) → is_line_end c ≡ true → length (encode c) ≡ 1
end_is_short c e = let small : c < 128 = grind (arith, nat_tests, e) in ap length (encode_ascii c small)

rest_is_line : (c : ℕ) (ds : List ℕ) (ls : List (List ℕ)) → onto_first c ls ≡ (c ∷ ds) ∷ [] → (ds ≡ []) ⊎ (ls ≡ ds ∷ [])
rest_is_line c ds [] e = inl (sym (ap (λ (x : List (List ℕ)). drop 1 (get_or x 0 [])) e))
rest_is_line c ds (l ∷ ls) e =
    let first : l ≡ ds = ap (λ (x : List (List ℕ)). drop 1 (get_or x 0 [])) e in
    let more : ls ≡ [] = ap (λ (x : List (List ℕ)). drop 1 x) e in
    inr (λ i. first i ∷ more i)

-- the bytes of characters that are one line
one_line : (cs : List ℕ) → lines cs ≡ cs ∷ [] → (k : ℕ) → k + 1 < length (encodes cs) → get_or (encodes cs) k 0 ≢ 10
one_line [] h k lt = absurd (omega (arith, lt))
one_line (c ∷ ds) h k lt = elim (is_line_end c) as (λ b. is_line_end c ≡ b → cond b ((c ∷ []) ∷ lines ds) (onto_first c (lines ds)) ≡ (c ∷ ds) ∷ [] → get_or (encode c ++ encodes ds) k 0 ≢ 10) [
  | true ↦ λ q e.
      let none : ds ≡ [] = sym (ap (λ (x : List (List ℕ)). drop 1 (get_or x 0 [])) e) in
      let size : length (encodes (c ∷ ds)) ≡ 1 = ap (λ (x : List ℕ). length (encode c ++ encodes x)) none ∙ ap length (append-nil (encode c)) ∙ end_is_short c q in
      absurd (omega (arith, lt, size))
  | false ↦ λ q e. elim (cases_lt k (length (encode c))) [
    | inl less ↦ inside c (encodes ds) k q less
    | inr more ↦ elim (rest_is_line c ds (lines ds) e) [
      | inl none ↦ (let size : length (encodes (c ∷ ds)) ≡ length (encode c) = ap (λ (x : List ℕ). length (encode c ++ encodes x)) none ∙ ap length (append-nil (encode c)) in absurd (omega (arith, lt, size, more)))
      | inr line ↦ λ is.
          let whole = length-append (encode c) (encodes ds) in
          one_line ds line (k - length (encode c)) (omega (arith, lt, whole, more)) (sym (get_or-append_right (encode c) (encodes ds) (length (encode c)) k 0 refl more) ∙ is)
    ]
  ]
] refl h

parts_are_line : (s p o : Term) → IsReadableObject (IsNodeOf OfStore) s → IsReadableIri p → IsReadableObject (IsNodeOf OfStore) o → lines (parts_chars s p o []) ≡ parts_chars s p o [] ∷ []
parts_are_line s (Iri b) o hs hp ho = parts_on OfStore s b o [] hs hp ho
parts_are_line s (Blank t n) o hs hp ho = absurd hp
parts_are_line s (Literal l d t) o hs hp ho = absurd hp

pub triple_has_no_end : (t : Triple) → IsReadable IsStored t → HasNoEnd (triple_text t)
triple_has_no_end t r i lt e =
    let bytes : encodes (parts_chars t.subject t.predicate t.object []) ≡ ended (triple_text t) ++ [] = encodes-all OfStore (t ∷ []) (r, tt) in
    let line = parts_are_line t.subject t.predicate t.object (as_object (IsNodeOf OfStore) t.subject r.subject) r.predicate r.object in
    let whole : length (encodes (parts_chars t.subject t.predicate t.object [])) ≡ length (triple_text t) + 1 = ap length (bytes ∙ append-nil (ended (triple_text t))) ∙ length-append (triple_text t) (10 ∷ []) in
    let same : get_or (encodes (parts_chars t.subject t.predicate t.object [])) i 0 ≡ get_or (triple_text t) i 0 =
    ap (λ (l : List ℕ). get_or l i 0) (bytes ∙ append-nil (ended (triple_text t))) ∙ get_or_append_left (triple_text t) (10 ∷ []) 0 i lt in
    one_line _ line i (omega (arith, lt, whole)) (same ∙ e)

-- the lines of triples
pub no_ends : (ts : List Triple) → AllByRecursion (IsReadable IsStored) ts → AllByRecursion HasNoEnd (map triple_text ts)
no_ends [] r = tt
no_ends (t ∷ ts) r = (triple_has_no_end t r.0, no_ends ts r.1)

pub marked_lines : (mark : List ℕ) (ts : List Triple) → flat_map (marked_line mark) ts ≡ flat_map (marked mark) (map triple_text ts)
marked_lines mark [] = refl
marked_lines mark (t ∷ ts) = ap (λ (l : List ℕ). marked_line mark t ++ l) (marked_lines mark ts)

pub ended_lines : (ts : List Triple) → written ts ≡ flat_map ended (map triple_text ts)
ended_lines [] = refl
ended_lines (t ∷ ts) = ap (λ (l : List ℕ). ended (triple_text t) ++ l) (ended_lines ts)
