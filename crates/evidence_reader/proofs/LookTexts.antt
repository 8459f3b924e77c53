-- The lines of looks and of their triples.
use Rattle.std.proofs.Common.{◌≡◌, ◌≢◌, ◌∙◌, ℕ, List, [], ◌∷◌, ◌++◌, Option, Some, None, codes, refl, sym, ap, subst, append_assoc, arith}
use Rattle.std.specs.Prelude.{MatchOption}
use Rattle.std.specs.Borrow.{Bor}
use Rattle.std.specs.List.{AllByRecursion, flat_map}
use Rattle.rdf_model.specs.declared.term.Term.{Term}
use Rattle.rdf_model.specs.declared.term.Term.TheVariants.{Blank, Iri, Literal}
use Rattle.rdf_model.specs.declared.triple.Triple.{Triple}
use Rattle.rdf_model.specs.declared.look.Look.{Look}
use Rattle.rdf_model.specs.declared.look.Look.TheVariants.{Out, In, OutAny}
use Rattle.rdf_model.specs.NTriples.{term_text}
use Rattle.ntriples_text.specs.Laws.{IsReadable, IsReadableIri, IsReadableSubject, IsStored}
use Rattle.ntriples_text.specs.Writing.{written_line}
use Rattle.ntriples_text.proofs.StoreNodes.{blank_text}
use Rattle.record_text.specs.Lines.{HasNoEnd}
use Rattle.evidence_blocks.specs.declared.block.ShownLook.{ShownLook}
use Rattle.evidence_blocks.specs.BlockText.{look_text, shown_text}
use Rattle.evidence_blocks.specs.Readable.{IsReadableLook, IsReadableShown, IsReadableTerm}
use Rattle.evidence_reader.specs.Finding.{Anything, Finds, FindsAll, FindsAlone, FollowsLooks, FollowsTriples, HasNo, IsReadableAny, IsReadableIn, IsReadableOut, first, look_words, marked_line, spaced}
use Rattle.evidence_reader.proofs.Spelled.{iri_has_no_end, iri_has_no_space, no_byte_both, one_byte, term_has_no_end}
use Rattle.evidence_reader.proofs.Splits.{same_first_space, same_last_space}

-- the line of a look
pub spaced_line : (mark a b : List ℕ) → mark ++ a ++ codes " " ++ b ++ codes "\n" ≡ marked_line mark (spaced a b)
spaced_line mark a b = simp append_assoc

pub out_lined : (look : Look Term) → IsReadableOut look → look_text look ≡ marked_line (codes "out ") (look_words look)
out_lined (Out x p) r = spaced_line (codes "out ") (term_text x) (term_text p)
out_lined (In p x) r = absurd r
out_lined (OutAny x) r = absurd r

pub in_lined : (look : Look Term) → IsReadableIn look → look_text look ≡ marked_line (codes "in ") (look_words look)
in_lined (Out x p) r = absurd r
in_lined (In p x) r = spaced_line (codes "in ") (term_text p) (term_text x)
in_lined (OutAny x) r = absurd r

pub any_lined : (look : Look Term) → IsReadableAny look → look_text look ≡ marked_line (codes "any ") (look_words look)
any_lined (Out x p) r = absurd r
any_lined (In p x) r = absurd r
any_lined (OutAny x) r = refl

both_no_end : (a b : List ℕ) → HasNo 10 a → HasNo 10 b → HasNoEnd (spaced a b)
both_no_end a b n m = no_byte_both 10 (a ++ 32 ∷ []) b (no_byte_both 10 a (32 ∷ []) n (one_byte 10 32 (λ e. omega (arith, e)))) m

pub look_no_end : (look : Look Term) → IsReadableLook look → HasNoEnd (look_words look)
look_no_end (Out x p) r = both_no_end (term_text x) (term_text p) (term_has_no_end x r.0) (iri_has_no_end p r.1)
look_no_end (In p x) r = both_no_end (term_text p) (term_text x) (iri_has_no_end p r.0) (term_has_no_end x r.1)
look_no_end (OutAny x) r = term_has_no_end x r

pub out_is_look : (look : Look Term) → IsReadableOut look → IsReadableLook look
out_is_look (Out x p) r = r
out_is_look (In p x) r = absurd r
out_is_look (OutAny x) r = absurd r

pub in_is_look : (look : Look Term) → IsReadableIn look → IsReadableLook look
in_is_look (Out x p) r = absurd r
in_is_look (In p x) r = r
in_is_look (OutAny x) r = absurd r

pub any_is_look : (look : Look Term) → IsReadableAny look → IsReadableLook look
any_is_look (Out x p) r = absurd r
any_is_look (In p x) r = absurd r
any_is_look (OutAny x) r = r

-- how the line of a look begins
out_first : (look : Look Term) (rest : List ℕ) → IsReadableLook look → first (look_text look ++ rest) ≡ 111 → IsReadableOut look
out_first (Out x p) rest r e = r
out_first (In p x) rest r e = absurd (let bad : 105 ≡ 111 = e in omega (arith, bad))
out_first (OutAny x) rest r e = absurd (let bad : 97 ≡ 111 = e in omega (arith, bad))

in_first : (look : Look Term) (rest : List ℕ) → IsReadableLook look → first (look_text look ++ rest) ≡ 105 → IsReadableIn look
in_first (Out x p) rest r e = absurd (let bad : 111 ≡ 105 = e in omega (arith, bad))
in_first (In p x) rest r e = r
in_first (OutAny x) rest r e = absurd (let bad : 97 ≡ 105 = e in omega (arith, bad))

any_first : (look : Look Term) (rest : List ℕ) → IsReadableLook look → first (look_text look ++ rest) ≡ 97 → IsReadableAny look
any_first (Out x p) rest r e = absurd (let bad : 111 ≡ 97 = e in omega (arith, bad))
any_first (In p x) rest r e = absurd (let bad : 105 ≡ 97 = e in omega (arith, bad))
any_first (OutAny x) rest r e = r

-- a look of one kind that is found where the text begins as those do is the look
module _ (Kind : Look Term → Type 0) (to_look : (look : Look Term) → Kind look → IsReadableLook look) (text : List ℕ) (of_kind : (look : Look Term) (rest : List ℕ) → IsReadableLook look → text ≡ look_text look ++ rest → Kind look) where
  pub look_of_kind : (found : Option (Look Term × Bor (List ℕ))) → Finds Kind look_text Anything text found → Finds IsReadableLook look_text Anything text found
  look_of_kind None f = record { sound = tt; every = λ look rest r w e. f.every look rest (of_kind look rest r e) tt e }
  look_of_kind (Some x) f = record { sound = to_look x.0 f.sound; every = λ look rest r w e. f.every look rest (of_kind look rest r e) tt e }

pub out_found : (text : List ℕ) (found : Option (Look Term × Bor (List ℕ))) → first text ≡ 111 → Finds IsReadableOut look_text Anything text found → Finds IsReadableLook look_text Anything text found
out_found text found begins f = look_of_kind IsReadableOut out_is_look text (λ look rest r e. out_first look rest r (sym (ap first e) ∙ begins)) found f

pub in_found : (text : List ℕ) (found : Option (Look Term × Bor (List ℕ))) → first text ≡ 105 → Finds IsReadableIn look_text Anything text found → Finds IsReadableLook look_text Anything text found
in_found text found begins f = look_of_kind IsReadableIn in_is_look text (λ look rest r e. in_first look rest r (sym (ap first e) ∙ begins)) found f

pub any_found : (text : List ℕ) (found : Option (Look Term × Bor (List ℕ))) → first text ≡ 97 → Finds IsReadableAny look_text Anything text found → Finds IsReadableLook look_text Anything text found
any_found text found begins f = look_of_kind IsReadableAny any_is_look text (λ look rest r e. any_first look rest r (sym (ap first e) ∙ begins)) found f

never_otherwise : (text : List ℕ) (look : Look Term) (rest : List ℕ) → first text ≢ 111 → first text ≢ 105 → first text ≢ 97 → text ≡ look_text look ++ rest → ⊥
never_otherwise text (Out x p) rest o i a e = o (ap first e)
never_otherwise text (In p x) rest o i a e = i (ap first e)
never_otherwise text (OutAny x) rest o i a e = a (ap first e)

pub no_look : (text : List ℕ) → first text ≢ 111 → first text ≢ 105 → first text ≢ 97 → Finds IsReadableLook look_text Anything text None
no_look text o i a = record { sound = tt; every = λ look rest r w e. never_otherwise text look rest o i a e }

-- how the line of a triple begins
subject_first : (s : Term) (rest : List ℕ) → IsReadableSubject IsStored s → FollowsTriples (term_text s ++ rest) → ⊥
subject_first (Iri a) rest r f = f.0 refl
subject_first (Blank s n) rest r f = f.1 (ap (λ (l : List ℕ). first (l ++ rest)) (blank_text s n))
subject_first (Literal l d t) rest r f = absurd r

pub triple_first : (t : Triple) (rest : List ℕ) → IsReadable IsStored t → FollowsTriples (written_line t ++ rest) → ⊥
triple_first t rest r f =
    subject_first t.subject _ r.subject (subst (λ (l : List ℕ). FollowsTriples l) (behind_subject (term_text t.subject) (term_text t.predicate) (term_text t.object) rest) f)
  where
    behind_subject : (s p o more : List ℕ) → s ++ codes " " ++ p ++ codes " " ++ o ++ codes " ." ++ codes "\n" ++ more ≡ s ++ (codes " " ++ p ++ codes " " ++ o ++ codes " ." ++ codes "\n" ++ more)
    behind_subject s p o more = simp append_assoc

pub no_triple : (text : List ℕ) → FollowsTriples text → Finds (IsReadable IsStored) written_line Anything text None
no_triple text f = record { sound = tt; every = λ t rest r w e. triple_first t rest r (subst (λ (l : List ℕ). FollowsTriples l) e f) }

-- what follows triples, and looks
pub after_triples : (us : List Triple) (behind : List ℕ) → AllByRecursion (IsReadable IsStored) us → FollowsTriples behind → Anything (flat_map written_line us ++ behind)
after_triples us behind a w = tt

pub after_looks : (us : List ShownLook) (behind : List ℕ) → AllByRecursion IsReadableShown us → FollowsLooks behind → FollowsTriples (flat_map shown_text us ++ behind)
after_looks [] behind a w = ((λ e. let bad : 60 ≡ 101 = sym e ∙ w in omega (arith, bad)), (λ e. let bad : 95 ≡ 101 = sym e ∙ w in omega (arith, bad)))
after_looks (u ∷ us) behind a w = look_begins u.look
  where
    look_begins : (look : Look Term) → FollowsTriples (((look_text look ++ flat_map written_line u.triples) ++ flat_map shown_text us) ++ behind)
    look_begins (Out x p) = ((λ e. let bad : 111 ≡ 60 = e in omega (arith, bad)), (λ e. let bad : 111 ≡ 95 = e in omega (arith, bad)))
    look_begins (In p x) = ((λ e. let bad : 105 ≡ 60 = e in omega (arith, bad)), (λ e. let bad : 105 ≡ 95 = e in omega (arith, bad)))
    look_begins (OutAny x) = ((λ e. let bad : 97 ≡ 60 = e in omega (arith, bad)), (λ e. let bad : 97 ≡ 95 = e in omega (arith, bad)))

-- a look with its triples
pub no_shown : (text : List ℕ) → Finds IsReadableLook look_text Anything text None → Finds IsReadableShown shown_text FollowsTriples text None
no_shown text f = record { sound = tt; every = λ x rest r w e. f.every x.look (flat_map written_line x.triples ++ rest) r.0 tt (e ∙ append_assoc (look_text x.look) (flat_map written_line x.triples) rest) }

pub shown_found : (text : List ℕ) (look : Look Term) (behind rest : Bor (List ℕ)) (triples : List Triple) → Finds IsReadableLook look_text Anything text (Some (look, behind)) → FindsAll (IsReadable IsStored) written_line FollowsTriples behind.now triples rest.now
    → Finds IsReadableShown shown_text FollowsTriples text (Some (record { look = look; triples = triples }, rest))
shown_found text look behind rest triples f g = record {
  sound = (f.sound, g.sound);
  every = λ x more r w e. (
      let s = f.every x.look (flat_map written_line x.triples ++ more) r.0 tt (e ∙ append_assoc (look_text x.look) (flat_map written_line x.triples) more) in
      let k = g.every x.triples more r.1 w s.1 in
      ((λ i. record { look = s.0 i; triples = k.0 i }), k.1)
      );
}

none_some : {X : Type 0} (x : X) → None ≡ Some x → ⊥
none_some x e = cc

-- a look by its two terms
module _ (words a b : List ℕ) (found : Option (Term × Term)) where
  -- each pair of a term and an IRI that have these texts
  abbrev Pairs : List ℕ → List ℕ → Type 0
  Pairs term iri = (x p : Term) → IsReadableTerm x → IsReadableIri p → term ≡ term_text x → iri ≡ term_text p → found ≡ Some (x, p)

  pub out_alone : HasNo 32 b → words ≡ spaced a b → MatchOption found (Unit {0}) (λ r. IsReadableTerm r.0 × IsReadableIri r.1) → Pairs a b → (x p : Term) → found ≡ Some (x, p) → FindsAlone IsReadableOut look_words words (Some (Out x p))
  out_alone none is sound every x p e = record { sound = subst (λ (o : Option (Term × Term)). MatchOption o (Unit {0}) (λ r. IsReadableTerm r.0 × IsReadableIri r.1)) e sound; every = each }
    where
      each : (look : Look Term) → IsReadableOut look → words ≡ look_words look → Some (Out x p) ≡ Some look
      each (Out y q) r w =
          let s = same_last_space a (term_text y) b (term_text q) none (iri_has_no_space q r.1) (sym is ∙ w) in
          let k : Some (x, p) ≡ Some (y, q) = sym e ∙ every y q r.0 r.1 s.0 s.1 in
          let j : (x, p) ≡ (y, q) = cc in
          ap (λ (z : Term × Term). Some (Out z.0 z.1)) j
      each (In q y) r w = absurd r
      each (OutAny y) r w = absurd r

  pub out_missing : HasNo 32 b → words ≡ spaced a b → Pairs a b → found ≡ None → FindsAlone IsReadableOut look_words words None
  out_missing none is every e = record { sound = tt; every = each }
    where
      each : (look : Look Term) → IsReadableOut look → words ≡ look_words look → None ≡ Some look
      each (Out y q) r w =
          let s = same_last_space a (term_text y) b (term_text q) none (iri_has_no_space q r.1) (sym is ∙ w) in
          absurd (none_some (y, q) (sym e ∙ every y q r.0 r.1 s.0 s.1))
      each (In q y) r w = absurd r
      each (OutAny y) r w = absurd r

  pub in_alone : HasNo 32 a → words ≡ spaced a b → MatchOption found (Unit {0}) (λ r. IsReadableTerm r.0 × IsReadableIri r.1) → Pairs b a → (x p : Term) → found ≡ Some (x, p) → FindsAlone IsReadableIn look_words words (Some (In p x))
  in_alone none is sound every x p e = record { sound = (known.1, known.0); every = each }
    where
      known : IsReadableTerm x × IsReadableIri p
      known = subst (λ (o : Option (Term × Term)). MatchOption o (Unit {0}) (λ r. IsReadableTerm r.0 × IsReadableIri r.1)) e sound

      each : (look : Look Term) → IsReadableIn look → words ≡ look_words look → Some (In p x) ≡ Some look
      each (Out y q) r w = absurd r
      each (In q y) r w =
          let s = same_first_space a (term_text q) b (term_text y) none (iri_has_no_space q r.0) (sym is ∙ w) in
          let k : Some (x, p) ≡ Some (y, q) = sym e ∙ every y q r.1 r.0 s.1 s.0 in
          let j : (x, p) ≡ (y, q) = cc in
          ap (λ (z : Term × Term). Some (In z.1 z.0)) j
      each (OutAny y) r w = absurd r

  pub in_missing : HasNo 32 a → words ≡ spaced a b → Pairs b a → found ≡ None → FindsAlone IsReadableIn look_words words None
  in_missing none is every e = record { sound = tt; every = each }
    where
      each : (look : Look Term) → IsReadableIn look → words ≡ look_words look → None ≡ Some look
      each (Out y q) r w = absurd r
      each (In q y) r w =
          let s = same_first_space a (term_text q) b (term_text y) none (iri_has_no_space q r.0) (sym is ∙ w) in
          absurd (none_some (y, q) (sym e ∙ every y q r.1 r.0 s.1 s.0))
      each (OutAny y) r w = absurd r

-- words without the space
pub out_not_spaced : (words : List ℕ) → ((a b : List ℕ) → HasNo 32 b → words ≢ spaced a b) → FindsAlone IsReadableOut look_words words None
out_not_spaced words never = record { sound = tt; every = each }
  where
    each : (look : Look Term) → IsReadableOut look → words ≡ look_words look → None ≡ Some look
    each (Out y q) r w = absurd (never (term_text y) (term_text q) (iri_has_no_space q r.1) w)
    each (In q y) r w = absurd r
    each (OutAny y) r w = absurd r

pub in_not_spaced : (words : List ℕ) → ((a b : List ℕ) → HasNo 32 a → words ≢ spaced a b) → FindsAlone IsReadableIn look_words words None
in_not_spaced words never = record { sound = tt; every = each }
  where
    each : (look : Look Term) → IsReadableIn look → words ≡ look_words look → None ≡ Some look
    each (Out y q) r w = absurd r
    each (In q y) r w = absurd (never (term_text q) (term_text y) (iri_has_no_space q r.0) w)
    each (OutAny y) r w = absurd r
