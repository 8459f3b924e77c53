-- The names of a record's terms.
use Rattle.std.proofs.Common.{◌≡◌, ◌∙◌, ◌<◌, ◌≤◌, ◌+◌, ℕ, zero, suc, List, [], ◌∷◌, ◌++◌, length, sym, ap, subst, arith, inl, inr}
use Rattle.std.specs.Prelude.{slice_index_or}
use Rattle.std.specs.List.{Contains, flat_map}
use Rattle.std.proofs.lemmas.List.Elements.{Contains-append_left, Contains-append_right}
use Rattle.collections.proofs.Members.{has_cases, has_equal, has_head, has_tail}
use Rattle.rdf_model.specs.declared.term.Term.{Term}
use Rattle.rdf_model.specs.declared.triple.Triple.{Triple}
use Rattle.rdf_model.specs.Numbers.{term_at}
use Rattle.record_text.specs.declared.record.Record.{Record}
use Rattle.term_dict.specs.Names.{AreNumbersOf, Named, named_with, with_terms}
use Rattle.follower.specs.Followed.{Followed, count_with, most_terms, terms_with}
use Rattle.follower.specs.Numbered.{AreNamedTriples, IsNamedRecord, IsNamedTriple}
use Rattle.follower.specs.Records.{staged_terms, terms_of, triple_terms}
use Rattle.follower.specs.Versions.{AreNamesWith}

-- a term that has a number is named
named : (us : List Term) (n : ℕ) (t : Term) → n < length us → term_at us n ≡ t → Contains us t
named [] n t lt e = absurd (omega (arith, lt))
named (x ∷ xs) zero t lt e = has_equal x xs t e
named (x ∷ xs) (suc n) t lt e = has_tail x xs t (named xs n t (omega (arith, lt)) e)

all_named : (us ts : List Term) (ns : List ℕ) (t : Term) → AreNumbersOf us ts ns → Contains ts t → Contains us t
all_named us [] ns t a c = absurd (omega arith)
all_named us (u ∷ ts) [] t a c = absurd a
all_named us (u ∷ ts) (n ∷ ns) t a c = elim (has_cases u ts t c) [
  | inl e ↦ subst (λ (w : Term). Contains us w) e (named us n u a.0.within a.0.is)
  | inr d ↦ all_named us ts ns t a.1 d
]

-- the terms of a triple are among those of its list
parts : (ts : List Triple) (u : Triple) → Contains ts u → IsNamedTriple (flat_map triple_terms ts) u
parts [] u c = absurd (omega arith)
parts (t ∷ ts) u c =
    let rest = flat_map triple_terms ts in
    elim (has_cases t ts u c) [
      | inl e ↦ subst (λ (w : Triple). IsNamedTriple (t.subject ∷ t.predicate ∷ t.object ∷ rest) w) e (
        has_head t.subject (t.predicate ∷ t.object ∷ rest),
        has_tail t.subject (t.predicate ∷ t.object ∷ rest) t.predicate (has_head t.predicate (t.object ∷ rest)),
        has_tail t.subject (t.predicate ∷ t.object ∷ rest) t.object (has_tail t.predicate (t.object ∷ rest) t.object (has_head t.object rest)),
      )
      | inr d ↦ let p = parts ts u d in (deep t rest u.subject p.0, deep t rest u.predicate p.1, deep t rest u.object p.2)
    ]
  where
    deep : (t : Triple) (rest : List Term) (x : Term) → Contains rest x → Contains (t.subject ∷ t.predicate ∷ t.object ∷ rest) x
    deep t rest x c = has_tail t.subject (t.predicate ∷ t.object ∷ rest) x (has_tail t.predicate (t.object ∷ rest) x (has_tail t.object rest x c))

triples_named : (us : List Term) (ts : List Triple) → ((x : Term) → Contains (flat_map triple_terms ts) x → Contains us x) → AreNamedTriples us ts
triples_named us ts f i d lt =
    let u = slice_index_or ts i d in
    let p = parts ts u (there ts i d lt) in
    (f u.subject p.0, f u.predicate p.1, f u.object p.2)
  where
    there : (ts : List Triple) (i : ℕ) (d : Triple) → i < length ts → Contains ts (slice_index_or ts i d)
    there [] i d lt = absurd (omega (arith, lt))
    there (x ∷ xs) zero d lt = has_head x xs
    there (x ∷ xs) (suc i) d lt = has_tail x xs (slice_index_or xs i d) (there xs i d (omega (arith, lt)))

pub record_named : (us : List Term) (ns : List ℕ) (r : Record) → AreNumbersOf us (terms_of r) ns → IsNamedRecord us r
record_named us ns r a =
    let removed = flat_map triple_terms r.removed in
    let added = flat_map triple_terms r.added in
    let staged = staged_terms r.shapes in (
      triples_named us r.removed (λ x c. all_named us (terms_of r) ns x a (Contains-append_left removed (added ++ staged) x c)),
      triples_named us r.added (λ x c. all_named us (terms_of r) ns x a (Contains-append_right removed (added ++ staged) x (Contains-append_left added staged x c))),
    )

-- what a dictionary has named with the terms of a record
pub names_done : (s : Followed) (r : Record) (inside old new : Named) (ts us : List Term) (ns : List ℕ) → s.terms ≡ inside.terms → inside.limit ≡ most_terms → old ≡ inside → ts ≡ us → us ≡ terms_of r →
    new ≡ named_with old ts → AreNumbersOf new.terms ts ns → length (with_terms old.terms ts) ≤ old.limit + 2 → AreNamesWith s r new × (count_with s r ≤ most_terms)
names_done s r inside old new ts us ns here limit o t u is numbers fits =
    let limits : old.limit ≡ most_terms = ap (λ (d : Named). d.limit) o ∙ limit in
    let terms : old.terms ≡ s.terms = ap (λ (d : Named). d.terms) o ∙ sym here in
    let of : ts ≡ terms_of r = t ∙ u in
    let all : with_terms old.terms ts ≡ terms_with s r = λ k. with_terms (terms k) (of k) in
    let size = ap length all in (
      record {
        are = is ∙ (λ k. record { terms = all k; limit = limits k });
        named = record_named new.terms ns r (subst (λ (ws : List Term). AreNumbersOf new.terms ws ns) of numbers);
      },
      omega (arith, size, fits, limits),
    )
