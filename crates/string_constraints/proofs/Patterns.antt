-- From a regex that was built of a pattern's text to what the text is read as.
use Rattle.std.proofs.Common.{◌≡◌, ◌∙◌, ℕ, true, false, List, Option, Some, None, IsSomeAnd, Bool, get_or, is_some, option_map, chars, refl, sym, ap, subst, inl, inr}
use Rattle.std.specs.Prelude.{◌↔◌}
use Rattle.std.specs.Option.{unwrap_or}
use Rattle.std.proofs.lemmas.Option.{same_Some}
use Rattle.regex.specs.Patterns.{Config, Re, SameCaptures, Reads, find_str}
use Rattle.regex.specs.Strings.{matcher_pattern, regex_source, regex_config, regex_pattern}
use Rattle.regex.specs.declared.string.matcher.Matcher.{Matcher}
use Rattle.regex.specs.declared.string.regex.Regex.{Regex}
use Rattle.regex_syntax.specs.Grammar.{read}
use Rattle.rdf_model.specs.declared.term.Term.{Term}
use Rattle.rdf_model.specs.declared.term.Term.TheVariants.{Iri}
use Rattle.literal_order.specs.Texts.{string_value}
use Rattle.rdf_model.specs.Numbers.{term_at}
use Rattle.component_rows.specs.Answers.{AreAnswersTo}
use Rattle.shape_model.specs.Patterns.{IsPatternOf, config_of, is_found}
use Rattle.shape_model.specs.Readings.{HasFlags}
use Rattle.shape_model.specs.TermTests.{IsMatched}
use Rattle.string_constraints.specs.Matches.{IsFoundIn, IsKept, with_flags}

value_of : {A : Type 0} → (o : Option A) (P : A → Type 0) → IsSomeAnd o P → (x : A) × (o ≡ Some x) × P x
value_of None P h = absurd h
value_of (Some x) P h = (x, refl, h)

-- what the grammar reads of the source, which captures the same
module _ (q : Term) (flags : List ℕ) (regex : Regex) (is : IsPatternOf q flags regex) where
  pub as_read : (x : _) × (read (config_of flags) (chars (regex_source regex)) ≡ Some x) × SameCaptures (regex_pattern regex) x.0.value
  unfolding Reads
  as_read =
      let found = value_of (read (regex_config regex) (chars (regex_source regex))) _ is.read in
      (found.0, subst (λ (c : Config). read c (chars (regex_source regex)) ≡ Some found.0) is.config found.1, found.2.1)

  found_by : (text : List ℕ) → is_found (regex_source regex) flags text ≡ is_some (find_str as_read.0.0.value text 0)
  unfolding is_found
  found_by text = ap (λ o. unwrap_or (option_map (λ whole. is_some (find_str whole.0.value text 0)) o) false) as_read.1

  -- a term is matched by the pattern under the flags where what was read is found in it
  pub matched : (v : Term) → IsFoundIn as_read.0.0.value v ↔ IsMatched q flags v
  matched v = (
    λ h. (regex_source regex, h.0, is.source, h.1, found_by h.0 ∙ h.2),
    λ m. let text = m.1 in
        let source : m.0 ≡ regex_source regex = same_Some m.0 (regex_source regex) (sym m.2 ∙ is.source) in
        (text, m.3, sym (found_by text) ∙ subst (λ (p : List ℕ). is_found p flags text ≡ true) source m.4),
  )

-- the flags are the only ones of a shape of which they alone are told
pub with_flags_alone : (q : Term) (flags : List ℕ) (v : Term) → IsMatched q flags v ↔ ((all : List ℕ) × HasFlags (with_flags flags) all × IsMatched q all v)
with_flags_alone q flags v = (
  λ m. (flags, inl (Iri flags, refl, refl), m),
  λ h. let all : h.0 ≡ flags = elim h.1 [ inl p ↦ same_Some h.0 flags (sym p.2 ∙ p.1) | inr none ↦ absurd (none.0 (Iri flags) refl) ] in
      subst (λ (fs : List ℕ). IsMatched q fs v) all h.2,
)

-- what a kept matcher answers of terms
pub kept_answers : (regex : Regex) (flags : List ℕ) (matcher : Matcher) → IsKept regex flags matcher → (terms : List Term) (values : List ℕ) (answers : List Bool)
    → ((re : Re) → SameCaptures (matcher_pattern matcher) re → AreAnswersTo (IsFoundIn re) terms values answers)
    → (q : Term) → string_value q ≡ Some (regex_source regex) → AreAnswersTo (IsMatched q flags) terms values answers
kept_answers regex flags matcher kept terms values answers told q source =
    let is : IsPatternOf q flags regex = record { source = source; config = kept.config; read = kept.read } in
    let read = as_read q flags regex is in
    let found = told read.0.0.value (subst (λ (p : Re). SameCaptures p read.0.0.value) (sym kept.same) read.2) in
    record {
      as_many = found.as_many;
      each = λ i less. (
        λ h. (matched q flags regex is (term_at terms (get_or values i 0))).0 ((found.each i less).0 h),
        λ h. (found.each i less).1 ((matched q flags regex is (term_at terms (get_or values i 0))).1 h),
      );
    }
