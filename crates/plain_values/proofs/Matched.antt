-- Values that built patterns match, and results about those that they don't.
use Rattle.std.proofs.Common.{◌≡◌, ◌∙◌, ◌<◌, ℕ, Bool, true, false, List, [], ◌∷◌, Option, Some, None, IsSomeAnd, IsTrue, is_some, option_map, chars, length, refl, sym, ap, arith, subst, inl, inr}
use Rattle.std.specs.Prelude.{◌↔◌, ◌⊎◌}
use Rattle.std.specs.List.{Contains}
use Rattle.std.specs.Option.{unwrap_or}
use Rattle.std.proofs.lemmas.Option.{same_Some}
use Rattle.regex.specs.Patterns.{Config, SameCaptures, Reads, find_str}
use Rattle.regex.specs.Strings.{regex_source, regex_config, regex_pattern}
use Rattle.regex.specs.declared.string.regex.Regex.{Regex}
use Rattle.regex_syntax.specs.Grammar.{read}
use Rattle.literal_order.specs.Texts.{string_value}
use Rattle.rdf_model.specs.declared.term.Term.{Term}
use Rattle.shape_model.specs.declared.component.Component.TheVariants as components
use Rattle.shape_model.specs.declared.result_row.ResultRow.{ResultRow}
use Rattle.shape_model.specs.Patterns.{IsPatternOf, config_of, is_found}
use Rattle.shape_model.specs.Readings.{HasFlags, reading}
use Rattle.shape_model.specs.ShapeSyntax.{HasProperty}
use Rattle.shape_model.specs.TermTests.{IsMatched}
use Rattle.shape_model.specs.Vocabulary.{ShFlags, ShPattern}
use Rattle.plain_terms.specs.Finds.{Finds, WithSome}
use Rattle.plain_terms.proofs.FoundItems.{finds_at, finds_same}
use Rattle.plain_values.specs.Around.{RowsAt}
use Rattle.plain_values.specs.declared.site.PlainSite.{PlainSite}
use Rattle.plain_values.specs.declared.built.BuiltPattern.{BuiltPattern}
use Rattle.plain_values.specs.Built.{AreFlags, ArePatternsOf, IsAccepted, RefusedRow}

value_of : {A : Type 0} → (o : Option A) (P : A → Type 0) → IsSomeAnd o P → (x : A) × (o ≡ Some x) × P x
value_of None P h = absurd h
value_of (Some x) P h = (x, refl, h)

-- what the grammar reads of the source, which captures the same, and what it finds
module _ (q : Term) (flags : List ℕ) (regex : Regex) (is : IsPatternOf q flags regex) where
  as_read : (x : _) × (read (config_of flags) (chars (regex_source regex)) ≡ Some x) × SameCaptures (regex_pattern regex) x.0.value
  unfolding Reads
  as_read =
      let found = value_of (read (regex_config regex) (chars (regex_source regex))) _ is.read in
      (found.0, subst (λ (c : Config). read c (chars (regex_source regex)) ≡ Some found.0) is.config found.1, found.2.1)

  found_by : (text : List ℕ) → is_found (regex_source regex) flags text ≡ is_some (find_str as_read.0.0.value text 0)
  unfolding is_found
  found_by text = ap (λ o. unwrap_or (option_map (λ whole. is_some (find_str whole.0.value text 0)) o) false) as_read.1

  -- the answer of a search for all that captures the same
  pub matched_text : (v : Term) (text : List ℕ) (b : Bool) → string_value v ≡ Some text → ((re : _) → SameCaptures (regex_pattern regex) re → b ≡ is_some (find_str re text 0)) → IsTrue b ↔ IsMatched q flags v
  matched_text v text b e h =
      let told : b ≡ is_found (regex_source regex) flags text = h as_read.0.0.value as_read.2 ∙ sym (found_by text) in (
        λ t. (regex_source regex, text, is.source, e, sym told ∙ t),
        λ m.
            let source : m.0 ≡ regex_source regex = same_Some m.0 (regex_source regex) (sym m.2 ∙ is.source) in
            let same : m.1 ≡ text = same_Some m.1 text (sym m.3 ∙ e) in
            told ∙ subst (λ (p : List ℕ × List ℕ). is_found p.0 flags p.1 ≡ true) (λ i. (source i, same i)) m.4,
      )

  pub no_text : (v : Term) → string_value v ≡ None → IsMatched q flags v → ⊥
  no_text v e m = let never : None ≡ Some m.1 = sym e ∙ m.3 in cc

-- the flags of the shape, by its values of sh:flags
module _ (has : Term → Type 0) (found values : List Term) (finds : Finds has found) (is : values ≡ found) where
  here : Finds has values
  here = finds_at has found values is finds

  -- the two cases of its flags
  pub as_flags : (flags : List ℕ) → AreFlags values flags → ((q : Term) × has q × (string_value q ≡ Some flags)) ⊎ (((q : Term) → has q → ⊥) × (flags ≡ []))
  as_flags flags = elim [
    | inl w ↦ inl (w.0, (here.members w.0).0 w.1, w.2)
    | inr w ↦ inr ((λ q h. let c = subst (λ (xs : List Term). Contains xs q) w.0 ((here.members q).1 h) in absurd (omega (arith, c.1))), w.1)
  ]

  none_is_empty : (xs : List Term) → ((q : Term) → Contains xs q → ⊥) → xs ≡ []
  none_is_empty [] none = refl
  none_is_empty (x ∷ xs) none = absurd (none x (0, omega arith, refl))

  pub of_flags : (flags : List ℕ) → ((q : Term) × has q × (string_value q ≡ Some flags)) ⊎ (((q : Term) → has q → ⊥) × (flags ≡ [])) → AreFlags values flags
  of_flags flags = elim [
    | inl w ↦ inl (w.0, (here.members w.0).1 w.1, w.2)
    | inr w ↦ inr (none_is_empty values (λ q c. w.0 q ((here.members q).0 c)), w.1)
  ]

-- the results about the value nodes that none of the patterns accepts
pub pattern_made : (at : PlainSite) (patterns : List BuiltPattern) (q : Term) (found flags : List Term) (rows : List ResultRow) → ArePatternsOf at.shapes.now patterns → HasProperty at.shapes.now at.shape.now ShPattern q
    → Finds (HasProperty at.shapes.now at.shape.now ShFlags) found → flags ≡ found → Finds (WithSome at.values.now (RefusedRow at patterns q flags)) rows → Finds (RowsAt at components.Pattern q) rows
pattern_made at patterns q found flags rows are has finds is h =
    let s = at.shapes.now in
    let shape = at.shape.now in
    let matches = λ (v : Term). (text : List ℕ) × HasFlags (reading s shape) text × IsMatched q text v in
    let accepted : (v : Term) → IsAccepted patterns q flags v → matches v =
    λ v w. (w.0.flags, as_flags (HasProperty s shape ShFlags) found flags finds is w.0.flags w.2.0.1, subst (λ (p : Term). IsMatched p w.0.flags v) w.2.0.0 w.2.1) in
    let accepts : (v : Term) → matches v → IsAccepted patterns q flags v =
    λ v w.
    let p = are.each shape q w.0 has w.1 in
    let under : AreFlags flags p.0.flags = of_flags (HasProperty s shape ShFlags) found flags finds is p.0.flags (subst (λ (text : List ℕ). HasFlags (reading s shape) text) (sym p.3) w.1) in
    (p.0, p.1, ((p.2, under), subst (λ (text : List ℕ). IsMatched p.0.parameter text v) (sym p.3) (subst (λ (t : Term). IsMatched t w.0 v) (sym p.2) w.2))) in
    finds_same (WithSome at.values.now (RefusedRow at patterns q flags)) (RowsAt at components.Pattern q) rows (λ r. (
      λ w. (w.0, w.1, (λ m. w.2.0 (accepts w.0 m)), w.2.1),
      λ w. (w.0, w.1, ((λ a. w.2 (accepted w.0 a)), w.3)),
    )) h
