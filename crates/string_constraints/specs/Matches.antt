-- Texts that a pattern matches (SHACL 4.4.3).
use Rattle.std.specs.Prelude.{◌≡◌, ◌⊎◌, ◌++◌, ◌∷◌, ℕ, true, List, [], Some, is_some, take}
use Rattle.std.specs.List.{Contains}
use Rattle.rdf_model.specs.declared.term.Term.{Term}
use Rattle.literal_order.specs.Texts.{string_value}
use Rattle.regex.specs.Patterns.{Re, find_str}
use Rattle.regex.specs.Strings.{IsReadFromSource, matcher_pattern, regex_config, regex_pattern, regex_source}
use Rattle.regex.specs.declared.string.matcher.Matcher.{Matcher}
use Rattle.regex.specs.declared.string.regex.Regex.{Regex}
use Rattle.shape_model.specs.Patterns.{config_of}
use Rattle.shape_model.specs.Readings.{Reading}
use Rattle.component_rows.specs.Listed.{untold}

-- the term has a text, some part of which is matched
abbrev pub IsFoundIn : Re → Term → Type 0
IsFoundIn pattern v = (text : List ℕ) × (string_value v ≡ Some text) × (is_some (find_str pattern text 0) ≡ true)

-- a shape of which the flags alone are told, as the text of each of its values
abbrev pub with_flags : List ℕ → Reading
with_flags flags = record untold { has = λ p q. string_value q ≡ Some flags }

-- what a matcher searches for: the text of a pattern, and the flags under which it is read
pub record Searched : Type 0 where
  pub source : List ℕ
  pub flags : List ℕ

abbrev pub searched : Regex → List ℕ → Searched
searched regex flags = record { source = regex_source regex; flags = flags }

-- the matcher searches for the regex, which was built of its text under the flags
pub record IsKept (regex : Regex) (flags : List ℕ) (matcher : Matcher) : Type 0 where
  pub same : matcher_pattern matcher ≡ regex_pattern regex
  pub config : regex_config regex ≡ config_of flags
  pub read : IsReadFromSource regex

-- The matchers that are kept, and one more in the last place. There are 64 at most: the first 63 stay.
abbrev pub with_matcher : List Searched → Searched → List Searched
with_matcher kept one = take 63 kept ++ one ∷ []

-- a matcher that was kept before, or one more where there was none
abbrev pub Provides : Searched → List Searched → List Searched → Type 0
Provides one before after = (Contains before one × (after ≡ before)) ⊎ ((Contains before one → ⊥) × (after ≡ with_matcher before one))
