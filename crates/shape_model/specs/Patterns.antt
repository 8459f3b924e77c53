-- Whether a pattern matches a text (SHACL 4.4.3; REGEX of SPARQL 1.1, 17.4.3.14), by the grammar of the crate `regex`.
use Rattle.std.specs.Prelude.{◌≡◌, ℕ, Bool, Some, true, false, List, chars, is_some, nat_eq, option_map}
use Rattle.std.specs.List.{list_any}
use Rattle.std.specs.Option.{unwrap_or}
use Rattle.literal_order.specs.Texts.{string_value}
use Rattle.rdf_model.specs.declared.term.Term.{Term}
use Rattle.regex.specs.Patterns.{Config, default_config, find_str}
use Rattle.regex.specs.Strings.{regex_source, regex_config, IsReadFromSource}
use Rattle.regex.specs.declared.string.regex.Regex.{Regex}
use Rattle.regex_syntax.specs.Grammar.{read}

-- whether the letter is one of the flags
abbrev pub has_flag : ℕ → List ℕ → Bool
has_flag letter flags = list_any (λ flag. nat_eq flag letter) flags

-- the default options, with the switches of the letters i, s, m and x
abbrev pub config_of : List ℕ → Config
config_of flags = record default_config {
  utf8 = true;
  flags = record default_config.flags {
    case_insensitive = has_flag 105 flags;
    dot_matches_new_line = has_flag 115 flags;
    multi_line = has_flag 109 flags;
    ignore_whitespace = has_flag 120 flags;
  };
}

-- The pattern is read under the flags, and matches some part of the text. All three are bytes of UTF-8. A pattern that
-- the grammar doesn't read matches nothing.
unfoldable pub is_found : List ℕ → List ℕ → List ℕ → Bool
is_found pattern flags text = unwrap_or (option_map (λ whole. is_some (find_str whole.0.value text 0)) (read (config_of flags) (chars pattern))) false

-- the regex was built of the text of the term under the flags
pub record IsPatternOf (term : Term) (flags : List ℕ) (regex : Regex) : Type 0 where
  pub source : string_value term ≡ Some (regex_source regex)
  pub config : regex_config regex ≡ config_of flags
  pub read : IsReadFromSource regex
