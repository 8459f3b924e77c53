-- What a pattern stands for under its flags, in the grammar of the crate `regex`.
use Rattle.std.specs.Prelude.{◌≡◌, ℕ, Bool, true, List, nat_eq}
use Rattle.std.specs.List.{list_any}
use Rattle.regex.specs.Patterns.{default_config, Config}
use Rattle.regex.specs.Strings.{regex_source, regex_config, IsReadFromSource}
use Rattle.regex.specs.declared.string.regex.Regex.{Regex}

-- whether the letter is one of the flags
abbrev pub has_flag : ℕ → List ℕ → Bool
has_flag letter flags = list_any (λ flag. nat_eq flag letter) flags

-- the default options, with the switches of the letters i, s, m and x
abbrev pub config_of : List ℕ → Config
config_of flags = record default_config {
  utf8 = true;
  flags = record default_config.flags {
    case_insensitive = has_flag 105 flags;
    dot_matches_new_line = has_flag 115 flags;
    multi_line = has_flag 109 flags;
    ignore_whitespace = has_flag 120 flags;
  };
}

-- the regex is what the grammar reads of the pattern's text under these flags
pub record IsBuilt (pattern flags : List ℕ) (regex : Regex) : Type 0 where
  pub source : regex_source regex ≡ pattern
  pub config : regex_config regex ≡ config_of flags
  pub read : IsReadFromSource regex
