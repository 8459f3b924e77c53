-- The components of an IRI reference: RFC 3986 section 3, section 4.1 and appendix B.
use Rattle.std.specs.Prelude.{ℕ, List, [], ◌++◌, Option, Some, None, ◌==◌, nat_eq, drop, codes, if◌then◌else◌, option_copied}
use Rattle.std.specs.List.{list_any, before_first, after_first, position_or_len, starts_with}
use Rattle.iri_ref.specs.Scheme.{has_scheme}
use Rattle.iri_ref.specs.declared.components.Parts.{Parts}

-- each but the path may be undefined, which is not the same as empty: `http://a?` has an empty query
pub record Components : Type 0 where
  pub scheme : Option (List ℕ)
  pub authority : Option (List ℕ)
  pub path : List ℕ
  pub query : Option (List ℕ)
  pub fragment : Option (List ℕ)

-- the delimiters
abbrev pub number_sign : ℕ
number_sign = 35

abbrev pub slash : ℕ
slash = 47

abbrev pub colon : ℕ
colon = 58

abbrev pub question_mark : ℕ
question_mark = 63

-- what stands before the first such character, or all of the text
abbrev pub before : ℕ → List ℕ → List ℕ
before mark text = before_first (λ c. c == mark) text

-- the text from the first such character on, or nothing
abbrev pub from : ℕ → List ℕ → List ℕ
from mark text = drop (position_or_len (λ c. c == mark) text) text

-- what stands after the first such character, if there is one
abbrev pub after : ℕ → List ℕ → Option (List ℕ)
after mark text = if list_any (λ c. c == mark) text then Some (after_first (λ c. c == mark) text) else None

-- 3.1: the scheme stands before the first colon
abbrev pub scheme_of : List ℕ → Option (List ℕ)
scheme_of text = if has_scheme text then Some (before colon text) else None

abbrev pub after_scheme : List ℕ → List ℕ
after_scheme text = if has_scheme text then after_first (λ c. c == colon) text else text

-- 3.5: the fragment is what follows the first number sign
abbrev pub fragment_of : List ℕ → Option (List ℕ)
fragment_of text = after number_sign (after_scheme text)

-- 3.4: the query is what follows the first question mark before that
abbrev pub query_of : List ℕ → Option (List ℕ)
query_of text = after question_mark (before number_sign (after_scheme text))

-- 3 and 4.2: the authority and the path, with the two slashes before an authority
abbrev pub hierarchical_part : List ℕ → List ℕ
hierarchical_part text = before question_mark (before number_sign (after_scheme text))

-- 3.2: two slashes come before an authority, and the next slash ends it
abbrev pub authority_of : List ℕ → Option (List ℕ)
authority_of part = if starts_with nat_eq part (codes "//") then Some (before slash (drop 2 part)) else None

-- 3.3: the path is the rest of it
abbrev pub path_of : List ℕ → List ℕ
path_of part = if starts_with nat_eq part (codes "//") then from slash (drop 2 part) else part

unfoldable pub components : List ℕ → Components
components text = record {
  scheme = scheme_of text;
  authority = authority_of (hierarchical_part text);
  path = path_of (hierarchical_part text);
  query = query_of text;
  fragment = fragment_of text;
}

-- the texts of parts that are slices
abbrev pub texts_of : Parts → Components
texts_of parts = record {
  scheme = option_copied parts.scheme;
  authority = option_copied parts.authority;
  path = parts.path.now;
  query = option_copied parts.query;
  fragment = option_copied parts.fragment;
}

-- a component with the delimiter that comes before it, or nothing
abbrev pub led_by : List ℕ → Option (List ℕ) → List ℕ
led_by mark None = []
led_by mark (Some text) = mark ++ text

-- a component with the delimiter that comes after it, or nothing
abbrev pub ended_by : List ℕ → Option (List ℕ) → List ℕ
ended_by mark None = []
ended_by mark (Some text) = text ++ mark

-- 5.3: the reference that has these components
abbrev pub joined : Components → List ℕ
joined parts = ended_by (codes ":") parts.scheme ++ led_by (codes "//") parts.authority ++ parts.path ++ led_by (codes "?") parts.query ++ led_by (codes "#") parts.fragment
