-- The resolution of a reference: RFC 3986 sections 5.2.2 and 5.2.3.
use Rattle.std.specs.Prelude.{ℕ, ◌&&◌, List, [], ◌++◌, Option, is_some, nat_eq, ◌==◌, length, codes, if◌then◌else◌}
use Rattle.std.specs.List.{starts_with, list_any, before_last}
use Rattle.iri_ref.specs.Scheme.{has_scheme}
use Rattle.iri_ref.specs.Components.{Components, components, joined, slash}
use Rattle.iri_ref.specs.DotSegments.{without_dot_segments}

-- a path up to and with its last slash, or nothing where it has none
abbrev pub directory : List ℕ → List ℕ
directory path = if list_any (λ c. c == slash) path then before_last (λ c. c == slash) path ++ codes "/" else []

-- 5.2.3: a relative path, merged with the path of the base
abbrev pub merged : Components → List ℕ → List ℕ
merged base path = if is_some base.authority && length base.path == 0 then codes "/" ++ path else directory base.path ++ path

-- 5.2.2: the components of the target of a reference that has no scheme
abbrev pub target_authority : Components → Components → Option (List ℕ)
target_authority base reference = if is_some reference.authority then reference.authority else base.authority

abbrev pub target_path : Components → Components → List ℕ
target_path base reference =
    if is_some reference.authority then without_dot_segments reference.path
    else if length reference.path == 0 then base.path
    else if starts_with nat_eq reference.path (codes "/") then without_dot_segments reference.path
    else without_dot_segments (merged base reference.path)

abbrev pub target_query : Components → Components → Option (List ℕ)
target_query base reference =
    if is_some reference.authority then reference.query
    else if length reference.path == 0 then if is_some reference.query then reference.query else base.query
    else reference.query

abbrev pub target : Components → Components → Components
target base reference = record {
  scheme = base.scheme;
  authority = target_authority base reference;
  path = target_path base reference;
  query = target_query base reference;
  fragment = reference.fragment;
}

-- a reference that has a scheme is kept as it is written
unfoldable pub resolved : List ℕ → List ℕ → List ℕ
resolved base reference = if has_scheme reference then reference else joined (target (components base) (components reference))
