-- Dot segments: RFC 3986 section 5.2.4.
use Rattle.std.specs.Prelude.{ℕ, zero, suc, ◌+◌, Bool, ◌||◌, List, [], ◌++◌, nat_eq, ◌==◌, length, take, drop, codes, bytes_eq, if◌then◌else◌}
use Rattle.std.specs.List.{starts_with, before_last, position_or_len, slice_split, list_any}
use Rattle.iri_ref.specs.Components.{slash}

-- the input buffer and the output buffer
pub record Buffers : Type 0 where
  pub input : List ℕ
  pub output : List ℕ

-- whether the input begins with this, the end of which ends a path segment
abbrev pub begins_with_segment : List ℕ → List ℕ → Bool
begins_with_segment input segment = starts_with nat_eq input (segment ++ codes "/") || bytes_eq input segment

-- the output without its last segment and the slash before that, if any
abbrev pub without_last_segment : List ℕ → List ℕ
without_last_segment output = before_last (λ c. c == slash) output

-- how long the first segment is, with the initial slash, if any: it ends before the next slash
abbrev pub segment_len : List ℕ → ℕ
segment_len input = 1 + position_or_len (λ c. c == slash) (drop 1 input)

-- step 2, once, by its cases A to E
abbrev pub step : Buffers → Buffers
step b =
    -- A: a prefix `../` or `./` is removed
    if starts_with nat_eq b.input (codes "../") then record b { input = drop 3 b.input }
    else if starts_with nat_eq b.input (codes "./") then record b { input = drop 2 b.input }
    -- B: for a prefix `/./`, or `/.` as a complete segment, a slash
    else if begins_with_segment b.input (codes "/.") then record b { input = codes "/" ++ drop 3 b.input }
    -- C: for a prefix `/../`, or `/..` as a complete segment, a slash; the last segment of the output is removed
    else if begins_with_segment b.input (codes "/..") then record { input = codes "/" ++ drop 4 b.input; output = without_last_segment b.output }
    -- D: an input that is only `.` or `..` is removed
    else if bytes_eq b.input (codes ".") || bytes_eq b.input (codes "..") then record b { input = [] }
    -- E: the first segment moves to the output
    else record { input = drop (segment_len b.input) b.input; output = b.output ++ take (segment_len b.input) b.input }

-- step 2, while the input is not empty, and at most so many times
abbrev pub output_after : ℕ → Buffers → List ℕ
output_after zero b = b.output
output_after (suc n) b = if length b.input == 0 then b.output else output_after n (step b)

-- each step shortens the input, so its length is enough
unfoldable pub without_dot_segments : List ℕ → List ℕ
without_dot_segments path = output_after (length path) (record { input = path; output = [] })

-- 3.3: slashes separate the segments of a path
abbrev pub segments : List ℕ → List (List ℕ)
segments path = slice_split (λ c. c == slash) path

abbrev pub is_dot_segment : List ℕ → Bool
is_dot_segment segment = bytes_eq segment (codes ".") || bytes_eq segment (codes "..")

abbrev pub has_dot_segment : List ℕ → Bool
has_dot_segment path = list_any is_dot_segment (segments path)
