-- What tokens stand for (Turtle 1.1 sections 2.4 to 2.6 and 6.4); for IRIREF and strings see rdf_lexical.
use Rattle.std.specs.Prelude.{ℕ, suc, ◌-◌, List, [], ◌∷◌, ◌++◌, take, drop, encode_utf8, ◌==◌, if◌then◌else◌}
use Rattle.turtle_lex.specs.declared.token.Token.{Token}

-- the characters of a token
abbrev pub token_text : List ℕ → Token → List ℕ
token_text text token = take (token.end.at - token.start.at) (drop token.start.at text)

-- A local name without the backslashes of its PN_LOCAL_ESC; `%` and its digits stay (section 6.3).
abbrev pub local_text : List ℕ → List ℕ
local_text [] = []
local_text (c ∷ cs) = if c == 92 then local_text cs else encode_utf8 c ++ local_text cs

-- how many characters stand before the first colon
abbrev pub before_colon : List ℕ → ℕ
before_colon [] = 0
before_colon (c ∷ cs) = if c == 58 then 0 else suc (before_colon cs)

abbrev pub after_one : List ℕ → List ℕ
after_one [] = []
after_one (c ∷ cs) = cs

-- the two parts of a prefixed name, before and after its first colon
abbrev pub prefix_part : List ℕ → List ℕ
prefix_part cs = take (before_colon cs) cs

abbrev pub local_part : List ℕ → List ℕ
local_part cs = after_one (drop (before_colon cs) cs)
