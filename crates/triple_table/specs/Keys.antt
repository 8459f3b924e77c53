-- The keys by which terms are compared before their texts are.
use Rattle.std.specs.Prelude.{◌*◌, ◌+◌, ◌<◌, ℕ, zero, suc, List, [], ◌∷◌}
use Rattle.std.specs.List.{AllByRecursion}
use Rattle.std.specs.declared.cmp.Ordering.{Ordering}
use Rattle.std.specs.declared.cmp.Ordering.TheVariants.{Less, Equal, Greater}
use Rattle.std.specs.Ordering.{nat_cmp}
use Rattle.rdf_model.specs.declared.term.Term.{Term}
use Rattle.rdf_model.specs.declared.term.Term.TheVariants.{Blank, Iri, Literal}

-- each is a byte
abbrev pub AreBytes : List ℕ → Type 0
AreBytes bytes = AllByRecursion (λ (b : ℕ). b < 256) bytes

-- the number that so many bytes make behind a number, the most significant first, with zeros behind their end
abbrev pub packed : ℕ → ℕ → List ℕ → ℕ
packed zero n bytes = n
packed (suc k) n [] = packed k (n * 256) []
packed (suc k) n (b ∷ bytes) = packed k (n * 256 + b) bytes

-- the greatest number of 64 bits
abbrev pub greatest : ℕ
greatest = 18446744073709551615

-- zero below, the greatest number above
abbrev pub key_by : Ordering → ℕ → ℕ
key_by Less key = 0
key_by Equal key = key
key_by Greater key = greatest

-- The eight bytes behind the beginning. A text without that beginning has zero where it stands before those with it, and the greatest
-- number where it stands behind them.
abbrev pub text_key : List ℕ → List ℕ → ℕ
text_key [] bytes = packed 8 0 bytes
text_key (b ∷ beginning) [] = 0
text_key (b ∷ beginning) (c ∷ bytes) = key_by (nat_cmp c b) (text_key beginning bytes)

-- blank nodes below IRIs, literals above them
abbrev pub term_key : List ℕ → Term → ℕ
term_key beginning (Blank s n) = 0
term_key beginning (Iri i) = text_key beginning i
term_key beginning (Literal l d t) = greatest

-- an IRI is one of bytes
abbrev pub HasBytes : Term → Type 0
HasBytes (Blank s n) = Unit {0}
HasBytes (Iri i) = AreBytes i
HasBytes (Literal l d t) = Unit {0}
