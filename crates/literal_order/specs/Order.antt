-- The order of values: SPARQL 1.1, section 17.3 (numbers, strings, booleans, dateTimes) and the order of
-- dates by their first instants. A value with an offset and one without don't compare.
use Rattle.std.specs.Prelude.{◌⊎◌, ◌≡◌, ◌≢◌, ◌↔◌, Bool, true, false, not, Option, Some, None, option_map, chars}
use Rattle.std.specs.declared.cmp.Ordering.{Ordering}
use Rattle.std.specs.Ordering.{nat_cmp, int_cmp, bool_cmp, ordering_then, is_lt, is_le}
use Rattle.std.specs.Cmp.Lexicographic.{slice_cmp}
use Rattle.rdf_model.specs.declared.term.Term.{Term}
use Rattle.literal_order.specs.declared.literal_value.Instant.{Instant}
use Rattle.literal_order.specs.declared.literal_value.LiteralValue.{LiteralValue}
use Rattle.literal_order.specs.declared.literal_value.LiteralValue.TheVariants.{Number, Text, Boolean, DateTime, Date}
use Rattle.literal_order.specs.declared.literal_value.Lexical.{Lexical}
use Rattle.literal_order.specs.declared.literal_value.Lexical.TheVariants.{Value}
use Rattle.literal_order.specs.Values.{lexical}

-- the order, where both have an offset or neither has
abbrev pub if_both : Bool → Bool → Ordering → Option Ordering
if_both true true o = Some o
if_both false false o = Some o
if_both true false o = None
if_both false true o = None

-- by seconds, then by nanoseconds
abbrev pub instant_cmp : Instant → Instant → Ordering
instant_cmp a b = ordering_then (nat_cmp a.seconds b.seconds) (nat_cmp a.nanoseconds b.nanoseconds)

abbrev pub instant_order : Instant → Instant → Option Ordering
instant_order a b = if_both a.has_offset b.has_offset (instant_cmp a b)

-- numbers by value, texts by code points, false below true, dateTimes and dates by instant
abbrev pub value_order : LiteralValue → LiteralValue → Option Ordering
value_order (Number a) (Number b) = Some (int_cmp a b)
value_order (Text a) (Text b) = Some (slice_cmp nat_cmp (chars a) (chars b))
value_order (Boolean a) (Boolean b) = Some (bool_cmp a b)
value_order (DateTime a) (DateTime b) = instant_order a b
value_order (Date a) (Date b) = instant_order a b
value_order _ _ = None

abbrev pub lexical_order : Lexical → Lexical → Option Ordering
lexical_order (Value v) (Value w) = value_order v w
lexical_order _ _ = None

abbrev pub order : Term → Term → Option Ordering
order t u = lexical_order (lexical t) (lexical u)

abbrev pub less : Term → Term → Option Bool
less t u = option_map is_lt (order t u)

abbrev pub less_or_equal : Term → Term → Option Bool
less_or_equal t u = option_map is_le (order t u)

-- no literal is below itself
abbrev pub IsIrreflexive : Type 0
IsIrreflexive = (t : Term) → less t t ≢ Some true

abbrev pub IsTransitive : Type 0
IsTransitive = (t u v : Term) → less t u ≡ Some true → less u v ≡ Some true → less t v ≡ Some true

-- not above is below or equal
abbrev pub IsNotGreater : Type 0
IsNotGreater = (t u : Term) → less_or_equal t u ≡ option_map not (less u t)

-- both comparisons answer, or neither does
abbrev pub AnswerTogether : Type 0
AnswerTogether = (t u : Term) → (less t u ≡ None) ↔ (less_or_equal t u ≡ None)

-- two values of one type are the same; texts are by their characters
abbrev pub AreEqualValues : LiteralValue → LiteralValue → Type 0
AreEqualValues (Number a) (Number b) = a ≡ b
AreEqualValues (Text a) (Text b) = chars a ≡ chars b
AreEqualValues (Boolean a) (Boolean b) = a ≡ b
AreEqualValues (DateTime a) (DateTime b) = a ≡ b
AreEqualValues (Date a) (Date b) = a ≡ b
AreEqualValues _ _ = ⊥

abbrev pub AreEqual : Lexical → Lexical → Type 0
AreEqual (Value v) (Value w) = AreEqualValues v w
AreEqual _ _ = ⊥

-- at most is below, or equal in value
abbrev pub IsBelowOrEqual : Type 0
IsBelowOrEqual = (t u : Term) → (less_or_equal t u ≡ Some true) ↔ ((less t u ≡ Some true) ⊎ AreEqual (lexical t) (lexical u))
