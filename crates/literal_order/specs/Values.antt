-- The value of a literal by its datatype and lexical form.
use Rattle.std.specs.Prelude.{ℕ, List, Option, Some, None}
use Rattle.rdf_model.specs.declared.term.Term.{Term}
use Rattle.rdf_model.specs.declared.term.Term.TheVariants as terms
use Rattle.literal_order.specs.Datatypes.{datatype_of}
use Rattle.literal_order.specs.Numerals.{integer_reading, decimal_reading, boolean_reading}
use Rattle.literal_order.specs.Dates.{date_time_reading, date_reading}
use Rattle.literal_order.specs.declared.datatype.Datatype.{Datatype}
use Rattle.literal_order.specs.declared.datatype.Datatype.TheVariants as datatypes
use Rattle.literal_order.specs.declared.literal_value.LiteralValue.TheVariants as values
use Rattle.literal_order.specs.declared.literal_value.Lexical.{Lexical}
use Rattle.literal_order.specs.declared.literal_value.Lexical.TheVariants as lexicals
use Rattle.literal_order.specs.declared.literal_value.LiteralReading.{LiteralReading}
use Rattle.literal_order.specs.declared.literal_value.LiteralReading.TheVariants as readings
use Rattle.literal_order.specs.declared.literal_value.ProfileRefusal.{ProfileRefusal}
use Rattle.literal_order.specs.declared.literal_value.ProfileRefusal.TheVariants as refusals

-- rdf:langString goes with a language tag (RDF 1.1 Concepts, 3.3)
abbrev pub tagged_reading : Option (List ℕ) → LiteralReading
tagged_reading None = readings.Refused refusals.NoLanguageTag
tagged_reading (Some tag) = readings.NotTyped

abbrev pub reading_by : Datatype → List ℕ → Option (List ℕ) → LiteralReading
reading_by datatypes.String text language = readings.Value (values.Text text)
reading_by datatypes.Boolean text language = boolean_reading text
reading_by datatypes.Decimal text language = decimal_reading text
reading_by (datatypes.Integer kind) text language = integer_reading kind text
reading_by datatypes.DateTime text language = date_time_reading text
reading_by datatypes.Date text language = date_reading text
reading_by datatypes.Floating text language = readings.Refused refusals.FloatingPoint
reading_by datatypes.LangString text language = tagged_reading language
reading_by datatypes.Other text language = readings.NotTyped

unfoldable pub reading : Term → LiteralReading
reading (terms.Blank session number) = readings.NotTyped
reading (terms.Iri iri) = readings.NotTyped
reading (terms.Literal text datatype language) = reading_by (datatype_of datatype) text language

-- a literal that the profile refuses has no value here
abbrev pub lexical_of : LiteralReading → Lexical
lexical_of readings.NotTyped = lexicals.NotTyped
lexical_of readings.IllTyped = lexicals.IllTyped
lexical_of (readings.Refused refusal) = lexicals.NotTyped
lexical_of (readings.Value v) = lexicals.Value v

abbrev pub lexical : Term → Lexical
lexical term = lexical_of (reading term)

-- the kinds of refusal at reading
abbrev pub kind_of : ProfileRefusal → ℕ
kind_of refusals.FloatingPoint = 7
kind_of refusals.TooManyDigits = 8
kind_of refusals.YearOutOfRange = 9
kind_of refusals.NoLanguageTag = 10

abbrev pub refusal_of : LiteralReading → Option ℕ
refusal_of readings.NotTyped = None
refusal_of readings.IllTyped = None
refusal_of (readings.Refused refusal) = Some (kind_of refusal)
refusal_of (readings.Value v) = None

abbrev pub profile : Term → Option ℕ
profile term = refusal_of (reading term)
