-- The quotes of strings (Turtle 1.1 section 6.5).
use Rattle.std.specs.Prelude.{ℕ}
use Rattle.rdf_lexical.specs.declared.quoting.Quotes.{Quotes}
use Rattle.rdf_lexical.specs.declared.quoting.Quotes.TheVariants.{Double, Single, LongDouble, LongSingle}

-- how many quotes stand before the text of a string, and after it
abbrev pub quotes_length : Quotes → ℕ
quotes_length Double = 1
quotes_length Single = 1
quotes_length LongDouble = 3
quotes_length LongSingle = 3
