-- Readings of texts: what was read, or the kind of the refusal.
use Rattle.std.specs.Prelude.{◌≡◌, ℕ, ◌==◌, if◌then◌else◌, Result, Ok, Err}
use Rattle.rdf_lexical.specs.declared.refusal.RefusalKind.{RefusalKind}
use Rattle.rdf_lexical.specs.declared.refusal.RefusalKind.TheVariants.{NotUtf8, NoToken, UnexpectedToken, UndeclaredPrefix, RelativeIri, BadEscape, FloatingPoint, TooManyDigits, YearOutOfRange, LanguageString, TooDeep, NoStoreLabel, BlankPredicate, UnexpectedEnd}
use Rattle.rdf_lexical.specs.declared.refusal.ReadFault.{ReadFault}
use Rattle.rdf_lexical.specs.declared.refusal.ReadFault.TheVariants.{Refusal, Memory}

-- one reading, and then another
infixl 10 ◌>>=◌
abbrev pub ◌>>=◌ : {A B : Type 0} → Result A RefusalKind → (A → Result B RefusalKind) → Result B RefusalKind
(Ok x) >>= f = f x
(Err k) >>= f = Err k

-- a text is refused as the reading says, with the line of the refusal, unless memory ran out
abbrev pub Refuses : {Y : Type 0} → ReadFault → Result Y (ℕ × RefusalKind) → Type 0
Refuses Memory reading = Unit {0}
Refuses (Refusal n k) reading = reading ≡ Err (n, k)

-- the number by which a refusal of this kind is known
abbrev pub number_of : RefusalKind → ℕ
number_of NotUtf8 = 1
number_of NoToken = 2
number_of UnexpectedToken = 3
number_of UndeclaredPrefix = 4
number_of RelativeIri = 5
number_of BadEscape = 6
number_of FloatingPoint = 7
number_of TooManyDigits = 8
number_of YearOutOfRange = 9
number_of LanguageString = 10
number_of TooDeep = 11
number_of NoStoreLabel = 12
number_of BlankPredicate = 13
number_of UnexpectedEnd = 14

-- the kinds of literals that aren't kept, 7 to 10, by their numbers
abbrev pub kind_of_literal : ℕ → RefusalKind
kind_of_literal n = if n == 7 then FloatingPoint else
    (if n == 8 then TooManyDigits else
    (if n == 9 then YearOutOfRange else LanguageString))
