-- What stands at the beginning of a text, and what is found there.
use Rattle.std.specs.Prelude.{◌≡◌, ◌↔◌, ◌⊎◌, ℕ, Bool, List, Ok, Err}
use Rattle.turtle_lex.specs.declared.token.TokenKind.{TokenKind}
use Rattle.rdf_lexical.specs.declared.refusal.RefusalKind.{RefusalKind}
use Rattle.rdf_lexical.specs.declared.refusal.RefusalKind.TheVariants.{UnexpectedEnd}
use Rattle.turtle_lex.specs.Tokens.{token_at}
use Rattle.turtle_lex.specs.Productions.{IsTokenAt, HasNoToken, BeginsToken, EndsInEscape}

-- what is found is the longest token that stands there
abbrev pub FindsLongest : Type 0
FindsLongest = (after_string : Bool) (text : List ℕ) (kind : TokenKind) (n : ℕ) → token_at after_string text ≡ Ok (kind, n) → IsTokenAt after_string text kind n

-- where a fault is found no token stands
abbrev pub MissesNone : Type 0
MissesNone = (after_string : Bool) (text : List ℕ) (fault : RefusalKind) → token_at after_string text ≡ Err fault → HasNoToken after_string text

-- at most one token stands at the beginning of a text: it has one kind, and so many characters
abbrev pub StandsAlone : Type 0
StandsAlone = (after_string : Bool) (text : List ℕ) (kind other : TokenKind) (n m : ℕ) → IsTokenAt after_string text kind n → IsTokenAt after_string text other m → (kind ≡ other) × (n ≡ m)

-- The text ends too early exactly where no token stands, and all of it is the beginning of one or ends within an escape.
abbrev pub EndsEarly : Type 0
EndsEarly = (after_string : Bool) (text : List ℕ) → (token_at after_string text ≡ Err UnexpectedEnd) ↔ (HasNoToken after_string text × (BeginsToken after_string text ⊎ EndsInEscape text))
