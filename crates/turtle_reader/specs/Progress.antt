-- How far a reading has come, for the code's clauses.
use Rattle.std.specs.Prelude.{◌≡◌, ℕ, ◌+◌, ◌-◌, ◌^◌, true, ◌<◌, ◌≤◌, List, length, Option, Some, None, Result, Ok, Err, IfOk, IfSome}
use Rattle.rdf_model.specs.declared.term.Term.{Term}
use Rattle.iri_ref.specs.Scheme.{has_scheme}
use Rattle.turtle_lex.specs.Places.{HasSpan}
use Rattle.turtle_lex.specs.declared.token.Token.{Token}
use Rattle.turtle_lex.specs.declared.token.TokenKind.{TokenKind}
use Rattle.turtle_lex.specs.declared.token.TokenKind.TheVariants.{BlankNodeLabel}
use Rattle.turtle_lex.specs.declared.token.LexFault.{LexFault}
use Rattle.turtle_reader.specs.declared.state.State.{State}
use Rattle.rdf_lexical.specs.declared.refusal.ReadFault.{ReadFault}
use Rattle.rdf_lexical.specs.Refusals.{Refuses}
use Rattle.turtle_reader.specs.Parsers.{Outcome, left}

-- a function answered what the reading gives, in the state after it
abbrev pub Gives : {X : Type 0} → Result X ReadFault → State → Outcome X → Type 0
Gives (Ok x) state reading = reading ≡ Ok (x, state)
Gives (Err e) state reading = Refuses e reading

-- what is left of one reading is what is left of another
abbrev pub Goes : {X Y : Type 0} → Result X ReadFault → Outcome Y → (X → Outcome Y) → Type 0
Goes (Ok x) before now = before ≡ now x
Goes (Err e) before now = Refuses e before

-- So many characters a token of this kind has at least: one for each blank node that it can bring, and for the list node
-- that may follow it.
abbrev pub weight : TokenKind → ℕ
weight BlankNodeLabel = 2
weight _ = 1

-- a token of this text
pub record IsTokenOf (text : List ℕ) (t : Token) : Type 0 where
  pub span : HasSpan text t
  pub long : weight t.kind ≤ t.end.at - t.start.at

-- the token ahead is one of the text, and the base has a scheme
abbrev pub IsReady : List ℕ → State → Type 0
IsReady text s = IfOk s.ahead (λ o. IfSome o (IsTokenOf text)) × IfSome s.base (λ base. has_scheme base ≡ true)

-- how much of the text is left from the token ahead on
abbrev pub unread : List ℕ → Result (Option Token) LexFault → ℕ
unread text (Ok (Some t)) = length text - t.start.at
unread text (Ok None) = 0
unread text (Err fault) = 0

-- the number that is next once all the rest is read is no larger than this
abbrev pub need : List ℕ → State → ℕ
need text s = s.next + unread text s.ahead

-- A reading can go on, whatever is left: it is ready, and there are numbers for all blank nodes to come and for so many more.
pub record CanRead (text : List ℕ) (more : ℕ) (s : State) : Type 0 where
  pub ready : IsReady text s
  pub room : need text s + more < 2 ^ 32

-- The same behind a token, which may bring some of these nodes itself.
pub record CanReadFrom (text : List ℕ) (t : Token) (s : State) : Type 0 where
  pub token : IsTokenOf text t
  pub ready : IsReady text s
  pub room : need text s + weight t.kind < 2 ^ 32

-- At least so many tokens were taken; the need shrank by the gain, less the debt.
pub record Moved (text : List ℕ) (taken gain debt : ℕ) (old new : State) : Type 0 where
  pub ready : IsReady text new
  pub left : left text new + taken ≤ left text old
  pub need : need text new + gain ≤ need text old + debt

-- an object that has been read leaves one to spare
abbrev pub spare : Option Term → ℕ
spare (Some term) = 1
spare None = 0
