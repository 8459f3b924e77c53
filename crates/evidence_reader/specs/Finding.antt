-- What is found at the beginning of a text. Not seen by any caller.
use Rattle.std.specs.Prelude.{◌≡◌, ◌≢◌, ◌+◌, ◌*◌, ◌<◌, ℕ, List, [], ◌++◌, MatchOption, Option, Some, None, get_or, length, slice_index, codes}
use Rattle.std.specs.Borrow.{Bor}
use Rattle.std.specs.List.{AllByRecursion, flat_map}
use Rattle.record_text.specs.Lines.{HasNoEnd, ended}
use Rattle.rdf_model.specs.declared.term.Term.{Term}
use Rattle.rdf_model.specs.declared.look.Look.{Look}
use Rattle.rdf_model.specs.declared.look.Look.TheVariants.{Out, In, OutAny}
use Rattle.rdf_model.specs.NTriples.{term_text}
use Rattle.ntriples_text.specs.Laws.{IsReadableIri}
use Rattle.evidence_blocks.specs.Readable.{IsReadableTerm}

-- a line behind a mark, with its LF
abbrev pub marked_line : List ℕ → List ℕ → List ℕ
marked_line mark line = mark ++ ended line

-- the same, if there is a term
abbrev pub marked_option : List ℕ → Option Term → List ℕ
marked_option mark None = []
marked_option mark (Some t) = marked_line mark (term_text t)

-- The first line behind a mark was found, without its LF, and what follows it; or none begins the text.
abbrev pub IsLineBehind : List ℕ → List ℕ → Option (Bor (List ℕ) × Bor (List ℕ)) → Type 0
IsLineBehind mark text found =
    MatchOption found ((line rest : List ℕ) → HasNoEnd line → text ≢ marked_line mark line ++ rest) (λ r. HasNoEnd r.0.now × (text ≡ marked_line mark r.0.now ++ r.1.now))

-- this was found, and this follows it
abbrev pub IsHere : {X : Type 0} → X → List ℕ → Option (X × Bor (List ℕ)) → Type 0
IsHere x rest None = ⊥
IsHere x rest (Some r) = (r.0 ≡ x) × (r.1.now ≡ rest)

-- What was found is something of which P holds. And whatever that is whose text begins this one, before what Ends holds of, was
-- found.
pub record Finds {X : Type 0} (P : X → Type 0) (text_of : X → List ℕ) (Ends : List ℕ → Type 0) (text : List ℕ) (found : Option (X × Bor (List ℕ))) : Type 0 where
  pub sound : MatchOption found (Unit {0}) (λ r. P r.0)
  pub every : (x : X) (rest : List ℕ) → P x → Ends rest → text ≡ text_of x ++ rest → IsHere x rest found

-- the same of all of a text
pub record FindsAlone {X : Type 0} (P : X → Type 0) (text_of : X → List ℕ) (text : List ℕ) (found : Option X) : Type 0 where
  pub sound : MatchOption found (Unit {0}) P
  pub every : (x : X) → P x → text ≡ text_of x → found ≡ Some x

-- the same of a list, one text after another
pub record FindsAll {X : Type 0} (P : X → Type 0) (text_of : X → List ℕ) (Ends : List ℕ → Type 0) (text : List ℕ) (found : List X) (rest : List ℕ) : Type 0 where
  pub sound : AllByRecursion P found
  pub every : (xs : List X) (behind : List ℕ) → AllByRecursion P xs → Ends behind → text ≡ flat_map text_of xs ++ behind → (found ≡ xs) × (rest ≡ behind)

-- the beginning of the list was found, and the rest follows
pub record FindsSome {X : Type 0} (P : X → Type 0) (text_of : X → List ℕ) (Ends : List ℕ → Type 0) (text : List ℕ) (found : List X) (rest : List ℕ) : Type 0 where
  pub sound : AllByRecursion P found
  pub every : (xs : List X) (behind : List ℕ) → AllByRecursion P xs → Ends behind → text ≡ flat_map text_of xs ++ behind
      → (more : List X) × AllByRecursion P more × (xs ≡ found ++ more) × (rest ≡ flat_map text_of more ++ behind)

-- anything may follow
abbrev pub Anything : List ℕ → Type 0
Anything rest = Unit {0}

-- the first byte of a text, and the first two as a number
abbrev pub first : List ℕ → ℕ
first text = get_or text 0 0

abbrev pub first_two : List ℕ → ℕ
first_two text = get_or text 0 0 * 256 + get_or text 1 0

-- no line of a triple follows, which begins with `<` or `_`
abbrev pub FollowsTriples : List ℕ → Type 0
FollowsTriples rest = (first rest ≢ 60) × (first rest ≢ 95)

-- no line of a look follows: those of a block end in one that begins with `e`
abbrev pub FollowsLooks : List ℕ → Type 0
FollowsLooks rest = first rest ≡ 101

-- no further line of the result follows: what does begins otherwise than `parameter`, `about`, `value` and `other`
abbrev pub FollowsRow : List ℕ → Type 0
FollowsRow rest = (first_two rest ≢ 28769) × (first_two rest ≢ 24930) × (first_two rest ≢ 30305) × (first_two rest ≢ 28532)

-- the text doesn't begin with the mark
abbrev pub HasNot : List ℕ → List ℕ → Type 0
HasNot mark text = (rest : List ℕ) → text ≢ mark ++ rest

-- no byte is this one
abbrev pub HasNo : ℕ → List ℕ → Type 0
HasNo b text = (i : ℕ) → i < length text → slice_index text i ≢ b

-- two texts with a space between
abbrev pub spaced : List ℕ → List ℕ → List ℕ
spaced a b = a ++ codes " " ++ b

-- the line of a look behind its word
abbrev pub look_words : Look Term → List ℕ
look_words (Out x p) = spaced (term_text x) (term_text p)
look_words (In p x) = spaced (term_text p) (term_text x)
look_words (OutAny x) = term_text x

-- looks of one kind
abbrev pub IsReadableOut : Look Term → Type 0
IsReadableOut (Out x p) = IsReadableTerm x × IsReadableIri p
IsReadableOut (In p x) = ⊥
IsReadableOut (OutAny x) = ⊥

abbrev pub IsReadableIn : Look Term → Type 0
IsReadableIn (Out x p) = ⊥
IsReadableIn (In p x) = IsReadableIri p × IsReadableTerm x
IsReadableIn (OutAny x) = ⊥

abbrev pub IsReadableAny : Look Term → Type 0
IsReadableAny (Out x p) = ⊥
IsReadableAny (In p x) = ⊥
IsReadableAny (OutAny x) = IsReadableTerm x
