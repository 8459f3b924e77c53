-- The tokens of the reader, by the productions.
use Rattle.std.proofs.Common.{◌≡◌, ℕ, List, [], ◌∷◌, take, drop, Ok, Err, refl, sym, ap, ◌⊎◌, inl, inr}
use Rattle.rdf_lexical.specs.declared.refusal.RefusalKind.{RefusalKind}
use Rattle.rdf_lexical.specs.Refusals.{◌>>=◌}
use Rattle.ntriples_text.specs.declared.lexeme.TokenKind.{TokenKind}
use Rattle.ntriples_text.specs.declared.token.Token.{Token}
use Rattle.ntriples_text.specs.declared.token.Token.TheVariants.{TextEnd}
use Rattle.ntriples_text.specs.Tokens.{Parsed, Lexeme, skipped, lexeme, token_of, token_at, token}
use Rattle.ntriples_text.specs.Productions.{IsTokenAt, HasNoToken}
use Rattle.ntriples_text.specs.Laws.{FindsLongest, MissesNone, StandsAlone}
use Rattle.ntriples_text.proofs.Lexemes.{longest_found, none_missed, one_stands}

abbrev Finds : List ℕ → Token → List ℕ → Type 0
Finds cs t rest = ((cs ≡ []) × (t ≡ TextEnd) × (rest ≡ [])) ⊎ ((kind : TokenKind) × (n : ℕ) × IsTokenAt cs kind n × (t ≡ token_of kind (take n cs)) × (rest ≡ drop n cs))

abbrev read_of : List ℕ → Lexeme → Parsed Token
read_of cs r = r >>= λ p. Ok (token_of p.0 (take p.1 cs), drop p.1 cs)

by_lexeme : (cs : List ℕ) (r : Lexeme) (t : Token) (rest : List ℕ) → lexeme cs ≡ r → read_of cs r ≡ Ok (t, rest) → Finds cs t rest
by_lexeme cs (Ok p) t rest is h =
    let pair : (token_of p.0 (take p.1 cs), drop p.1 cs) ≡ (t, rest) = cc in
    let first : token_of p.0 (take p.1 cs) ≡ t = ap (λ (x : Token × List ℕ). x.0) pair in
    let second : drop p.1 cs ≡ rest = ap (λ (x : Token × List ℕ). x.1) pair in
    inr (p.0, p.1, longest_found cs p.0 p.1 is, sym first, sym second)
by_lexeme cs (Err k) t rest is h = cc

finds_at : (cs : List ℕ) (t : Token) (rest : List ℕ) → token_at cs ≡ Ok (t, rest) → Finds cs t rest
finds_at [] t rest h =
    let pair : (TextEnd, []) ≡ (t, rest) = cc in
    let first : TextEnd ≡ t = ap (λ (x : Token × List ℕ). x.0) pair in
    let second : [] ≡ rest = ap (λ (x : Token × List ℕ). x.1) pair in
    inl (refl, sym first, sym second)
finds_at (c ∷ cs) t rest h = by_lexeme (c ∷ cs) (lexeme (c ∷ cs)) t rest refl h

pub finds_longest : FindsLongest
unfolding token
finds_longest text rest t h = finds_at (skipped text) t rest h

fault_by : (cs : List ℕ) (r : Lexeme) (fault : RefusalKind) → lexeme cs ≡ r → read_of cs r ≡ Err fault → HasNoToken cs
fault_by cs (Ok p) fault is h = cc
fault_by cs (Err k) fault is h = none_missed cs k is

misses_at : (cs : List ℕ) (fault : RefusalKind) → token_at cs ≡ Err fault → HasNoToken cs
misses_at [] fault h = cc
misses_at (c ∷ cs) fault h = fault_by (c ∷ cs) (lexeme (c ∷ cs)) fault refl h

pub misses_none : MissesNone
unfolding token
misses_none text fault h = misses_at (skipped text) fault h

pub stands_alone : StandsAlone
stands_alone text k l n p g h = one_stands text k l n p g h
