-- Each token takes a character or more.
use Rattle.std.proofs.Common.{◌≡◌, ◌∙◌, ℕ, zero, suc, ◌+◌, ◌-◌, ◌<◌, ◌≤◌, Bool, true, false, List, [], ◌∷◌, ◌++◌, length, take, drop, Ok, Err, Some, None, Option, Result, refl, sym, ap, subst, arith}
use Rattle.std.specs.Prelude.{IfOk, IfSome}
use Rattle.std.proofs.lemmas.List.{length-drop, length-take, drop-drop}
use Rattle.rdf_lexical.specs.declared.quoting.Quotes.{Quotes}
use Rattle.rdf_lexical.specs.declared.quoting.Quotes.TheVariants.{Double as DoubleQuotes, Single, LongDouble, LongSingle}
use Rattle.turtle_lex.specs.declared.token.Token.{Token}
use Rattle.turtle_lex.specs.declared.token.LexFault.{LexFault}
use Rattle.turtle_lex.specs.declared.token.TokenKind.{TokenKind}
use Rattle.turtle_lex.specs.declared.token.TokenKind.TheVariants.{IriRef, PrefixName, PrefixedName, BlankNodeLabel, LanguageTag, Integer, Decimal, Double, StringLiteral, Dot, Semicolon, Comma, OpenBracket, CloseBracket, OpenParenthesis, CloseParenthesis, Carets, A, True, False, Prefix, Base, AtPrefix, AtBase}
use Rattle.rdf_lexical.specs.declared.classes.Class.{Class}
use Rattle.rdf_lexical.specs.declared.classes.Class.TheVariants.{Digit}
use Rattle.turtle_lex.specs.Words.{Lexeme}
use Rattle.turtle_lex.specs.Blanks.{blank_length}
use Rattle.turtle_lex.specs.Tokens.{token_at, placed, found, token_behind, behind_blanks, next_token}
use Rattle.turtle_lex.specs.Productions.{IsToken, IsNextToken, IsPrefixName, IsExponent}
use Rattle.rdf_lexical.specs.Productions.{SomeOf}
use Rattle.turtle_lex.specs.Places.{HasSpan}
use Rattle.turtle_reader.specs.Progress.{IsTokenOf, weight, unread}
use Rattle.turtle_lex.proofs.TokenLaws.{finds_longest}
use Rattle.turtle_reader.specs.declared.state.State.{State}
use Rattle.turtle_reader.specs.Parsers.{left, left_behind}
use Rattle.turtle_reader.specs.Tokens.{next, next_of, is_string}
use Rattle.turtle_reader.proofs.Progress.{Takes}

no_front : (p q : List ℕ) (c : ℕ) → [] ≡ p ++ c ∷ q → ⊥
no_front [] q c h = cc
no_front (d ∷ p) q c h = cc

no_back : (p q : List ℕ) → (q ≡ [] → ⊥) → [] ≡ p ++ q → ⊥
no_back [] q k h = k (sym h)
no_back (d ∷ p) q k h = cc

no_some : (k : Class) (q : List ℕ) → SomeOf k q → q ≡ [] → ⊥
no_some k [] h e = let bad : false ≡ true = h.0 in cc
no_some k (c ∷ q) h e = cc

no_name : (q : List ℕ) → IsPrefixName q → q ≡ [] → ⊥
no_name q h e = no_front h.0 [] 58 (sym e ∙ h.1)

no_exponent : (q : List ℕ) → IsExponent q → q ≡ [] → ⊥
no_exponent q h e = let bad : [] ≡ h.0 ∷ (h.1 ++ h.2) = sym e ∙ h.3 in cc

no_quotes : (q : Quotes) (b : List ℕ) (c : ℕ) (r : List ℕ) → [] ≡ (c ∷ r) ++ b → ⊥
no_quotes q b c r h = cc

no_name_front : (n l : List ℕ) → IsPrefixName n → [] ≡ n ++ l → ⊥
no_name_front [] l k h = no_name [] k refl
no_name_front (c ∷ n) l k h = cc

not_lower : (w : List ℕ) (c : ℕ) → [] ≡ c ∷ w → ⊥
not_lower w c h = cc

nonempty : (m : Bool) (k : TokenKind) → IsToken m k [] → ⊥
nonempty m IriRef h = not_lower _ _ h.1
nonempty m PrefixName h = no_name [] h refl
nonempty m PrefixedName h = no_name_front h.0 h.1 h.3 h.2
nonempty m BlankNodeLabel h = not_lower _ _ h.2
nonempty m LanguageTag h = not_lower _ _ h.1.2
nonempty m Integer h = no_back h.0 h.1 (no_some Digit h.1 h.4) h.2
nonempty m Decimal h = no_back h.0 (h.1 ++ 46 ∷ h.2) (λ e. no_front h.1 h.2 46 (sym e)) h.3
nonempty m Double h = no_back h.0 (h.1 ++ h.2) (λ e. no_back h.1 h.2 (no_exponent h.2 h.6) (sym e)) h.3
nonempty m (StringLiteral DoubleQuotes) h = let e = h.1 in cc
nonempty m (StringLiteral Single) h = let e = h.1 in cc
nonempty m (StringLiteral LongDouble) h = let e = h.1 in cc
nonempty m (StringLiteral LongSingle) h = let e = h.1 in cc
nonempty m Dot h = not_lower _ _ h
nonempty m Semicolon h = not_lower _ _ h
nonempty m Comma h = not_lower _ _ h
nonempty m OpenBracket h = not_lower _ _ h
nonempty m CloseBracket h = not_lower _ _ h
nonempty m OpenParenthesis h = not_lower _ _ h
nonempty m CloseParenthesis h = not_lower _ _ h
nonempty m Carets h = not_lower _ _ h
nonempty m A h = not_lower _ _ h
nonempty m True h = not_lower _ _ h
nonempty m False h = not_lower _ _ h
nonempty m Prefix h = not_lower _ _ h
nonempty m Base h = not_lower _ _ h
nonempty m AtPrefix h = not_lower _ _ h.1
nonempty m AtBase h = not_lower _ _ h.1

some_length : (m : Bool) (text : List ℕ) (k : TokenKind) (n : ℕ) → IsToken m k (take n text) → 0 < n
some_length m text k zero h = absurd (nonempty m k h)
some_length m text k (suc n) h = omega arith

-- less is left behind the next token
left_at : (m : Bool) (text cs : List ℕ) (at start c : ℕ) → at ≤ start → drop start text ≡ c ∷ cs → (r : Lexeme) → token_at m (c ∷ cs) ≡ r → IfOk (found (placed text start r)) (λ o. left_behind text (Ok o) < suc (length text - at))
left_at m text cs at start c le is (Ok p) h =
    let some : 0 < p.1 = some_length m (c ∷ cs) p.0 p.1 (finds_longest m (c ∷ cs) p.0 p.1 h).is in
    let size : length text - start ≡ suc (length cs) = sym (length-drop start text) ∙ ap length is in
    omega arith
left_at m text cs at start c le is (Err f) h = tt

left_of : (m : Bool) (text : List ℕ) (at start : ℕ) → at ≤ start → (cs : List ℕ) → drop start text ≡ cs → IfOk (token_behind text start m cs) (λ o. left_behind text (Ok o) < suc (length text - at))
left_of m text at start le [] is = omega arith
left_of m text at start le (c ∷ cs) is = left_at m text cs at start c le is (token_at m (c ∷ cs)) refl

pub next_left : (text : List ℕ) (at : ℕ) (m : Bool) → left_behind text (next_token text at m) < suc (length text - at)
next_left text at m = weaken (next_token text at m) (left_of m text at (at + blank_length false (drop at text)) (omega arith) (behind_blanks text at) (drop-drop-at (blank_length false (drop at text)) at text))
  where
    weaken : (r : Result (Option Token) LexFault) → IfOk r (λ o. left_behind text (Ok o) < suc (length text - at)) → left_behind text r < suc (length text - at)
    weaken (Ok o) h = h
    weaken (Err f) h = omega arith

    drop-drop-at : (n a : ℕ) (cs : List ℕ) → drop (a + n) cs ≡ drop n (drop a cs)
    drop-drop-at n a cs = sym (drop-drop n a cs)

next_of_takes : (text : List ℕ) (a : Result (Option Token) LexFault) (s : State) → IfOk (next_of text a s) (λ r. (left text r.1 < left_behind text a) × (s.next ≤ r.1.next))
next_of_takes text (Ok (Some t)) s = (next_left text t.end.at (is_string t.kind), omega arith)
next_of_takes text (Ok None) s = tt
next_of_takes text (Err f) s = tt

pub next_takes : (text : List ℕ) → Takes text (next text)
unfolding next
next_takes text s = next_of_takes text s.ahead s

pub next_passed : (text : List ℕ) (s : State) (t : Token) (m : Bool) (r : Result (Option Token) LexFault) → s.ahead ≡ Ok (Some t) → r ≡ next_token text t.end.at m → left_behind text r < left text s
next_passed text s t m r is h =
    subst (λ q. left_behind text r < left_behind text q) (sym is) (subst (λ (q : Result (Option Token) LexFault). left_behind text q < suc (length text - t.end.at)) (sym h) (next_left text t.end.at m))

two_marks : (c d : ℕ) (v : List ℕ) (t : List ℕ) → t ≡ c ∷ d ∷ v → 2 ≤ length t
two_marks c d v t e = subst (λ (x : List ℕ). 2 ≤ length x) (sym e) (omega arith)

-- a token has as many characters as its weight
at_least : (m : Bool) (k : TokenKind) (t : List ℕ) → IsToken m k t → 1 ≤ length t → weight k ≤ length t
at_least m BlankNodeLabel t h l = two_marks 95 58 _ t h.2
at_least m _ t h l = l

length_taken : (n : ℕ) (xs : List ℕ) → length (take n xs) ≤ n
length_taken n xs = omega (arith, length-take n xs)

text_length : (text : List ℕ) (t : Token) → HasSpan text t → length (take (t.end.at - t.start.at) (drop t.start.at text)) ≡ t.end.at - t.start.at
text_length text t h = omega (arith, length-take (t.end.at - t.start.at) (drop t.start.at text), length-drop t.start.at text, h.0.0, h.1.0, h.2)

pub next_ready : (m : Bool) (text : List ℕ) (r : Result (Option Token) LexFault) → IfOk r (λ o. IfSome o (HasSpan text)) → IfOk r (λ o. IfSome o (IsNextToken m text)) → IfOk r (λ o. IfSome o (IsTokenOf text))
next_ready m text (Ok (Some t)) h k = record {
  span = h;
  long = omega (arith, at_least m t.kind _ k.is (omega (arith, text_length text t h, h.2)), text_length text t h);
}
next_ready m text (Ok None) h k = tt
next_ready m text (Err f) h k = tt

-- what is unread from a token on
pub unread_at : (m : Bool) (text : List ℕ) (at start : ℕ) (r : Lexeme) → at ≤ start → unread text (found (placed text start r)) ≤ length text - at
unread_at m text at start (Ok p) le = omega arith
unread_at m text at start (Err f) le = omega arith

unread_of : (m : Bool) (text : List ℕ) (at start : ℕ) → at ≤ start → (cs : List ℕ) → unread text (token_behind text start m cs) ≤ length text - at
unread_of m text at start le [] = omega arith
unread_of m text at start le (c ∷ cs) = unread_at m text at start (token_at m (c ∷ cs)) le

pub next_unread : (text : List ℕ) (at : ℕ) (m : Bool) → unread text (next_token text at m) ≤ length text - at
next_unread text at m = unread_of m text at (at + blank_length false (drop at text)) (omega arith) (behind_blanks text at)

pub passed_unread : (text : List ℕ) (s : State) (t : Token) (m : Bool) (r : Result (Option Token) LexFault) → s.ahead ≡ Ok (Some t) → IsTokenOf text t → r ≡ next_token text t.end.at m
    → unread text r + weight t.kind ≤ unread text s.ahead
passed_unread text s t m r is token h =
    let after : unread text r ≤ length text - t.end.at = subst (λ (q : Result (Option Token) LexFault). unread text q ≤ length text - t.end.at) (sym h) (next_unread text t.end.at m) in
    let long = token.long in
    let span = token.span in
    subst (λ q. unread text r + weight t.kind ≤ unread text q) (sym is) (omega (arith, after, long, span.0.0, span.1.0, span.2))

pub first_unread : (text : List ℕ) (r : Result (Option Token) LexFault) (at : ℕ) (m : Bool) → r ≡ next_token text at m → unread text r ≤ length text
first_unread text r at m h = subst (λ (q : Result (Option Token) LexFault). unread text q ≤ length text) (sym h) (omega (arith, next_unread text at m))
