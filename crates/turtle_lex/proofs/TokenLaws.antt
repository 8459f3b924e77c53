-- The longest token at a place, and none where a fault is.
use Rattle.std.proofs.Common.{◌≡◌, ◌↔◌, ◌∙◌, ℕ, ◌+◌, ◌-◌, ◌≤◌, Bool, false, List, [], ◌∷◌, ◌++◌, length, take, drop, Ok, Err, None, refl, sym, ap, subst, arith}
use Rattle.std.specs.Prelude.{IfOk, IfSome, OnErr}
use Rattle.std.proofs.lemmas.List.{drop-drop, length-take-le, take-append-drop}
use Rattle.turtle_lex.specs.declared.token.TokenKind.{TokenKind}
use Rattle.turtle_lex.specs.Words.{Lexeme}
use Rattle.turtle_lex.specs.Blanks.{blank_length}
use Rattle.turtle_lex.specs.Tokens.{token_at, placed, found, token_behind, behind_blanks, next_token}
use Rattle.turtle_lex.specs.Productions.{IsToken, IsWhole, IsTokenAt, IsNextToken, HasNoToken}
use Rattle.turtle_lex.specs.Laws.{FindsLongest, MissesNone, StandsAlone}
use Rattle.turtle_lex.proofs.Reached.{Reaches, reached}
use Rattle.turtle_lex.proofs.Sound.{IsFound, token_found}

reached_at : (m : Bool) (text : List ℕ) (r : Lexeme) (k : TokenKind) (t u : List ℕ) → token_at m text ≡ r → text ≡ t ++ u → IsToken m k t → IsWhole k t u → Reaches k r (length t)
reached_at m text r k t u found split is whole = subst (λ x. Reaches k x (length t)) (ap (token_at m) (sym split) ∙ found) (reached m k t u is whole)

pub finds_longest : FindsLongest
finds_longest m text k n found =
    let here : IsFound m (Ok (k, n)) text = subst (λ r. IsFound m r text) found (token_found m text) in
    record { within = here.2; is = here.0; whole = here.1; longest = λ other t u split is whole. (reached_at m text (Ok (k, n)) other t u found split is whole).0 }

pub misses_none : MissesNone
misses_none m text f found k t u split is whole = reached_at m text (Err f) k t u found split is whole

-- at most one token: it is the one that is found
found_reaches : (m : Bool) (text : List ℕ) (k : TokenKind) (n : ℕ) (r : Lexeme) → token_at m text ≡ r → IsTokenAt m text k n → Reaches k r n
found_reaches m text k n r found h =
    let size : length (take n text) ≡ n = length-take-le n text h.within in
    subst (λ x. Reaches k r x) size (reached_at m text r k (take n text) (drop n text) found (sym (take-append-drop n text)) h.is h.whole)

two_found : (m : Bool) (text : List ℕ) (k l : TokenKind) (n p : ℕ) (r : Lexeme) → token_at m text ≡ r → Reaches k r n → Reaches l r p → IsTokenAt m text k n → IsTokenAt m text l p → (k ≡ l) × (n ≡ p)
two_found m text k l n p (Ok q) found (more, same) (further, alike) g h =
    let here = finds_longest m text q.0 q.1 found in
    let size : length (take q.1 text) ≡ q.1 = length-take-le q.1 text here.within in
    let split : text ≡ take q.1 text ++ drop q.1 text = sym (take-append-drop q.1 text) in
    let most : length (take q.1 text) ≤ n = g.longest q.0 (take q.1 text) (drop q.1 text) split here.is here.whole in
    let least : length (take q.1 text) ≤ p = h.longest q.0 (take q.1 text) (drop q.1 text) split here.is here.whole in
    (sym (same (omega arith)) ∙ alike (omega arith), omega arith)
two_found m text k l n p (Err f) found first second g h = absurd first

pub stands_alone : StandsAlone
stands_alone m text k l n p g h = let r = token_at m text in two_found m text k l n p r refl (found_reaches m text k n r refl g) (found_reaches m text l p r refl h) g h

-- the same at a place
at_place : (m : Bool) (text cs : List ℕ) (start : ℕ) (r : Lexeme) → drop start text ≡ cs → token_at m cs ≡ r → IfOk (found (placed text start r)) (λ o. IfSome o (IsNextToken m text))
at_place m text cs start (Ok p) rest is =
    let size : start + p.1 - start ≡ p.1 = omega arith in
    subst (λ n. IsTokenAt m (drop start text) p.0 n) (sym size) (subst (λ (x : List ℕ). IsTokenAt m x p.0 p.1) (sym rest) (finds_longest m cs p.0 p.1 is))
at_place m text cs start (Err f) rest is = tt

behind : (m : Bool) (text : List ℕ) (start : ℕ) (cs : List ℕ) → drop start text ≡ cs → IfOk (token_behind text start m cs) (λ o. IfSome o (IsNextToken m text))
behind m text start [] rest = tt
behind m text start (c ∷ cs) rest = at_place m text (c ∷ cs) start (token_at m (c ∷ cs)) rest refl

pub next_is_longest : (m : Bool) (text : List ℕ) (at : ℕ) → IfOk (next_token text at m) (λ o. IfSome o (IsNextToken m text))
next_is_longest m text at = behind m text (at + blank_length false (drop at text)) (behind_blanks text at) (sym (drop-drop (blank_length false (drop at text)) at text))

no_token_at : (m : Bool) (text cs : List ℕ) (start : ℕ) (r : Lexeme) → token_at m cs ≡ r → OnErr (found (placed text start r)) (HasNoToken m cs)
no_token_at m text cs start (Ok p) is = tt
no_token_at m text cs start (Err f) is = misses_none m cs f is

fault_behind : (m : Bool) (text : List ℕ) (start : ℕ) (cs : List ℕ) → OnErr (token_behind text start m cs) (HasNoToken m cs)
fault_behind m text start [] = tt
fault_behind m text start (c ∷ cs) = no_token_at m text (c ∷ cs) start (token_at m (c ∷ cs)) refl

pub fault_has_no_token : (m : Bool) (text : List ℕ) (at : ℕ) → OnErr (next_token text at m) (HasNoToken m (behind_blanks text at))
fault_has_no_token m text at = fault_behind m text (at + blank_length false (drop at text)) (behind_blanks text at)

some_found : (text : List ℕ) (start : ℕ) (r : Lexeme) → found (placed text start r) ≡ Ok None → ⊥
some_found text start (Ok p) h = cc
some_found text start (Err f) h = cc

none_behind : (m : Bool) (text : List ℕ) (start : ℕ) (cs : List ℕ) → (token_behind text start m cs ≡ Ok None) ↔ (cs ≡ [])
none_behind m text start [] = ((λ h. refl), (λ h. refl))
none_behind m text start (c ∷ cs) = ((λ h. absurd (some_found text start (token_at m (c ∷ cs)) h)), (λ h. cc))

pub none_is_left : (m : Bool) (text : List ℕ) (at : ℕ) → (next_token text at m ≡ Ok None) ↔ (behind_blanks text at ≡ [])
none_is_left m text at = none_behind m text (at + blank_length false (drop at text)) (behind_blanks text at)
