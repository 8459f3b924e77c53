-- A token that ends where what closes it comes, a piece after another.
use Rattle.std.proofs.Common.{◌≡◌, ◌∙◌, ℕ, zero, suc, ◌+◌, ◌-◌, ◌<◌, ◌≤◌, List, [], ◌∷◌, length, drop, Result, Ok, Err, refl, sym, ap, arith}
use Rattle.rdf_lexical.specs.declared.refusal.RefusalKind.{RefusalKind}
use Rattle.rdf_lexical.specs.declared.refusal.RefusalKind.TheVariants.{UnexpectedEnd}
use Rattle.rdf_lexical.specs.declared.enclosing.Enclosed.{Enclosed}
use Rattle.rdf_lexical.specs.declared.enclosing.Enclosed.TheVariants.{Iri, Text}
use Rattle.rdf_lexical.specs.declared.quoting.Quotes.TheVariants.{Double, Single, LongDouble, LongSingle}
use Rattle.rdf_lexical.specs.declared.enclosing.Piece.TheVariants.{Held, Closing, Faulty}
use Rattle.rdf_lexical.specs.Enclosed.{next_piece, one_more, with_piece, enclosed_length, opened}

pub opened_zero : (r : Result ℕ RefusalKind) → opened 0 r ≡ r
opened_zero (Ok n) = let e : 0 + n ≡ n = omega arith in ap (λ x. Ok x) e
opened_zero (Err f) = refl

one_opened : (n : ℕ) (r : Result ℕ RefusalKind) → one_more (opened n r) ≡ opened (suc n) r
one_opened n (Ok m) = let e : suc (n + m) ≡ suc n + m = omega arith in ap (λ x. Ok x) e
one_opened n (Err f) = refl

opened_twice : (n m : ℕ) (r : Result ℕ RefusalKind) → opened n (opened m r) ≡ opened (n + m) r
opened_twice n m (Ok k) = let e : n + (m + k) ≡ (n + m) + k = omega arith in ap (λ x. Ok x) e
opened_twice n m (Err f) = refl

-- the characters of a piece before the rest
pub skip_piece : (e : Enclosed) (n : ℕ) (cs : List ℕ) → n ≤ length cs → enclosed_length e n cs ≡ opened n (enclosed_length e 0 (drop n cs))
skip_piece e zero cs h = sym (opened_zero (enclosed_length e 0 cs))
skip_piece e (suc n) [] h = absurd (omega arith)
skip_piece e (suc n) (c ∷ cs) h = ap one_more (skip_piece e n cs (omega arith)) ∙ one_opened n (enclosed_length e 0 (drop n cs))

-- what comes next, by its kind
pub held_piece : (e : Enclosed) (cs : List ℕ) (n count : ℕ) → 0 < n → n ≤ length cs → next_piece e cs ≡ Held n → opened count (enclosed_length e 0 cs) ≡ opened (count + n) (enclosed_length e 0 (drop n cs))
held_piece e [] n count some most is = absurd (omega arith)
held_piece e (c ∷ cs) zero count some most is = absurd (omega arith)
held_piece e (c ∷ cs) (suc n) count some most is =
    let less : suc n - 1 ≡ n = omega arith in
    ap (λ p. opened count (with_piece p (λ k. enclosed_length e k cs))) is
    ∙ ap (λ k. opened count (one_more (enclosed_length e k cs))) less
    ∙ ap (λ r. opened count (one_more r)) (skip_piece e n cs (omega arith))
    ∙ ap (opened count) (one_opened n (enclosed_length e 0 (drop n cs)))
    ∙ opened_twice count (suc n) (enclosed_length e 0 (drop n cs))

pub closing_piece : (e : Enclosed) (cs : List ℕ) (n : ℕ) → 0 < n → n ≤ length cs → next_piece e cs ≡ Closing n → enclosed_length e 0 cs ≡ Ok n
closing_piece e [] n some most is = absurd (omega arith)
closing_piece e (c ∷ cs) n some most is = ap (λ p. with_piece p (λ k. enclosed_length e k cs)) is

nothing_left : (e : Enclosed) → next_piece e [] ≡ Faulty UnexpectedEnd
nothing_left Iri = refl
nothing_left (Text Double) = refl
nothing_left (Text Single) = refl
nothing_left (Text LongDouble) = refl
nothing_left (Text LongSingle) = refl

pub faulty_piece : (e : Enclosed) (cs : List ℕ) (f : RefusalKind) → next_piece e cs ≡ Faulty f → enclosed_length e 0 cs ≡ Err f
faulty_piece e [] f is = let end = nothing_left e in cc
faulty_piece e (c ∷ cs) f is = ap (λ p. with_piece p (λ k. enclosed_length e k cs)) is
