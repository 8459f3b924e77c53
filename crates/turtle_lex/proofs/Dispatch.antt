-- Which tokens may begin with a character.
use Rattle.std.proofs.Common.{◌≡◌, ◌∙◌, nat_le, ℕ, ◌<◌, ◌≤◌, Bool, true, false, ◌&&◌, List, ◌∷◌, None, refl, sym, ap, arith}
use Rattle.std.proofs.lemmas.Bool.Decides.{nat_tests}
use Rattle.rdf_lexical.specs.Characters.{is_within}
use Rattle.rdf_lexical.specs.declared.classes.Class.TheVariants.{Digit}
use Rattle.rdf_lexical.specs.Classes.{holds}
use Rattle.turtle_lex.specs.Tokens.{may_begin_number, may_begin_name, plain_token, punctuation, number_or_dot, name_or_word, token_at}
use Rattle.rdf_lexical.proofs.Runs.{apart}

below : (low high c : ℕ) → c ≤ 57 → 57 < low → is_within low high c ≡ false
below low high c small large = let e : nat_le low c ≡ false = grind (arith, nat_tests) in ap (λ b. b && nat_le c high) e

digit_small : (c : ℕ) → holds Digit c ≡ true → c ≤ 57
digit_small c h = grind (arith, nat_tests)

no_name_digit : (c : ℕ) → holds Digit c ≡ true → may_begin_name c ≡ false
no_name_digit c h =
    let small = digit_small c h in
    let colon = apart (holds Digit) c 58 h refl in
    rw (
      colon,
      below 65 90 c small (omega arith),
      below 97 122 c small (omega arith),
      below 0xC0 0xD6 c small (omega arith),
      below 0xD8 0xF6 c small (omega arith),
      below 0xF8 0x2FF c small (omega arith),
      below 0x370 0x37D c small (omega arith),
      below 0x37F 0x1FFF c small (omega arith),
      below 0x200C 0x200D c small (omega arith),
      below 0x2070 0x218F c small (omega arith),
      below 0x2C00 0x2FEF c small (omega arith),
      below 0x3001 0xD7FF c small (omega arith),
      below 0xF900 0xFDCF c small (omega arith),
      below 0xFDF0 0xFFFD c small (omega arith),
      below 0x10000 0xEFFFF c small (omega arith),
    ) refl

pub refuted : (b : Bool) → (b ≡ true → ⊥) → b ≡ false
refuted true h = absurd (h refl)
refuted false h = refl

no_punctuation : (test : ℕ → Bool) (c : ℕ) → test c ≡ true → test 59 ≡ false → test 44 ≡ false → test 91 ≡ false → test 93 ≡ false → test 40 ≡ false → test 41 ≡ false → punctuation c ≡ None
no_punctuation test c h a b d e f g = rw (apart test c 59 h a, apart test c 44 h b, apart test c 91 h d, apart test c 93 h e, apart test c 40 h f, apart test c 41 h g) refl

to_plain : (m : Bool) (test : ℕ → Bool) (c : ℕ) (cs : List ℕ) → test c ≡ true → test 60 ≡ false → test 34 ≡ false → test 39 ≡ false → test 64 ≡ false → test 95 ≡ false → test 94 ≡ false → token_at m (c ∷ cs) ≡ plain_token c (c ∷ cs)
to_plain m test c cs h a b d e f g = rw (apart test c 60 h a, apart test c 34 h b, apart test c 39 h d, apart test c 64 h e, apart test c 95 h f, apart test c 94 h g) refl

pub at_number : (m : Bool) (c : ℕ) (cs : List ℕ) → may_begin_number c ≡ true → token_at m (c ∷ cs) ≡ number_or_dot (c ∷ cs)
at_number m c cs h =
    let none = no_punctuation may_begin_number c h refl refl refl refl refl refl in
    to_plain m may_begin_number c cs h refl refl refl refl refl refl ∙ rw (none, h) refl

pub at_name : (m : Bool) (c : ℕ) (cs : List ℕ) → may_begin_name c ≡ true → token_at m (c ∷ cs) ≡ name_or_word (c ∷ cs)
at_name m c cs h =
    let none = no_punctuation may_begin_name c h refl refl refl refl refl refl in
    let digit : holds Digit c ≡ false = refuted (holds Digit c) (λ e. let no_name = no_name_digit c e in let both : true ≡ false = sym h ∙ no_name in cc) in
    let dot = apart may_begin_name c 46 h refl in
    let plus = apart may_begin_name c 43 h refl in
    let minus = apart may_begin_name c 45 h refl in
    let number : may_begin_number c ≡ false = rw (dot, plus, minus, digit) refl in
    to_plain m may_begin_name c cs h refl refl refl refl refl refl ∙ rw (none, number, h) refl
