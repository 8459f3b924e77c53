use Rattle.std.proofs.Common.{◌≡◌, ◌∙◌, ◌-◌, ◌<◌, ◌∷◌, ℕ, List, drop, length, sym, ap, subst, arith}
use Rattle.std.specs.Prelude.{slice_index}
use Rattle.std.specs.Str.{chars}
use Rattle.rdf_lexical.specs.Slices.{IsHeld}
use Rattle.rdf_lexical.proofs.Spelled.{ascii_step, none_left}
use Rattle.rdf_lexical.proofs.slices.CharSlice.split_first.Goals as goal

pub range_from-requires : goal.range_from-requires
range_from-requires c =
    let bytes = c.self.inside.text.now in
    let same : c.as_bytes.result.now ≡ bytes = c.as_bytes.ensures.value in
    let some : 0 < length bytes = subst (λ (xs : List ℕ). 0 < length xs) same c.in-len1-up.len_at_least in
    let low : slice_index bytes 0 < 128 = subst (λ (xs : List ℕ). slice_index xs 0 < 128) same c.if-byte-ge128.false in
    let step = ascii_step bytes c.self.inside.count c.self.invariant some low in
    λ more. step.0

pub overflow_sub-rest : goal.overflow_sub-rest
overflow_sub-rest c =
    let bytes = c.self.inside.text.now in
    let same : c.as_bytes.result.now ≡ bytes = c.as_bytes.ensures.value in
    let some : 0 < length bytes = subst (λ (xs : List ℕ). 0 < length xs) same c.in-len1-up.len_at_least in
    let low : slice_index bytes 0 < 128 = subst (λ (xs : List ℕ). slice_index xs 0 < 128) same c.if-byte-ge128.false in
    let step = ascii_step bytes c.self.inside.count c.self.invariant some low in
    step.1.some

pub invariant_of-rest : goal.invariant_of-rest
invariant_of-rest c =
    let bytes = c.self.inside.text.now in
    let same : c.as_bytes.result.now ≡ bytes = c.as_bytes.ensures.value in
    let some : 0 < length bytes = subst (λ (xs : List ℕ). 0 < length xs) same c.in-len1-up.len_at_least in
    let low : slice_index bytes 0 < 128 = subst (λ (xs : List ℕ). slice_index xs 0 < 128) same c.if-byte-ge128.false in
    let step = ascii_step bytes c.self.inside.count c.self.invariant some low in
    subst (λ xs. IsHeld xs (c.self.inside.count - 1)) (sym c.range_from.ensures.value) step.1.held

pub returns-in-empty : goal.returns-in-empty
returns-in-empty c =
    let none : length c.self.inside.text.now ≡ 0 = omega (arith, ap length c.as_bytes.ensures.value, c.in-empty.len_below) in
    sym c.self.view_is ∙ none_left c.self.inside.text.now c.self.inside.count c.self.invariant none

pub returns-else-byte-ge128 : goal.returns-else-byte-ge128
returns-else-byte-ge128 c =
    let bytes = c.self.inside.text.now in
    let same : c.as_bytes.result.now ≡ bytes = c.as_bytes.ensures.value in
    let some : 0 < length bytes = subst (λ (xs : List ℕ). 0 < length xs) same c.in-len1-up.len_at_least in
    let low : slice_index bytes 0 < 128 = subst (λ (xs : List ℕ). slice_index xs 0 < 128) same c.if-byte-ge128.false in
    let step = ascii_step bytes c.self.inside.count c.self.invariant some low in
    sym c.self.view_is ∙ step.1.are
    ∙ ap (λ b. b ∷ chars (drop 1 bytes)) (sym (ap (λ xs. slice_index xs 0) same))
    ∙ ap (λ xs. slice_index c.as_bytes.result.now 0 ∷ chars xs) (sym c.range_from.ensures.value)
