-- Why the sync between the block and its gate is needed: without it a crash may leave an open gate with no block.
use Rattle.std.proofs.Common.{◌≡◌, inl, inr, ℕ, ◌+◌, List, [], ◌∷◌, ◌++◌, length, get_or, refl, sym, ◌∙◌, ap, arith, append_assoc, length-append}
use Rattle.std.proofs.lemmas.List.{append_cancel_left, get_or_append_left}
use Rattle.std.specs.List.{flat_map}
use Rattle.disk.specs.Crashes.{IsTorn}
use Rattle.disk.proofs.Torn.{same_torn}
use Rattle.commit_log.specs.Format.{header, Entry, spelled}
use Rattle.commit_log.specs.Texts.{OpensTexts}

-- an open gate, and nothing behind it
abbrev pub ajar : List ℕ
ajar = header ++ 1 ∷ []

pub may_be_left : (n : ℕ) → IsTorn (header ++ 0 ∷ []) ((9, n) ∷ (8, 1) ∷ []) ajar
may_be_left n = record {
  no_shorter = omega arith;
  outside = λ i lt out. elim out.1.0 [
    | inl before ↦ get_or_append_left header (1 ∷ []) 0 i before ∙ sym (get_or_append_left header (0 ∷ []) 0 i before)
    | inr after ↦ absurd (omega (arith, lt, after))
  ];
}

pub opens_not : (texts : List (List ℕ)) → OpensTexts ajar texts → ⊥
opens_not texts o = none o.entries o.rest (append_cancel_left header _ _ (o.whole ∙ append_assoc header (flat_map spelled o.entries) (0 ∷ o.rest)))
  where
    none : (es : List Entry) (r : List ℕ) → 1 ∷ [] ≡ flat_map spelled es ++ 0 ∷ r → ⊥
    none [] r e = let no : 1 ≡ 0 = ap (λ (l : List ℕ). get_or l 0 0) e in omega (arith, no)
    none (x ∷ es) r e =
        let size : length (spelled x ++ flat_map spelled es ++ 0 ∷ r) ≡ 1 = sym (ap length e) in
        let parts = length-append (spelled x ++ flat_map spelled es) (0 ∷ r) in
        omega (arith, size, parts)

pub one_write : (n : ℕ) → IsTorn (header ++ 0 ∷ []) ((8, n + 1) ∷ []) ajar
one_write n = record {
  no_shorter = omega arith;
  outside = λ i lt out. elim out.0 [
    | inl before ↦ get_or_append_left header (1 ∷ []) 0 i before ∙ sym (get_or_append_left header (0 ∷ []) 0 i before)
    | inr after ↦ absurd (omega (arith, lt, after))
  ];
}

-- what was there may still be there
pub not_yet : (kept : List ℕ) (torn : List (ℕ × ℕ)) → IsTorn kept torn kept
not_yet kept torn = same_torn kept torn kept refl

pub nothing_opens_not : (texts : List (List ℕ)) → OpensTexts [] texts → ⊥
nothing_opens_not texts o = let no : 83 ∷ 71 ∷ 76 ∷ 79 ∷ 71 ∷ 32 ∷ 49 ∷ 10 ∷ (flat_map spelled o.entries ++ 0 ∷ o.rest) ≡ [] = sym o.whole in cc
