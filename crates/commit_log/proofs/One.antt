-- An image opens to one list of texts.
use Rattle.std.proofs.Common.{◌≡◌, ℕ, ◌<◌, ◌^◌, List, [], ◌∷◌, ◌++◌, length, map, take, drop, get_or, refl, sym, ◌∙◌, ap, append_assoc}
use Rattle.std.proofs.lemmas.List.{take_at, drop_at, append_cancel_left}
use Rattle.std.proofs.lemmas.Nat.{from_be_bytes-to_be_bytes_8}
use Rattle.std.specs.List.{AllByRecursion, flat_map}
use Rattle.std.specs.Int.{to_be_bytes, from_be_bytes, w64}
use Rattle.commit_log.specs.Format.{header, block, Entry, spelled, IsOpened}
use Rattle.commit_log.specs.Texts.{OpensTexts}

pub size_is : (n : ℕ) → length (to_be_bytes w64 n) ≡ 8
size_is n = refl

same_size : (n m : ℕ) (x y : List ℕ) → n < 2 ^ 64 → m < 2 ^ 64 → to_be_bytes w64 n ++ x ≡ to_be_bytes w64 m ++ y → n ≡ m
same_size n m x y ln lm e =
    let bytes : to_be_bytes w64 n ≡ to_be_bytes w64 m = sym (take_at (to_be_bytes w64 n) x 8 (size_is n)) ∙ ap (λ (l : List ℕ). take 8 l) e ∙ take_at (to_be_bytes w64 m) y 8 (size_is m) in
    sym (from_be_bytes-to_be_bytes_8 n ln) ∙ ap (λ (l : List ℕ). from_be_bytes w64 l) bytes ∙ from_be_bytes-to_be_bytes_8 m lm

-- blocks at the front of one list are one
pub same_text : (t u x y : List ℕ) → length t < 2 ^ 64 → length u < 2 ^ 64 → block t ++ x ≡ block u ++ y → t ≡ u
same_text t u x y lt lu e =
    let split : to_be_bytes w64 (length t) ++ (t ++ x) ≡ to_be_bytes w64 (length u) ++ (u ++ y) =
    sym (append_assoc (to_be_bytes w64 (length t)) t x) ∙ e ∙ append_assoc (to_be_bytes w64 (length u)) u y in
    let n = same_size (length t) (length u) (t ++ x) (u ++ y) lt lu split in
    let rest : t ++ x ≡ u ++ y = sym (drop_at (to_be_bytes w64 (length t)) (t ++ x) 8 (size_is (length t))) ∙ ap (λ (l : List ℕ). drop 8 l) split ∙ drop_at (to_be_bytes w64 (length u)) (u ++ y) 8 (size_is (length u)) in
    sym (take_at t x (length t) refl) ∙ ap (λ (l : List ℕ). take (length t) l) rest ∙ take_at u y (length t) (sym n)

same_entries : (es fs : List Entry) (r s : List ℕ) → AllByRecursion IsOpened es → AllByRecursion IsOpened fs → flat_map spelled es ++ 0 ∷ r ≡ flat_map spelled fs ++ 0 ∷ s → map (λ (e : Entry). e.1) es ≡ map (λ (e : Entry). e.1) fs
same_entries [] [] r s a b e = refl
same_entries [] (f ∷ fs) r s a b e = absurd (b.0.gate (sym (ap (λ (l : List ℕ). get_or l 0 0) e)))
same_entries (x ∷ es) [] r s a b e = absurd (a.0.gate (ap (λ (l : List ℕ). get_or l 0 0) e))
same_entries (x ∷ es) (f ∷ fs) r s a b e =
    let behind : block x.1 ++ (flat_map spelled es ++ 0 ∷ r) ≡ block f.1 ++ (flat_map spelled fs ++ 0 ∷ s) =
    sym (append_assoc (block x.1) (flat_map spelled es) (0 ∷ r)) ∙ ap (λ (l : List ℕ). drop 1 l) e ∙ append_assoc (block f.1) (flat_map spelled fs) (0 ∷ s) in
    let text : x.1 ≡ f.1 = same_text x.1 f.1 _ _ a.0.size b.0.size behind in
    let rest : flat_map spelled es ++ 0 ∷ r ≡ flat_map spelled fs ++ 0 ∷ s = append_cancel_left (block x.1) _ _ (behind ∙ ap (λ (t : List ℕ). block t ++ (flat_map spelled fs ++ 0 ∷ s)) (sym text)) in
    let others = same_entries es fs r s a.1 b.1 rest in
    λ i. text i ∷ others i

pub opens_one : (image : List ℕ) (ts us : List (List ℕ)) → OpensTexts image ts → OpensTexts image us → ts ≡ us
opens_one image ts us a b =
    let same : header ++ (flat_map spelled a.entries ++ 0 ∷ a.rest) ≡ header ++ (flat_map spelled b.entries ++ 0 ∷ b.rest) =
    sym (append_assoc header (flat_map spelled a.entries) (0 ∷ a.rest)) ∙ sym a.whole ∙ b.whole ∙ append_assoc header (flat_map spelled b.entries) (0 ∷ b.rest) in
    sym a.texts_are ∙ same_entries a.entries b.entries a.rest b.rest a.opened b.opened (append_cancel_left header _ _ same) ∙ b.texts_are
