-- Items of chunks by their places, and one more. A full chunk has n items.
use Rattle.std.proofs.Common.{◌≡◌, ◌∙◌, ℕ, zero, suc, ◌+◌, ◌*◌, ◌<◌, ◌≤◌, List, [], ◌∷◌, ◌++◌, length, get_or, set, refl, sym, subst, ap, arith, length-append, append-nil, append_assoc}
use Rattle.std.specs.Prelude.{Option, None, Some, MatchOption, slice_get}
use Rattle.std.proofs.lemmas.Option.{same_Some, none-some, slice_get_within}
use Rattle.growing_list.specs.Chunks.{AreChunks, AreFull, HasOneMore, all_items}

module _ {X : Type 0} where
  within : (xs ys : List X) (i : ℕ) → i < length xs → slice_get (xs ++ ys) i ≡ slice_get xs i
  within [] ys i h = absurd (omega arith)
  within (x ∷ xs) ys zero h = refl
  within (x ∷ xs) ys (suc i) h = within xs ys i (omega arith)

  beyond : (xs ys : List X) (i : ℕ) → slice_get (xs ++ ys) (length xs + i) ≡ slice_get ys i
  beyond [] ys i = ap (slice_get ys) (let k : 0 + i ≡ i = omega arith in k)
  beyond (x ∷ xs) ys i = ap (slice_get (x ∷ xs ++ ys)) (let k : length (x ∷ xs) + i ≡ suc (length xs + i) = omega arith in k) ∙ beyond xs ys i

  -- the place of an item in the chunks after the first
  after_one : (n i j : ℕ) (b : List X) → length b ≡ n → suc i * n + j ≡ length b + (i * n + j)
  after_one n i j b w = omega arith

  -- a place past the chunks is past the items
  pub past_chunks : (n : ℕ) (cs : List (List X)) (i j : ℕ) → AreChunks n cs → length cs ≤ i → length (all_items cs) ≤ i * n + j
  past_chunks n [] i j a h = omega arith
  past_chunks n (c ∷ cs) zero j a h = absurd (omega arith)
  past_chunks n (c ∷ []) (suc i) j a h = let l = length-append c [] in let w = a.1 in let k : suc i * n + j ≡ n + (i * n + j) = omega arith in omega arith
  past_chunks n (c ∷ d ∷ cs) (suc i) j a h =
      let l = length-append c (all_items (d ∷ cs)) in
      let r = past_chunks n (d ∷ cs) i j a.1 (omega arith) in
      let k = after_one n i j c a.0 in omega arith

  pub item_at : (n : ℕ) (cs : List (List X)) (i j : ℕ) (c : List X) → AreChunks n cs → slice_get cs i ≡ Some c → j < length c → slice_get (all_items cs) (i * n + j) ≡ slice_get c j
  item_at n [] i j c a g h = absurd (none-some c g)
  item_at n (b ∷ bs) zero j c a g h =
      let e : b ≡ c = same_Some b c g in
      ap (slice_get (b ++ all_items bs)) (let k : 0 * n + j ≡ j = omega arith in k) ∙ within b (all_items bs) j (subst (λ (d : List X). j < length d) (sym e) h) ∙ ap (λ (d : List X). slice_get d j) e
  item_at n (b ∷ []) (suc i) j c a g h = absurd (none-some c g)
  item_at n (b ∷ d ∷ cs) (suc i) j c a g h =
      ap (slice_get (b ++ all_items (d ∷ cs))) (after_one n i j b a.0) ∙ beyond b (all_items (d ∷ cs)) (i * n + j) ∙ item_at n (d ∷ cs) i j c a.1 g h

  pub past_end : (n : ℕ) (cs : List (List X)) (i j : ℕ) (c : List X) → AreChunks n cs → slice_get cs i ≡ Some c → j < n → length c ≤ j → length (all_items cs) ≤ i * n + j
  past_end n [] i j c a g s h = absurd (none-some c g)
  past_end n (b ∷ []) zero j c a g s h = let l = length-append b [] in let e : length b ≡ length c = ap length (same_Some b c g) in omega arith
  past_end n (b ∷ []) (suc i) j c a g s h = absurd (none-some c g)
  past_end n (b ∷ d ∷ cs) zero j c a g s h = let e : length b ≡ length c = ap length (same_Some b c g) in let w = a.0 in absurd (omega arith)
  past_end n (b ∷ d ∷ cs) (suc i) j c a g s h =
      let l = length-append b (all_items (d ∷ cs)) in
      let r = past_end n (d ∷ cs) i j c a.1 g s h in
      let k = after_one n i j b a.0 in omega arith

  -- the place of the last chunk, which is full
  pub all_full : (n : ℕ) (cs : List (List X)) (i : ℕ) (c : List X) → AreChunks n cs → i + 1 ≡ length cs → Some c ≡ slice_get cs i → (length c < n → ⊥) → AreFull n cs
  all_full n [] i c a l g f = tt
  all_full n (b ∷ []) zero c a l g f = let e : length c ≡ length b = ap length (same_Some c b g) in let w = a.1 in (omega arith, tt)
  all_full n (b ∷ []) (suc i) c a l g f = absurd (omega arith)
  all_full n (b ∷ d ∷ cs) zero c a l g f = absurd (omega arith)
  all_full n (b ∷ d ∷ cs) (suc i) c a l g f = (a.0, all_full n (d ∷ cs) i c a.1 (omega arith) g f)

  before : (n : ℕ) (b : List X) (ds : List (List X)) (x : X) (old : List X) → length b ≡ n → AreChunks n ds → all_items ds ≡ old ++ x ∷ [] → AreChunks n (b ∷ ds)
  before n b [] x old w a e = absurd (let l = length-append old (x ∷ []) in let k = ap length e in omega arith)
  before n b (d ∷ ds) x old w a e = (w, a)

  more_before : (n : ℕ) (b : List X) (cs ds : List (List X)) (x : X) → length b ≡ n → HasOneMore n x cs ds → HasOneMore n x (b ∷ cs) (b ∷ ds)
  more_before n b cs ds x w h = record {
    chunks = before n b ds x (all_items cs) w h.chunks h.items;
    items = ap (λ (is : List X). b ++ is) h.items ∙ sym (append_assoc b (all_items cs) (x ∷ []));
  }

  -- one more in the last chunk
  pub in_last : (n : ℕ) (cs : List (List X)) (i : ℕ) (c d : List X) (x : X) → AreChunks n cs → i + 1 ≡ length cs → length (get_or cs i []) < n → c ≡ get_or cs i c → d ≡ c ++ x ∷ [] → HasOneMore n x cs (set cs i d)
  in_last n [] i c d x a l r e f = absurd (omega arith)
  in_last n (b ∷ []) zero c d x a l r e f =
      let m = length-append c (x ∷ []) in
      let k : length d ≡ length (c ++ x ∷ []) = ap length f in
      let o : length c ≡ length b = ap length e in
      record {
        chunks = (omega arith, omega arith);
        items = append-nil d ∙ f ∙ ap (λ (ys : List X). ys ++ x ∷ []) (e ∙ sym (append-nil b));
      }
  in_last n (b ∷ []) (suc i) c d x a l r e f = absurd (omega arith)
  in_last n (b ∷ h ∷ cs) zero c d x a l r e f = absurd (omega arith)
  in_last n (b ∷ h ∷ cs) (suc i) c d x a l r e f = more_before n b (h ∷ cs) (set (h ∷ cs) i d) x a.0 (in_last n (h ∷ cs) i c d x a.1 (omega arith) r e f)

  -- one more in a chunk of its own
  pub in_new : (n : ℕ) (cs : List (List X)) (x : X) → 0 < n → AreFull n cs → HasOneMore n x cs (cs ++ (x ∷ []) ∷ [])
  in_new n [] x p f = record { chunks = (omega arith, omega arith); items = refl }
  in_new n (c ∷ cs) x p f = more_before n c cs (cs ++ (x ∷ []) ∷ []) x f.0 (in_new n cs x p f.1)

pub either : {A : Type 0} {P R : Type 0} {Q S : A → Type 0} (o : Option A) → (P → R) → ((a : A) → Q a → S a) → MatchOption o P Q → MatchOption o R S
either None f g m = f m
either (Some a) f g m = g a m

-- what the chunks, as they are read, tell of a place in their items
module _ {X : Type 0} (n : ℕ) (cs read : List (List X)) (items : List X) (i j at : ℕ) (a : AreChunks n cs) (view : all_items cs ≡ items) (r : read ≡ cs) (place : i * n + j ≡ at) where
  pub none_at : length read ≤ i → length items ≤ at
  none_at h =
      let few : length cs ≤ i = subst (λ (ds : List (List X)). length ds ≤ i) r h in
      let e = past_chunks n cs i j a few in
      let l = ap length view in omega arith

  pub some_at : {A : Type 0} (o : Option A) (value : A → X) (c : List X) → j < n → slice_get read i ≡ Some c
      → MatchOption o (length c ≤ j) (λ v. slice_get c j ≡ Some (value v)) → MatchOption o (length items ≤ at) (λ v. slice_get items at ≡ Some (value v))
  some_at o value c s g =
      let found : slice_get cs i ≡ Some c = subst (λ (ds : List (List X)). slice_get ds i ≡ Some c) r g in
      either o
      (λ h. let e = past_end n cs i j c a found s h in let l = ap length view in omega arith)
      (λ v e. sym (ap (slice_get items) place) ∙ sym (ap (λ (is : List X). slice_get is (i * n + j)) view) ∙ item_at n cs i j c a found (slice_get_within c j (value v) e) ∙ e)
