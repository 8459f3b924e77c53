-- Pages of which one or two made place for a pair.
use Rattle.std.proofs.Common.{◌≡◌, ◌∙◌, ℕ, zero, suc, ◌+◌, ◌<◌, ◌≤◌, List, [], ◌∷◌, ◌++◌, length, get_or, take, drop, refl, sym, subst, ap, arith, append-nil, length-append, length-take-le, length-drop, take-append-drop, drop-cons, inl, inr}
use Rattle.std.proofs.Math.Seq.{take-append-add, drop-append-add}
use Rattle.std.specs.declared.cmp.Ordering.{Ordering}
use Rattle.std.specs.Cmp.{IsTotalOrder}
use Rattle.std.specs.Prelude.{◌⊎◌, Option, None, Some}
use Rattle.collections.specs.Ordered.{AllAbove, IsAscending}
use Rattle.page_tree.specs.Blocks.{Block, IsBelow, AreBelow, AreSound, AreRoomy, AllUnder, IsPlace, IsSide, keys_of, height_of, width_at, pair_blocks, least, most}
use Rattle.page_tree.proofs.Keys.{above-append, above-right, under-left, under-right, ascending-left, ascending-right, under-append}
use Rattle.page_tree.proofs.Sides.{keys-append, below-append, below-left, below-right, sound-own}
use Rattle.page_tree.proofs.Places.{above_all, under_all, first-append, below-at}

-- what is known after a swap: the i-th page has room and one to spare, and x belongs there
pub record IsSwapped {K : Type 0} (R : K → K → Ordering) (x : K) (h : ℕ) (old new : List (Block K)) (i : ℕ) : Type 0 where
  pub keys : keys_of new ≡ keys_of old
  pub sound : AreSound R h new
  pub place : IsPlace R x new i
  pub room : width_at new i < most
  pub spare : least < width_at new i

module _ {K : Type 0} where
  pub width-append : (fs ls : List (Block K)) (i : ℕ) → width_at (fs ++ ls) (length fs + i) ≡ width_at ls i
  width-append [] ls i = ap (width_at ls) (let e : 0 + i ≡ i = omega arith in e)
  width-append (f ∷ fs) ls i = ap (width_at (f ∷ (fs ++ ls))) (let e : length (f ∷ fs) + i ≡ suc (length fs + i) = omega arith in e) ∙ width-append fs ls i

  pub width-get : (bs : List (Block K)) (i : ℕ) (d : Block K) → i < length bs → width_at bs i ≡ (get_or bs i d).page.width
  width-get [] i d lt = absurd (omega arith)
  width-get (b ∷ bs) zero d lt = refl
  width-get (b ∷ bs) (suc i) d lt = width-get bs i d (omega arith)

  swapped-keys : (fs ms ps ls : List (Block K)) → keys_of ps ≡ keys_of ms → keys_of (fs ++ (ps ++ ls)) ≡ keys_of (fs ++ (ms ++ ls))
  swapped-keys fs ms ps ls e = let a = keys-append fs (ps ++ ls) in let b = keys-append fs (ms ++ ls) in let c = keys-append ps ls in let d = keys-append ms ls in cc (a, b, c, d, e)

  swapped-below : (h : ℕ) (fs ms ps ls : List (Block K)) → AreBelow h ps → AreBelow h (fs ++ (ms ++ ls)) → AreBelow h (fs ++ (ps ++ ls))
  swapped-below h fs ms ps ls p b = below-append h fs (ps ++ ls) (below-left h fs (ms ++ ls) b) (below-append h ps ls p (below-right h ms ls (below-right h fs (ms ++ ls) b)))

  side-roomy : (R : K → K → Ordering) (x : K) (q : Block K × Option (Block K)) (ls : List (Block K)) (i : ℕ) → IsSide R x (pair_blocks q) i → AreRoomy (pair_blocks q) → (least < width_at (pair_blocks q ++ ls) i) × (width_at (pair_blocks q ++ ls) i < most)
  side-roomy R x (a, None) ls i s r = subst (λ (j : ℕ). (least < width_at (a ∷ ls) j) × (width_at (a ∷ ls) j < most)) (sym s) r.0
  side-roomy R x (a, Some b) ls i s r = elim s [
    | inl t ↦ subst (λ (j : ℕ). (least < width_at (a ∷ b ∷ ls) j) × (width_at (a ∷ b ∷ ls) j < most)) (sym t.0) r.0
    | inr t ↦ subst (λ (j : ℕ). (least < width_at (a ∷ b ∷ ls) j) × (width_at (a ∷ b ∷ ls) j < most)) (sym t.0) r.1.0
  ]

  pub pair-length : (q : Block K × Option (Block K)) → (1 ≤ length (pair_blocks q)) × (length (pair_blocks q) ≤ 2)
  pair-length (a, None) = (omega arith, omega arith)
  pair-length (a, Some b) = (omega arith, omega arith)

  pub two-length : (bs : List (Block K)) (f : ℕ) (q : Block K × Option (Block K)) (new : List (Block K)) → f + 1 < length bs → new ≡ take f bs ++ (pair_blocks q ++ drop (f + 2) bs) → (length bs ≤ length new + 1) × (length new ≤ length bs)
  two-length bs f q new lt n =
      let e = ap length n in
      let a = length-append (take f bs) (pair_blocks q ++ drop (f + 2) bs) in
      let b = length-append (pair_blocks q) (drop (f + 2) bs) in
      let c = length-take-le f bs (omega arith) in
      let d = length-drop (f + 2) bs in
      let p = pair-length q in
      (omega arith, omega arith)

  pub one-length : (bs : List (Block K)) (f : ℕ) (q : Block K × Option (Block K)) (new : List (Block K)) → f < length bs → new ≡ take f bs ++ (pair_blocks q ++ drop (f + 1) bs) → (length bs ≤ length new) × (length new ≤ length bs + 1)
  one-length bs f q new lt n =
      let e = ap length n in
      let a = length-append (take f bs) (pair_blocks q ++ drop (f + 1) bs) in
      let b = length-append (pair_blocks q) (drop (f + 1) bs) in
      let c = length-take-le f bs (omega arith) in
      let d = length-drop (f + 1) bs in
      let p = pair-length q in
      (omega arith, omega arith)

  side-within : (R : K → K → Ordering) (x : K) (q : Block K × Option (Block K)) (ls : List (Block K)) (i : ℕ) → IsSide R x (pair_blocks q) i → i < length (pair_blocks q ++ ls)
  side-within R x (a, None) ls i s = omega arith
  side-within R x (a, Some b) ls i s = elim s [ inl t ↦ let e = t.0 in omega arith | inr t ↦ let e = t.0 in omega arith ]

module _ {K : Type 0} (R : K → K → Ordering) (o : IsTotalOrder R) (x : K) (h : ℕ) where
  side-before : (q : Block K × Option (Block K)) (ls : List (Block K)) (i : ℕ) → AreBelow h (pair_blocks q) → IsAscending R (keys_of (pair_blocks q)) → IsSide R x (pair_blocks q) i → AllUnder R x (keys_of (take i (pair_blocks q ++ ls)))
  side-before (a, None) ls i b s e = subst (λ (j : ℕ). AllUnder R x (keys_of (take j (a ∷ ls)))) (sym e) tt
  side-before (a, Some c) ls i b s e = elim e [
    | inl t ↦ subst (λ (j : ℕ). AllUnder R x (keys_of (take j (a ∷ c ∷ ls)))) (sym t.0) tt
    | inr t ↦ subst (λ (j : ℕ). AllUnder R x (keys_of (take j (a ∷ c ∷ ls)))) (sym t.0) (subst (λ (ks : List K). AllUnder R x ks) (sym (append-nil a.page.keys)) (under_all R o x c.low a.page.keys (c.page.keys ++ []) (first-append c.page.keys [] c.low b.1.0.first) s t.1))
  ]

  side-after : (q : Block K × Option (Block K)) (ls : List (Block K)) (i : ℕ) → AreBelow h (pair_blocks q) → IsAscending R (keys_of (pair_blocks q)) → AllAbove R x (keys_of ls) → IsSide R x (pair_blocks q) i → AllAbove R x (keys_of (drop (i + 1) (pair_blocks q ++ ls)))
  side-after (a, None) ls i b s f e = subst (λ (j : ℕ). AllAbove R x (keys_of (drop (j + 1) (a ∷ ls)))) (sym e) f
  side-after (a, Some c) ls i b s f e = elim e [
    | inl t ↦ subst (λ (j : ℕ). AllAbove R x (keys_of (drop (j + 1) (a ∷ c ∷ ls)))) (sym t.0) (above-append R x c.page.keys (keys_of ls) (above_all R o x c.low c.page.keys b.1.0.first (ascending-left R c.page.keys [] (ascending-right R a.page.keys (c.page.keys ++ []) s)) t.1) f)
    | inr t ↦ subst (λ (j : ℕ). AllAbove R x (keys_of (drop (j + 1) (a ∷ c ∷ ls)))) (sym t.0) f
  ]

  pub swapped : (fs ms ls : List (Block K)) (q : Block K × Option (Block K)) (i : ℕ) →
      AreSound R h (fs ++ (ms ++ ls)) → keys_of (pair_blocks q) ≡ keys_of ms → AreBelow h (pair_blocks q) → AreRoomy (pair_blocks q) →
      AllUnder R x (keys_of fs) → AllAbove R x (keys_of ls) → IsSide R x (pair_blocks q) i →
      IsSwapped R x h (fs ++ (ms ++ ls)) (fs ++ (pair_blocks q ++ ls)) (length fs + i)
  swapped fs ms ls q i s e b r u a d =
      let ps : List (Block K) = pair_blocks q in
      let keys = swapped-keys fs ms ps ls e in
      let rises : IsAscending R (keys_of fs ++ (keys_of ps ++ keys_of ls)) = subst (λ (ks : List K). IsAscending R ks) (sym keys ∙ keys-append fs (ps ++ ls) ∙ ap (λ (ks : List K). keys_of fs ++ ks) (keys-append ps ls)) s.ascending in
      let own = ascending-left R (keys_of ps) (keys_of ls) (ascending-right R (keys_of fs) (keys_of ps ++ keys_of ls) rises) in
      let before = side-before q ls i b own d in
      let after = side-after q ls i b own a d in
      let wide = side-roomy R x q ls i d r in
      let w = width-append fs (ps ++ ls) i in
      record {
        keys = keys;
        sound = record { ascending = subst (λ (ks : List K). IsAscending R ks) (sym keys) s.ascending; below = swapped-below h fs ms ps ls b s.below };
        place = record {
          within = let n = side-within R x q ls i d in omega (arith, length-append fs (ps ++ ls));
          before = subst (λ (bs : List (Block K)). AllUnder R x (keys_of bs)) (sym (take-append-add fs (ps ++ ls) i)) (subst (λ (ks : List K). AllUnder R x ks) (sym (keys-append fs (take i (ps ++ ls)))) (under-append R x (keys_of fs) (keys_of (take i (ps ++ ls))) u before));
          after = subst (λ (j : ℕ). AllAbove R x (keys_of (drop j (fs ++ (ps ++ ls))))) (let m : length fs + (i + 1) ≡ length fs + i + 1 = omega arith in m) (subst (λ (bs : List (Block K)). AllAbove R x (keys_of bs)) (sym (drop-append-add fs (ps ++ ls) (i + 1))) after);
        };
        room = subst (λ (n : ℕ). n < most) (sym w) wide.1;
        spare = subst (λ (n : ℕ). least < n) (sym w) wide.0;
      }

  under-take : (bs : List (Block K)) (i j : ℕ) → i ≤ j → AllUnder R x (keys_of (take j bs)) → AllUnder R x (keys_of (take i bs))
  under-take bs zero j le u = tt
  under-take [] (suc i) j le u = tt
  under-take (b ∷ bs) (suc i) zero le u = absurd (omega arith)
  under-take (b ∷ bs) (suc i) (suc j) le u = under-append R x b.page.keys (keys_of (take i bs)) (under-left R x b.page.keys (keys_of (take j bs)) u) (under-take bs i j (omega arith) (under-right R x b.page.keys (keys_of (take j bs)) u))

  above-drop : (bs : List (Block K)) (i j : ℕ) → i ≤ j → AllAbove R x (keys_of (drop i bs)) → AllAbove R x (keys_of (drop j bs))
  above-drop [] zero zero le a = tt
  above-drop [] zero (suc j) le a = tt
  above-drop [] (suc i) zero le a = tt
  above-drop [] (suc i) (suc j) le a = tt
  above-drop (b ∷ bs) zero zero le a = a
  above-drop (b ∷ bs) zero (suc j) le a = above-drop bs zero j (omega arith) (above-right R x b.page.keys (keys_of bs) a)
  above-drop (b ∷ bs) (suc i) zero le a = absurd (omega arith)
  above-drop (b ∷ bs) (suc i) (suc j) le a = above-drop bs i j (omega arith) a

  split-one : (bs : List (Block K)) (i : ℕ) (e : Block K) → i < length bs → e ≡ get_or bs i e → bs ≡ take i bs ++ ((e ∷ []) ++ drop (i + 1) bs)
  split-one bs i e lt is = sym (take-append-drop i bs) ∙ ap (λ (cs : List (Block K)). take i bs ++ cs) (drop-cons bs i e lt ∙ ap (λ (b : Block K). b ∷ drop (suc i) bs) (sym is)) ∙ ap (λ (j : ℕ). take i bs ++ ((e ∷ []) ++ drop j bs)) (let m : suc i ≡ i + 1 = omega arith in m)

  split-two : (bs : List (Block K)) (i : ℕ) (e f : Block K) → i + 1 < length bs → e ≡ get_or bs i e → f ≡ get_or bs (i + 1) f → bs ≡ take i bs ++ ((e ∷ f ∷ []) ++ drop (i + 2) bs)
  split-two bs i e f lt is if' =
      let j : i + 1 < length bs = lt in
      split-one bs i e (omega arith) is ∙ ap (λ (cs : List (Block K)). take i bs ++ (e ∷ cs)) (drop-cons bs (i + 1) f j ∙ ap (λ (b : Block K). b ∷ drop (suc (i + 1)) bs) (sym if')) ∙ ap (λ (k : ℕ). take i bs ++ ((e ∷ f ∷ []) ++ drop k bs)) (let m : suc (i + 1) ≡ i + 2 = omega arith in m)

  module _ (bs : List (Block K)) (s : AreSound R h bs) (q : Block K × Option (Block K)) (r : AreRoomy (pair_blocks q)) (i : ℕ) (d : IsSide R x (pair_blocks q) i) (new : List (Block K)) where
    pub one_swapped : (at : ℕ) (e : Block K) → IsPlace R x bs at → e ≡ get_or bs at e → keys_of (pair_blocks q) ≡ e.page.keys → AreBelow (e.page.height + 1) (pair_blocks q) → new ≡ take at bs ++ (pair_blocks q ++ drop (at + 1) bs) → IsSwapped R x h bs new (at + i)
    one_swapped at e p is k b n =
        let parts = split-one bs at e p.within is in
        let level : e.page.height + 1 ≡ h = ap (λ (c : Block K). c.page.height + 1) is ∙ (below-at h bs at e s.below p.within).level in
        let same = swapped (take at bs) (e ∷ []) (drop (at + 1) bs) q i (subst (λ (cs : List (Block K)). AreSound R h cs) parts s) (k ∙ sym (append-nil e.page.keys)) (subst (λ (m : ℕ). AreBelow m (pair_blocks q)) level b) r p.before p.after d in
        let len : length (take at bs) + i ≡ at + i = ap (λ (m : ℕ). m + i) (length-take-le at bs (let l = p.within in omega arith)) in
        subst (λ (m : ℕ). IsSwapped R x h bs new m) len (subst (λ (cs : List (Block K)). IsSwapped R x h bs cs (length (take at bs) + i)) (sym n) (subst (λ (cs : List (Block K)). IsSwapped R x h cs (take at bs ++ (pair_blocks q ++ drop (at + 1) bs)) (length (take at bs) + i)) (sym parts) same))

    pub two_swapped : (at f : ℕ) (a c : Block K) → IsPlace R x bs at → (at ≡ f) ⊎ (at ≡ f + 1) → f + 1 < length bs → a ≡ get_or bs f a → c ≡ get_or bs (f + 1) c → keys_of (pair_blocks q) ≡ a.page.keys ++ c.page.keys → AreBelow (a.page.height + 1) (pair_blocks q) → new ≡ take f bs ++ (pair_blocks q ++ drop (f + 2) bs) → IsSwapped R x h bs new (f + i)
    two_swapped at f a c p near lt is is' k b n =
        let lo : f ≤ at = elim near [ inl e ↦ omega arith | inr e ↦ omega arith ] in
        let hi : at ≤ f + 1 = elim near [ inl e ↦ omega arith | inr e ↦ omega arith ] in
        let parts = split-two bs f a c lt is is' in
        let level : a.page.height + 1 ≡ h = ap (λ (e : Block K). e.page.height + 1) is ∙ (below-at h bs f a s.below (omega arith)).level in
        let same = swapped (take f bs) (a ∷ c ∷ []) (drop (f + 2) bs) q i (subst (λ (cs : List (Block K)). AreSound R h cs) parts s) (k ∙ ap (λ (ks : List K). a.page.keys ++ ks) (sym (append-nil c.page.keys))) (subst (λ (m : ℕ). AreBelow m (pair_blocks q)) level b) r (under-take bs f at lo p.before) (above-drop bs (at + 1) (f + 2) (omega arith) p.after) d in
        let len : length (take f bs) + i ≡ f + i = ap (λ (m : ℕ). m + i) (length-take-le f bs (omega arith)) in
        subst (λ (m : ℕ). IsSwapped R x h bs new m) len (subst (λ (cs : List (Block K)). IsSwapped R x h bs cs (length (take f bs) + i)) (sym n) (subst (λ (cs : List (Block K)). IsSwapped R x h cs (take f bs ++ (pair_blocks q ++ drop (f + 2) bs)) (length (take f bs) + i)) (sym parts) same))

  -- two pages side by side, one of them of the fewest, may be merged
  pub neighbours : (bs : List (Block K)) (at f : ℕ) (a c : Block K) → AreSound R h bs → f + 1 < length bs → (at ≡ f) ⊎ (at ≡ f + 1) → a ≡ get_or bs f a → c ≡ get_or bs (f + 1) c → width_at bs at ≤ least →
      IsAscending R (a.page.keys ++ c.page.keys) × (a.page.height ≡ c.page.height) × (least + least ≤ a.page.width + c.page.width) × (a.page.width + c.page.width ≤ most + least)
  neighbours bs at f a c s lt near is is' w =
      let parts = split-two bs f a c lt is is' in
      let ls = drop (f + 2) bs in
      let rises : IsAscending R (keys_of (take f bs) ++ ((a.page.keys ++ (c.page.keys ++ [])) ++ keys_of ls)) = subst (λ (ks : List K). IsAscending R ks) (ap keys_of parts ∙ keys-append (take f bs) ((a ∷ c ∷ []) ++ ls) ∙ ap (λ (ks : List K). keys_of (take f bs) ++ ks) (keys-append (a ∷ c ∷ []) ls)) s.ascending in
      let own = ascending-left R (a.page.keys ++ (c.page.keys ++ [])) (keys_of ls) (ascending-right R (keys_of (take f bs)) ((a.page.keys ++ (c.page.keys ++ [])) ++ keys_of ls) rises) in
      let p = subst (λ (e : Block K). IsBelow h e) (sym is) (below-at h bs f a s.below (omega arith)) in
      let q = subst (λ (e : Block K). IsBelow h e) (sym is') (below-at h bs (f + 1) c s.below lt) in
      let wa : width_at bs f ≡ a.page.width = width-get bs f a (omega arith) ∙ ap (λ (e : Block K). e.page.width) (sym is) in
      let wc : width_at bs (f + 1) ≡ c.page.width = width-get bs (f + 1) c lt ∙ ap (λ (e : Block K). e.page.width) (sym is') in
      let p1 = p.level in let p2 = p.narrow in let p3 = p.wide in
      let q1 = q.level in let q2 = q.narrow in let q3 = q.wide in
      let few : (a.page.width ≤ least) ⊎ (c.page.width ≤ least) = elim near [
        | inl e ↦ inl (subst (λ (n : ℕ). n ≤ least) (ap (width_at bs) e ∙ wa) w)
        | inr e ↦ inr (subst (λ (n : ℕ). n ≤ least) (ap (width_at bs) e ∙ wc) w)
      ] in
      (subst (λ (ks : List K). IsAscending R (a.page.keys ++ ks)) (append-nil c.page.keys) own, omega arith, omega arith, elim few [ inl l ↦ omega arith | inr l ↦ omega arith ])

pub pair-sound : {K : Type 0} (R : K → K → Ordering) (h : ℕ) (q : Block K × Option (Block K)) (all : List (Block K)) → all ≡ pair_blocks q → AreSound R h (pair_blocks q) → (length all ≤ most) × (0 < length all) × AreSound R (height_of all) all
pair-sound {K} R h q all is s =
    let n = ap length is in let l = pair-length q in
    (omega arith, omega arith, sound-own R h all (subst (λ (bs : List (Block K)). AreSound R h bs) (sym is) s))
