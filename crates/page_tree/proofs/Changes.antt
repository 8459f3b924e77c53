-- Pages below one of which a key was put in or taken out.
use Rattle.std.proofs.Common.{◌≡◌, ◌∙◌, ℕ, zero, suc, ◌+◌, ◌<◌, ◌≤◌, List, [], ◌∷◌, ◌++◌, length, get_or, take, drop, refl, sym, subst, ap, arith}
use Rattle.std.proofs.Math.ListN.{set}
use Rattle.std.specs.Prelude.{Option, None, Some}
use Rattle.std.specs.declared.cmp.Ordering.{Ordering}
use Rattle.std.specs.declared.cmp.Ordering.TheVariants.{Less, Equal, Greater}
use Rattle.std.specs.Ordering.{match_ordering}
use Rattle.std.specs.Cmp.{IsTotalOrder}
use Rattle.collections.specs.Ordered.{IsAscending, with_item, without_item, has_item}
use Rattle.collections.proofs.Ascending.{IsAscending-with_item, IsAscending-without_item}
use Rattle.page_tree.specs.Blocks.{Image, Block, IsBelow, AreBelow, AreSound, IsPlace, IsLowFor, IsLowWithout, keys_of, first_of, second_of, with_low, most, least}
use Rattle.page_tree.proofs.Keys.{with-under, with-above, without-under, without-above, has-under, has-above}
use Rattle.page_tree.proofs.Sides.{keys-append}
use Rattle.page_tree.proofs.Places.{below-at}
use Rattle.page_tree.proofs.Edits.{set_split}

module _ {K : Type 0} where
  below-set : (h : ℕ) (bs : List (Block K)) (i : ℕ) (e : Block K) → IsBelow h e → AreBelow h bs → AreBelow h (set bs i e)
  below-set h [] i e p b = tt
  below-set h (c ∷ bs) zero e p b = (p, b.1)
  below-set h (c ∷ bs) (suc i) e p b = (b.0, below-set h bs i e p b.1)

  keys-set : (bs : List (Block K)) (i : ℕ) (e : Block K) → i < length bs → keys_of (set bs i e) ≡ keys_of (take i bs) ++ (e.page.keys ++ keys_of (drop (i + 1) bs))
  keys-set bs i e lt = ap keys_of (set_split bs i e lt) ∙ keys-append (take i bs) (e ∷ drop (suc i) bs) ∙ ap (λ (j : ℕ). keys_of (take i bs) ++ (e.page.keys ++ keys_of (drop j bs))) (let m : suc i ≡ i + 1 = omega arith in m)

  set-same : (bs : List (Block K)) (i : ℕ) (e : Block K) → i < length bs → e ≡ get_or bs i e → set bs i e ≡ bs
  set-same [] i e lt is = absurd (omega arith)
  set-same (b ∷ bs) zero e lt is = ap (λ (c : Block K). c ∷ bs) is
  set-same (b ∷ bs) (suc i) e lt is = ap (λ (cs : List (Block K)). b ∷ cs) (set-same bs i e (omega arith) is)

  with-low-page : (b : Block K) (q : Option K) → (with_low b q).page ≡ b.page
  with-low-page b None = refl
  with-low-page b (Some k) = refl

module _ {K : Type 0} (R : K → K → Ordering) where
  first-with : (x l : K) (q : Option K) (p : Image K) (ks : List K) → first_of ks ≡ Some l → IsLowFor R x l q → p.keys ≡ with_item R x ks → first_of p.keys ≡ Some (with_low (record { low = l; page = p }) q).low
  first-with x l q p [] e n is = cc
  first-with x l None p (k ∷ ks) e n is = let same : k ≡ l = cc in ap first_of is ∙ elim (R x k) as (λ c. R x k ≡ c → first_of (match_ordering c (x ∷ k ∷ ks) (k ∷ ks) (k ∷ with_item R x ks)) ≡ Some l) [
    | Less ↦ λ h. absurd (n (subst (λ (w : K). R x w ≡ Less) same h))
    | Equal ↦ λ h. ap Some same
    | Greater ↦ λ h. ap Some same
  ] refl
  first-with x l (Some m) p (k ∷ ks) e n is = let same : l ≡ k = cc in let h : R x k ≡ Less = subst (λ (w : K). R x w ≡ Less) same n.1 in ap first_of is ∙ ap (λ c. first_of (match_ordering c (x ∷ k ∷ ks) (k ∷ ks) (k ∷ with_item R x ks))) h ∙ ap Some (sym n.0)

  first-without : (x l : K) (q : Option K) (p b : Image K) (ks : List K) → first_of ks ≡ Some l → IsLowWithout R x (record { low = l; page = b }) q → b.keys ≡ ks → p.keys ≡ without_item R x ks → first_of p.keys ≡ Some (with_low (record { low = l; page = p }) q).low
  first-without x l q p b [] e n t is = cc
  first-without x l None p b (k ∷ ks) e n t is = let same : k ≡ l = cc in ap first_of is ∙ elim (R x k) as (λ c. R x k ≡ c → first_of (match_ordering c (k ∷ ks) ks (k ∷ without_item R x ks)) ≡ Some l) [
    | Less ↦ λ h. ap Some same
    | Equal ↦ λ h. absurd (n (subst (λ (w : K). R x w ≡ Equal) same h))
    | Greater ↦ λ h. ap Some same
  ] refl
  first-without x l (Some w) p b (k ∷ ks) e n t is = let same : l ≡ k = cc in let h : R x k ≡ Equal = subst (λ (v : K). R x v ≡ Equal) same n.0 in ap first_of is ∙ ap (λ c. first_of (match_ordering c (k ∷ ks) ks (k ∷ without_item R x ks))) h ∙ sym (ap second_of t) ∙ n.1

-- what is known after a change below the i-th page
pub record IsChanged {K : Type 0} (R : K → K → Ordering) (h : ℕ) (keys : List K) (new : List (Block K)) : Type 0 where
  pub keys_are : keys_of new ≡ keys
  pub sound : AreSound R h new

module _ {K : Type 0} (R : K → K → Ordering) (o : IsTotalOrder R) (x : K) (h : ℕ) (bs : List (Block K)) (s : AreSound R h bs) (i : ℕ) (place : IsPlace R x bs i) (e : Block K) (is : e ≡ get_or bs i e) where
  own : IsBelow h e
  own = subst (λ (b : Block K). IsBelow h b) (sym is) (below-at h bs i e s.below place.within)

  pub all-keys : keys_of bs ≡ keys_of (take i bs) ++ (e.page.keys ++ keys_of (drop (i + 1) bs))
  all-keys = ap keys_of (sym (set-same bs i e place.within is)) ∙ keys-set bs i e place.within

  pub kept : (p : Image K) → p.keys ≡ e.page.keys → p.height ≡ e.page.height → least ≤ p.width → p.width ≤ most → IsChanged R h (keys_of bs) (set bs i (record { low = e.low; page = p }))
  kept p k l lo hi =
      let b : Block K = record { low = e.low; page = p } in
      let keys : keys_of (set bs i b) ≡ keys_of bs = keys-set bs i b place.within ∙ ap (λ (ks : List K). keys_of (take i bs) ++ (ks ++ keys_of (drop (i + 1) bs))) k ∙ sym all-keys in
      record {
        keys_are = keys;
        sound = record {
          ascending = subst (λ (ks : List K). IsAscending R ks) (sym keys) s.ascending;
          below = below-set h bs i b (record { first = ap first_of k ∙ own.first; level = ap (λ (n : ℕ). n + 1) l ∙ own.level; narrow = lo; wide = hi }) s.below;
        };
      }

  changed : (b : Block K) (ks : List K) → IsAscending R ks → keys_of (take i bs) ++ (b.page.keys ++ keys_of (drop (i + 1) bs)) ≡ ks → IsBelow h b → IsChanged R h ks (set bs i b)
  changed b ks a k p =
      let keys : keys_of (set bs i b) ≡ ks = keys-set bs i b place.within ∙ k in
      record { keys_are = keys; sound = record { ascending = subst (λ (ls : List K). IsAscending R ls) (sym keys) a; below = below-set h bs i b p s.below } }

  pub added : (q : Option K) (p : Image K) → IsLowFor R x e.low q → p.keys ≡ with_item R x e.page.keys → p.height ≡ e.page.height → least ≤ p.width → p.width ≤ most → IsChanged R h (with_item R x (keys_of bs)) (set bs i (with_low (record { low = e.low; page = p }) q))
  added q p n k l lo hi =
      let b : Block K = with_low (record { low = e.low; page = p }) q in
      let page : b.page ≡ p = with-low-page (record { low = e.low; page = p }) q in
      let fs = keys_of (take i bs) in let ls = keys_of (drop (i + 1) bs) in
      let keys : with_item R x (keys_of bs) ≡ fs ++ (p.keys ++ ls) = ap (with_item R x) all-keys ∙ with-under R x fs (e.page.keys ++ ls) place.before ∙ ap (λ (ks : List K). fs ++ ks) (with-above R x e.page.keys ls place.after ∙ ap (λ (ks : List K). ks ++ ls) (sym k)) in
      changed b (with_item R x (keys_of bs)) (IsAscending-with_item o x (keys_of bs) s.ascending) (ap (λ (d : Image K). fs ++ (d.keys ++ ls)) page ∙ sym keys)
      (record { first = ap (λ (d : Image K). first_of d.keys) page ∙ first-with R x e.low q p e.page.keys own.first n k; level = ap (λ (d : Image K). d.height + 1) page ∙ ap (λ (m : ℕ). m + 1) l ∙ own.level; narrow = subst (λ (d : Image K). least ≤ d.width) (sym page) lo; wide = subst (λ (d : Image K). d.width ≤ most) (sym page) hi })

  pub removed : (q : Option K) (p : Image K) → IsLowWithout R x e q → p.keys ≡ without_item R x e.page.keys → p.height ≡ e.page.height → least ≤ p.width → p.width ≤ most → IsChanged R h (without_item R x (keys_of bs)) (set bs i (with_low (record { low = e.low; page = p }) q))
  removed q p n k l lo hi =
      let b : Block K = with_low (record { low = e.low; page = p }) q in
      let page : b.page ≡ p = with-low-page (record { low = e.low; page = p }) q in
      let fs = keys_of (take i bs) in let ls = keys_of (drop (i + 1) bs) in
      let keys : without_item R x (keys_of bs) ≡ fs ++ (p.keys ++ ls) = ap (without_item R x) all-keys ∙ without-under R x fs (e.page.keys ++ ls) place.before ∙ ap (λ (ks : List K). fs ++ ks) (without-above R x e.page.keys ls place.after ∙ ap (λ (ks : List K). ks ++ ls) (sym k)) in
      changed b (without_item R x (keys_of bs)) (IsAscending-without_item o x (keys_of bs) s.ascending) (ap (λ (d : Image K). fs ++ (d.keys ++ ls)) page ∙ sym keys)
      (record { first = ap (λ (d : Image K). first_of d.keys) page ∙ first-without R x e.low q p e.page e.page.keys own.first n refl k; level = ap (λ (d : Image K). d.height + 1) page ∙ ap (λ (m : ℕ). m + 1) l ∙ own.level; narrow = subst (λ (d : Image K). least ≤ d.width) (sym page) lo; wide = subst (λ (d : Image K). d.width ≤ most) (sym page) hi })

  pub found : has_item R x (keys_of bs) ≡ has_item R x e.page.keys
  found = ap (has_item R x) all-keys ∙ has-under R o x (keys_of (take i bs)) (e.page.keys ++ keys_of (drop (i + 1) bs)) place.before ∙ has-above R o x e.page.keys (keys_of (drop (i + 1) bs)) place.after

  pub width-own : (least ≤ e.page.width) × (e.page.width ≤ most)
  width-own = (own.narrow, own.wide)
