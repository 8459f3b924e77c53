-- Pages that are built side by side.
use Rattle.std.proofs.Common.{◌≡◌, ◌∙◌, ℕ, ◌+◌, ◌<◌, ◌≤◌, List, [], ◌∷◌, ◌++◌, length, take, drop, sym, subst, ap, arith, append_assoc, append-nil, length-append, take-append-drop}
use Rattle.std.specs.declared.cmp.Ordering.{Ordering}
use Rattle.collections.specs.Ordered.{IsAscending}
use Rattle.page_tree.specs.Blocks.{Block, AreBelow, AreSound, keys_of, height_of}
use Rattle.page_index.specs.Levels.{AddsPages}
use Rattle.page_tree.proofs.Sides.{keys-append, below-append, below-take, below-drop, height-is, sound-own, sound-take, sound-drop, ascending-take, ascending-drop}

-- one page more
pub adds_one : {K : Type 0} (h n : ℕ) (ks : List K) (old new : List (Block K)) (e : Block K) → new ≡ old ++ e ∷ [] → e.page.keys ≡ ks → AreBelow h (e ∷ []) → 2 ≤ n → AddsPages h ks n old new
adds_one h n ks old new e is keys below le =
    let l : length new ≡ length old + 1 = ap length is ∙ length-append old (e ∷ []) in
    record {
      keys_are = ap keys_of is ∙ keys-append old (e ∷ []) ∙ ap (λ (ls : List _). keys_of old ++ ls) (append-nil e.page.keys ∙ keys);
      below = λ b. subst (λ (bs : List (Block _)). AreBelow h bs) (sym is) (below-append h old (e ∷ []) b below);
      some = omega arith;
      few = omega arith;
    }

-- those of the front, then those of the back
pub adds_both : {K : Type 0} (h n m l : ℕ) (fs ls ks : List K) (old mid new : List (Block K)) → AddsPages h fs n old mid → AddsPages h ls m mid new → fs ++ ls ≡ ks → n + m ≡ l → AddsPages h ks l old new
adds_both h n m l fs ls ks old mid new a b is sum =
    let p = a.some in let q = b.some in let r = a.few in let s = b.few in
    record {
      keys_are = b.keys_are ∙ ap (λ (ms : List _). ms ++ ls) a.keys_are ∙ append_assoc (keys_of old) fs ls ∙ ap (λ (ms : List _). keys_of old ++ ms) is;
      below = λ o. b.below (a.below o);
      some = omega arith;
      few = omega arith;
    }

-- the two halves of a list of keys
pub adds_leaves : {K : Type 0} (i : ℕ) (ks fs ls : List K) (old mid new : List (Block K)) → fs ≡ take i ks → ls ≡ drop i ks → AddsPages 1 fs (length fs) old mid → AddsPages 1 ls (length ls) mid new → AddsPages 1 ks (length ks) old new
adds_leaves i ks fs ls old mid new f l a b =
    let is : fs ++ ls ≡ ks = let e = take-append-drop i ks in cc (f, l, e) in
    adds_both 1 (length fs) (length ls) (length ks) fs ls ks old mid new a b is (sym (length-append fs ls) ∙ ap length is)

-- the two halves of a list of pages
pub adds_inner : {K : Type 0} (i : ℕ) (bs fs ls : List (Block K)) (old mid new : List (Block K)) → AreBelow (height_of bs) bs → 0 < length fs → 0 < length ls → fs ≡ take i bs → ls ≡ drop i bs →
    AddsPages (height_of fs + 1) (keys_of fs) (length fs) old mid → AddsPages (height_of ls + 1) (keys_of ls) (length ls) mid new → AddsPages (height_of bs + 1) (keys_of bs) (length bs) old new
adds_inner {K} i bs fs ls old mid new below some more f l a b =
    let is : fs ++ ls ≡ bs = let e = take-append-drop i bs in cc (f, l, e) in
    let front : height_of fs ≡ height_of bs = height-is (height_of bs) fs (subst (λ (cs : List (Block K)). AreBelow (height_of bs) cs) (sym f) (below-take (height_of bs) i bs below)) some in
    let back : height_of ls ≡ height_of bs = height-is (height_of bs) ls (subst (λ (cs : List (Block K)). AreBelow (height_of bs) cs) (sym l) (below-drop (height_of bs) i bs below)) more in
    adds_both (height_of bs + 1) (length fs) (length ls) (length bs) (keys_of fs) (keys_of ls) (keys_of bs) old mid new
    (subst (λ (n : ℕ). AddsPages (n + 1) (keys_of fs) (length fs) old mid) front a)
    (subst (λ (n : ℕ). AddsPages (n + 1) (keys_of ls) (length ls) mid new) back b)
    (sym (keys-append fs ls) ∙ ap keys_of is) (sym (length-append fs ls) ∙ ap length is)

module _ {K : Type 0} (R : K → K → Ordering) where
  -- the parts of a list of ascending keys, and of sound pages
  pub front_ascending : (i : ℕ) (ks fs : List K) → fs ≡ take i ks → IsAscending R ks → IsAscending R fs
  front_ascending i ks fs e s = subst (λ (ls : List K). IsAscending R ls) (sym e) (ascending-take R i ks s)

  pub back_ascending : (i : ℕ) (ks ls : List K) → ls ≡ drop i ks → IsAscending R ks → IsAscending R ls
  back_ascending i ks ls e s = subst (λ (ms : List K). IsAscending R ms) (sym e) (ascending-drop R i ks s)

  pub front_sound : (i : ℕ) (bs fs : List (Block K)) → fs ≡ take i bs → AreSound R (height_of bs) bs → AreSound R (height_of fs) fs
  front_sound i bs fs e s = subst (λ (cs : List (Block K)). AreSound R (height_of cs) cs) (sym e) (sound-take R (height_of bs) i bs s)

  pub back_sound : (i : ℕ) (bs ls : List (Block K)) → ls ≡ drop i bs → AreSound R (height_of bs) bs → AreSound R (height_of ls) ls
  back_sound i bs ls e s = subst (λ (cs : List (Block K)). AreSound R (height_of cs) cs) (sym e) (sound-drop R (height_of bs) i bs s)

  -- what was built of ascending keys is sound
  pub built_sound : (h n : ℕ) (ks : List K) (bs : List (Block K)) → AddsPages h ks n [] bs → IsAscending R ks → AreSound R (height_of bs) bs
  built_sound h n ks bs a s = sound-own R h bs (record {
    ascending = subst (λ (ls : List K). IsAscending R ls) (sym a.keys_are) s;
    below = a.below tt;
  })

-- and has at most half as many pages as parts, and some
pub built_less : {K : Type 0} (h : ℕ) (ks : List K) (n : ℕ) (bs : List (Block K)) → AddsPages h ks n [] bs → (0 < length bs) × (length bs < n)
built_less h ks n bs a = let s = a.some in let f = a.few in (omega arith, omega arith)

-- one level higher
pub record IsHigher {K : Type 0} (R : K → K → Ordering) (bs up all : List (Block K)) : Type 0 where
  pub sound : AreSound R (height_of up) up
  pub some : 0 < length up
  pub keys : keys_of up ≡ keys_of all
  pub less : length up < length bs

pub higher : {K : Type 0} (R : K → K → Ordering) (ds bs up all : List (Block K)) → ds ≡ bs → AddsPages (height_of ds + 1) (keys_of ds) (length ds) [] up → AreSound R (height_of bs) bs → keys_of bs ≡ keys_of all → IsHigher R bs up all
higher {K} R ds bs up all is a s k =
    let b : AddsPages (height_of bs + 1) (keys_of bs) (length bs) [] up = subst (λ (cs : List (Block K)). AddsPages (height_of cs + 1) (keys_of cs) (length cs) [] up) is a in
    let n = built_less (height_of bs + 1) (keys_of bs) (length bs) up b in
    record {
      sound = built_sound R (height_of bs + 1) (length bs) (keys_of bs) up b s.ascending;
      some = n.0;
      keys = b.keys_are ∙ k;
      less = n.1;
    }
