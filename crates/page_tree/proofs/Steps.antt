-- A page over others of which one was changed, as its parent sees it.
use Rattle.std.proofs.Common.{◌≡◌, ◌∙◌, ℕ, zero, suc, ◌+◌, ◌<◌, ◌≤◌, Bool, List, [], ◌∷◌, length, get_or, refl, sym, subst, ap, arith}
use Rattle.std.proofs.Math.ListN.{set, length-set}
use Rattle.std.specs.Prelude.{Option, Result, Ok, Err, MatchResult, not}
use Rattle.std.specs.declared.cmp.Ordering.{Ordering}
use Rattle.std.specs.Cmp.{IsTotalOrder}
use Rattle.std.specs.declared.cmp.Ordering.TheVariants.{Less, Equal, Greater}
use Rattle.std.specs.Ordering.{match_ordering}
use Rattle.collections.specs.Ordered.{IsAscending, with_item, without_item, has_item}
use Rattle.collections.proofs.Ascending.{IsAscending-with_item, IsAscending-without_item}
use Rattle.page_tree.proofs.Places.{below-at}
use Rattle.page_tree.proofs.Swaps.{width-get}
use Rattle.page_tree.specs.Blocks.{Image, Block, AreSound, AreAs, IsAs, IsPlace, IsLowFor, IsLowWithout, keys_of, height_of, width_at, with_low, most, least}
use Rattle.page_tree.proofs.Sides.{height-is, sound-own}
use Rattle.page_tree.proofs.Opened.{IsOver, IsLeaf}
use Rattle.page_tree.proofs.Changes.{IsChanged, kept, added, removed, found, width-own}

pub record IsStep {K : Type 0} (R : K → K → Ordering) (self : Image K) (keys : List K) (fewer : ℕ) (new : List (Block K)) : Type 0 where
  pub page : (length new ≤ most) × (0 < length new) × AreSound R (height_of new) new
  pub image : IsAs keys fewer self (record { keys = keys_of new; height = height_of new; width = length new })

-- an entry whose page is as it was
pub entry-same : {K : Type 0} (e : Block K) (low : K) (p q : Image K) → p ≡ q → record { low = low; page = q } ≡ e → record { low = low; page = p } ≡ e
entry-same e low p q h v = ap (λ (d : Image _). record { low = low; page = d }) h ∙ v

set-own : {X : Type 0} (xs : List X) (i : ℕ) (a : X) → i < length xs → a ≡ get_or xs i a → set xs i a ≡ xs
set-own [] i a lt is = absurd (omega arith)
set-own (x ∷ xs) zero a lt is = ap (λ b. b ∷ xs) is
set-own (x ∷ xs) (suc i) a lt is = ap (λ (t : List _). x ∷ t) (set-own xs i a (omega arith) is)

module _ {K : Type 0} (R : K → K → Ordering) (o : IsTotalOrder R) (x : K) (self : Image K) (old : List (Block K)) (over : IsOver R self old) (fewer : ℕ) (enough : fewer < length old) (bs : List (Block K)) (stay : AreAs R fewer old bs) where
  made : (ks : List K) (new : List (Block K)) → length new ≡ length bs → IsChanged R (height_of old) ks new → IsStep R self ks fewer new
  made ks new len c =
      let m = stay.many in let f = stay.few in let w = over.width in
      let some : 0 < length new = omega arith in
      record {
        page = (omega arith, some, sound-own R (height_of old) new c.sound);
        image = record { keys_are = c.keys_are; height_is = height-is (height_of old) new c.sound.below some ∙ sym over.height; narrow = omega arith; wide = omega arith };
      }

  keys-same : keys_of bs ≡ self.keys
  keys-same = stay.keys ∙ sym over.keys

  -- nothing is changed below
  pub step-none : IsStep R self self.keys fewer bs
  step-none = made self.keys bs refl (record { keys_are = keys-same; sound = stay.sound })

  -- what is put back is what was there
  pub step-same : (i : ℕ) → i < length bs → (e b : Block K) → e ≡ get_or bs i e → b ≡ e → IsStep R self self.keys fewer (set bs i b)
  step-same i lt e b is t = subst (λ (ns : List (Block K)). IsStep R self self.keys fewer ns) (sym (ap (set bs i) t ∙ set-own bs i e lt is)) step-none

  module _ (i : ℕ) (place : IsPlace R x bs i) (e : Block K) (is : e ≡ get_or bs i e) (m : Image K) (was : m ≡ e.page) where
    finish : (ks : List K) (b : Block K) → IsChanged R (height_of old) ks (set bs i b) → IsStep R self ks fewer (set bs i b)
    finish ks b c = made ks (set bs i b) (length-set bs i b) c

    pub step-width : width_at bs i ≡ m.width
    step-width = width-get bs i e place.within ∙ ap (λ (b : Block K). b.page.width) (sym is) ∙ ap (λ (d : Image K). d.width) (sym was)

    -- the page below is not too narrow
    pub step-wide : least ≤ m.width
    step-wide = subst (λ (d : Image K). least ≤ d.width) (sym was) (width-own R o x (height_of old) bs stay.sound i place e is).0

    -- the page below is lower
    pub step-lower : m.height + 1 ≡ self.height
    step-lower = ap (λ (d : Image K). d.height + 1) was ∙ ap (λ (b : Block K). b.page.height + 1) is ∙ (below-at (height_of old) bs i e stay.sound.below place.within).level ∙ sym over.height

    pub step-found : has_item R x m.keys ≡ has_item R x self.keys
    step-found = ap (λ (d : Image K). has_item R x d.keys) was ∙ sym (found R o x (height_of old) bs stay.sound i place e is) ∙ ap (has_item R x) keys-same

    module _ (spare : least + fewer ≤ m.width) (low : K) (p n : Image K) (l : low ≡ e.low) (new : p ≡ n) where
      module _ (ks : List K) (c : IsAs ks fewer m n) where
        keys-are : p.keys ≡ ks
        keys-are = ap (λ (d : Image K). d.keys) new ∙ c.keys_are

        height-was : p.height ≡ e.page.height
        height-was = ap (λ (d : Image K). d.height) new ∙ c.height_is ∙ ap (λ (d : Image K). d.height) was

        narrow : least ≤ p.width
        narrow = subst (λ (d : Image K). least ≤ d.width) (sym new) (let w = c.narrow in omega arith)

        wide : p.width ≤ most
        wide = subst (λ (d : Image K). d.width ≤ most) (sym new) c.wide

      pub step-kept : IsAs m.keys fewer m n → IsStep R self self.keys fewer (set bs i (record { low = low; page = p }))
      step-kept c = subst (λ (a : K). IsStep R self self.keys fewer (set bs i (record { low = a; page = p }))) (sym l)
          (finish self.keys (record { low = e.low; page = p }) (subst (λ (ks : List K). IsChanged R (height_of old) ks (set bs i (record { low = e.low; page = p }))) keys-same
          (kept R o x (height_of old) bs stay.sound i place e is p (keys-are m.keys c ∙ ap (λ (d : Image K). d.keys) was) (height-was m.keys c) (narrow m.keys c) (wide m.keys c))))

      pub step-added : (q : Option K) (b : Block K) → b ≡ with_low (record { low = low; page = p }) q → IsLowFor R x e.low q → IsAs (with_item R x m.keys) fewer m n → IsStep R self (with_item R x self.keys) fewer (set bs i b)
      step-added q b t f c =
          let ls = with_item R x m.keys in
          subst (λ (c : Block K). IsStep R self (with_item R x self.keys) fewer (set bs i c)) (sym (t ∙ ap (λ (a : K). with_low (record { low = a; page = p }) q) l))
          (finish (with_item R x self.keys) (with_low (record { low = e.low; page = p }) q) (subst (λ (ks : List K). IsChanged R (height_of old) (with_item R x ks) (set bs i (with_low (record { low = e.low; page = p }) q))) keys-same
          (added R o x (height_of old) bs stay.sound i place e is q p f (keys-are ls c ∙ ap (λ (d : Image K). with_item R x d.keys) was) (height-was ls c) (narrow ls c) (wide ls c))))

      pub step-removed : (q : Option K) (b : Block K) → b ≡ with_low (record { low = low; page = p }) q → IsLowWithout R x e q → IsAs (without_item R x m.keys) fewer m n → IsStep R self (without_item R x self.keys) fewer (set bs i b)
      step-removed q b t f c =
          let ls = without_item R x m.keys in
          subst (λ (c : Block K). IsStep R self (without_item R x self.keys) fewer (set bs i c)) (sym (t ∙ ap (λ (a : K). with_low (record { low = a; page = p }) q) l))
          (finish (without_item R x self.keys) (with_low (record { low = e.low; page = p }) q) (subst (λ (ks : List K). IsChanged R (height_of old) (without_item R x ks) (set bs i (with_low (record { low = e.low; page = p }) q))) keys-same
          (removed R o x (height_of old) bs stay.sound i place e is q p f (keys-are ls c ∙ ap (λ (d : Image K). without_item R x d.keys) was) (height-was ls c) (narrow ls c) (wide ls c))))

length-with : {K : Type 0} (R : K → K → Ordering) (x : K) (ks : List K) → (length ks ≤ length (with_item R x ks)) × (length (with_item R x ks) ≤ length ks + 1)
length-with R x [] = (omega arith, omega arith)
length-with R x (k ∷ ks) = elim (R x k) as (λ c. (length (k ∷ ks) ≤ length (match_ordering c (x ∷ k ∷ ks) (k ∷ ks) (k ∷ with_item R x ks))) × (length (match_ordering c (x ∷ k ∷ ks) (k ∷ ks) (k ∷ with_item R x ks)) ≤ length (k ∷ ks) + 1)) [
  | Less ↦ (omega arith, omega arith)
  | Equal ↦ (omega arith, omega arith)
  | Greater ↦ let ih = length-with R x ks in (omega arith, omega arith)
]

length-without : {K : Type 0} (R : K → K → Ordering) (x : K) (ks : List K) → (length ks ≤ length (without_item R x ks) + 1) × (length (without_item R x ks) ≤ length ks)
length-without R x [] = (omega arith, omega arith)
length-without R x (k ∷ ks) = elim (R x k) as (λ c. (length (k ∷ ks) ≤ length (match_ordering c (k ∷ ks) ks (k ∷ without_item R x ks)) + 1) × (length (match_ordering c (k ∷ ks) ks (k ∷ without_item R x ks)) ≤ length (k ∷ ks))) [
  | Less ↦ (omega arith, omega arith)
  | Equal ↦ (omega arith, omega arith)
  | Greater ↦ let ih = length-without R x ks in (omega arith, omega arith)
]

-- a leaf after an insertion or a removal
pub record IsLeafStep {K : Type 0} (R : K → K → Ordering) (self : Image K) (keys : List K) (fewer : ℕ) (new : List K) : Type 0 where
  pub page : (length new ≤ most) × IsAscending R new
  pub image : IsAs keys fewer self (record { keys = new; height = 0; width = length new })

module _ {K : Type 0} (R : K → K → Ordering) (o : IsTotalOrder R) (x : K) (self : Image K) (ks : List K) (leaf : IsLeaf R self ks) (new : List K) where
  pub leaf-kept : new ≡ ks → IsLeafStep R self self.keys 0 new
  leaf-kept is =
      let n : length new ≡ length ks = ap length is in let w = leaf.width in let f = leaf.few in
      record { page = (omega arith, subst (λ (ls : List K). IsAscending R ls) (sym is) leaf.ascending); image = record { keys_are = is ∙ sym leaf.keys; height_is = sym leaf.height; narrow = omega arith; wide = omega arith } }

  pub leaf-added : self.width < most → new ≡ with_item R x ks → IsLeafStep R self (with_item R x self.keys) 0 new
  leaf-added lt is =
      let l = length-with R x ks in let n : length new ≡ length (with_item R x ks) = ap length is in let w = leaf.width in
      record { page = (omega arith, subst (λ (ls : List K). IsAscending R ls) (sym is) (IsAscending-with_item o x ks leaf.ascending)); image = record { keys_are = is ∙ ap (with_item R x) (sym leaf.keys); height_is = sym leaf.height; narrow = omega arith; wide = omega arith } }

  pub leaf-removed : new ≡ without_item R x ks → IsLeafStep R self (without_item R x self.keys) 1 new
  leaf-removed is =
      let l = length-without R x ks in let n : length new ≡ length (without_item R x ks) = ap length is in let w = leaf.width in let f = leaf.few in
      record { page = (omega arith, subst (λ (ls : List K). IsAscending R ls) (sym is) (IsAscending-without_item o x ks leaf.ascending)); image = record { keys_are = is ∙ ap (without_item R x) (sym leaf.keys); height_is = sym leaf.height; narrow = omega arith; wide = omega arith } }

  -- what an insertion into a leaf answers
  pub leaf-answer : {E : Type 0} (r : Result Bool E) → self.width < most → MatchResult r (λ added. (new ≡ with_item R x ks) × (added ≡ not (has_item R x ks))) (λ _. new ≡ ks) →
      ((length new ≤ most) × IsAscending R new) × MatchResult r (λ added. IsAs (with_item R x self.keys) 0 self (record { keys = new; height = 0; width = length new }) × (added ≡ not (has_item R x self.keys))) (λ _. IsAs self.keys 0 self (record { keys = new; height = 0; width = length new }))
  leaf-answer (Ok b) lt h = let s = leaf-added lt h.0 in (s.page, (s.image, h.1 ∙ ap (λ (ls : List K). not (has_item R x ls)) (sym leaf.keys)))
  leaf-answer (Err e) lt h = let s = leaf-kept h in (s.page, s.image)
