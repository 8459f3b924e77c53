-- Keys stand as their terms do.
use Rattle.std.proofs.Common.{◌≡◌, ◌∙◌, ℕ, zero, suc, ◌+◌, ◌-◌, ◌*◌, ◌≤◌, ◌<◌, List, [], ◌∷◌, drop, get_or, length, refl, sym, subst, ap, arith, inl, inr}
use Rattle.std.proofs.Math.Seq.{drop-cons}
use Rattle.std.proofs.lemmas.Bool.{cases_eq, cases_lt}
use Rattle.std.specs.declared.cmp.Ordering.{Ordering}
use Rattle.std.specs.declared.cmp.Ordering.TheVariants.{Less, Equal, Greater}
use Rattle.std.specs.Ordering.{nat_cmp, ordering_then}
use Rattle.std.specs.Cmp.{nat_cmp_is}
use Rattle.rdf_model.specs.declared.term.Term.{Term}
use Rattle.rdf_model.specs.declared.term.Term.TheVariants.{Blank, Iri, Literal}
use Rattle.rdf_model.specs.Terms.{term_cmp, text_cmp}
use Rattle.triple_table.specs.Keys.{AreBytes, HasBytes, greatest, key_by, packed, term_key, text_key}

-- where two numbers stand to each other
data Stand (n m : ℕ) : Type 0 where
  below : n < m → nat_cmp n m ≡ Less → Stand n m
  same : n ≡ m → nat_cmp n m ≡ Equal → Stand n m
  above : m < n → nat_cmp n m ≡ Greater → Stand n m

stand : (n m : ℕ) → Stand n m
stand n m = elim (cases_lt n m) [
  | inl l ↦ below l (sym (nat_cmp_is n m Less l))
  | inr g ↦ elim (cases_eq n m) [
    | inl e ↦ same e (sym (nat_cmp_is n m Equal e))
    | inr f ↦ (let l : m < n = elim (cases_lt m n) [ inl l ↦ l | inr h ↦ absurd (f (omega (arith, g, h))) ] in above l (sym (nat_cmp_is n m Greater l)))
  ]
]

-- what stands behind a greater number is greater
packed_below : (k n m : ℕ) (xs ys : List ℕ) → AreBytes xs → n < m → packed k n xs < packed k m ys
packed_below zero n m xs ys b l = l
packed_below (suc k) n m [] [] b l = packed_below k (n * 256) (m * 256) [] [] tt (omega (arith, l))
packed_below (suc k) n m [] (y ∷ ys) b l = packed_below k (n * 256) (m * 256 + y) [] ys tt (omega (arith, l))
packed_below (suc k) n m (x ∷ xs) [] b l = let x_small = b.0 in packed_below k (n * 256 + x) (m * 256) xs [] b.1 (omega (arith, l, x_small))
packed_below (suc k) n m (x ∷ xs) (y ∷ ys) b l = let x_small = b.0 in packed_below k (n * 256 + x) (m * 256 + y) xs ys b.1 (omega (arith, l, x_small))

-- zeros are the least
packed_zeros : (k n m : ℕ) (ys : List ℕ) → n ≤ m → packed k n [] ≤ packed k m ys
packed_zeros zero n m ys l = l
packed_zeros (suc k) n m [] l = packed_zeros k (n * 256) (m * 256) [] (omega (arith, l))
packed_zeros (suc k) n m (y ∷ ys) l = packed_zeros k (n * 256) (m * 256 + y) ys (omega (arith, l))

-- the greatest number that so many bytes make
abbrev pub roof : ℕ → ℕ → ℕ
roof zero n = n
roof (suc k) n = roof k (n * 256 + 255)

roof_grows : (k n m : ℕ) → n ≤ m → roof k n ≤ roof k m
roof_grows zero n m l = l
roof_grows (suc k) n m l = roof_grows k (n * 256 + 255) (m * 256 + 255) (omega (arith, l))

packed_roof : (k n m : ℕ) (xs : List ℕ) → AreBytes xs → n ≤ m → packed k n xs ≤ roof k m
packed_roof zero n m xs b l = l
packed_roof (suc k) n m [] b l = packed_roof k (n * 256) (m * 256 + 255) [] tt (omega (arith, l))
packed_roof (suc k) n m (x ∷ xs) b l = let x_small = b.0 in packed_roof k (n * 256 + x) (m * 256 + 255) xs b.1 (omega (arith, l, x_small))

packed_order : (k n : ℕ) (xs ys : List ℕ) → AreBytes xs → AreBytes ys → packed k n xs < packed k n ys → text_cmp xs ys ≡ Less
packed_order zero n xs ys b c l = absurd (omega (arith, l))
packed_order (suc k) n [] [] b c l = absurd (omega (arith, l))
packed_order (suc k) n [] (y ∷ ys) b c l = refl
packed_order (suc k) n (x ∷ xs) [] b c l = absurd (let z = packed_zeros k (n * 256) (n * 256 + x) xs (omega arith) in omega (arith, l, z))
packed_order (suc k) n (x ∷ xs) (y ∷ ys) b c l = elim (stand x y) [
  | below s e ↦ ap (λ o. ordering_then o (text_cmp xs ys)) e
  | same s e ↦ ap (λ o. ordering_then o (text_cmp xs ys)) e ∙ packed_order k (n * 256 + y) xs ys b.1 c.1 (subst (λ (z : ℕ). packed k (n * 256 + z) xs < packed k (n * 256 + y) ys) s l)
  | above s e ↦ absurd (let z = packed_below k (n * 256 + y) (n * 256 + x) ys xs c.1 (omega (arith, s)) in omega (arith, l, z))
]

text_roof : (beginning xs : List ℕ) → AreBytes xs → text_key beginning xs ≤ greatest
text_roof [] xs b = packed_roof 8 0 0 xs b (omega arith)
text_roof (p ∷ beginning) [] b = omega arith
text_roof (p ∷ beginning) (x ∷ xs) b = elim (nat_cmp x p) as (λ o. key_by o (text_key beginning xs) ≤ greatest) [
  | Less ↦ omega arith
  | Equal ↦ text_roof beginning xs b.1
  | Greater ↦ omega arith
]

module _ (p x y : ℕ) (ps xs ys : List ℕ) (b : AreBytes xs) (c : AreBytes ys) (more : text_key ps xs < text_key ps ys → text_cmp xs ys ≡ Less) where
  less : x < y → text_cmp (x ∷ xs) (y ∷ ys) ≡ Less
  less l = ap (λ o. ordering_then o (text_cmp xs ys)) (sym (nat_cmp_is x y Less l))

  step : Stand x p → Stand y p → key_by (nat_cmp x p) (text_key ps xs) < key_by (nat_cmp y p) (text_key ps ys) → text_cmp (x ∷ xs) (y ∷ ys) ≡ Less
  step (below s e) (below t f) l = absurd (let m = subst (λ o. key_by o (text_key ps xs) < key_by (nat_cmp y p) (text_key ps ys)) e l in let n = subst (λ o. 0 < key_by o (text_key ps ys)) f m in omega (arith, n))
  step (below s e) (same t f) l = less (omega (arith, s, t))
  step (below s e) (above t f) l = less (omega (arith, s, t))
  step (same s e) (below t f) l = absurd (let m = subst (λ o. key_by (nat_cmp x p) (text_key ps xs) < key_by o (text_key ps ys)) f l in omega (arith, m))
  step (same s e) (same t f) l =
      let m = subst (λ o. key_by o (text_key ps xs) < key_by (nat_cmp y p) (text_key ps ys)) e l in
      let n = subst (λ o. text_key ps xs < key_by o (text_key ps ys)) f m in
      ap (λ o. ordering_then o (text_cmp xs ys)) (sym (nat_cmp_is x y Equal (s ∙ sym t))) ∙ more n
  step (same s e) (above t f) l = less (omega (arith, s, t))
  step (above s e) (below t f) l = absurd (let m = subst (λ o. key_by (nat_cmp x p) (text_key ps xs) < key_by o (text_key ps ys)) f l in omega (arith, m))
  step (above s e) (same t f) l = absurd (
      let m = subst (λ o. key_by o (text_key ps xs) < key_by (nat_cmp y p) (text_key ps ys)) e l in
      let n = subst (λ o. greatest < key_by o (text_key ps ys)) f m in
      let r = text_roof ps ys c in
      omega (arith, n, r))
  step (above s e) (above t f) l = absurd (
      let m = subst (λ o. key_by o (text_key ps xs) < key_by (nat_cmp y p) (text_key ps ys)) e l in
      let n = subst (λ o. greatest < key_by o (text_key ps ys)) f m in
      omega (arith, n))

-- the text of the lesser key is the lesser
text_order : (ps xs ys : List ℕ) → AreBytes xs → AreBytes ys → text_key ps xs < text_key ps ys → text_cmp xs ys ≡ Less
text_order [] xs ys b c l = packed_order 8 0 xs ys b c l
text_order (p ∷ ps) [] [] b c l = absurd (omega (arith, l))
text_order (p ∷ ps) [] (y ∷ ys) b c l = refl
text_order (p ∷ ps) (x ∷ xs) [] b c l = absurd (omega (arith, l))
text_order (p ∷ ps) (x ∷ xs) (y ∷ ys) b c l = step p x y ps xs ys b.1 c.1 (text_order ps xs ys b.1 c.1) (stand x p) (stand y p) l

-- the term of the lesser key is the lesser
term_order : (ps : List ℕ) (t u : Term) → HasBytes t → HasBytes u → term_key ps t < term_key ps u → term_cmp t u ≡ Less
term_order ps (Blank s n) (Blank r m) b c l = absurd (omega (arith, l))
term_order ps (Blank s n) (Iri j) b c l = refl
term_order ps (Blank s n) (Literal f g h) b c l = refl
term_order ps (Iri i) (Blank r m) b c l = absurd (omega (arith, l))
term_order ps (Iri i) (Iri j) b c l = text_order ps i j b c l
term_order ps (Iri i) (Literal f g h) b c l = refl
term_order ps (Literal f g h) (Blank r m) b c l = absurd (omega (arith, l))
term_order ps (Literal f g h) (Iri j) b c l = absurd (let r = text_roof ps j c in omega (arith, l, r))
term_order ps (Literal f g h) (Literal i j k) b c l = absurd (omega (arith, l))

-- when terms of these keys are in order by key and term, they are by term
pub key_then : (ps : List ℕ) (t u : Term) → HasBytes t → HasBytes u → (o : Ordering) → o ≡ ordering_then (nat_cmp (term_key ps t) (term_key ps u)) (term_cmp t u) → (o ≡ Less → term_cmp t u ≡ Less) × (o ≡ Equal → term_cmp t u ≡ Equal)
key_then ps t u b c o is = elim (stand (term_key ps t) (term_key ps u)) [
  | below s e ↦ (λ h. term_order ps t u b c s, λ h. (let k : o ≡ Less = is ∙ ap (λ q. ordering_then q (term_cmp t u)) e in cc (h, k)))
  | same s e ↦ (let k : o ≡ term_cmp t u = is ∙ ap (λ q. ordering_then q (term_cmp t u)) e in (λ h. sym k ∙ h, λ h. sym k ∙ h))
  | above s e ↦ (let k : o ≡ Greater = is ∙ ap (λ q. ordering_then q (term_cmp t u)) e in (λ h. cc (h, k), λ h. cc (h, k)))
]

-- one byte more
packed_at : (k n i : ℕ) (bytes : List ℕ) → packed (suc k) n (drop i bytes) ≡ packed k (n * 256 + get_or bytes i 0) (drop (suc i) bytes)
packed_at k n zero [] = let e : n * 256 ≡ n * 256 + 0 = omega arith in ap (λ (m : ℕ). packed k m []) e
packed_at k n zero (x ∷ xs) = refl
packed_at k n (suc i) [] = let e : n * 256 ≡ n * 256 + 0 = omega arith in ap (λ (m : ℕ). packed k m []) e
packed_at k n (suc i) (x ∷ xs) = packed_at k n i xs

roof_above : (k n : ℕ) → n ≤ roof k n
roof_above zero n = omega arith
roof_above (suc k) n = let r = roof_above k (n * 256 + 255) in omega (arith, r)

-- eight bytes make a number of 64 bits
pub packed_fits : (i n : ℕ) → i < 8 → roof (8 - i) n ≤ greatest → n * 256 + 255 ≤ greatest
packed_fits i n l r =
    let k : 8 - i ≡ suc (8 - (i + 1)) = omega (arith, l) in
    let s = subst (λ (m : ℕ). roof m n ≤ greatest) k r in
    let t = roof_above (8 - (i + 1)) (n * 256 + 255) in
    omega (arith, s, t)

pub packed_step : (i n b whole : ℕ) (bytes : List ℕ) → i < 8 → b ≡ get_or bytes i 0 → b < 256 → (packed (8 - i) n (drop i bytes) ≡ whole) × (roof (8 - i) n ≤ greatest) → (packed (8 - (i + 1)) (n * 256 + b) (drop (i + 1) bytes) ≡ whole) × (roof (8 - (i + 1)) (n * 256 + b) ≤ greatest)
packed_step i n b whole bytes l is small h =
    let k : 8 - i ≡ suc (8 - (i + 1)) = omega (arith, l) in
    let s = subst (λ (m : ℕ). roof m n ≤ greatest) k h.1 in
    let next : i + 1 ≡ suc i = omega arith in
    let t = roof_grows (8 - (i + 1)) (n * 256 + b) (n * 256 + 255) (omega (arith, small)) in (
      (λ j. packed (8 - (i + 1)) (n * 256 + is j) (drop (next j) bytes)) ∙ sym (packed_at (8 - (i + 1)) n i bytes) ∙ ap (λ (m : ℕ). packed m n (drop i bytes)) (sym k) ∙ h.0,
      omega (arith, s, t),
    )

-- what a slice of bytes holds
pub are_bytes : (bytes : List ℕ) → ((i : ℕ) → get_or bytes i 0 < 256) → AreBytes bytes
are_bytes [] small = tt
are_bytes (b ∷ bytes) small = (small 0, are_bytes bytes (λ i. small (suc i)))

-- the text ends before the beginning does
pub key_short : (i : ℕ) (beginning rest : List ℕ) → i < length beginning → length rest ≡ 0 → text_key (drop i beginning) rest ≡ 0
key_short i beginning [] l e = ap (λ (bs : List ℕ). text_key bs []) (drop-cons beginning i 0 l)
key_short i beginning (c ∷ rest) l e = absurd (omega (arith, e))
