-- A follower gives one answer to a record.
use Rattle.std.proofs.Common.{◌≡◌, ◌∙◌, ◌<◌, ◌≤◌, ◌+◌, ℕ, List, [], ◌∷◌, ◌++◌, length, drop, Option, None, Some, refl, sym, ap, subst, arith, inl, inr, length-append}
use Rattle.std.specs.Prelude.{slice_index_or}
use Rattle.std.specs.List.{Contains}
use Rattle.std.specs.declared.cmp.Ordering.TheVariants.{Less, Equal, Greater}
use Rattle.std.specs.Ordering.{ordering_reverse}
use Rattle.collections.proofs.Members.{has_cases}
use Rattle.rdf_model.specs.declared.triple.Triple.{Triple}
use Rattle.rdf_model.specs.Orders.{triple_exact, triple_total}
use Rattle.rdf_model.specs.Terms.{triple_cmp}
use Rattle.record_text.specs.declared.record.Record.{Record}
use Rattle.follower.specs.declared.fed.Fed.TheVariants.{Differs, Known, Window, Full, Waiting, Misfit, Applied}
use Rattle.follower.specs.Followed.{AscendFrom, EndsWith, Followed, HasUnequal, IsApplied, IsGap, IsKept, IsNew, IsThere, count_with, most_terms, version_of}
use Rattle.follower.specs.Laws.{AnswersOnce}
use Rattle.follower.specs.Records.{AllFit, AreNumberedFrom, Fits, IsLeastMisfit, data_after, data_from, data_of}
use Rattle.follower.proofs.Misfits.{not_fit}
use Rattle.follower.proofs.Placed.{kept_above, numbers_within}
use Rattle.follower.proofs.Sequences.{data_joined}

-- one record is there under a number
one_applied : (n : ℕ) (rs : List Record) (x y : Record) → AreNumberedFrom n rs → Contains rs x → Contains rs y → x.number ≡ y.number → x ≡ y
one_applied n [] x y a c d e = absurd (let lt = c.1 in omega (arith, lt))
one_applied n (r ∷ rs) x y a c d e =
    let first : r.number ≡ n = a.0 in
    elim (has_cases r rs x c) [
      | inl p ↦ elim (has_cases r rs y d) [
        | inl q ↦ sym p ∙ q
        | inr q ↦ absurd (let low = (numbers_within (n + 1) rs y a.1 q).0 in let same = ap (λ (z : Record). z.number) p in omega (arith, low, same, first, e))
      ]
      | inr p ↦ elim (has_cases r rs y d) [
        | inl q ↦ absurd (let low = (numbers_within (n + 1) rs x a.1 p).0 in let same = ap (λ (z : Record). z.number) q in omega (arith, low, same, first, e))
        | inr q ↦ one_applied (n + 1) rs x y a.1 p q e
      ]
    ]

one_kept : (n : ℕ) (rs : List Record) (x y : Record) → AscendFrom n rs → Contains rs x → Contains rs y → x.number ≡ y.number → x ≡ y
one_kept n [] x y a c d e = absurd (let lt = c.1 in omega (arith, lt))
one_kept n (r ∷ rs) x y a c d e =
    elim (has_cases r rs x c) [
      | inl p ↦ elim (has_cases r rs y d) [
        | inl q ↦ sym p ∙ q
        | inr q ↦ absurd (let low = kept_above r.number rs y a.1 q in let same = ap (λ (z : Record). z.number) p in omega (arith, low, same, e))
      ]
      | inr p ↦ elim (has_cases r rs y d) [
        | inl q ↦ absurd (let low = kept_above r.number rs x a.1 p in let same = ap (λ (z : Record). z.number) q in omega (arith, low, same, e))
        | inr q ↦ one_kept r.number rs x y a.1 p q e
      ]
    ]

one_there : (s : Followed) (x y : Record) → IsKept s → IsThere s x → IsThere s y → x.number ≡ y.number → x ≡ y
one_there s x y k c d e = elim c [
  | inl p ↦ elim d [
    | inl q ↦ one_applied 1 s.applied x y k.numbered p q e
    | inr q ↦ absurd (let high = (numbers_within 1 s.applied x k.numbered p).1 in let low = kept_above (version_of s + 1) s.kept y k.ascend q in omega (arith, high, low, e))
  ]
  | inr p ↦ elim d [
    | inl q ↦ absurd (let high = (numbers_within 1 s.applied y k.numbered q).1 in let low = kept_above (version_of s + 1) s.kept x k.ascend p in omega (arith, high, low, e))
    | inr q ↦ one_kept (version_of s + 1) s.kept x y k.ascend p q e
  ]
]

-- a record that differs is neither known nor new, and one that is known isn't new
not_both : (s : Followed) (r : Record) → IsKept s → HasUnequal s r → IsThere s r → ⊥
not_both s r k u c = u.3 (one_there s u.0 r k u.1 c u.2)

not_new : (s : Followed) (r : Record) → HasUnequal s r → IsNew s r → ⊥
not_new s r u n = n u.0 u.1 u.2

known_old : (s : Followed) (r : Record) → IsThere s r → IsNew s r → ⊥
known_old s r c n = n r c refl

-- one triple is the least
one_least : (g : List Triple) (r : Record) (t u : Triple) → IsLeastMisfit g r t → IsLeastMisfit g r u → t ≡ u
one_least g r t u a b = elim (triple_cmp t u) as (λ o. triple_cmp t u ≡ o → t ≡ u) [
  | Less ↦ λ e. absurd (b.least t a.there e)
  | Equal ↦ λ e. triple_exact t u e
  | Greater ↦ λ e. absurd (a.least u b.there (triple_total.antisymm u t ∙ ap ordering_reverse e))
] refl

-- The records that are applied, and what ends them, are one.
abbrev Ends : ℕ → List Triple → List Record → Option ℕ → List Record → Type 0
Ends v g left None kept = (kept ≡ left) × IsGap v left
Ends v g left (Some number) kept = (d : Record) × (left ≡ d ∷ kept) × (d.number ≡ number) × (number ≡ v + 1) × (Fits g d → ⊥)

record Once (moved moved' : List Record) (o o' : Option ℕ) (kept kept' : List Record) : Type 0 where
  same_moved : moved ≡ moved'
  same_dropped : o ≡ o'
  same_kept : kept ≡ kept'

heads : (x y : Record) (xs ys : List Record) → x ∷ xs ≡ y ∷ ys → (x ≡ y) × (xs ≡ ys)
heads x y xs ys e = (ap (λ (zs : List Record). slice_index_or zs 0 x) e, ap (λ (zs : List Record). drop 1 zs) e)

-- where nothing more is applied the next one is a gap, or misfits
no_more : (v : ℕ) (g : List Triple) (left : List Record) (o : Option ℕ) (kept : List Record) (x : Record) (xs : List Record) → Ends v g left o kept → left ≡ x ∷ xs → x.number ≡ v + 1 → Fits g x → ⊥
no_more v g left None kept x xs e l n f = (subst (λ (ds : List Record). IsGap v ds) l e.1) n
no_more v g left (Some number) kept x xs e l n f = let h = heads e.0 x kept xs (sym e.1 ∙ l) in e.4 (subst (λ (d : Record). Fits g d) (sym h.0) f)

ends_once : (v : ℕ) (g : List Triple) (left left' : List Record) (o o' : Option ℕ) (kept kept' : List Record) → left ≡ left' → Ends v g left o kept → Ends v g left' o' kept' → (o ≡ o') × (kept ≡ kept')
ends_once v g left left' None None kept kept' l a b = (refl, a.0 ∙ (l ∙ sym b.0))
ends_once v g left left' None (Some n) kept kept' l a b = absurd ((subst (λ (ds : List Record). IsGap v ds) (l ∙ b.1) a.1) (b.2 ∙ b.3))
ends_once v g left left' (Some n) None kept kept' l a b = absurd ((subst (λ (ds : List Record). IsGap v ds) (sym l ∙ a.1) b.1) (a.2 ∙ a.3))
ends_once v g left left' (Some n) (Some m) kept kept' l a b = (ap Some (a.3 ∙ sym b.3), (heads a.0 b.0 kept kept' (sym a.1 ∙ (l ∙ b.1))).1)

once : (v : ℕ) (g : List Triple) (all moved moved' left left' : List Record) (o o' : Option ℕ) (kept kept' : List Record) → all ≡ moved ++ left → all ≡ moved' ++ left' → AreNumberedFrom (v + 1) moved → AreNumberedFrom (v + 1) moved' →
    AllFit g moved → AllFit g moved' → Ends (v + length moved) (data_from g moved) left o kept → Ends (v + length moved') (data_from g moved') left' o' kept' → Once moved moved' o o' kept kept'
once v g all [] [] left left' o o' kept kept' e e' n n' f f' a b = let h = ends_once (v + 0) g left left' o o' kept kept' (sym e ∙ e') a b in record { same_moved = refl; same_dropped = h.0; same_kept = h.1 }
once v g all [] (y ∷ ys) left left' o o' kept kept' e e' n n' f f' a b = absurd (no_more (v + 0) g left o kept y (ys ++ left') a (sym e ∙ e') (let is = n'.0 in omega (arith, is)) f'.0)
once v g all (x ∷ xs) [] left left' o o' kept kept' e e' n n' f f' a b = absurd (no_more (v + 0) g left' o' kept' x (xs ++ left) b (sym e' ∙ e) (let is = n.0 in omega (arith, is)) f.0)
once v g all (x ∷ xs) (y ∷ ys) left left' o o' kept kept' e e' n n' f f' a b =
    let h = heads x y (xs ++ left) (ys ++ left') (sym e ∙ e') in
    let size : v + length (x ∷ xs) ≡ v + 1 + length xs = omega arith in
    let size' : v + length (y ∷ ys) ≡ v + 1 + length ys = omega arith in
    let g' = data_after g x in
    let same : data_after g y ≡ g' = ap (data_after g) (sym h.0) in
    let rest = once (v + 1) g' (xs ++ left) xs ys left left' o o' kept kept' refl h.1 n.1 n'.1 f.1 (subst (λ (i : List Triple). AllFit i ys) same f'.1)
    (subst (λ (k : ℕ). Ends k (data_from g' xs) left o kept) size a)
    (subst (λ (i : List Triple). Ends (v + 1 + length ys) (data_from i ys) left' o' kept') same (subst (λ (k : ℕ). Ends k (data_from (data_after g y) ys) left' o' kept') size' b)) in
    record { same_moved = (λ k. h.0 k ∷ rest.same_moved k); same_dropped = rest.same_dropped; same_kept = rest.same_kept }

ends_of : (v : ℕ) (g : List Triple) (applied left : List Record) (o : Option ℕ) (kept : List Record) → length applied ≡ v → data_of applied ≡ g → EndsWith applied left o kept → Ends v g left o kept
ends_of v g applied left None kept e h x = (x.0, subst (λ (k : ℕ). IsGap k left) e x.1)
ends_of v g applied left (Some n) kept e h x = (x.0, x.1, x.2, x.3 ∙ ap (λ (k : ℕ). k + 1) e, λ f. x.4 (subst (λ (i : List Triple). Fits i x.0) (sym h) f))

applied_once : (s t u : Followed) (r : Record) (o o' : Option ℕ) → r.number ≡ version_of s + 1 → IsApplied s r o t → IsApplied s r o' u → (o ≡ o') × (t ≡ u)
applied_once s t u r o o' e a b =
    let g = data_after (data_of s.applied) r in
    let size : (moved applied : List Record) → applied ≡ s.applied ++ r ∷ moved → length applied ≡ r.number + length moved = λ moved applied h.
    let l = ap length h in let j = length-append s.applied (r ∷ moved) in omega (arith, l, j, e) in
    let graph : (moved applied : List Record) → applied ≡ s.applied ++ r ∷ moved → data_of applied ≡ data_from g moved = λ moved applied h. ap data_of h ∙ data_joined [] s.applied (r ∷ moved) in
    let h = once r.number g s.kept a.moved b.moved a.left b.left o o' t.kept u.kept a.kept b.kept a.numbered b.numbered a.fit b.fit
    (ends_of (r.number + length a.moved) (data_from g a.moved) t.applied a.left o t.kept (size a.moved t.applied a.applied) (graph a.moved t.applied a.applied) a.ends)
    (ends_of (r.number + length b.moved) (data_from g b.moved) u.applied b.left o' u.kept (size b.moved u.applied b.applied) (graph b.moved u.applied b.applied) b.ends) in
    let applied : t.applied ≡ u.applied = a.applied ∙ (ap (λ (ms : List Record). s.applied ++ r ∷ ms) h.same_moved ∙ sym b.applied) in
    let terms : t.terms ≡ u.terms = a.terms ∙ sym b.terms in
    (h.same_dropped, λ k. record { applied = applied k; kept = h.same_kept k; terms = terms k })

-- numbers that can't be
ahead_not : (n v : ℕ) → v + 1 < n → n ≡ v + 1 → ⊥
ahead_not n v lt e = omega (arith, lt, e)

full_not : (s : Followed) (r : Record) (count : ℕ) → count ≡ count_with s r → most_terms < count → count_with s r ≤ most_terms → ⊥
full_not s r count e lt le = omega (arith, e, lt, le)

pub answers_once : AnswersOnce
answers_once s t u r (Differs n1) (Differs n2) k a b = (ap Differs (a.1 ∙ sym b.1), a.2 ∙ sym b.2)
answers_once s t u r (Differs n1) (Known v2) k a b = absurd (not_both s r k a.0 b.0)
answers_once s t u r (Differs n1) (Window v2) k a b = absurd (not_new s r a.0 b.0)
answers_once s t u r (Differs n1) (Full c2) k a b = absurd (not_new s r a.0 b.0)
answers_once s t u r (Differs n1) (Waiting v2) k a b = absurd (not_new s r a.0 b.0.new)
answers_once s t u r (Differs n1) (Misfit n2 p2) k a b = absurd (not_new s r a.0 b.0.new)
answers_once s t u r (Differs n1) (Applied v2 o2) k a b = absurd (not_new s r a.0 b.0.new)
answers_once s t u r (Known v1) (Differs n2) k a b = absurd (not_both s r k b.0 a.0)
answers_once s t u r (Known v1) (Known v2) k a b = (ap Known (a.1 ∙ sym b.1), a.2 ∙ sym b.2)
answers_once s t u r (Known v1) (Window v2) k a b = absurd (known_old s r a.0 b.0)
answers_once s t u r (Known v1) (Full c2) k a b = absurd (known_old s r a.0 b.0)
answers_once s t u r (Known v1) (Waiting v2) k a b = absurd (known_old s r a.0 b.0.new)
answers_once s t u r (Known v1) (Misfit n2 p2) k a b = absurd (known_old s r a.0 b.0.new)
answers_once s t u r (Known v1) (Applied v2 o2) k a b = absurd (known_old s r a.0 b.0.new)
answers_once s t u r (Window v1) (Differs n2) k a b = absurd (not_new s r b.0 a.0)
answers_once s t u r (Window v1) (Known v2) k a b = absurd (known_old s r b.0 a.0)
answers_once s t u r (Window v1) (Window v2) k a b = (ap Window (a.2 ∙ sym b.2), a.3 ∙ sym b.3)
answers_once s t u r (Window v1) (Full c2) k a b = absurd (b.1 a.1)
answers_once s t u r (Window v1) (Waiting v2) k a b = absurd (b.0.inside a.1)
answers_once s t u r (Window v1) (Misfit n2 p2) k a b = absurd (b.0.inside a.1)
answers_once s t u r (Window v1) (Applied v2 o2) k a b = absurd (b.0.inside a.1)
answers_once s t u r (Full c1) (Differs n2) k a b = absurd (not_new s r b.0 a.0)
answers_once s t u r (Full c1) (Known v2) k a b = absurd (known_old s r b.0 a.0)
answers_once s t u r (Full c1) (Window v2) k a b = absurd (a.1 b.1)
answers_once s t u r (Full c1) (Full c2) k a b = (ap Full (a.2 ∙ sym b.2), a.4 ∙ sym b.4)
answers_once s t u r (Full c1) (Waiting v2) k a b = absurd (full_not s r c1 a.2 a.3 b.0.fits)
answers_once s t u r (Full c1) (Misfit n2 p2) k a b = absurd (full_not s r c1 a.2 a.3 b.0.fits)
answers_once s t u r (Full c1) (Applied v2 o2) k a b = absurd (full_not s r c1 a.2 a.3 b.0.fits)
answers_once s t u r (Waiting v1) (Differs n2) k a b = absurd (not_new s r b.0 a.0.new)
answers_once s t u r (Waiting v1) (Known v2) k a b = absurd (known_old s r b.0 a.0.new)
answers_once s t u r (Waiting v1) (Window v2) k a b = absurd (a.0.inside b.1)
answers_once s t u r (Waiting v1) (Full c2) k a b = absurd (full_not s r c2 b.2 b.3 a.0.fits)
answers_once s t u r (Waiting v1) (Waiting v2) k a b = (ap Waiting (a.2 ∙ sym b.2), a.3 ∙ sym b.3)
answers_once s t u r (Waiting v1) (Misfit n2 p2) k a b = absurd (ahead_not r.number (version_of s) a.1 b.1)
answers_once s t u r (Waiting v1) (Applied v2 o2) k a b = absurd (ahead_not r.number (version_of s) a.1 b.1)
answers_once s t u r (Misfit n1 p1) (Differs n2) k a b = absurd (not_new s r b.0 a.0.new)
answers_once s t u r (Misfit n1 p1) (Known v2) k a b = absurd (known_old s r b.0 a.0.new)
answers_once s t u r (Misfit n1 p1) (Window v2) k a b = absurd (a.0.inside b.1)
answers_once s t u r (Misfit n1 p1) (Full c2) k a b = absurd (full_not s r c2 b.2 b.3 a.0.fits)
answers_once s t u r (Misfit n1 p1) (Waiting v2) k a b = absurd (ahead_not r.number (version_of s) b.1 a.1)
answers_once s t u r (Misfit n1 p1) (Misfit n2 p2) k a b = ((let n = a.2 ∙ sym b.2 in let p = one_least (data_of s.applied) r p1 p2 a.3 b.3 in λ k. Misfit (n k) (p k)), a.4 ∙ sym b.4)
answers_once s t u r (Misfit n1 p1) (Applied v2 o2) k a b = absurd (not_fit (data_of s.applied) r p1 a.3 b.2)
answers_once s t u r (Applied v1 o1) (Differs n2) k a b = absurd (not_new s r b.0 a.0.new)
answers_once s t u r (Applied v1 o1) (Known v2) k a b = absurd (known_old s r b.0 a.0.new)
answers_once s t u r (Applied v1 o1) (Window v2) k a b = absurd (a.0.inside b.1)
answers_once s t u r (Applied v1 o1) (Full c2) k a b = absurd (full_not s r c2 b.2 b.3 a.0.fits)
answers_once s t u r (Applied v1 o1) (Waiting v2) k a b = absurd (ahead_not r.number (version_of s) b.1 a.1)
answers_once s t u r (Applied v1 o1) (Misfit n2 p2) k a b = absurd (not_fit (data_of s.applied) r p2 b.3 a.2)
answers_once s t u r (Applied v1 o1) (Applied v2 o2) k a b = (let h = applied_once s t u r o1 o2 a.1 a.4 b.4 in ((let v = a.3 ∙ (ap version_of h.1 ∙ sym b.3) in λ k. Applied (v k) (h.0 k)), h.1))
