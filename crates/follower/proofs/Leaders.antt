-- A follower of a leader's records is in step with it.
use Rattle.std.proofs.Common.{◌≡◌, ◌∙◌, ◌<◌, ◌≤◌, ◌+◌, ◌-◌, ℕ, zero, suc, List, [], ◌∷◌, ◌++◌, length, take, Option, None, Some, refl, sym, ap, subst, arith, inl, inr, length-append, append_assoc, append-nil}
use Rattle.std.specs.Prelude.{◌⊎◌, slice_index_or}
use Rattle.std.specs.List.{Contains}
use Rattle.std.proofs.lemmas.List.Elements.{Contains-append_cases, Contains-append_left, Contains-append_right}
use Rattle.std.proofs.Math.Seq.{take-suc}
use Rattle.collections.proofs.Members.{has_cases, has_head, has_tail}
use Rattle.rdf_model.specs.declared.triple.Triple.{Triple}
use Rattle.record_text.specs.declared.record.Record.{Record}
use Rattle.follower.specs.declared.fed.Fed.{Fed}
use Rattle.follower.specs.declared.fed.Fed.TheVariants.{Differs, Known, Window, Full, Waiting, Misfit, Applied}
use Rattle.follower.specs.Followed.{AscendFrom, EndsWith, Feeds, Followed, IsApplied, IsTaken, IsThere, unfed, version_of, with_kept}
use Rattle.follower.specs.Laws.{Feeding, FollowsLeader, IsAcceptance, IsAccepted, IsLeader, Runs}
use Rattle.follower.specs.Records.{AllFit, AreNumberedFrom, Fits, data_after, data_from, data_of, shapes_of}
use Rattle.follower.proofs.Placed.{ascend_placed, gap_ascend, kept_above, left_ascend, number_at, numbers_within, placed_cases, placed_new, placed_old}

-- the first of the first
take_take : (xs : List Record) (v n : ℕ) → v ≤ n → take v (take n xs) ≡ take v xs
take_take [] zero n le = refl
take_take [] (suc v) zero le = absurd (omega (arith, le))
take_take [] (suc v) (suc n) le = refl
take_take (x ∷ xs) zero n le = refl
take_take (x ∷ xs) (suc v) zero le = absurd (omega (arith, le))
take_take (x ∷ xs) (suc v) (suc n) le = ap (λ (ys : List Record). x ∷ ys) (take_take xs v n (omega (arith, le)))

numbered_take : (m k : ℕ) (xs : List Record) → AreNumberedFrom m xs → AreNumberedFrom m (take k xs)
numbered_take m zero xs a = tt
numbered_take m (suc k) [] a = tt
numbered_take m (suc k) (x ∷ xs) a = (a.0, numbered_take (m + 1) k xs a.1)

-- each number up to the end is that of a record
record_at : (n i : ℕ) (rs : List Record) → AreNumberedFrom n rs → i < length rs → (x : Record) × Contains rs x × (x.number ≡ n + i)
record_at n i [] a lt = absurd (omega (arith, lt))
record_at n zero (r ∷ rs) a lt = (r, has_head r rs, (let is = a.0 in omega (arith, is)))
record_at n (suc i) (r ∷ rs) a lt = let more = record_at (n + 1) i rs a.1 (omega (arith, lt)) in (more.0, has_tail r rs more.0 more.1, (let is = more.2 in omega (arith, is)))

-- a leader's record stands at its number
stands : (leader : List Record) (k : ℕ) (x : Record) → AreNumberedFrom 1 leader → Contains leader x → x.number ≡ k + 1 → (k < length leader) × (slice_index_or leader k x ≡ x)
stands leader k x a c e =
    let i = c.0 in
    let at : (slice_index_or leader i x).number ≡ 1 + i = number_at 1 i leader x a c.1 in
    let same = ap (λ (y : Record). y.number) c.2 in
    let one : i ≡ k = omega (arith, at, same, e) in
    (subst (λ (j : ℕ). j < length leader) one c.1, subst (λ (j : ℕ). slice_index_or leader j x ≡ x) one c.2)

-- so do records that are numbered on
extended : (leader : List Record) (n : ℕ) (xs : List Record) → AreNumberedFrom 1 leader → AreNumberedFrom (n + 1) xs → ((x : Record) → Contains xs x → Contains leader x) → take n leader ++ xs ≡ take (n + length xs) leader
extended leader n [] a b f = let e : n ≡ n + 0 = omega arith in append-nil (take n leader) ∙ ap (λ (k : ℕ). take k leader) e
extended leader n (x ∷ xs) a b f =
    let s = stands leader n x a (f x (has_head x xs)) b.0 in
    let step : take (suc n) leader ≡ take n leader ++ x ∷ [] = take-suc leader n x s.0 ∙ ap (λ (y : Record). take n leader ++ y ∷ []) s.1 in
    let one : suc n ≡ n + 1 = omega arith in
    let next : take (n + 1) leader ++ xs ≡ take (n + 1 + length xs) leader = extended leader (n + 1) xs a b.1 (λ y c. f y (has_tail x xs y c)) in
    let size : n + 1 + length xs ≡ n + length (x ∷ xs) = omega arith in
    sym (append_assoc (take n leader) (x ∷ []) xs) ∙ (ap (λ (ys : List Record). ys ++ xs) (sym step ∙ ap (λ (k : ℕ). take k leader) one) ∙ (next ∙ ap (λ (k : ℕ). take k leader) size))

-- and each fits the graph after those before it
fits_at : (g : List Triple) (rs : List Record) (k : ℕ) (d : Record) → AllFit g rs → k < length rs → Fits (data_from g (take k rs)) (slice_index_or rs k d)
fits_at g [] k d a lt = absurd (omega (arith, lt))
fits_at g (r ∷ rs) zero d a lt = a.0
fits_at g (r ∷ rs) (suc k) d a lt = fits_at (data_after g r) rs k d a.1 (omega (arith, lt))

-- A follower is in step: it applied the first records, and it has just the ones with numbers that were accepted.
record IsInStep (leader : List Record) (P : ℕ → Type 0) (s : Followed) : Type 0 where
  applied : s.applied ≡ take (version_of s) leader
  kept : (r : Record) → Contains s.kept r → Contains leader r
  ascend : AscendFrom (version_of s + 1) s.kept
  done : (r : Record) → IsThere s r → P r.number
  undone : (k : ℕ) → P k → (r : Record) × IsThere s r × (r.number ≡ k)

-- the numbers accepted so far, and with one answer more
abbrev With : (ℕ → Type 0) → Record → Fed → ℕ → Type 0
With P r a k = P k ⊎ ((r.number ≡ k) × IsAcceptance a)

-- where nothing changed
same_step : (leader : List Record) (P : ℕ → Type 0) (s t : Followed) (r : Record) (a : Fed) → t ≡ s → (IsAcceptance a → ⊥) → IsInStep leader P s → IsInStep leader (With P r a) t
same_step leader P s t r a e n i = subst (λ (u : Followed). IsInStep leader (With P r a) u) (sym e) (record {
  applied = i.applied;
  kept = i.kept;
  ascend = i.ascend;
  done = λ x c. inl (i.done x c);
  undone = λ k p. elim p [ inl q ↦ i.undone k q | inr q ↦ absurd (n q.1) ];
})

-- where a record is kept
kept_step : (leader : List Record) (P : ℕ → Type 0) (s t : Followed) (r : Record) (v : ℕ) → Contains leader r → IsTaken s r → version_of s + 1 < r.number → t ≡ with_kept s r → IsInStep leader P s → IsInStep leader (With P r (Waiting v)) t
kept_step leader P s t r v c n lt e i = subst (λ (u : Followed). IsInStep leader (With P r (Waiting v)) u) (sym e) (record {
  applied = i.applied;
  kept = λ x d. elim (placed_cases r s.kept x d) [ inl same ↦ subst (λ (y : Record). Contains leader y) same c | inr k ↦ i.kept x k ];
  ascend = ascend_placed (version_of s + 1) r s.kept lt (λ x d. n.new x (inr d)) i.ascend;
  done = λ x d. elim d [
    | inl k ↦ inl (i.done x (inl k))
    | inr k ↦ elim (placed_cases r s.kept x k) [ inl same ↦ inr (ap (λ (y : Record). y.number) same, tt) | inr l ↦ inl (i.done x (inr l)) ]
  ];
  undone = λ k p. elim p [
    | inl q ↦ let u = i.undone k q in (u.0, elim u.1 [ inl l ↦ inl l | inr l ↦ inr (placed_old r s.kept u.0 l) ], u.2)
    | inr q ↦ (r, inr (placed_new r s.kept), q.0)
  ];
})

-- where records are applied
module _ (leader : List Record) (is_leader : IsLeader leader) (P : ℕ → Type 0) (s t : Followed) (r : Record) (v : ℕ) (dropped : Option ℕ) (c : Contains leader r) (follows : r.number ≡ version_of s + 1) (a : IsApplied s r dropped t) (i : IsInStep leader P s) where
  moved_kept : (x : Record) → Contains a.moved x → Contains s.kept x
  moved_kept x d = subst (λ (ks : List Record). Contains ks x) (sym a.kept) (Contains-append_left a.moved a.left x d)

  left_kept : (x : Record) → Contains a.left x → Contains s.kept x
  left_kept x d = subst (λ (ks : List Record). Contains ks x) (sym a.kept) (Contains-append_right a.moved a.left x d)

  size : version_of t ≡ version_of s + length (r ∷ a.moved)
  size = ap length a.applied ∙ length-append s.applied (r ∷ a.moved)

  first_applied : t.applied ≡ take (version_of t) leader
  first_applied =
      let numbered : AreNumberedFrom (version_of s + 1) (r ∷ a.moved) = (follows, subst (λ (n : ℕ). AreNumberedFrom (n + 1) a.moved) follows a.numbered) in
      let all = extended leader (version_of s) (r ∷ a.moved) is_leader.numbered numbered (λ x d. elim (has_cases r a.moved x d) [ inl e ↦ subst (λ (y : Record). Contains leader y) e c | inr m ↦ i.kept x (moved_kept x m) ]) in
      a.applied ∙ (ap (λ (rs : List Record). rs ++ r ∷ a.moved) i.applied ∙ (all ∙ ap (λ (n : ℕ). take n leader) (sym size)))

  none_dropped : (o : Option ℕ) (kept : List Record) → EndsWith t.applied a.left o kept → (kept ≡ a.left) × AscendFrom (version_of t + 1) a.left
  none_dropped None kept e =
      let all : AscendFrom r.number (a.moved ++ a.left) = subst (λ (n : ℕ). AscendFrom n (a.moved ++ a.left)) (sym follows) (subst (λ (ks : List Record). AscendFrom (version_of s + 1) ks) a.kept i.ascend) in
      let behind = left_ascend r.number a.moved a.left a.numbered all in
      let at : r.number + length a.moved ≡ version_of t = (let n = size in omega (arith, n, follows)) in
      (e.0, gap_ascend (version_of t) (version_of t + 1) a.left refl e.1 (subst (λ (n : ℕ). AscendFrom n a.left) at behind))
  none_dropped (Some n) kept e =
      let d = e.0 in
      let there : Contains leader d = i.kept d (left_kept d (subst (λ (ds : List Record). Contains ds d) (sym e.1) (has_head d kept))) in
      let stand = stands leader (version_of t) d is_leader.numbered there (e.2 ∙ e.3) in
      let fits : Fits (data_of (take (version_of t) leader)) d = subst (λ (x : Record). Fits (data_of (take (version_of t) leader)) x) stand.1 (fits_at [] leader (version_of t) d is_leader.fit stand.0) in
      absurd (e.4 (subst (λ (rs : List Record). Fits (data_of rs) d) (sym first_applied) fits))

  applied_step : IsInStep leader (With P r (Applied v dropped)) t
  applied_step =
      let ends = none_dropped dropped t.kept a.ends in
      record {
        applied = first_applied;
        kept = λ x d. i.kept x (left_kept x (subst (λ (ks : List Record). Contains ks x) ends.0 d));
        ascend = subst (λ (ks : List Record). AscendFrom (version_of t + 1) ks) (sym ends.0) ends.1;
        done = λ x d. elim d [
          | inl k ↦ elim (Contains-append_cases s.applied (r ∷ a.moved) x (subst (λ (rs : List Record). Contains rs x) a.applied k)) [
            | inl l ↦ inl (i.done x (inl l))
            | inr l ↦ elim (has_cases r a.moved x l) [ inl same ↦ inr (ap (λ (y : Record). y.number) same, tt) | inr m ↦ inl (i.done x (inr (moved_kept x m))) ]
          ]
          | inr k ↦ inl (i.done x (inr (left_kept x (subst (λ (ks : List Record). Contains ks x) ends.0 k))))
        ];
        undone = λ k p. elim p [
          | inl q ↦ let u = i.undone k q in (u.0, still u.0 ends.0 u.1, u.2)
          | inr q ↦ (r, inl (subst (λ (rs : List Record). Contains rs r) (sym a.applied) (Contains-append_right s.applied (r ∷ a.moved) r (has_head r a.moved))), q.0)
        ];
      }
    where
      still : (x : Record) → t.kept ≡ a.left → IsThere s x → IsThere t x
      still x e d = elim d [
        | inl k ↦ inl (subst (λ (rs : List Record). Contains rs x) (sym a.applied) (Contains-append_left s.applied (r ∷ a.moved) x k))
        | inr k ↦ elim (Contains-append_cases a.moved a.left x (subst (λ (ks : List Record). Contains ks x) a.kept k)) [
          | inl l ↦ inl (subst (λ (rs : List Record). Contains rs x) (sym a.applied) (Contains-append_right s.applied (r ∷ a.moved) x (has_tail r a.moved x l)))
          | inr l ↦ inr (subst (λ (ks : List Record). Contains ks x) (sym e) l)
        ]
      ]

one_step : (leader : List Record) (P : ℕ → Type 0) (s t : Followed) (r : Record) (a : Fed) → IsLeader leader → Contains leader r → Feeds s r a t → IsInStep leader P s → IsInStep leader (With P r a) t
one_step leader P s t r (Differs number) l c f i = same_step leader P s t r (Differs number) f.2 (λ x. x) i
one_step leader P s t r (Known version) l c f i = same_step leader P s t r (Known version) f.2 (λ x. x) i
one_step leader P s t r (Window version) l c f i = same_step leader P s t r (Window version) f.3 (λ x. x) i
one_step leader P s t r (Full count) l c f i = same_step leader P s t r (Full count) f.4 (λ x. x) i
one_step leader P s t r (Waiting version) l c f i = kept_step leader P s t r version c f.0 f.1 f.3 i
one_step leader P s t r (Misfit number triple) l c f i = same_step leader P s t r (Misfit number triple) f.4 (λ x. x) i
one_step leader P s t r (Applied version dropped) l c f i = applied_step leader l P s t r version dropped c f.1 f.4 i

-- the same numbers, said in another way
other_numbers : (leader : List Record) (P Q : ℕ → Type 0) (s : Followed) → ((k : ℕ) → P k → Q k) → ((k : ℕ) → Q k → P k) → IsInStep leader P s → IsInStep leader Q s
other_numbers leader P Q s f g i = record { applied = i.applied; kept = i.kept; ascend = i.ascend; done = λ r c. f r.number (i.done r c); undone = λ k q. i.undone k (g k q) }

all_steps : (leader : List Record) (P : ℕ → Type 0) (fs : List Feeding) (s t : Followed) → IsLeader leader → ((f : Feeding) → Contains fs f → Contains leader f.0) → Runs s fs t → IsInStep leader P s → IsInStep leader (λ k. P k ⊎ IsAccepted fs k) t
all_steps leader P [] s t l c r i =
    subst (λ (u : Followed). IsInStep leader (λ k. P k ⊎ IsAccepted [] k) u) (sym r) (other_numbers leader P (λ k. P k ⊎ IsAccepted [] k) s (λ k p. inl p) (λ k q. elim q [ inl p ↦ p | inr n ↦ absurd (let lt = n.1.1 in omega (arith, lt)) ]) i)
all_steps leader P (f ∷ fs) s t l c r i =
    let m = r.0 in
    let step = one_step leader P s m f.0 f.1 l (c f (has_head f fs)) r.1 i in
    let rest = all_steps leader (With P f.0 f.1) fs m t l (λ g d. c g (has_tail f fs g d)) r.2 step in
    other_numbers leader (λ k. With P f.0 f.1 k ⊎ IsAccepted fs k) (λ k. P k ⊎ IsAccepted (f ∷ fs) k) t
    (λ k q. elim q [
      | inl w ↦ elim w [ inl p ↦ inl p | inr n ↦ inr (f, has_head f fs, n.0, n.1) ]
      | inr n ↦ inr (n.0, has_tail f fs n.0 n.1, n.2, n.3)
    ])
    (λ k q. elim q [
      | inl p ↦ inl (inl p)
      | inr n ↦ elim (has_cases f fs n.0 n.1) [
        | inl same ↦ inl (inr (subst (λ (g : Feeding). (g.0.number ≡ k) × IsAcceptance g.1) (sym same) (n.2, n.3)))
        | inr d ↦ inr (n.0, d, n.2, n.3)
      ]
    ]) rest

pub follows_leader : FollowsLeader
follows_leader leader fs s l c r =
    let begun : IsInStep leader (λ k. ⊥) unfed = record {
      applied = refl;
      kept = λ x d. absurd (let lt = d.1 in omega (arith, lt));
      ascend = tt;
      done = λ x d. elim d [ inl k ↦ absurd (let lt = k.1 in omega (arith, lt)) | inr k ↦ absurd (let lt = k.1 in omega (arith, lt)) ];
      undone = λ k n. absurd n;
    } in
    let i = all_steps leader (λ k. ⊥) fs unfed s l c r begun in
    let numbered : AreNumberedFrom 1 s.applied = subst (λ (rs : List Record). AreNumberedFrom 1 rs) (sym i.applied) (numbered_take 1 (version_of s) leader l.numbered) in
    let first : (version : ℕ) → version ≤ version_of s → take version s.applied ≡ take version leader = λ version le. ap (λ (rs : List Record). take version rs) i.applied ∙ take_take leader version (version_of s) le in
    record {
      accepted = λ number some le.
          let x = record_at 1 (number - 1) s.applied numbered (omega (arith, some, le)) in
          let at = x.2 in
          let is : x.0.number ≡ number = omega (arith, at, some) in
          subst (λ (k : ℕ). IsAccepted fs k) is (elim (i.done x.0 (inl x.1)) [ inl n ↦ absurd n | inr n ↦ n ]);
      greatest = λ n.
          let u = i.undone (version_of s + 1) (inr n) in
          let at = u.2 in
          elim u.1 [
            | inl d ↦ absurd (let high = (numbers_within 1 s.applied u.0 numbered d).1 in omega (arith, high, at))
            | inr d ↦ absurd (let low = kept_above (version_of s + 1) s.kept u.0 i.ascend d in omega (arith, low, at))
          ];
      graph = λ version le. ap data_of (first version le);
      shapes = λ version le. ap shapes_of (first version le);
    }
