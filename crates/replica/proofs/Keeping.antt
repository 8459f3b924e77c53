-- What a follower keeps, whatever it is fed; and that entries lead to one follower.
use Rattle.std.proofs.Common.{◌≡◌, ◌∙◌, ◌<◌, ◌≤◌, ◌+◌, ℕ, List, [], ◌∷◌, ◌++◌, length, Option, None, Some, refl, sym, ap, subst, arith, length-append, inl, inr}
use Rattle.std.specs.List.{AllByRecursion, Contains}
use Rattle.collections.proofs.Members.{has_cases, has_head, has_tail}
use Rattle.record_text.specs.declared.record.Record.{Record}
use Rattle.follower.specs.declared.fed.Fed.{Fed}
use Rattle.follower.specs.declared.fed.Fed.TheVariants.{Differs, Known, Window, Full, Waiting, Misfit, Applied}
use Rattle.follower.specs.Followed.{AscendFrom, EndsWith, Feeds, Followed, IsApplied, IsKept, IsTaken, most_ahead, unfed, version_of, with_kept}
use Rattle.follower.specs.Laws.{Feeding, Runs}
use Rattle.follower.specs.Records.{AllFit, AreNumberedFrom, Fits, data_of}
use Rattle.follower.proofs.Leaders.{follows_leader}
use Rattle.follower.proofs.OneAnswer.{answers_once}
use Rattle.follower.proofs.Placed.{ascend_placed, each_behind, each_of, each_placed, gap_ascend, left_ascend}
use Rattle.follower.proofs.Sequences.{fit_joined, numbered_joined}
use Rattle.replica.specs.declared.entry.Entry.{Entry}
use Rattle.replica.specs.declared.entry.Entry.TheVariants.{Feed, Read, Void}
use Rattle.replica.specs.Entries.{Enters, Leads}
use Rattle.replica.specs.Laws.{OneFollower, ReplicaFollows, feedings_of}

not_over : (a b : ℕ) → (b < a → ⊥) → a ≤ b
not_over a b n = grind (arith, n)

same_kept : (s t : Followed) → t ≡ s → IsKept s → IsKept t
same_kept s t e k = subst IsKept (sym e) k

-- where a record is kept
kept_kept : (s t : Followed) (r : Record) → IsTaken s r → version_of s + 1 < r.number → t ≡ with_kept s r → IsKept s → IsKept t
kept_kept s t r n lt e k = subst IsKept (sym e) (record {
  numbered = k.numbered;
  fit = k.fit;
  ascend = ascend_placed (version_of s + 1) r s.kept lt (λ x c. n.new x (inr c)) k.ascend;
  near = each_placed (λ (x : Record). x.number ≤ version_of s + most_ahead) r s.kept (not_over r.number (version_of s + most_ahead) (λ far. n.inside (inr far))) k.near;
})

-- where records are applied
module _ (s t : Followed) (r : Record) (dropped : Option ℕ) (follows : r.number ≡ version_of s + 1) (fits : Fits (data_of s.applied) r) (a : IsApplied s r dropped t) (k : IsKept s) where
  size : version_of t ≡ version_of s + length (r ∷ a.moved)
  size = ap length a.applied ∙ length-append s.applied (r ∷ a.moved)

  numbered_now : AreNumberedFrom 1 t.applied
  numbered_now =
      let more : AreNumberedFrom (version_of s + 1) (r ∷ a.moved) = (follows, subst (λ (n : ℕ). AreNumberedFrom (n + 1) a.moved) follows a.numbered) in
      subst (λ (rs : List Record). AreNumberedFrom 1 rs) (sym a.applied) (numbered_joined 1 (version_of s + 1) s.applied (r ∷ a.moved) (omega arith) k.numbered more)

  fit_now : AllFit [] t.applied
  fit_now = subst (λ (rs : List Record). AllFit [] rs) (sym a.applied) (fit_joined [] s.applied (r ∷ a.moved) k.fit (fits, a.fit))

  left_now : AscendFrom (version_of t) a.left
  left_now =
      let all : AscendFrom r.number (a.moved ++ a.left) = subst (λ (n : ℕ). AscendFrom n (a.moved ++ a.left)) (sym follows) (subst (λ (ks : List Record). AscendFrom (version_of s + 1) ks) a.kept k.ascend) in
      let at : r.number + length a.moved ≡ version_of t = (let n = size in omega (arith, n, follows)) in
      subst (λ (n : ℕ). AscendFrom n a.left) at (left_ascend r.number a.moved a.left a.numbered all)

  near_now : AllByRecursion (λ (x : Record). x.number ≤ version_of t + most_ahead) a.left
  near_now =
      let old = subst (λ (ks : List Record). AllByRecursion (λ (x : Record). x.number ≤ version_of s + most_ahead) ks) a.kept k.near in
      each_of (λ (x : Record). x.number ≤ version_of s + most_ahead) (λ (x : Record). x.number ≤ version_of t + most_ahead) (λ x le. let n = size in omega (arith, le, n)) a.left (each_behind (λ (x : Record). x.number ≤ version_of s + most_ahead) a.moved a.left old)

  kept_now : (o : Option ℕ) (kept : List Record) → EndsWith t.applied a.left o kept → AscendFrom (version_of t + 1) kept × AllByRecursion (λ (x : Record). x.number ≤ version_of t + most_ahead) kept
  kept_now None kept e = subst (λ (ks : List Record). AscendFrom (version_of t + 1) ks × AllByRecursion (λ (x : Record). x.number ≤ version_of t + most_ahead) ks) (sym e.0) (gap_ascend (version_of t) (version_of t + 1) a.left refl e.1 left_now, near_now)
  kept_now (Some n) kept e =
      let first : AscendFrom (version_of t) (e.0 ∷ kept) = subst (λ (ks : List Record). AscendFrom (version_of t) ks) e.1 left_now in
      let near : AllByRecursion (λ (x : Record). x.number ≤ version_of t + most_ahead) (e.0 ∷ kept) = subst (λ (ks : List Record). AllByRecursion (λ (x : Record). x.number ≤ version_of t + most_ahead) ks) e.1 near_now in
      (subst (λ (m : ℕ). AscendFrom m kept) (e.2 ∙ e.3) first.1, near.1)

  applied_kept : IsKept t
  applied_kept = let both = kept_now dropped t.kept a.ends in record { numbered = numbered_now; fit = fit_now; ascend = both.0; near = both.1 }

fed_kept : (s t : Followed) (r : Record) (a : Fed) → Feeds s r a t → IsKept s → IsKept t
fed_kept s t r (Differs number) f k = same_kept s t f.2 k
fed_kept s t r (Known version) f k = same_kept s t f.2 k
fed_kept s t r (Window version) f k = same_kept s t f.3 k
fed_kept s t r (Full count) f k = same_kept s t f.4 k
fed_kept s t r (Waiting version) f k = kept_kept s t r f.0 f.1 f.3 k
fed_kept s t r (Misfit number triple) f k = same_kept s t f.4 k
fed_kept s t r (Applied version dropped) f k = applied_kept s t r dropped f.1 f.2 f.4 k

entry_kept : (s t : Followed) (e : Entry) → Enters s e t → IsKept s → IsKept t
entry_kept s t (Feed r fed) n k = fed_kept s t r fed n k
entry_kept s t (Read version) n k = same_kept s t n.1 k
entry_kept s t Void n k = same_kept s t n k

-- an entry leads to one follower
one_entry : (s t u : Followed) (e : Entry) → IsKept s → Enters s e t → Enters s e u → t ≡ u
one_entry s t u (Feed r fed) k n m = (answers_once s t u r fed fed k n m).1
one_entry s t u (Read version) k n m = n.1 ∙ sym m.1
one_entry s t u Void k n m = n ∙ sym m

all_entries : (s t u : Followed) (es : List Entry) → IsKept s → Leads s es t → Leads s es u → t ≡ u
all_entries s t u [] k l m = l ∙ sym m
all_entries s t u (e ∷ es) k l m =
    let same : l.0 ≡ m.0 = one_entry s l.0 m.0 e k l.1 m.1 in
    all_entries l.0 t u es (entry_kept s l.0 e l.1 k) l.2 (subst (λ (x : Followed). Leads x es u) (sym same) m.2)

pub one_follower : OneFollower
one_follower es s t l m = all_entries unfed s t es record { numbered = tt; fit = tt; ascend = tt; near = tt } l m

-- the records that were fed lead to the same follower
runs_of : (s t : Followed) (es : List Entry) → Leads s es t → Runs s (feedings_of es) t
runs_of s t [] l = l
runs_of s t (Feed r fed ∷ es) l = (l.0, l.1, runs_of l.0 t es l.2)
runs_of s t (Read version ∷ es) l = runs_of s t es (subst (λ (x : Followed). Leads x es t) l.1.1 l.2)
runs_of s t (Void ∷ es) l = runs_of s t es (subst (λ (x : Followed). Leads x es t) l.1 l.2)

fed_there : (es : List Entry) (f : Feeding) → Contains (feedings_of es) f → Contains es (Feed f.0 f.1)
fed_there [] f c = absurd (let lt = c.1 in omega (arith, lt))
fed_there (Feed r fed ∷ es) f c = elim (has_cases (r, fed) (feedings_of es) f c) [
  | inl same ↦ subst (λ (g : Feeding). Contains (Feed r fed ∷ es) (Feed g.0 g.1)) same (has_head (Feed r fed) es)
  | inr d ↦ has_tail (Feed r fed) es (Feed f.0 f.1) (fed_there es f d)
]
fed_there (Read version ∷ es) f c = has_tail (Read version) es (Feed f.0 f.1) (fed_there es f c)
fed_there (Void ∷ es) f c = has_tail Void es (Feed f.0 f.1) (fed_there es f c)

pub replica_follows : ReplicaFollows
replica_follows leader es s l c r = follows_leader leader (feedings_of es) s l (λ f d. c f.0 f.1 (fed_there es f d)) (runs_of unfed s es r)
