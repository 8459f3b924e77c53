-- What a follower keeps, when a record is kept and when records are applied.
use Rattle.std.proofs.Common.{◌≡◌, ◌∙◌, ◌<◌, ◌≤◌, ◌+◌, ◌-◌, ℕ, suc, List, [], ◌∷◌, ◌++◌, length, take, drop, Option, None, Some, refl, sym, ap, subst, arith, length-append, inr}
use Rattle.std.specs.Prelude.{IsSome, slice_index_or}
use Rattle.std.proofs.lemmas.List.{take_all}
use Rattle.std.proofs.Math.Seq.{drop-append_seam, take-append_seam}
use Rattle.std.specs.List.{AllByRecursion}
use Rattle.rdf_model.specs.declared.triple.Triple.{Triple}
use Rattle.record_text.specs.declared.record.Record.{Record}
use Rattle.term_dict.specs.Names.{Named, with_terms}
use Rattle.follower.specs.declared.version.Outcome.TheVariants.{Next}
use Rattle.follower.specs.declared.version.Version.{Version}
use Rattle.follower.specs.Followed.{AscendFrom, EndsWith, Followed, IsApplied, IsTaken, most_ahead, placed, version_of}
use Rattle.follower.specs.Numbered.{IsNamedRecord}
use Rattle.follower.specs.Records.{AreNumberedFrom, Fits, data_after, data_from, data_of, shapes_after, shapes_of, terms_of}
use Rattle.follower.specs.Versions.{AreNamesWith, AreVersions, CanAdvance, EndsRun, Follows, IsFollower, IsRun, IsVersion, left_after}
use Rattle.follower.proofs.Growing.{index_more, record_stays}
use Rattle.follower.proofs.Placed.{ascend_placed, each_behind, each_of, each_placed, gap_ascend, left_ascend}
use Rattle.follower.proofs.Sequences.{as_many, data_joined, fit_joined, numbered_joined, version_there, versions_joined, versions_stay}

-- a follower as contracts see it
abbrev pub seen : List Record → List Record → Named → Followed
seen applied kept names = record { applied = applied; kept = kept; terms = names.terms }

-- what is named stays named, with the names of one record more
pub all_stay : (old names : Named) (applied kept rs : List Record) (r : Record) → AreNamesWith (seen applied kept old) r names → AllByRecursion (IsNamedRecord old.terms) rs → AllByRecursion (IsNamedRecord names.terms) rs
all_stay old names applied kept rs r n a =
    subst (λ (d : Named). AllByRecursion (IsNamedRecord d.terms) rs) (sym n.are) (each_of (IsNamedRecord old.terms) (IsNamedRecord (with_terms old.terms (terms_of r))) (record_stays old.terms (terms_of r)) rs a)

pub each_stays : (old names : Named) (applied kept : List Record) (r : Record) (g s : List Triple) (rs : List Record) (xs : List Version) → AreNamesWith (seen applied kept old) r names → AreVersions old.terms g s rs xs → AreVersions names.terms g s rs xs
each_stays old names applied kept r g s rs xs n a = subst (λ (d : Named). AreVersions d.terms g s rs xs) (sym n.are) (versions_stay old.terms (terms_of r) g s rs xs a)

pub newest_stays : (s : Followed) (names : Named) (r : Record) (x : Version) (v : ℕ) → AreNamesWith s r names → v ≡ length s.applied → IsVersion s.terms (data_of (take v s.applied)) (shapes_of (take v s.applied)) x →
    IsVersion names.terms (data_of s.applied) (shapes_of s.applied) x
newest_stays s names r x v n e i =
    let all : take v s.applied ≡ s.applied = take_all v s.applied (omega (arith, e)) in
    let here : IsVersion s.terms (data_of s.applied) (shapes_of s.applied) x = subst (λ (rs : List Record). IsVersion s.terms (data_of rs) (shapes_of rs) x) all i in
    subst (λ (d : Named). IsVersion d.terms (data_of s.applied) (shapes_of s.applied) x) (sym n.are) (index_more s.terms (terms_of r) x.graph (data_of s.applied) here.0, here.1)

-- a record that follows and fits can be applied, with the kept ones that were
pub can_advance : (s : Followed) (names : Named) (r : Record) (newest first : Version) (kept : List Record) (versions : List Version) (dropped : Option ℕ) → r.number ≡ version_of s + 1 → AreNamesWith s r names →
    IsVersion names.terms (data_of s.applied) (shapes_of s.applied) newest → Follows names.terms (data_of s.applied) newest.shapes r (Next first) → kept ≡ s.kept →
    IsRun names.terms r.number (data_after (data_of s.applied) r) first kept versions dropped → CanAdvance s r names versions dropped
can_advance s names r newest first kept versions dropped e n i f k run = record {
  follows = e;
  fits = f.0;
  names_are = n;
  first = first;
  first_is = subst (λ (t : List Triple). IsVersion names.terms (data_after (data_of s.applied) r) (shapes_after t r) first) i.1 f.1;
  run = subst (λ (ks : List Record). IsRun names.terms r.number (data_after (data_of s.applied) r) first ks versions dropped) k run;
}

-- where a record is kept
pub kept_on : (applied kept kept' : List Record) (versions : List Version) (old names : Named) (r : Record) → IsFollower applied kept versions old → IsTaken (seen applied kept old) r → length applied + 1 < r.number →
    AreNamesWith (seen applied kept old) r names → kept' ≡ placed r kept → IsFollower applied kept' versions names
kept_on applied kept kept' versions old names r f t lt n e = subst (λ (ks : List Record). IsFollower applied ks versions names) (sym e) (record {
  numbered = f.numbered;
  fit = f.fit;
  ascend = ascend_placed (length applied + 1) r kept lt (λ x c. t.new x (inr c)) f.ascend;
  near = each_placed (λ (x : Record). x.number ≤ length applied + most_ahead) r kept (near r.number (length applied + most_ahead) (λ far. t.inside (inr far))) f.near;
  named = each_placed (IsNamedRecord names.terms) r kept n.named (all_stay old names applied kept kept r n f.named);
  each = each_stays old names applied kept r [] [] applied versions n f.each;
  limit = ap (λ (d : Named). d.limit) n.are;
})
  where
    near : (a b : ℕ) → (b < a → ⊥) → a ≤ b
    near a b n = grind (arith, n)

-- the version of a number
pub version_seen : (s : Followed) (applied kept : List Record) (versions : List Version) (names : Named) (v : ℕ) (x y : Version) → s ≡ seen applied kept names → IsFollower applied kept versions names → 0 < v → v ≤ length s.applied →
    x ≡ slice_index_or versions (v - 1) x → y ≡ x → IsVersion s.terms (data_of (take v s.applied)) (shapes_of (take v s.applied)) y
version_seen s applied kept versions names v x y e f pos le is same =
    let many = as_many names.terms [] [] applied versions f.each in
    let size = ap (λ (t : Followed). length t.applied) e in
    let at : IsVersion names.terms (data_of (take (suc (v - 1)) applied)) (shapes_of (take (suc (v - 1)) applied)) (slice_index_or versions (v - 1) x) =
    version_there names.terms [] [] applied versions (v - 1) x f.each (omega (arith, many, size, pos, le)) in
    let one : suc (v - 1) ≡ v = omega (arith, pos) in
    let here = subst (λ (n : ℕ). IsVersion names.terms (data_of (take n applied)) (shapes_of (take n applied)) (slice_index_or versions (v - 1) x)) one at in
    subst (λ (t : Followed). IsVersion t.terms (data_of (take v t.applied)) (shapes_of (take v t.applied)) y) (sym e)
    (subst (λ (z : Version). IsVersion names.terms (data_of (take v applied)) (shapes_of (take v applied)) z) (sym (same ∙ is)) here)

-- where records are applied: those that were moved and those that are left
module _ (applied kept : List Record) (versions : List Version) (old names : Named) (r : Record) (ms : List Version) (dropped : Option ℕ) (f : IsFollower applied kept versions old) (a : CanAdvance (seen applied kept old) r names ms dropped) where
  abbrev pub moved : List Record
  moved = a.run.moved

  abbrev pub left : List Record
  left = a.run.left

  pub moved_many : (count : ℕ) → count + 1 ≡ length ms → count ≡ length moved
  moved_many count e =
      let many = as_many names.terms (data_after (data_of applied) r) a.first.shapes moved a.run.run.more a.run.run.each in
      let all = ap length a.run.run.versions_are in
      omega (arith, e, many, all)

  pub moved_taken : (count : ℕ) → count + 1 ≡ length ms → take count kept ≡ moved
  moved_taken count e = (λ k. take (moved_many count e k) (a.run.kept_is k)) ∙ take-append_seam moved left

  pub left_dropped : (count : ℕ) → count + 1 ≡ length ms → drop count kept ≡ left
  left_dropped count e = (λ k. drop (moved_many count e k) (a.run.kept_is k)) ∙ drop-append_seam moved left

  pub count_there : (count : ℕ) → count + 1 ≡ length ms → count ≤ length kept
  count_there count e =
      let many = moved_many count e in
      let size = ap length a.run.kept_is in
      let parts = length-append moved left in
      omega (arith, many, size, parts)

  pub one_there : (count : ℕ) → count + 1 ≡ length ms → IsSome dropped → count < length kept
  one_there count e some =
      let many = moved_many count e in
      let size = ap length a.run.kept_is in
      let parts = length-append moved left in
      let one : 0 < length left = first_left (number_of_last) (data_from (data_after (data_of applied) r) moved) left dropped a.run.ends some in
      omega (arith, many, size, parts, one)
    where
      number_of_last : ℕ
      number_of_last = r.number + length moved

      first_left : (n : ℕ) (g : List Triple) (ds : List Record) (o : Option ℕ) → EndsRun n g ds o → IsSome o → 0 < length ds
      first_left n g ds None e some = cc
      first_left n g ds (Some k) e some = let is = ap length e.2 in omega (arith, is)

  -- the graphs after them
  data_is : data_of (applied ++ r ∷ moved) ≡ data_from (data_after (data_of applied) r) moved
  data_is = data_joined [] applied (r ∷ moved)

  size_is : length (applied ++ r ∷ moved) ≡ r.number + length moved
  size_is = let all = length-append applied (r ∷ moved) in let at = a.follows in omega (arith, all, at)

  behind : AscendFrom (r.number + length moved) left
  behind =
      let at : length applied + 1 ≡ r.number = sym a.follows in
      let all : AscendFrom r.number (moved ++ left) = subst (λ (n : ℕ). AscendFrom n (moved ++ left)) at (subst (λ (ks : List Record). AscendFrom (length applied + 1) ks) a.run.kept_is f.ascend) in
      left_ascend r.number moved left a.run.run.numbered all

  -- what is kept of those that are left
  kept_ascend : (o : Option ℕ) (n : ℕ) (g : List Triple) (ds : List Record) → EndsRun n g ds o → AscendFrom n ds → AscendFrom (n + 1) (left_after o ds)
  kept_ascend None n g ds e b = gap_ascend n (n + 1) ds refl e b
  kept_ascend (Some k) n g ds e b =
      let d = e.0 in
      let rest = e.1 in
      let c : AscendFrom n (d ∷ rest) = subst (λ (xs : List Record). AscendFrom n xs) e.2 b in
      let at : d.number ≡ n + 1 = e.3 ∙ e.4 in
      subst (λ (xs : List Record). AscendFrom (n + 1) xs) (sym (ap (drop 1) e.2)) (subst (λ (m : ℕ). AscendFrom m rest) at c.1)

  kept_each : (P : Record → Type 0) (o : Option ℕ) (ds : List Record) → AllByRecursion P ds → AllByRecursion P (left_after o ds)
  kept_each P None ds p = p
  kept_each P (Some k) [] p = tt
  kept_each P (Some k) (d ∷ ds) p = p.1

  left_each : (P : Record → Type 0) → AllByRecursion P kept → AllByRecursion P (left_after dropped left)
  left_each P p = kept_each P dropped left (each_behind P moved left (subst (λ (ks : List Record). AllByRecursion P ks) a.run.kept_is p))

  pub advanced : IsFollower (applied ++ r ∷ moved) (left_after dropped left) (versions ++ ms) names
  advanced =
      let n = a.names_are in
      let shapes : a.first.shapes ≡ shapes_after (shapes_of applied) r = a.first_is.1 in
      record {
        numbered = numbered_joined 1 (length applied + 1) applied (r ∷ moved) (omega arith) f.numbered (a.follows, (subst (λ (m : ℕ). AreNumberedFrom (m + 1) moved) a.follows a.run.run.numbered));
        fit = fit_joined [] applied (r ∷ moved) f.fit (a.fits, a.run.run.fit);
        ascend = subst (λ (m : ℕ). AscendFrom (m + 1) (left_after dropped left)) (sym size_is) (kept_ascend dropped (r.number + length moved) (data_from (data_after (data_of applied) r) moved) left a.run.ends behind);
        near = left_each (λ (x : Record). x.number ≤ length (applied ++ r ∷ moved) + most_ahead)
            (each_of (λ (x : Record). x.number ≤ length applied + most_ahead) (λ (x : Record). x.number ≤ length (applied ++ r ∷ moved) + most_ahead) (λ x le. let at = a.follows in let size = size_is in omega (arith, le, at, size)) kept f.near);
        named = left_each (IsNamedRecord names.terms) (all_stay old names applied kept kept r n f.named);
        each = versions_joined names.terms [] [] applied (r ∷ moved) versions ms (each_stays old names applied kept r [] [] applied versions n f.each)
            (subst (λ (xs : List Version). AreVersions names.terms (data_of applied) (shapes_of applied) (r ∷ moved) xs) (sym a.run.run.versions_are)
            (a.first_is, subst (λ (t : List Triple). AreVersions names.terms (data_after (data_of applied) r) t moved a.run.run.more) shapes a.run.run.each));
        limit = ap (λ (d : Named). d.limit) n.are;
      }

  ends_so : (o : Option ℕ) (n : ℕ) (g : List Triple) (ds rs : List Record) → n ≡ length rs → g ≡ data_of rs → EndsRun n g ds o → EndsWith rs ds o (left_after o ds)
  ends_so None n g ds rs e h x = (refl, gap n (length rs) ds e x)
    where
      gap : (n m : ℕ) (ds : List Record) → n ≡ m → EndsRun n g ds None → EndsRun m g ds None
      gap n m ds e x = subst (λ (k : ℕ). EndsRun k g ds None) e x
  ends_so (Some k) n g ds rs e h x =
      let d = x.0 in
      let rest = x.1 in
      (d, x.2 ∙ sym (ap (λ (xs : List Record). d ∷ drop 1 xs) x.2), x.3, x.4 ∙ ap (λ (m : ℕ). m + 1) e, λ fits. x.5 (subst (λ (i : List Triple). Fits i d) (sym h) fits))

  pub applied_so : (new : Followed) → new.applied ≡ applied ++ r ∷ moved → new.kept ≡ left_after dropped left → new.terms ≡ names.terms → IsApplied (seen applied kept old) r dropped new
  applied_so new na nk nt = record {
    moved = moved;
    applied = na;
    numbered = a.run.run.numbered;
    fit = a.run.run.fit;
    left = left;
    kept = a.run.kept_is;
    ends = subst (λ (rs : List Record). EndsWith rs left dropped new.kept) (sym na)
        (subst (λ (ks : List Record). EndsWith (applied ++ r ∷ moved) left dropped ks) (sym nk)
        (ends_so dropped (r.number + length moved) (data_from (data_after (data_of applied) r) moved) left (applied ++ r ∷ moved) (sym size_is) (sym data_is) a.run.ends));
    terms = nt ∙ ap (λ (d : Named). d.terms) a.names_are.are;
  }

-- what a follower keeps, however its lists were made
pub carried : (applied applied' kept kept' : List Record) (versions versions' : List Version) (names : Named) → applied' ≡ applied → kept' ≡ kept → versions' ≡ versions → IsFollower applied kept versions names →
    IsFollower applied' kept' versions' names
carried applied applied' kept kept' versions versions' names a k v f =
    subst (λ (rs : List Record). IsFollower rs kept' versions' names) (sym a)
    (subst (λ (rs : List Record). IsFollower applied rs versions' names) (sym k) (subst (λ (xs : List Version). IsFollower applied kept xs names) (sym v) f))
