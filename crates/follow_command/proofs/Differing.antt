-- Records of one log never differ.
use Rattle.std.proofs.Common.{◌≡◌, ◌∙◌, ◌+◌, ℕ, List, [], ◌∷◌, ◌++◌, Option, None, Some, sym, ap, subst, arith, inl, inr}
use Rattle.std.specs.List.{AllByRecursion, Contains}
use Rattle.std.proofs.lemmas.List.Elements.{Contains-append_cases, Contains-append_left, Contains-append_right}
use Rattle.collections.proofs.Members.{has_cases, has_tail}
use Rattle.record_text.specs.declared.record.Record.{Record}
use Rattle.commit_log.specs.Format.{AreRecordsFrom}
use Rattle.follower.specs.declared.fed.Fed.{Fed}
use Rattle.follower.specs.declared.fed.Fed.TheVariants.{Differs, Known, Window, Full, Waiting, Misfit, Applied}
use Rattle.follower.specs.Followed.{EndsWith, Feeds, Followed, IsApplied, IsThere, unfed, with_kept}
use Rattle.follower.specs.Laws.{Feeding, Runs}
use Rattle.follower.specs.Records.{AreNumberedFrom}
use Rattle.follower.proofs.Placed.{numbers_within, placed_cases}
use Rattle.follow_command.specs.Laws.{IsAlike, NoneDiffer}
use Rattle.follow_command.specs.Printing.{FedInOrder}

numbered_of : (n : ℕ) (rs : List Record) → AreRecordsFrom n rs → AreNumberedFrom n rs
numbered_of n [] a = tt
numbered_of n (r ∷ rs) a = (a.0, numbered_of (n + 1) rs a.2)

-- one record stands under a number
one_record : (n : ℕ) (rs : List Record) (x y : Record) → AreNumberedFrom n rs → Contains rs x → Contains rs y → x.number ≡ y.number → x ≡ y
one_record n [] x y a c d e = absurd (let lt = c.1 in omega (arith, lt))
one_record n (r ∷ rs) x y a c d e =
    let first : r.number ≡ n = a.0 in
    elim (has_cases r rs x c) [
      | inl p ↦ elim (has_cases r rs y d) [
        | inl q ↦ sym p ∙ q
        | inr q ↦ absurd (let low = (numbers_within (n + 1) rs y a.1 q).0 in let same = ap (λ (z : Record). z.number) p in omega (arith, low, same, first, e))
      ]
      | inr p ↦ elim (has_cases r rs y d) [
        | inl q ↦ absurd (let low = (numbers_within (n + 1) rs x a.1 p).0 in let same = ap (λ (z : Record). z.number) q in omega (arith, low, same, first, e))
        | inr q ↦ one_record (n + 1) rs x y a.1 p q e
      ]
    ]

-- all that the follower has is of the log
abbrev AllOf : List Record → Followed → Type 0
AllOf records s = (x : Record) → IsThere s x → Contains records x

same_of : (records : List Record) (s t : Followed) → t ≡ s → AllOf records s → AllOf records t
same_of records s t e a = subst (λ (u : Followed). AllOf records u) (sym e) a

kept_of : (records : List Record) (s t : Followed) (r : Record) → t ≡ with_kept s r → Contains records r → AllOf records s → AllOf records t
kept_of records s t r e c a = subst (λ (u : Followed). AllOf records u) (sym e) (λ x there. elim there [
  | inl d ↦ a x (inl d)
  | inr d ↦ elim (placed_cases r s.kept x d) [ inl same ↦ subst (λ (y : Record). Contains records y) same c | inr k ↦ a x (inr k) ]
])

left_of : (applied left : List Record) (o : Option ℕ) (kept : List Record) → EndsWith applied left o kept → (x : Record) → Contains kept x → Contains left x
left_of applied left None kept e x c = subst (λ (ks : List Record). Contains ks x) e.0 c
left_of applied left (Some n) kept e x c = subst (λ (ks : List Record). Contains ks x) (sym e.1) (has_tail e.0 kept x c)

applied_of : (records : List Record) (s t : Followed) (r : Record) (dropped : Option ℕ) → IsApplied s r dropped t → Contains records r → AllOf records s → AllOf records t
applied_of records s t r dropped n c a x there =
    let kept : (y : Record) → Contains (n.moved ++ n.left) y → Contains records y = λ y d. a y (inr (subst (λ (ks : List Record). Contains ks y) (sym n.kept) d)) in
    elim there [
      | inl d ↦ elim (Contains-append_cases s.applied (r ∷ n.moved) x (subst (λ (rs : List Record). Contains rs x) n.applied d)) [
        | inl l ↦ a x (inl l)
        | inr l ↦ elim (has_cases r n.moved x l) [ inl same ↦ subst (λ (y : Record). Contains records y) same c | inr m ↦ kept x (Contains-append_left n.moved n.left x m) ]
      ]
      | inr d ↦ kept x (Contains-append_right n.moved n.left x (left_of t.applied n.left dropped t.kept n.ends x d))
    ]

fed_of : (records : List Record) (s t : Followed) (r : Record) (a : Fed) → Feeds s r a t → Contains records r → AllOf records s → AllOf records t
fed_of records s t r (Differs number) f c a = same_of records s t f.2 a
fed_of records s t r (Known version) f c a = same_of records s t f.2 a
fed_of records s t r (Window version) f c a = same_of records s t f.3 a
fed_of records s t r (Full count) f c a = same_of records s t f.4 a
fed_of records s t r (Waiting version) f c a = kept_of records s t r f.3 c a
fed_of records s t r (Misfit number triple) f c a = same_of records s t f.4 a
fed_of records s t r (Applied version dropped) f c a = applied_of records s t r dropped f.4 c a

alike : (records : List Record) (s t : Followed) (r : Record) (a : Fed) → AreNumberedFrom 1 records → Feeds s r a t → Contains records r → AllOf records s → IsAlike a
alike records s t r (Differs number) n f c a =
    let other = f.0.0 in absurd (f.0.3 (one_record 1 records other r n (a other f.0.1) c f.0.2))
alike records s t r (Known version) n f c a = tt
alike records s t r (Window version) n f c a = tt
alike records s t r (Full count) n f c a = tt
alike records s t r (Waiting version) n f c a = tt
alike records s t r (Misfit number triple) n f c a = tt
alike records s t r (Applied version dropped) n f c a = tt

all_alike : (records : List Record) (ns : List ℕ) (fs : List Feeding) (s t : Followed) → AreNumberedFrom 1 records → FedInOrder records ns fs → Runs s fs t → AllOf records s → AllByRecursion (λ f. IsAlike f.1) fs
all_alike records [] [] s t n o r a = tt
all_alike records [] (f ∷ fs) s t n o r a = absurd o
all_alike records (m ∷ ns) [] s t n o r a = absurd o
all_alike records (m ∷ ns) (f ∷ fs) s t n o r a = (alike records s r.0 f.0 f.1 n r.1 o.0 a, all_alike records ns fs r.0 t n o.2 r.2 (fed_of records s r.0 f.0 f.1 r.1 o.0 a))

pub none_differ : NoneDiffer
none_differ records ns fs s n o r = all_alike records ns fs unfed s (numbered_of 1 records n) o r (λ x there. elim there [
  | inl d ↦ absurd (let lt = d.1 in omega (arith, lt))
  | inr d ↦ absurd (let lt = d.1 in omega (arith, lt))
])
