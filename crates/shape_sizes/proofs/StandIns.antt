-- Places that stand in for the qualified value shapes under a parent, and what a shape counts by them.
use Rattle.std.proofs.Common.{◌≡◌, ◌∙◌, ℕ, ◌+◌, ◌<◌, List, [], ◌∷◌, ◌++◌, length, Option, Some, None, refl, sym, ap, subst, arith, inl, inr}
use Rattle.std.specs.Prelude.{◌⊎◌, MatchOption, slice_get}
use Rattle.std.specs.List.{Contains}
use Rattle.std.proofs.lemmas.Bool.{cases_eq}
use Rattle.std.proofs.lemmas.List.Elements.{Contains-append_left, Contains-push, Contains-push_cases}
use Rattle.collections.specs.Listings.{IsListing}
use Rattle.rdf_model.specs.declared.term.Term.{Term}
use Rattle.rdf_model.specs.declared.term.Term.TheVariants.{Blank}
use Rattle.rdf_model.specs.declared.triple.Triple.{Triple}
use Rattle.rdf_model.specs.Terms.{term_cmp}
use Rattle.shape_model.specs.Readings.{Sibling}
use Rattle.shape_model.proofs.Declarations.{values_law}
use Rattle.reference_totals.specs.declared.place.WeightedPlace.{WeightedPlace}
use Rattle.shape_syntax.proofs.Items.{get_within}
use Rattle.shape_references.specs.Bundles.{IsName}
use Rattle.shape_references.specs.Siblings.{IsOnlyParent, IsQualifiedUnder}
use Rattle.shape_properties.specs.declared.property.ShapeProperty.TheVariants as properties
use Rattle.shape_properties.specs.Properties.{property_iri}
use Rattle.shape_properties.specs.Syntax.{HasProperty, IsShape}
use Rattle.shape_sizes.specs.Counted.{ArePlaces, AreShapePlaces, HaveNames, HaveStandIns, IsStandInPlace, IsUnqualified}
use Rattle.shape_sizes.specs.Sizes.{AreReferred, HasQualifiedCount, IsDeactivated, values}
use Rattle.shape_sizes.proofs.Referred.{is_value}
use Rattle.shape_sizes.proofs.SiblingSums.{out_ascending, out_members, without_all}

-- ---- the places

pub stand_ins_none : (s : List Triple) (parents : List Term) (places : List WeightedPlace) → HaveStandIns s parents 0 places places
stand_ins_none s parents places = record {
  each = λ q c. inl c;
  kept = λ q c. c;
  all = λ i p l e. absurd (omega arith);
}

pub stand_ins_next : (s : List Triple) (parents : List Term) (k : ℕ) (p : Term) (old now next : List WeightedPlace) (q : WeightedPlace) → slice_get parents k ≡ Some p → HaveStandIns s parents k old now
    → (q.node ≡ Blank 0 k) × (q.own ≡ 0) × IsListing term_cmp (IsQualifiedUnder s p) q.to → next ≡ now ++ q ∷ [] → HaveStandIns s parents (k + 1) old next
stand_ins_next s parents k p old now next q got before made e = subst (λ (ps : List WeightedPlace). HaveStandIns s parents (k + 1) old ps) (sym e) (record {
  each = λ r c. elim (Contains-push_cases now q r c) [
    | inl d ↦ before.each r d
    | inr f ↦ inr (subst (λ (x : WeightedPlace). IsStandInPlace s parents x) f (p, (k, got, made.0), made.1, made.2))
  ];
  kept = λ r c. Contains-append_left now (q ∷ []) r (before.kept r c);
  all = λ i m l f. elim (cases_eq i k) [
    | inl same ↦ (q, Contains-push now q, made.0 ∙ ap (λ j. Blank 0 j) (sym same))
    | inr other ↦ let r = before.all i m (omega arith) f in (r.0, Contains-append_left now (q ∷ []) r.0 r.1, r.2)
  ];
})

pub with_stand_ins : (s : List Triple) (W : Term → ℕ → Type 0) (parents : List Term) (old now : List WeightedPlace) → HaveNames s parents → AreShapePlaces s W parents old → HaveStandIns s parents (length parents) old now → ArePlaces s W parents now
with_stand_ins s W parents old now names shapes have = record {
  names = names;
  each = λ p c. elim (have.each p c) [ inl d ↦ inl (shapes.each p d) | inr h ↦ inr h ];
  all = λ n may. let p = shapes.all n may in (p.0, have.kept p.0 p.1, p.2);
  named = λ p x name. let q = have.all name.0 p (get_within parents name.0 p name.1) name.1 in (q.0, q.1, q.2 ∙ sym name.2);
}

pub no_names : (s : List Triple) (parents : List Term) → parents ≡ [] → HaveNames s parents
no_names s parents e = subst (λ (ps : List Term). HaveNames s ps) (sym e) (tt, λ n p x may name same. none name.0 p name.1)
  where
    none : (i : ℕ) (p : Term) → slice_get [] i ≡ Some p → ⊥
    none i p f = cc

pub apart_names : (s : List Triple) (shapes parents : List Term) → IsListing term_cmp (IsShape s) shapes → ((n : Term) → Contains shapes n → (i : ℕ) → n ≡ Blank 0 i → ⊥)
    → (n p x : Term) → IsShape s n → IsName parents p x → n ≡ x → ⊥
apart_names s shapes parents list apart n p x may name same = apart n ((list.members n).1 may) name.0 (same ∙ name.2)

pub named_by : (s : List Triple) (parents : List Term) (n p : Term) (o : Option Term) → MatchOption o (Unit {0}) (λ x. IsName parents p x) → IsOnlyParent s n p
    → MatchOption o (Unit {0}) (λ x. (q : Term) × IsName parents q x × IsOnlyParent s n q)
named_by s parents n p None h only = tt
named_by s parents n p (Some x) h only = (p, h, only)

-- ---- what a shape counts by them

-- its own qualified value shapes are under its parent
pub own_under : (s : List Triple) (n p : Term) (zs : List Term) → IsOnlyParent s n p → IsListing term_cmp (IsQualifiedUnder s p) zs → (v : Term) → Contains (values s n properties.QualifiedValueShape) v → Contains zs v
own_under s n p zs only list v c = (list.members v).1 (n, only.1.0, is_value s n properties.QualifiedValueShape v c)

-- the others there are its siblings
siblings_under : (s : List Triple) (n p : Term) (zs : List Term) → IsOnlyParent s n p → IsListing term_cmp (IsQualifiedUnder s p) zs
    → IsListing term_cmp (Sibling s n) (without_all (values s n properties.QualifiedValueShape) zs)
siblings_under s n p zs only list =
    let vs = values s n properties.QualifiedValueShape in
    record {
      ascending = out_ascending vs zs list.ascending;
      members = λ t. let out = out_members vs zs list.ascending t in (
        λ c. let k = out.0 c in let u = (list.members t).0 k.0 in
            (only.0.0, only.0.1, λ own. k.1 (((values_law s n (property_iri properties.QualifiedValueShape)).members t).1 own), (p, u.0, only.1.0, u.1, u.2)),
        λ h.
            let q = h.3 in
            let same : q.0 ≡ p = only.1.1 q.0 q.2 in
            out.1 ((list.members t).1 (q.1, subst (λ (m : Term). HasProperty s m properties.Property q.1) same q.3, q.4), λ d. h.2 (is_value s n properties.QualifiedValueShape t d)),
      );
    }

pub referred_by : (s : List Triple) (n p : Term) (ms zs : List Term) → (IsDeactivated s n → ⊥) → IsUnqualified s n ms → HasQualifiedCount s n → IsOnlyParent s n p → IsListing term_cmp (IsQualifiedUnder s p) zs
    → AreReferred s n (ms ++ (values s n properties.QualifiedValueShape ++ without_all (values s n properties.QualifiedValueShape) zs))
referred_by s n p ms zs active unqualified count only list =
    let vs = values s n properties.QualifiedValueShape in
    inr (
      active,
      (
        unqualified.0,
        vs ++ without_all vs zs,
        unqualified.1,
        inl (count, (without_all vs zs, siblings_under s n p zs only list, refl)),
        ap (λ (xs : List Term). xs ++ (vs ++ without_all vs zs)) unqualified.2,
      ),
    )
