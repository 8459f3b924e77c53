-- The places of paths, and the nodes that may need one, as they are gathered.
use Rattle.std.proofs.Common.{◌≡◌, ◌∙◌, ℕ, ◌+◌, ◌<◌, List, [], ◌∷◌, ◌++◌, length, take, get_or, sym, subst, arith, inl, inr}
use Rattle.std.specs.Prelude.{◌⊎◌, ◌↔◌}
use Rattle.std.specs.List.{Contains}
use Rattle.std.proofs.lemmas.List.Elements.{Contains-append_left, Contains-push, Contains-push_cases}
use Rattle.collections.specs.Listings.{IsListing}
use Rattle.rdf_model.specs.declared.term.Term.{Term}
use Rattle.rdf_model.specs.declared.triple.Triple.{Triple}
use Rattle.rdf_model.specs.Terms.{term_cmp}
use Rattle.shape_syntax.specs.Gathering.{Gives}
use Rattle.shape_syntax.specs.PathNodes.{IsPath}
use Rattle.shape_syntax.proofs.Scans.{cases_more}
use Rattle.reference_totals.specs.declared.place.WeightedPlace.{WeightedPlace}
use Rattle.shape_sizes.specs.PathLooks.{ArePathPlaces, IsPathPlace, LeadsToPath, MayBePath}

-- the places of so many nodes, as far as they stand for paths
pub record HavePathPlaces (s : List Triple) (nodes : List Term) (places : List WeightedPlace) : Type 0 where
  pub each : (p : WeightedPlace) → Contains places p → IsPathPlace s p
  pub all : (n : Term) → Contains nodes n → IsPath s n → (p : WeightedPlace) × Contains places p × (p.node ≡ n)

pub places_none : (s : List Triple) (nodes : List Term) → HavePathPlaces s (take 0 nodes) []
places_none s nodes = record {
  each = λ p c. absurd (let k = c.1 in omega arith);
  all = λ n c. absurd (let k = c.1 in omega arith);
}

places_more : (s : List Triple) (nodes : List Term) (i : ℕ) (n : Term) (places : List WeightedPlace) (p : WeightedPlace) → i < length nodes → n ≡ get_or nodes i n
    → HavePathPlaces s (take i nodes) places → IsPathPlace s p → p.node ≡ n → HavePathPlaces s (take (i + 1) nodes) (places ++ p ∷ [])
places_more s nodes i n places p l e before of same = record {
  each = λ q c. elim (Contains-push_cases places p q c) [
    | inl old ↦ before.each q old
    | inr g ↦ subst (λ (x : WeightedPlace). IsPathPlace s x) g of
  ];
  all = λ m c path. elim (cases_more nodes i n l e m c) [
    | inl old ↦ let k = before.all m old path in (k.0, Contains-append_left places (p ∷ []) k.0 k.1, k.2)
    | inr g ↦ (p, Contains-push places p, same ∙ g)
  ];
}

places_same : (s : List Triple) (nodes : List Term) (i : ℕ) (n : Term) (places : List WeightedPlace) → i < length nodes → n ≡ get_or nodes i n
    → HavePathPlaces s (take i nodes) places → (IsPath s n → ⊥) → HavePathPlaces s (take (i + 1) nodes) places
places_same s nodes i n places l e before never = record {
  each = before.each;
  all = λ m c path. elim (cases_more nodes i n l e m c) [
    | inl old ↦ before.all m old path
    | inr g ↦ absurd (never (subst (λ (x : Term). IsPath s x) (sym g) path))
  ];
}

pub places_next : (s : List Triple) (nodes : List Term) (i : ℕ) (n : Term) (places next : List WeightedPlace) → i < length nodes → n ≡ get_or nodes i n → HavePathPlaces s (take i nodes) places
    → ((p : WeightedPlace) × IsPathPlace s p × (p.node ≡ n) × (next ≡ places ++ p ∷ [])) ⊎ ((IsPath s n → ⊥) × (next ≡ places)) → HavePathPlaces s (take (i + 1) nodes) next
places_next s nodes i n places next l e before (inl h) = subst (λ (ps : List WeightedPlace). HavePathPlaces s (take (i + 1) nodes) ps) (sym h.3) (places_more s nodes i n places h.0 l e before h.1 h.2)
places_next s nodes i n places next l e before (inr h) = subst (λ (ps : List WeightedPlace). HavePathPlaces s (take (i + 1) nodes) ps) (sym h.1) (places_same s nodes i n places l e before h.0)

pub places_all : (s : List Triple) (nodes : List Term) (places : List WeightedPlace) → ((n : Term) → Contains nodes n ↔ MayBePath s n) → HavePathPlaces s nodes places → ArePathPlaces s places
places_all s nodes places all have = record { each = have.each; all = λ n object path. have.all n ((all n).1 object) path }

-- what a triple gives
abbrev pub IsPathValueOf : Triple → Term → Type 0
IsPathValueOf t n = LeadsToPath t.predicate × (t.object ≡ n)

pub values_found : (s : List Triple) (nodes sorted : List Term) → ((n : Term) → Contains nodes n ↔ Gives IsPathValueOf s n) → IsListing term_cmp (Contains nodes) sorted → (n : Term) → Contains sorted n ↔ MayBePath s n
values_found s nodes sorted all listing n = (
  λ c. let g = (all n).0 ((listing.members n).0 c) in (g.0, g.1, g.2.0, g.2.1),
  λ h. (listing.members n).1 ((all n).1 (h.0, h.1, (h.2, h.3))),
)
