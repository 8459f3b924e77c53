-- The first node on a loop, among the subjects of triples that ascend.
use Rattle.std.proofs.Common.{◌≡◌, ℕ, zero, suc, ◌<◌, List, [], ◌∷◌, length, take, get_or, sym, subst, ap, ◌∙◌, arith, inl, inr, refl}
use Rattle.std.specs.Prelude.{◌⊎◌, ◌≢◌}
use Rattle.std.specs.List.{Contains}
use Rattle.std.specs.Ordering.{ordering_then}
use Rattle.std.specs.declared.cmp.Ordering.{Ordering}
use Rattle.std.specs.declared.cmp.Ordering.TheVariants.{Less, Equal, Greater}
use Rattle.std.specs.Cmp.{tied_itself}
use Rattle.collections.specs.Ordered.{IsAscending}
use Rattle.collections.proofs.Members.{below, has_cases, has_equal, has_tail}
use Rattle.rdf_model.specs.declared.term.Term.{Term}
use Rattle.rdf_model.specs.declared.triple.Triple.{Triple}
use Rattle.rdf_model.specs.Terms.{term_cmp, triple_cmp}
use Rattle.rdf_model.specs.Orders.{term_total}
use Rattle.shape_references.specs.Chains.{Chain, HasLoopAt, IsJoined, IsLeastOnLoop, LeadsBack}

-- an item of an ascending list stands before another, or is it, or is above it
around : {X : Type 0} → (R : X → X → Ordering) (xs : List X) (i : ℕ) (x m : X) → IsAscending R xs → i < length xs → x ≡ get_or xs i x → Contains xs m → Contains (take i xs) m ⊎ ((x ≡ m) ⊎ (R x m ≡ Less))
around R [] i x m asc l e c = absurd (omega arith)
around {X} R (y ∷ ys) zero x m asc l e c = elim (has_cases y ys m c) [
  | inl f ↦ inr (inl (e ∙ f))
  | inr d ↦ inr (inr (subst (λ (z : X). R z m ≡ Less) (sym e) (below R y ys m asc.0 d)))
]
around R (y ∷ ys) (suc i) x m asc l e c = elim (has_cases y ys m c) [
  | inl f ↦ inl (has_equal y (take i ys) m f)
  | inr d ↦ elim (around R ys i x m asc.1 (omega arith) e d) [
    | inl k ↦ inl (has_tail y (take i ys) m k)
    | inr k ↦ inr k
  ]
]

-- a loop begins with a triple
first_step : (g : List Triple) (n : Term) (ms : List Term) (b : Term) → Chain (IsJoined g) n ms b → n ≡ b → (t : Triple) × Contains g t × (t.subject ≡ n) × LeadsBack g t
first_step g n [] b h e = (record { subject = n; predicate = h.0; object = b }, h.1, refl, inl (sym e))
first_step g n (m ∷ ms) b h e =
    (record { subject = n; predicate = h.0.0; object = m }, h.0.1, refl, inr (ms, subst (λ (x : Term). Chain (IsJoined g) m ms x) (sym e) h.1))

pub loop_back : (g : List Triple) (n : Term) → HasLoopAt g n → (t : Triple) × Contains g t × (t.subject ≡ n) × LeadsBack g t
loop_back g n loop = first_step g n loop.0 n loop.1 refl

-- a triple over which a chain leads back shows a loop
pub back_loop : (g : List Triple) (t : Triple) → Contains g t → LeadsBack g t → HasLoopAt g t.subject
back_loop g t c back = elim back [
  | inl same ↦ ([], (t.predicate, subst (λ (x : Term). Contains g (record { subject = t.subject; predicate = t.predicate; object = x })) same c))
  | inr chain ↦ (t.object ∷ chain.0, ((t.predicate, c), chain.1))
]

not_after_itself : (x : Term) → term_cmp x x ≢ Greater
not_after_itself x h = let k = tied_itself term_total x in cc

then_less : (a b : Ordering) → ordering_then a b ≡ Less → a ≢ Greater
then_less Less b e f = cc
then_less Equal b e f = cc
then_less Greater b e f = cc

pub first_is_least : (g : List Triple) (i : ℕ) (t : Triple) → IsAscending triple_cmp g → i < length g → t ≡ get_or g i t → ((u : Triple) → Contains (take i g) u → LeadsBack g u → ⊥) → HasLoopAt g t.subject → IsLeastOnLoop g t.subject
first_is_least g i t asc l e before here = (
  here,
  λ m loop.
      let u = loop_back g m loop in
      elim (around triple_cmp g i t u.0 asc l e u.1) [
        | inl k ↦ absurd (before u.0 k u.3)
        | inr (inl same) ↦ subst (λ (z : Term). term_cmp t.subject z ≢ Greater) (ap (λ (x : Triple). x.subject) same ∙ u.2) (not_after_itself t.subject)
        | inr (inr less) ↦ subst (λ (z : Term). term_cmp t.subject z ≢ Greater) u.2 (then_less (term_cmp t.subject u.0.subject) _ less)
      ],
)

pub none_on_loop : (g : List Triple) → ((t : Triple) → Contains g t → LeadsBack g t → ⊥) → (n : Term) → HasLoopAt g n → ⊥
none_on_loop g none n loop = let t = loop_back g n loop in none t.0 t.1 t.3
