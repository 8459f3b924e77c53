-- Terms that are kept, and what is numbered by them, as more terms come.
use Rattle.std.proofs.Common.{◌≡◌, ◌∙◌, ℕ, ◌<◌, Bool, List, [], ◌∷◌, ◌++◌, length, true, false, refl, sym, subst, ap, arith, inl, inr, length-append}
use Rattle.std.specs.Prelude.{◌↔◌, ◌||◌, IsTrue, cond}
use Rattle.std.specs.List.{Contains}
use Rattle.std.proofs.Math.ListN.{get_or-append}
use Rattle.std.specs.declared.cmp.Ordering.{Ordering}
use Rattle.std.specs.declared.cmp.Ordering.TheVariants.{Less, Equal, Greater}
use Rattle.std.specs.Cmp.{tied_itself}
use Rattle.std.specs.Ordering.{is_eq, eq_by_cmp}
use Rattle.collections.specs.Ordered.{has_item}
use Rattle.collections.proofs.Members.{has_cases, has_equal, has_tail}
use Rattle.rdf_model.specs.declared.ids.Ids.{Ids}
use Rattle.rdf_model.specs.declared.term.Term.{Term}
use Rattle.rdf_model.specs.declared.term.Term.TheVariants.{Blank}
use Rattle.rdf_model.specs.declared.triple.Triple.{Triple}
use Rattle.rdf_model.specs.Numbers.{AreNumbered, graph_of, term_at, triple_at}
use Rattle.rdf_model.specs.Orders.{term_exact, term_total}
use Rattle.rdf_model.specs.Terms.{term_cmp}
use Rattle.triple_table.specs.Tables.{HasGrown, IsPlaceOf, IsTripleOf, with_term}
use Rattle.triple_table.proofs.Ranking.{get_or-other}

-- the test of two terms
tied : (o : Ordering) → is_eq o ≡ true → o ≡ Equal
tied Less h = cc
tied Equal h = refl
tied Greater h = cc

same_of : (t u : Term) → eq_by_cmp term_cmp t u ≡ true → t ≡ u
same_of t u h = term_exact t u (tied (term_cmp t u) h)

same_itself : (t u : Term) → t ≡ u → eq_by_cmp term_cmp t u ≡ true
same_itself t u e = ap is_eq (subst (λ (w : Term). term_cmp t w ≡ Equal) e (tied_itself term_total t))

-- whether a term stands at a number, by the term that does
pub is_there : (us : List Term) (n : ℕ) (t u : Term) (b : Bool) → n < length us → u ≡ term_at us n → b ≡ eq_by_cmp term_cmp u t → IsTrue b ↔ IsPlaceOf us n t
is_there us n t u b l at e = (
  λ h. record { within = l; is = sym at ∙ same_of u t (sym e ∙ h) },
  λ p. e ∙ same_itself u t (at ∙ p.is),
)

-- a term among others
or_true : (b : Bool) → (b || true) ≡ true
or_true true = refl
or_true false = refl

has_true : (t : Term) (us : List Term) → Contains us t → has_item term_cmp t us ≡ true
has_true t [] c = absurd (omega arith)
has_true t (u ∷ us) c = elim (has_cases u us t c) [
  | inl e ↦ ap (λ b. b || has_item term_cmp t us) (same_itself u t e)
  | inr d ↦ ap (λ b. is_eq (term_cmp u t) || b) (has_true t us d) ∙ or_true (is_eq (term_cmp u t))
]

has_false : (t : Term) (us : List Term) → (Contains us t → ⊥) → has_item term_cmp t us ≡ false
has_false t [] n = refl
has_false t (u ∷ us) n = elim (is_eq (term_cmp u t)) as (λ b. is_eq (term_cmp u t) ≡ b → (b || has_item term_cmp t us) ≡ false) [
  | true ↦ λ h. absurd (n (has_equal u us t (same_of u t h)))
  | false ↦ λ h. has_false t us (λ c. n (has_tail u us t c))
] refl

pub with_old : (us : List Term) (t : Term) (n : ℕ) → IsPlaceOf us n t → us ≡ with_term us t
with_old us t n p =
    let c : Contains us t = (n, p.within, get_or-other us n t (Blank 0 0) p.within ∙ p.is) in
    sym (ap (λ b. cond b us (us ++ t ∷ [])) (has_true t us c))

pub with_new : (us vs : List Term) (t : Term) → (Contains us t → ⊥) → vs ≡ us ++ t ∷ [] → vs ≡ with_term us t
with_new us vs t n e = e ∙ sym (ap (λ b. cond b us (us ++ t ∷ [])) (has_false t us n))

append_nil : (us : List Term) → us ++ [] ≡ us
append_nil [] = refl
append_nil (u ∷ us) = ap (λ (vs : List Term). u ∷ vs) (append_nil us)

append_append : (us vs ws : List Term) → (us ++ vs) ++ ws ≡ us ++ (vs ++ ws)
append_append [] vs ws = refl
append_append (u ∷ us) vs ws = ap (λ (xs : List Term). u ∷ xs) (append_append us vs ws)

grown_not : (us : List Term) → HasGrown us us
grown_not us = ([], sym (append_nil us))

pub grown_with : (us vs : List Term) (t : Term) → vs ≡ with_term us t → HasGrown us vs
grown_with us vs t e =
    let more : HasGrown us (with_term us t) = elim (has_item term_cmp t us) as (λ b. HasGrown us (cond b us (us ++ t ∷ []))) [
      | true ↦ grown_not us
      | false ↦ (t ∷ [], refl)
    ] in
    subst (λ (ws : List Term). HasGrown us ws) (sym e) more

pub grown_same : (us vs : List Term) → vs ≡ us → HasGrown us vs
grown_same us vs e = subst (λ (ws : List Term). HasGrown us ws) (sym e) (grown_not us)

pub grown_twice : (us vs ws : List Term) → HasGrown us vs → HasGrown vs ws → HasGrown us ws
grown_twice us vs ws g h = (g.0 ++ h.0, h.1 ∙ ap (λ (xs : List Term). xs ++ h.0) g.1 ∙ append_append us g.0 h.0)

-- what stood at a place stands there
longer : (us vs : List Term) (n : ℕ) → HasGrown us vs → n < length us → n < length vs
longer us vs n g l = let long = ap (λ (ws : List Term). length ws) g.1 ∙ length-append us g.0 in omega arith

stays : (us vs : List Term) (n : ℕ) → HasGrown us vs → n < length us → term_at vs n ≡ term_at us n
stays us vs n g l = ap (λ (ws : List Term). term_at ws n) g.1 ∙ get_or-append us g.0 (Blank 0 0) n l

pub place_stays : (us vs : List Term) (n : ℕ) (t : Term) → HasGrown us vs → IsPlaceOf us n t → IsPlaceOf vs n t
place_stays us vs n t g p = record { within = longer us vs n g p.within; is = stays us vs n g p.within ∙ p.is }

pub triple_placed : (us vs ws : List Term) (i : Ids) (t : Triple) → HasGrown us vs → HasGrown vs ws → IsPlaceOf us i.subject t.subject → IsPlaceOf vs i.predicate t.predicate → IsPlaceOf ws i.object t.object → IsTripleOf ws i t
triple_placed us vs ws i t g h s p o =
    let first = place_stays us ws i.subject t.subject (grown_twice us vs ws g h) s in
    let second = place_stays vs ws i.predicate t.predicate h p in
    record {
      within = (first.within, second.within, o.within);
      is = λ j. record { subject = first.is j; predicate = second.is j; object = o.is j };
    }

triple_stays : (us vs : List Term) (i : Ids) → HasGrown us vs → (i.subject < length us) × (i.predicate < length us) × (i.object < length us) → triple_at vs i ≡ triple_at us i
triple_stays us vs i g l = λ j. record { subject = stays us vs i.subject g l.0 j; predicate = stays us vs i.predicate g l.1 j; object = stays us vs i.object g l.2 j }

pub numbered_grown : (us vs : List Term) (ids : List Ids) → HasGrown us vs → AreNumbered us ids → AreNumbered vs ids
numbered_grown us vs [] g a = tt
numbered_grown us vs (i ∷ ids) g a = ((longer us vs i.subject g a.0.0, longer us vs i.predicate g a.0.1, longer us vs i.object g a.0.2), numbered_grown us vs ids g a.1)

pub graph_grown : (us vs : List Term) (ids : List Ids) → HasGrown us vs → AreNumbered us ids → graph_of vs ids ≡ graph_of us ids
graph_grown us vs [] g a = refl
graph_grown us vs (i ∷ ids) g a = let head = triple_stays us vs i g a.0 in let tail = graph_grown us vs ids g a.1 in λ j. head j ∷ tail j

-- one triple more
pub numbered_more : (us vs : List Term) (ids : List Ids) (i : Ids) (t : Triple) → HasGrown us vs → AreNumbered us ids → IsTripleOf vs i t → AreNumbered vs (ids ++ i ∷ [])
numbered_more us vs [] i t g a p = (p.within, tt)
numbered_more us vs (k ∷ ids) i t g a p = ((longer us vs k.subject g a.0.0, longer us vs k.predicate g a.0.1, longer us vs k.object g a.0.2), numbered_more us vs ids i t g a.1 p)

pub graph_more : (us vs : List Term) (ids : List Ids) (i : Ids) (t : Triple) → HasGrown us vs → AreNumbered us ids → IsTripleOf vs i t → graph_of vs (ids ++ i ∷ []) ≡ graph_of us ids ++ t ∷ []
graph_more us vs [] i t g a p = ap (λ (u : Triple). u ∷ []) p.is
graph_more us vs (k ∷ ids) i t g a p = let head = triple_stays us vs k g a.0 in let tail = graph_more us vs ids i t g a.1 p in λ j. head j ∷ tail j
