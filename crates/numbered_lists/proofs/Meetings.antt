-- Terms that were met, as more are.
use Rattle.std.proofs.Common.{◌≡◌, ◌≢◌, ◌∙◌, ℕ, zero, suc, ◌+◌, ◌<◌, List, [], ◌∷◌, ◌++◌, get_or, length, replicate, set, take, refl, sym, subst, ap, arith, inl, inr}
use Rattle.std.specs.Prelude.{Option, None, Some}
use Rattle.std.proofs.lemmas.Bool.{cases_eq}
use Rattle.std.proofs.lemmas.List.{get_or-set_same, get_or-set_other, get_or-replicate, length-replicate, length-set, map-append, take_more}
use Rattle.rdf_model.specs.declared.ids.Ids.{Ids}
use Rattle.rdf_model.specs.declared.term.Term.{Term}
use Rattle.rdf_model.specs.declared.term.Term.TheVariants.{Blank}
use Rattle.rdf_model.specs.Numbers.{AreNumbered, graph_of, term_at, triple_at}
use Rattle.triple_index.specs.Changes.{IsNumbered}
use Rattle.triple_table.specs.Tables.{HasGrown, IsPlaceOf, IsTripleOf}
use Rattle.triple_table.proofs.Places.{graph_more, numbered_more, place_stays}
use Rattle.numbered_lists.specs.Meeting.{AreMet, IsMet}

one_grown : (all left us vs : List Term) (n : ℕ) (p : Option ℕ) → HasGrown us vs → IsMet all left us n p → IsMet all left vs n p
one_grown all left us vs n None g m = m
one_grown all left us vs n (Some p) g m = place_stays us vs p (term_at all n) g m

pub met_grown : (all left us vs : List Term) (places : List (Option ℕ)) → HasGrown us vs → AreMet all left us places → AreMet all left vs places
met_grown all left us vs places g m n l = one_grown all left us vs n (get_or places n None) g (m n l)

-- what was not met stays where another is taken
one_left : (all left us : List Term) (at n : ℕ) (t : Term) (p : Option ℕ) → n ≢ at → IsMet all left us n p → IsMet all (set left at t) us n p
one_left all left us at n t None f m = get_or-set_other left at n t (Blank 0 0) f ∙ m
one_left all left us at n t (Some p) f m = m

pub met_set : (all left us : List Term) (places : List (Option ℕ)) (at p : ℕ) (t : Term) → at < length places → IsPlaceOf us p (term_at all at) → AreMet all left us places → AreMet all (set left at t) us (set places at (Some p))
met_set all left us places at p t l is m n k = elim (cases_eq at n) [
  | inl e ↦
      let there : get_or (set places at (Some p)) n None ≡ Some p = ap (λ (i : ℕ). get_or (set places at (Some p)) i None) (sym e) ∙ get_or-set_same places at (Some p) None l in
      subst (λ (o : Option ℕ). IsMet all (set left at t) us n o) (sym there) (subst (λ (i : ℕ). IsPlaceOf us p (term_at all i)) e is)
  | inr f ↦
      let g : n ≢ at = λ e. f (sym e) in
      let other : get_or (set places at (Some p)) n None ≡ get_or places n None = get_or-set_other places at n (Some p) None g in
      subst (λ (o : Option ℕ). IsMet all (set left at t) us n o) (sym other) (one_left all left us at n t (get_or places n None) g (m n (subst (λ (i : ℕ). n < i) (length-set places at (Some p)) k)))
]

-- at first none was met
pub none_met : (all met : List Term) (places : List (Option ℕ)) → places ≡ replicate (length all) None → AreMet all all met places
none_met all met places e n l =
    let size : length places ≡ length all = ap length e ∙ length-replicate (length all) None in
    let none : get_or places n None ≡ None = ap (λ (ps : List (Option ℕ)). get_or ps n None) e ∙ get_or-replicate (length all) n None None (omega (arith, size, l)) in
    subst (λ (o : Option ℕ). IsMet all all met n o) (sym none) refl

-- the numbers of a triple are within as many terms
pub numbered_at : (all left : List Term) (triples : List Ids) (n : ℕ) (d : Ids) → AreNumbered all triples → length left ≡ length all → n < length triples → IsNumbered left (get_or triples n d)
numbered_at all left [] n d a e l = absurd (omega arith)
numbered_at all left (i ∷ is) zero d a e l = (omega (arith, e, a.0.0), omega (arith, e, a.0.1), omega (arith, e, a.0.2))
numbered_at all left (i ∷ is) (suc n) d a e l = numbered_at all left is n d a.1 e (omega arith)

-- one triple more
pub triples_step : (terms us ws : List Term) (triples ids more : List Ids) (n : ℕ) (k i : Ids) → n < length triples → k ≡ get_or triples n k → HasGrown us ws → AreNumbered us ids → graph_of us ids ≡ graph_of terms (take n triples) → IsTripleOf ws i (triple_at terms k) → more ≡ ids ++ i ∷ [] → AreNumbered ws more × (graph_of ws more ≡ graph_of terms (take (n + 1) triples))
triples_step terms us ws triples ids more n k i l is g a e p m =
    let t = triple_at terms k in
    let taken : graph_of terms (take (n + 1) triples) ≡ graph_of terms (take n triples) ++ t ∷ [] =
    ap (λ (js : List Ids). graph_of terms js) (take_more triples n k l)
    ∙ map-append (triple_at terms) (take n triples) (get_or triples n k ∷ [])
    ∙ (λ j. graph_of terms (take n triples) ++ triple_at terms (sym is j) ∷ []) in (
      subst (λ (js : List Ids). AreNumbered ws js) (sym m) (numbered_more us ws ids i t g a p),
      ap (λ (js : List Ids). graph_of ws js) m ∙ graph_more us ws ids i t g a p ∙ (λ j. e j ++ t ∷ []) ∙ sym taken,
    )

pub get_or-other : {X : Type 0} (xs : List X) (n : ℕ) (d e : X) → n < length xs → get_or xs n d ≡ get_or xs n e
get_or-other [] n d e l = absurd (omega arith)
get_or-other (x ∷ xs) zero d e l = refl
get_or-other (x ∷ xs) (suc n) d e l = get_or-other xs n d e (omega arith)
