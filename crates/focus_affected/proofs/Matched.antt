-- The nodes at which a row matches changed triples.
use Rattle.std.proofs.Common.{◌≡◌, ◌∙◌, ℕ, ◌<◌, Bool, true, false, List, length, Option, Some, None, refl, sym, ap, subst, arith}
use Rattle.std.specs.Prelude.{◌↔◌, ◌==◌, if◌then◌else◌}
use Rattle.std.specs.List.{Contains, filter_map}
use Rattle.std.specs.Ordering.{nat_cmp}
use Rattle.std.proofs.lemmas.Bool.Decides.{nat_tests}
use Rattle.collections.specs.Listings.{IsListing}
use Rattle.rdf_model.specs.declared.term.Term.{Term}
use Rattle.rdf_model.specs.declared.ids.Ids.{Ids}
use Rattle.rdf_model.specs.declared.look.Look.{Look}
use Rattle.rdf_model.specs.Numbers.{AreNumbered, IsNumbering, graph_of, term_at, triple_at}
use Rattle.rdf_model.proofs.Finding.{from_given, to_given}
use Rattle.shape_model.specs.Looks.{BackLook}
use Rattle.shape_model.specs.NodeLooks.{IsLook}
use Rattle.shape_model.specs.Walks.{Walks}
use Rattle.path_eval.proofs.Mirrors.{found, in_range, mapped_to}
use Rattle.focus_affected.specs.declared.plan.NumberedKind.{NumberedKind}
use Rattle.focus_affected.specs.declared.plan.NumberedKind.TheVariants.{Out, In, OutAny}
use Rattle.focus_affected.specs.declared.plan.NumberedLook.{NumberedLook}
use Rattle.focus_affected.specs.Plans.{IsBoundKind, kind_of, node_in, row_of, way_of}
use Rattle.focus_affected.specs.Finding.{FindsBy, FindsFrom, FindsWith, IsMatched, IsTouchedBy, WhereNodes}
use Rattle.focus_affected.proofs.Found.{finds_same}

pub chosen : (p q x n : ℕ) → (if p == q then Some x else None) ≡ Some n → (p ≡ q) × (x ≡ n)
chosen p q x n = elim (p == q) as (λ b. (p == q) ≡ b → (if b then Some x else None) ≡ Some n → (p ≡ q) × (x ≡ n)) [
  | true ↦ λ h e. let same : p ≡ q = grind (arith, nat_tests) in let is : x ≡ n = cc in (same, is)
  | false ↦ λ h e. absurd (cc)
] refl

choose : (p q x : ℕ) → p ≡ q → (if p == q then Some x else None) ≡ Some x
choose p q x e = elim (p == q) as (λ b. (p == q) ≡ b → (if b then Some x else None) ≡ Some x) [
  | true ↦ λ h. refl
  | false ↦ λ h. absurd (grind (arith, nat_tests))
] refl

module _ (terms : List Term) (numbering : IsNumbering terms) (changed : List Ids) (numbered : AreNumbered terms changed) where
  -- a node that is found, and a node that is matched
  to_matched : (kind : NumberedKind) (n : ℕ) → Contains (filter_map (node_in kind) changed) n → (n < length terms) × IsMatched (graph_of terms changed) (kind_of terms kind) (term_at terms n)
  to_matched (Out p) n c =
      let g = from_given (node_in (Out p)) changed n c in
      let bound = in_range terms numbering changed numbered g.0 g.1 in
      let e = chosen p g.0.predicate g.0.subject n g.2 in
      (subst (λ (m : ℕ). m < length terms) e.1 bound.0, (triple_at terms g.0, mapped_to (triple_at terms) changed g.0 g.1, (ap (term_at terms) e.1, ap (term_at terms) (sym e.0))))
  to_matched (In p) n c =
      let g = from_given (node_in (In p)) changed n c in
      let bound = in_range terms numbering changed numbered g.0 g.1 in
      let e = chosen p g.0.predicate g.0.object n g.2 in
      (subst (λ (m : ℕ). m < length terms) e.1 bound.2, (triple_at terms g.0, mapped_to (triple_at terms) changed g.0 g.1, (ap (term_at terms) (sym e.0), ap (term_at terms) e.1)))
  to_matched OutAny n c =
      let g = from_given (node_in OutAny) changed n c in
      let bound = in_range terms numbering changed numbered g.0 g.1 in
      let is : g.0.subject ≡ n = let some = g.2 in cc in
      (subst (λ (m : ℕ). m < length terms) is bound.0, (triple_at terms g.0, mapped_to (triple_at terms) changed g.0 g.1, ap (term_at terms) is))

  pub from_matched : (kind : NumberedKind) → IsBoundKind (length terms) kind → (z : Term) → IsMatched (graph_of terms changed) (kind_of terms kind) z → (n : ℕ) × Contains (filter_map (node_in kind) changed) n × (term_at terms n ≡ z)
  from_matched (Out p) lt z m =
      let k = found terms numbering changed numbered m.0.subject m.0.predicate m.0.object m.1 in
      let same : k.0.predicate ≡ p = numbering k.0.predicate p k.3 lt (k.6 ∙ m.2.1) in
      (k.0.subject, to_given (node_in (Out p)) changed k.0.subject k.0 k.1 (choose p k.0.predicate k.0.subject (sym same)), k.5 ∙ m.2.0)
  from_matched (In p) lt z m =
      let k = found terms numbering changed numbered m.0.subject m.0.predicate m.0.object m.1 in
      let same : k.0.predicate ≡ p = numbering k.0.predicate p k.3 lt (k.6 ∙ m.2.0) in
      (k.0.object, to_given (node_in (In p)) changed k.0.object k.0 k.1 (choose p k.0.predicate k.0.object (sym same)), k.7 ∙ m.2.1)
  from_matched OutAny lt z m =
      let k = found terms numbering changed numbered m.0.subject m.0.predicate m.0.object m.1 in
      (k.0.subject, to_given (node_in OutAny) changed k.0.subject k.0 k.1 refl, k.5 ∙ m.2)

  -- something of a node that is found, and of one that is matched
  by_nodes : (kind : NumberedKind) → IsBoundKind (length terms) kind → (nodes : List ℕ) → IsListing nat_cmp (Contains (filter_map (node_in kind) changed)) nodes → (P : Term → Type 0)
      → ((n : ℕ) × Contains nodes n × P (term_at terms n)) ↔ ((z : Term) × IsMatched (graph_of terms changed) (kind_of terms kind) z × P z)
  by_nodes kind bound nodes l P = (
    λ h. (term_at terms h.0, (to_matched kind h.0 ((l.members h.0).0 h.1)).1, h.2),
    λ h. let k = from_matched kind bound h.0 h.1 in (k.0, (l.members k.0).1 k.1, subst P (sym k.2) h.2),
  )

  pub within : (kind : NumberedKind) (nodes : List ℕ) → IsListing nat_cmp (Contains (filter_map (node_in kind) changed)) nodes → (n : ℕ) → Contains nodes n → n < length terms
  within kind nodes l n c = (to_matched kind n ((l.members n).0 c)).0

pub found_matched : (ids : List Ids) (look : NumberedLook) (changed : List Ids) (nodes xs : List ℕ) (old new : List (Look ℕ)) → IsListing nat_cmp (Contains (filter_map (node_in look.kind) changed)) nodes
    → WhereNodes ids look.way nodes (λ terms. FindsFrom terms ids look.way nodes xs old new) → FindsBy ids look changed xs old new
found_matched ids look changed nodes xs old new l from terms numbering numbered marked bound =
    let g = graph_of terms ids in
    let ts = graph_of terms changed in
    let way = way_of terms look.way in
    finds_same terms (λ f. (n : ℕ) × Contains nodes n × Walks g way f (term_at terms n)) (IsTouchedBy g ts (row_of terms look))
    (λ l. (n : ℕ) × Contains nodes n × IsLook g (BackLook way) (term_at terms n) l) (FindsWith g ts (row_of terms look)) xs old new
    (λ f. by_nodes terms numbering changed marked look.kind bound.kind nodes l (λ z. Walks g way f z))
    (λ k. by_nodes terms numbering changed marked look.kind bound.kind nodes l (λ z. IsLook g (BackLook way) z k))
    (from terms numbering numbered bound.way (within terms numbering changed marked look.kind nodes l)).found_from
