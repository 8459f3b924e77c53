-- What is answered, from the bindings by number.
use Rattle.std.proofs.Common.{◌≡◌, ◌∙◌, ◌<◌, ℕ, List, [], ◌∷◌, refl, sym, subst, ap, arith, length, map}
use Rattle.std.specs.Prelude.{◌↔◌, IfErr, Result, Err}
use Rattle.std.specs.List.{Contains}
use Rattle.std.proofs.lemmas.List.{length-map}
use Rattle.collections.specs.Listings.{IsListing}
use Rattle.collections.proofs.Members.{has_head, has_tail, same_lists}
use Rattle.rdf_model.specs.declared.ids.Ids.{Ids}
use Rattle.rdf_model.specs.declared.term.Term.{Term}
use Rattle.rdf_model.specs.declared.triple.Triple.{Triple}
use Rattle.rdf_model.specs.Numbers.{AreNumbered, IsNumbering, graph_of, term_at}
use Rattle.triple_index.specs.Patterns.{AreApart}
use Rattle.bgp_query.specs.declared.pattern.JoinPattern.{JoinPattern}
use Rattle.bgp_query.specs.declared.fault.JoinFault.{JoinFault}
use Rattle.bgp_query.specs.declared.fault.JoinFault.TheVariants.{TooMany, Memory}
use Rattle.bgp_query.specs.AllBindings.{AreBindings}
use Rattle.bgp_query.specs.Bindings.{HasMore, IsBinding, IsIn, most_bindings}
use Rattle.bgp_query.specs.Selected.{AreSelected, AreTooMany, IsJoinFault}
use Rattle.bgp_query.specs.TermBindings.{bindings}
use Rattle.bgp_query.proofs.Once.{apart_ascending, no_more}
use Rattle.term_joins.specs.Laws.{IsThere}
use Rattle.term_joins.specs.Numbered.{ArePatternsAt, HaveUnnamed}
use Rattle.term_joins.specs.Orders.{row_cmp, row_total}
use Rattle.term_joins.proofs.Assigned.{in_map, of_map}
use Rattle.term_joins.proofs.Naming.{from_terms, none_stands, read_once, row_below, to_terms}
use Rattle.term_joins.proofs.Standing.{bindings_listing, same_bindings}

-- images of items that are told apart
apart_map : {X Y : Type 0} (f : X → Y) (xs : List X) → ((x y : X) → Contains xs x → Contains xs y → f x ≡ f y → x ≡ y) → AreApart xs → AreApart (map f xs)
apart_map f [] once a = tt
apart_map {X} f (x ∷ xs) once a = (
  λ c.
      let r = of_map f xs (f x) c in
      let e = once r.0 x (has_tail x xs r.0 r.1) (has_head x xs) r.2 in
      a.0 (subst (λ (y : X). Contains xs y) e r.1),
  apart_map f xs (λ v w c d e. once v w (has_tail x xs v c) (has_tail x xs w d) e) a.1,
)

pub nothing : {X : Type 0} (xs : List X) → ((x : X) → Contains xs x → ⊥) → xs ≡ []
nothing [] n = refl
nothing (x ∷ xs) n = absurd (n x (has_head x xs))

module _ (terms : List Term) (ids : List Ids) (numbered : AreNumbered terms ids) (ps : List (JoinPattern Term)) where
  -- no binding, where a term has no number
  pub none_selected : HaveUnnamed terms ps → (rows : List (List Term)) → rows ≡ [] → AreSelected (graph_of terms ids) ps rows
  none_selected u rows e =
      let listing = bindings_listing (graph_of terms ids) ps in
      let none = nothing (bindings (graph_of terms ids) ps) (λ ys c. none_stands terms ids numbered ps u ys ((listing.members ys).0 c)) in
      let size = ap length e in
      record { all = e ∙ sym none; few = omega (arith, size) }

  module _ (numbering : IsNumbering terms) (qs : List (JoinPattern ℕ)) (at : ArePatternsAt terms ps qs) where
    -- the rows of numbers, read and sorted
    pub selected : (rows : List (List ℕ)) (named sorted : List (List Term)) → AreBindings ids qs rows → named ≡ map (map (term_at terms)) rows → IsListing row_cmp (Contains named) sorted → AreSelected (graph_of terms ids) ps sorted
    selected rows named sorted are e listing =
        let all = bindings_listing (graph_of terms ids) ps in
        let same : (ys : List Term) → Contains sorted ys ↔ Contains (bindings (graph_of terms ids) ps) ys = λ ys. (
          λ c.
              let r = of_map (map (term_at terms)) rows ys (subst (λ (zs : List (List Term)). Contains zs ys) e ((listing.members ys).0 c)) in
              let b = to_terms terms numbering ids numbered ps qs at r.0 ((are.listing.members r.0).0 r.1) in
              (all.members ys).1 (subst (λ (zs : List Term). IsBinding (IsThere (graph_of terms ids)) ps zs) r.2 b),
          λ c.
              let r = from_terms terms numbering ids numbered ps qs at ys ((all.members ys).0 c) in
              let d = in_map (map (term_at terms)) rows r.0 ((are.listing.members r.0).1 r.1) in
              (listing.members ys).1 (subst (λ (zs : List (List Term)). Contains zs ys) (sym e) (subst (λ (z : List Term). Contains (map (map (term_at terms)) rows) z) r.2 d)),
        ) in
        let less = no_more sorted named (apart_ascending row_cmp row_total sorted listing.ascending) (λ ys c. (listing.members ys).0 c) in
        let size = ap length e ∙ length-map rows (map (term_at terms)) in
        let few = are.few in
        record {
          all = same_lists row_cmp row_total sorted (bindings (graph_of terms ids) ps) listing.ascending all.ascending same;
          few = omega (arith, less, size, few);
        }

    -- more of numbers are more of terms
    pub too_many : HasMore most_bindings (IsBinding (IsIn ids) qs) → AreTooMany (graph_of terms ids) ps
    too_many h =
        let all = bindings_listing (graph_of terms ids) ps in
        let below = λ (xs : List ℕ) (c : Contains h.items xs). row_below terms ids numbered qs xs (h.members xs c) in
        let apart = apart_map (map (term_at terms)) h.items (λ xs ys c d e. read_once terms numbering xs ys (below xs c) (below ys d) e) h.apart in
        let less = no_more (map (map (term_at terms)) h.items) (bindings (graph_of terms ids) ps) apart (λ ys c.
        let r = of_map (map (term_at terms)) h.items ys c in
        (all.members ys).1 (subst (λ (zs : List Term). IsBinding (IsThere (graph_of terms ids)) ps zs) r.2 (to_terms terms numbering ids numbered ps qs at r.0 (h.members r.0 r.1)))) in
        let size = length-map h.items (map (term_at terms)) in
        let more = h.more in
        omega (arith, less, size, more)

    fault_of : (fault : JoinFault) → (fault ≡ TooMany → HasMore most_bindings (IsBinding (IsIn ids) qs)) → IsJoinFault fault (graph_of terms ids) ps
    fault_of TooMany f = too_many (f refl)
    fault_of Memory f = tt

-- an error that is handed on
pub stopped : {T : Type 0} (terms : List Term) (ids : List Ids) → IsNumbering terms → AreNumbered terms ids → (qs : List (JoinPattern ℕ)) (r : Result T JoinFault) (e f : JoinFault) → r ≡ Err e → e ≡ f → (f ≡ TooMany → HasMore most_bindings (IsBinding (IsIn ids) qs)) →
    IfErr r (λ fault. (ps : List (JoinPattern Term)) → ArePatternsAt terms ps qs → IsJoinFault fault (graph_of terms ids) ps)
stopped {T} terms ids numbering numbered qs r e f is same over =
    subst (λ (q : Result T JoinFault). IfErr q (λ fault. (ps : List (JoinPattern Term)) → ArePatternsAt terms ps qs → IsJoinFault fault (graph_of terms ids) ps)) (sym is)
    (λ ps at. fault_of terms ids numbered ps numbering qs at e (λ many. over (sym same ∙ many)))

-- what is answered for one graph is for each with the same triples
module _ (g h : List Triple) (ps : List (JoinPattern Term)) (same : (t : Triple) → Contains g t ↔ Contains h t) where
  pub selected_as : (rows : List (List Term)) → AreSelected g ps rows → AreSelected h ps rows
  selected_as rows s = record { all = s.all ∙ same_bindings g h ps same; few = s.few }

  pub fault_as : (fault : JoinFault) → IsJoinFault fault g ps → IsJoinFault fault h ps
  fault_as TooMany f = subst (λ (rows : List (List Term)). most_bindings < length rows) (same_bindings g h ps same) f
  fault_as Memory f = tt
