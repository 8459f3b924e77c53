-- The triples of numbers that a pattern asks for.
use Rattle.std.proofs.Common.{◌≡◌, ◌∙◌, true, List, [], get_or, sym, ap, subst, arith}
use Rattle.std.specs.Prelude.{◌↔◌, ℕ, Option}
use Rattle.std.specs.List.{All, Contains}
use Rattle.std.proofs.lemmas.List.Elements.{Contains-get_or}
use Rattle.collections.specs.Listings.{IsListing}
use Rattle.rdf_model.specs.declared.ids.Ids.{Ids}
use Rattle.rdf_model.specs.declared.pattern.Pattern.{Pattern}
use Rattle.rdf_model.specs.declared.term.Term.{Term}
use Rattle.rdf_model.specs.declared.triple.Triple.{Triple}
use Rattle.rdf_model.specs.Matching.{matches}
use Rattle.rdf_model.specs.Numbers.{AreNumbered, graph_of, triple_at}
use Rattle.rdf_model.specs.Terms.{triple_cmp}
use Rattle.parallel_validate.specs.Named.{IsNumbered}
use Rattle.parallel_validate.proofs.Members.{in_graph, numbered_at, of_graph}
use Rattle.triple_index.specs.Patterns.{IsMatch, ListsOnce}
use Rattle.numbered_patterns.specs.Asked.{AllAskAlike, NoneIsAsked}
use Rattle.data_graph.specs.Finding.{IsAsked}

module _ (terms : List Term) (p : Pattern) (ids : List Ids) (numbered : AreNumbered terms ids) where
  -- no number, where one of its terms has none
  pub asked_none : (found : List Ids) → found ≡ [] → NoneIsAsked terms p → (i : Ids) → Contains found i ↔ IsAsked terms ids p i
  asked_none found e none i = (
    λ c. let d : Contains [] i = subst (λ (is : List Ids). Contains is i) e c in absurd (omega arith),
    λ h. let f = none i (numbered_at terms ids i numbered h.0) in let k = h.1 in cc (f, k),
  )

  -- those that an index lists
  pub asked_listed : (x y z : Option ℕ) (found : List Ids) → AllAskAlike terms p x y z → ListsOnce (IsMatch x y z ids) found → (i : Ids) → Contains found i ↔ IsAsked terms ids p i
  asked_listed x y z found alike l i = (
    λ c. let m = (l.members i).0 c in (m.there, sym (alike i (numbered_at terms ids i numbered m.there)) ∙ m.fits),
    λ h. (l.members i).1 (record { there = h.0; fits = alike i (numbered_at terms ids i numbered h.0) ∙ h.1 }),
  )

  pub asked_numbered : (found : List Ids) → ((i : Ids) → Contains found i ↔ IsAsked terms ids p i) → All (IsNumbered terms) found
  asked_numbered found same k d lt = let i = get_or found k d in numbered_at terms ids i numbered ((same i).0 (Contains-get_or found k d lt)).0

  pub asked_triples : (found : List Ids) (ts sorted : List Triple) → ((i : Ids) → Contains found i ↔ IsAsked terms ids p i) → ts ≡ graph_of terms found → IsListing triple_cmp (Contains ts) sorted
      → IsListing triple_cmp (λ t. Contains (graph_of terms ids) t × (matches p t ≡ true)) sorted
  asked_triples found ts sorted same e l = record {
    ascending = l.ascending;
    members = λ t. (
      λ c.
          let r = of_graph terms found t (subst (λ (us : List Triple). Contains us t) e ((l.members t).0 c)) in
          let h = (same r.0).0 r.1 in
          subst (λ (u : Triple). Contains (graph_of terms ids) u × (matches p u ≡ true)) r.2 (in_graph terms ids r.0 h.0, h.1),
      λ h.
          let r = of_graph terms ids t h.0 in
          let k : matches p (triple_at terms r.0) ≡ true = ap (λ (u : Triple). matches p u) r.2 ∙ h.1 in
          let c : Contains (graph_of terms found) t = subst (λ (u : Triple). Contains (graph_of terms found) u) r.2 (in_graph terms found r.0 ((same r.0).1 (r.1, k))) in
          (l.members t).1 (subst (λ (us : List Triple). Contains us t) (sym e) c),
    );
  }

pub each_numbered : (terms : List Term) (ids : List Ids) → AreNumbered terms ids → All (IsNumbered terms) ids
each_numbered terms ids numbered k d lt = numbered_at terms ids (get_or ids k d) numbered (Contains-get_or ids k d lt)
