-- The triples that are served are the data graph.
use Rattle.std.proofs.Common.{◌≡◌, ℕ, List, [], get_or, take, refl, sym, ap, subst, None, true, arith, nat_le}
use Rattle.std.proofs.lemmas.Bool.Decides.{nat_tests}
use Rattle.std.specs.Prelude.{◌↔◌}
use Rattle.std.specs.List.{All, Contains}
use Rattle.std.proofs.lemmas.List.Elements.{Contains-get_or}
use Rattle.collections.specs.Listings.{IsListing}
use Rattle.collections.specs.Ordered.{IsAscending}
use Rattle.collections.proofs.Members.{same_lists}
use Rattle.rdf_model.specs.declared.ids.Ids.{Ids}
use Rattle.rdf_model.specs.declared.term.Term.{Term}
use Rattle.rdf_model.specs.declared.triple.Triple.{Triple}
use Rattle.rdf_model.specs.Numbers.{AreNumbered, graph_of}
use Rattle.rdf_model.specs.Orders.{triple_total}
use Rattle.rdf_model.specs.Terms.{triple_cmp}
use Rattle.triple_index.specs.Patterns.{IsMatch, ListsOnce}
use Rattle.follower.specs.declared.served.Served.{Served}
use Rattle.follower.specs.Followed.{Followed, IsServed, version_of}
use Rattle.triple_index.specs.Changes.{IsNumbered}
use Rattle.follower.specs.Numbered.{IsIndexOf}
use Rattle.follower.specs.Records.{data_of}
use Rattle.follower.proofs.Sequences.{all_ascends}
use Rattle.follow_command.specs.Printing.{served_lines, triple_lines}
use Rattle.follower.proofs.Members.{in_graph, numbered_at, of_graph}

-- all triples are asked for
abbrev pub ListsAll : List Ids → List Ids → Type 0
ListsAll ids found = ListsOnce (IsMatch None None None ids) found

pub found_numbered : (terms : List Term) (ids found : List Ids) → AreNumbered terms ids → ListsAll ids found → (i : Ids) → Contains found i → IsNumbered terms i
found_numbered terms ids found a l i c = numbered_at terms ids i a ((l.members i).0 c).there

same_graphs : (terms : List Term) (ids found : List Ids) → ListsAll ids found → (t : Triple) → Contains (graph_of terms found) t ↔ Contains (graph_of terms ids) t
same_graphs terms ids found l t = (
  (λ c. let i = of_graph terms found t c in subst (λ (u : Triple). Contains (graph_of terms ids) u) i.2 (in_graph terms ids i.0 ((l.members i.0).0 i.1).there)),
  (λ c. let i = of_graph terms ids t c in subst (λ (u : Triple). Contains (graph_of terms found) u) i.2 (in_graph terms found i.0 ((l.members i.0).1 record { there = i.1; fits = refl }))),
)

pub served_graph : (terms : List Term) (ids found : List Ids) (ts sorted g : List Triple) → ListsAll ids found → ts ≡ graph_of terms found → IsListing triple_cmp (Contains ts) sorted → IsAscending triple_cmp g → IsIndexOf terms ids g → sorted ≡ g
served_graph terms ids found ts sorted g l e s a i = same_lists triple_cmp triple_total sorted g s.ascending a (λ t. (
  (λ c. (i.members t).0 ((same_graphs terms ids found l t).0 (subst (λ (us : List Triple). Contains us t) e ((s.members t).0 c)))),
  (λ c. (s.members t).1 (subst (λ (us : List Triple). Contains us t) (sym e) ((same_graphs terms ids found l t).1 ((i.members t).1 c)))),
))

pub all_numbered : (terms : List Term) (ids found : List Ids) → AreNumbered terms ids → ListsAll ids found → All (IsNumbered terms) found
all_numbered terms ids found a l k d lt = found_numbered terms ids found a l (get_or found k d) (Contains-get_or found k d lt)

-- what is printed of them
pub lines_served : (s : Followed) (version : ℕ) (served : Served) (ts : List Triple) → IsServed s version served → ((g : List Triple) → IsAscending triple_cmp g → IsIndexOf served.names.terms served.graph g → ts ≡ g) → served_lines s version ≡ triple_lines ts
lines_served s version served ts i f =
    let within : nat_le version (version_of s) ≡ true = grind (arith, nat_tests, i.within) in
    rw within (ap triple_lines (sym (f (data_of (take version s.applied)) (all_ascends [] (take version s.applied) tt) i.graph)))
