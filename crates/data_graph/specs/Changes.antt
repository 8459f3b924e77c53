-- What a check of changes is, by number.
use Rattle.std.specs.Prelude.{◌≡◌, ℕ, List, map}
use Rattle.collections.specs.Ordered.{IsAscending}
use Rattle.rdf_model.specs.declared.change.Change.{Change}
use Rattle.rdf_model.specs.declared.ids.Ids.{Ids}
use Rattle.rdf_model.specs.declared.look.Look.{Look}
use Rattle.rdf_model.specs.declared.term.Term.{Term}
use Rattle.rdf_model.specs.declared.triple.Triple.{Triple}
use Rattle.rdf_model.specs.Graphs.{after}
use Rattle.rdf_model.specs.Numbers.{graph_of}
use Rattle.rdf_model.specs.Terms.{triple_cmp}
use Rattle.store_model.specs.Store.{changed_triple}
use Rattle.path_eval.specs.Naming.{look_of}
use Rattle.change_laws.specs.Checks.{SameMembers}
use Rattle.change_laws.specs.Pairs.{IsCheckFootprint}
use Rattle.kept_rows.specs.declared.pair_rows.PairRows.{PairRows}
use Rattle.kept_rows.specs.Laws.{ChecksPairs}
use Rattle.parallel_validate.specs.Verdicts.{AreBoundLooks}

-- The changes of the graph g were checked under the shapes s: the looks, by number, are just those that a check of them makes, and
-- the pairs are those that they touch, each with its results after them; each number has a term.
pub record IsCheckByNumber (terms : List Term) (g s : List Triple) (net : List Change) (pairs : List PairRows) (looked : List (Look ℕ)) : Type 0 where
  pub looks : IsCheckFootprint g s net (map (look_of terms) looked)
  pub bound : AreBoundLooks terms looked
  pub checks : ChecksPairs terms g s net pairs

-- for each data graph with these triples before the changes, and with those after them
abbrev pub WhereIndexed : List Term → List Ids → List Ids → List Change → (List Triple → Type 0) → Type 0
WhereIndexed terms before later net P = (g : List Triple) → IsAscending triple_cmp g → SameMembers (graph_of terms before) g → SameMembers (graph_of terms later) (after g net) → P g

-- the same for all changes that add or remove just these triples
abbrev pub WhereChanged : List Term → List Ids → List Ids → List Ids → (List Change → List Triple → Type 0) → Type 0
WhereChanged terms changed before later P = (net : List Change) → graph_of terms changed ≡ map changed_triple net → WhereIndexed terms before later net (P net)
