-- The terms of changes are named, and the bindings by number are those of the graph after them.
use Rattle.std.proofs.Common.{◌≡◌, ◌∙◌, ℕ, List, [], ◌∷◌, subst, arith, inl, inr}
use Rattle.std.specs.Prelude.{Result, Ok, Err, IfOk, IfErr}
use Rattle.std.specs.List.{Contains}
use Rattle.std.proofs.lemmas.List.{get_or_default}
use Rattle.collections.specs.Ordered.{IsAscending}
use Rattle.collections.proofs.Members.{has_cases}
use Rattle.rdf_model.specs.declared.change.Change.{Change}
use Rattle.rdf_model.specs.declared.ids.Ids.{Ids}
use Rattle.rdf_model.specs.declared.term.Term.{Term}
use Rattle.rdf_model.specs.declared.term.Term.TheVariants.{Blank}
use Rattle.rdf_model.specs.declared.triple.Triple.{Triple}
use Rattle.rdf_model.specs.Graphs.{after}
use Rattle.rdf_model.specs.Numbers.{graph_of}
use Rattle.rdf_model.specs.Terms.{triple_cmp}
use Rattle.bgp_query.specs.declared.fault.JoinFault.{JoinFault}
use Rattle.bgp_query.specs.declared.pattern.JoinPattern.{JoinPattern}
use Rattle.bgp_query.specs.Selected.{AreSelected, IsJoinFault}
use Rattle.term_dict.specs.Names.{AreNumbersOf, IsNumberOf, with_terms}
use Rattle.term_joins.proofs.Selecting.{fault_as, selected_as}
use Rattle.data_graph.specs.DataGraphs.{IsIndexOf, KeepsIndex}
use Rattle.data_graph.proofs.Growing.{named_more}

-- a term that has a number is named
number_named : (terms : List Term) (t : Term) (n : ℕ) → IsNumberOf terms t n → Contains terms t
number_named terms t n i = (n, i.within, get_or_default terms n t (Blank 0 0) i.within ∙ i.is)

pub numbers_named : (terms ts : List Term) (ns : List ℕ) → AreNumbersOf terms ts ns → (t : Term) → Contains ts t → Contains terms t
numbers_named terms [] ns z t c = absurd (omega arith)
numbers_named terms (u ∷ us) [] z t c = absurd z
numbers_named terms (u ∷ us) (n ∷ ns) z t c = elim (has_cases u us t c) [
  | inl e ↦ subst (λ (v : Term). Contains terms v) e (number_named terms u n z.0)
  | inr d ↦ numbers_named terms us ns z.1 t d
]

-- the numbers after changes stand for the graph after them
module _ (terms more ts : List Term) (grown : more ≡ with_terms terms ts) (ids later : List Ids) (net : List Change) (keeps : KeepsIndex more ids net later) where
  pub later_index : (g : List Triple) → IsAscending triple_cmp g → IsIndexOf terms ids g → IsIndexOf more later (after g net)
  later_index g a i = keeps g a (named_more terms more ts ids g grown i)

  module _ (ps : List (JoinPattern Term)) where
    pub later_selected : (rows : List (List Term)) → AreSelected (graph_of more later) ps rows → (g : List Triple) → IsAscending triple_cmp g → IsIndexOf terms ids g → AreSelected (after g net) ps rows
    later_selected rows s g a i = selected_as (graph_of more later) (after g net) ps (later_index g a i).members rows s

    pub later_fault : (fault : JoinFault) → IsJoinFault fault (graph_of more later) ps → (g : List Triple) → IsAscending triple_cmp g → IsIndexOf terms ids g → IsJoinFault fault (after g net) ps
    later_fault fault s g a i = fault_as (graph_of more later) (after g net) ps (later_index g a i).members fault s

-- what follows from what holds of an answer holds of it
pub ok_as : {T E : Type 0} (r : Result T E) (P Q : T → Type 0) → ((x : T) → P x → Q x) → IfOk r P → IfOk r Q
ok_as (Ok x) P Q f h = f x h
ok_as (Err e) P Q f h = tt

pub err_as : {T E : Type 0} (r : Result T E) (P Q : E → Type 0) → ((e : E) → P e → Q e) → IfErr r P → IfErr r Q
err_as (Ok x) P Q f h = tt
err_as (Err e) P Q f h = f e h
