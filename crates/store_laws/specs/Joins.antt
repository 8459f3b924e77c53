-- What a transaction's joins gave, seen from its commit.
use Rattle.std.specs.Prelude.{◌≡◌, ℕ, List}
use Rattle.std.specs.List.{Contains}
use Rattle.rdf_model.specs.declared.change.Change.{Change}
use Rattle.rdf_model.specs.declared.term.Term.{Term}
use Rattle.rdf_model.specs.Graphs.{after}
use Rattle.rdf_model.specs.Terms.{triple_cmp}
use Rattle.collections.specs.Ordered.{IsAscending}
use Rattle.bgp_query.specs.declared.pattern.JoinPattern.{JoinPattern}
use Rattle.bgp_query.specs.TermBindings.{bindings, opened}
use Rattle.store_model.specs.declared.commit.Again.{Again}
use Rattle.store_model.specs.declared.commit.Transaction.{Transaction}
use Rattle.store_model.specs.declared.event.Action.TheVariants.{Commit}
use Rattle.store_model.specs.declared.event.Event.{Event}
use Rattle.store_model.specs.declared.event.Limits.{Limits}
use Rattle.store_model.specs.declared.event.Reply.TheVariants.{Done}
use Rattle.store_model.specs.Store.{State, StepOf, Replays, version}

-- A transaction began at the version `base` of a history that begins with an ascending graph, and its commit was accepted
-- at the later version `last`. Then patterns that are all, with their variables open, among its finds have the same bindings
-- in the graph just before that commit as in the graph at its base, each with the changes that the transaction had made
-- before it asked for them; it is so for any changes.
abbrev pub SelectsAreSerializable : Type 0
SelectsAreSerializable =
    (l : Limits) (start base last next : State) (earlier between : List Event) (i n : ℕ) (x : Transaction) (why : Again) (ps : List (JoinPattern Term)) (changes : List Change)
    → IsAscending triple_cmp start.graph → Replays l start earlier base → Replays l base between last → x.base ≡ version base → StepOf l last i (Commit x) (Done n why) next
    → ((p : JoinPattern Term) → Contains ps p → Contains x.finds (opened p))
    → bindings (after last.graph changes) ps ≡ bindings (after base.graph changes) ps
