-- What a transaction's finds gave, seen from its commit.
use Rattle.std.specs.Prelude.{◌≡◌, ℕ, List}
use Rattle.std.specs.List.{Contains}
use Rattle.rdf_model.specs.declared.change.Change.{Change}
use Rattle.rdf_model.specs.declared.pattern.Pattern.{Pattern}
use Rattle.rdf_model.specs.Graphs.{after}
use Rattle.rdf_model.specs.Terms.{triple_cmp}
use Rattle.collections.specs.Ordered.{IsAscending}
use Rattle.store_model.specs.declared.commit.Again.{Again}
use Rattle.store_model.specs.declared.commit.Transaction.{Transaction}
use Rattle.store_model.specs.declared.event.Action.TheVariants.{Commit}
use Rattle.store_model.specs.declared.event.Event.{Event}
use Rattle.store_model.specs.declared.event.Limits.{Limits}
use Rattle.store_model.specs.declared.event.Reply.TheVariants.{Done}
use Rattle.store_model.specs.Finds.{found}
use Rattle.store_model.specs.Store.{State, StepOf, Replays, version}

-- A transaction began at the version `base` of a history that begins with an ascending graph, and its commit was accepted
-- at the later version `last`. Then each of its finds gives the same triples on the graph just before that commit as on the
-- graph at its base, each with the changes that the transaction had made before the find; it is so for any changes.
abbrev pub FindsAreSerializable : Type 0
FindsAreSerializable =
    (l : Limits) (start base last next : State) (earlier between : List Event) (i n : ℕ) (x : Transaction) (why : Again) (p : Pattern) (changes : List Change)
    → IsAscending triple_cmp start.graph → Replays l start earlier base → Replays l base between last → x.base ≡ version base → StepOf l last i (Commit x) (Done n why) next → Contains x.finds p
    → found (after last.graph changes) p ≡ found (after base.graph changes) p
