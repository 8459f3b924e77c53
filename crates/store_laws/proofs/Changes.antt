-- What changes make of a graph, triple by triple.
use Rattle.std.proofs.Common.{◌≡◌, Bool, true, false, not, ◌&&◌, ◌||◌, cond, List, [], ◌∷◌, Option, Some, None, refl, ap, ◌∙◌}
use Rattle.std.specs.Ordering.{eq_by_cmp}
use Rattle.rdf_model.specs.declared.triple.Triple.{Triple}
use Rattle.rdf_model.specs.declared.change.Change.{Change}
use Rattle.rdf_model.specs.declared.change.Change.TheVariants.{Add, Remove}
use Rattle.rdf_model.specs.Terms.{triple_cmp}
use Rattle.rdf_model.specs.Orders.{triple_total}
use Rattle.rdf_model.specs.Graphs.{changed}
use Rattle.collections.specs.Ordered.{IsAscending}
use Rattle.collections.proofs.Ascending.{IsAscending-with_item, IsAscending-without_item}
use Rattle.store_model.proofs.Histories.{IsAscending-after}
use Rattle.store_laws.specs.Graphs.{has, effect, later, last_effect, holds_after, LastChangeWins, GraphsStayAscending, ChangedIsInOneGraph, ChangedAscends}
use Rattle.store_model.proofs.SetMembers.{member-with_item, member-without_item}
use Rattle.store_model.proofs.Differing.{ascending-differing, member-differing}

added : (b before : Bool) → (b || before) ≡ holds_after (cond b (Some true) None) before
added true before = refl
added false before = refl

removed : (b before : Bool) → (not b && before) ≡ holds_after (cond b (Some false) None) before
removed true before = refl
removed false before = refl

one_change : (graph : List Triple) (c : Change) (t : Triple) → IsAscending triple_cmp graph → has (changed graph c) t ≡ holds_after (effect c t) (has graph t)
one_change graph (Add u) t a = member-with_item triple_total u t graph ∙ added (eq_by_cmp triple_cmp u t) (has graph t)
one_change graph (Remove u) t a = member-without_item triple_total u t graph a ∙ removed (eq_by_cmp triple_cmp u t) (has graph t)

in_turn : (x y : Option Bool) (before : Bool) → holds_after x (holds_after y before) ≡ holds_after (later x y) before
in_turn None y before = refl
in_turn (Some b) y before = refl

stays : (graph : List Triple) (c : Change) → IsAscending triple_cmp graph → IsAscending triple_cmp (changed graph c)
stays graph (Add t) a = IsAscending-with_item triple_total t graph a
stays graph (Remove t) a = IsAscending-without_item triple_total t graph a

pub last_change_wins : LastChangeWins
last_change_wins graph [] t a = refl
last_change_wins graph (c ∷ cs) t a =
    last_change_wins (changed graph c) cs t (stays graph c a)
    ∙ (ap (holds_after (last_effect cs t)) (one_change graph c t a) ∙ in_turn (last_effect cs t) (effect c t) (has graph t))

pub graphs_stay_ascending : GraphsStayAscending
graphs_stay_ascending = IsAscending-after

pub changed_is_in_one_graph : ChangedIsInOneGraph
changed_is_in_one_graph = member-differing

pub changed_ascends : ChangedAscends
changed_ascends = ascending-differing
