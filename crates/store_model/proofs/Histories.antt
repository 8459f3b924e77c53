-- Histories that go on by a step.
use Rattle.std.proofs.Common.{List, [], ◌∷◌, ◌++◌, refl, subst}
use Rattle.rdf_model.specs.declared.triple.Triple.{Triple}
use Rattle.rdf_model.specs.declared.change.Change.{Change}
use Rattle.rdf_model.specs.declared.change.Change.TheVariants.{Add, Remove}
use Rattle.rdf_model.specs.Terms.{triple_cmp}
use Rattle.rdf_model.specs.Orders.{triple_total}
use Rattle.store_model.specs.declared.event.Event.{Event}
use Rattle.store_model.specs.declared.event.Limits.{Limits}
use Rattle.collections.specs.Ordered.{IsAscending}
use Rattle.rdf_model.specs.Graphs.{after, changed}
use Rattle.store_model.specs.Store.{State, Step, Replays}
use Rattle.collections.proofs.Ascending.{IsAscending-with_item, IsAscending-without_item}

pub Replays-push : (l : Limits) (s : State) (es : List Event) (m t : State) (e : Event) → Replays l s es m → Step l m e t → Replays l s (es ++ e ∷ []) t
Replays-push l s [] m t e r h = (t, subst (λ (x : State). Step l x e t) r h, refl)
Replays-push l s (f ∷ es) m t e r h = (r.0, r.1, Replays-push l r.0 es m t e r.2 h)

-- a change keeps the order
IsAscending-changed : (graph : List Triple) (c : Change) → IsAscending triple_cmp graph → IsAscending triple_cmp (changed graph c)
IsAscending-changed graph (Add t) a = IsAscending-with_item triple_total t graph a
IsAscending-changed graph (Remove t) a = IsAscending-without_item triple_total t graph a

pub IsAscending-after : (graph : List Triple) (net : List Change) → IsAscending triple_cmp graph → IsAscending triple_cmp (after graph net)
IsAscending-after graph [] a = a
IsAscending-after graph (c ∷ cs) a = IsAscending-after (changed graph c) cs (IsAscending-changed graph c a)
