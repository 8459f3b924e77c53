-- The blank nodes that were given out, and those that weren't.
use Rattle.std.specs.Prelude.{◌≡◌, ℕ, true, not, ◌&&◌, ◌||◌, List, ◌∷◌}
use Rattle.rdf_model.specs.declared.term.Term.{Term}
use Rattle.rdf_model.specs.Terms.{term_cmp}
use Rattle.collections.specs.Ordered.{IsAscending, has_item}
use Rattle.store_model.specs.declared.event.Action.{Action}
use Rattle.store_model.specs.declared.event.Action.TheVariants.{Name}
use Rattle.store_model.specs.declared.event.Limits.{Limits}
use Rattle.store_model.specs.declared.event.NameKind.TheVariants.{Fresh, Attach}
use Rattle.store_model.specs.declared.event.Reply.{Reply}
use Rattle.store_model.specs.declared.event.Reply.TheVariants.{Named, Unknown}
use Rattle.store_model.specs.Nodes.{given_by, is_blank, unknown_by}
use Rattle.store_model.specs.Store.{State, StepOf}

-- Naming the terms of a block that has blank nodes of its own gives out just these.
abbrev pub GivenAreBlank : Type 0
GivenAreBlank = (given ts : List Term) (t : Term) → has_item term_cmp t (given_by Fresh given ts) ≡ (has_item term_cmp t given || (is_blank t && has_item term_cmp t ts))

-- The nodes for which an attachment is refused are the blank nodes of its terms that weren't given out.
abbrev pub UnknownAreNotGiven : Type 0
UnknownAreNotGiven = (given ts : List Term) (t : Term) → has_item term_cmp t (unknown_by Attach given ts) ≡ ((is_blank t && has_item term_cmp t ts) && not (has_item term_cmp t given))

-- They ascend, so that the one that is told is the least.
abbrev pub UnknownAscend : Type 0
UnknownAscend = (given ts : List Term) → IsAscending term_cmp (unknown_by Attach given ts)

-- Each blank node of an attachment whose terms were named had been given out.
abbrev pub AttachedAreGiven : Type 0
AttachedAreGiven = (l : Limits) (s t : State) (i : ℕ) (ts : List Term) (node : Term) → StepOf l s i (Name Attach ts) Named t → (is_blank node && has_item term_cmp node ts) ≡ true → has_item term_cmp node s.given ≡ true

-- Where a blank node of an attachment wasn't given out, the least such is told, whatever the limit, and nothing is named.
abbrev pub UnknownComesFirst : Type 0
UnknownComesFirst =
    (l : Limits) (s t : State) (i : ℕ) (ts : List Term) (r : Reply) (node : Term) → StepOf l s i (Name Attach ts) r t → ((is_blank node && has_item term_cmp node ts) && not (has_item term_cmp node s.given)) ≡ true
    → (least : Term) × (others : List Term) × (unknown_by Attach s.given ts ≡ least ∷ others) × (r ≡ Unknown least) × (t ≡ s)

-- the action names no terms of a block that has blank nodes of its own
abbrev pub GivesNone : Action → Type 0
GivesNone (Name Fresh ts) = ⊥
GivesNone a = Unit {0}

-- Such an action gives out no node.
abbrev pub OnlyFreshGives : Type 0
OnlyFreshGives = (l : Limits) (s t : State) (i : ℕ) (a : Action) (r : Reply) → GivesNone a → StepOf l s i a r t → t.given ≡ s.given
