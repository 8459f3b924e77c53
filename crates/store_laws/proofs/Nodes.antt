-- The blank nodes that were given out, and those that weren't.
use Rattle.std.proofs.Common.{◌≡◌, ◌-◌, Bool, true, false, not, ◌&&◌, List, [], ◌∷◌, refl, sym, ap, ◌∙◌, subst, inl, inr}
use Rattle.rdf_model.specs.declared.term.Term.{Term}
use Rattle.rdf_model.specs.Terms.{term_cmp}
use Rattle.collections.specs.Ordered.{has_item}
use Rattle.store_model.specs.declared.event.Action.{Action}
use Rattle.store_model.specs.declared.event.Action.TheVariants.{Name}
use Rattle.store_model.specs.declared.event.Limits.{Limits}
use Rattle.store_model.specs.declared.event.NameKind.{NameKind}
use Rattle.store_model.specs.declared.event.NameKind.TheVariants.{Fresh, Known, Attach}
use Rattle.store_model.specs.declared.event.Reply.{Reply}
use Rattle.store_model.specs.declared.event.Reply.TheVariants.{Named, Unknown}
use Rattle.store_model.specs.Nodes.{given_by, is_blank, unknown_by}
use Rattle.store_model.specs.Store.{State, NamesUnless}
use Rattle.store_model.proofs.Outcomes.{outcome}
use Rattle.store_model.proofs.Nodes.{ascending-not_given, member-given_with, member-not_given}
use Rattle.store_laws.specs.Nodes.{AttachedAreGiven, GivenAreBlank, GivesNone, OnlyFreshGives, UnknownAreNotGiven, UnknownAscend, UnknownComesFirst}

pub given_are_blank : GivenAreBlank
given_are_blank = member-given_with

pub unknown_are_not_given : UnknownAreNotGiven
unknown_are_not_given = member-not_given

pub unknown_ascend : UnknownAscend
unknown_ascend = ascending-not_given

none_unknown : (l : Limits) (s t : State) (ts nodes : List Term) → NamesUnless nodes l s Attach ts Named t → nodes ≡ []
none_unknown l s t ts [] h = refl
none_unknown l s t ts (node ∷ nodes) h = let e : Named ≡ Unknown node = h.0 in cc

given_where : (a b : Bool) → false ≡ (a && not b) → a ≡ true → b ≡ true
given_where true true e h = refl
given_where true false e h = let f : false ≡ true = e in cc
given_where false b e h = cc

pub attached_are_given : AttachedAreGiven
attached_are_given l s t i ts node h b =
    let none : unknown_by Attach s.given ts ≡ [] = none_unknown l s t ts (unknown_by Attach s.given ts) h.1 in
    given_where (is_blank node && has_item term_cmp node ts) (has_item term_cmp node s.given) (sym (ap (λ (xs : List Term). has_item term_cmp node xs) none) ∙ member-not_given s.given ts node) b

-- by the nodes for which the block is refused: there is one
first_told : (l : Limits) (s t : State) (ts nodes : List Term) (r : Reply) (node : Term) → unknown_by Attach s.given ts ≡ nodes → has_item term_cmp node nodes ≡ true → NamesUnless nodes l s Attach ts r t
    → (least : Term) × (others : List Term) × (unknown_by Attach s.given ts ≡ least ∷ others) × (r ≡ Unknown least) × (t ≡ s)
first_told l s t ts [] r node e some h = cc
first_told l s t ts (least ∷ others) r node e some h = (least, others, e, h.0, h.1)

pub unknown_comes_first : UnknownComesFirst
unknown_comes_first l s t i ts r node h some = first_told l s t ts (unknown_by Attach s.given ts) r node refl (member-not_given s.given ts node ∙ some) h.1

given_as_before : (kind : NameKind) (given ts : List Term) (a : Action) → a ≡ Name kind ts → GivesNone a → given_by kind given ts ≡ given
given_as_before Fresh given ts a e none = absurd (subst (λ (x : Action). GivesNone x) e none)
given_as_before Known given ts a e none = refl
given_as_before Attach given ts a e none = refl

pub only_fresh_gives : OnlyFreshGives
only_fresh_gives l s t i a r none h = elim (outcome l s t i a r h) [
  | inl e ↦ ap (λ (x : State). x.given) e.state
  | inr (inl e) ↦ ap (λ (x : State). x.given) e.state
  | inr (inr (inl e)) ↦ ap (λ (x : State). x.given) e.state ∙ given_as_before e.kind s.given e.terms a e.action none
  | inr (inr (inr (inl e))) ↦ ap (λ (x : State). x.given) e.state
  | inr (inr (inr (inr e))) ↦ ap (λ (x : State). x.given) e.state
]
