-- Patterns ask for triples of numbers as they ask for the triples that these stand for.
use Rattle.std.proofs.Common.{◌≡◌, ◌∙◌, Bool, true, false, ◌||◌, List, [], ◌∷◌, ◌++◌, refl, sym, ap}
use Rattle.std.specs.List.{list_any}
use Rattle.std.proofs.lemmas.List.Folds.{list_any-append}
use Rattle.rdf_model.specs.declared.ids.Ids.{Ids}
use Rattle.rdf_model.specs.declared.pattern.Pattern.{Pattern}
use Rattle.rdf_model.specs.declared.term.Term.{Term}
use Rattle.rdf_model.specs.Matching.{is_found, matches}
use Rattle.rdf_model.specs.Numbers.{triple_at}
use Rattle.triple_index.specs.Patterns.{matches_ids}
use Rattle.numbered_patterns.specs.declared.pattern.NumberedPattern.{NumberedPattern}
use Rattle.triple_index.specs.Changes.{IsNumbered}
use Rattle.numbered_patterns.specs.Asked.{AllAskAlike, NoneIsAsked}
use Rattle.snapshot_store.specs.Asking.{AskAlike, AsksBesides, is_asked}

pub or_false : (a : Bool) → (a || false) ≡ a
or_false true = refl
or_false false = refl

-- a test of one item more
pub any_push : {X : Type 0} (p : X → Bool) (xs ys : List X) (x : X) → ys ≡ xs ++ x ∷ [] → list_any p ys ≡ (list_any p xs || p x)
any_push p xs ys x e = ap (list_any p) e ∙ list_any-append p xs (x ∷ []) ∙ ap (λ b. list_any p xs || b) (or_false (p x))

module _ (terms : List Term) (p : Pattern) where
  pub asks_one : (before later : List NumberedPattern) (n : NumberedPattern) → later ≡ before ++ n ∷ [] → AllAskAlike terms p n.subject n.predicate n.object → AsksBesides terms p before later
  asks_one before later n e alike i h =
      any_push (λ (m : NumberedPattern). matches_ids m.subject m.predicate m.object i) before later n e ∙ ap (λ b. is_asked before i || b) (alike i h)

  pub asks_none : (before later : List NumberedPattern) → later ≡ before → NoneIsAsked terms p → AsksBesides terms p before later
  asks_none before later e none i h = ap (λ (ns : List NumberedPattern). is_asked ns i) e ∙ sym (ap (λ b. is_asked before i || b) (none i h) ∙ or_false (is_asked before i))

  pub asks_more : (ps qs : List Pattern) (before later : List NumberedPattern) → qs ≡ ps ++ p ∷ [] → AskAlike terms ps before → AsksBesides terms p before later → AskAlike terms qs later
  asks_more ps qs before later e so_far step i h =
      step i h ∙ ap (λ b. b || matches p (triple_at terms i)) (so_far i h) ∙ sym (any_push (λ (q : Pattern). matches q (triple_at terms i)) ps qs p e)
