-- Which results block, seen from their listing and along a history.
use Rattle.std.proofs.Common.{◌≡◌, ℕ, ◌+◌, Bool, true, false, ◌||◌, List, [], ◌∷◌, refl, sym, ap, ◌∙◌, subst, arith, inl, inr}
use Rattle.std.specs.Prelude.{◌↔◌}
use Rattle.std.specs.List.{Contains}
use Rattle.collections.proofs.Members.{has_cases, has_equal, has_tail}
use Rattle.rdf_model.specs.declared.triple.Triple.{Triple}
use Rattle.rdf_model.specs.Graphs.{after}
use Rattle.shape_model.specs.declared.result_row.ResultRow.{ResultRow}
use Rattle.shape_model.specs.Validation.{Listing}
use Rattle.store_model.specs.declared.event.Action.{Action}
use Rattle.store_model.specs.declared.event.BlockMode.{BlockMode}
use Rattle.store_model.specs.declared.event.Event.{Event}
use Rattle.store_model.specs.declared.event.Limits.{Limits}
use Rattle.store_model.specs.declared.event.Reply.{Reply}
use Rattle.store_model.specs.declared.commit.Transaction.{Transaction}
use Rattle.store_model.specs.Blocking.{row_blocks, has_blocking, NoBlocking}
use Rattle.store_model.specs.Store.{State, StepOf, Replays, committed, shapes_under, with_named}
use Rattle.store_model.proofs.Outcomes.{Passes, outcome}

first_false : (a b : Bool) → (a || b) ≡ false → a ≡ false
first_false true b h = cc
first_false false b h = refl

rest_false : (a b : Bool) → (a || b) ≡ false → b ≡ false
rest_false true b h = cc
rest_false false b h = h

none_of : (mode : BlockMode) (s : List Triple) (rows : List ResultRow) → ((row : ResultRow) → Contains rows row → row_blocks mode s row ≡ false) → has_blocking mode s rows ≡ false
none_of mode s [] h = refl
none_of mode s (r ∷ rs) h = ap (λ b. b || has_blocking mode s rs) (h r (has_equal r rs r refl)) ∙ none_of mode s rs (λ row c. h row (has_tail r rs row c))

each_of : (mode : BlockMode) (s : List Triple) (rows : List ResultRow) (row : ResultRow) → has_blocking mode s rows ≡ false → Contains rows row → row_blocks mode s row ≡ false
each_of mode s [] row h c = absurd (omega arith)
each_of mode s (r ∷ rs) row h c = elim (has_cases r rs row c) [
  | inl e ↦ subst (λ (x : ResultRow). row_blocks mode s x ≡ false) e (first_false (row_blocks mode s r) (has_blocking mode s rs) h)
  | inr d ↦ each_of mode s rs row (rest_false (row_blocks mode s r) (has_blocking mode s rs) h) d
]

-- no result blocks where none of the listing does
pub NoBlocking-listed : (mode : BlockMode) (g s : List Triple) (rows : List ResultRow) → Listing g s rows → NoBlocking mode g s ↔ (has_blocking mode s rows ≡ false)
NoBlocking-listed mode g s rows l = (λ none. none_of mode s rows (λ row c. none row ((l.members row).0 c)), λ none row i. each_of mode s rows row none ((l.members row).1 i))

-- the graphs of a state have no result that blocks
abbrev Sound : Limits → State → Type 0
Sound l s = NoBlocking l.mode s.graph s.shapes

committed_sound : (l : Limits) (s : State) (x : Transaction) → Passes l s x → Sound l (committed s x)
committed_sound l s x p = (NoBlocking-listed l.mode (after s.graph x.net) (shapes_under s.shapes x.staged) p.rows p.listing).1 p.none

sound_after : (l : Limits) (s t : State) (i : ℕ) (a : Action) (r : Reply) → StepOf l s i a r t → Sound l s → Sound l t
sound_after l s t i a r h k = elim (outcome l s t i a r h) [
  | inl e ↦ subst (λ (x : State). Sound l x) (sym e.state) k
  | inr (inl e) ↦ let same : Sound l (record s { opened = s.opened + 1 }) = k in subst (λ (x : State). Sound l x) (sym e.state) same
  | inr (inr (inl e)) ↦ let same : Sound l (with_named s e.kind e.terms) = k in subst (λ (x : State). Sound l x) (sym e.state) same
  | inr (inr (inr (inl e))) ↦ subst (λ (x : State). Sound l x) (sym e.state) (committed_sound l s e.transaction e.passes)
  | inr (inr (inr (inr e))) ↦ let same : Sound l (record s { stopped = true }) = k in subst (λ (x : State). Sound l x) (sym e.state) same
]

-- so no later state of a history has one either
pub NoBlocking-stays : (l : Limits) (s t : State) (es : List Event) → Replays l s es t → NoBlocking l.mode s.graph s.shapes → NoBlocking l.mode t.graph t.shapes
NoBlocking-stays l s t [] h k = subst (λ (x : State). Sound l x) (sym h) k
NoBlocking-stays l s t (e ∷ es) h k = NoBlocking-stays l h.0 t es h.2 (sound_after l s h.0 e.session e.action e.reply h.1 k)
