-- From one version of a history to a later one.
use Rattle.std.proofs.Common.{◌≡◌, ℕ, ◌+◌, Bool, true, false, not, ◌&&◌, ◌||◌, List, [], ◌∷◌, ◌++◌, length, drop, Option, Some, None, refl, sym, ap, ◌∙◌, subst, inl, inr}
use Rattle.std.specs.List.{AllByRecursion}
use Rattle.std.proofs.lemmas.List.{append-nil, append_assoc}
use Rattle.std.proofs.Math.Seq.{drop-append_seam}
use Rattle.rdf_model.specs.declared.triple.Triple.{Triple}
use Rattle.rdf_model.specs.Graphs.{after, differing}
use Rattle.store_model.specs.declared.event.Limits.{Limits}
use Rattle.store_model.specs.declared.event.Event.{Event}
use Rattle.store_model.specs.declared.event.Action.{Action}
use Rattle.store_model.specs.declared.event.Reply.{Reply}
use Rattle.store_model.specs.declared.commit.Accepted.{Accepted}
use Rattle.store_model.specs.declared.commit.Transaction.{Transaction}
use Rattle.store_model.specs.Store.{State, StepOf, Replays, committed, is_staged, shapes_under, version, with_named}
use Rattle.rdf_model.specs.Terms.{triple_cmp}
use Rattle.collections.specs.Ordered.{has_item}
use Rattle.store_model.proofs.Differing.{member-differing}
use Rattle.store_model.proofs.Outcomes.{outcome}

-- the commits from one state to a later one, and what they leave as it was
pub record Grows (s u : State) : Type 0 where
  pub more : List Accepted
  pub commits : u.commits ≡ s.commits ++ more
  pub graph : (t : Triple) → AllByRecursion (λ a. has_item triple_cmp t a.changed ≡ false) more → has_item triple_cmp t u.graph ≡ has_item triple_cmp t s.graph
  pub shapes : AllByRecursion (λ a. a.staged ≡ false) more → u.shapes ≡ s.shapes

still : (s u : State) → u.commits ≡ s.commits → u.graph ≡ s.graph → u.shapes ≡ s.shapes → Grows s u
still s u ec eg es = record {
  more = [];
  commits = ec ∙ sym (append-nil s.commits);
  graph = λ t h. ap (λ (g : List Triple). has_item triple_cmp t g) eg;
  shapes = λ h. es;
}

same : (s u : State) → u ≡ s → Grows s u
same s u e = still s u (ap (λ (x : State). x.commits) e) (ap (λ (x : State). x.graph) e) (ap (λ (x : State). x.shapes) e)

alike : (a b : Bool) → ((a && not b) || (b && not a)) ≡ false → b ≡ a
alike true true h = refl
alike true false h = cc
alike false true h = cc
alike false false h = refl

unstaged : (shapes : List Triple) (staged : Option (List Triple)) → is_staged staged ≡ false → shapes_under shapes staged ≡ shapes
unstaged shapes None h = refl
unstaged shapes (Some new) h = cc

grown : (s : State) (x : Transaction) → Grows s (committed s x)
grown s x = record {
  more = record { changed = differing s.graph (after s.graph x.net); staged = is_staged x.staged } ∷ [];
  commits = refl;
  graph = λ t h. alike (has_item triple_cmp t s.graph) (has_item triple_cmp t (after s.graph x.net)) (sym (member-differing s.graph (after s.graph x.net) t) ∙ h.0);
  shapes = λ h. unstaged s.shapes x.staged h.0;
}

stepped : (l : Limits) (s u : State) (i : ℕ) (a : Action) (r : Reply) → StepOf l s i a r u → Grows s u
stepped l s u i a r h = elim (outcome l s u i a r h) [
  | inl e ↦ same s u e.state
  | inr (inl e) ↦ subst (λ (x : State). Grows s x) (sym e.state) (still s (record s { opened = s.opened + 1 }) refl refl refl)
  | inr (inr (inl e)) ↦ subst (λ (x : State). Grows s x) (sym e.state) (still s (with_named s e.kind e.terms) refl refl refl)
  | inr (inr (inr (inl e))) ↦ subst (λ (x : State). Grows s x) (sym e.state) (grown s e.transaction)
  | inr (inr (inr (inr e))) ↦ subst (λ (x : State). Grows s x) (sym e.state) (still s (record s { stopped = true }) refl refl refl)
]

front : (P : Accepted → Type 0) (a b : List Accepted) → AllByRecursion P (a ++ b) → AllByRecursion P a
front P [] b h = tt
front P (x ∷ xs) b h = (h.0, front P xs b h.1)

back : (P : Accepted → Type 0) (a b : List Accepted) → AllByRecursion P (a ++ b) → AllByRecursion P b
back P [] b h = h
back P (x ∷ xs) b h = back P xs b h.1

in_turn : (s m u : State) → Grows s m → Grows m u → Grows s u
in_turn s m u a b = record {
  more = a.more ++ b.more;
  commits = b.commits ∙ (ap (λ (cs : List Accepted). cs ++ b.more) a.commits ∙ append_assoc s.commits a.more b.more);
  graph = λ t h. b.graph t (back (λ c. has_item triple_cmp t c.changed ≡ false) a.more b.more h) ∙ a.graph t (front (λ c. has_item triple_cmp t c.changed ≡ false) a.more b.more h);
  shapes = λ h. b.shapes (back (λ c. c.staged ≡ false) a.more b.more h) ∙ a.shapes (front (λ c. c.staged ≡ false) a.more b.more h);
}

pub replayed : (l : Limits) (s u : State) (es : List Event) → Replays l s es u → Grows s u
replayed l s u [] h = same s u h
replayed l s u (e ∷ es) h = in_turn s h.0 u (stepped l s h.0 e.session e.action e.reply h.1) (replayed l h.0 u es h.2)

pub between_is : (s u : State) (g : Grows s u) → drop (version s) u.commits ≡ g.more
between_is s u g = ap (drop (length s.commits)) g.commits ∙ drop-append_seam s.commits g.more
