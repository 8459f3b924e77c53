-- A commit that nothing overtook would have found the same at its end.
use Rattle.std.proofs.Common.{◌≡◌, ◌∙◌, ℕ, ◌+◌, ◌-◌, Bool, true, false, ◌&&◌, ◌||◌, cond, List, [], ◌∷◌, drop, Option, Some, None, refl, sym, ap, subst, arith, inl, inr}
use Rattle.std.specs.Prelude.{MatchBool, MatchOption}
use Rattle.std.specs.List.{Contains}
use Rattle.std.specs.Ordering.{eq_by_cmp, is_eq}
use Rattle.std.specs.Cmp.{tied_itself}
use Rattle.std.specs.declared.cmp.Ordering.{Ordering}
use Rattle.std.specs.declared.cmp.Ordering.TheVariants.{Less, Equal, Greater}
use Rattle.collections.specs.Ordered.{IsAscending}
use Rattle.collections.proofs.Members.{has_cases, has_equal, has_tail, same_lists}
use Rattle.rdf_model.specs.declared.change.Change.{Change}
use Rattle.rdf_model.specs.declared.pattern.Pattern.{Pattern}
use Rattle.rdf_model.specs.declared.triple.Triple.{Triple}
use Rattle.rdf_model.specs.Graphs.{after}
use Rattle.rdf_model.specs.Matching.{is_found, matches}
use Rattle.rdf_model.specs.Orders.{triple_exact, triple_total}
use Rattle.rdf_model.specs.Terms.{triple_cmp}
use Rattle.store_model.specs.declared.commit.Accepted.{Accepted}
use Rattle.store_model.specs.declared.commit.Again.{Again}
use Rattle.store_model.specs.declared.commit.Overtaker.{Overtaker}
use Rattle.store_model.specs.declared.commit.Transaction.{Transaction}
use Rattle.store_model.specs.declared.event.Action.{Action}
use Rattle.store_model.specs.declared.event.Event.{Event}
use Rattle.store_model.specs.declared.event.Limits.{Limits}
use Rattle.store_model.specs.declared.event.Reply.{Reply}
use Rattle.store_model.specs.declared.event.Reply.TheVariants.{Conflict, Done, Stopped}
use Rattle.store_model.specs.Store.{State, StepOf, Replays, Replies, CommitsWithinLimit, CommitsUnlessOvertaken, first_matching, overtaker, overtaker_from, overtaker_or, version, with_named}
use Rattle.store_model.specs.Finds.{found}
use Rattle.store_model.proofs.Histories.{IsAscending-after}
use Rattle.store_model.proofs.Outcomes.{outcome}
use Rattle.store_model.proofs.SetMembers.{ascending-filter, member-filter}
use Rattle.store_laws.specs.Graphs.{has, holds_after, last_effect}
use Rattle.store_laws.specs.Serial.{FindsAreSerializable}
use Rattle.store_laws.specs.Versions.{LeaveTriple}
use Rattle.store_laws.proofs.Changes.{last_change_wins}
use Rattle.store_laws.proofs.Versions.{unchanged_triples_stay}

is_equal : (o : Ordering) → is_eq o ≡ true → o ≡ Equal
is_equal Less e = cc
is_equal Equal e = refl
is_equal Greater e = cc

or_last : (a b : Bool) → b ≡ true → (a || b) ≡ true
or_last true b h = refl
or_last false b h = h

-- a triple is in a list where its test says so
to_list : (ts : List Triple) (t : Triple) → has ts t ≡ true → Contains ts t
to_list [] t h = cc
to_list (u ∷ us) t h = elim (eq_by_cmp triple_cmp u t) as (λ b. eq_by_cmp triple_cmp u t ≡ b → (b || has us t) ≡ true → Contains (u ∷ us) t) [
  | true ↦ λ e g. has_equal u us t (triple_exact u t (is_equal (triple_cmp u t) e))
  | false ↦ λ e g. has_tail u us t (to_list us t g)
] refl h

to_test : (ts : List Triple) (t : Triple) → Contains ts t → has ts t ≡ true
to_test [] t c = absurd (omega arith)
to_test (u ∷ us) t c = elim (has_cases u us t c) [
  | inl e ↦ ap (λ b. b || has us t) (subst (λ (x : Triple). eq_by_cmp triple_cmp u x ≡ true) e (ap is_eq (tied_itself triple_total u)))
  | inr d ↦ or_last (eq_by_cmp triple_cmp u t) (has us t) (to_test us t d)
]

-- where none of the triples is asked for, one that is asked for isn't among them
unmatched : (ps : List Pattern) (ts : List Triple) (t : Triple) → first_matching ps ts ≡ None → is_found ps t ≡ true → has ts t ≡ false
unmatched ps [] t h r = refl
unmatched ps (u ∷ us) t h r = elim (is_found ps u) as (λ b. is_found ps u ≡ b → cond b (Some u) (first_matching ps us) ≡ None → has (u ∷ us) t ≡ false) [
  | true ↦ λ e g. cc
  | false ↦ λ e g. ap (λ b. b || has us t) (apart e) ∙ unmatched ps us t g r
] refl h
  where
    apart : is_found ps u ≡ false → eq_by_cmp triple_cmp u t ≡ false
    apart e = elim (eq_by_cmp triple_cmp u t) as (λ b. eq_by_cmp triple_cmp u t ≡ b → b ≡ false) [
      | true ↦ λ k. let same : u ≡ t = triple_exact u t (is_equal (triple_cmp u t) k) in let asked : is_found ps u ≡ true = subst (λ (x : Triple). is_found ps x ≡ true) (sym same) r in cc (e, asked)
      | false ↦ λ k. refl
    ] refl

left_alone : (n : ℕ) (ps : List Pattern) (more : List Accepted) (t : Triple) → overtaker_from n ps more ≡ None → is_found ps t ≡ true → LeaveTriple t more
left_alone n ps [] t h r = tt
left_alone n ps (a ∷ as') t h r = elim (first_matching ps a.changed) as (λ o. first_matching ps a.changed ≡ o → overtaker_or n o (overtaker_from (n + 1) ps as') ≡ None → LeaveTriple t (a ∷ as')) [
  | Some u ↦ λ e g. cc
  | None ↦ λ e g. (unmatched ps a.changed t e r, left_alone (n + 1) ps as' t g r)
] refl h

not_stopped : (l : Limits) (s u : State) (x : Transaction) (n : ℕ) (why : Again) (b : Bool) → MatchBool b (Replies (Stopped (version s)) s (Done n why) u) (CommitsUnlessOvertaken l s x (Done n why) u) → CommitsUnlessOvertaken l s x (Done n why) u
not_stopped l s u x n why true h = let e : Done n why ≡ Stopped (version s) = h.0 in cc
not_stopped l s u x n why false h = h

not_overtaken : (l : Limits) (s u : State) (x : Transaction) (n : ℕ) (why : Again) (o : Option Overtaker) → MatchOption o (CommitsWithinLimit l s x (Done n why) u) (λ h. Replies (Conflict h.commit h.triple) s (Done n why) u) → o ≡ None
not_overtaken l s u x n why None h = refl
not_overtaken l s u x n why (Some y) h = let e : Done n why ≡ Conflict y.commit y.triple = h.0 in cc

asked : (ps : List Pattern) (p : Pattern) (t : Triple) → Contains ps p → matches p t ≡ true → is_found ps t ≡ true
asked [] p t c h = absurd (omega arith)
asked (q ∷ ps) p t c h = elim (has_cases q ps p c) [
  | inl e ↦ ap (λ b. b || is_found ps t) (subst (λ (r : Pattern). matches r t ≡ true) (sym e) h)
  | inr d ↦ or_last (matches q t) (is_found ps t) (asked ps p t d h)
]

-- each step keeps the graph ascending
abbrev Ascends : State → Type 0
Ascends s = IsAscending triple_cmp s.graph

kept : (s t u : State) → t ≡ u → u.graph ≡ s.graph → Ascends s → Ascends t
kept s t u e g a = subst (λ (x : State). Ascends x) (sym e) (subst (λ (ts : List Triple). IsAscending triple_cmp ts) (sym g) a)

stepped : (l : Limits) (s t : State) (i : ℕ) (a : Action) (r : Reply) → StepOf l s i a r t → Ascends s → Ascends t
stepped l s t i a r h k = elim (outcome l s t i a r h) [
  | inl e ↦ kept s t s e.state refl k
  | inr (inl e) ↦ kept s t (record s { opened = s.opened + 1 }) e.state refl k
  | inr (inr (inl e)) ↦ kept s t (with_named s e.kind e.terms) e.state refl k
  | inr (inr (inr (inl e))) ↦ subst (λ (x : State). Ascends x) (sym e.state) (IsAscending-after s.graph e.transaction.net k)
  | inr (inr (inr (inr e))) ↦ kept s t (record s { stopped = true }) e.state refl k
]

replayed : (l : Limits) (s t : State) (es : List Event) → Replays l s es t → Ascends s → Ascends t
replayed l s t [] h a = kept s t s h refl a
replayed l s t (e ∷ es) h a = replayed l h.0 t es h.2 (stepped l s h.0 e.session e.action e.reply h.1 a)

-- what a find gives, triple by triple
in_found : (g : List Triple) (p : Pattern) (t : Triple) → has (found g p) t ≡ (has g t && matches p t)
in_found g p t = member-filter triple_total (λ u. matches p u) t g (λ u e. ap (λ (w : Triple). matches p w) (triple_exact u t e))

after_alike : (g h : List Triple) (changes : List Change) (t : Triple) → IsAscending triple_cmp g → IsAscending triple_cmp h → has g t ≡ has h t → has (after g changes) t ≡ has (after h changes) t
after_alike g h changes t a b e = last_change_wins g changes t a ∙ (ap (holds_after (last_effect changes t)) e ∙ sym (last_change_wins h changes t b))

where_asked : (a b m : Bool) → (m ≡ true → a ≡ b) → (a && m) ≡ (b && m)
where_asked a b true e = ap (λ c. c && true) (e refl)
where_asked true true false e = refl
where_asked true false false e = refl
where_asked false true false e = refl
where_asked false false false e = refl

found_alike : (g h : List Triple) (p : Pattern) (t : Triple) → (matches p t ≡ true → has g t ≡ has h t) → has (found g p) t ≡ has (found h p) t
found_alike g h p t e = in_found g p t ∙ (where_asked (has g t) (has h t) (matches p t) e ∙ sym (in_found h p t))

same_finds : (g h : List Triple) (p : Pattern) → IsAscending triple_cmp g → IsAscending triple_cmp h → ((t : Triple) → matches p t ≡ true → has g t ≡ has h t) → found g p ≡ found h p
same_finds g h p a b e =
    same_lists triple_cmp triple_total (found g p) (found h p) (ascending-filter triple_total (λ u. matches p u) g a) (ascending-filter triple_total (λ u. matches p u) h b)
    (λ t. let alike = found_alike g h p t (e t) in (λ c. to_list (found h p) t (sym alike ∙ to_test (found g p) t c), λ c. to_list (found g p) t (alike ∙ to_test (found h p) t c)))

pub finds_are_serializable : FindsAreSerializable
finds_are_serializable l start base last next earlier between i n x why p changes a h k e step c =
    let alone : CommitsUnlessOvertaken l last x (Done n why) next = not_stopped l last next x n why last.stopped step.2 in
    let none : overtaker_from (x.base + 1) x.finds (drop x.base last.commits) ≡ None = not_overtaken l last next x n why (overtaker last.commits x.base x.finds) alone in
    let at_base : Ascends base = replayed l start base earlier h a in
    let at_last : Ascends last = replayed l base last between k at_base in
    let left : (t : Triple) → matches p t ≡ true → LeaveTriple t (drop (version base) last.commits) =
    λ t m. subst (λ (v : ℕ). LeaveTriple t (drop v last.commits)) e (left_alone (x.base + 1) x.finds (drop x.base last.commits) t none (asked x.finds p t c m)) in
    same_finds (after last.graph changes) (after base.graph changes) p (IsAscending-after last.graph changes at_last) (IsAscending-after base.graph changes at_base)
    (λ t m. after_alike last.graph base.graph changes t at_last at_base (unchanged_triples_stay l base last between t k (left t m)))
