-- A verdict that no later commit touched has the pairs that its changes touch in the newest graph.
use Rattle.std.proofs.Common.{◌≡◌, ◌∙◌, ℕ, ◌+◌, Bool, true, false, ◌||◌, cond, List, [], ◌∷◌, ◌++◌, append-nil, length-append, drop, Option, Some, None, refl, sym, ap, subst, arith, inl, inr}
use Rattle.std.specs.Prelude.{◌↔◌, MatchBool}
use Rattle.std.specs.List.{AllByRecursion, Contains}
use Rattle.std.specs.Ordering.{eq_by_cmp}
use Rattle.std.proofs.lemmas.List.{append_assoc}
use Rattle.std.proofs.Math.ListN.{get_or-append}
use Rattle.rdf_model.specs.declared.change.Change.{Change}
use Rattle.rdf_model.specs.declared.look.Look.{Look}
use Rattle.rdf_model.specs.declared.term.Term.{Term}
use Rattle.rdf_model.specs.declared.term.Term.TheVariants.{Blank}
use Rattle.rdf_model.specs.declared.triple.Triple.{Triple}
use Rattle.rdf_model.specs.Matching.{is_read, is_read_by}
use Rattle.rdf_model.specs.Orders.{triple_exact}
use Rattle.rdf_model.specs.Terms.{term_cmp, triple_cmp}
use Rattle.collections.specs.Ordered.{has_item}
use Rattle.collections.proofs.Members.{has_cases, has_head, has_tail}
use Rattle.shape_model.specs.Agreement.{Agree}
use Rattle.shape_model.proofs.Looks.{look_law}
use Rattle.change_laws.specs.Checks.{AreChecked, CheckedPair}
use Rattle.change_laws.proofs.Checked.{checked_law}
use Rattle.kept_rows.specs.declared.pair_rows.PairRows.{PairRows}
use Rattle.kept_rows.specs.Laws.{AreBoundPairs, ChecksPairs, read_pair, read_pairs}
use Rattle.store_model.specs.declared.commit.Accepted.{Accepted}
use Rattle.store_model.specs.declared.commit.Again.{Again}
use Rattle.store_model.specs.declared.commit.Again.TheVariants.{No, ShapesChanged}
use Rattle.store_model.specs.declared.commit.Verdict.{Verdict}
use Rattle.store_model.specs.declared.commit.Transaction.{Transaction}
use Rattle.store_model.specs.declared.event.Action.{Action}
use Rattle.store_model.specs.declared.event.Event.{Event}
use Rattle.store_model.specs.declared.event.Limits.{Limits}
use Rattle.store_model.specs.declared.event.Reply.{Reply}
use Rattle.store_model.specs.Store.{RecordedStore, Replays, State, StepOf, again, again_from, first_read, named_with, touched_or, version}
use Rattle.store_model.specs.Snapshots.{Snapshot, snapshot_of}
use Rattle.store_model.proofs.Outcomes.{outcome}
use Rattle.store_model.proofs.Steps.{ReplyGivesOneState-holds}
use Rattle.store_model.proofs.Versions.{Grows, between_is, replayed}
use Rattle.data_graph.proofs.Tests.{is_equal, or_last, to_list, to_test}
use Rattle.commit_core.specs.Consistent.{IsConsistent}
use Rattle.commit_core.specs.Verdicts.{AreOfVerdict, AreOfVerdictIn, IsHeld, IsPairedCheck, IsVerdict, IsVerdictIn}
use Rattle.commit_core.proofs.Consistency.{past_ascends}

-- a replay in two parts
split : (l : Limits) (s u : State) (front back : List Event) → Replays l s (front ++ back) u → (m : State) × Replays l s front m × Replays l m back u
split l s u [] back h = (s, refl, h)
split l s u (e ∷ es) back h = let r = split l h.0 u es back h.2 in (r.0, (h.0, h.1, r.1), r.2)

one_end : (l : Limits) (s m n : State) (es : List Event) → Replays l s es m → Replays l s es n → n ≡ m
one_end l s m n [] h k = k ∙ sym h
one_end l s m n (e ∷ es) h k =
    let same : k.0 ≡ h.0 = ReplyGivesOneState-holds l s h.0 k.0 e.session e.action e.reply h.1 k.1 in
    one_end l h.0 m n es h.2 (subst (λ (x : State). Replays l x es n) same k.2)

pub since : (s : RecordedStore) (head : State) (front back : List Event) → Replays s.limits s.start s.history s.state → s.history ≡ front ++ back → Replays s.limits s.start front head → Replays s.limits head back s.state
since s head front back all e h =
    let r = split s.limits s.start s.state front back (subst (λ (es : List Event). Replays s.limits s.start es s.state) e all) in
    subst (λ (x : State). Replays s.limits x back s.state) (one_end s.limits s.start head r.0 front h r.1) r.2

alike : (g h : List Triple) (t : Triple) → has_item triple_cmp t h ≡ has_item triple_cmp t g → Contains g t ↔ Contains h t
alike g h t e = (λ c. to_list h t (e ∙ to_test g t c), λ c. to_list g t (sym e ∙ to_test h t c))

-- where none of the triples is read, a triple that is read isn't one of them
unread : (ls : List (Look Term)) (ts : List Triple) (t : Triple) → first_read ls ts ≡ None → is_read ls t ≡ true → has_item triple_cmp t ts ≡ false
unread ls [] t h r = refl
unread ls (u ∷ us) t h r = elim (is_read ls u) as (λ b. is_read ls u ≡ b → cond b (Some u) (first_read ls us) ≡ None → has_item triple_cmp t (u ∷ us) ≡ false) [
  | true ↦ λ e g. cc
  | false ↦ λ e g. ap (λ b. b || has_item triple_cmp t us) (apart u e) ∙ unread ls us t g r
] refl h
  where
    apart : (u : Triple) → is_read ls u ≡ false → eq_by_cmp triple_cmp u t ≡ false
    apart u e = elim (eq_by_cmp triple_cmp u t) as (λ b. eq_by_cmp triple_cmp u t ≡ b → b ≡ false) [
      | true ↦ λ k. let same : u ≡ t = triple_exact u t (is_equal (triple_cmp u t) k) in let read : is_read ls u ≡ true = subst (λ (x : Triple). is_read ls x ≡ true) (sym same) r in cc (e, read)
      | false ↦ λ k. refl
    ] refl

-- commits after which a verdict with these looks still holds: none staged shapes, none changed a triple that is read
abbrev Leave : List (Look Term) → List Accepted → Type 0
Leave ls more = AllByRecursion (λ a. a.staged ≡ false) more × ((t : Triple) → is_read ls t ≡ true → AllByRecursion (λ a. has_item triple_cmp t a.changed ≡ false) more)

untouched : (n : ℕ) (ls : List (Look Term)) (more : List Accepted) → again_from n ls more ≡ No → Leave ls more
untouched n ls [] h = (tt, λ t r. tt)
untouched n ls (a ∷ as') h = elim a.staged as (λ b. a.staged ≡ b → cond b (ShapesChanged n) (touched_or n (first_read ls a.changed) (again_from (n + 1) ls as')) ≡ No → Leave ls (a ∷ as')) [
  | true ↦ λ e g. cc
  | false ↦ λ e g. elim (first_read ls a.changed) as (λ o. first_read ls a.changed ≡ o → touched_or n o (again_from (n + 1) ls as') ≡ No → Leave ls (a ∷ as')) [
    | Some t ↦ λ f k. cc
    | None ↦ λ f k. let rest = untouched (n + 1) ls as' k in ((e, rest.0), λ t r. (unread ls a.changed t f r, rest.1 t r))
  ] refl g
] refl h

-- a look of the list that reads a triple
looks_read : (ls : List (Look Term)) (look : Look Term) (t : Triple) → Contains ls look → is_read_by look t ≡ true → is_read ls t ≡ true
looks_read [] look t c h = absurd (omega arith)
looks_read (l ∷ ls) look t c h = elim (has_cases l ls look c) [
  | inl e ↦ ap (λ b. b || is_read ls t) (subst (λ (x : Look Term). is_read_by x t ≡ true) (sym e) h)
  | inr d ↦ or_last (is_read_by l t) (is_read ls t) (looks_read ls look t d h)
]

agree : (g h : List Triple) (ls : List (Look Term)) → ((t : Triple) → is_read ls t ≡ true → has_item triple_cmp t h ≡ has_item triple_cmp t g) → Agree g h ls
agree g h ls same look c t m = alike g h t (same t (looks_read ls look t c ((look_law look t).0 m)))

-- names are put behind those that are there
named_grows : (named ts : List Term) → (more : List Term) × (named_with named ts ≡ named ++ more)
named_grows named [] = ([], sym (append-nil named))
named_grows named (t ∷ ts) = elim (has_item term_cmp t named) as (λ b. (more : List Term) × (named_with (cond b named (named ++ t ∷ [])) ts ≡ named ++ more)) [
  | true ↦ named_grows named ts
  | false ↦ let k = named_grows (named ++ t ∷ []) ts in (t ∷ k.0, k.1 ∙ append_assoc named (t ∷ []) k.0)
]

unchanged : (s t : State) → t.named ≡ s.named → (more : List Term) × (t.named ≡ s.named ++ more)
unchanged s t e = ([], e ∙ sym (append-nil s.named))

named_by : (l : Limits) (s t : State) (i : ℕ) (a : Action) (r : Reply) → StepOf l s i a r t → (more : List Term) × (t.named ≡ s.named ++ more)
named_by l s t i a r h = elim (outcome l s t i a r h) [
  | inl e ↦ unchanged s t (ap (λ (x : State). x.named) e.state)
  | inr (inl e) ↦ unchanged s t (ap (λ (x : State). x.named) e.state)
  | inr (inr (inl e)) ↦ let k = named_grows s.named e.terms in (k.0, ap (λ (x : State). x.named) e.state ∙ k.1)
  | inr (inr (inr (inl e))) ↦ unchanged s t (ap (λ (x : State). x.named) e.state)
  | inr (inr (inr (inr e))) ↦ unchanged s t (ap (λ (x : State). x.named) e.state)
]

named_since : (l : Limits) (s t : State) (es : List Event) → Replays l s es t → (more : List Term) × (t.named ≡ s.named ++ more)
named_since l s t [] h = unchanged s t (ap (λ (x : State). x.named) h)
named_since l s t (e ∷ es) h =
    let first = named_by l s h.0 e.session e.action e.reply h.1 in
    let rest = named_since l h.0 t es h.2 in
    (first.0 ++ rest.0, rest.1 ∙ ap (λ (ns : List Term). ns ++ rest.0) first.1 ∙ append_assoc s.named first.0 rest.0)

-- so numbers that had a term keep it
read_stays : (named more : List Term) (pairs : List PairRows) → AreBoundPairs named pairs → read_pairs (named ++ more) pairs ≡ read_pairs named pairs
read_stays named more [] bound = refl
read_stays named more (p ∷ ps) bound =
    let here = bound p (has_head p ps) in
    let shape = get_or-append named more (Blank 0 0) p.shape here.0 in
    let focus = get_or-append named more (Blank 0 0) p.focus here.1 in
    let one : read_pair (named ++ more) p ≡ read_pair named p = λ i. record { shape = shape i; focus = focus i; rows = p.rows } in
    let rest = read_stays named more ps (λ q c. bound q (has_tail p ps q c)) in
    λ i. one i ∷ rest i

checks_stay : (named more later : List Term) (g s : List Triple) (net : List Change) (pairs : List PairRows) → later ≡ named ++ more → ChecksPairs named g s net pairs → ChecksPairs later g s net pairs
checks_stay named more later g s net pairs e k =
    let l = length-append named more in
    subst (λ (us : List Term). ChecksPairs us g s net pairs) (sym e) (record {
      bound = λ p c. let n = k.bound p c in (omega (arith, l, n.0), omega (arith, l, n.1));
      checked = subst (λ (cs : List CheckedPair). AreChecked g s net cs) (sym (read_stays named more pairs k.bound)) k.checked;
    })

verdict_stands : (s : RecordedStore) (net : List Change) (v : Verdict) (pairs : List PairRows) → IsConsistent s → IsVerdict s net v pairs → again_from (v.head + 1) v.looks (drop v.head s.state.commits) ≡ No
    → ChecksPairs s.state.named s.state.graph s.state.shapes net pairs
verdict_stands s net v pairs k i h =
    let later_on = since s i.head i.front i.back k.replays i.history i.replays in
    let g : Grows i.head s.state = replayed s.limits i.head s.state i.back later_on in
    let later : drop v.head s.state.commits ≡ g.more = ap (λ n. drop n s.state.commits) i.number ∙ between_is i.head s.state g in
    let leave = untouched (v.head + 1) v.looks g.more (subst (λ (cs : List Accepted). again_from (v.head + 1) v.looks cs ≡ No) later h) in
    let past = past_ascends s i.head i.front k i.replays in
    let shapes : s.state.shapes ≡ i.head.shapes = g.shapes leave.0 in
    let names = named_since s.limits i.head s.state i.back later_on in
    let now : ChecksPairs i.head.named s.state.graph i.head.shapes net pairs = record {
      bound = i.check.checks.bound;
      checked =
          checked_law i.head.graph s.state.graph i.head.shapes net v.looks (read_pairs i.head.named pairs) past k.sound.ascending i.check.looks i.check.checks.checked
          (agree i.head.graph s.state.graph v.looks (λ t r. g.graph t (leave.1 t r)));
    } in
    subst (λ (ts : List Triple). ChecksPairs s.state.named s.state.graph ts net pairs) (sym shapes) (checks_stay i.head.named names.0 s.state.named s.state.graph i.head.shapes net pairs names.1 now)

held_parts : (s : RecordedStore) (net : List Change) (staged : Option (List Triple)) (verdict : Option Verdict) (pairs : List PairRows) → IsConsistent s → AreOfVerdict s net verdict pairs → again s.state.commits staged verdict ≡ No
    → (staged ≡ None) × ChecksPairs s.state.named s.state.graph s.state.shapes net pairs
held_parts s net (Some shapes) verdict pairs k a h = cc
held_parts s net None None pairs k a h = cc
held_parts s net None (Some v) pairs k a h = (refl, verdict_stands s net v pairs k a h)

-- by the test of the reason
pub held : (s : RecordedStore) (x : Transaction) (pairs : List PairRows) (why : Again) (b : Bool) → IsConsistent s → AreOfVerdict s x.net x.verdict pairs → why ≡ again s.state.commits x.staged x.verdict → MatchBool b (why ≡ No) (Unit {0})
    → MatchBool b (IsHeld s x pairs) (Unit {0})
held s x pairs why true k a e h = let p = held_parts s x.net x.staged x.verdict pairs k a (sym e ∙ h) in record { unstaged = p.0; checks = p.1 }
held s x pairs why false k a e h = tt

-- a check at the version that the events in front lead to is a verdict of each history that begins with them
pub verdict_at : (l : Limits) (start : State) (front back : List Event) (head : State) (net : List Change) (v : Verdict) (pairs : List PairRows) → Replays l start front head → v.head ≡ version head → IsPairedCheck head.named head.graph head.shapes net v.looks pairs
    → IsVerdictIn l start (front ++ back) net v pairs
verdict_at l start front back head net v pairs replays number check = record { front = front; back = back; history = refl; head = head; replays = replays; number = number; check = check }

-- and so is one on the snapshot of that version
pub verdict_of_snapshot : (l : Limits) (start : State) (front back : List Event) (head : State) (n : Snapshot) (net : List Change) (v : Verdict) (pairs : List PairRows) → Replays l start front head → n ≡ snapshot_of l.mode head → v.head ≡ n.number
    → IsPairedCheck n.named n.graph n.shapes net v.looks pairs → IsVerdictIn l start (front ++ back) net v pairs
verdict_of_snapshot l start front back head n net v pairs replays is number check =
    verdict_at l start front back head net v pairs replays (number ∙ ap (λ (x : Snapshot). x.number) is) (subst (λ (x : Snapshot). IsPairedCheck x.named x.graph x.shapes net v.looks pairs) is check)

-- a verdict stays one where the history grows
pub verdict_lasts : (l : Limits) (start : State) (events more : List Event) (net : List Change) (v : Verdict) (pairs : List PairRows) → IsVerdictIn l start events net v pairs → IsVerdictIn l start (events ++ more) net v pairs
verdict_lasts l start events more net v pairs i = record {
  front = i.front;
  back = i.back ++ more;
  history = ap (λ (es : List Event). es ++ more) i.history ∙ append_assoc i.front i.back more;
  head = i.head;
  replays = i.replays;
  number = i.number;
  check = i.check;
}

pub pairs_last : (l : Limits) (start : State) (events more : List Event) (net : List Change) (verdict : Option Verdict) (pairs : List PairRows) → AreOfVerdictIn l start events net verdict pairs → AreOfVerdictIn l start (events ++ more) net verdict pairs
pairs_last l start events more net None pairs a = tt
pairs_last l start events more net (Some v) pairs a = verdict_lasts l start events more net v pairs a
