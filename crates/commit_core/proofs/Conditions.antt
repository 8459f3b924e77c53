-- The tests of what may be asked for tell exactly the plain store's conditions.
use Rattle.std.proofs.Common.{◌≡◌, ℕ, zero, suc, ◌+◌, ◌<◌, ◌≤◌, Bool, true, false, ◌&&◌, cond, nat_le, nat_lt, List, [], ◌∷◌, length, get_or, map, Option, Some, None, refl, sym, ap, ◌∙◌, subst, arith}
use Rattle.std.specs.Prelude.{MatchBool}
use Rattle.std.specs.List.{AllByRecursion, list_all}
use Rattle.std.proofs.lemmas.Bool.Decides.{nat_tests}
use Rattle.collections.specs.Ordered.{has_item}
use Rattle.rdf_model.specs.declared.change.Change.{Change}
use Rattle.rdf_model.specs.declared.look.Look.{Look}
use Rattle.rdf_model.specs.declared.look.Look.TheVariants.{Out, In, OutAny}
use Rattle.rdf_model.specs.declared.term.Term.{Term}
use Rattle.rdf_model.specs.declared.triple.Triple.{Triple}
use Rattle.rdf_model.specs.Terms.{term_cmp}
use Rattle.store_model.specs.declared.commit.Transaction.{Transaction}
use Rattle.store_model.specs.declared.commit.Verdict.{Verdict}
use Rattle.store_model.specs.declared.event.Action.{Action}
use Rattle.store_model.specs.declared.event.Action.TheVariants.{Open, Begin, Name, Head, Commit, Void}
use Rattle.store_model.specs.declared.event.Limits.{Limits}
use Rattle.store_model.specs.declared.event.Reply.{Reply}
use Rattle.store_model.specs.Logs.{IsUnlogged}
use Rattle.store_model.specs.Store.{AreNamed, HasChange, IsCommittable, IsOpened, OpensNext, OpensNothing, RecordedStore, StagedNamed, State, StepOf, TakesStep, VerdictFits, changed_triple, looked_at, terms_of, version}
use Rattle.triple_index.specs.Changes.{change_at}
use Rattle.triple_index.specs.declared.change.NumberedChange.{NumberedChange}
use Rattle.commit_core.specs.Conditions.{change_named, has_change, look_named, may_ask, may_commit, next_session, staged_named, triple_named, verdict_fits, was_opened}
use Rattle.commit_core.specs.Replaying.{Performs}

pub both : (a b : Bool) → (a && b) ≡ true → (a ≡ true) × (b ≡ true)
both true b h = (refl, h)
both false b h = cc

pub joined : (a b : Bool) → a ≡ true → b ≡ true → (a && b) ≡ true
joined true b e h = h
joined false b e h = cc

-- a change that isn't named
and_false : (a b : Bool) → b ≡ false → (a && b) ≡ false
and_false true b h = h
and_false false b h = refl

pub not_all_named : (named ts : List Term) (cs : List NumberedChange) (k : ℕ) (d : NumberedChange) → k < length cs → change_named named (change_at ts (get_or cs k d)) ≡ false → list_all (change_named named) (map (change_at ts) cs) ≡ false
not_all_named named ts [] k d lt e = absurd (omega (arith, lt))
not_all_named named ts (c ∷ cs) zero d lt e = ap (λ b. b && list_all (change_named named) (map (change_at ts) cs)) e
not_all_named named ts (c ∷ cs) (suc k) d lt e = and_false (change_named named (change_at ts c)) (list_all (change_named named) (map (change_at ts) cs)) (not_all_named named ts cs k d (omega (arith, lt)) e)

-- a test of each element
told : {X : Type 0} (test : X → Bool) (P : X → Type 0) → ((x : X) → test x ≡ true → P x) → (xs : List X) → list_all test xs ≡ true → AllByRecursion P xs
told test P law [] h = tt
told test P law (x ∷ xs) h = let p = both (test x) (list_all test xs) h in (law x p.0, told test P law xs p.1)

tells : {X : Type 0} (test : X → Bool) (P : X → Type 0) → ((x : X) → P x → test x ≡ true) → (xs : List X) → AllByRecursion P xs → list_all test xs ≡ true
tells test P law [] h = refl
tells test P law (x ∷ xs) h = joined (test x) (list_all test xs) (law x h.0) (tells test P law xs h.1)

named_triple : (named : List Term) (t : Triple) → triple_named named t ≡ true → AreNamed named (terms_of t)
named_triple named t h =
    let p = both (has_item term_cmp t.subject named && has_item term_cmp t.predicate named) (has_item term_cmp t.object named) h in
    let q = both (has_item term_cmp t.subject named) (has_item term_cmp t.predicate named) p.0 in
    (q.0, (q.1, (p.1, tt)))

triple_is_named : (named : List Term) (t : Triple) → AreNamed named (terms_of t) → triple_named named t ≡ true
triple_is_named named t h =
    joined (has_item term_cmp t.subject named && has_item term_cmp t.predicate named) (has_item term_cmp t.object named)
    (joined (has_item term_cmp t.subject named) (has_item term_cmp t.predicate named) h.0 h.1.0) h.1.1.0

named_staged : (named : List Term) (staged : Option (List Triple)) → staged_named named staged ≡ true → StagedNamed named staged
named_staged named None h = tt
named_staged named (Some shapes) h = told (triple_named named) (λ t. AreNamed named (terms_of t)) (named_triple named) shapes h

staged_is_named : (named : List Term) (staged : Option (List Triple)) → StagedNamed named staged → staged_named named staged ≡ true
staged_is_named named None h = refl
staged_is_named named (Some shapes) h = tells (triple_named named) (λ t. AreNamed named (terms_of t)) (triple_is_named named) shapes h

named_look : (named : List Term) (l : Look Term) → look_named named l ≡ true → AreNamed named (looked_at l)
named_look named (Out x p) h = let q = both (has_item term_cmp x named) (has_item term_cmp p named) h in (q.0, (q.1, tt))
named_look named (In p x) h = let q = both (has_item term_cmp p named) (has_item term_cmp x named) h in (q.0, (q.1, tt))
named_look named (OutAny x) h = (h, tt)

look_is_named : (named : List Term) (l : Look Term) → AreNamed named (looked_at l) → look_named named l ≡ true
look_is_named named (Out x p) h = joined (has_item term_cmp x named) (has_item term_cmp p named) h.0 h.1.0
look_is_named named (In p x) h = joined (has_item term_cmp p named) (has_item term_cmp x named) h.0 h.1.0
look_is_named named (OutAny x) h = h.0

is_at_most : (a b : ℕ) → nat_le a b ≡ true → a ≤ b
is_at_most a b h = grind (arith, nat_tests)

at_most : (a b : ℕ) → a ≤ b → nat_le a b ≡ true
at_most a b h = grind (arith, nat_tests)

fits : (s : State) (v : Option Verdict) → verdict_fits (version s) s.named v ≡ true → VerdictFits s v
fits s None h = tt
fits s (Some v) h =
    let p = both (nat_le v.head (version s)) (list_all (look_named s.named) v.looks) h in
    (is_at_most v.head (version s) p.0, told (look_named s.named) (λ l. AreNamed s.named (looked_at l)) (named_look s.named) v.looks p.1)

does_fit : (s : State) (v : Option Verdict) → VerdictFits s v → verdict_fits (version s) s.named v ≡ true
does_fit s None h = refl
does_fit s (Some v) h =
    joined (nat_le v.head (version s)) (list_all (look_named s.named) v.looks) (at_most v.head (version s) h.0)
    (tells (look_named s.named) (λ l. AreNamed s.named (looked_at l)) (look_is_named s.named) v.looks h.1)

changes : (net : List Change) (staged : Option (List Triple)) → has_change net staged ≡ true → HasChange net staged
changes [] None h = cc
changes [] (Some shapes) h = tt
changes (c ∷ cs) staged h = tt

does_change : (net : List Change) (staged : Option (List Triple)) → HasChange net staged → has_change net staged ≡ true
does_change [] None h = absurd h
does_change [] (Some shapes) h = refl
does_change (c ∷ cs) staged h = refl

pub committable : (s : State) (x : Transaction) → may_commit (version s) s.named x ≡ true → IsCommittable s x
committable s x h =
    let a = nat_le x.base (version s) in
    let b = has_change x.net x.staged in
    let c = list_all (change_named s.named) x.net in
    let d = staged_named s.named x.staged in
    let p = both (a && b && c && d) (verdict_fits (version s) s.named x.verdict) h in
    let q = both (a && b && c) d p.0 in
    let r = both (a && b) c q.0 in
    let u = both a b r.0 in
    record {
      base = is_at_most x.base (version s) u.0;
      change = changes x.net x.staged u.1;
      net = told (change_named s.named) (λ e. AreNamed s.named (terms_of (changed_triple e))) (λ e k. named_triple s.named (changed_triple e) k) x.net r.1;
      staged = named_staged s.named x.staged q.1;
      verdict = fits s x.verdict p.1;
    }

may_be_committed : (s : State) (x : Transaction) → IsCommittable s x → may_commit (version s) s.named x ≡ true
may_be_committed s x k =
    let a = nat_le x.base (version s) in
    let b = has_change x.net x.staged in
    let c = list_all (change_named s.named) x.net in
    let d = staged_named s.named x.staged in
    joined (a && b && c && d) (verdict_fits (version s) s.named x.verdict)
    (joined (a && b && c) d
    (joined (a && b) c (joined a b (at_most x.base (version s) k.base) (does_change x.net x.staged k.change))
    (tells (change_named s.named) (λ e. AreNamed s.named (terms_of (changed_triple e))) (λ e h. triple_is_named s.named (changed_triple e) h) x.net k.net))
    (staged_is_named s.named x.staged k.staged))
    (does_fit s x.verdict k.verdict)

pub opened : (s : State) (i : ℕ) → was_opened s.opened i ≡ true → IsOpened s i
opened s i h = let p = both (nat_lt 0 i) (nat_le i s.opened) h in (grind (arith, nat_tests, p.0), is_at_most i s.opened p.1)

is_opened : (s : State) (i : ℕ) → IsOpened s i → was_opened s.opened i ≡ true
is_opened s i h = let some : nat_lt 0 i ≡ true = grind (arith, nat_tests, h.0) in joined (nat_lt 0 i) (nat_le i s.opened) some (at_most i s.opened h.1)

opening_by : (s t : State) (i : ℕ) (r : Reply) (b : Bool) → MatchBool b (OpensNext s i r t) (OpensNothing s i r t) → i ≡ cond b (s.opened + 1) 0
opening_by s t i r true h = h.0
opening_by s t i r false h = h.0

-- an opening has the next number
opening : (l : Limits) (s t : State) (i : ℕ) (r : Reply) → StepOf l s i Open r t → i ≡ next_session s.opened
opening l s t i r h = opening_by s t i r (nat_lt s.opened 64) h

-- a step may be asked for
pub asked : (l : Limits) (s t : State) (i : ℕ) (a : Action) (r : Reply) → StepOf l s i a r t → may_ask s i a ≡ true
asked l s t i Open r h = let e = opening l s t i r h in grind (arith, nat_tests, e)
asked l s t i Begin r h = is_opened s i h.0
asked l s t i (Name kind ts) r h = is_opened s i h.0
asked l s t i Head r h = is_opened s i h.0
asked l s t i (Commit x) r h = joined (was_opened s.opened i) (may_commit (version s) s.named x) (is_opened s i h.0) (may_be_committed s x h.1)
asked l s t i Void r h = at_most i s.opened h.0

pub performs_opening : (old new : RecordedStore) (i j : ℕ) (r : Reply) → IsUnlogged r → i ≡ next_session old.state.opened → TakesStep old new (record { session = j; action = Open; reply = r }) → Performs old new i Open
performs_opening old new i j r unlogged e h = record {
  reply = r;
  unlogged = unlogged;
  step = subst (λ (n : ℕ). TakesStep old new (record { session = n; action = Open; reply = r })) (opening old.limits old.state new.state j r h.step ∙ sym e) h;
}
