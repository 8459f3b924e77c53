-- A turn of a replica.
use Rattle.std.proofs.Common.{◌≡◌, ◌∙◌, true, List, [], ◌∷◌, ◌++◌, refl, sym, ap, subst, arith, inr, Result, Ok, Err}
use Rattle.std.specs.Prelude.{MatchResult}
use Rattle.std.specs.List.{Contains}
use Rattle.std.proofs.lemmas.List.Elements.{Contains-append_left}
use Rattle.turn_lock.specs.History.{MayAdd, OthersAdded, known_after}
use Rattle.turn_lock.specs.Callers.{Caller}
use Rattle.record_text.specs.declared.record.Record.{Record}
use Rattle.follower.specs.declared.fed.Fed.{Fed}
use Rattle.follower.specs.declared.served.Served.{Served}
use Rattle.follower.specs.Followed.{IsServed, unfed, version_of}
use Rattle.replica.specs.declared.entry.Entry.{Entry}
use Rattle.replica.specs.declared.entry.Entry.TheVariants.{Feed, Read, Void}
use Rattle.replica.specs.Entries.{Adds, Leads, Replicated, number_of}
use Rattle.replica.specs.Laws.{TurnsAddOne}
use Rattle.replica.specs.Turns.{Fails, Reads, Turn}
use Rattle.replica.proofs.Keeping.{one_follower}
use Rattle.replica.proofs.Leading.{leads_grow, leads_split, told_below}

module _ {D : Type 0} (pass held after : Caller Entry D) (old next : Replicated) where
  -- the caller has entered its turn
  pub record Entered : Type 0 where
    pub held_is : held ≡ record pass { known = record pass.known { front = old.entries } }
    pub others : OthersAdded number_of true pass.known old.entries
    pub leads : Leads unfed old.entries old.state

  -- what `leave` gives
  abbrev pub Left : Type 0
  Left = (x : Entry) → next.entries ≡ held.known.front ++ x ∷ [] → after ≡ record held { known = known_after number_of x next.entries held.known; own = held.own ++ x ∷ [] }

  pub may_leave : Entered → ((e : Entry) × Adds old e next) → (e : Entry) × (next.entries ≡ held.known.front ++ e ∷ []) × MayAdd number_of true held.known e
  may_leave n a = (a.0, a.1.entries ∙ ap (λ (h : List Entry). h ++ a.0 ∷ []) (sym (ap (λ (h : Caller Entry D). h.known.front) n.held_is)), inr (inr (refl, refl)))

  pub turned : Entered → (e : Entry) → Adds old e next → Left → Turn pass after e
  turned n e a given = record {
    seen = old.entries;
    others = n.others;
    before = old.state;
    leads = n.leads;
    after = next.state;
    step = a.step;
    caller =
        given e (a.entries ∙ ap (λ (h : List Entry). h ++ e ∷ []) (sym (ap (λ (h : Caller Entry D). h.known.front) n.held_is)))
        ∙ (ap (λ (h : Caller Entry D). record h { known = known_after number_of e next.entries h.known; own = h.own ++ e ∷ [] }) n.held_is
        ∙ ap (λ (es : List Entry). record pass { known = record pass.known { front = es }; own = pass.own ++ e ∷ [] }) a.entries);
  }

  pub same_lock : Entered → ((e : Entry) × Adds old e next) → Left → after.lock ≡ pass.lock
  same_lock n a given = ap (λ (c : Caller Entry D). c.lock) (turned n a.0 a.1 given).caller

  pub fed_turn : {E : Type 0} → Entered → (r : Record) (answer : Result Fed E) → MatchResult answer (λ fed. Adds old (Feed r fed) next) (λ _. Adds old Void next) → Left
      → MatchResult answer (λ fed. Turn pass after (Feed r fed)) (λ _. Fails pass after)
  fed_turn n r (Ok fed) a given = turned n (Feed r fed) a given
  fed_turn n r (Err error) a given = inr (turned n Void a given)

  -- the version isn't below any that the caller had seen
  pub read_turn : {E : Type 0} → Entered → (answer : Result Served E) → MatchResult answer (λ served. Adds old (Read served.version) next × IsServed old.state served.version served) (λ _. Adds old Void next) → Left
      → MatchResult answer (λ served. Reads pass after served) (λ _. Fails pass after)
  unfolding turned
  read_turn n (Ok served) a given =
      let front = pass.known.front in
      let begins = n.others.begins in
      let parts = leads_split unfed old.state front begins.0 (subst (λ (es : List Entry). Leads unfed es old.state) (sym begins.1) n.leads) in
      let is : served.version ≡ version_of old.state = a.0.step.0 in record {
        turn = turned n (Read served.version) a.0 given;
        is_served = a.1;
        current = λ s l.
            let same = ap version_of (one_follower front s parts.0 l parts.1) in
            let more = leads_grow parts.0 old.state begins.0 parts.2 in
            omega (arith, same, more, is);
        told = λ e m c t.
            let there : Contains old.entries e = subst (λ (es : List Entry). Contains es e) begins.1 (Contains-append_left front begins.0 e c) in
            let low = told_below unfed old.state old.entries e m n.leads there t in
            omega (arith, low, is);
      }
  read_turn n (Err error) a given = inr (turned n Void a given)

pub adds_one : TurnsAddOne
adds_one old new e t =
    let begins = t.others.begins in record {
      others = begins.0;
      front = ap (λ (c : Caller Entry (Unit {0})). c.known.front) t.caller ∙ ap (λ (es : List Entry). es ++ e ∷ []) (sym begins.1);
      own = ap (λ (c : Caller Entry (Unit {0})). c.own) t.caller;
      before = t.before;
      leads = subst (λ (es : List Entry). Leads unfed es t.before) (sym begins.1) t.leads;
      after = t.after;
      step = t.step;
    }
