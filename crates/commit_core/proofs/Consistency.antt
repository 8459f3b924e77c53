-- What a step keeps.
use Rattle.std.proofs.Common.{◌≡◌, ℕ, ◌+◌, ◌-◌, ◌^◌, ◌<◌, ◌≤◌, Bool, true, false, List, [], ◌∷◌, ◌++◌, length, Option, Some, None, refl, sym, ap, ◌∙◌, subst, cond, arith, inl, inr, length-append}
use Rattle.rdf_model.specs.declared.term.Term.{Term}
use Rattle.rdf_model.specs.declared.triple.Triple.{Triple}
use Rattle.rdf_model.specs.Terms.{term_cmp, triple_cmp}
use Rattle.rdf_model.specs.Graphs.{after, differing}
use Rattle.collections.specs.Ordered.{IsAscending, has_item}
use Rattle.shape_model.specs.declared.result_row.ResultRow.{ResultRow}
use Rattle.shape_model.specs.Validation.{Listing}
use Rattle.shape_model.proofs.Listings.{conforms_law, no_shapes_law}
use Rattle.store_model.specs.declared.commit.Accepted.{Accepted}
use Rattle.store_model.specs.declared.commit.Again.{Again}
use Rattle.store_model.specs.declared.commit.Overtaker.{Overtaker}
use Rattle.store_model.specs.declared.commit.Transaction.{Transaction}
use Rattle.store_model.specs.declared.commit.Verdict.{Verdict}
use Rattle.store_model.specs.declared.event.Action.{Action}
use Rattle.store_model.specs.declared.event.Action.TheVariants.{Begin, Name, Head, Commit}
use Rattle.store_model.specs.declared.event.Event.{Event}
use Rattle.store_model.specs.declared.event.Limits.{Limits}
use Rattle.store_model.specs.declared.event.NameKind.{NameKind}
use Rattle.store_model.specs.declared.event.NameKind.TheVariants.{Fresh, Known, Attach}
use Rattle.store_model.specs.declared.event.Reply.{Reply}
use Rattle.store_model.specs.declared.event.Reply.TheVariants.{Version, Named, Unknown, Full, Conflict, FullTriples, Refused, Done, LogFault}
use Rattle.store_model.specs.Blocking.{has_blocking}
use Rattle.store_model.specs.Nodes.{given_by, unknown_by}
use Rattle.store_model.specs.Store.{State, RecordedStore, Replays, TakesStep, Step, StepOf, IsOpened, IsCommittable, VerdictFits, again, empty_store, overtaker, named_with, with_named, shapes_under, committed, is_staged}
use Rattle.store_model.proofs.Blocking.{NoBlocking-listed}
use Rattle.store_model.proofs.Histories.{Replays-push, IsAscending-after}
use Rattle.store_model.proofs.Nodes.{ascending-given_with}
use Rattle.store_model.proofs.Outcomes.{Passes, outcome}
use Rattle.store_model.proofs.Steps.{names, names_none, names_unknown, conflicts, overflows, accepts, fails, refuses}
use Rattle.data_graph.specs.DataGraphs.{NamedGraph, names_of, with_names}
use Rattle.commit_core.specs.declared.bounds.Bounds.{Bounds}
use Rattle.commit_core.specs.declared.commit.Refusal.{Refusal}
use Rattle.commit_core.specs.Commits.{IsWithin, NoneBlocks, Refuses, committed_graph, data_of}
use Rattle.commit_core.specs.Consistent.{IsConsistent, IsSoundState}
use Rattle.commit_core.specs.Naming.{first_of}
use Rattle.snapshot_store.specs.Named.{IsAtHead}
use Rattle.term_dict.specs.Names.{with_terms}
use Rattle.term_dict.specs.Faults.{IsCause}
use Rattle.term_dict.specs.declared.fault.NameFault.TheVariants as dictionary_faults
use Rattle.commit_core.proofs.NamedTerms.{first_numbering, named_after, named_under, numbered_with, same_names, triples_stay}

longer : (named ts : List Term) → length named ≤ length (named_with named ts)
longer named [] = omega arith
longer named (t ∷ ts) = elim (has_item term_cmp t named) as (λ b. length named ≤ length (named_with (cond b named (named ++ t ∷ [])) ts)) [
  | true ↦ longer named ts
  | false ↦ let h = longer (named ++ t ∷ []) ts in let e : length (named ++ t ∷ []) ≡ length named + 1 = simp length-append in omega (arith, h, e)
]

given_ascend : (kind : NameKind) (given ts : List Term) → IsAscending term_cmp given → IsAscending term_cmp (given_by kind given ts)
given_ascend Fresh given ts a = ascending-given_with given ts a
given_ascend Known given ts a = a
given_ascend Attach given ts a = a

sound_named : (l : Limits) (s : State) (kind : NameKind) (ts : List Term) → l.terms + 2 < 2 ^ 32 → length (named_with s.named ts) ≤ l.terms + 2 → IsSoundState l s → IsSoundState l (with_named s kind ts)
sound_named l s kind ts small within k =
    let le = longer s.named ts in
    record {
      sound = record {
        ascending = k.sound.ascending;
        no_blocking = k.sound.no_blocking;
        numbering = numbered_with s.named ts k.sound.numbering;
        small = omega (arith, small, within);
        graph_named = triples_stay s.named ts s.graph k.sound.graph_named;
        shapes_named = triples_stay s.named ts s.shapes k.sound.shapes_named;
      };
      opened = k.opened;
      two = omega (arith, le, k.two);
      within = within;
      given = given_ascend kind s.given ts k.given;
    }

sound_committed : (l : Limits) (s : State) (x : Transaction) → Passes l s x → IsSoundState l s → IsSoundState l (committed s x)
sound_committed l s x p k = record {
  sound = record {
    ascending = IsAscending-after s.graph x.net k.sound.ascending;
    no_blocking = (NoBlocking-listed l.mode (after s.graph x.net) (shapes_under s.shapes x.staged) p.rows p.listing).1 p.none;
    numbering = k.sound.numbering;
    small = k.sound.small;
    graph_named = named_after s.named s.graph x.net k.sound.graph_named p.fits.net;
    shapes_named = named_under s.named s.shapes x.staged k.sound.shapes_named p.fits.staged;
  };
  opened = k.opened;
  two = k.two;
  within = k.within;
  given = k.given;
}

-- the same graphs, names and given nodes
sound_with : (l : Limits) (s : State) (opened : ℕ) (stopped : Bool) → opened ≤ 64 → IsSoundState l s → IsSoundState l (record s { opened = opened; stopped = stopped })
sound_with l s opened stopped le k = record { sound = k.sound; opened = le; two = k.two; within = k.within; given = k.given }

sound_after : (l : Limits) (s t : State) (i : ℕ) (a : Action) (r : Reply) → l.terms + 2 < 2 ^ 32 → StepOf l s i a r t → IsSoundState l s → IsSoundState l t
sound_after l s t i a r small h k = elim (outcome l s t i a r h) [
  | inl e ↦ subst (λ (x : State). IsSoundState l x) (sym e.state) k
  | inr (inl e) ↦ subst (λ (x : State). IsSoundState l x) (sym e.state) (sound_with l s (s.opened + 1) s.stopped (omega (arith, e.few)) k)
  | inr (inr (inl e)) ↦ subst (λ (x : State). IsSoundState l x) (sym e.state) (sound_named l s e.kind e.terms small e.within k)
  | inr (inr (inr (inl e))) ↦ subst (λ (x : State). IsSoundState l x) (sym e.state) (sound_committed l s e.transaction e.passes k)
  | inr (inr (inr (inr e))) ↦ subst (λ (x : State). IsSoundState l x) (sym e.state) (sound_with l s s.opened true k.opened k)
]

sound_along : (l : Limits) (s t : State) (es : List Event) → l.terms + 2 < 2 ^ 32 → Replays l s es t → IsSoundState l s → IsSoundState l t
sound_along l s t [] small r k = subst (λ (x : State). IsSoundState l x) (sym r) k
sound_along l s t (e ∷ es) small r k = sound_along l r.0 t es small r.2 (sound_after l s r.0 e.session e.action e.reply small r.1 k)

sound_empty : (l : Limits) → l.terms + 2 < 2 ^ 32 → IsSoundState l empty_store
sound_empty l small = record {
  sound = record {
    ascending = tt;
    no_blocking = λ row i. absurd ((conforms_law [] []).1 ((no_shapes_law [] []).1 refl) row i);
    numbering = first_numbering;
    small = omega (arith, small);
    graph_named = λ k d lt. absurd (omega (arith, lt));
    shapes_named = λ k d lt. absurd (omega (arith, lt));
  };
  opened = omega arith;
  two = omega arith;
  within = omega arith;
  given = tt;
}

-- each earlier state of a history had an ascending graph
pub past_ascends : (s : RecordedStore) (head : State) (front : List Event) → IsConsistent s → Replays s.limits s.start front head → IsAscending triple_cmp head.graph
past_ascends s head front k r = (sound_along s.limits s.start head front k.small r k.begins).sound.ascending

-- what is kept after each method's event
abbrev more : RecordedStore → State → Event → RecordedStore
more s t e = record { limits = s.limits; start = s.start; state = t; history = s.history ++ e ∷ [] }

pub IsConsistent-step : (s : RecordedStore) (t : State) (e : Event) → IsConsistent s → Step s.limits s.state e t → IsConsistent (more s t e)
IsConsistent-step s t e k h =
    let now : IsSoundState s.limits s.state = record { sound = k.sound; opened = k.opened; two = k.two; within = k.within; given = k.given } in
    let b = sound_after s.limits s.state t e.session e.action e.reply k.small h now in
    record {
      replays = Replays-push s.limits s.start s.history s.state t e k.replays h;
      running = k.running;
      begins = k.begins;
      small = k.small;
      opened = b.opened;
      sound = b.sound;
      two = b.two;
      within = b.within;
      given = b.given;
    }

pub IsConsistent-empty : (l : Limits) → l.terms + 2 < 2 ^ 32 → IsConsistent (record { limits = l; start = empty_store; state = empty_store; history = [] })
IsConsistent-empty l small =
    let b = sound_empty l small in
    record { replays = refl; running = refl; begins = b; small = small; opened = b.opened; sound = b.sound; two = b.two; within = b.within; given = b.given }

-- a fact on a value, by the fields that it is the view of
pub at_fields : (a b : RecordedStore) (P : RecordedStore → Type 0) → a ≡ b → P b → P a
at_fields a b P e h = subst P (sym e) h

pub opened_inside : (a b : RecordedStore) (i : ℕ) → a ≡ b → IsOpened b.state i → IsOpened a.state i
opened_inside a b i e g = subst (λ (s : RecordedStore). IsOpened s.state i) (sym e) g

-- the step of a method: s are the fields, o is the value that the contract speaks of
pub takes : (s o : RecordedStore) (t : State) (e : Event) → s ≡ o → Step s.limits s.state e t → TakesStep o (more s t e) e
takes s o t e view h = subst (λ (y : RecordedStore). TakesStep y (more s t e) e) view (record { step = h; limits = refl; start = refl; history = refl })

pub consistent_begin : (s o : RecordedStore) (i n : ℕ) → IsConsistent s → s ≡ o → IsOpened o.state i → n ≡ length s.state.commits → IsConsistent (more s s.state (record { session = i; action = Begin; reply = Version n }))
consistent_begin s o i n k v g e = IsConsistent-step s s.state (record { session = i; action = Begin; reply = Version n }) k (opened_inside s o i v g, (ap Version e, refl))

pub consistent_head : (s o : RecordedStore) (i n : ℕ) → IsConsistent s → s ≡ o → IsOpened o.state i → n ≡ length s.state.commits → IsConsistent (more s s.state (record { session = i; action = Head; reply = Version n }))
consistent_head s o i n k v g e = IsConsistent-step s s.state (record { session = i; action = Head; reply = Version n }) k (opened_inside s o i v g, (ap Version e, refl))

-- a commit that changes nothing
pub consistent_refusal : (s o : RecordedStore) (i : ℕ) (x : Transaction) (r : Reply) → IsConsistent s → s ≡ o → StepOf o.limits o.state i (Commit x) r o.state → IsConsistent (more s s.state (record { session = i; action = Commit x; reply = r }))
consistent_refusal s o i x r k v h = IsConsistent-step s s.state (record { session = i; action = Commit x; reply = r }) k (at_fields s o (λ y. StepOf y.limits y.state i (Commit x) r y.state) v h)

-- the store of a data graph with its names and of the other fields
abbrev fields : State → NamedGraph → Bounds → List Accepted → List Term → ℕ → Bool → List Event → RecordedStore
fields b d m cs gs n off h = record {
  limits = record { terms = d.limit; triples = m.triples; mode = m.mode };
  start = b;
  state = record { graph = d.triples; shapes = d.shapes; commits = cs; named = d.terms; given = gs; opened = n; stopped = off };
  history = h;
}

-- a naming, by what the data graph makes of it
abbrev naming : ℕ → NameKind → List Term → Reply → Event
naming i kind ts r = record { session = i; action = Name kind ts; reply = r }

module _ (b : State) (d e : NamedGraph) (m : Bounds) (cs : List Accepted) (gs : List Term) (n : ℕ) (off : Bool) (h : List Event) (o : RecordedStore) (i : ℕ) (kind : NameKind) (ts : List Term) (consistent : IsConsistent (fields b d m cs gs n off h)) (view : fields b d m cs gs n off h ≡ o) (opened : IsOpened o.state i) (known : unknown_by kind o.state.given ts ≡ []) where
  known_inside : unknown_by kind gs ts ≡ []
  known_inside = at_fields (fields b d m cs gs n off h) o (λ y. unknown_by kind y.state.given ts ≡ []) view known

  named_step : length (with_terms d.terms ts) ≤ d.limit + 2 → Step (fields b d m cs gs n off h).limits (fields b d m cs gs n off h).state (naming i kind ts Named) (fields b (with_names d ts) m cs (given_by kind gs ts) n off h).state
  named_step le =
      let s = fields b d m cs gs n off h in
      subst (λ (ns : List Term). StepOf s.limits s.state i (Name kind ts) Named (record s.state { named = ns; given = given_by kind gs ts })) (sym (same_names d.terms ts))
      (names s.limits s.state i kind ts (opened_inside s o i view opened) known_inside (subst (λ (ns : List Term). length ns ≤ d.limit + 2) (same_names d.terms ts) le))

  pub consistent_named : e ≡ with_names d ts → length (with_terms d.terms ts) ≤ d.limit + 2 → IsConsistent (fields b e m cs (given_by kind gs ts) n off (h ++ naming i kind ts Named ∷ []))
  consistent_named is le =
      subst (λ (x : NamedGraph). IsConsistent (fields b x m cs (given_by kind gs ts) n off (h ++ naming i kind ts Named ∷ []))) (sym is)
      (IsConsistent-step (fields b d m cs gs n off h) (fields b (with_names d ts) m cs (given_by kind gs ts) n off h).state (naming i kind ts Named) consistent (named_step le))

  pub takes_named : e ≡ with_names d ts → length (with_terms d.terms ts) ≤ d.limit + 2 → TakesStep o (fields b e m cs (given_by kind gs ts) n off (h ++ naming i kind ts Named ∷ [])) (naming i kind ts Named)
  takes_named is le =
      subst (λ (x : NamedGraph). TakesStep o (fields b x m cs (given_by kind gs ts) n off (h ++ naming i kind ts Named ∷ [])) (naming i kind ts Named)) (sym is)
      (takes (fields b d m cs gs n off h) o (fields b (with_names d ts) m cs (given_by kind gs ts) n off h).state (naming i kind ts Named) view (named_step le))

  full_step : (count : ℕ) → IsCause (dictionary_faults.Full count) (names_of d) ts → Step (fields b d m cs gs n off h).limits (fields b d m cs gs n off h).state (naming i kind ts (Full count)) (fields b d m cs gs n off h).state
  full_step count cause =
      let s = fields b d m cs gs n off h in
      let size : length (with_terms d.terms ts) ≡ length (named_with d.terms ts) = ap length (same_names d.terms ts) in
      let number : count ≡ length (named_with d.terms ts) - 2 = omega (arith, cause.1, size) in
      subst (λ (k : ℕ). StepOf s.limits s.state i (Name kind ts) (Full k) s.state) (sym number)
      (names_none s.limits s.state i kind ts (opened_inside s o i view opened) known_inside (omega (arith, cause.0, cause.1, size)))

  pub consistent_full : (count : ℕ) → e ≡ d → IsCause (dictionary_faults.Full count) (names_of d) ts → IsConsistent (fields b e m cs gs n off (h ++ naming i kind ts (Full count) ∷ []))
  consistent_full count is cause =
      subst (λ (x : NamedGraph). IsConsistent (fields b x m cs gs n off (h ++ naming i kind ts (Full count) ∷ []))) (sym is)
      (IsConsistent-step (fields b d m cs gs n off h) (fields b d m cs gs n off h).state (naming i kind ts (Full count)) consistent (full_step count cause))

  pub takes_full : (count : ℕ) → e ≡ d → IsCause (dictionary_faults.Full count) (names_of d) ts → TakesStep o (fields b e m cs gs n off (h ++ naming i kind ts (Full count) ∷ [])) (naming i kind ts (Full count))
  takes_full count is cause =
      subst (λ (x : NamedGraph). TakesStep o (fields b x m cs gs n off (h ++ naming i kind ts (Full count) ∷ [])) (naming i kind ts (Full count))) (sym is)
      (takes (fields b d m cs gs n off h) o (fields b d m cs gs n off h).state (naming i kind ts (Full count)) view (full_step count cause))

-- a block with a node that wasn't given
unknown_by_list : (l : Limits) (s : State) (i : ℕ) (kind : NameKind) (ts nodes : List Term) (node : Term) → IsOpened s i → unknown_by kind s.given ts ≡ nodes → Some node ≡ first_of nodes → StepOf l s i (Name kind ts) (Unknown node) s
unknown_by_list l s i kind ts [] node g e f = cc
unknown_by_list l s i kind ts (u ∷ us) node g e f =
    let same : node ≡ u = cc in
    subst (λ (t : Term). StepOf l s i (Name kind ts) (Unknown t) s) (sym same) (names_unknown l s i kind ts us u g e)

module _ (s o : RecordedStore) (i : ℕ) (kind : NameKind) (ts : List Term) (node : Term) (view : s ≡ o) (opened : IsOpened o.state i) (first : Some node ≡ first_of (unknown_by kind s.state.given ts)) where
  unknown_step : Step s.limits s.state (naming i kind ts (Unknown node)) s.state
  unknown_step = unknown_by_list s.limits s.state i kind ts (unknown_by kind s.state.given ts) node (opened_inside s o i view opened) refl first

  pub consistent_unknown : IsConsistent s → IsConsistent (more s s.state (naming i kind ts (Unknown node)))
  consistent_unknown k = IsConsistent-step s s.state (naming i kind ts (Unknown node)) k unknown_step

  pub takes_unknown : TakesStep o (more s s.state (naming i kind ts (Unknown node))) (naming i kind ts (Unknown node))
  takes_unknown = takes s o s.state (naming i kind ts (Unknown node)) view unknown_step

-- no node stands in the way of a block
pub none_unknown : (nodes : List Term) → None ≡ first_of nodes → nodes ≡ []
none_unknown [] e = refl
none_unknown (t ∷ ts) e = cc

-- the state after a commit that is accepted
abbrev accepted_state : State → List Triple → List Triple → Accepted → State
accepted_state s graph shapes a = record s { graph = graph; shapes = shapes; commits = s.commits ++ a ∷ [] }

-- what is needed for it: s are the fields, o is the value that the contract speaks of
record IsAccepted (s o : RecordedStore) (i : ℕ) (x : Transaction) (n : ℕ) (graph shapes : List Triple) (a : Accepted) (why : Again) : Type 0 where
  view : s ≡ o
  running : o.state.stopped ≡ false
  opened : IsOpened o.state i
  fits : IsCommittable o.state x
  reason : why ≡ again s.state.commits x.staged x.verdict
  within : IsWithin o.limits o.state.graph o.state.commits x
  none : NoneBlocks o.limits.mode (data_of o) x
  graph_is : graph ≡ after o.state.graph x.net
  shapes_are : shapes ≡ shapes_under o.state.shapes x.staged
  changed : a.changed ≡ differing o.state.graph (after o.state.graph x.net)
  flag : a.staged ≡ is_staged x.staged
  number : n ≡ length (s.state.commits ++ a ∷ [])

-- its step, by the fields
accepted_step : (s o : RecordedStore) (i : ℕ) (x : Transaction) (n : ℕ) (graph shapes : List Triple) (a : Accepted) (why : Again) → IsAccepted s o i x n graph shapes a why → StepOf s.limits s.state i (Commit x) (Done n why) (accepted_state s.state graph shapes a)
accepted_step s o i x n graph shapes a why k =
    let count : n ≡ length s.state.commits + 1 = k.number ∙ simp length-append in
    let none = at_fields s o (λ y. NoneBlocks y.limits.mode (data_of y) x) k.view k.none in
    let within = at_fields s o (λ y. IsWithin y.limits y.state.graph y.state.commits x) k.view k.within in
    let eg : graph ≡ after s.state.graph x.net = at_fields s o (λ y. graph ≡ after y.state.graph x.net) k.view k.graph_is in
    let es : shapes ≡ shapes_under s.state.shapes x.staged = at_fields s o (λ y. shapes ≡ shapes_under y.state.shapes x.staged) k.view k.shapes_are in
    let ec : a.changed ≡ differing s.state.graph (after s.state.graph x.net) = at_fields s o (λ y. a.changed ≡ differing y.state.graph (after y.state.graph x.net)) k.view k.changed in
    let flag = k.flag in
    let t = accepted_state s.state graph shapes a in
    let state : committed s.state x ≡ t =
    sym (λ j. record { graph = eg j; shapes = es j; commits = s.state.commits ++ record { changed = ec j; staged = flag j } ∷ []; named = s.state.named; given = s.state.given; opened = s.state.opened; stopped = s.state.stopped }) in
    subst (λ (m : ℕ). StepOf s.limits s.state i (Commit x) (Done m why) t) (sym count)
    (subst (λ (y : State). StepOf s.limits s.state i (Commit x) (Done (length s.state.commits + 1) why) y) state
    (subst (λ (w : Again). StepOf s.limits s.state i (Commit x) (Done (length s.state.commits + 1) w) (committed s.state x)) (sym k.reason)
    (accepts s.limits s.state i x none.0 (opened_inside s o i k.view k.opened) (at_fields s o (λ y. IsCommittable y.state x) k.view k.fits) (at_fields s o (λ y. y.state.stopped ≡ false) k.view k.running) within.0 within.1 none.1 none.2)))

-- by the data graph that the commit makes, which has the same names
module _ (b : State) (d e : NamedGraph) (m : Bounds) (cs : List Accepted) (gs : List Term) (n : ℕ) (off : Bool) (h : List Event) (o : RecordedStore) (i : ℕ) (x : Transaction) (number : ℕ) (a : Accepted) (why : Again) (consistent : IsConsistent (fields b d m cs gs n off h)) (view : fields b d m cs gs n off h ≡ o) where
  abbrev accepting : Event
  accepting = record { session = i; action = Commit x; reply = Done number why }

  same_fields : e ≡ committed_graph (data_of o) x → more (fields b d m cs gs n off h) (accepted_state (fields b d m cs gs n off h).state e.triples e.shapes a) accepting ≡ fields b e m (cs ++ a ∷ []) gs n off (h ++ accepting ∷ [])
  same_fields is =
      let own : e ≡ committed_graph d x = at_fields (fields b d m cs gs n off h) o (λ y. e ≡ committed_graph (data_of y) x) view is in
      let terms : d.terms ≡ e.terms = sym (ap (λ (g : NamedGraph). g.terms) own) in
      let limit : d.limit ≡ e.limit = sym (ap (λ (g : NamedGraph). g.limit) own) in
      λ k. record {
        limits = record { terms = limit k; triples = m.triples; mode = m.mode };
        start = b;
        state = record { graph = e.triples; shapes = e.shapes; commits = cs ++ a ∷ []; named = terms k; given = gs; opened = n; stopped = off };
        history = h ++ accepting ∷ [];
      }

  module _ (running : o.state.stopped ≡ false) (opened : IsOpened o.state i) (fits : IsCommittable o.state x) (reason : why ≡ again cs x.staged x.verdict) (within : IsWithin o.limits o.state.graph o.state.commits x) (none : NoneBlocks o.limits.mode (data_of o) x)
      (is : e ≡ committed_graph (data_of o) x) (changed : a.changed ≡ differing o.state.graph (after o.state.graph x.net)) (flag : a.staged ≡ is_staged x.staged) (count : number ≡ length (cs ++ a ∷ [])) where
    step : Step (fields b d m cs gs n off h).limits (fields b d m cs gs n off h).state accepting (accepted_state (fields b d m cs gs n off h).state e.triples e.shapes a)
    step = accepted_step (fields b d m cs gs n off h) o i x number e.triples e.shapes a why (record {
      view = view;
      running = running;
      opened = opened;
      fits = fits;
      reason = reason;
      within = within;
      none = none;
      graph_is = ap (λ (g : NamedGraph). g.triples) is;
      shapes_are = ap (λ (g : NamedGraph). g.shapes) is;
      changed = changed;
      flag = flag;
      number = count;
    })

    pub consistent_accepted : IsConsistent (fields b e m (cs ++ a ∷ []) gs n off (h ++ accepting ∷ []))
    consistent_accepted =
        subst (λ (y : RecordedStore). IsConsistent y) (same_fields is)
        (IsConsistent-step (fields b d m cs gs n off h) (accepted_state (fields b d m cs gs n off h).state e.triples e.shapes a) accepting consistent step)

    pub takes_accepted : TakesStep o (fields b e m (cs ++ a ∷ []) gs n off (h ++ accepting ∷ [])) accepting
    takes_accepted =
        subst (λ (y : RecordedStore). TakesStep o y accepting) (same_fields is)
        (takes (fields b d m cs gs n off h) o (accepted_state (fields b d m cs gs n off h).state e.triples e.shapes a) accepting view step)

-- the names that a history has are those of the graph that a commit makes
pub names_kept : (s o : RecordedStore) (e : NamedGraph) (x : Transaction) (names : List Term) → s ≡ o → names ≡ s.state.named → e ≡ committed_graph (data_of o) x → names ≡ e.terms
names_kept s o e x names view same is = same ∙ (ap (λ (y : RecordedStore). y.state.named) view ∙ sym (ap (λ (g : NamedGraph). g.terms) is))

-- a commit at which the log fails: s are the fields, o is the value that the contract speaks of
module _ (s o : RecordedStore) (i : ℕ) (x : Transaction) (consistent : IsConsistent s) (view : s ≡ o) (running : o.state.stopped ≡ false) (opened : IsOpened o.state i) (fits : IsCommittable o.state x) (within : IsWithin o.limits o.state.graph o.state.commits x) (none : NoneBlocks o.limits.mode (data_of o) x) where
  abbrev failing : Event
  failing = record { session = i; action = Commit x; reply = LogFault }

  failed_step : Step s.limits s.state failing (record s.state { stopped = true })
  failed_step =
      let clean = at_fields s o (λ y. NoneBlocks y.limits.mode (data_of y) x) view none in
      let small = at_fields s o (λ y. IsWithin y.limits y.state.graph y.state.commits x) view within in
      fails s.limits s.state i x clean.0 (opened_inside s o i view opened) (at_fields s o (λ y. IsCommittable y.state x) view fits) (at_fields s o (λ y. y.state.stopped ≡ false) view running) small.0 small.1 clean.1 clean.2

  pub consistent_failed : IsConsistent (more s (record s.state { stopped = true }) failing)
  consistent_failed = IsConsistent-step s (record s.state { stopped = true }) failing consistent failed_step

  pub takes_failed : TakesStep o (more s (record s.state { stopped = true }) failing) failing
  takes_failed = takes s o (record s.state { stopped = true }) failing view failed_step

-- a commit that is refused for its rows, or for its size, by what the code has at hand
pub commit_refused : (s : RecordedStore) (i : ℕ) (x : Transaction) (p : Refusal) (why : Again) → s.state.stopped ≡ false → IsOpened s.state i → IsCommittable s.state x → why ≡ again s.state.commits x.staged x.verdict
    → IsWithin s.limits s.state.graph s.state.commits x → Refuses s.limits.mode s.state.graph s.state.shapes x p → StepOf s.limits s.state i (Commit x) (Refused p.recorded why) s.state
commit_refused s i x p why on g f e within r =
    let under : Listing (after s.state.graph x.net) (shapes_under s.state.shapes x.staged) p.rows = subst (λ (ts : List Triple). Listing (after s.state.graph x.net) ts p.rows) r.0 r.1 in
    let some : has_blocking s.limits.mode (shapes_under s.state.shapes x.staged) p.rows ≡ true = subst (λ (ts : List Triple). has_blocking s.limits.mode ts p.rows ≡ true) r.0 r.2 in
    subst (λ (rs : List ResultRow). StepOf s.limits s.state i (Commit x) (Refused rs why) s.state) (sym r.3)
    (subst (λ (w : Again). StepOf s.limits s.state i (Commit x) (Refused p.rows w) s.state) (sym e) (refuses s.limits s.state i x p.rows g f on within.0 within.1 under some))

pub commit_full : (s : RecordedStore) (i : ℕ) (x : Transaction) (n : ℕ) → s.state.stopped ≡ false → IsOpened s.state i → IsCommittable s.state x → overtaker s.state.commits x.base x.finds ≡ None → s.limits.triples < length (after s.state.graph x.net)
    → n ≡ length (after s.state.graph x.net) → StepOf s.limits s.state i (Commit x) (FullTriples n) s.state
commit_full s i x n on g f e lt c = subst (λ (m : ℕ). StepOf s.limits s.state i (Commit x) (FullTriples m) s.state) (sym c) (overflows s.limits s.state i x g f on e lt)

pub commit_overtaken : (s : RecordedStore) (i : ℕ) (x : Transaction) (h : Overtaker) → s.state.stopped ≡ false → IsOpened s.state i → IsCommittable s.state x → overtaker s.state.commits x.base x.finds ≡ Some h → StepOf s.limits s.state i (Commit x) (Conflict h.commit h.triple) s.state
commit_overtaken s i x h on g f e = conflicts s.limits s.state i x h g f on e

-- a transaction that may be committed has its verdict, if it has one, of a version up to this one
pub at_head : (s : State) (v : Option Verdict) → VerdictFits s v → IsAtHead (length s.commits) v
at_head s None h = tt
at_head s (Some v) h = h.0
