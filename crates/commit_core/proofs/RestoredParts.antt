-- What records restore: its parts record by record, and that it is sound.
use Rattle.std.proofs.Common.{◌≡◌, ◌∙◌, ℕ, zero, suc, ◌+◌, ◌^◌, ◌<◌, ◌≤◌, true, false, cond, List, [], ◌∷◌, ◌++◌, length, get_or, take, drop, map, Option, Some, None, refl, sym, ap, subst, arith, inl, inr, append-nil, append_assoc, length-append}
use Rattle.std.specs.Prelude.{◌⊎◌, MatchOption}
use Rattle.std.specs.Borrow.{Bor}
use Rattle.std.specs.List.{Contains, flat_map}
use Rattle.std.proofs.lemmas.Grind.{flat_map-append}
use Rattle.std.proofs.lemmas.List.{take_all, take_more}
use Rattle.std.proofs.lemmas.List.Elements.{All-contains, Contains-append_left, Contains-append_right}
use Rattle.rdf_model.specs.declared.term.Term.{Term}
use Rattle.rdf_model.specs.declared.triple.Triple.{Triple}
use Rattle.rdf_model.specs.Graphs.{with_each}
use Rattle.rdf_model.specs.declared.ids.Ids.{Ids}
use Rattle.rdf_model.specs.Numbers.{IsNumbering, graph_of}
use Rattle.rdf_model.specs.Orders.{triple_total}
use Rattle.rdf_model.specs.Terms.{term_cmp, triple_cmp}
use Rattle.collections.specs.Ordered.{IsAscending, has_item, with_item, without_item}
use Rattle.collections.proofs.Ascending.{IsAscending-with_item, IsAscending-without_item}
use Rattle.collections.proofs.Members.{has_cases, has_equal, has_head, has_tail, with_cases, without_old}
use Rattle.record_text.specs.declared.record.Record.{Record}
use Rattle.commit_log.specs.Format.{AreRecordsFrom}
use Rattle.store_model.specs.declared.commit.Accepted.{Accepted}
use Rattle.store_model.specs.declared.event.Limits.{Limits}
use Rattle.store_model.specs.Blocking.{NoBlocking}
use Rattle.store_model.specs.Nodes.{given_with, is_blank}
use Rattle.store_model.specs.Store.{RecordedStore, State, empty_store, named_with, shapes_under, terms_of}
use Rattle.store_model.proofs.Nodes.{ascending-given_with}
use Rattle.term_dict.specs.Names.{first_terms, with_terms}
use Rattle.parallel_validate.specs.Named.{AreNamedTriples, IsNamedTriple}
use Rattle.data_graph.specs.DataGraphs.{NamedGraph}
use Rattle.data_graph.proofs.Listed.{one_listing}
use Rattle.commit_core.specs.Consistent.{IsConsistent, IsSoundState}
use Rattle.commit_core.specs.Outcomes.{HasBlocking}
use Rattle.commit_core.specs.Restored.{FitInTurn, IsFirstMisfit, IsRestoreFault, IsRestored, accepted_by, fits_record, graph_after, record_terms, restored, restored_from, shapes_terms, with_record, without_each}
use Rattle.commit_core.specs.declared.restoring.RestoreFault.TheVariants.{Blocked}
use Rattle.commit_core.specs.RestoredParts.{IsGraphWithin, all_triples, graphs, record_triples, shapes_after, staged_in, staged_triples}
use Rattle.commit_core.proofs.NamedTerms.{all_of, first_names, first_numbering, has_name, names_stay, numbered_with, same_names, triple_stays, triples_stay}

-- its parts
pub graph_part : (s : State) (rs : List Record) → (restored_from s rs).graph ≡ graphs s.graph rs
graph_part s [] = refl
graph_part s (r ∷ rs) = graph_part (with_record s r) rs

shapes_part : (s : State) (rs : List Record) → (restored_from s rs).shapes ≡ shapes_after s.shapes rs
shapes_part s [] = refl
shapes_part s (r ∷ rs) = shapes_part (with_record s r) rs

-- the last one that was staged
pub last_is_staged : (rs : List Record) (last : Option (Bor Record)) → staged_in last ≡ shapes_after [] rs → MatchOption last ((restored rs).shapes ≡ []) (λ entry. (restored rs).shapes ≡ shapes_under [] entry.now.shapes)
last_is_staged rs None e = shapes_part empty_store rs ∙ sym e
last_is_staged rs (Some entry) e = shapes_part empty_store rs ∙ sym e

-- the terms that are named, and the blank nodes, from the triples of all records at once
staged_terms : (o : Option (List Triple)) → flat_map terms_of (staged_triples o) ≡ shapes_terms o
staged_terms None = refl
staged_terms (Some ts) = refl

record_terms_are : (r : Record) → flat_map terms_of (record_triples r) ≡ record_terms r
record_terms_are r =
    flat_map-append terms_of r.removed (r.added ++ staged_triples r.shapes)
    ∙ ap (λ (us : List Term). flat_map terms_of r.removed ++ us) (flat_map-append terms_of r.added (staged_triples r.shapes) ∙ ap (λ (us : List Term). flat_map terms_of r.added ++ us) (staged_terms r.shapes))

terms_push : (r : Record) (rs : List Record) → flat_map terms_of (all_triples (r ∷ rs)) ≡ record_terms r ++ flat_map terms_of (all_triples rs)
terms_push r rs = flat_map-append terms_of (record_triples r) (all_triples rs) ∙ ap (λ (us : List Term). us ++ flat_map terms_of (all_triples rs)) (record_terms_are r)

names_append : (named ts us : List Term) → named_with named (ts ++ us) ≡ named_with (named_with named ts) us
names_append named [] us = refl
names_append named (t ∷ ts) us = names_append (cond (has_item term_cmp t named) named (named ++ t ∷ [])) ts us

given_append : (given ts us : List Term) → given_with given (ts ++ us) ≡ given_with (given_with given ts) us
given_append given [] us = refl
given_append given (t ∷ ts) us = given_append (cond (is_blank t) (with_item term_cmp t given) given) ts us

names_at_once : (s : State) (rs : List Record) → named_with s.named (flat_map terms_of (all_triples rs)) ≡ (restored_from s rs).named
names_at_once s [] = refl
names_at_once s (r ∷ rs) = ap (named_with s.named) (terms_push r rs) ∙ names_append s.named (record_terms r) (flat_map terms_of (all_triples rs)) ∙ names_at_once (with_record s r) rs

pub given_at_once : (s : State) (rs : List Record) → given_with s.given (flat_map terms_of (all_triples rs)) ≡ (restored_from s rs).given
given_at_once s [] = refl
given_at_once s (r ∷ rs) = ap (given_with s.given) (terms_push r rs) ∙ given_append s.given (record_terms r) (flat_map terms_of (all_triples rs)) ∙ given_at_once (with_record s r) rs

pub first_named : (rs : List Record) → with_terms first_terms (flat_map terms_of (all_triples rs)) ≡ (restored rs).named
first_named rs = same_names first_terms (flat_map terms_of (all_triples rs)) ∙ ap (λ (ns : List Term). named_with ns (flat_map terms_of (all_triples rs))) first_names ∙ names_at_once empty_store rs

commits_part : (s : State) (rs : List Record) → (restored_from s rs).commits ≡ s.commits ++ map accepted_by rs
commits_part s [] = sym (append-nil s.commits)
commits_part s (r ∷ rs) = commits_part (with_record s r) rs ∙ append_assoc s.commits (accepted_by r ∷ []) (map accepted_by rs)

pub all_commits : (rs : List Record) → map accepted_by rs ≡ (restored rs).commits
all_commits rs = sym (commits_part empty_store rs)

-- graphs along the records
graphs_push : (g : List Triple) (rs : List Record) (r : Record) → graphs g (rs ++ r ∷ []) ≡ graph_after (graphs g rs) r
graphs_push g [] r = refl
graphs_push g (q ∷ qs) r = graphs_push (graph_after g q) qs r

fit_push : (g : List Triple) (rs : List Record) (r : Record) → FitInTurn g rs → fits_record (graphs g rs) r ≡ true → FitInTurn g (rs ++ r ∷ [])
fit_push g [] r f h = (h, tt)
fit_push g (q ∷ qs) r f h = (f.0, fit_push (graph_after g q) qs r f.1 h)

-- the first records fit, and lead to this graph
abbrev pub LeadTo : List Record → ℕ → List Triple → Type 0
LeadTo records i g = FitInTurn [] (take i records) × (g ≡ graphs [] (take i records))

pub lead_on : (records : List Record) (i : ℕ) (r : Record) (g h : List Triple) → i < length records → r ≡ get_or records i r → fits_record g r ≡ true → h ≡ graph_after g r → LeadTo records i g → LeadTo records (i + 1) h
lead_on records i r g h lt is fit after k =
    let more : take (i + 1) records ≡ take i records ++ r ∷ [] = take_more records i r lt ∙ ap (λ (q : Record). take i records ++ q ∷ []) (sym is) in
    let fits : fits_record (graphs [] (take i records)) r ≡ true = subst (λ (x : List Triple). fits_record x r ≡ true) k.1 fit in
    let led : h ≡ graphs [] (take i records ++ r ∷ []) = after ∙ ap (λ (x : List Triple). graph_after x r) k.1 ∙ sym (graphs_push [] (take i records) r) in
    subst (λ (rs : List Record). FitInTurn [] rs × (h ≡ graphs [] rs)) (sym more) (fit_push [] (take i records) r k.0 fits, led)

pub lead_to_end : (records : List Record) (i : ℕ) (g : List Triple) → length records ≤ i → LeadTo records i g → FitInTurn [] records × (g ≡ (restored records).graph)
lead_to_end records i g le k =
    let all = subst (λ (rs : List Record). FitInTurn [] rs × (g ≡ graphs [] rs)) (take_all i records le) k in
    (all.0, all.1 ∙ sym (graph_part empty_store records))

-- the records by their places
record_at : (n : ℕ) (rs : List Record) (i : ℕ) (d : Record) → AreRecordsFrom n rs → i < length rs → ((get_or rs i d).number ≡ n + i) × IsAscending triple_cmp (get_or rs i d).removed
record_at n [] i d a lt = absurd (omega arith)
record_at n (r ∷ rs) zero d a lt = (omega (arith, a.0), a.1.removed.1)
record_at n (r ∷ rs) (suc i) d a lt = let h = record_at (n + 1) rs i d a.2 (omega (arith, lt)) in (omega (arith, h.0), h.1)

pub number_at : (rs : List Record) (i : ℕ) (r : Record) → AreRecordsFrom 1 rs → i < length rs → r ≡ get_or rs i r → r.number ≡ i + 1
number_at rs i r a lt is = let h = (record_at 1 rs i r a lt).0 in omega (arith, ap (λ (q : Record). q.number) is, h)

pub removed_ascends : (rs : List Record) (i : ℕ) (r : Record) → AreRecordsFrom 1 rs → i < length rs → r ≡ get_or rs i r → IsAscending triple_cmp r.removed
removed_ascends rs i r a lt is = subst (λ (q : Record). IsAscending triple_cmp q.removed) (sym is) (record_at 1 rs i r a lt).1

parts : (rs : List Record) (i : ℕ) (d : Record) → i < length rs → rs ≡ take i rs ++ get_or rs i d ∷ drop (suc i) rs
parts [] i d lt = absurd (omega arith)
parts (r ∷ rs) zero d lt = refl
parts (r ∷ rs) (suc i) d lt = ap (λ (qs : List Record). r ∷ qs) (parts rs i d (omega (arith, lt)))

size_of : (rs : List Record) (i : ℕ) → i ≤ length rs → length (take i rs) ≡ i
size_of rs zero le = refl
size_of [] (suc i) le = absurd (omega arith)
size_of (r ∷ rs) (suc i) le = let h = size_of rs i (omega (arith, le)) in omega (arith, h)

pub first_misfit : (records : List Record) (i : ℕ) (r : Record) (g : List Triple) → AreRecordsFrom 1 records → i < length records → r ≡ get_or records i r → fits_record g r ≡ false → LeadTo records i g → IsFirstMisfit records r.number
first_misfit records i r g a lt is wrong k =
    let size = size_of records i (omega (arith, lt)) in
    let number = number_at records i r a lt is in
    record {
      front = take i records;
      wrong = r;
      back = drop (suc i) records;
      all = parts records i r lt ∙ ap (λ (q : Record). take i records ++ q ∷ drop (suc i) records) (sym is);
      place = omega (arith, size, number);
      fit = k.0;
      misfit = subst (λ (x : List Triple). fits_record x r ≡ false) (k.1 ∙ sym (graph_part empty_store (take i records))) wrong;
    }

-- names grow
longer_with : (named ts : List Term) → length named ≤ length (with_terms named ts)
longer_with named [] = omega arith
longer_with named (t ∷ ts) = elim (has_item term_cmp t named) as (λ b. length named ≤ length (with_terms (cond b named (named ++ t ∷ [])) ts)) [
  | true ↦ longer_with named ts
  | false ↦ let h = longer_with (named ++ t ∷ []) ts in let e : length (named ++ t ∷ []) ≡ length named + 1 = simp length-append in omega (arith, h, e)
]

-- the terms of a list are named
new_name : (named : List Term) (u t : Term) → u ≡ t → Contains (cond (has_item term_cmp u named) named (named ++ u ∷ [])) t
new_name named u t e = elim (has_item term_cmp u named) as (λ b. has_item term_cmp u named ≡ b → Contains (cond b named (named ++ u ∷ [])) t) [
  | true ↦ λ h. subst (λ (x : Term). Contains named x) e (has_name named u h)
  | false ↦ λ h. Contains-append_right named (u ∷ []) t (has_equal u [] t e)
] refl

name_of : (named ts : List Term) (t : Term) → Contains ts t → Contains (named_with named ts) t
name_of named [] t c = absurd (omega arith)
name_of named (u ∷ us) t c = elim (has_cases u us t c) [
  | inl e ↦ names_stay (cond (has_item term_cmp u named) named (named ++ u ∷ [])) us t (new_name named u t e)
  | inr d ↦ name_of (cond (has_item term_cmp u named) named (named ++ u ∷ [])) us t d
]

in_terms : (ts : List Triple) (t : Triple) (u : Term) → Contains ts t → Contains (terms_of t) u → Contains (flat_map terms_of ts) u
in_terms [] t u c d = absurd (omega arith)
in_terms (x ∷ xs) t u c d = elim (has_cases x xs t c) [
  | inl e ↦ Contains-append_left (terms_of x) (flat_map terms_of xs) u (subst (λ (y : Triple). Contains (terms_of y) u) (sym e) d)
  | inr k ↦ Contains-append_right (terms_of x) (flat_map terms_of xs) u (in_terms xs t u k d)
]

triples_named : (named terms : List Term) (ts : List Triple) → ((u : Term) → Contains (flat_map terms_of ts) u → Contains terms u) → AreNamedTriples (named_with named terms) ts
triples_named named terms ts inside = all_of (IsNamedTriple (named_with named terms)) ts (λ t c.
    let name : (u : Term) → Contains (terms_of t) u → Contains (named_with named terms) u = λ u d. name_of named terms u (inside u (in_terms ts t u c d)) in (
      name t.subject (has_head t.subject (t.predicate ∷ t.object ∷ [])),
      name t.predicate (has_tail t.subject (t.predicate ∷ t.object ∷ []) t.predicate (has_head t.predicate (t.object ∷ []))),
      name t.object (has_tail t.subject (t.predicate ∷ t.object ∷ []) t.object (has_tail t.predicate (t.object ∷ []) t.object (has_head t.object []))),
    ))

added_named : (named : List Term) (r : Record) → AreNamedTriples (named_with named (record_terms r)) r.added
added_named named r = triples_named named (record_terms r) r.added (λ u c.
    Contains-append_right (flat_map terms_of r.removed) (flat_map terms_of r.added ++ shapes_terms r.shapes) u (Contains-append_left (flat_map terms_of r.added) (shapes_terms r.shapes) u c))

staged_under : (terms named : List Term) (shapes : List Triple) (staged : Option (List Triple)) → ((u : Term) → Contains (shapes_terms staged) u → Contains terms u) → AreNamedTriples named shapes → AreNamedTriples (named_with named terms) (shapes_under shapes staged)
staged_under terms named shapes None inside a = triples_stay named terms shapes a
staged_under terms named shapes (Some g) inside a = triples_named named terms g inside

shapes_named : (named : List Term) (shapes : List Triple) (r : Record) → AreNamedTriples named shapes → AreNamedTriples (named_with named (record_terms r)) (shapes_under shapes r.shapes)
shapes_named named shapes r a = staged_under (record_terms r) named shapes r.shapes (λ u c.
    Contains-append_right (flat_map terms_of r.removed) (flat_map terms_of r.added ++ shapes_terms r.shapes) u (Contains-append_right (flat_map terms_of r.added) (shapes_terms r.shapes) u c)) a

-- graphs of named triples
of_without : (g ts : List Triple) (t : Triple) → Contains (without_each g ts) t → Contains g t
of_without g [] t c = c
of_without g (u ∷ us) t c = without_old triple_cmp u g t (of_without (without_item triple_cmp u g) us t c)

of_with : (g ts : List Triple) (t : Triple) → Contains (with_each g ts) t → Contains g t ⊎ Contains ts t
of_with g [] t c = inl c
of_with g (u ∷ us) t c = elim (of_with (with_item triple_cmp u g) us t c) [
  | inl d ↦ elim (with_cases triple_cmp u g t d) [ inl e ↦ inr (has_equal u us t e) | inr k ↦ inl k ]
  | inr d ↦ inr (has_tail u us t d)
]

graph_named : (named : List Term) (g : List Triple) (r : Record) → AreNamedTriples named g → AreNamedTriples (named_with named (record_terms r)) (graph_after g r)
graph_named named g r a =
    let more = named_with named (record_terms r) in
    all_of (IsNamedTriple more) (graph_after g r) (λ t c. elim (of_with (without_each g r.removed) r.added t c) [
      | inl d ↦ triple_stays named (record_terms r) t (All-contains (IsNamedTriple named) g t a (of_without g r.removed t d))
      | inr d ↦ All-contains (IsNamedTriple more) r.added t (added_named named r) d
    ])

-- order
ascends_without : (g ts : List Triple) → IsAscending triple_cmp g → IsAscending triple_cmp (without_each g ts)
ascends_without g [] a = a
ascends_without g (t ∷ ts) a = ascends_without (without_item triple_cmp t g) ts (IsAscending-without_item triple_total t g a)

ascends_with : (g ts : List Triple) → IsAscending triple_cmp g → IsAscending triple_cmp (with_each g ts)
ascends_with g [] a = a
ascends_with g (t ∷ ts) a = ascends_with (with_item triple_cmp t g) ts (IsAscending-with_item triple_total t g a)

-- what each restored state keeps
record Keeps (s : State) : Type 0 where
  ascending : IsAscending triple_cmp s.graph
  numbering : IsNumbering s.named
  graph_has : AreNamedTriples s.named s.graph
  shapes_has : AreNamedTriples s.named s.shapes
  two : 2 ≤ length s.named
  given : IsAscending term_cmp s.given
  opened : s.opened ≡ 0
  stopped : s.stopped ≡ false

keeps_record : (s : State) (r : Record) → Keeps s → Keeps (with_record s r)
keeps_record s r k =
    let longer = longer_with s.named (record_terms r) in
    let same : length (with_terms s.named (record_terms r)) ≡ length (named_with s.named (record_terms r)) = ap length (same_names s.named (record_terms r)) in
    record {
      ascending = ascends_with (without_each s.graph r.removed) r.added (ascends_without s.graph r.removed k.ascending);
      numbering = numbered_with s.named (record_terms r) k.numbering;
      graph_has = graph_named s.named s.graph r k.graph_has;
      shapes_has = shapes_named s.named s.shapes r k.shapes_has;
      two = omega (arith, longer, same, k.two);
      given = ascending-given_with s.given (record_terms r) k.given;
      opened = k.opened;
      stopped = k.stopped;
    }

keeps_from : (s : State) (rs : List Record) → Keeps s → Keeps (restored_from s rs)
keeps_from s [] k = k
keeps_from s (r ∷ rs) k = keeps_from (with_record s r) rs (keeps_record s r k)

keeps : (rs : List Record) → Keeps (restored rs)
keeps rs = keeps_from empty_store rs (record {
  ascending = tt;
  numbering = first_numbering;
  graph_has = λ k d lt. absurd (omega (arith, lt));
  shapes_has = λ k d lt. absurd (omega (arith, lt));
  two = omega arith;
  given = tt;
  opened = refl;
  stopped = refl;
})

-- the terms of the shapes graph are named
pub named_shapes : (rs : List Record) → AreNamedTriples (restored rs).named (restored rs).shapes
named_shapes rs = (keeps rs).shapes_has

pub sound_restored : (l : Limits) (rs : List Record) → l.terms + 2 < 2 ^ 32 → length (restored rs).named ≤ l.terms + 2 → NoBlocking l.mode (restored rs).graph (restored rs).shapes → IsSoundState l (restored rs)
sound_restored l rs small within none =
    let k = keeps rs in
    record {
      sound = record {
        ascending = k.ascending;
        no_blocking = none;
        numbering = k.numbering;
        small = omega (arith, small, within);
        graph_named = k.graph_has;
        shapes_named = k.shapes_has;
      };
      opened = omega (arith, k.opened);
      two = k.two;
      within = within;
      given = k.given;
    }

-- a store that begins there
abbrev begun : Limits → State → RecordedStore
begun l s = record { limits = l; start = s; state = s; history = [] }

pub consistent_restored : (l : Limits) (rs : List Record) → l.terms + 2 < 2 ^ 32 → length (restored rs).named ≤ l.terms + 2 → NoBlocking l.mode (restored rs).graph (restored rs).shapes → IsConsistent (begun l (restored rs))
consistent_restored l rs small within none =
    let b = sound_restored l rs small within none in
    record {
      replays = refl;
      running = (keeps rs).stopped;
      begins = b;
      small = small;
      opened = b.opened;
      sound = b.sound;
      two = b.two;
      within = b.within;
      given = b.given;
    }

-- the state by its parts
pub state_is : (rs : List Record) (g shapes : List Triple) (cs : List Accepted) (ns gs : List Term) → g ≡ (restored rs).graph → shapes ≡ (restored rs).shapes → cs ≡ (restored rs).commits → ns ≡ (restored rs).named → gs ≡ (restored rs).given
    → record { graph = g; shapes = shapes; commits = cs; named = ns; given = gs; opened = 0; stopped = false } ≡ restored rs
state_is rs g shapes cs ns gs eg es ec en ev =
    let k = keeps rs in
    let eo = sym k.opened in
    let off = sym k.stopped in
    λ i. record { graph = eg i; shapes = es i; commits = ec i; named = en i; given = ev i; opened = eo i; stopped = off i }

each_append : (g ts us : List Triple) → with_each g (ts ++ us) ≡ with_each (with_each g ts) us
each_append g [] us = refl
each_append g (t ∷ ts) us = each_append (with_item triple_cmp t g) ts us

pub recorded : (named : List Term) (ids : List Ids) (r : Record) → IsAscending triple_cmp r.removed → graph_of named ids ≡ r.removed ++ r.added → with_each [] (graph_of named ids) ≡ with_each r.removed r.added
recorded named ids r a e =
    ap (with_each []) e ∙ each_append [] r.removed r.added
    ∙ ap (λ (ts : List Triple). with_each ts r.added) (sym (one_listing r.removed r.removed (record { ascending = a; members = λ t. (λ c. c, λ c. c) })))

-- what a restored store is made of
module _ (l : Limits) (rs : List Record) (graph : NamedGraph) (within : IsGraphWithin l rs graph) where
  pub blocks : HasBlocking l.mode graph.triples graph.shapes → IsRestoreFault l rs Blocked
  blocks h = (within.fit, record { terms = within.terms; triples = within.triples }, subst (λ (x : NamedGraph). HasBlocking l.mode x.triples x.shapes) within.graph_is h)

  module _ (later : NamedGraph) (cs : List Accepted) (given : List Term) (same : later ≡ graph) (commits : cs ≡ (restored rs).commits) (gave : given ≡ (restored rs).given) (none : NoBlocking l.mode graph.triples graph.shapes) where
    no_blocking : NoBlocking l.mode (restored rs).graph (restored rs).shapes
    no_blocking = subst (λ (x : NamedGraph). NoBlocking l.mode x.triples x.shapes) within.graph_is none

    abbrev core : RecordedStore
    core = record {
      limits = record { terms = later.limit; triples = l.triples; mode = l.mode };
      start = restored rs;
      state = record { graph = later.triples; shapes = later.shapes; commits = cs; named = later.terms; given = given; opened = 0; stopped = false };
      history = [];
    }

    core_is : core ≡ begun l (restored rs)
    core_is =
        let whole = same ∙ within.graph_is in
        let limit : later.limit ≡ l.terms = ap (λ (x : NamedGraph). x.limit) whole in
        let state = state_is rs later.triples later.shapes cs later.terms given (ap (λ (x : NamedGraph). x.triples) whole) (ap (λ (x : NamedGraph). x.shapes) whole) commits (ap (λ (x : NamedGraph). x.terms) whole) gave in
        λ i. record { limits = record { terms = limit i; triples = l.triples; mode = l.mode }; start = restored rs; state = state i; history = [] }

    pub core_consistent : l.terms + 2 < 2 ^ 32 → IsConsistent core
    core_consistent small = subst (λ (x : RecordedStore). IsConsistent x) (sym core_is) (consistent_restored l rs small within.terms no_blocking)

    pub core_restored : IsRestored l rs core
    core_restored = record { store = core_is; fit = within.fit; within = record { terms = within.terms; triples = within.triples }; none = no_blocking }
