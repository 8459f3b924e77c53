-- The triples of records by the numbers of their terms.
use Rattle.std.proofs.Common.{◌≡◌, ◌∙◌, ℕ, zero, suc, ◌+◌, ◌<◌, ◌≤◌, Bool, true, false, not, ◌&&◌, List, [], ◌∷◌, ◌++◌, length, get_or, take, drop, map, refl, sym, ap, subst, arith, inr, append-nil, append_assoc, length-append}
use Rattle.std.specs.List.{AllByRecursion, flat_map, list_all}
use Rattle.std.proofs.lemmas.Grind.{flat_map-append}
use Rattle.std.proofs.lemmas.List.{drop_all, drop_more, length-map, map_more, take_more}
use Rattle.collections.specs.Ordered.{has_item, with_item, without_item}
use Rattle.rdf_model.specs.declared.ids.Ids.{Ids}
use Rattle.rdf_model.specs.declared.term.Term.{Term}
use Rattle.rdf_model.specs.declared.triple.Triple.{Triple}
use Rattle.rdf_model.specs.Graphs.{after, with_each}
use Rattle.rdf_model.specs.Numbers.{AreNumbered, graph_of, triple_at}
use Rattle.rdf_model.specs.Terms.{triple_cmp}
use Rattle.record_text.specs.declared.record.Record.{Record}
use Rattle.commit_log.specs.Format.{AreRecordsFrom}
use Rattle.store_model.specs.declared.commit.Accepted.{Accepted}
use Rattle.store_model.specs.declared.event.Limits.{Limits}
use Rattle.store_model.specs.declared.event.NameKind.TheVariants.{Fresh}
use Rattle.store_model.specs.Nodes.{given_with}
use Rattle.store_model.specs.Store.{empty_store, terms_of}
use Rattle.term_dict.specs.declared.fault.NameFault.{NameFault}
use Rattle.term_dict.specs.declared.fault.NameFault.TheVariants as names
use Rattle.term_dict.specs.Faults.{IsCause}
use Rattle.term_dict.specs.Names.{AreNumbersOf, first_terms, with_terms}
use Rattle.triple_index.specs.Changes.{IsNumbered, IsNumberedChange, change_at}
use Rattle.triple_index.specs.declared.change.NumberedChange.{NumberedChange}
use Rattle.triple_index.specs.declared.change.NumberedChange.TheVariants.{Add, Remove}
use Rattle.data_graph.specs.DataGraphs.{NamedGraph, names_of, with_changes, with_shapes}
use Rattle.parallel_validate.specs.Named.{AreNamedTriples}
use Rattle.commit_core.specs.declared.naming.NamedTerms.{NamedTerms}
use Rattle.commit_core.specs.declared.recorded.NamedRecords.{NamedRecords}
use Rattle.commit_core.specs.declared.recorded.RecordIds.{RecordIds}
use Rattle.commit_core.specs.declared.restoring.RestoreFault.{RestoreFault}
use Rattle.commit_core.specs.declared.restoring.RestoreFault.TheVariants.{Misfit, TooLarge, Blocked, Memory}
use Rattle.commit_core.specs.Naming.{IsListNaming}
use Rattle.commit_core.specs.Restored.{IsRestoreFault, accepted_by, fits_record, graph_after, restored, without_each}
use Rattle.commit_core.specs.RestoredParts.{AreNamedRecords, AreRecordIds, HaveTooMany, IsAfterRecord, IsGraphWithin, IsLastGraph, IsMisfit, IsRecordOf, StandFor, all_triples, record_triples, staged_triples, triples_in}
use Rattle.commit_core.proofs.RestoredParts.{LeadTo, first_misfit, first_named, given_at_once, lead_on, lead_to_end, named_shapes}

-- the terms of triples, by their numbers one after the other
stand_for : (terms : List Term) (ts : List Triple) (ns : List ℕ) → AreNumbersOf terms (flat_map terms_of ts) ns → StandFor terms (triples_in ns) ts
stand_for terms [] [] a = (tt, refl)
stand_for terms [] (n ∷ ns) a = absurd a
stand_for terms (t ∷ ts) [] a = absurd a
stand_for terms (t ∷ ts) (s ∷ []) a = absurd a.1
stand_for terms (t ∷ ts) (s ∷ p ∷ []) a = absurd a.1.1
stand_for terms (t ∷ ts) (s ∷ p ∷ o ∷ ns) a =
    let subject = a.0.is in
    let predicate = a.1.0.is in
    let object = a.1.1.0.is in
    let rest = stand_for terms ts ns a.1.1.1 in
    (((a.0.within, a.1.0.within, a.1.1.0.within), rest.0), λ i. record { subject = subject i; predicate = predicate i; object = object i } ∷ rest.1 i)

pub triples_next : (ns : List ℕ) → 3 ≤ length ns → triples_in ns ≡ record { subject = get_or ns 0 0; predicate = get_or ns 1 0; object = get_or ns 2 0 } ∷ triples_in (drop 3 ns)
triples_next [] le = absurd (omega (arith, le))
triples_next (s ∷ []) le = absurd (omega (arith, le))
triples_next (s ∷ p ∷ []) le = absurd (omega (arith, le))
triples_next (s ∷ p ∷ o ∷ ns) le = refl

pub none_left : (ns : List ℕ) → length ns < 3 → triples_in ns ≡ []
none_left [] lt = refl
none_left (s ∷ []) lt = refl
none_left (s ∷ p ∷ []) lt = refl
none_left (s ∷ p ∷ o ∷ ns) lt = absurd (omega (arith, lt))

-- the graph with no triple where as many terms may be named as the limit says
abbrev first_graph : ℕ → NamedGraph
first_graph limit = record { triples = []; shapes = []; terms = first_terms; limit = limit }

module _ (limit : ℕ) (rs : List Record) (g : NamedGraph) (ts : List Triple) (first : g ≡ first_graph limit) (all : ts ≡ all_triples rs) where
  names_are : with_terms g.terms (flat_map terms_of ts) ≡ (restored rs).named
  names_are = (λ i. with_terms (first i).terms (flat_map terms_of (all i))) ∙ first_named rs

  limit_is : g.limit ≡ limit
  limit_is = ap (λ (x : NamedGraph). x.limit) first

  pub too_many : (fault : NameFault) → IsCause fault (names_of g) (flat_map terms_of ts) → HaveTooMany limit rs fault
  too_many (names.Full count) h = let size = ap length names_are in omega (arith, h.0, h.1, size, limit_is)
  too_many names.Memory h = tt

  pub named_records : (n : NamedTerms) (numbers : List ℕ) (ids : List Ids) → IsListNaming Fresh g [] (flat_map terms_of ts) n numbers → ids ≡ triples_in numbers
      → AreNamedRecords limit rs (record { graph = n.graph; given = n.given; ids = ids })
  named_records n numbers ids k e =
      let size = ap length names_are in
      let fits = k.naming.fits in
      let numbers_are : StandFor n.graph.terms (triples_in numbers) ts = stand_for n.graph.terms ts numbers k.numbers_are in
      record {
        graph_is = k.naming.graph_is ∙ (λ i. record { triples = (first i).triples; shapes = (first i).shapes; terms = names_are i; limit = (first i).limit });
        given_is = k.naming.given_is ∙ ap (λ (us : List Triple). given_with [] (flat_map terms_of us)) all ∙ given_at_once empty_store rs;
        within = omega (arith, fits, size, limit_is);
        numbers = subst (λ (is : List Ids). StandFor n.graph.terms is (all_triples rs)) (sym e) (subst (λ (us : List Triple). StandFor n.graph.terms (triples_in numbers) us) all numbers_are);
      }

-- numbers are as many as their triples
pub as_many : (terms : List Term) (ids : List Ids) (ts : List Triple) → StandFor terms ids ts → length ids ≡ length ts
as_many terms ids ts a = sym (length-map ids (triple_at terms)) ∙ ap length a.1

pub long_enough : (terms : List Term) (ids : List Ids) (ts us : List Triple) → StandFor terms ids (ts ++ us) → length ts ≤ length ids
long_enough terms ids ts us a =
    let all = as_many terms ids (ts ++ us) a in
    let parts = length-append ts us in
    omega (arith, all, parts)

-- numbers of triples, of which some come first
split_front : (terms : List Term) (ts us : List Triple) (ids : List Ids) → StandFor terms ids (ts ++ us) → StandFor terms (take (length ts) ids) ts × StandFor terms (drop (length ts) ids) us
split_front terms [] us ids a = ((tt, refl), a)
split_front terms (t ∷ ts) us [] a = let e : [] ≡ t ∷ (ts ++ us) = a.1 in cc
split_front terms (t ∷ ts) us (i ∷ is) a =
    let e : triple_at terms i ∷ graph_of terms is ≡ t ∷ (ts ++ us) = a.1 in
    let first : triple_at terms i ≡ t = cc in
    let others : graph_of terms is ≡ ts ++ us = cc in
    let rest = split_front terms ts us is (a.0.1, others) in
    (((a.0.0, rest.0.0), λ k. first k ∷ rest.0.1 k), rest.1)

pub parted : (r : Record) (ids removed behind added more rest : List Ids) → removed ≡ take (length r.removed) ids → behind ≡ drop (length r.removed) ids → added ≡ take (length r.added) behind → more ≡ drop (length r.added) behind → rest ≡ drop (length (staged_triples r.shapes)) more
    → (terms : List Term) (us : List Triple) → StandFor terms ids (record_triples r ++ us) → StandFor terms removed r.removed × StandFor terms added r.added × StandFor terms rest us
parted r ids removed behind added more rest removed_is behind_is added_is more_is rest_is terms us a =
    let staged = staged_triples r.shapes in
    let apart : record_triples r ++ us ≡ r.removed ++ (r.added ++ (staged ++ us)) = append_assoc r.removed (r.added ++ staged) us ∙ ap (λ (ts : List Triple). r.removed ++ ts) (append_assoc r.added staged us) in
    let one = split_front terms r.removed (r.added ++ (staged ++ us)) ids (subst (λ (ts : List Triple). StandFor terms ids ts) apart a) in
    let two = split_front terms r.added (staged ++ us) behind (subst (λ (is : List Ids). StandFor terms is (r.added ++ (staged ++ us))) (sym behind_is) one.1) in
    let three = split_front terms staged us more (subst (λ (is : List Ids). StandFor terms is (staged ++ us)) (sym more_is) two.1) in (
      subst (λ (is : List Ids). StandFor terms is r.removed) (sym removed_is) one.0,
      subst (λ (is : List Ids). StandFor terms is r.added) (sym added_is) two.0,
      subst (λ (is : List Ids). StandFor terms is us) (sym rest_is) three.1,
    )

-- the triples of the records that are left
pub left_at : (rs : List Record) (i : ℕ) (r : Record) → i < length rs → r ≡ get_or rs i r → all_triples (drop i rs) ≡ record_triples r ++ all_triples (drop (i + 1) rs)
left_at rs i r lt is = ap all_triples (drop_more rs i r lt) ∙ ap (λ (q : Record). record_triples q ++ all_triples (drop (i + 1) rs)) (sym is)

-- the triples of the records so far
pub listed_on : (rs : List Record) (i : ℕ) (r : Record) → i < length rs → r ≡ get_or rs i r → all_triples (take (i + 1) rs) ≡ all_triples (take i rs) ++ record_triples r
listed_on rs i r lt is =
    ap all_triples (take_more rs i r lt) ∙ flat_map-append record_triples (take i rs) (get_or rs i r ∷ []) ∙ ap (λ (q : Record). all_triples (take i rs) ++ (record_triples q ++ [])) (sym is)
    ∙ ap (λ (ts : List Triple). all_triples (take i rs) ++ ts) (append-nil (record_triples r))

-- a test of triples by number, as far as it has come
pub one_numbered : (terms : List Term) (ids : List Ids) (i : ℕ) (d : Ids) → AreNumbered terms ids → i < length ids → IsNumbered terms (get_or ids i d)
one_numbered terms [] i d a lt = absurd (omega (arith, lt))
one_numbered terms (j ∷ js) zero d a lt = a.0
one_numbered terms (j ∷ js) (suc i) d a lt = one_numbered terms js i d a.1 (omega (arith, lt))

module _ (test : Triple → Bool) (terms : List Term) (ids : List Ids) (i : ℕ) (d : Ids) (lt : i < length ids) where
  tests_next : list_all test (graph_of terms (drop i ids)) ≡ (test (triple_at terms (get_or ids i d)) && list_all test (graph_of terms (drop (i + 1) ids)))
  tests_next = ap (λ (is : List Ids). list_all test (graph_of terms is)) (drop_more ids i d lt)

  pub passes_on : test (triple_at terms (get_or ids i d)) ≡ true → list_all test (graph_of terms (drop i ids)) ≡ list_all test (graph_of terms (drop (i + 1) ids))
  passes_on e = tests_next ∙ ap (λ b. b && list_all test (graph_of terms (drop (i + 1) ids))) e

  pub fails_here : test (triple_at terms (get_or ids i d)) ≡ false → list_all test (graph_of terms (drop i ids)) ≡ false
  fails_here e = tests_next ∙ ap (λ b. b && list_all test (graph_of terms (drop (i + 1) ids))) e

pub all_passed : (test : Triple → Bool) (terms : List Term) (ids : List Ids) (i : ℕ) → length ids ≤ i → list_all test (graph_of terms (drop i ids)) ≡ true
all_passed test terms ids i le = ap (λ (is : List Ids). list_all test (graph_of terms is)) (drop_all i ids le)

-- the changes of a record
adds_at : (terms : List Term) (g : List Triple) (js : List Ids) → after g (map (change_at terms) (map Add js)) ≡ with_each g (graph_of terms js)
adds_at terms g [] = refl
adds_at terms g (j ∷ js) = adds_at terms (with_item triple_cmp (triple_at terms j) g) js

changes_at : (terms : List Term) (g : List Triple) (is js : List Ids) → after g (map (change_at terms) (map Remove is ++ map Add js)) ≡ with_each (without_each g (graph_of terms is)) (graph_of terms js)
changes_at terms g [] js = adds_at terms g js
changes_at terms g (i ∷ is) js = changes_at terms (without_item triple_cmp (triple_at terms i) g) is js

adds_numbered : (terms : List Term) (js : List Ids) → AreNumbered terms js → AllByRecursion (IsNumberedChange terms) (map Add js)
adds_numbered terms [] a = tt
adds_numbered terms (j ∷ js) a = (a.0, adds_numbered terms js a.1)

pub changes_numbered : (terms : List Term) (is js : List Ids) (cs : List NumberedChange) → cs ≡ map Remove is ++ map Add js → AreNumbered terms is → AreNumbered terms js → AllByRecursion (IsNumberedChange terms) cs
changes_numbered terms is js cs e a b = subst (λ (ds : List NumberedChange). AllByRecursion (IsNumberedChange terms) ds) (sym e) (both terms is js a b)
  where
    both : (terms : List Term) (is js : List Ids) → AreNumbered terms is → AreNumbered terms js → AllByRecursion (IsNumberedChange terms) (map Remove is ++ map Add js)
    both terms [] js a b = adds_numbered terms js b
    both terms (i ∷ is) js a b = (a.0, both terms is js a.1 b)

pub after_changes : (g h : NamedGraph) (is js : List Ids) (cs : List NumberedChange) → cs ≡ map Remove is ++ map Add js → h ≡ with_changes g (map (change_at g.terms) cs) → (r : Record) → IsRecordOf g.terms is js r → IsAfterRecord g r h
after_changes g h is js cs ec eh r k =
    let removed = k.0 in
    let added = k.1 in
    let triples : after g.triples (map (change_at g.terms) cs) ≡ graph_after g.triples r =
    ap (λ (ds : List NumberedChange). after g.triples (map (change_at g.terms) ds)) ec ∙ changes_at g.terms g.triples is js ∙ (λ i. with_each (without_each g.triples (removed i)) (added i)) in
    eh ∙ (λ i. record { triples = triples i; shapes = g.shapes; terms = g.terms; limit = g.limit })

pub fits_by_number : (g : NamedGraph) (is js : List Ids) (r : Record) → IsRecordOf g.terms is js r
    → (list_all (λ t. has_item triple_cmp t g.triples) (graph_of g.terms is) && list_all (λ t. not (has_item triple_cmp t g.triples)) (graph_of g.terms js)) ≡ fits_record g.triples r
fits_by_number g is js r k =
    let removed = k.0 in
    let added = k.1 in
    λ i. list_all (λ t. has_item triple_cmp t g.triples) (removed i) && list_all (λ t. not (has_item triple_cmp t g.triples)) (added i)

-- the numbers of a record where those of the ones before it are gone
module _ (terms : List Term) (records : List Record) (i : ℕ) (rest : List Ids) (left : StandFor terms rest (all_triples (drop i records))) (r : Record) (lt : i < length records) (is : r ≡ get_or records i r) where
  left_is : StandFor terms rest (record_triples r ++ all_triples (drop (i + 1) records))
  left_is = subst (λ (ts : List Triple). StandFor terms rest ts) (left_at records i r lt is) left

  pub has_record : length (record_triples r) ≤ length rest
  has_record = long_enough terms rest (record_triples r) (all_triples (drop (i + 1) records)) left_is

  module _ (x : RecordIds) (apart : AreRecordIds r rest x) where
    pub removed_stand : StandFor terms x.removed.now r.removed
    removed_stand = (apart terms (all_triples (drop (i + 1) records)) left_is).0

    pub added_stand : StandFor terms x.added.now r.added
    added_stand = (apart terms (all_triples (drop (i + 1) records)) left_is).1

    pub rest_stand : StandFor terms x.rest.now (all_triples (drop (i + 1) records))
    rest_stand = (apart terms (all_triples (drop (i + 1) records)) left_is).2

-- the graph that the first records lead to, by number, and the numbers of those that are left
pub record HasCome (named : NamedGraph) (records : List Record) (i : ℕ) (g : NamedGraph) (rest : List Ids) : Type 0 where
  pub led : LeadTo records i g.triples
  pub same : g ≡ record { triples = g.triples; shapes = named.shapes; terms = named.terms; limit = named.limit }
  pub left : StandFor named.terms rest (all_triples (drop i records))

pub none_come : (named g : NamedGraph) (records : List Record) (ids : List Ids) → g ≡ named → named.triples ≡ [] → StandFor named.terms ids (all_triples records) → HasCome named records 0 g ids
none_come named g records ids e none a =
    let triples = ap (λ (x : NamedGraph). x.triples) e in
    record { led = (tt, triples ∙ none); same = e ∙ (λ i. record { triples = sym triples i; shapes = named.shapes; terms = named.terms; limit = named.limit }); left = a }

pub come_to_end : (named : NamedGraph) (records : List Record) (i : ℕ) (g : NamedGraph) (rest : List Ids) → HasCome named records i g rest → length records ≤ i → IsLastGraph named records g
come_to_end named records i g rest k le =
    let all = lead_to_end records i g.triples le k.led in
    let triples = all.1 in
    (all.0, k.same ∙ (λ j. record { triples = triples j; shapes = named.shapes; terms = named.terms; limit = named.limit }))

module _ (named : NamedGraph) (records : List Record) (i : ℕ) (g : NamedGraph) (rest : List Ids) (k : HasCome named records i g rest) (r : Record) (lt : i < length records) (is : r ≡ get_or records i r) (x : RecordIds) (apart : AreRecordIds r rest x) where
  terms_are : g.terms ≡ named.terms
  terms_are = ap (λ (h : NamedGraph). h.terms) k.same

  pub removed_here : StandFor g.terms x.removed.now r.removed
  removed_here = subst (λ (ts : List Term). StandFor ts x.removed.now r.removed) (sym terms_are) (removed_stand named.terms records i rest k.left r lt is x apart)

  pub added_here : StandFor g.terms x.added.now r.added
  added_here = subst (λ (ts : List Term). StandFor ts x.added.now r.added) (sym terms_are) (added_stand named.terms records i rest k.left r lt is x apart)

  pub is_record : IsRecordOf g.terms x.removed.now x.added.now r
  is_record = (removed_here.1, added_here.1)

  pub come_on : (h : NamedGraph) → fits_record g.triples r ≡ true → IsAfterRecord g r h → HasCome named records (i + 1) h x.rest.now
  come_on h fits after_is =
      let triples : h.triples ≡ graph_after g.triples r = ap (λ (y : NamedGraph). y.triples) after_is in
      let base = k.same in
      record {
        led = lead_on records i r g.triples h.triples lt is fits triples k.led;
        same = after_is ∙ (λ j. record { triples = sym triples j; shapes = (base j).shapes; terms = (base j).terms; limit = (base j).limit });
        left = rest_stand named.terms records i rest k.left r lt is x apart;
      }

  pub misfits : AreRecordsFrom 1 records → fits_record g.triples r ≡ false → IsMisfit records (Misfit r.number)
  misfits a wrong = first_misfit records i r g.triples a lt is wrong k.led

-- a misfit as a fault, and the fault where the terms are too many
pub misfit_fault : (l : Limits) (rs : List Record) (fault : RestoreFault) → IsMisfit rs fault → IsRestoreFault l rs fault
misfit_fault l rs (Misfit number) h = h
misfit_fault l rs TooLarge h = absurd h
misfit_fault l rs Blocked h = absurd h
misfit_fault l rs Memory h = tt

-- the graph where the records' terms are named, and their numbers
module _ (limit : ℕ) (rs : List Record) (n : NamedRecords) (named : AreNamedRecords limit rs n) (g : NamedGraph) (is : g ≡ n.graph) where
  graph_is : g ≡ record { triples = []; shapes = []; terms = (restored rs).named; limit = limit }
  graph_is = is ∙ named.graph_is

  pub no_triples : g.triples ≡ []
  no_triples = ap (λ (x : NamedGraph). x.triples) graph_is

  pub all_stand : (ids : List Ids) → ids ≡ n.ids → StandFor g.terms ids (all_triples rs)
  all_stand ids e = subst (λ (is : List Ids). StandFor g.terms is (all_triples rs)) (sym e) (subst (λ (x : NamedGraph). StandFor x.terms n.ids (all_triples rs)) (sym is) named.numbers)

  module _ (h : NamedGraph) (last : IsLastGraph g rs h) where
    last_is : h ≡ record { triples = (restored rs).graph; shapes = []; terms = (restored rs).named; limit = limit }
    last_is = last.1 ∙ (λ i. record { triples = (restored rs).graph; shapes = (graph_is i).shapes; terms = (graph_is i).terms; limit = (graph_is i).limit })

    pub shapes_ready : (shapes : List Triple) → shapes ≡ (restored rs).shapes → AreNamedTriples h.terms shapes
    shapes_ready shapes e = subst (λ (x : NamedGraph). AreNamedTriples x.terms shapes) (sym last_is) (subst (λ (ts : List Triple). AreNamedTriples (restored rs).named ts) (sym e) (named_shapes rs))

    pub too_large : (l : Limits) → l.triples < length h.triples → IsRestoreFault l rs TooLarge
    too_large l lt = let size = ap (λ (x : NamedGraph). length x.triples) last_is in (last.0, inr (omega (arith, lt, size)))

    pub graph_within : (l : Limits) (x : NamedGraph) (shapes : List Triple) → l.terms ≡ limit → shapes ≡ (restored rs).shapes → x ≡ with_shapes h shapes → length h.triples ≤ l.triples → IsGraphWithin l rs x
    graph_within l x shapes same e ex le =
        let size = ap (λ (y : NamedGraph). length y.triples) last_is in
        let within = named.within in
        record {
          fit = last.0;
          graph_is = ex ∙ (λ i. record { triples = (last_is i).triples; shapes = e i; terms = (last_is i).terms; limit = (last_is i).limit }) ∙ (λ i. record { triples = (restored rs).graph; shapes = (restored rs).shapes; terms = (restored rs).named; limit = sym same i });
          terms = omega (arith, within, same);
          triples = omega (arith, le, size);
        }

-- their numbers, by the names of the last graph
pub numbers_within : (l : Limits) (rs : List Record) (n : NamedRecords) (g : NamedGraph) (terms : List Term) (ids : List Ids) → AreNamedRecords l.terms rs n → IsGraphWithin l rs g → terms ≡ g.terms → ids ≡ n.ids → StandFor terms ids (all_triples rs)
numbers_within l rs n g terms ids named within et ei =
    let same : n.graph.terms ≡ terms = ap (λ (x : NamedGraph). x.terms) named.graph_is ∙ sym (et ∙ ap (λ (x : NamedGraph). x.terms) within.graph_is) in
    subst (λ (is : List Ids). StandFor terms is (all_triples rs)) (sym ei) (subst (λ (ts : List Term). StandFor ts n.ids (all_triples rs)) same named.numbers)

-- the numbers of triples, one list behind another
StandFor-append : (terms : List Term) (xs ys : List Ids) (ts us : List Triple) → StandFor terms xs ts → StandFor terms ys us → StandFor terms (xs ++ ys) (ts ++ us)
StandFor-append terms [] ys [] us a b = b
StandFor-append terms [] ys (t ∷ ts) us a b = let e : [] ≡ t ∷ ts = a.1 in cc
StandFor-append terms (x ∷ xs) ys [] us a b = let e : triple_at terms x ∷ graph_of terms xs ≡ [] = a.1 in cc
StandFor-append terms (x ∷ xs) ys (t ∷ ts) us a b =
    let e : triple_at terms x ∷ graph_of terms xs ≡ t ∷ ts = a.1 in
    let first : triple_at terms x ≡ t = cc in
    let others : graph_of terms xs ≡ ts = cc in
    let rest = StandFor-append terms xs ys ts us (a.0.1, others) b in
    ((a.0.0, rest.0), λ i. first i ∷ rest.1 i)

pub both_stand : (terms : List Term) (xs ys zs : List Ids) (ts us : List Triple) → zs ≡ xs ++ ys → StandFor terms xs ts → StandFor terms ys us → StandFor terms zs (ts ++ us)
both_stand terms xs ys zs ts us e a b = subst (λ (is : List Ids). StandFor terms is (ts ++ us)) (sym e) (StandFor-append terms xs ys ts us a b)

-- one commit more
pub commits_on : (rs : List Record) (i : ℕ) (r : Record) (old new : List Accepted) → i < length rs → r ≡ get_or rs i r → old ≡ map accepted_by (take i rs) → new ≡ old ++ accepted_by r ∷ [] → new ≡ map accepted_by (take (i + 1) rs)
commits_on rs i r old new lt is before e =
    e ∙ ap (λ (cs : List Accepted). cs ++ accepted_by r ∷ []) before ∙ ap (λ (q : Record). map accepted_by (take i rs) ++ accepted_by q ∷ []) is ∙ sym (map_more accepted_by rs i r lt)
