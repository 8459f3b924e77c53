-- The last shapes graph that records staged.
use Rattle.std.proofs.Common.{◌≡◌, ◌∙◌, ◌++◌, ◌+◌, ◌<◌, ℕ, List, [], ◌∷◌, Option, Some, None, ap, append_assoc, get_or, length, take, sym, refl, subst}
use Rattle.std.specs.Borrow.{Bor}
use Rattle.std.specs.List.{AllByRecursion}
use Rattle.std.proofs.lemmas.List.{take_more}
use Rattle.collections.specs.Ordered.{IsAscending}
use Rattle.rdf_model.specs.Terms.{triple_cmp}
use Rattle.rdf_model.specs.declared.triple.Triple.{Triple}
use Rattle.record_text.specs.declared.record.Record.{Record}
use Rattle.record_text.specs.Records.{HasReadableShapes, IsReadableRecord}
use Rattle.commit_log.specs.Format.{AreRecordsFrom}
use Rattle.outside.specs.Faults.{Refusal}
use Rattle.shape_rules.specs.Broken.{IsWellFormed}
use Rattle.shape_reader.specs.declared.fault.ShapeFault.{ShapeFault}
use Rattle.shape_reader.specs.declared.fault.ShapeFault.TheVariants as reader
use Rattle.shape_reader.specs.Faults.{IsCause}
use Rattle.shape_reader.specs.Parts.{IsRefused}
use Rattle.store_model.specs.Store.{State, empty_store, shapes_under}
use Rattle.commit_core.specs.Restored.{restored_from, with_record}
use Rattle.log_command.specs.declared.fault.LogFault.{LogFault}
use Rattle.log_command.specs.Restoring.{IsLastStaged, StopsShapes, last_shapes, of_shapes}

-- records that stage none leave the shapes as they are
under : (shapes : List Triple) (staged : Option (List Triple)) → staged ≡ None → shapes_under shapes staged ≡ shapes
under shapes staged h = ap (shapes_under shapes) h

kept : (s : State) (rs : List Record) → AllByRecursion (λ r. r.shapes ≡ None) rs → (restored_from s rs).shapes ≡ s.shapes
kept s [] a = refl
kept s (r ∷ rs) a = kept (with_record s r) rs a.1 ∙ under s.shapes r.shapes a.0

pub none_staged : (rs : List Record) → AllByRecursion (λ r. r.shapes ≡ None) rs → last_shapes rs ≡ []
none_staged rs a = kept empty_store rs a

-- behind the last one they are its
staged_last : (s : State) (front : List Record) (entry : Record) (back : List Record) (shapes : List Triple) → entry.shapes ≡ Some shapes → AllByRecursion (λ r. r.shapes ≡ None) back → (restored_from s (front ++ entry ∷ back)).shapes ≡ shapes
staged_last s [] entry back shapes h a = kept (with_record s entry) back a ∙ ap (shapes_under s.shapes) h
staged_last s (r ∷ rs) entry back shapes h a = staged_last (with_record s r) rs entry back shapes h a

pub is_last : (rs : List Record) (number : ℕ) (shapes : List Triple) → IsLastStaged rs number shapes → last_shapes rs ≡ shapes
is_last rs number shapes k = ap last_shapes k.all ∙ staged_last empty_store k.front k.entry k.back shapes k.staged k.none

-- The loop: what was found among the first records.

abbrev pub LastAmong : List Record → Option (ℕ × Bor (List Triple)) → Type 0
LastAmong rs None = AllByRecursion (λ r. r.shapes ≡ None) rs
LastAmong rs (Some last) = IsLastStaged rs last.0 last.1.now

all_more : (rs : List Record) (r : Record) → AllByRecursion (λ q. q.shapes ≡ None) rs → r.shapes ≡ None → AllByRecursion (λ q. q.shapes ≡ None) (rs ++ r ∷ [])
all_more [] r a h = (h, tt)
all_more (q ∷ qs) r a h = (a.0, all_more qs r a.1 h)

pub none_more : (rs : List Record) (r : Record) (last : Option (ℕ × Bor (List Triple))) → r.shapes ≡ None → LastAmong rs last → LastAmong (rs ++ r ∷ []) last
none_more rs r None h k = all_more rs r k h
none_more rs r (Some last) h k = record {
  front = k.front;
  entry = k.entry;
  back = k.back ++ r ∷ [];
  all = ap (λ (xs : List Record). xs ++ r ∷ []) k.all ∙ append_assoc k.front (k.entry ∷ k.back) (r ∷ []);
  number_is = k.number_is;
  staged = k.staged;
  none = all_more k.back r k.none h;
}

pub some_more : (rs : List Record) (r : Record) (last : ℕ × Bor (List Triple)) → last.0 ≡ r.number → r.shapes ≡ Some last.1.now → LastAmong (rs ++ r ∷ []) (Some last)
some_more rs r last n h = record { front = rs; entry = r; back = []; all = refl; number_is = n; staged = h; none = tt }

-- what the loop adds at its next record
pub none_on : (records : List Record) (i : ℕ) (r : Record) (last later : Option (ℕ × Bor (List Triple))) → i < length records → r ≡ get_or records i r → later ≡ last → r.shapes ≡ None → LastAmong (take i records) last → LastAmong (take (i + 1) records) later
none_on records i r last later lt is same h k =
    let more : take (i + 1) records ≡ take i records ++ r ∷ [] = take_more records i r lt ∙ ap (λ (q : Record). take i records ++ q ∷ []) (sym is) in
    subst (λ (rs : List Record). LastAmong rs later) (sym more) (subst (LastAmong (take i records ++ r ∷ [])) (sym same) (none_more (take i records) r last h k))

pub some_on : (records : List Record) (i : ℕ) (r : Record) (n : ℕ) (b : Bor (List Triple)) (later : Option (ℕ × Bor (List Triple))) → i < length records → r ≡ get_or records i r → later ≡ Some (n, b) → n ≡ r.number → r.shapes ≡ Some b.now → LastAmong (take (i + 1) records) later
some_on records i r n b later lt is same number h =
    let more : take (i + 1) records ≡ take i records ++ r ∷ [] = take_more records i r lt ∙ ap (λ (q : Record). take i records ++ q ∷ []) (sym is) in
    subst (λ (rs : List Record). LastAmong rs later) (sym more) (subst (LastAmong (take i records ++ r ∷ [])) (sym same) (some_more (take i records) r (n, b) number h))

-- The last graph ascends, where the records can be read.
readable_in : (n : ℕ) (front : List Record) (entry : Record) (back : List Record) → AreRecordsFrom n (front ++ entry ∷ back) → IsReadableRecord entry
readable_in n [] entry back a = a.1
readable_in n (r ∷ rs) entry back a = readable_in (n + 1) rs entry back a.2

pub last_ascends : (records : List Record) (number : ℕ) (shapes : List Triple) → AreRecordsFrom 1 records → IsLastStaged records number shapes → IsAscending triple_cmp shapes
last_ascends records number shapes a k =
    let readable = readable_in 1 k.front k.entry k.back (subst (AreRecordsFrom 1) k.all a) in
    (subst HasReadableShapes k.staged readable.shapes).1

-- why there is no last graph
shapes_stop : (records : List Record) (number : ℕ) (shapes : List Triple) (old new : List Refusal) (fault : ShapeFault) → IsLastStaged records number shapes → IsCause shapes fault old new → StopsShapes records old new (of_shapes fault number)
shapes_stop records number shapes old new (reader.Rule row) k h = ((shapes, k, (row, h.0.0)), h.1)
shapes_stop records number shapes old new (reader.Pattern node) k h = subst (λ (s : List Triple). IsWellFormed s × IsRefused s node old new) (sym (is_last records number shapes k)) h
shapes_stop records number shapes old new reader.Memory k h = h

pub shapes_stop_as : (records : List Record) (number : ℕ) (shapes : List Triple) (old new : List Refusal) (fault : ShapeFault) (told : LogFault) → IsLastStaged records number shapes → IsCause shapes fault old new → told ≡ of_shapes fault number → StopsShapes records old new told
shapes_stop_as records number shapes old new fault told k h is = subst (StopsShapes records old new) (sym is) (shapes_stop records number shapes old new fault k h)
