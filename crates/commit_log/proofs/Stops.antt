-- An image has its records in one way, up to where they stop.
use Rattle.std.proofs.Common.{◌≡◌, ◌⊎◌, inl, inr, ℕ, ◌+◌, List, [], ◌∷◌, ◌++◌, length, map, drop, get_or, refl, sym, ◌∙◌, ap, subst, arith, append_assoc}
use Rattle.std.proofs.lemmas.List.{append_cancel_left}
use Rattle.std.specs.List.{AllByRecursion, flat_map}
use Rattle.record_text.specs.declared.record.Record.{Record}
use Rattle.record_text.specs.Records.{record_text, IsReadableRecord}
use Rattle.record_text.proofs.Sections.{texts_apart}
use Rattle.commit_log.specs.Format.{header, block, Entry, spelled, IsOpened, AreRecordsFrom, BeginsWith}
use Rattle.commit_log.specs.Bad.{HasHeader, HasNoRecord, OpensToOne, NoLogIsBad, OneIsToBlame}
use Rattle.commit_log.proofs.One.{same_text}

-- no record with this number is opened in front
abbrev Stops : ℕ → List ℕ → Type 0
Stops n [] = Unit {0}
Stops n (gate ∷ rest) = (gate ≡ 0) ⊎ HasNoRecord n rest

record IsEntryOf (n : ℕ) (e : Entry) (r : Record) : Type 0 where
  opened : IsOpened e
  text_is : e.1 ≡ record_text r
  number_is : r.number ≡ n
  readable : IsReadableRecord r

abbrev AreEntriesOf : ℕ → List Entry → List Record → Type 0
AreEntriesOf n [] [] = Unit {0}
AreEntriesOf n [] (r ∷ rs) = ⊥
AreEntriesOf n (e ∷ es) [] = ⊥
AreEntriesOf n (e ∷ es) (r ∷ rs) = IsEntryOf n e r × AreEntriesOf (n + 1) es rs

entries_of : (n : ℕ) (es : List Entry) (rs : List Record) → AllByRecursion IsOpened es → map (λ e. e.1) es ≡ map record_text rs → AreRecordsFrom n rs → AreEntriesOf n es rs
entries_of n [] [] o t a = tt
entries_of n [] (r ∷ rs) o t a = cc
entries_of n (e ∷ es) [] o t a = cc
entries_of n (e ∷ es) (r ∷ rs) o t a =
    let first : e.1 ≡ record_text r = ap (λ (l : List (List ℕ)). get_or l 0 []) t in
    let more : map (λ e. e.1) es ≡ map record_text rs = ap (λ (l : List (List ℕ)). drop 1 l) t in
    (record { opened = o.0; text_is = first; number_is = a.0; readable = a.1 }, entries_of (n + 1) es rs o.1 more a.2)

-- where it stops no entry follows
none_more : (n : ℕ) (a : List ℕ) (e : Entry) (r : Record) (tail : List ℕ) → Stops n a → IsEntryOf n e r → a ≡ spelled e ++ tail → ⊥
none_more n [] e r tail s i is = cc
none_more n (gate ∷ rest) e r tail (inl shut) i is = i.opened.gate (sym (ap (λ (l : List ℕ). get_or l 0 0) is) ∙ shut)
none_more n (gate ∷ rest) e r tail (inr none) i is =
    none r tail i.number_is i.readable (omega (arith, i.opened.size, ap length i.text_is)) (ap (λ (l : List ℕ). drop 1 l) is ∙ ap (λ (t : List ℕ). block t ++ tail) i.text_is)

-- what stands behind the first entries of one list is one
same_first : (n : ℕ) (e f : Entry) (r s : Record) (a b : List ℕ) → IsEntryOf n e r → IsEntryOf n f s → spelled e ++ a ≡ spelled f ++ b → (r ≡ s) × (a ≡ b)
same_first n e f r s a b i j is =
    let behind : block e.1 ++ a ≡ block f.1 ++ b = ap (λ (l : List ℕ). drop 1 l) is in
    let text = same_text e.1 f.1 a b i.opened.size j.opened.size behind in
    let same = texts_apart r s i.readable j.readable (i.number_is ∙ sym j.number_is) (omega (arith, i.opened.size, ap length i.text_is)) (sym i.text_is ∙ text ∙ j.text_is) in
    (same, append_cancel_left (block e.1) a b (behind ∙ ap (λ (t : List ℕ). block t ++ b) (sym text)))

same_records : (n : ℕ) (es fs : List Entry) (rs ss : List Record) (a b : List ℕ) → AreEntriesOf n es rs → AreEntriesOf n fs ss → Stops (n + length rs) a → Stops (n + length ss) b
    → flat_map spelled es ++ a ≡ flat_map spelled fs ++ b → (rs ≡ ss) × (a ≡ b)
same_records n [] [] [] [] a b i j x y is = (refl, is)
same_records n [] [] [] (s ∷ ss) a b i j x y is = absurd j
same_records n [] [] (r ∷ rs) ss a b i j x y is = absurd i
same_records n [] (f ∷ fs) (r ∷ rs) ss a b i j x y is = absurd i
same_records n [] (f ∷ fs) [] [] a b i j x y is = absurd j
same_records n [] (f ∷ fs) [] (s ∷ ss) a b i j x y is =
    let here : n + 0 ≡ n = omega arith in
    absurd (none_more n a f s (flat_map spelled fs ++ b) (subst (λ (k : ℕ). Stops k a) here x) j.0 (is ∙ append_assoc (spelled f) (flat_map spelled fs) b))
same_records n (e ∷ es) [] [] ss a b i j x y is = absurd i
same_records n (e ∷ es) [] (r ∷ rs) (s ∷ ss) a b i j x y is = absurd j
same_records n (e ∷ es) [] (r ∷ rs) [] a b i j x y is =
    let here : n + 0 ≡ n = omega arith in
    absurd (none_more n b e r (flat_map spelled es ++ a) (subst (λ (k : ℕ). Stops k b) here y) i.0 (sym is ∙ append_assoc (spelled e) (flat_map spelled es) a))
same_records n (e ∷ es) (f ∷ fs) [] ss a b i j x y is = absurd i
same_records n (e ∷ es) (f ∷ fs) (r ∷ rs) [] a b i j x y is = absurd j
same_records n (e ∷ es) (f ∷ fs) (r ∷ rs) (s ∷ ss) a b i j x y is =
    let first = same_first n e f r s (flat_map spelled es ++ a) (flat_map spelled fs ++ b) i.0 j.0
    (sym (append_assoc (spelled e) (flat_map spelled es) a) ∙ is ∙ append_assoc (spelled f) (flat_map spelled fs) b) in
    let left : n + length (r ∷ rs) ≡ n + 1 + length rs = omega arith in
    let right : n + length (s ∷ ss) ≡ n + 1 + length ss = omega arith in
    let more = same_records (n + 1) es fs rs ss a b i.1 j.1 (subst (λ (k : ℕ). Stops k a) left x) (subst (λ (k : ℕ). Stops k b) right y) first.1 in
    ((λ k. first.0 k ∷ more.0 k), more.1)

-- the same of one image
same_beginning : (image : List ℕ) (rs ss : List Record) (a b : List ℕ) → BeginsWith image rs a → BeginsWith image ss b → Stops (1 + length rs) a → Stops (1 + length ss) b → (rs ≡ ss) × (a ≡ b)
same_beginning image rs ss a b p q x y =
    same_records 1 p.entries q.entries rs ss a b (entries_of 1 p.entries rs p.opened p.texts_are p.numbered) (entries_of 1 q.entries ss q.opened q.texts_are q.numbered) x y
    (append_cancel_left header _ _ (sym (append_assoc header (flat_map spelled p.entries) a) ∙ sym p.whole ∙ q.whole ∙ append_assoc header (flat_map spelled q.entries) b))

has_header : (image : List ℕ) (rs : List Record) (a : List ℕ) → BeginsWith image rs a → HasHeader image
has_header image rs a p = (flat_map spelled p.entries ++ a, p.whole ∙ append_assoc header (flat_map spelled p.entries) a)

breaks_stop : (k count gate : ℕ) (rest : List ℕ) → k ≡ count + 1 → HasNoRecord k rest → Stops (1 + count) (gate ∷ rest)
breaks_stop k count gate rest is none = inr (subst (λ (n : ℕ). HasNoRecord n rest) (is ∙ omega arith) none)

pub opens_to_one : OpensToOne
opens_to_one image rs ss a b = (same_beginning image rs ss (0 ∷ a.0) (0 ∷ b.0) a.1 b.1 (inl refl) (inl refl)).0

pub no_log_is_bad : NoLogIsBad
no_log_is_bad image rs k o (inl bad) = bad.1 (has_header image rs (0 ∷ o.0) o.1)
no_log_is_bad image rs k o (inr (inl ends)) =
    let same = (same_beginning image rs ends.records (0 ∷ o.0) [] o.1 ends.begins (inl refl) tt).1 in
    cc
no_log_is_bad image rs k o (inr (inr breaks)) =
    let same = (same_beginning image rs breaks.records (0 ∷ o.0) (breaks.gate ∷ breaks.rest) o.1 breaks.begins (inl refl) (breaks_stop k (length breaks.records) breaks.gate breaks.rest breaks.number_is breaks.no_record)).1 in
    breaks.is_open (sym (ap (λ (l : List ℕ). get_or l 0 0) same))

pub one_is_to_blame : OneIsToBlame
one_is_to_blame image j k (inl a) (inl b) = a.0 ∙ sym b.0
one_is_to_blame image j k (inl a) (inr (inl b)) = absurd (a.1 (has_header image b.records [] b.begins))
one_is_to_blame image j k (inl a) (inr (inr b)) = absurd (a.1 (has_header image b.records (b.gate ∷ b.rest) b.begins))
one_is_to_blame image j k (inr (inl a)) (inl b) = absurd (b.1 (has_header image a.records [] a.begins))
one_is_to_blame image j k (inr (inr a)) (inl b) = absurd (b.1 (has_header image a.records (a.gate ∷ a.rest) a.begins))
one_is_to_blame image j k (inr (inl a)) (inr (inl b)) =
    a.count_is ∙ ap length (same_beginning image a.records b.records [] [] a.begins b.begins tt tt).0 ∙ sym b.count_is
one_is_to_blame image j k (inr (inl a)) (inr (inr b)) =
    let same = (same_beginning image a.records b.records [] (b.gate ∷ b.rest) a.begins b.begins tt (breaks_stop k (length b.records) b.gate b.rest b.number_is b.no_record)).1 in
    cc
one_is_to_blame image j k (inr (inr a)) (inr (inl b)) =
    let same = (same_beginning image a.records b.records (a.gate ∷ a.rest) [] a.begins b.begins (breaks_stop j (length a.records) a.gate a.rest a.number_is a.no_record) tt).1 in
    cc
one_is_to_blame image j k (inr (inr a)) (inr (inr b)) =
    let same = (same_beginning image a.records b.records (a.gate ∷ a.rest) (b.gate ∷ b.rest) a.begins b.begins (breaks_stop j (length a.records) a.gate a.rest a.number_is a.no_record) (breaks_stop k (length b.records) b.gate b.rest b.number_is b.no_record)).0 in
    a.number_is ∙ ap (λ (l : List Record). length l + 1) same ∙ sym b.number_is
