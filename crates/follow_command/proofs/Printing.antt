-- Records that are fed, one more.
use Rattle.std.proofs.Common.{◌≡◌, ◌∙◌, ◌<◌, ◌+◌, ℕ, zero, suc, List, [], ◌∷◌, ◌++◌, length, refl, sym, ap, subst, arith, append_assoc}
use Rattle.std.specs.Prelude.{slice_index_or}
use Rattle.std.specs.List.{Contains}
use Rattle.std.proofs.lemmas.List.{append-nil}
use Rattle.record_text.specs.declared.record.Record.{Record}
use Rattle.commit_log.specs.Format.{AreRecordsFrom}
use Rattle.follower.specs.Followed.{Feeds, Followed, unfed}
use Rattle.follower.specs.Laws.{Feeding, Runs}
use Rattle.follow_command.specs.Printing.{FedInOrder, FeedsAll, FeedsOne, fed_line, fed_lines}

fed_one : (records : List Record) (ns : List ℕ) (fs : List Feeding) (n : ℕ) (f : Feeding) → FedInOrder records ns fs → Contains records f.0 → f.0.number ≡ n → FedInOrder records (ns ++ n ∷ []) (fs ++ f ∷ [])
fed_one records [] [] n f o c e = (c, e, tt)
fed_one records [] (g ∷ fs) n f o c e = absurd o
fed_one records (m ∷ ns) [] n f o c e = absurd o
fed_one records (m ∷ ns) (g ∷ fs) n f o c e = (o.0, o.1, fed_one records ns fs n f o.2 c e)

runs_one : (s t u : Followed) (fs : List Feeding) (f : Feeding) → Runs s fs t → Feeds t f.0 f.1 u → Runs s (fs ++ f ∷ []) u
runs_one s t u [] f r n = (u, subst (λ (x : Followed). Feeds x f.0 f.1 u) r n, refl)
runs_one s t u (g ∷ fs) f r n = (r.0, r.1, runs_one r.0 t u fs f r.2 n)

lines_one : (fs : List Feeding) (f : Feeding) → fed_lines (fs ++ f ∷ []) ≡ fed_lines fs ++ fed_line f.1
lines_one [] f = append-nil (fed_line f.1)
lines_one (g ∷ fs) f = ap (λ (l : List ℕ). fed_line g.1 ++ l) (lines_one fs f) ∙ sym (append_assoc (fed_line g.1) (fed_lines fs) (fed_line f.1))

pub none_fed : (records : List Record) (s : Followed) (text : List ℕ) → s ≡ unfed → text ≡ [] → FeedsAll records [] s text
none_fed records s text e t = record { feedings = []; in_order = tt; runs = e; text_is = t }

pub one_more : (records : List Record) (ns : List ℕ) (n : ℕ) (s t : Followed) (before after : List ℕ) → FeedsAll records ns s before → FeedsOne records n s t before after → FeedsAll records (ns ++ n ∷ []) t after
one_more records ns n s t before after a o = record {
  feedings = a.feedings ++ o.feeding ∷ [];
  in_order = fed_one records ns a.feedings n o.feeding a.in_order o.there o.number_is;
  runs = runs_one unfed s t a.feedings o.feeding a.runs o.feeds;
  text_is = o.added ∙ (ap (λ (l : List ℕ). l ++ fed_line o.feeding.1) a.text_is ∙ sym (lines_one a.feedings o.feeding));
}

-- the record under a number
pub record_at : (m i : ℕ) (rs : List Record) (d : Record) → AreRecordsFrom m rs → i < length rs → (slice_index_or rs i d).number ≡ m + i
record_at m i [] d a lt = absurd (omega (arith, lt))
record_at m zero (r ∷ rs) d a lt = let e = a.0 in omega (arith, e)
record_at m (suc i) (r ∷ rs) d a lt = let e = record_at (m + 1) i rs d a.2 (omega (arith, lt)) in omega (arith, e)

pub fed_record : (records : List Record) (n i : ℕ) (r d : Record) → AreRecordsFrom 1 records → i + 1 ≡ n → i < length records → r ≡ slice_index_or records i d → Contains records r × (r.number ≡ n)
fed_record records n i r d a e lt is =
    let at = record_at 1 i records d a lt in
    let same = ap (λ (x : Record). x.number) is in
    (subst (λ (x : Record). Contains records x) (sym is) (there records i d lt), omega (arith, at, same, e))
  where
    there : (rs : List Record) (i : ℕ) (d : Record) → i < length rs → Contains rs (slice_index_or rs i d)
    there rs i d lt = (i, lt, stays rs i d (slice_index_or rs i d) lt)
      where
        stays : (rs : List Record) (i : ℕ) (d e : Record) → i < length rs → slice_index_or rs i e ≡ slice_index_or rs i d
        stays [] i d e lt = absurd (omega (arith, lt))
        stays (x ∷ xs) zero d e lt = refl
        stays (x ∷ xs) (suc i) d e lt = stays xs i d e (omega (arith, lt))
