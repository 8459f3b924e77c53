-- From records to their texts and back.
use Rattle.std.proofs.Common.{◌≡◌, inl, inr, ℕ, ◌+◌, ◌<◌, ◌^◌, List, [], ◌∷◌, ◌++◌, length, map, sym, ◌∙◌, ap, subst, arith}
use Rattle.std.proofs.lemmas.List.{map-append, length-map}
use Rattle.disk.specs.Crashes.{Moment, overwritten}
use Rattle.record_text.specs.declared.record.Record.{Record}
use Rattle.record_text.specs.Records.{record_text, IsReadableRecord}
use Rattle.commit_log.specs.Format.{block, Entry, AreRecordsFrom, Opens}
use Rattle.commit_log.specs.Texts.{OpensTexts, OpensOneText, EnterLeaves}
use Rattle.commit_log.specs.Log.{IsSettled, OpensOneOf}
use Rattle.commit_log.proofs.Logs.{as_opens}
use Rattle.commit_log.proofs.One.{opens_one}
use Rattle.commit_log.proofs.Appends.{entering, done_opens}

pub texts_of : (image : List ℕ) (rs : List Record) → Opens image rs → OpensTexts image (map record_text rs)
texts_of image rs o = record { entries = o.1.entries; opened = o.1.opened; texts_are = o.1.texts_are; rest = o.0; whole = o.1.whole }

pub of_texts : (image : List ℕ) (rs : List Record) → AreRecordsFrom 1 rs → OpensTexts image (map record_text rs) → Opens image rs
of_texts image rs n t = (t.rest, record { numbered = n; entries = t.entries; opened = t.opened; texts_are = t.texts_are; whole = t.whole })

-- one record more
pub numbered_push : (n : ℕ) (rs : List Record) (r : Record) → AreRecordsFrom n rs → r.number ≡ n + length rs → IsReadableRecord r → AreRecordsFrom n (rs ++ r ∷ [])
numbered_push n [] r a e good = (omega (arith, e), good, tt)
numbered_push n (x ∷ rs) r a e good = (a.0, a.1, numbered_push (n + 1) rs r a.2 (omega (arith, e)) good)

pub texts_push : (rs : List Record) (r : Record) → map record_text rs ++ record_text r ∷ [] ≡ map record_text (rs ++ r ∷ [])
texts_push rs r = sym (map-append record_text rs (r ∷ []))

of_more : (image : List ℕ) (rs : List Record) (r : Record) → AreRecordsFrom 1 rs → r.number ≡ length rs + 1 → IsReadableRecord r → OpensTexts image (map record_text rs ++ record_text r ∷ []) → Opens image (rs ++ r ∷ [])
of_more image rs r n e good t = of_texts image (rs ++ r ∷ []) (numbered_push 1 rs r n (omega (arith, e)) good) (subst (λ (ts : List (List ℕ)). OpensTexts image ts) (texts_push rs r) t)

of_one : (image : List ℕ) (rs : List Record) (r : Record) → AreRecordsFrom 1 rs → r.number ≡ length rs + 1 → IsReadableRecord r → OpensOneText (map record_text rs) (record_text r) image → OpensOneOf rs r image
of_one image rs r n e good (inl t) = inl (of_texts image rs n t)
of_one image rs r n e good (inr t) = inr (of_more image rs r n e good t)

module _ (bytes : List ℕ) (now : Moment) (end count : ℕ) (s : IsSettled bytes now end count) (rs : List Record) (o : Opens bytes rs) where
  -- how many records there are
  pub counted : count ≡ length rs
  counted =
      let texts = opens_one bytes _ _ (as_opens bytes now end count s) (texts_of bytes rs o) in
      s.count_is ∙ sym (length-map s.entries (λ (e : Entry). e.1)) ∙ ap length texts ∙ length-map rs record_text

  module _ (r : Record) (piece : List ℕ) (number : r.number ≡ count + 1) (good : IsReadableRecord r) (piece_is : piece ≡ block (record_text r) ++ 0 ∷ []) (size : length (record_text r) < 2 ^ 64) where
    next : r.number ≡ length rs + 1
    next = number ∙ ap (λ (n : ℕ). n + 1) counted

    -- while the record is put
    pub leaves_one : (image : List ℕ) → EnterLeaves bytes end piece image → OpensOneOf rs r image
    leaves_one image p = of_one image rs r o.1.numbered next good (entering bytes now end count s (map record_text rs) (texts_of bytes rs o) (record_text r) piece piece_is size image p)

    -- when it was put
    pub opens_more : (new : List ℕ) → new ≡ overwritten (overwritten bytes (end + 1) piece) end (1 ∷ []) → Opens new (rs ++ r ∷ [])
    opens_more new f = of_more new rs r o.1.numbered next good (done_opens bytes now end count s (map record_text rs) (texts_of bytes rs o) (record_text r) piece piece_is new f size)
