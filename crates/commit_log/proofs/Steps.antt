-- One record more is read.
use Rattle.std.proofs.Common.{◌≡◌, ◌≢◌, inr, ℕ, ◌+◌, ◌-◌, ◌≤◌, ◌<◌, ◌^◌, List, [], ◌∷◌, ◌++◌, length, take, drop, get_or, sym, ◌∙◌, ap, subst, arith, append_assoc, length-append, length-drop}
use Rattle.std.proofs.lemmas.List.{drop_more, take_all, map-append}
use Rattle.record_text.specs.declared.record.Record.{Record}
use Rattle.record_text.specs.Records.{record_text, IsReadableRecord}
use Rattle.commit_log.specs.declared.read.RecordFault.{RecordFault}
use Rattle.commit_log.specs.declared.read.RecordFault.TheVariants.{BadLog, Memory}
use Rattle.commit_log.specs.Format.{block, Entry, IsOpened, front, BeginsWith}
use Rattle.commit_log.specs.Bad.{BeginsWithBlock, HasNoRecord, Refuses, IsRead, IsNext, IsNoNext}
use Rattle.commit_log.proofs.Logs.{all_push, front-push}
use Rattle.commit_log.proofs.One.{same_text}
use Rattle.commit_log.proofs.Records.{numbered_push, texts_push}

-- what stands behind the first byte
abbrev pub behind : List ℕ → List ℕ
behind rest = take (length rest - 1) (drop 1 rest)

gate_and_rest : (rest : List ℕ) → 1 ≤ length rest → rest ≡ get_or rest 0 0 ∷ behind rest
gate_and_rest rest long = drop_more rest 0 0 (omega arith) ∙ ap (λ (l : List ℕ). get_or rest 0 0 ∷ l) (sym (take_all (length rest - 1) (drop 1 rest) (simp length-drop (omega arith))))

module _ (image rest : List ℕ) (rs : List Record) (b : BeginsWith image rs rest) (long : 1 ≤ length rest) where
  pub with_gate : BeginsWith image rs (get_or rest 0 0 ∷ behind rest)
  with_gate = record {
    numbered = b.numbered;
    entries = b.entries;
    opened = b.opened;
    texts_are = b.texts_are;
    whole = b.whole ∙ ap (λ (l : List ℕ). front b.entries ++ l) (gate_and_rest rest long);
  }

  -- the gate is closed
  pub ended : (end : ℕ) → get_or rest 0 0 ≡ 0 → end + length rest ≡ length image → IsRead image rs end
  unfolding with_gate
  ended end shut e = record {
    rest = behind rest;
    begins = record {
      numbered = b.numbered;
      entries = b.entries;
      opened = b.opened;
      texts_are = b.texts_are;
      whole = with_gate.whole ∙ ap (λ (g : ℕ). front b.entries ++ g ∷ behind rest) shut;
    };
    end_is = (let parts : length image ≡ length (front b.entries) + length rest = ap length b.whole ∙ length-append (front b.entries) rest in omega (arith, e, parts));
  }

  pub refuses : (fault : RecordFault) → get_or rest 0 0 ≢ 0 → IsNoNext (length rs + 1) (behind rest) fault → Refuses image fault
  refuses (BadLog k) ne none = inr (inr (record {
    records = rs;
    number_is = none.0;
    gate = get_or rest 0 0;
    is_open = ne;
    rest = behind rest;
    begins = with_gate;
    no_record = subst (λ (n : ℕ). HasNoRecord n (behind rest)) (sym none.0) none.1;
  }))
  refuses Memory ne none = tt

  pub reads_on : (new : List Record) (next : List ℕ) → get_or rest 0 0 ≢ 0 → IsNext (length rs + 1) (behind rest) rs new next → BeginsWith image new next
  reads_on new next ne n =
      let e : Entry = (get_or rest 0 0, record_text n.found) in
      subst (λ (xs : List Record). BeginsWith image xs next) (sym n.added) (record {
        numbered = numbered_push 1 rs n.found b.numbered (n.number_is ∙ omega arith) n.readable;
        entries = b.entries ++ e ∷ [];
        opened = all_push IsOpened b.entries e b.opened (record { gate = ne; size = n.size });
        texts_are = map-append (λ (x : Entry). x.1) b.entries (e ∷ []) ∙ ap (λ (ts : List (List ℕ)). ts ++ record_text n.found ∷ []) b.texts_are ∙ texts_push rs n.found;
        whole = b.whole ∙ ap (λ (l : List ℕ). front b.entries ++ l) (gate_and_rest rest long) ∙ ap (λ (l : List ℕ). front b.entries ++ get_or rest 0 0 ∷ l) n.bytes_are
            ∙ sym (append_assoc (front b.entries) (get_or rest 0 0 ∷ block (record_text n.found)) next) ∙ ap (λ (l : List ℕ). l ++ next) (sym (front-push b.entries e));
      })

-- where no block stands, no record does
pub no_block : (number : ℕ) (bytes : List ℕ) → (BeginsWithBlock bytes → ⊥) → HasNoRecord number bytes
no_block number bytes none r more n good size e = none (record_text r, more, size, e)

-- where the text of the block is that of no record
pub no_text : (number : ℕ) (bytes text rest : List ℕ) → length text < 2 ^ 64 → bytes ≡ block text ++ rest → ((r : Record) → r.number ≡ number → IsReadableRecord r → text ≢ record_text r) → HasNoRecord number bytes
no_text number bytes text rest size is none r more n good small e = none r n good (same_text text (record_text r) rest more size small (sym is ∙ e))
