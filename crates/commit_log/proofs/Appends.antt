-- An append, in two puts.
use Rattle.std.proofs.Common.{◌≡◌, inl, inr, ℕ, ◌+◌, ◌<◌, ◌^◌, List, [], ◌∷◌, ◌++◌, length, map, drop, refl, sym, ◌∙◌, ap, subst, arith, append_assoc, length-append}
use Rattle.std.proofs.lemmas.List.{map-append}
use Rattle.disk.specs.Crashes.{Moment, overwritten, settled}
use Rattle.disk.proofs.Torn.{overwritten_behind, overwritten_byte}
use Rattle.commit_log.specs.Format.{block, Entry, IsOpened, front}
use Rattle.commit_log.specs.Texts.{OpensTexts, OpensOneText, PutLeaves, EnterLeaves}
use Rattle.commit_log.specs.Log.{IsSettled}
use Rattle.commit_log.proofs.Logs.{all_push, front-push, opens_closed, put_behind, put_gate}
use Rattle.commit_log.proofs.One.{opens_one}

module _ (bytes : List ℕ) (now : Moment) (end count : ℕ) (s : IsSettled bytes now end count) (texts : List (List ℕ)) (o : OpensTexts bytes texts) (text piece : List ℕ) (piece_is : piece ≡ block text ++ 0 ∷ []) where
  pub texts_are : map (λ e. e.1) s.entries ≡ texts
  texts_are = opens_one bytes _ _ (opens_closed s.entries s.opened s.rest bytes s.whole) o

  -- while the block is put behind the gate
  pub first_put : (image : List ℕ) → PutLeaves bytes (end + 1) piece image → OpensOneText texts text image
  first_put image p = inl (subst (λ (ts : List (List ℕ)). OpensTexts image ts) texts_are
      (put_behind s.entries s.opened s.rest piece image end s.end_is (subst (λ (l : List ℕ). PutLeaves l (end + 1) piece image) s.whole p)))

  abbrev pub behind : List ℕ
  behind = drop (end + 1 + length piece) (front s.entries ++ 0 ∷ [] ++ s.rest)

  -- what stands then
  pub staged : (new : List ℕ) → new ≡ overwritten bytes (end + 1) piece → new ≡ front s.entries ++ 0 ∷ (block text ++ 0 ∷ behind)
  staged new e =
      let F = front s.entries ++ 0 ∷ [] in
      let size : end + 1 ≡ length F = omega (arith, s.end_is, length-append (front s.entries) (0 ∷ [])) in
      let regroup : bytes ≡ F ++ s.rest = s.whole ∙ sym (append_assoc (front s.entries) (0 ∷ []) s.rest) in
      let more = drop (end + 1 + length piece) (F ++ s.rest) in
      e ∙ ap (λ (l : List ℕ). overwritten l (end + 1) piece) regroup ∙ overwritten_behind F s.rest piece (end + 1) size ∙ append_assoc F piece more ∙ append_assoc (front s.entries) (0 ∷ []) (piece ++ more)
      ∙ ap (λ (l : List ℕ). front s.entries ++ 0 ∷ (l ++ more)) piece_is ∙ ap (λ (l : List ℕ). front s.entries ++ 0 ∷ l) (append_assoc (block text) (0 ∷ []) more)

  -- while the gate is opened
  pub second_put : (image : List ℕ) → length text < 2 ^ 64 → PutLeaves (overwritten bytes (end + 1) piece) end (1 ∷ []) image → OpensOneText texts text image
  second_put image size p = subst (λ (ts : List (List ℕ)). OpensOneText ts text image) texts_are
      (put_gate s.entries s.opened text behind image end size s.end_is (subst (λ (l : List ℕ). PutLeaves l end (1 ∷ []) image) (staged _ refl) p))

  pub entering : length text < 2 ^ 64 → (image : List ℕ) → EnterLeaves bytes end piece image → OpensOneText texts text image
  entering size image (inl p) = first_put image p
  entering size image (inr p) = second_put image size p

  -- a settled log with one entry more
  pub done : (new : List ℕ) (m : Moment) → new ≡ overwritten (overwritten bytes (end + 1) piece) end (1 ∷ []) → m ≡ settled new → length text < 2 ^ 64 → IsSettled new m (end + length piece) (count + 1)
  done new m f durable size = record {
    entries = s.entries ++ (1, text) ∷ [];
    opened = all_push IsOpened s.entries (1, text) s.opened (record { gate = omega arith; size = size });
    rest = behind;
    whole = f ∙ ap (λ (l : List ℕ). overwritten l end (1 ∷ [])) (staged _ refl) ∙ overwritten_byte (front s.entries) (block text ++ 0 ∷ behind) end 0 1 s.end_is
        ∙ sym (append_assoc (front s.entries) (1 ∷ block text) (0 ∷ behind)) ∙ ap (λ (l : List ℕ). l ++ 0 ∷ behind) (sym (front-push s.entries (1, text)));
    end_is = ap (λ (n : ℕ). end + n) (ap length piece_is ∙ length-append (block text) (0 ∷ [])) ∙ omega (arith, s.end_is, length-append (front s.entries) (1 ∷ block text)) ∙ sym (ap length (front-push s.entries (1, text)));
    count_is = omega (arith, s.count_is, length-append s.entries ((1, text) ∷ []));
    durable = durable;
  }

  pub done_opens : (new : List ℕ) → new ≡ overwritten (overwritten bytes (end + 1) piece) end (1 ∷ []) → length text < 2 ^ 64 → OpensTexts new (texts ++ text ∷ [])
  unfolding done
  done_opens new f size =
      let d = done new (settled new) f refl size in
      record {
        entries = d.entries;
        opened = d.opened;
        texts_are = map-append (λ (x : Entry). x.1) s.entries ((1, text) ∷ []) ∙ ap (λ (ts : List (List ℕ)). ts ++ text ∷ []) texts_are;
        rest = d.rest;
        whole = d.whole;
      }
