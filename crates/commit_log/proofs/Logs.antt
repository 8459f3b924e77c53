-- What torn logs open to.
use Rattle.std.proofs.Common.{◌≡◌, ◌≢◌, inl, inr, ℕ, ◌+◌, ◌<◌, ◌^◌, List, [], ◌∷◌, ◌++◌, length, map, drop, get_or, refl, sym, ◌∙◌, ap, subst, arith, append_assoc, length-append}
use Rattle.std.proofs.lemmas.Bool.{cases_eq}
use Rattle.std.proofs.lemmas.List.{map-append, flat_map_more}
use Rattle.std.specs.List.{AllByRecursion}
use Rattle.disk.specs.Crashes.{Moment, Leaves, EachCrash, settled}
use Rattle.disk.proofs.Torn.{torn_behind, torn_byte, overwritten_behind, overwritten_byte}
use Rattle.commit_log.specs.Format.{header, block, Entry, spelled, IsOpened, front}
use Rattle.commit_log.specs.Texts.{OpensTexts, OpensOneText, PutLeaves}
use Rattle.commit_log.specs.Log.{IsSettled}

pub all_push : {X : Type 0} (P : X → Type 0) (xs : List X) (x : X) → AllByRecursion P xs → P x → AllByRecursion P (xs ++ x ∷ [])
all_push P [] x a p = (p, tt)
all_push P (y ∷ xs) x a p = (a.0, all_push P xs x a.1 p)

pub front-push : (es : List Entry) (e : Entry) → front (es ++ e ∷ []) ≡ front es ++ spelled e
front-push es e = sym (flat_map_more spelled header es e)

module _ (es : List Entry) (opened : AllByRecursion IsOpened es) where
  -- behind the closed gate any bytes may stand
  pub opens_closed : (rest image : List ℕ) → image ≡ front es ++ 0 ∷ rest → OpensTexts image (map (λ e. e.1) es)
  opens_closed rest image e = record { entries = es; opened = opened; texts_are = refl; rest = rest; whole = e }

  -- one more entry
  pub opens_next : (gate : ℕ) (text rest image : List ℕ) → gate ≢ 0 → length text < 2 ^ 64 → image ≡ front es ++ gate ∷ block text ++ 0 ∷ rest → OpensTexts image (map (λ e. e.1) es ++ text ∷ [])
  opens_next gate text rest image ne size e = record {
    entries = es ++ (gate, text) ∷ [];
    opened = all_push IsOpened es (gate, text) opened (record { gate = ne; size = size });
    texts_are = map-append (λ (x : Entry). x.1) es ((gate, text) ∷ []);
    rest = rest;
    whole = e ∙ ap (λ (l : List ℕ). l ++ 0 ∷ rest) (sym (front-push es (gate, text)));
  }

  -- while a piece is put behind the closed gate
  pub put_behind : (rest piece image : List ℕ) (at : ℕ) → at ≡ length (front es) → PutLeaves (front es ++ 0 ∷ rest) (at + 1) piece image → OpensTexts image (map (λ e. e.1) es)
  put_behind rest piece image at e p =
      let F = front es ++ 0 ∷ [] in
      let size : at + 1 ≡ length F = omega (arith, e, length-append (front es) (0 ∷ [])) in
      let regroup : front es ++ 0 ∷ rest ≡ F ++ rest = sym (append_assoc (front es) (0 ∷ []) rest) in
      elim (subst (λ (l : List ℕ). PutLeaves l (at + 1) piece image) regroup p) [
        | inl torn ↦ opens_closed (drop (at + 1) image) image (torn_behind F rest image (at + 1) (length piece) size torn ∙ append_assoc (front es) (0 ∷ []) (drop (at + 1) image))
        | inr whole ↦
            let more = drop (at + 1 + length piece) (F ++ rest) in
            opens_closed (piece ++ more) image (whole ∙ overwritten_behind F rest piece (at + 1) size ∙ append_assoc F piece more ∙ append_assoc (front es) (0 ∷ []) (piece ++ more))
      ]

  -- while the gate before a whole block is opened
  pub put_gate : (text rest image : List ℕ) (at : ℕ) → length text < 2 ^ 64 → at ≡ length (front es) → PutLeaves (front es ++ 0 ∷ (block text ++ 0 ∷ rest)) at (1 ∷ []) image → OpensOneText (map (λ e. e.1) es) text image
  put_gate text rest image at size e (inl torn) =
      let back = block text ++ 0 ∷ rest in
      let gate = get_or image at 0 in
      let more = drop (length back) (drop (at + 1) image) in
      let is : image ≡ front es ++ gate ∷ back ++ more = torn_byte (front es) back image at 0 e torn in
      elim (cases_eq gate 0) [
        | inl shut ↦ inl (opens_closed (back ++ more) image (is ∙ append_assoc (front es) (gate ∷ back) more ∙ ap (λ (g : ℕ). front es ++ g ∷ (back ++ more)) shut))
        | inr ajar ↦ inr (opens_next gate text (rest ++ more) image ajar size
            (is ∙ ap (λ (l : List ℕ). l ++ more) (sym (append_assoc (front es) (gate ∷ block text) (0 ∷ rest))) ∙ append_assoc (front es ++ gate ∷ block text) (0 ∷ rest) more))
      ]
  put_gate text rest image at size e (inr whole) =
      inr (opens_next 1 text rest image (omega arith) size (whole ∙ overwritten_byte (front es) (block text ++ 0 ∷ rest) at 0 1 e ∙ sym (append_assoc (front es) (1 ∷ block text) (0 ∷ rest))))

-- what is durable opens to the same after a crash
pub durable_stays : (P : List ℕ → Type 0) (bytes : List ℕ) (now : Moment) → now ≡ settled bytes → P bytes → EachCrash P now
durable_stays P bytes now durable p image l = subst P (sym (subst (λ (m : Moment). Leaves m image) durable l)) p

-- a settled log opens to the texts of its entries
pub as_opens : (bytes : List ℕ) (now : Moment) (end count : ℕ) (s : IsSettled bytes now end count) → OpensTexts bytes (map (λ e. e.1) s.entries)
as_opens bytes now end count s = opens_closed s.entries s.opened s.rest bytes s.whole
