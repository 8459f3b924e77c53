-- What a crash leaves while a piece is put.
use Rattle.std.proofs.Common.{◌≡◌, ◌⊎◌, inl, inr, ℕ, ◌+◌, List, [], ◌∷◌, ◌++◌, length, refl, sym, ◌∙◌, subst}
use Rattle.disk.specs.Crashes.{Moment, History, LeavesBy, Leaves, Throughout, settled, written, synced, overwritten}
use Rattle.disk.proofs.Moments.{started, goes_on, joined, weaker}
use Rattle.disk.proofs.Torn.{same_torn}
use Rattle.commit_log.specs.Texts.{PutLeaves, EnterLeaves}
use Rattle.commit_log.specs.Log.{LeftOrRead}

module _ (h : History) (bytes : List ℕ) (at : ℕ) (piece : List ℕ) (durable : h.now ≡ settled bytes) where
  pub put_not_begun : (k : History) → k ≡ h → Throughout h k (PutLeaves bytes at piece)
  put_not_begun k e = subst (λ (x : History). Throughout h x (PutLeaves bytes at piece)) (sym e)
      (started (PutLeaves bytes at piece) h (λ image l. inl (same_torn bytes ((at, length piece) ∷ []) image (subst (λ (m : Moment). Leaves m image) durable l))))

  pub put_written : (k : History) → k ≡ written at (length piece) h → Throughout h k (PutLeaves bytes at piece)
  put_written k e = subst (λ (x : History). Throughout h x (PutLeaves bytes at piece)) (sym e)
      (goes_on (PutLeaves bytes at piece) h h _ (put_not_begun h refl)
      (λ image l. inl (subst (λ (m : Moment). LeavesBy m.durable (m.unsynced ++ (at, length piece) ∷ []) image) durable l)))

  pub put_failed : (k : History) → (k ≡ h) ⊎ (k ≡ written at (length piece) h) → Throughout h k (PutLeaves bytes at piece)
  put_failed k (inl e) = put_not_begun k e
  put_failed k (inr e) = put_written k e

  pub put_synced : (k m : History) (new : List ℕ) → k ≡ written at (length piece) h → new ≡ overwritten bytes at piece → m ≡ synced new k → Throughout h m (PutLeaves bytes at piece)
  put_synced k m new e b f = subst (λ (x : History). Throughout h x (PutLeaves bytes at piece)) (sym f)
      (goes_on (PutLeaves bytes at piece) h k _ (put_written k e) (λ image l. inr (l ∙ b)))

-- two puts in turn
pub entered : (a b c : History) (bytes mid : List ℕ) (gate : ℕ) (piece : List ℕ) → Throughout a b (PutLeaves bytes (gate + 1) piece) → mid ≡ overwritten bytes (gate + 1) piece
    → Throughout b c (PutLeaves mid gate (1 ∷ [])) → Throughout a c (EnterLeaves bytes gate piece)
entered a b c bytes mid gate piece s e t =
    joined (EnterLeaves bytes gate piece) a b c
    (weaker (PutLeaves bytes (gate + 1) piece) (EnterLeaves bytes gate piece) (λ image p. inl p) a b s)
    (weaker (PutLeaves mid gate (1 ∷ [])) (EnterLeaves bytes gate piece) (λ image p. inr (subst (λ (l : List ℕ). PutLeaves l gate (1 ∷ []) image) e p)) b c t)

-- two puts in turn, of which the second was begun
pub second_begun : (bytes mid new : List ℕ) (gate : ℕ) (piece : List ℕ) → mid ≡ overwritten bytes (gate + 1) piece → PutLeaves mid gate (1 ∷ []) new → EnterLeaves bytes gate piece new
second_begun bytes mid new gate piece e p = inr (subst (λ (l : List ℕ). PutLeaves l gate (1 ∷ []) new) e p)

-- while a disk is synced and read
pub not_synced : (h k : History) (bytes : List ℕ) → k ≡ h → Throughout h k (LeftOrRead h.now bytes)
not_synced h k bytes e = subst (λ (x : History). Throughout h x (LeftOrRead h.now bytes)) (sym e) (started (LeftOrRead h.now bytes) h (λ image l. inl l))

pub was_synced : (h k : History) (bytes : List ℕ) → k ≡ synced bytes h → Throughout h k (LeftOrRead h.now bytes)
was_synced h k bytes e = subst (λ (x : History). Throughout h x (LeftOrRead h.now bytes)) (sym e) (goes_on (LeftOrRead h.now bytes) h h (settled bytes) (not_synced h h bytes refl) (λ image l. inr l))
