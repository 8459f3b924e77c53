-- Kept records applied in turn: how a run begins, goes on and ends.
use Rattle.std.proofs.Common.{◌≡◌, ◌∙◌, ◌<◌, ◌≤◌, ◌+◌, ℕ, List, [], ◌∷◌, ◌++◌, length, take, drop, suc, None, Some, refl, sym, ap, subst, arith, append-nil, drop-cons}
use Rattle.std.proofs.lemmas.List.{length-take-le, take-append-drop, take_all}
use Rattle.std.proofs.Math.Seq.{take-suc}
use Rattle.std.specs.Prelude.{◌≢◌, slice_index_or}
use Rattle.rdf_model.specs.declared.term.Term.{Term}
use Rattle.rdf_model.specs.declared.triple.Triple.{Triple}
use Rattle.record_text.specs.declared.record.Record.{Record}
use Rattle.follower.specs.declared.version.Version.{Version}
use Rattle.follower.specs.Records.{Fits, data_after, data_from, shapes_after, shapes_from}
use Rattle.follower.specs.Versions.{IsRun, IsRunSoFar, IsVersion}
use Rattle.follower.proofs.Sequences.{data_joined, fit_joined, numbered_joined, shapes_joined, versions_joined}

pub run_more : (terms : List Term) (number : ℕ) (g : List Triple) (first x current current' : Version) (moved moved' : List Record) (next : Record) (versions versions' : List Version) →
    IsRunSoFar terms number g first moved versions current → moved' ≡ moved ++ next ∷ [] → next.number ≡ number + length moved + 1 → Fits (data_from g moved) next →
    IsVersion terms (data_after (data_from g moved) next) (shapes_after (shapes_from first.shapes moved) next) x → versions' ≡ versions ++ x ∷ [] → current' ≡ x →
    IsRunSoFar terms number g first moved' versions' current'
run_more terms number g first x current current' moved moved' next versions versions' s m e f v vs c =
    let r = s.run in
    subst (λ (rs : List Record). IsRunSoFar terms number g first rs versions' current') (sym m) (record {
      run = record {
        numbered = numbered_joined (number + 1) (number + length moved + 1) moved (next ∷ []) (omega arith) r.numbered (e, tt);
        fit = fit_joined g moved (next ∷ []) r.fit (f, tt);
        more = r.more ++ x ∷ [];
        versions_are = vs ∙ ap (λ (ys : List Version). ys ++ x ∷ []) r.versions_are;
        each = versions_joined terms g first.shapes moved (next ∷ []) r.more (x ∷ []) r.each (v, tt);
      };
      current_is = subst (λ (y : Version). IsVersion terms (data_from g (moved ++ next ∷ [])) (shapes_from first.shapes (moved ++ next ∷ [])) y) (sym c)
          (subst (λ (h : List Triple). IsVersion terms h (shapes_from first.shapes (moved ++ next ∷ [])) x) (sym (data_joined g moved (next ∷ [])))
          (subst (λ (t : List Triple). IsVersion terms (data_after (data_from g moved) next) t x) (sym (shapes_joined first.shapes moved (next ∷ []))) v));
    })

-- a list before, at and behind one of its places
split_at : (xs : List Record) (i : ℕ) (x : Record) → i < length xs → x ≡ slice_index_or xs i x → xs ≡ take i xs ++ x ∷ drop (suc i) xs
split_at xs i x lt is = sym (take-append-drop i xs) ∙ ap (λ (ys : List Record). take i xs ++ ys) (drop-cons xs i x lt ∙ ap (λ (y : Record). y ∷ drop (suc i) xs) (sym is))

-- it ends at the end, at a gap, and at a record that misfits
pub run_done : (terms : List Term) (number i : ℕ) (g : List Triple) (first current : Version) (kept : List Record) (versions : List Version) → IsRunSoFar terms number g first (take i kept) versions current → length kept ≤ i →
    IsRun terms number g first kept versions None
run_done terms number i g first current kept versions s le = record { moved = take i kept; left = []; kept_is = sym (take_all i kept le) ∙ sym (append-nil (take i kept)); run = s.run; ends = tt }

module _ (terms : List Term) (number newest i : ℕ) (g : List Triple) (first current : Version) (kept : List Record) (next : Record) (versions : List Version) (s : IsRunSoFar terms number g first (take i kept) versions current)
    (lt : i < length kept) (is : next ≡ slice_index_or kept i next) (come : newest ≡ number + i) where
  size : length (take i kept) ≡ i
  size = length-take-le i kept (omega (arith, lt))

  pub run_gap : next.number ≢ newest + 1 → IsRun terms number g first kept versions None
  run_gap n = record { moved = take i kept; left = next ∷ drop (suc i) kept; kept_is = split_at kept i next lt is; run = s.run; ends = λ e. n (omega (arith, e, come, size)) }

  pub run_misfit : next.number ≡ newest + 1 → (Fits (data_from g (take i kept)) next → ⊥) → IsRun terms number g first kept versions (Some next.number)
  run_misfit n f = record {
    moved = take i kept;
    left = next ∷ drop (suc i) kept;
    kept_is = split_at kept i next lt is;
    run = s.run;
    ends = (next, drop (suc i) kept, refl, refl, omega (arith, n, come, size), f);
  }

  pub run_next : (j : ℕ) (x current' : Version) (versions' : List Version) → j ≡ i + 1 → next.number ≡ newest + 1 → Fits (data_from g (take i kept)) next →
      IsVersion terms (data_after (data_from g (take i kept)) next) (shapes_after (shapes_from first.shapes (take i kept)) next) x → versions' ≡ versions ++ x ∷ [] → current' ≡ x →
      IsRunSoFar terms number g first (take j kept) versions' current'
  run_next j x current' versions' e n f v vs c =
      let one : suc i ≡ j = omega (arith, e) in
      subst (λ (k : ℕ). IsRunSoFar terms number g first (take k kept) versions' current') one (run_more terms number g first x current current' (take i kept) (take (suc i) kept) next versions versions' s (take-suc kept i next lt ∙ ap (λ (y : Record). take i kept ++ y ∷ []) (sym is)) (omega (arith, n, come, size)) f v vs c)
