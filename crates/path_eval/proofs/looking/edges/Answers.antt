use Rattle.std.proofs.Common.{◌≡◌, ℕ, ◌+◌, List, [], ◌∷◌, ◌++◌, take, get_or, arith, inl, sym, subst}
use Rattle.std.specs.List.{Contains}
use Rattle.std.specs.Ordering.{nat_cmp}
use Rattle.std.proofs.lemmas.List.{take_all}
use Rattle.rdf_model.specs.declared.look.Look.{Look}
use Rattle.rdf_model.specs.Numbers.{IsFound}
use Rattle.path_eval.specs.Relations.{Adds, FromSome}
use Rattle.path_eval.specs.NumberedWalks.{look_from}
use Rattle.path_eval.proofs.Growing.{adds_one, adds_same, adds_then, from_nothing, listing_same, some_more}
use Rattle.path_eval.proofs.looking.edges.Goals as goal

pub loop-start-preserved : goal.loop-start-preserved
loop-start-preserved g c =
    let xs = c.args.starts.now in
    let i = c.loop-start.start-index in
    let R = λ (x y : ℕ). IsFound (look_from c.args.reversed c.args.predicate x) (g.R.Triples.triples c.args.graph.now) y in
    let L = λ (x : ℕ) (look : Look ℕ). look ≡ look_from c.args.reversed c.args.predicate x in
    let more : Adds c.loop-start.found.items c.add_found.new.found.items (R (get_or xs i 0)) =
    subst (λ (look : Look ℕ). Adds c.loop-start.found.items c.add_found.new.found.items (IsFound look (g.R.Triples.triples c.args.graph.now))) c.look_for-look.ensures.look c.in_ok-add_found.ensures.found in
    record {
      found = adds_same [] c.add_found.new.found.items _ (FromSome (take (i + 1) xs) R) (some_more xs i R (omega arith))
          (adds_then [] c.loop-start.found.items c.add_found.new.found.items (FromSome (take i xs) R) (R (get_or xs i 0)) c.loop-start.invariant.found more);
      looks = adds_same c.args.footprint.now c.add.new.self _ (FromSome (take (i + 1) xs) L) (some_more xs i L (omega arith))
          (adds_then c.args.footprint.now c.loop-start.footprint c.add.new.self (FromSome (take i xs) L) (L (get_or xs i 0)) c.loop-start.invariant.looks
          (subst (λ (l : List (Look ℕ)). Adds c.loop-start.footprint l (L (get_or xs i 0))) (sym c.in_ok-add.ensures.ok)
          (subst (λ (look : Look ℕ). Adds c.loop-start.footprint (c.loop-start.footprint ++ c.look_for-look.result ∷ []) (λ l. l ≡ look)) c.look_for-look.ensures.look (adds_one c.loop-start.footprint c.look_for-look.result))));
    }

pub returns-clause-followed : goal.returns-clause-followed
returns-clause-followed g c =
    let xs = c.args.starts.now in
    let R = λ (x y : ℕ). IsFound (look_from c.args.reversed c.args.predicate x) (g.R.Triples.triples c.args.graph.now) y in
    let L = λ (x : ℕ) (look : Look ℕ). look ≡ look_from c.args.reversed c.args.predicate x in
    let all = take_all c.loop-start.start-index xs (omega arith) in
    record {
      listed = listing_same nat_cmp (Contains c.loop-start.found.items) (FromSome xs R)
          (from_nothing c.loop-start.found.items (FromSome xs R) (subst (λ (l : List ℕ). Adds [] c.loop-start.found.items (FromSome l R)) all c.loop-start.invariant.found))
          c.in_ok-sorted_once.field-0.items c.in_ok-sorted_once.ensures;
      looks = subst (λ (l : List ℕ). Adds c.args.footprint.now c.loop-start.footprint (FromSome l L)) all c.loop-start.invariant.looks;
    }

-- the looks so far were added to what was there
pub returns-clause-kept : goal.returns-clause-kept
returns-clause-kept g c = λ look h. (c.loop-start.invariant.looks look).1 (inl h)

pub returns-in_err-add_found-clause-kept : goal.returns-in_err-add_found-clause-kept
returns-in_err-add_found-clause-kept g c = λ look h. (c.loop-start.invariant.looks look).1 (inl h)

pub returns-in_err-add-clause-kept : goal.returns-in_err-add-clause-kept
returns-in_err-add-clause-kept g c = λ look h. subst (λ (l : List (Look ℕ)). Contains l look) (sym c.in_err-add.ensures.err) ((c.loop-start.invariant.looks look).1 (inl h))

pub returns-in_err-sorted_once-clause-kept : goal.returns-in_err-sorted_once-clause-kept
returns-in_err-sorted_once-clause-kept g c = λ look h. (c.loop-start.invariant.looks look).1 (inl h)
