use Rattle.std.proofs.Common.{◌≡◌, ◌∙◌, ℕ, List, [], ◌∷◌, ◌++◌, ap, append_assoc, rules, subst, sym}
use Rattle.std.specs.Vec.Iter.{into_iter_items}
use Rattle.std.proofs.lemmas.List.{map-append}
use Rattle.rdf_model.specs.declared.look.Look.{Look}
use Rattle.rdf_model.specs.Numbers.{graph_of}
use Rattle.parallel_validate.specs.declared.pairs.CheckedRows.{CheckedRows}
use Rattle.parallel_validate.specs.PairsResults.{HaveRows}
use Rattle.threaded_check.specs.Findings.{AddsRowLooks, AreFound, RowLook}
use Rattle.threaded_check.specs.PermittedPairs.{pair_in, pairs_in}
use Rattle.threaded_check.specs.declared.pairs.PermittedPair.{PermittedPair}
use Rattle.threaded_check.proofs.Joining.{both_looks, both_rows, no_looks, no_rows}
use Rattle.threaded_check.proofs.Parts.{all_done, next_is_one}
use Rattle.threaded_check.proofs.evaluating.found_in.Goals as goal

pub loop-pair-init : goal.loop-pair-init
loop-pair-init g c =
    let e = c.args.evaluation.now in
    record {
      rest = search rules;
      rows = subst (λ (cs : List CheckedRows). HaveRows e.terms e.ids e.shapes [] cs) (sym c.in_ok-pairs.ensures.items) (no_rows e.terms e.ids e.shapes);
      looks = subst (λ (ls : List (Look ℕ)). AddsRowLooks e.terms e.ids e.shapes [] [] ls) (sym c.new-looks.ensures) (no_looks (RowLook (graph_of e.terms e.ids)) e.terms e.shapes []);
    }

pub checked_pair-requires : goal.checked_pair-requires
checked_pair-requires g c =
    let p = c.in-Some.pair in
    c.requires p (next_is_one c.loop-pair.yielded (into_iter_items c.loop-pair.pair-iterator) (into_iter_items c.next.new.self) c.args.share.pairs.items p c.in-Some.ensures.steps.0 c.loop-pair.invariant.rest)

pub loop-pair-preserved : goal.loop-pair-preserved
loop-pair-preserved g c =
    let e = c.args.evaluation.now in
    let done = c.loop-pair.yielded in
    let p = c.in-Some.pair in
    let one : pairs_in done ++ pair_in p ∷ [] ≡ pairs_in (done ++ p ∷ []) = sym (map-append pair_in done (p ∷ [])) in
    let before = c.loop-pair.invariant in
    let made = c.in_ok-checked.ensures in
    record {
      rest = append_assoc done (p ∷ []) (into_iter_items c.next.new.self) ∙ (ap (λ (ps : List PermittedPair). done ++ ps) (sym c.in-Some.ensures.steps.0) ∙ before.rest);
      rows = subst (λ (q : List (ℕ × ℕ) × List CheckedRows). HaveRows e.terms e.ids e.shapes q.0 q.1) (λ j. (one j, sym c.in_ok-push.ensures.items j))
          (both_rows e.terms e.ids e.shapes (pairs_in done) (pair_in p ∷ []) c.loop-pair.pairs.items (c.in_ok-checked.checked ∷ []) before.rows made.rows);
      looks = subst (λ (es : List (ℕ × ℕ)). AddsRowLooks e.terms e.ids e.shapes es [] c.checked_pair.new.footprint) one
          (both_looks (RowLook (graph_of e.terms e.ids)) e.terms e.shapes (pairs_in done) (pair_in p ∷ []) [] c.loop-pair.looks c.checked_pair.new.footprint before.looks made.looks);
    }

pub returns : goal.returns
returns g c =
    let e = c.args.evaluation.now in
    let left = c.loop-pair.pair-iterator in
    let found = c.loop-pair.invariant in
    subst (λ (ps : List PermittedPair). AreFound e.terms e.ids e.shapes (pairs_in ps) c.loop-pair.pairs.items c.loop-pair.looks)
    (all_done c.loop-pair.yielded (into_iter_items left) c.args.share.pairs.items (sym left.rest.ok.0 ∙ c.in-None.ensures.steps.0) found.rest)
    (record { rows = found.rows; looks = found.looks })
