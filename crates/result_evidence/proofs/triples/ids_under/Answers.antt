use Rattle.std.proofs.Common.{◌≡◌, ◌∙◌, ℕ, map, sym, ap, subst}
use Rattle.std.specs.Ordering.{nat_cmp}
use Rattle.std.proofs.lemmas.Result.{IfOk-weaker}
use Rattle.collections.specs.Listings.{IsListing}
use Rattle.rdf_model.specs.declared.look.Look.{Look}
use Rattle.rdf_model.specs.Numbers.{IsFound}
use Rattle.result_evidence.specs.Standing.{CollectsMatches, with_edge, with_object, with_subject}
use Rattle.result_evidence.proofs.Matched.{any_matches, in_matches, out_matches}
use Rattle.result_evidence.proofs.triples.ids_under.Goals as goal

pub returns-in_ok-objects-in-Out : goal.returns-in_ok-objects-in-Out
returns-in_ok-objects-in-Out g c =
    let ids = g.R.Triples.triples c.args.graph.now in
    let x = c.in-Out.subject in
    let p = c.in-Out.predicate in
    let objects = c.in_ok-objects-in-Out.objects.items in
    IfOk-weaker c.with_objects.result (λ found. found.items ≡ map (with_object x p) c.as_slice.result.now) (λ found. CollectsMatches ids c.args.look.now found.items)
    (λ found e. subst (λ (l : Look ℕ). CollectsMatches ids l found.items) (sym c.in-Out.is) (out_matches ids x p objects found.items
    (subst (λ (l : Look ℕ). IsListing nat_cmp (IsFound l ids) objects) c.in-Out.is c.in_ok-objects-in-Out.ensures) (e ∙ ap (map (with_object x p)) c.as_slice.ensures.value))) c.with_objects.ensures

pub returns-in_ok-subjects-in-In : goal.returns-in_ok-subjects-in-In
returns-in_ok-subjects-in-In g c =
    let ids = g.R.Triples.triples c.args.graph.now in
    let p = c.in-In.predicate in
    let o = c.in-In.object in
    let subjects = c.in_ok-subjects-in-In.subjects.items in
    IfOk-weaker c.with_subjects.result (λ found. found.items ≡ map (with_subject p o) c.as_slice-in-In.result.now) (λ found. CollectsMatches ids c.args.look.now found.items)
    (λ found e. subst (λ (l : Look ℕ). CollectsMatches ids l found.items) (sym c.in-In.is) (in_matches ids p o subjects found.items
    (subst (λ (l : Look ℕ). IsListing nat_cmp (IsFound l ids) subjects) c.in-In.is c.in_ok-subjects-in-In.ensures) (e ∙ ap (map (with_subject p o)) c.as_slice-in-In.ensures.value))) c.with_subjects.ensures

pub returns-in_ok-edges-in-OutAny : goal.returns-in_ok-edges-in-OutAny
returns-in_ok-edges-in-OutAny g c =
    let ids = g.R.Triples.triples c.args.graph.now in
    let x = c.in-OutAny.subject in
    IfOk-weaker c.with_edges.result (λ found. found.items ≡ map (with_edge x) c.as_slice-in-OutAny.result.now) (λ found. CollectsMatches ids c.args.look.now found.items)
    (λ found e. subst (λ (l : Look ℕ). CollectsMatches ids l found.items) (sym c.in-OutAny.is) (any_matches ids x c.in_ok-edges-in-OutAny.edges.items found.items
    c.in_ok-edges-in-OutAny.ensures (e ∙ ap (map (with_edge x)) c.as_slice-in-OutAny.ensures.value))) c.with_edges.ensures
