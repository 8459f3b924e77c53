use Rattle.std.proofs.Common.{ℕ, List, Option, Some, None, subst, sym}
use Rattle.path_ast.specs.declared.path.Path.{Path}
use Rattle.path_eval.specs.Naming.{NumberedEach}
use Rattle.reverse_walk.specs.Walkers.{AddsBackReadsOfSome, AreWalkersToSome}
use Rattle.focus_affected.specs.Finding.{FindsFrom, WhereNodes}
use Rattle.focus_affected.proofs.Found.{found_back, found_here}
use Rattle.focus_affected.proofs.finding.found_from.Goals as goal

pub returns-in-None-clause-found : goal.returns-in-None-clause-found
returns-in-None-clause-found g c =
    let ids = g.R.Triples.triples c.args.graph.now in
    let nodes = c.args.nodes.items in
    let old = c.args.footprint.now in
    subst (λ (w : Option (Path ℕ)). WhereNodes ids w nodes (λ terms. FindsFrom terms ids w nodes nodes old old)) (sym c.in-None.is) (found_here ids nodes old)

pub returns-in_ok-back_from-in-Some-clause-found : goal.returns-in_ok-back_from-in-Some-clause-found
returns-in_ok-back_from-in-Some-clause-found g c =
    let ids = g.R.Triples.triples c.args.graph.now in
    let path = c.in-Some.path in
    let nodes = c.args.nodes.items in
    let found = c.in_ok-back_from-in-Some.field-0.items in
    let old = c.args.footprint.now in
    let new = c.back_from.new.footprint in
    let walk = subst (λ (ns : List ℕ). NumberedEach ids path ns (λ terms. AreWalkersToSome terms ids path ns found)) c.deref.ensures.value c.in_ok-back_from-in-Some.ensures.walkers in
    let look = subst (λ (ns : List ℕ). NumberedEach ids path ns (λ terms. AddsBackReadsOfSome terms ids path ns old new)) c.deref.ensures.value c.in_ok-back_from-in-Some.ensures.looks in
    subst (λ (w : Option (Path ℕ)). WhereNodes ids w nodes (λ terms. FindsFrom terms ids w nodes found old new)) (sym c.in-Some.is) (found_back ids path nodes found old new walk look)
