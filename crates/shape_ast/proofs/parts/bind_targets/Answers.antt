use Rattle.std.proofs.Common.{◌<◌, length, map, arith, sym, subst}
use Rattle.std.proofs.lemmas.List.{length-map}
use Rattle.std.proofs.lemmas.List.Elements.{All-push}
use Rattle.rdf_model.specs.declared.term.Term.{Term}
use Rattle.rdf_model.specs.Numbers.{term_at}
use Rattle.path_ast.specs.PathReadings.{IsNamed}
use Rattle.path_ast.proofs.ReadItems.{map_more, read_at}
use Rattle.shape_ast.specs.declared.target.Target.{Target}
use Rattle.shape_ast.specs.Readings.{HoldsOfTarget, read_target}
use Rattle.shape_ast.proofs.parts.bind_targets.Goals as goal

pub bind_target-requires : goal.bind_target-requires
bind_target-requires g c = subst (λ (t : Target Term). HoldsOfTarget (IsNamed (g.N.Names.terms c.args.names.now)) t) (sym c.target-item.is) (c.requires c.loop-target.target-index c.target-item.result c.loop-target-test.true)

pub loop-target-preserved : goal.loop-target-preserved
loop-target-preserved g c =
    let terms = g.N.Names.terms c.args.names.now in
    let all = c.args.targets.now in
    let i = c.loop-target.target-index in
    let t = c.target-item.result in
    let within : i < length (map (read_target (λ (x : Term). x)) all) = omega (arith, c.loop-target-test.true, length-map all (read_target (λ (x : Term). x))) in
    rw c.in_ok-push.ensures.ok (
      All-push (HoldsOfTarget (λ n. n < length terms)) c.loop-target.bound c.bind_target.result c.loop-target.invariant.0 c.bind_target.ensures.bound,
      map_more (read_target (term_at terms)) c.loop-target.bound (map (read_target (λ (x : Term). x)) all) i c.bind_target.result (read_target (λ (x : Term). x) t) c.loop-target.invariant.1 within (read_at (read_target (λ (x : Term). x)) all i t c.loop-target-test.true c.target-item.is) c.bind_target.ensures.target,
    )
