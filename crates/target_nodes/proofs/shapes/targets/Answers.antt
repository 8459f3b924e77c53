use Rattle.std.proofs.Common.{◌≡◌, ◌<◌, ℕ, List, length, get_or, subst, sym}
use Rattle.shape_ast.specs.declared.shape.Shape.{Shape}
use Rattle.shape_ast.specs.declared.target.Target.{Target as Declaration}
use Rattle.shape_ast.specs.Readings.{HoldsOfShape}
use Rattle.target_nodes.specs.TargetNumbers.{AreDeclaredTargets, Declared}
use Rattle.target_nodes.proofs.Places.{all_below, lists_targets}
use Rattle.target_nodes.proofs.shapes.targets.Goals as goal

pub returns-clause-targets : goal.returns-clause-targets
returns-clause-targets g c = λ terms numbering numbered named bound.
    let ids = g.R.Triples.triples c.args.graph.now in
    let shapes = c.args.bound.now.shapes in
    let sh = c.index-as_slice-shape.result in
    let ns = c.in_ok-declared_targets.field-0.items in
    let is : sh ≡ get_or shapes c.args.shape sh = subst (λ (all : List (Shape ℕ)). sh ≡ get_or all c.args.shape sh) c.as_slice.ensures c.index-as_slice-shape.is in
    let own = subst (λ (s : Shape ℕ). HoldsOfShape (λ n. n < length terms) (length shapes) s) (sym is) (bound c.args.shape sh c.requires) in
    let found = subst (λ (ts : List (Declaration ℕ)). Declared ids c.args.words ts sh.node (λ terms. AreDeclaredTargets terms ids ts sh.node ns)) c.as_slice-2.ensures c.in_ok-declared_targets.ensures in
    lists_targets terms ids shapes c.args.shape sh c.requires is ns (found terms numbering numbered named own.targets own.node)

pub returns-clause-numbers : goal.returns-clause-numbers
returns-clause-numbers g c = λ terms numbering numbered named bound.
    let ids = g.R.Triples.triples c.args.graph.now in
    let shapes = c.args.bound.now.shapes in
    let sh = c.index-as_slice-shape.result in
    let ns = c.in_ok-declared_targets.field-0.items in
    let is : sh ≡ get_or shapes c.args.shape sh = subst (λ (all : List (Shape ℕ)). sh ≡ get_or all c.args.shape sh) c.as_slice.ensures c.index-as_slice-shape.is in
    let own = subst (λ (s : Shape ℕ). HoldsOfShape (λ n. n < length terms) (length shapes) s) (sym is) (bound c.args.shape sh c.requires) in
    let found = subst (λ (ts : List (Declaration ℕ)). Declared ids c.args.words ts sh.node (λ terms. AreDeclaredTargets terms ids ts sh.node ns)) c.as_slice-2.ensures c.in_ok-declared_targets.ensures in
    all_below terms ids sh ns (found terms numbering numbered named own.targets own.node)
