use Rattle.std.proofs.Common.{◌≡◌, ◌<◌, ℕ, List, length, get_or, subst, sym}
use Rattle.shape_ast.specs.declared.shape.Shape.{Shape}
use Rattle.shape_ast.specs.declared.target.Target.{Target as Declaration}
use Rattle.shape_ast.specs.Readings.{HoldsOfShape}
use Rattle.target_nodes.specs.TargetNumbers.{AddsDeclaredLooks, AtNode, Declared, IsDeclaredAnswer}
use Rattle.target_nodes.proofs.Places.{adds_looks, is_answer}
use Rattle.target_nodes.proofs.shapes.is_target.Goals as goal

pub returns-clause-answer : goal.returns-clause-answer
returns-clause-answer g c = λ terms numbering numbered named bound.
    let ids = g.R.Triples.triples c.args.graph.now in
    let shapes = c.args.bound.now.shapes in
    let sh = c.index-as_slice-shape.result in
    let node = c.args.node in
    let answer = c.in_ok-is_declared_target.field-0 in
    let is : sh ≡ get_or shapes c.args.shape sh = subst (λ (all : List (Shape ℕ)). sh ≡ get_or all c.args.shape sh) c.as_slice.ensures c.index-as_slice-shape.is in
    let own = subst (λ (s : Shape ℕ). HoldsOfShape (λ n. n < length terms) (length shapes) s) (sym is) (bound c.args.shape sh c.requires) in
    let told = subst (λ (ts : List (Declaration ℕ)). Declared ids c.args.words ts sh.node (AtNode node (λ terms. IsDeclaredAnswer terms ids ts sh.node node answer))) c.as_slice-2.ensures c.in_ok-is_declared_target.ensures.answer in
    is_answer terms ids shapes c.args.shape sh c.requires is node answer (told terms numbering numbered named own.targets own.node)

pub returns-clause-looks : goal.returns-clause-looks
returns-clause-looks g c = λ terms numbering numbered named bound.
    let ids = g.R.Triples.triples c.args.graph.now in
    let shapes = c.args.bound.now.shapes in
    let sh = c.index-as_slice-shape.result in
    let node = c.args.node in
    let old = c.args.footprint.now in
    let new = c.is_declared_target.new.footprint in
    let is : sh ≡ get_or shapes c.args.shape sh = subst (λ (all : List (Shape ℕ)). sh ≡ get_or all c.args.shape sh) c.as_slice.ensures c.index-as_slice-shape.is in
    let own = subst (λ (s : Shape ℕ). HoldsOfShape (λ n. n < length terms) (length shapes) s) (sym is) (bound c.args.shape sh c.requires) in
    let added = subst (λ (ts : List (Declaration ℕ)). Declared ids c.args.words ts sh.node (AtNode node (λ terms. AddsDeclaredLooks terms ids ts node old new))) c.as_slice-2.ensures c.in_ok-is_declared_target.ensures.looks in
    adds_looks terms ids shapes c.args.shape sh c.requires is node old new (added terms numbering numbered named own.targets own.node)

pub returns-clause-kept : goal.returns-clause-kept
returns-clause-kept g c = c.is_declared_target.ensures.kept
