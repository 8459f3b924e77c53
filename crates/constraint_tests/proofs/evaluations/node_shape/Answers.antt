use Rattle.std.proofs.Common.{◌≡◌, ◌∙◌, ◌<◌, ℕ, zero, suc, List, [], ◌∷◌, ◌++◌, length, false, ap, arith, subst, sym, None}
use Rattle.std.specs.List.{All}
use Rattle.rdf_model.specs.declared.term.Term.{Term}
use Rattle.path_ast.specs.PathReadings.{IsNamed}
use Rattle.shape_ast.specs.declared.shape.Shape.{Shape}
use Rattle.shape_ast.specs.Readings.{AreNamed, HoldsOfShape, HoldsOfTarget}
use Rattle.shape_ast.specs.Standing.{AreBuilt, IsBuilt}
use Rattle.constraint_tests.proofs.evaluations.node_shape.Goals as goal

none : {X : Type 0} (P : X → Type 0) (xs : List X) → xs ≡ [] → All P xs
none P xs e k d lt = let many = ap length e in absurd (omega (arith, lt, many))

one : {X : Type 0} (P : X → Type 0) (x : X) → P x → All P (x ∷ [])
one P x p zero d lt = p
one P x p (suc k) d lt = absurd (omega (arith, lt))

pub returns-clause-named : goal.returns-clause-named
returns-clause-named c = λ terms has all.
    let shape : Shape Term = record { node = c.args.node; path = None; is_deactivated = false; severity = None; messages = c.new.result; targets = c.new-2.result; constraints = c.args.constraints; pattern = None; flags = None; properties = c.new-3.result; qualified = None; siblings = c.new-4.result; ignored = c.new-5.result } in
    let is = c.in_ok-push.ensures.ok ∙ ap (λ (ss : List (Shape Term)). ss ++ shape ∷ []) c.new-shapes.ensures in
    subst (λ (ss : List (Shape Term)). AreNamed terms ss) (sym is) (one (HoldsOfShape (IsNamed terms) 1) shape (record {
      node = has;
      path = tt;
      severity = tt;
      messages = none (IsNamed terms) c.new.result c.new.ensures;
      targets = none (HoldsOfTarget (IsNamed terms)) c.new-2.result c.new-2.ensures;
      constraints = all;
      pattern = tt;
      flags = tt;
      properties = none (λ (n : ℕ). n < 1) c.new-3.result c.new-3.ensures;
      qualified = tt;
      siblings = none (λ (n : ℕ). n < 1) c.new-4.result c.new-4.ensures;
      ignored = none (IsNamed terms) c.new-5.result c.new-5.ensures;
    }))

pub returns-clause-built : goal.returns-clause-built
returns-clause-built c =
    let shape : Shape Term = record { node = c.args.node; path = None; is_deactivated = false; severity = None; messages = c.new.result; targets = c.new-2.result; constraints = c.args.constraints; pattern = None; flags = None; properties = c.new-3.result; qualified = None; siblings = c.new-4.result; ignored = c.new-5.result } in
    let is = c.in_ok-push.ensures.ok ∙ ap (λ (ss : List (Shape Term)). ss ++ shape ∷ []) c.new-shapes.ensures in
    subst (λ (ss : List (Shape Term)). AreBuilt (λ t. t) ss) (sym is) (one (IsBuilt (λ t. t)) shape tt)
