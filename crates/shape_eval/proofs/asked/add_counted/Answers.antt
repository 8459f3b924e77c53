use Rattle.std.proofs.Common.{ℕ, sym, subst}
use Rattle.std.specs.Prelude.{◌⊎◌, ◌↔◌, OnOk}
use Rattle.std.specs.List.{Contains}
use Rattle.shape_ast.specs.declared.component.TermComponent.{TermComponent}
use Rattle.shape_eval.specs.Told.{CountAsks}
use Rattle.shape_eval.proofs.asked.add_counted.Goals as goal

pub returns-in-QualifiedMinCount : goal.returns-in-QualifiedMinCount
returns-in-QualifiedMinCount c =
    subst (λ (k : TermComponent). OnOk c.add_qualified.result ((n : ℕ) → Contains c.add_qualified.new.places.items n ↔ (Contains c.args.places.now.items n ⊎ CountAsks c.args.shape.now k n))) (sym c.in-QualifiedMinCount.is) c.add_qualified.ensures

pub returns-in-QualifiedMaxCount : goal.returns-in-QualifiedMaxCount
returns-in-QualifiedMaxCount c =
    subst (λ (k : TermComponent). OnOk c.add_qualified-in-QualifiedMaxCount.result ((n : ℕ) → Contains c.add_qualified-in-QualifiedMaxCount.new.places.items n ↔ (Contains c.args.places.now.items n ⊎ CountAsks c.args.shape.now k n))) (sym c.in-QualifiedMaxCount.is) c.add_qualified-in-QualifiedMaxCount.ensures
