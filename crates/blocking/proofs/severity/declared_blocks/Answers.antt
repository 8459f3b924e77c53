use Rattle.std.proofs.Common.{◌∙◌, Option, ap, codes, sym}
use Rattle.std.specs.Option.{unwrap_or}
use Rattle.rdf_model.specs.declared.term.Term.{Term}
use Rattle.shape_model.specs.Vocabulary.{sh}
use Rattle.store_model.specs.declared.event.BlockMode.TheVariants.{Violation}
use Rattle.store_model.specs.Blocking.{severity_blocks}
use Rattle.blocking.proofs.Severities.{default_blocks, told_blocks}
use Rattle.blocking.proofs.severity.declared_blocks.Goals as goal

pub returns-in-None : goal.returns-in-None
returns-in-None c = sym default_blocks ∙ ap (λ (o : Option Term). severity_blocks Violation (unwrap_or o (sh (codes "Violation")))) (sym c.in-None.is)

pub returns-in-Some : goal.returns-in-Some
returns-in-Some c = told_blocks c.in-Some.severity c.is_weak.result c.is_weak.ensures ∙ ap (λ (o : Option Term). severity_blocks Violation (unwrap_or o (sh (codes "Violation")))) (sym c.in-Some.is)
