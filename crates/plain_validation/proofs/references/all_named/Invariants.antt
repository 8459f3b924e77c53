use Rattle.std.proofs.Common.{take}
use Rattle.shape_model.specs.Vocabulary.{sh}
use Rattle.plain_terms.specs.Finds.{Finds, WithSome}
use Rattle.plain_validation.specs.References.{NamedReference}
use Rattle.plain_validation.proofs.references.all_named.Given as goal

abbrev pub invariant-loop-name : goal.invariant-loop-name
invariant-loop-name l = Finds (WithSome (take l.name-index l.names) (λ name. NamedReference l.shapes l.shape (sh name.now))) l.found.items
