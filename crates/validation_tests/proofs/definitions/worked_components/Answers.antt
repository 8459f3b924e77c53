use Rattle.validation_tests.proofs.Components.{type_examples, count_examples, bound_examples, text_examples, language_examples, pair_examples, logic_examples, qualified_examples, other_examples, property_example}
use Rattle.validation_tests.proofs.definitions.worked_components.Goals as goal

pub returns-clause-types : goal.returns-clause-types
returns-clause-types c = type_examples

pub returns-clause-counts : goal.returns-clause-counts
returns-clause-counts c = count_examples

pub returns-clause-bounds : goal.returns-clause-bounds
returns-clause-bounds c = bound_examples

pub returns-clause-texts : goal.returns-clause-texts
returns-clause-texts c = text_examples

pub returns-clause-languages : goal.returns-clause-languages
returns-clause-languages c = language_examples

pub returns-clause-pairs : goal.returns-clause-pairs
returns-clause-pairs c = pair_examples

pub returns-clause-logic : goal.returns-clause-logic
returns-clause-logic c = logic_examples

pub returns-clause-qualified : goal.returns-clause-qualified
returns-clause-qualified c = qualified_examples

pub returns-clause-others : goal.returns-clause-others
returns-clause-others c = other_examples

pub returns-clause-property : goal.returns-clause-property
returns-clause-property c = property_example
