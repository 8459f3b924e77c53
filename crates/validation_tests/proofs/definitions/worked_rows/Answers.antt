use Rattle.validation_tests.proofs.Examples.{node_kind_example, min_count_example, count_example, forbidden_example}
use Rattle.validation_tests.proofs.definitions.worked_rows.Goals as goal

pub returns-clause-node_kind : goal.returns-clause-node_kind
returns-clause-node_kind c = node_kind_example

pub returns-clause-min_count : goal.returns-clause-min_count
returns-clause-min_count c = min_count_example

pub returns-clause-count : goal.returns-clause-count
returns-clause-count c = count_example

pub returns-clause-forbidden : goal.returns-clause-forbidden
returns-clause-forbidden c = forbidden_example
