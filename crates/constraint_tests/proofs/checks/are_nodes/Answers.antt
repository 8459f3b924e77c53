use Rattle.constraint_tests.proofs.checks.are_nodes.Goals as goal

pub returns : goal.returns
returns c = λ t. record { ascending = c.requires; named = c.are_named.ensures t }
