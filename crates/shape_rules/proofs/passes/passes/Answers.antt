use Rattle.shape_rules.proofs.passes.passes.Goals as goal

pub is_path-requires : goal.is_path-requires
is_path-requires c = rw c.indexed-indexed.ensures.value c.survey.ensures.paths

pub returns-in-List : goal.returns-in-List
returns-in-List c = rw c.in-List.is (rw c.indexed-indexed.ensures.value at c.is_list.ensures)

pub returns-in-ListOfIris : goal.returns-in-ListOfIris
returns-in-ListOfIris c = rw c.in-ListOfIris.is (rw c.indexed-indexed.ensures.value at c.are_iris.ensures)
