use Rattle.shape_syntax.proofs.list.cell_of.Goals as goal

pub returns-in-None-only_rest : goal.returns-in-None-only_rest
returns-in-None-only_rest c = λ member rest h. c.in-None-only_rest.ensures rest h.1

pub returns-in-None : goal.returns-in-None
returns-in-None c = λ member rest h. c.in-None.ensures member h.0
