use Rattle.shape_syntax.proofs.list.is_list_end.Goals as goal

pub returns-then-is_rdf_nil : goal.returns-then-is_rdf_nil
returns-then-is_rdf_nil c = (
  λ h. let neither = c.has_neither.ensures.0 h in (c.is_rdf_nil.ensures.0 c.if-is_rdf_nil.true, neither.0, neither.1),
  λ e. c.has_neither.ensures.1 (e.1, e.2),
)
