use Rattle.shape_plans.proofs.alike.is_same_look.Goals as goal

pub returns-then-is_same_kind : goal.returns-then-is_same_kind
returns-then-is_same_kind c = λ same terms i. record { way = c.is_same_way.ensures same terms i; kind = c.is_same_kind.ensures c.if-is_same_kind.true terms i }
