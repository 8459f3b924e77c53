use Rattle.std.proofs.Common.{◌∙◌}
use Rattle.std.proofs.lemmas.List.Elements.{same_from_all_zip}
use Rattle.collections.proofs.sequence.SequenceClone.clone.Goals as goal

pub returns : goal.returns
returns g c = record { cases = same_from_all_zip _ c.self.inside.items.items c.in_ok-clone.field-0.items c.in_ok-clone.ensures.cases.0 (λ x y r. g.met.T.ExactClone.clone_is_equal x y r) ∙ c.self.view_is }
