use Rattle.std.proofs.Common.{◌≡◌, ◌∙◌, Option, Some, ap, sym}
use Rattle.focus_affected.specs.Plans.{way_of}
use Rattle.shape_plans.proofs.Numbering.{ways_same}
use Rattle.shape_plans.proofs.alike.is_same_way.Goals as goal

pub returns-in-Some-Some : goal.returns-in-Some-Some
returns-in-Some-Some c = λ same terms.
    ap (way_of terms) c.in-Some-Some.is-0 ∙ (ways_same c.in-Some-Some.way c.in-Some-Some.other (c.is_same_path.ensures same) terms ∙ sym (ap (way_of terms) c.in-Some-Some.is-1))
