use Rattle.literal_order.proofs.DayEnds.{ends_at_next}
use Rattle.literal_order.proofs.laws.day_ends_at_next.Goals as goal

pub returns : goal.returns
returns c = ends_at_next
