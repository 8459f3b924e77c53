use Rattle.literal_order.proofs.CalendarLemmas.{first_day, follow_month, follow_next_month, follow_next_year}
use Rattle.literal_order.proofs.laws.days_follow.Goals as goal

pub returns : goal.returns
returns c = record { first = first_day; in_month = follow_month; next_month = follow_next_month; next_year = follow_next_year }
