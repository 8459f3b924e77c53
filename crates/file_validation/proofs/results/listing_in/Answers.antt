use Rattle.std.proofs.Crossing.{crosses}
use denote.Param.Send.{sendable}
use Rattle.triple_table.proofs.Sharing.{terms_sync}
use Rattle.file_validation.proofs.results.listing_in.Goals as goal

pub listing_by_threads-requires-sync-N : goal.listing_by_threads-requires-sync-N
listing_by_threads-requires-sync-N g c κs within = search (terms_sync, crosses, sendable) depth 60 fits 20000
