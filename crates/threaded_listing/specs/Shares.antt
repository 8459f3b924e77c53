-- The nodes of visits, which are in shares.
use Rattle.std.specs.Prelude.{ℕ, List, map}
use Rattle.std.specs.List.{flat_map}
use Rattle.threaded_listing.specs.declared.visit.PermittedVisit.{PermittedVisit}
use Rattle.threaded_listing.specs.declared.visit.Share.{Share}

abbrev pub nodes_of : List PermittedVisit → List ℕ
nodes_of visits = map (λ v. v.node) visits

abbrev pub nodes_of_shares : List Share → List ℕ
nodes_of_shares shares = flat_map (λ share. nodes_of share.visits.items) shares
