-- What a commit that is accepted gives its history.
use Rattle.std.proofs.Common.{◌≡◌, ℕ, List, []}
use Rattle.rdf_model.specs.declared.term.Term.{Term}
use Rattle.store_model.specs.declared.commit.Transaction.{Transaction}
use Rattle.store_model.specs.declared.event.Action.TheVariants.{Commit}
use Rattle.store_model.specs.declared.event.Reply.{Reply}
use Rattle.triple_index.specs.declared.change.NumberedChange.{NumberedChange}
use Rattle.event_history.specs.Named.{accepted_commit, net_at}

-- the changes of the numbers are those of the transaction
pub told_commit : (i : ℕ) (x y : Transaction) (net : List NumberedChange) (names : List Term) (r : Reply) → y ≡ record x { net = [] } → net_at names net ≡ x.net
    → accepted_commit (record { session = i; transaction = y; net = net; reply = r }) (net_at names net) ≡ record { session = i; action = Commit x; reply = r }
told_commit i x y net names r e n =
    λ k. record { session = i; action = Commit (record { base = (e k).base; net = n k; staged = (e k).staged; finds = (e k).finds; verdict = (e k).verdict }); reply = r }
