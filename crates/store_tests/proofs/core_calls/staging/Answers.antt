use Rattle.std.proofs.Common.{◌≡◌, List, [], None, Some, arith, subst, sym}
use Rattle.rdf_model.specs.declared.change.Change.{Change}
use Rattle.rdf_model.specs.declared.pattern.Pattern.{Pattern}
use Rattle.rdf_model.specs.declared.triple.Triple.{Triple}
use Rattle.store_model.specs.declared.commit.Transaction.{Transaction}
use Rattle.store_model.specs.Store.{IsCommittable, State}
use Rattle.store_tests.proofs.core_calls.staging.Goals as goal

abbrev staged : List Change → List Triple → List Pattern → Transaction
staged net shapes finds = record { base = 0; net = net; staged = Some shapes; finds = finds; verdict = None }

-- a transaction that stages no triples can be committed
is_committable : (s : State) (net : List Change) (shapes : List Triple) (finds : List Pattern) → net ≡ [] → shapes ≡ [] → IsCommittable s (staged net shapes finds)
is_committable s net shapes finds e f =
    subst (λ (cs : List Change). IsCommittable s (staged cs shapes finds)) (sym e)
    (subst (λ (ts : List Triple). IsCommittable s (staged [] ts finds)) (sym f)
    (record { base = omega arith; change = tt; net = tt; staged = tt; verdict = tt }))

pub returns-clause-committable : goal.returns-clause-committable
returns-clause-committable c = λ s. is_committable s c.new-net.result c.in_ok-staged.staged c.new-finds.result c.new-net.ensures c.in_ok-staged.ensures
