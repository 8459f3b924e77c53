use Rattle.std.proofs.Common.{◌≡◌, ◌++◌, take}
use Rattle.std.specs.List.{flat_map}
use Rattle.store_model.specs.Store.{terms_of}
use Rattle.store_model.proofs.terms.push_all_terms.Given as goal

abbrev pub invariant-loop-triple : goal.invariant-loop-triple
invariant-loop-triple l = l.terms.items ≡ l.fn.terms.items ++ flat_map terms_of (take l.triple-index l.triples)
