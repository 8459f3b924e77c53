use Rattle.std.proofs.Common.{◌≡◌, ◌-◌, ◌<◌, ℕ, List, true, drop, length, rules, subst, take}
use Rattle.std.specs.List.{Contains}
use Rattle.rdf_model.specs.declared.term.Term.{Term}
use Rattle.constraint_tests.proofs.shapes.qualified_rows.Goals as goal

pub asked_qualified-requires-clause-siblings : goal.asked_qualified-requires-clause-siblings
asked_qualified-requires-clause-siblings g c =
    let shapes = c.others-shapes.result.now in
    let have : c.have_names.result ≡ true = first_of (search rules, cc) in
    subst (λ (ts : List Term). (n : ℕ) → Contains (take (length shapes - 1) (drop 1 shapes)) n → n < length ts) c.names-in-len1-up.ensures.value (c.have_names.ensures have)
