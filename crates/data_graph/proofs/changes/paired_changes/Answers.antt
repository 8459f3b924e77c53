use Rattle.std.proofs.Common.{◌∙◌, ℕ, List, ap, map, subst, sym}
use Rattle.rdf_model.specs.declared.look.Look.{Look}
use Rattle.path_eval.specs.Naming.{look_of}
use Rattle.parallel_validate.specs.Verdicts.{AreBoundLooks}
use Rattle.data_graph.proofs.changes.paired_changes.Goals as goal

pub read_looks-requires : goal.read_looks-requires
read_looks-requires c = subst (λ (ls : List (Look ℕ)). AreBoundLooks c.args.names.now.terms ls) (sym c.looks.ensures) c.requires

pub returns-clause-looks : goal.returns-clause-looks
returns-clause-looks c = c.from_vec.ensures ∙ c.in_ok-named.ensures ∙ ap (map (look_of c.args.names.now.terms)) c.looks.ensures
