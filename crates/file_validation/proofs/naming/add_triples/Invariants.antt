use Rattle.std.proofs.Common.{ℕ, ◌<◌, get_or}
use Rattle.rdf_model.specs.declared.triple.Triple.{Triple}
use Rattle.parallel_validate.specs.Named.{IsNamedTriple}
use Rattle.triple_table.specs.Tables.{HasGrown}
use Rattle.file_validation.proofs.naming.add_triples.Given as goal

abbrev pub invariant-loop-triple : goal.invariant-loop-triple
invariant-loop-triple l = record {
  grown : HasGrown l.initial.names l.names;
  named : (k : ℕ) (d : Triple) → k < l.triple-index → IsNamedTriple l.names (get_or l.triples k d);
}
