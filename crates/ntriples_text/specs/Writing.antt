-- N-Triples as it is written: one line for each triple.
use Rattle.std.specs.Prelude.{ℕ, List, ◌++◌, codes}
use Rattle.std.specs.List.{flat_map}
use Rattle.rdf_model.specs.declared.triple.Triple.{Triple}
use Rattle.rdf_model.specs.NTriples.{triple_text}

-- a triple, and LF
abbrev pub written_line : Triple → List ℕ
written_line t = triple_text t ++ codes "\n"

abbrev pub written : List Triple → List ℕ
written triples = flat_map written_line triples
