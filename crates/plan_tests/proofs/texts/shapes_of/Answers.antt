use Rattle.std.proofs.Common.{List, sym, subst}
use Rattle.collections.specs.Ordered.{IsAscending}
use Rattle.rdf_model.specs.declared.triple.Triple.{Triple}
use Rattle.rdf_model.specs.Terms.{triple_cmp}
use Rattle.ntriples_text.proofs.Gives.{gives_readable}
use Rattle.plan_tests.proofs.texts.shapes_of.Goals as goal

pub read_shapes-requires : goal.read_shapes-requires
read_shapes-requires c =
    subst (λ (ts : List Triple). IsAscending triple_cmp ts) (sym c.as_slice.ensures) (gives_readable c.as_bytes-bytes.result.now 1 1 c.read.new.next c.in-Ok.triples c.in-Ok.ensures.reads).2
