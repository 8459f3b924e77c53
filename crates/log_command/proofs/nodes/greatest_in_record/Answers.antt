use Rattle.std.proofs.Common.{◌∙◌, List, ap}
use Rattle.std.specs.List.{flat_map}
use Rattle.rdf_model.specs.declared.triple.Triple.{Triple}
use Rattle.store_model.specs.Store.{terms_of}
use Rattle.log_command.specs.Nodes.{greatest}
use Rattle.log_command.proofs.Greatest.{greatest_by}
use Rattle.log_command.proofs.nodes.greatest_in_record.Goals as goal

pub returns : goal.returns
returns c =
    let of = λ (ts : List Triple). greatest c.args.session (flat_map terms_of ts) in
    greatest_by c.args.session c.greatest_in_triples.result c.greatest_in_triples-in_added.result c.greatest_in_shapes-in_shapes.result c.larger-in_both.result c.larger.result c.args.entry.now
    (c.greatest_in_triples.ensures ∙ ap of c.as_slice-2.ensures) (c.greatest_in_triples-in_added.ensures ∙ ap of c.as_slice.ensures) c.greatest_in_shapes-in_shapes.ensures c.larger-in_both.ensures c.larger.ensures
