use Rattle.rdf_model.specs.Numbers.{graph_of}
use Rattle.triple_table.proofs.Places.{grown_twice}
use Rattle.file_validation.proofs.NamedTriples.{index_grown, words_stay}
use Rattle.file_validation.proofs.naming.IndexedTriples.with_shapes.Goals as goal

pub returns : goal.returns
returns c =
    let terms = c.args.self.names in
    let worded = c.add_words.new.names in
    let named = c.add_triples.new.names in
    let grown = grown_twice terms worded named c.in_ok-words.ensures.grown c.in_ok-add_triples.ensures.grown in
    record {
      words = words_stay worded named c.in_ok-words.words c.in_ok-add_triples.ensures.grown c.in_ok-words.ensures.words;
      index = index_grown terms named c.args.self.triples grown c.requires;
      named = c.in_ok-add_triples.ensures.named;
    }
