use Rattle.shape_reader.proofs.WellFormed.{flags_texts}
use Rattle.shape_reader.proofs.pattern.flags_text.Goals as goal

pub text_of-requires : goal.text_of-requires
text_of-requires c = flags_texts c.args.shape.now.graph c.recall.ensures.well_formed c.args.shape.now.node c.recall.ensures.shape c.in-Some.value.now c.in-Some.ensures
