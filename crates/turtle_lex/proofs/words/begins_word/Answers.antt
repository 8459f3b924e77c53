use Rattle.std.proofs.Common.{◌∙◌, ap}
use Rattle.std.specs.Prelude.{nat_eq}
use Rattle.std.specs.List.{starts_with}
use Rattle.turtle_lex.proofs.Letters.{begins}
use Rattle.turtle_lex.proofs.words.begins_word.Goals as goal

pub returns : goal.returns
returns c = begins c.args.word.now c.args.characters.now c.starts_with.result c.requires
    (c.starts_with.ensures.value
    ∙ ap (λ xs. starts_with nat_eq xs c.as_bytes-2.result.now) c.as_bytes.ensures.value
    ∙ ap (starts_with nat_eq c.args.word.now) (c.as_bytes-2.ensures.value ∙ c.as_text.ensures))
