use Rattle.std.proofs.Common.{◌∙◌, ap}
use Rattle.std.specs.Prelude.{bytes_eq}
use Rattle.turtle_lex.proofs.Letters.{same_word}
use Rattle.turtle_lex.proofs.words.is_same.Goals as goal

pub returns : goal.returns
returns c = same_word c.args.word.now c.args.other.now c.eq.result c.requires (c.eq.ensures ∙ ap (λ xs. bytes_eq xs c.args.other.now) c.as_text.ensures)
