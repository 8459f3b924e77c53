use Rattle.std.proofs.Common.{◌∙◌, ◌-◌, length, take, sym, ap}
use Rattle.std.specs.Prelude.{encode_utf8_all}
use Rattle.turtle_lex.proofs.PlaceSteps.{between}
use Rattle.turtle_lex.proofs.meanings.token_text.Goals as goal

pub overflow_sub-end-2 : goal.overflow_sub-end-2
overflow_sub-end-2 c = (between c.args.characters.now c.args.token.start c.args.token.end c.requires.0 c.requires.1 c.requires.2).less

pub split_at_byte-text-requires-clause-bytes : goal.split_at_byte-text-requires-clause-bytes
split_at_byte-text-requires-clause-bytes c =
    (between c.args.characters.now c.args.token.start c.args.token.end c.requires.0 c.requires.1 c.requires.2).bytes
    ∙ ap (λ cs. length (encode_utf8_all (take (c.args.token.end.at - c.args.token.start.at) cs))) (sym c.split_at_byte-behind.ensures.back)
