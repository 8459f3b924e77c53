use Rattle.std.proofs.Common.{◌≡◌, ℕ, List, map, subst}
use Rattle.std.specs.Prelude.{◌↔◌, IsTrue}
use Rattle.std.specs.Char.{to_ascii_lowercase}
use Rattle.turtle_lex.proofs.Letters.{in_any_case}
use Rattle.turtle_lex.proofs.words.is_in_any_case.Goals as goal

pub returns : goal.returns
returns c =
    let tested = subst (λ (xs : List ℕ). IsTrue c.eq_ignore_ascii_case.result ↔ (map to_ascii_lowercase xs ≡ map to_ascii_lowercase c.args.other.now)) c.as_text.ensures c.eq_ignore_ascii_case.ensures.test in
    in_any_case c.args.word.now c.args.other.now c.eq_ignore_ascii_case.result c.requires tested
