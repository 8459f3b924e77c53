use Rattle.std.proofs.Common.{◌∙◌, ◌==◌, ap, arith}
use Rattle.turtle_lex.specs.Places.{line_feeds}
use Rattle.std.proofs.lemmas.List.Sums.{count_by-le-length}
use Rattle.turtle_lex.proofs.PlaceSteps.{line_feeds_bytes}
use Rattle.turtle_lex.proofs.places.line_feeds.Goals as goal

pub returns-clause-value : goal.returns-clause-value
returns-clause-value c = c.line_feed_bytes.ensures ∙ ap line_feeds (c.as_bytes.ensures.value ∙ c.as_text.ensures) ∙ line_feeds_bytes c.args.characters.now

pub returns-clause-bound : goal.returns-clause-bound
returns-clause-bound c =
    let value = c.line_feed_bytes.ensures ∙ ap line_feeds (c.as_bytes.ensures.value ∙ c.as_text.ensures) ∙ line_feeds_bytes c.args.characters.now in
    omega (arith, value, count_by-le-length (λ c. c == 10) c.args.characters.now)
