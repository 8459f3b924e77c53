use Rattle.std.proofs.Common.{◌∙◌, ◌≤◌, length, take, drop, ap, arith, refl}
use Rattle.std.specs.Prelude.{encode_utf8_all}
use Rattle.std.proofs.lemmas.List.{length-take}
use Rattle.turtle_lex.specs.Places.{line_feeds}
use Rattle.turtle_lex.proofs.PlaceSteps.{later, near}
use Rattle.turtle_lex.proofs.places.place_after.Goals as goal

pub overflow_add-result : goal.overflow_add-result
overflow_add-result c = omega (arith, (near c.args.characters.now c.args.place c.args.count _ 0 c.split_at_byte-rest.ensures.size c.requires.count c.requires.place.1 refl (omega arith)).at)

pub overflow_add-result-2 : goal.overflow_add-result-2
overflow_add-result-2 c =
    let passed = c.front-passed.ensures ∙ ap (take c.args.count) c.split_at_byte-rest.ensures.back in
    let bytes = ap length (c.as_text.ensures ∙ ap encode_utf8_all passed) in
    omega (arith, (near c.args.characters.now c.args.place c.args.count (length c.as_text.result.now) 0 c.split_at_byte-rest.ensures.size c.requires.count c.requires.place.1 bytes (omega arith)).byte)

pub overflow_add-result-3 : goal.overflow_add-result-3
overflow_add-result-3 c =
    let passed = c.front-passed.ensures ∙ ap (take c.args.count) c.split_at_byte-rest.ensures.back in
    let most : c.line_feeds.result ≤ c.args.count = omega (arith, c.line_feeds.ensures.bound, ap length passed, length-take c.args.count (drop c.args.place.at c.args.characters.now)) in
    omega (arith, (near c.args.characters.now c.args.place c.args.count _ c.line_feeds.result c.split_at_byte-rest.ensures.size c.requires.count c.requires.place.1 refl most).line)

pub returns : goal.returns
returns c =
    let passed = c.front-passed.ensures ∙ ap (take c.args.count) c.split_at_byte-rest.ensures.back in
    later c.args.characters.now c.args.place c.args.count (length c.as_text.result.now) c.line_feeds.result c.requires.place.1
    (ap length (c.as_text.ensures ∙ ap encode_utf8_all passed))
    (c.line_feeds.ensures.value ∙ ap line_feeds passed)
