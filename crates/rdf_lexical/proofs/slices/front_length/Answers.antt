use Rattle.std.proofs.Common.{◌≡◌, ◌∙◌, ◌+◌, ◌-◌, ◌<◌, drop, length, sym, ap, arith}
use Rattle.std.specs.Prelude.{encode_utf8_all}
use Rattle.std.specs.Str.{chars}
use Rattle.std.specs.Str.Iter.{chars_rest}
use Rattle.std.proofs.lemmas.Str.{encodes-chars}
use Rattle.rdf_lexical.proofs.Spelled.{cut, one_more}
use Rattle.rdf_lexical.proofs.slices.front_length.Goals as goal

pub loop-left-init : goal.loop-left-init
loop-left-init c =
    let none : c.args.count - c.args.count ≡ 0 = omega arith in
    record {
      left = omega arith;
      rest = c.chars-rest.ensures.rest ∙ sym (encodes-chars c.args.text.now c.utf8.text) ∙ ap (λ k. encode_utf8_all (drop k (chars c.args.text.now))) (sym none);
    }

pub loop-left-preserved : goal.loop-left-preserved
loop-left-preserved c =
    let step = c.next.ensures.steps in
    let left = c.loop-left.left in
    let less : c.args.count - left < length (chars c.args.text.now) = omega (arith, c.requires, c.loop-left.invariant.left, c.loop-left-test.true) in
    let next : (c.args.count - left) + 1 ≡ c.args.count - (left - 1) = omega (arith, c.loop-left.invariant.left, c.loop-left-test.true) in
    record {
      left = omega (arith, c.loop-left.invariant.left);
      rest = one_more _ (chars c.args.text.now) (chars_rest c.loop-left.rest) (chars_rest c.next.new.self) (c.args.count - left) c.next.result less c.loop-left.invariant.rest step.0 step.1
          ∙ ap (λ k. encode_utf8_all (drop k (chars c.args.text.now))) next;
    }

pub overflow_sub-result : goal.overflow_sub-result
overflow_sub-result c =
    let none : c.args.count - c.loop-left.left ≡ c.args.count = omega (arith, c.loop-left-test.false) in
    let rest : c.as_str.result.now ≡ encode_utf8_all (drop c.args.count (chars c.args.text.now)) = c.as_str.ensures ∙ c.loop-left.invariant.rest ∙ ap (λ k. encode_utf8_all (drop k (chars c.args.text.now))) none in
    omega (arith, ap length rest, (cut c.args.text.now c.args.count c.utf8.text).sum)

pub returns : goal.returns
returns c =
    let none : c.args.count - c.loop-left.left ≡ c.args.count = omega (arith, c.loop-left-test.false) in
    let rest : c.as_str.result.now ≡ encode_utf8_all (drop c.args.count (chars c.args.text.now)) = c.as_str.ensures ∙ c.loop-left.invariant.rest ∙ ap (λ k. encode_utf8_all (drop k (chars c.args.text.now))) none in
    omega (arith, ap length rest, (cut c.args.text.now c.args.count c.utf8.text).sum)
