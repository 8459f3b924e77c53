use Rattle.std.proofs.Common.{◌∙◌, ◌<◌, ℕ, true, false, ap, length, arith, subst}
use Rattle.std.specs.Prelude.{not}
use Rattle.std.proofs.lemmas.Result.{IfOk-weaker}
use Rattle.path_ast.proofs.Sizes.{alternative_more, alternative_size, list_size, path_size, sequence_more, sequence_size}
use Rattle.path_eval.specs.declared.walker.Walker.{Here}
use Rattle.path_eval.specs.NumberedWalks.{Reaches}
use Rattle.path_eval.specs.NumberedLooks.{Reads}
use Rattle.path_eval.specs.Walkers.{IsAnyNumber, IsEither, IsMade, IsMore, IsThen}
use Rattle.path_eval.proofs.Made.{GoesBackward, GoesOnward, GoesSome, IsMadeFor, after_less, backward_parts, before_less, first_less, halves, inner_less, onward_parts, some_parts, alternative_made, inverse_made, many_made, more_made, optional_made, predicate_made, sequence_made, reversed_made}
use Rattle.path_eval.proofs.making.+making.Goals as goal

pub walker_of-returns-in_ok-rest-in-Sequence : goal.walker_of-returns-in_ok-rest-in-Sequence
walker_of-returns-in_ok-rest-in-Sequence t c =
    let one = c.in_ok-one-in-Sequence.one in
    let rest = c.in_ok-rest-in-Sequence.rest in
    IfOk-weaker c.then_of.result (IsThen rest one) (IsMadeFor c.args.path.now c.args.reversed)
    (λ w j. reversed_made c.args.path.now c.args.reversed c.in-Sequence.first c.in-Sequence.others c.deref-in-Sequence.result.now c.deref-then-reversed.result.now c.deref-in-Sequence.ensures c.deref-then-reversed.ensures.value
    one rest w c.in-Sequence.is c.if-reversed.true c.in_ok-one-in-Sequence.ensures c.in_ok-rest-in-Sequence.ensures j) c.then_of.ensures

pub walker_of-returns-in_ok-rest-in-Sequence-2 : goal.walker_of-returns-in_ok-rest-in-Sequence-2
walker_of-returns-in_ok-rest-in-Sequence-2 t c =
    let one = c.in_ok-one-in-Sequence.one in
    let rest = c.in_ok-rest-in-Sequence-2.rest in
    IfOk-weaker c.then_of-else-reversed.result (IsThen one rest) (IsMadeFor c.args.path.now c.args.reversed)
    (λ w j. sequence_made c.args.path.now c.args.reversed c.in-Sequence.first c.in-Sequence.others c.deref-in-Sequence.result.now c.deref-else-reversed.result.now c.deref-in-Sequence.ensures c.deref-else-reversed.ensures.value
    one rest w c.in-Sequence.is c.if-reversed.false c.in_ok-one-in-Sequence.ensures c.in_ok-rest-in-Sequence-2.ensures j) c.then_of-else-reversed.ensures

pub walker_of-returns-in_ok-rest-in-Alternative : goal.walker_of-returns-in_ok-rest-in-Alternative
walker_of-returns-in_ok-rest-in-Alternative t c =
    let one = c.in_ok-one-in-Alternative.one in
    let rest = c.in_ok-rest-in-Alternative.rest in
    IfOk-weaker c.either_of.result (IsEither one rest) (IsMadeFor c.args.path.now c.args.reversed)
    (λ w j. alternative_made c.args.path.now c.args.reversed c.in-Alternative.first c.in-Alternative.others c.deref-in-Alternative.result.now c.deref-in-Alternative-2.result.now c.deref-in-Alternative.ensures
    c.deref-in-Alternative-2.ensures.value one rest w c.in-Alternative.is c.in_ok-one-in-Alternative.ensures c.in_ok-rest-in-Alternative.ensures j) c.either_of.ensures

pub walker_of-returns-in_ok-once-in-ZeroOrMore : goal.walker_of-returns-in_ok-once-in-ZeroOrMore
walker_of-returns-in_ok-once-in-ZeroOrMore t c =
    let once = c.in_ok-once-in-ZeroOrMore.once in
    IfOk-weaker c.any_number.result (IsAnyNumber once) (IsMadeFor c.args.path.now c.args.reversed)
    (λ w j. many_made c.args.path.now c.args.reversed c.in-ZeroOrMore.inner c.deref-in-ZeroOrMore.result.now c.deref-in-ZeroOrMore.ensures once w c.in-ZeroOrMore.is c.in_ok-once-in-ZeroOrMore.ensures j) c.any_number.ensures

pub walker_of-returns-in_ok-once-in-OneOrMore : goal.walker_of-returns-in_ok-once-in-OneOrMore
walker_of-returns-in_ok-once-in-OneOrMore t c =
    let once = c.in_ok-once-in-OneOrMore.once in
    IfOk-weaker c.more_of.result (IsMore once) (IsMadeFor c.args.path.now c.args.reversed)
    (λ w j. more_made c.args.path.now c.args.reversed c.in-OneOrMore.inner c.deref-in-OneOrMore.result.now c.deref-in-OneOrMore.ensures once w c.in-OneOrMore.is c.in_ok-once-in-OneOrMore.ensures j) c.more_of.ensures

pub walker_of-returns-in-Predicate : goal.walker_of-returns-in-Predicate
walker_of-returns-in-Predicate t c = predicate_made c.args.path.now c.args.reversed c.in-Predicate.predicate c.new.result c.in-Predicate.is c.new.ensures

pub walker_of-returns-in-Inverse : goal.walker_of-returns-in-Inverse
walker_of-returns-in-Inverse t c =
    let p = c.deref.result.now in
    IfOk-weaker c.walker_of.result (λ w. IsMade w (λ ids. Reaches ids (not c.args.reversed) p) (λ ids. Reads ids (not c.args.reversed) p)) (IsMadeFor c.args.path.now c.args.reversed)
    (λ w h. inverse_made c.args.path.now c.args.reversed c.in-Inverse.inner p c.deref.ensures w w c.in-Inverse.is h) c.walker_of.ensures

pub walker_of-returns-in_ok-once-in-ZeroOrOne : goal.walker_of-returns-in_ok-once-in-ZeroOrOne
walker_of-returns-in_ok-once-in-ZeroOrOne t c =
    let once = c.in_ok-once-in-ZeroOrOne.once in
    IfOk-weaker c.either_of-in-ZeroOrOne.result (IsEither Here once) (IsMadeFor c.args.path.now c.args.reversed)
    (λ w j. optional_made c.args.path.now c.args.reversed c.in-ZeroOrOne.inner c.deref-in-ZeroOrOne.result.now c.deref-in-ZeroOrOne.ensures once w c.in-ZeroOrOne.is c.in_ok-once-in-ZeroOrOne.ensures j) c.either_of-in-ZeroOrOne.ensures

pub walker_of-walker_of-requires : goal.walker_of-walker_of-requires
walker_of-walker_of-requires t c =
    let part = c.deref.result.now in
    let less = inner_less c.args.path.now part c.in-Inverse.inner c.deref.ensures (ap path_size c.in-Inverse.is) in
    (subst (λ (n : ℕ). path_size part < n) c.decreases less, tt)

pub walker_of-walker_of-requires-in-ZeroOrMore : goal.walker_of-walker_of-requires-in-ZeroOrMore
walker_of-walker_of-requires-in-ZeroOrMore t c =
    let part = c.deref-in-ZeroOrMore.result.now in
    let less = inner_less c.args.path.now part c.in-ZeroOrMore.inner c.deref-in-ZeroOrMore.ensures (ap path_size c.in-ZeroOrMore.is) in
    (subst (λ (n : ℕ). path_size part < n) c.decreases less, tt)

pub walker_of-walker_of-requires-in-OneOrMore : goal.walker_of-walker_of-requires-in-OneOrMore
walker_of-walker_of-requires-in-OneOrMore t c =
    let part = c.deref-in-OneOrMore.result.now in
    let less = inner_less c.args.path.now part c.in-OneOrMore.inner c.deref-in-OneOrMore.ensures (ap path_size c.in-OneOrMore.is) in
    (subst (λ (n : ℕ). path_size part < n) c.decreases less, tt)

pub walker_of-walker_of-requires-in-ZeroOrOne : goal.walker_of-walker_of-requires-in-ZeroOrOne
walker_of-walker_of-requires-in-ZeroOrOne t c =
    let part = c.deref-in-ZeroOrOne.result.now in
    let less = inner_less c.args.path.now part c.in-ZeroOrOne.inner c.deref-in-ZeroOrOne.ensures (ap path_size c.in-ZeroOrOne.is) in
    (subst (λ (n : ℕ). path_size part < n) c.decreases less, tt)

pub walker_of-walker_of-requires-in-Sequence : goal.walker_of-walker_of-requires-in-Sequence
walker_of-walker_of-requires-in-Sequence t c =
    let part = c.deref-in-Sequence.result.now in
    let first = c.in-Sequence.first in
    let others = c.in-Sequence.others in
    let less = first_less c.args.path.now part first others c.deref-in-Sequence.ensures (ap path_size c.in-Sequence.is ∙ sequence_size first others) in
    (subst (λ (n : ℕ). path_size part < n) c.decreases less, tt)

pub walker_of-walker_of-requires-in-Alternative : goal.walker_of-walker_of-requires-in-Alternative
walker_of-walker_of-requires-in-Alternative t c =
    let part = c.deref-in-Alternative.result.now in
    let first = c.in-Alternative.first in
    let others = c.in-Alternative.others in
    let less = first_less c.args.path.now part first others c.deref-in-Alternative.ensures (ap path_size c.in-Alternative.is ∙ alternative_size first others) in
    (subst (λ (n : ℕ). path_size part < n) c.decreases less, tt)

pub walker_of-backward_of-requires : goal.walker_of-backward_of-requires
walker_of-backward_of-requires t c =
    let ps = c.deref-then-reversed.result.now in
    let less = sequence_more c.args.path.now c.in-Sequence.first c.in-Sequence.others c.in-Sequence.is ps c.deref-then-reversed.ensures.value in
    (subst (λ (n : ℕ). list_size ps < n) c.decreases less, tt)

pub walker_of-onward_of-requires : goal.walker_of-onward_of-requires
walker_of-onward_of-requires t c =
    let ps = c.deref-else-reversed.result.now in
    let less = sequence_more c.args.path.now c.in-Sequence.first c.in-Sequence.others c.in-Sequence.is ps c.deref-else-reversed.ensures.value in
    (subst (λ (n : ℕ). list_size ps < n) c.decreases less, tt)

pub walker_of-any_of-requires : goal.walker_of-any_of-requires
walker_of-any_of-requires t c =
    let ps = c.deref-in-Alternative-2.result.now in
    let less = alternative_more c.args.path.now c.in-Alternative.first c.in-Alternative.others c.in-Alternative.is ps c.deref-in-Alternative-2.ensures.value in
    (subst (λ (n : ℕ). list_size ps < n) c.decreases less, tt)

pub onward_of-onward_of-requires : goal.onward_of-onward_of-requires
onward_of-onward_of-requires t c =
    let paths = c.args.paths.now in
    let before = c.split_at.result.0.now in
    let after = c.split_at.result.1.now in
    let is = halves paths before after _ c.split_at.ensures.front c.split_at.ensures.back in
    let some : 0 < length after = omega (arith, c.if-paths-gt1.true, c.split_at.ensures.front_len, c.split_at.ensures.back_len) in
    let less = before_less paths before after is some in
    (subst (λ (n : ℕ). list_size before < n) c.decreases less, tt)

pub onward_of-onward_of-requires-then-paths-gt1 : goal.onward_of-onward_of-requires-then-paths-gt1
onward_of-onward_of-requires-then-paths-gt1 t c =
    let paths = c.args.paths.now in
    let before = c.split_at.result.0.now in
    let after = c.split_at.result.1.now in
    let is = halves paths before after _ c.split_at.ensures.front c.split_at.ensures.back in
    let some : 0 < length before = omega (arith, c.if-paths-gt1.true, c.split_at.ensures.front_len, c.split_at.ensures.back_len) in
    let less = after_less paths before after is some in
    (subst (λ (n : ℕ). list_size after < n) c.decreases less, tt)

pub backward_of-backward_of-requires : goal.backward_of-backward_of-requires
backward_of-backward_of-requires t c =
    let paths = c.args.paths.now in
    let before = c.split_at.result.0.now in
    let after = c.split_at.result.1.now in
    let is = halves paths before after _ c.split_at.ensures.front c.split_at.ensures.back in
    let some : 0 < length before = omega (arith, c.if-paths-gt1.true, c.split_at.ensures.front_len, c.split_at.ensures.back_len) in
    let less = after_less paths before after is some in
    (subst (λ (n : ℕ). list_size after < n) c.decreases less, tt)

pub backward_of-backward_of-requires-then-paths-gt1 : goal.backward_of-backward_of-requires-then-paths-gt1
backward_of-backward_of-requires-then-paths-gt1 t c =
    let paths = c.args.paths.now in
    let before = c.split_at.result.0.now in
    let after = c.split_at.result.1.now in
    let is = halves paths before after _ c.split_at.ensures.front c.split_at.ensures.back in
    let some : 0 < length after = omega (arith, c.if-paths-gt1.true, c.split_at.ensures.front_len, c.split_at.ensures.back_len) in
    let less = before_less paths before after is some in
    (subst (λ (n : ℕ). list_size before < n) c.decreases less, tt)

pub any_of-any_of-requires : goal.any_of-any_of-requires
any_of-any_of-requires t c =
    let paths = c.args.paths.now in
    let before = c.split_at.result.0.now in
    let after = c.split_at.result.1.now in
    let is = halves paths before after _ c.split_at.ensures.front c.split_at.ensures.back in
    let some : 0 < length after = omega (arith, c.if-paths-gt1.true, c.split_at.ensures.front_len, c.split_at.ensures.back_len) in
    let less = before_less paths before after is some in
    (subst (λ (n : ℕ). list_size before < n) c.decreases less, tt)

pub any_of-any_of-requires-then-paths-gt1 : goal.any_of-any_of-requires-then-paths-gt1
any_of-any_of-requires-then-paths-gt1 t c =
    let paths = c.args.paths.now in
    let before = c.split_at.result.0.now in
    let after = c.split_at.result.1.now in
    let is = halves paths before after _ c.split_at.ensures.front c.split_at.ensures.back in
    let some : 0 < length before = omega (arith, c.if-paths-gt1.true, c.split_at.ensures.front_len, c.split_at.ensures.back_len) in
    let less = after_less paths before after is some in
    (subst (λ (n : ℕ). list_size after < n) c.decreases less, tt)

pub onward_of-returns-then-paths-gt1 : goal.onward_of-returns-then-paths-gt1
onward_of-returns-then-paths-gt1 t c =
    let paths = c.args.paths.now in
    let before = c.split_at.result.0.now in
    let after = c.split_at.result.1.now in
    let one = c.in_ok-one.one in
    let other = c.in_ok-other.other in
    let is = halves paths before after _ c.split_at.ensures.front c.split_at.ensures.back in
    IfOk-weaker c.then_of.result (IsThen one other) (λ w. GoesOnward w false paths)
    (λ w j. onward_parts paths before after is one other w c.in_ok-one.ensures c.in_ok-other.ensures j) c.then_of.ensures

pub backward_of-returns-then-paths-gt1 : goal.backward_of-returns-then-paths-gt1
backward_of-returns-then-paths-gt1 t c =
    let paths = c.args.paths.now in
    let before = c.split_at.result.0.now in
    let after = c.split_at.result.1.now in
    let one = c.in_ok-one.one in
    let other = c.in_ok-other.other in
    let is = halves paths before after _ c.split_at.ensures.front c.split_at.ensures.back in
    IfOk-weaker c.then_of.result (IsThen one other) (λ w. GoesBackward w true paths)
    (λ w j. backward_parts paths before after is one other w c.in_ok-one.ensures c.in_ok-other.ensures j) c.then_of.ensures

pub any_of-returns-then-paths-gt1 : goal.any_of-returns-then-paths-gt1
any_of-returns-then-paths-gt1 t c =
    let paths = c.args.paths.now in
    let before = c.split_at.result.0.now in
    let after = c.split_at.result.1.now in
    let one = c.in_ok-one.one in
    let other = c.in_ok-other.other in
    let is = halves paths before after _ c.split_at.ensures.front c.split_at.ensures.back in
    IfOk-weaker c.either_of.result (IsEither one other) (λ w. GoesSome w c.args.reversed paths)
    (λ w j. some_parts paths before after is one other w c.args.reversed c.in_ok-one.ensures c.in_ok-other.ensures j) c.either_of.ensures
