use Rattle.std.proofs.Common.{◌≡◌, ◌+◌, ◌<◌, ℕ, List, length, take, arith, ap, subst}
use Rattle.std.proofs.lemmas.List.{take_all}
use Rattle.path_ast.specs.declared.path.Path.{Path}
use Rattle.path_ast.proofs.Sizes.{alternative_more, alternative_size, list_size, member_more, path_size, sequence_more, sequence_size}
use Rattle.shape_plans.proofs.Comparing.{ReadAllSame, alternatives_same, sequences_same}
use Rattle.shape_plans.proofs.alike.+comparing.Goals as goal

pub are_same_paths-is_same_path-requires : goal.are_same_paths-is_same_path-requires
are_same_paths-is_same_path-requires t c =
    let p = c.index-paths-index.result in
    let less : c.loop-index.index < length c.args.paths.now = omega (arith, c.loop-index-test.true, c.loop-index.auto.index-end) in
    let fewer = member_more c.args.paths.now c.loop-index.index p less c.index-paths-index.is in
    (subst (λ (n : ℕ). path_size p < n) c.decreases fewer, tt)

pub are_same_paths-returns : goal.are_same_paths-returns
are_same_paths-returns t c = λ same.
    let ps = c.args.paths.now in
    let qs = c.args.others.now in
    let i = c.loop-index.index in
    let e : length ps ≡ length qs = omega (arith, c.if-paths-others.false) in
    let all = take_all i ps (omega (arith, c.loop-index-test.false, c.loop-index.auto.index-end)) in
    let both = take_all i qs (omega (arith, c.loop-index-test.false, c.loop-index.auto.index-end, e)) in
    subst (λ (l : List (Path ℕ)). ReadAllSame l qs) all (subst (λ (l : List (Path ℕ)). ReadAllSame (take i ps) l) both c.loop-index.invariant)

pub is_same_path-is_same_path-requires : goal.is_same_path-is_same_path-requires
is_same_path-is_same_path-requires t c =
    let p = c.deref.result.now in
    (subst (λ (n : ℕ). path_size p < n) c.decreases (omega (arith, ap path_size c.in-Inverse-Inverse.is-0, ap path_size c.deref.ensures)), tt)

pub is_same_path-is_same_path-requires-in-Sequence-Sequence : goal.is_same_path-is_same_path-requires-in-Sequence-Sequence
is_same_path-is_same_path-requires-in-Sequence-Sequence t c =
    let w = c.in-Sequence-Sequence in
    let p = c.deref-in-Sequence-Sequence.result.now in
    (subst (λ (n : ℕ). path_size p < n) c.decreases (omega (arith, ap path_size w.is-0, sequence_size w.path w.more, ap path_size c.deref-in-Sequence-Sequence.ensures)), tt)

pub is_same_path-are_same_paths-requires : goal.is_same_path-are_same_paths-requires
is_same_path-are_same_paths-requires t c =
    let w = c.in-Sequence-Sequence in
    let ps = c.deref-then-is_same_path.result.now in
    (subst (λ (n : ℕ). list_size ps < n) c.decreases (sequence_more c.args.path.now w.path w.more w.is-0 ps c.deref-then-is_same_path.ensures.value), tt)

pub is_same_path-is_same_path-requires-in-Alternative-Alternative : goal.is_same_path-is_same_path-requires-in-Alternative-Alternative
is_same_path-is_same_path-requires-in-Alternative-Alternative t c =
    let w = c.in-Alternative-Alternative in
    let p = c.deref-in-Alternative-Alternative.result.now in
    (subst (λ (n : ℕ). path_size p < n) c.decreases (omega (arith, ap path_size w.is-0, alternative_size w.path w.more, ap path_size c.deref-in-Alternative-Alternative.ensures)), tt)

pub is_same_path-are_same_paths-requires-then-is_same_path-2 : goal.is_same_path-are_same_paths-requires-then-is_same_path-2
is_same_path-are_same_paths-requires-then-is_same_path-2 t c =
    let w = c.in-Alternative-Alternative in
    let ps = c.deref-then-is_same_path-2-2.result.now in
    (subst (λ (n : ℕ). list_size ps < n) c.decreases (alternative_more c.args.path.now w.path w.more w.is-0 ps c.deref-then-is_same_path-2-2.ensures.value), tt)

pub is_same_path-is_same_path-requires-in-ZeroOrMore-ZeroOrMore : goal.is_same_path-is_same_path-requires-in-ZeroOrMore-ZeroOrMore
is_same_path-is_same_path-requires-in-ZeroOrMore-ZeroOrMore t c =
    let p = c.deref-in-ZeroOrMore-ZeroOrMore.result.now in
    (subst (λ (n : ℕ). path_size p < n) c.decreases (omega (arith, ap path_size c.in-ZeroOrMore-ZeroOrMore.is-0, ap path_size c.deref-in-ZeroOrMore-ZeroOrMore.ensures)), tt)

pub is_same_path-is_same_path-requires-in-OneOrMore-OneOrMore : goal.is_same_path-is_same_path-requires-in-OneOrMore-OneOrMore
is_same_path-is_same_path-requires-in-OneOrMore-OneOrMore t c =
    let p = c.deref-in-OneOrMore-OneOrMore.result.now in
    (subst (λ (n : ℕ). path_size p < n) c.decreases (omega (arith, ap path_size c.in-OneOrMore-OneOrMore.is-0, ap path_size c.deref-in-OneOrMore-OneOrMore.ensures)), tt)

pub is_same_path-is_same_path-requires-in-ZeroOrOne-ZeroOrOne : goal.is_same_path-is_same_path-requires-in-ZeroOrOne-ZeroOrOne
is_same_path-is_same_path-requires-in-ZeroOrOne-ZeroOrOne t c =
    let p = c.deref-in-ZeroOrOne-ZeroOrOne.result.now in
    (subst (λ (n : ℕ). path_size p < n) c.decreases (omega (arith, ap path_size c.in-ZeroOrOne-ZeroOrOne.is-0, ap path_size c.deref-in-ZeroOrOne-ZeroOrOne.ensures)), tt)

pub is_same_path-returns-then-is_same_path : goal.is_same_path-returns-then-is_same_path
is_same_path-returns-then-is_same_path t c = λ same.
    let w = c.in-Sequence-Sequence in
    sequences_same c.args.path.now c.args.other.now w.path w.other w.more w.others c.deref-in-Sequence-Sequence.result.now c.deref-in-Sequence-Sequence-2.result.now c.deref-then-is_same_path.result.now c.deref-then-is_same_path-2.result.now
    c.deref-in-Sequence-Sequence.ensures c.deref-in-Sequence-Sequence-2.ensures c.deref-then-is_same_path.ensures.value c.deref-then-is_same_path-2.ensures.value
    (c.is_same_path-in-Sequence-Sequence.ensures c.if-is_same_path.true) (c.are_same_paths.ensures same) w.is-0 w.is-1

pub is_same_path-returns-then-is_same_path-2 : goal.is_same_path-returns-then-is_same_path-2
is_same_path-returns-then-is_same_path-2 t c = λ same.
    let w = c.in-Alternative-Alternative in
    alternatives_same c.args.path.now c.args.other.now w.path w.other w.more w.others c.deref-in-Alternative-Alternative.result.now c.deref-in-Alternative-Alternative-2.result.now c.deref-then-is_same_path-2-2.result.now c.deref-then-is_same_path-2-3.result.now
    c.deref-in-Alternative-Alternative.ensures c.deref-in-Alternative-Alternative-2.ensures c.deref-then-is_same_path-2-2.ensures.value c.deref-then-is_same_path-2-3.ensures.value
    (c.is_same_path-in-Alternative-Alternative.ensures c.if-is_same_path-2.true) (c.are_same_paths-then-is_same_path-2.ensures same) w.is-0 w.is-1
