use Rattle.std.proofs.Common.{◌<◌, ℕ, length, arith, sym, subst}
use Rattle.path_ast.specs.PathReadings.{IsNamedPath}
use Rattle.path_ast.proofs.Parts.{named_in_sequence, named_in_alternative, sequence_bound, alternative_bound}
use Rattle.path_ast.proofs.Sizes.{alternative_more, list_size, member_more, path_size, sequence_more}
use Rattle.path_ast.proofs.binding.+binding.Goals as goal

pub bind_path-bind_paths-requires : goal.bind_path-bind_paths-requires
bind_path-bind_paths-requires g t c κs within =
    let ps = c.deref-in-Sequence-2.result.now in
    let same = c.deref-in-Sequence-2.ensures.value in
    let less = sequence_more c.args.path.now c.in-Sequence.first c.in-Sequence.others c.in-Sequence.is ps same in
    (subst (λ (n : ℕ). list_size ps < n) c.decreases less, (within, named_in_sequence (g.N.Names.terms c.args.names.now) c.args.path.now c.in-Sequence.first c.in-Sequence.others c.in-Sequence.is c.requires ps same))

pub bind_path-bind_paths-requires-in-Alternative : goal.bind_path-bind_paths-requires-in-Alternative
bind_path-bind_paths-requires-in-Alternative g t c κs within =
    let ps = c.deref-in-Alternative-2.result.now in
    let same = c.deref-in-Alternative-2.ensures.value in
    let less = alternative_more c.args.path.now c.in-Alternative.first c.in-Alternative.others c.in-Alternative.is ps same in
    (subst (λ (n : ℕ). list_size ps < n) c.decreases less, (within, named_in_alternative (g.N.Names.terms c.args.names.now) c.args.path.now c.in-Alternative.first c.in-Alternative.others c.in-Alternative.is c.requires ps same))

pub bind_paths-bind_path-requires : goal.bind_paths-bind_path-requires
bind_paths-bind_path-requires g t c κs within =
    let lt : c.loop-path.path-index < length c.args.paths.now = omega (arith, c.loop-path-test.true) in
    let p = c.path-item.result in
    let less = member_more c.args.paths.now c.loop-path.path-index p lt c.path-item.is in
    (subst (λ (n : ℕ). path_size p < n) c.decreases less, (within, subst (IsNamedPath (g.N.Names.terms c.args.names.now)) (sym c.path-item.is) (c.requires c.loop-path.path-index p lt)))

pub bind_path-returns-in_ok-new-in-Sequence : goal.bind_path-returns-in_ok-new-in-Sequence
bind_path-returns-in_ok-new-in-Sequence g t c =
    let terms = g.N.Names.terms c.args.names.now in
    sequence_bound terms c.args.path.now c.in-Sequence.first c.in-Sequence.others c.deref-in-Sequence.result.now c.deref-in-Sequence-2.result.now c.deref-in-Sequence.ensures c.deref-in-Sequence-2.ensures.value
    c.in_ok-bound-in-Sequence.bound c.in_ok-new-in-Sequence.field-0 c.in_ok-more-in-Sequence.more c.in_ok-new-in-Sequence.ensures.ok c.in_ok-bound-in-Sequence.ensures c.in_ok-more-in-Sequence.ensures.0 c.in_ok-more-in-Sequence.ensures.1 c.in-Sequence.is

pub bind_path-returns-in_ok-new-in-Alternative : goal.bind_path-returns-in_ok-new-in-Alternative
bind_path-returns-in_ok-new-in-Alternative g t c =
    let terms = g.N.Names.terms c.args.names.now in
    alternative_bound terms c.args.path.now c.in-Alternative.first c.in-Alternative.others c.deref-in-Alternative.result.now c.deref-in-Alternative-2.result.now c.deref-in-Alternative.ensures c.deref-in-Alternative-2.ensures.value
    c.in_ok-bound-in-Alternative.bound c.in_ok-new-in-Alternative.field-0 c.in_ok-more-in-Alternative.more c.in_ok-new-in-Alternative.ensures.ok c.in_ok-bound-in-Alternative.ensures c.in_ok-more-in-Alternative.ensures.0 c.in_ok-more-in-Alternative.ensures.1 c.in-Alternative.is
