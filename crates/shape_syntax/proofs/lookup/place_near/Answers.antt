use Rattle.std.proofs.Common.{◌-◌, ◌<◌, ℕ, arith, drop, length, subst, sym, take}
use Rattle.std.specs.List.{Contains}
use Rattle.rdf_model.specs.Terms.{triple_cmp}
use Rattle.shape_syntax.proofs.Places.{key, subject_cmp, subject_total, subject_agrees, term_tied}
use Rattle.shape_syntax.proofs.Ranges.{in_behind, behind_ascending}
use Rattle.shape_syntax.proofs.lookup.place_near.Goals as goal

pub count_upto_subject-requires : goal.count_upto_subject-requires
count_upto_subject-requires c = behind_ascending triple_cmp subject_cmp subject_total subject_agrees c.count_before_subject-first.result c.args.triples.now c.requires

pub returns-then-count_upto_subject-eq0-clause-none : goal.returns-then-count_upto_subject-eq0-clause-none
returns-then-count_upto_subject-eq0-clause-none c = λ _ t d s.
    let xs = c.args.triples.now in
    let i = c.count_before_subject-first.result in
    let ys = take (length xs - i) (drop i xs) in
    let k = key c.args.node.now c.args.node.now in
    let h = in_behind triple_cmp subject_cmp subject_total subject_agrees k xs i c.count_upto_subject.result c.count_before_subject-first.ensures.bound c.count_upto_subject.ensures.bound
    c.count_before_subject-first.ensures.point
    c.count_upto_subject.ensures.point t in
    subst (λ (n : ℕ). Contains (take n ys) t → ⊥) (sym c.if-count_upto_subject-eq0.true) (λ z. let below : z.0 < 0 = z.1 in absurd (omega arith)) (h.1 (d, term_tied t.subject c.args.node.now s))
