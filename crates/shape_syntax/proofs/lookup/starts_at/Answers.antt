use Rattle.std.proofs.Common.{◌≡◌, ◌∙◌, ◌-◌, get_or, true, false, subst, sym, ap, arith, inl, inr}
use Rattle.std.proofs.lemmas.List.{get_or_default}
use Rattle.std.specs.Ordering.{is_lt}
use Rattle.rdf_model.specs.declared.triple.Triple.{Triple}
use Rattle.rdf_model.specs.Terms.{term_cmp, triple_cmp}
use Rattle.shape_syntax.proofs.Places.{key, subject_cmp, subject_total, subject_agrees, term_tied}
use Rattle.shape_syntax.proofs.Ranges.{lt_here}
use Rattle.shape_syntax.proofs.lookup.starts_at.Goals as goal

pub returns-then-place-eq0 : goal.returns-then-place-eq0
returns-then-place-eq0 c = λ h.
    let xs = c.args.triples.now in
    let n = c.args.node.now in
    let t = c.index-triples-place.result in
    let tied = term_tied (get_or xs c.args.place t).subject n (c.is_same.ensures.0 c.if-not-is_same.false) in
    lt_here triple_cmp subject_cmp subject_total subject_agrees (key n n) xs c.requires.ascending c.args.place c.requires.place
    (λ d. subst (λ (z : Triple). is_lt (term_cmp z.subject n) ≡ false) (get_or_default xs c.args.place t d c.requires.place) (ap is_lt tied))
    (inl (omega (arith, c.if-place-eq0.true)))

pub returns-else-place-eq0 : goal.returns-else-place-eq0
returns-else-place-eq0 c = λ h.
    let xs = c.args.triples.now in
    let n = c.args.node.now in
    let t = c.index-triples-place.result in
    let tied = term_tied (get_or xs c.args.place t).subject n (c.is_same.ensures.0 c.if-not-is_same.false) in
    let u = c.index-triples-place-else-place-eq0.result in
    let before : is_lt (term_cmp u.subject n) ≡ true = ap is_lt (sym c.compare_subject.ensures) ∙ sym c.is_lt.ensures ∙ h in
    lt_here triple_cmp subject_cmp subject_total subject_agrees (key n n) xs c.requires.ascending c.args.place c.requires.place
    (λ d. subst (λ (z : Triple). is_lt (term_cmp z.subject n) ≡ false) (get_or_default xs c.args.place t d c.requires.place) (ap is_lt tied))
    (inr (λ d. subst (λ (z : Triple). is_lt (term_cmp z.subject n) ≡ true) (c.index-triples-place-else-place-eq0.is ∙ get_or_default xs (c.args.place - 1) u d (omega (arith, c.requires.place))) before))
