use Rattle.std.proofs.Common.{◌≡◌, ◌∙◌, ◌<◌, ◌≤◌, IsTrue, List, length, ap, sym, refl, subst, inr, arith}
use Rattle.std.specs.List.{All}
use Rattle.std.proofs.lemmas.List.{take_all}
use Rattle.std.proofs.lemmas.List.Elements.{All-contains, All-more}
use Rattle.std.proofs.lemmas.Result.{on_ok_weaker}
use Rattle.string_constraints.specs.Matches.{Searched, searched, with_matcher}
use Rattle.string_constraints.proofs.matchers.Matchers.place_of.Goals as goal

pub loop-place-preserved : goal.loop-place-preserved
loop-place-preserved c =
    let kept = c.args.self.now.kept in
    let one = searched c.args.regex.now c.args.flags.now in
    let place = c.loop-place.place in
    let less : place < length kept.items = omega (arith, c.loop-place-test.true, c.len-place-end.ensures, kept.ok.0) in
    All-more (λ (k : Searched). k ≡ one → ⊥) kept.items place c.index.result.now less c.loop-place.invariant (λ is.
    let same : c.index.result.now ≡ one = c.index.ensures ∙ is in
    let yes : IsTrue c.is_for.result = c.is_for.ensures.1 (ap (λ (k : Searched). k.source) same ∙ sym c.as_str.ensures, ap (λ (k : Searched). k.flags) same) in
    let no = c.if-is_for.false in
    cc (yes, no))

pub returns-clause-kept : goal.returns-clause-kept
returns-clause-kept c =
    let kept = c.args.self.now.kept in
    let one = searched c.args.regex.now c.args.flags.now in
    let IsOther : Searched → Type 0 = λ k. k ≡ one → ⊥ in
    let past : length kept.items ≤ c.loop-place.place = omega (arith, c.loop-place-test.false, c.len-place-end.ensures, kept.ok.0) in
    let others : All IsOther kept.items = subst (λ (ks : List Searched). All IsOther ks) (take_all c.loop-place.place kept.items past) c.loop-place.invariant in
    on_ok_weaker c.keep.result
    (λ added. inr ((λ has. All-contains IsOther kept.items one others has refl), added ∙ ap (with_matcher kept.items) c.in_ok-matcher.ensures))
    c.keep.ensures.kept
