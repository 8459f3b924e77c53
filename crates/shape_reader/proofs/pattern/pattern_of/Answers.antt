use Rattle.std.proofs.Common.{refl, inl, inr}
use Rattle.std.proofs.lemmas.Result.{err_from_is_err_and}
use Rattle.shape_reader.proofs.Requests.{asked_built, asked_vain}
use Rattle.shape_reader.proofs.WellFormed.{pattern_texts}
use Rattle.shape_reader.proofs.pattern.pattern_of.Goals as goal

pub text_of-requires : goal.text_of-requires
text_of-requires g c = pattern_texts c.args.shape.now.graph c.recall.ensures.well_formed c.args.shape.now.node c.recall.ensures.shape c.in-Some.value.now c.in-Some.ensures

pub returns-in_default-clause-asked : goal.returns-in_default-clause-asked
returns-in_default-clause-asked g c = inl ((λ h. c.in_default.ensures h.0 h.1), refl)

pub returns-in_err-regex-clause-asked : goal.returns-in_err-regex-clause-asked
returns-in_err-regex-clause-asked g c =
    let p = err_from_is_err_and c.from_residual.result c.from_residual.ensures.1 in
    rw (p.1, p.2) (asked_vain c.args.shape.now.graph c.args.shape.now.node c.in-Some.value.now c.text_of.result.now c.flags_text.result.now _ _ _ c.in-Some.ensures c.text_of.ensures c.flags_text.ensures c.in_err-regex.ensures.asked)

pub returns-in_err-clone-clause-asked : goal.returns-in_err-clone-clause-asked
returns-in_err-clone-clause-asked g c =
    let p = err_from_is_err_and c.from_residual-in_err-clone.result c.from_residual-in_err-clone.ensures.1 in
    rw (p.1, p.2) (inr (asked_built c.args.shape.now.graph c.args.shape.now.node c.in-Some.value.now c.text_of.result.now c.flags_text.result.now _ _ c.in-Some.ensures c.text_of.ensures c.flags_text.ensures c.in_ok-regex.ensures.asked))

pub returns-in_err-shared-clause-asked : goal.returns-in_err-shared-clause-asked
returns-in_err-shared-clause-asked g c =
    let p = err_from_is_err_and c.from_residual-in_err-shared.result c.from_residual-in_err-shared.ensures.1 in
    rw (p.1, p.2) (inr (asked_built c.args.shape.now.graph c.args.shape.now.node c.in-Some.value.now c.text_of.result.now c.flags_text.result.now _ _ c.in-Some.ensures c.text_of.ensures c.flags_text.ensures c.in_ok-regex.ensures.asked))

pub returns-clause-asked : goal.returns-clause-asked
returns-clause-asked g c = inr (asked_built c.args.shape.now.graph c.args.shape.now.node c.in-Some.value.now c.text_of.result.now c.flags_text.result.now _ _ c.in-Some.ensures c.text_of.ensures c.flags_text.ensures c.in_ok-regex.ensures.asked)
