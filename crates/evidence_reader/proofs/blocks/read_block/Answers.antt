use Rattle.std.proofs.Common.{◌∙◌, ◌++◌, Option, None, ap, subst, List, ℕ}
use Rattle.std.proofs.lemmas.Bool.Decides.{Decides-eqb}
use Rattle.std.proofs.lemmas.Slice.Eq.{strip_prefix_is}
use Rattle.record_text.proofs.OneSplit.{behind_mark}
use Rattle.evidence_blocks.specs.declared.block.Block.{Block}
use Rattle.evidence_reader.specs.Finding.{HasNot}
use Rattle.evidence_reader.specs.NextBlocks.{FindsBlock}
use Rattle.evidence_reader.proofs.RowTexts.{next_found, next_missing, next_spelled_otherwise, other_number}
use Rattle.evidence_reader.proofs.blocks.read_block.Goals as goal

pub returns-in_default : goal.returns-in_default
returns-in_default c =
    let line = c.as_bytes.ensures.value ∙ c.in_ok-line.ensures.ok in
    other_number c.args.number c.args.text.now (subst (λ (l : List ℕ). HasNot l c.args.text.now) line (strip_prefix_is Decides-eqb c.args.text.now c.as_bytes.result.now None c.in_default.ensures.cases))

pub returns-in_default-2 : goal.returns-in_default-2
returns-in_default-2 c =
    let line = c.as_bytes.ensures.value ∙ c.in_ok-line.ensures.ok in
    let is = behind_mark c.as_bytes.result.now c.args.text.now c.in-Some.behind.now c.in-Some.ensures.cases.0 c.in-Some.ensures.cases.1 ∙ ap (λ (l : List ℕ). l ++ c.in-Some.behind.now) line in
    next_missing c.args.number c.args.text.now c.in-Some.behind.now is (subst (λ (o : Option Block). FindsBlock c.in-Some.behind.now o) c.in_default-2.is c.in_ok-block.ensures)

pub returns-in-Some-strip_prefix : goal.returns-in-Some-strip_prefix
returns-in-Some-strip_prefix c =
    let line = c.as_bytes.ensures.value ∙ c.in_ok-line.ensures.ok in
    let is = behind_mark c.as_bytes.result.now c.args.text.now c.in-Some.behind.now c.in-Some.ensures.cases.0 c.in-Some.ensures.cases.1 ∙ ap (λ (l : List ℕ). l ++ c.in-Some.behind.now) line in
    let own = c.as_bytes-2.ensures.value ∙ c.in_ok-written.ensures in
    let rest = behind_mark c.as_bytes-2.result.now c.in-Some.behind.now c.in-Some-strip_prefix.rest.now c.in-Some-strip_prefix.ensures.cases.0 c.in-Some-strip_prefix.ensures.cases.1 ∙ ap (λ (l : List ℕ). l ++ c.in-Some-strip_prefix.rest.now) own in
    next_found c.args.number c.args.text.now c.in-Some.behind.now is c.in-Some-2.block (subst (λ (o : Option Block). FindsBlock c.in-Some.behind.now o) c.in-Some-2.is c.in_ok-block.ensures) c.in-Some-strip_prefix.rest rest

pub returns : goal.returns
returns c =
    let line = c.as_bytes.ensures.value ∙ c.in_ok-line.ensures.ok in
    let is = behind_mark c.as_bytes.result.now c.args.text.now c.in-Some.behind.now c.in-Some.ensures.cases.0 c.in-Some.ensures.cases.1 ∙ ap (λ (l : List ℕ). l ++ c.in-Some.behind.now) line in
    let own = c.as_bytes-2.ensures.value ∙ c.in_ok-written.ensures in
    next_spelled_otherwise c.args.number c.args.text.now c.in-Some.behind.now is c.in-Some-2.block (subst (λ (o : Option Block). FindsBlock c.in-Some.behind.now o) c.in-Some-2.is c.in_ok-block.ensures)
    (subst (λ (l : List ℕ). HasNot l c.in-Some.behind.now) own (strip_prefix_is Decides-eqb c.in-Some.behind.now c.as_bytes-2.result.now None c.in-None.ensures.cases))
