use Rattle.std.proofs.Common.{◌≡◌, ◌∙◌, Ok, Err, sym, subst, List, ℕ}
use Rattle.std.specs.Str.{IsUtf8}
use Rattle.evidence_reader.proofs.Numbered.{is_component, number_is_text, number_parsed}
use Rattle.evidence_reader.proofs.components.component_of.Goals as goal

pub returns-in_default : goal.returns-in_default
returns-in_default c = record { sound = tt; every = λ d p e. absurd (c.in_default.ensures.cases.0 (subst (λ (l : List ℕ). IsUtf8 l) (sym e) (number_is_text d))) }

pub returns-in-Ok-parse : goal.returns-in-Ok-parse
returns-in-Ok-parse c = record {
  sound = is_component c.with_number.result;
  every = λ d p e. (let k = number_parsed d c.in-Ok.digits.now c.parse.result (c.in-Ok.ensures.cases.0 ∙ e) c.parse.ensures.value.0 in let j : Ok c.in-Ok-parse.number ≡ Ok _ = sym c.in-Ok-parse.is ∙ k in c.with_number.ensures d cc);
}

pub returns-in-Err : goal.returns-in-Err
returns-in-Err c = record {
  sound = tt;
  every = λ d p e. (let k = number_parsed d c.in-Ok.digits.now c.parse.result (c.in-Ok.ensures.cases.0 ∙ e) c.parse.ensures.value.0 in let j : Err c.in-Err.field-0 ≡ Ok _ = sym c.in-Err.is ∙ k in cc);
}
