use Rattle.std.proofs.Common.{List, ℕ, string_bytes, sym, subst}
use Rattle.shape_model.specs.Validation.{NoResult}
use Rattle.graph_explanation.specs.Explanations.{IsExplanation}
use Rattle.graph_explanation.proofs.Members.{empty_where_none}
use Rattle.file_validation.proofs.Emptiness.{by_length}
use Rattle.file_validation.proofs.validating.explanation_of.Goals as goal

pub returns : goal.returns
returns c = λ graph is.
    let s = c.args.shapes.now in
    let text = string_bytes c.in_ok-text.text in
    let explained = c.in_ok-text.ensures graph is in
    record {
      explanation = subst (λ (bytes : List ℕ). IsExplanation graph s bytes) (sym c.in_ok-from_string.ensures) explained;
      conforms = by_length c.is_empty.result c.as_str.result.now text (NoResult graph s) c.is_empty.ensures c.as_str.ensures.value (empty_where_none graph s text explained);
    }
