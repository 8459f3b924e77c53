use Rattle.std.proofs.Common.{◌∙◌, ℕ, sym, ap, subst}
use Rattle.std.specs.Str.{IsCharBoundary}
use Rattle.ntriples_text.specs.LineBytes.{line_length}
use Rattle.ntriples_text.proofs.Lines.{line_boundary, lines_split, line_is_some}
use Rattle.ntriples_text.proofs.text_line.split_line.Goals as goal

pub split_at-requires : goal.split_at-requires
split_at-requires c =
    let text = c.args.text.now in
    subst (λ (n : ℕ). IsCharBoundary text n) (sym (c.line_length.ensures ∙ ap line_length c.as_bytes.ensures.value)) (line_boundary text c.utf8.text)

pub returns-clause-lines : goal.returns-clause-lines
returns-clause-lines c =
    lines_split c.args.text.now c.split_at.result.0.now c.split_at.result.1.now c.line_length.result c.utf8.text c.requires
    (c.line_length.ensures ∙ ap line_length c.as_bytes.ensures.value) c.split_at.ensures.front c.split_at.ensures.back

pub returns-clause-line : goal.returns-clause-line
returns-clause-line c =
    line_is_some c.args.text.now c.split_at.result.0.now c.line_length.result c.requires (c.line_length.ensures ∙ ap line_length c.as_bytes.ensures.value) c.split_at.ensures.front
