use Rattle.std.proofs.Common.{◌≡◌, ◌+◌, ◌≤◌, [], length}
use Rattle.std.specs.Str.{chars}
use denote.Text.{Utf8}
use denote.Shadow.{shadow}
use Rattle.ntriples_text.specs.Document.{lines, lines_from}
use Rattle.ntriples_text.specs.Progress.{going_on}
use Rattle.ntriples_text.proofs.document.read_lines.Given as goal

abbrev pub invariant-loop-rest : goal.invariant-loop-rest
invariant-loop-rest l = record {
  utf8 : shadow (Utf8 l.rest);
  bound : l.number + length l.rest ≤ 1 + length l.text;
  room : length l.numbering.labels + length l.rest ≤ length l.text;
  first : l.numbering.first ≡ l.fn.numbering.first;
  reading : going_on l.numbering.session l.numbering.first l.table l.numbering.labels (lines_from l.labels l.number (lines (chars l.rest))) ≡ going_on l.fn.numbering.session l.fn.numbering.first [] [] (lines_from l.labels 1 (lines (chars l.text)));
}

abbrev pub decreases-loop-rest : goal.decreases-loop-rest
decreases-loop-rest l = length l.rest
