use Rattle.std.proofs.Common.{◌+◌, ◌∷◌, ◌∙◌, sym, ap, take}
use Rattle.session_reader.specs.SessionFile.{file_lines}
use Rattle.session_reader.proofs.Cursor.{line_before, last_line, whole_rest}
use Rattle.session_reader.proofs.line_cursor.split_line.Goals as goal

pub returns-in-Some : goal.returns-in-Some
returns-in-Some c = (line_before c.args.bytes.now c.in-Some.end (sym c.line_feed.ensures ∙ c.in-Some.is)).1 ∙ ap (λ t. take c.in-Some.end c.args.bytes.now ∷ file_lines t) (sym (whole_rest c.args.bytes.now (c.in-Some.end + 1)))

pub returns-in-None : goal.returns-in-None
returns-in-None c = last_line c.args.bytes.now (sym c.line_feed.ensures ∙ c.in-None.is)
