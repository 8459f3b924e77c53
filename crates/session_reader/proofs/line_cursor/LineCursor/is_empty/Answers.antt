use Rattle.std.proofs.Common.{◌==◌, ◌∙◌, sym, ap, length}
use Rattle.std.specs.Option.{option_copied}
use Rattle.session_reader.specs.Progress.{lines_left}
use Rattle.session_reader.proofs.Cursor.{some_line}
use Rattle.session_reader.proofs.line_cursor.LineCursor.is_empty.Goals as goal

pub returns-in-Some : goal.returns-in-Some
returns-in-Some c = some_line c.in-Some.field-0.now ∙ sym (ap (λ ls. length ls == 0) (sym c.self.view_is ∙ ap (λ r. lines_left (option_copied r)) c.in-Some.is))
