use Rattle.std.proofs.Common.{refl}
use Rattle.session_files.proofs.Preparing.{unread_lines}
use Rattle.session_files.proofs.loading.loaded_file.Goals as goal

pub returns-in-Ok-false-clause-answer : goal.returns-in-Ok-false-clause-answer
returns-in-Ok-false-clause-answer g c = (
  record {
    readable = record { low = c.requires.session.0; high = c.requires.session.1; number = c.requires.first; short = c.requires.room };
    is_session = refl;
    is_first = refl;
    are_bytes = refl;
    lines = rw c.deref.ensures.value at rw c.in-Ok-false.field-0-test at c.in-Ok-false.ensures;
  },
  refl,
)

pub returns-in-Err-clause-answer : goal.returns-in-Err-clause-answer
returns-in-Err-clause-answer g c = unread_lines c.in-Err.fault _ _ _ _ _ c.requires.room c.session_fault.ensures (rw c.deref.ensures.value at c.in-Err.ensures)
