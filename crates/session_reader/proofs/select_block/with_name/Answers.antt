use Rattle.session_reader.proofs.Selects.{known_name}
use Rattle.session_reader.proofs.select_block.with_name.Goals as goal

pub returns-then-has_name : goal.returns-then-has_name
returns-then-has_name c = known_name _ _ c.in-Some.name.now c.in-Some.ensures (rw c.deref.ensures.value at c.if-has_name.ensures)
