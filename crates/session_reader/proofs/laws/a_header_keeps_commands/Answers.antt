use Rattle.session_reader.proofs.Languages.{header_keeps}
use Rattle.session_reader.proofs.laws.a_header_keeps_commands.Goals as goal

pub returns : goal.returns
returns c = header_keeps
