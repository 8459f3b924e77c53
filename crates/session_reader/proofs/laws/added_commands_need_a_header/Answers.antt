use Rattle.session_reader.proofs.Languages.{need_header}
use Rattle.session_reader.proofs.laws.added_commands_need_a_header.Goals as goal

pub returns : goal.returns
returns c = need_header
