use Rattle.session_files.proofs.Replaying.{unrefused_read_alike}
use Rattle.session_files.proofs.laws.unrefused_files_read_alike.Goals as goal

pub returns : goal.returns
returns c = unrefused_read_alike
