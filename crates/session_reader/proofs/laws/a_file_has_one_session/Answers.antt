use Rattle.session_reader.proofs.OneSession.{one_session}
use Rattle.session_reader.proofs.laws.a_file_has_one_session.Goals as goal

pub returns : goal.returns
returns c = one_session
