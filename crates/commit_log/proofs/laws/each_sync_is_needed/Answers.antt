use Rattle.commit_log.proofs.Records.{texts_of}
use Rattle.commit_log.proofs.Unsynced.{may_be_left, one_write, not_yet, opens_not, nothing_opens_not}
use Rattle.commit_log.proofs.laws.each_sync_is_needed.Goals as goal

pub returns : goal.returns
returns c = record {
  two_writes = may_be_left;
  one_write = one_write;
  not_yet = not_yet;
  torn_gate = λ records o. opens_not _ (texts_of _ records o);
  nothing = λ records o. nothing_opens_not _ (texts_of _ records o);
}
