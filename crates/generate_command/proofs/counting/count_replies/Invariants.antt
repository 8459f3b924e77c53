use Rattle.std.proofs.Common.{◌≡◌, ◌≤◌, ◌*◌, ◌^◌, take}
use Rattle.generate_command.specs.Counts.{count_replies, is_commit, is_refusal}
use Rattle.generate_command.proofs.counting.count_replies.Given as goal

abbrev pub invariant-loop-replies : goal.invariant-loop-replies
invariant-loop-replies l = record {
  commits : l.commits ≡ count_replies is_commit (take l.replies-index l.all);
  refused : l.refused ≡ count_replies is_refusal (take l.replies-index l.all);
  few_commits : l.commits ≤ l.replies-index * 2 ^ 60;
  few_refused : l.refused ≤ l.replies-index * 2 ^ 60;
}
