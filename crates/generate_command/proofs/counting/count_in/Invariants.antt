use Rattle.std.proofs.Common.{◌≡◌, ◌≤◌, take}
use Rattle.std.specs.List.{count_by}
use Rattle.generate_command.specs.Counts.{is_commit, is_refusal}
use Rattle.generate_command.proofs.counting.count_in.Given as goal

abbrev pub invariant-loop-reply : goal.invariant-loop-reply
invariant-loop-reply l = record {
  commits : l.commits ≡ count_by is_commit (take l.reply-index l.replies);
  refused : l.refused ≡ count_by is_refusal (take l.reply-index l.replies);
  few_commits : l.commits ≤ l.reply-index;
  few_refused : l.refused ≤ l.reply-index;
}
