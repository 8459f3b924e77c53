-- What the words ask for, and that its numbers are within their bounds.
use Rattle.std.proofs.Common.{◌≡◌, ℕ, List, Some, None, ap, refl, subst, sym}
use Rattle.command_line.specs.declared.call.Call.{Call}
use Rattle.command_line.specs.declared.call.Call.TheVariants.{Run, Replay, CreateLog, Follow, Validate, Explain, Verify, Generate}
use Rattle.command_line.specs.Words.{call_of}
use Rattle.command_line.proofs.Bounds.{run_bound, replay_bound, generate_bound}
use Rattle.shacl_guard.specs.declared.request.Asked.{Asked}
use Rattle.shacl_guard.specs.Requests.{IsAsked, IsAskedWithin, asked_in, log_request_in, request_in}

within : (words : List (List ℕ)) (c : Call) → call_of words ≡ Some c → IsAskedWithin (asked_in c)
within words (Run l None fs) e = run_bound words l None fs e
within words (Run l (Some log) fs) e = (run_bound words l (Some log) fs e, refl)
within words (Replay l n fs) e = replay_bound words l n fs e
within words (CreateLog name) e = tt
within words (Follow log order version) e = tt
within words (Validate g s) e = tt
within words (Explain g s) e = tt
within words (Verify g s v) e = tt
within words (Generate n) e = generate_bound words n e

-- of a call that the words ask for
of_call : (words : List (List ℕ)) (c : Call) → call_of words ≡ Some c → IsAsked words (asked_in c)
of_call words c e = record { plain = ap request_in e; with_log = ap log_request_in e; within = within words c e }

pub asked : (words : List (List ℕ)) (c : Call) (a : Asked) → call_of words ≡ Some c → a ≡ asked_in c → IsAsked words a
asked words c a e is = subst (IsAsked words) (sym is) (of_call words c e)
