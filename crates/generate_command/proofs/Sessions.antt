-- A run has as many sessions as files, and what is told of it.
use Rattle.std.proofs.Common.{◌≡◌, ℕ, ◌+◌, ◌-◌, Bool, true, false, List, [], ◌∷◌, length, Option, None, ap, ◌∙◌}
use Rattle.std.specs.Prelude.{IfOk, MatchBool, Result, Ok, Err, nat_eq}
use Rattle.std.proofs.lemmas.List.{length-map, length-set}
use Rattle.outside.specs.Faults.{Refusal}
use Rattle.store_model.specs.declared.event.Limits.{Limits}
use Rattle.store_model.specs.Store.{State, empty_store}
use Rattle.session_model.specs.declared.command.Command.{Command}
use Rattle.session_model.specs.declared.reply.SessionReply.{SessionReply}
use Rattle.session_model.specs.Sessions.{HasReplies, OpenTransaction, RunsEvent, RunsInOrder, RunsOpening, World, session_at, start}
use Rattle.session_threads.specs.Ends.{HasEnd}
use Rattle.generate_command.specs.Load.{AreSessions, IsLoad, load_limits, load_text}

event_count : (l : Limits) (m n : World) (i : ℕ) (w : Option OpenTransaction) (cs : List Command) (replies : List SessionReply) → RunsEvent l m i false w cs replies n → length n.sessions ≡ length m.sessions
event_count l m n i w [] replies h = absurd h
event_count l m n i w (c ∷ cs) replies h = ap (λ (x : World). length x.sessions) h.6 ∙ length-set m.sessions (i - 1) _

place_count : (l : Limits) (m n : World) (i : ℕ) (b : Bool) (w : Option OpenTransaction) (cs : List Command) (replies : List SessionReply) → MatchBool b (RunsOpening l m i false n) (RunsEvent l m i false w cs replies n) → length n.sessions ≡ length m.sessions
place_count l m n i true w cs replies h = ap (λ (x : World). length x.sessions) h.1.3
place_count l m n i false w cs replies h = event_count l m n i w cs replies h

order_count : (l : Limits) (m n : World) (order : List ℕ) → RunsInOrder l m order None n → length n.sessions ≡ length m.sessions
order_count l m n [] h = ap (λ (x : World). length x.sessions) h
order_count l m n (i ∷ order) h =
    order_count l h.0 n order h.2 ∙ place_count l m h.0 i (nat_eq i (m.state.opened + 1)) (session_at m i).current (session_at m i).commands (session_at m i).replies h.1

pub count_of_run : (files : List (List Command)) (l : Limits) (s : State) (order : List ℕ) (all : List (List SessionReply)) → HasReplies files l s order None all → length all ≡ length files
count_of_run files l s order all h = ap length h.replies ∙ (length-map h.last.sessions (λ p. p.replies) ∙ (order_count l (start s files) h.last order h.runs ∙ length-map files _))

pub told : {X E : Type 0} (of : X → List ℕ) (r : Result X E) (n : ℕ) (old new : List Refusal) (all : List (List Command)) (order : List ℕ) (replies given : List (List SessionReply)) (triples : ℕ) → length all ≡ 4 → AreSessions n 1 all old new → HasEnd all load_limits empty_store order None replies triples
    → given ≡ replies → IfOk r (λ x. of x ≡ load_text n given triples) → IfOk r (λ x. IsLoad n old new (of x))
told of (Ok x) n old new all order replies given triples four sessions end same is = record {
  all = all;
  order = order;
  replies = replies;
  four = four;
  sessions = sessions;
  run = end.0;
  printed = is ∙ (ap (λ (rs : List (List SessionReply)). load_text n rs triples) same ∙ ap (load_text n replies) end.1);
}
told of (Err e) n old new all order replies given triples four sessions end same is = tt
