-- What a block of a file is to the store.
use Rattle.std.proofs.Common.{◌≡◌, ℕ, List, [], ◌∷◌, ◌++◌, length, Some, None, refl}
use Rattle.rdf_model.specs.declared.term.Term.{Term}
use Rattle.rdf_model.specs.declared.triple.Triple.{Triple}
use Rattle.store_model.specs.declared.event.Action.TheVariants as actions
use Rattle.store_model.specs.declared.event.NameKind.{NameKind}
use Rattle.store_model.specs.declared.event.NameKind.TheVariants.{Fresh, Known, Attach}
use Rattle.store_model.specs.declared.event.Reply.TheVariants as replies
use Rattle.store_model.specs.Store.{State, with_named}
use Rattle.session_model.specs.declared.command.Command.{Command}
use Rattle.session_model.specs.declared.command.Command.TheVariants.{Shapes}
use Rattle.session_model.specs.declared.reply.SessionReply.{SessionReply}
use Rattle.session_model.specs.declared.reply.SessionReply.TheVariants as told
use Rattle.session_model.specs.Sessions as Sessions
use Rattle.session_model.specs.Sessions.{local_answer, answers, action_of, after_reply, up_to_event, parts_of}
use Rattle.session_transaction.specs.declared.transaction.OpenTransaction.{OpenTransaction}
use Rattle.session_transaction.specs.declared.transaction.ChangeKind.{ChangeKind}
use Rattle.session_transaction.specs.declared.transaction.ChangeKind.TheVariants.{Addition, Removal, Attachment}
use Rattle.session_transaction.specs.Transactions.{FitsState, changes_of, command_of, name_kind_of, plain, reply_of, with_changes, with_shapes}
use Rattle.session_transaction.proofs.Fitting.{fits_changes, fits_shapes}

-- its action, its replies, and what it makes of the transaction
pub record IsBlock (c : Command) (kind : NameKind) (ts : List Triple) (staged : OpenTransaction → OpenTransaction) (done : SessionReply) : Type 0 where
  pub free : local_answer None c ≡ answers told.NoTransaction None
  pub event : (w : Sessions.OpenTransaction) → local_answer (Some w) c ≡ None
  pub action : (w : Sessions.OpenTransaction) → action_of (Some w) c ≡ Some (actions.Name kind (parts_of ts))
  pub named : (s : State) (w : OpenTransaction) (cs : List Command) (rs : List SessionReply) → after_reply s (Some (plain w)) c cs rs replies.Named ≡ Some (up_to_event (Some (plain (staged w))) cs (rs ++ done ∷ []))
  pub full : (s : State) (w : OpenTransaction) (n : ℕ) (cs : List Command) (rs : List SessionReply) → after_reply s (Some (plain w)) c cs rs (replies.Full n) ≡ Some (up_to_event (Some (plain w)) cs (rs ++ told.FullTerms ∷ []))
  pub unknown : (s : State) (w : OpenTransaction) (node : Term) (cs : List Command) (rs : List SessionReply) → kind ≡ Attach
      → after_reply s (Some (plain w)) c cs rs (replies.Unknown node) ≡ Some (up_to_event (Some (plain w)) cs (rs ++ told.UnknownNode node ∷ []))
  pub fits : (w : OpenTransaction) (s t : State) → t ≡ with_named s kind (parts_of ts) → FitsState w.transaction s → FitsState (staged w).transaction t

fresh_never : Fresh ≡ Attach → ⊥
fresh_never e = cc

known_never : Known ≡ Attach → ⊥
known_never e = cc

pub block_change : (k : ChangeKind) (ts : List Triple) → IsBlock (command_of k ts) (name_kind_of k) ts (λ w. with_changes w (changes_of k ts)) (reply_of k (length ts))
block_change Addition ts = record {
  free = refl;
  event = λ w. refl;
  action = λ w. refl;
  named = λ s w cs rs. refl;
  full = λ s w n cs rs. refl;
  unknown = λ s w node cs rs e. absurd (fresh_never e);
  fits = λ w s t e f. fits_changes w.transaction s t Fresh Addition ts e f;
}
block_change Removal ts = record {
  free = refl;
  event = λ w. refl;
  action = λ w. refl;
  named = λ s w cs rs. refl;
  full = λ s w n cs rs. refl;
  unknown = λ s w node cs rs e. absurd (known_never e);
  fits = λ w s t e f. fits_changes w.transaction s t Known Removal ts e f;
}
block_change Attachment ts = record {
  free = refl;
  event = λ w. refl;
  action = λ w. refl;
  named = λ s w cs rs. refl;
  full = λ s w n cs rs. refl;
  unknown = λ s w node cs rs e. refl;
  fits = λ w s t e f. fits_changes w.transaction s t Attach Attachment ts e f;
}

pub block_shapes : (ts : List Triple) → IsBlock (Shapes ts) Fresh ts (λ w. with_shapes w ts) (told.ShapesStaged (length ts))
block_shapes ts = record {
  free = refl;
  event = λ w. refl;
  action = λ w. refl;
  named = λ s w cs rs. refl;
  full = λ s w n cs rs. refl;
  unknown = λ s w node cs rs e. absurd (fresh_never e);
  fits = λ w s t e f. fits_shapes w.transaction s t Fresh ts e f;
}
