-- Why a session wasn't given out, and why terms weren't named.
use Rattle.std.specs.Prelude.{◌≡◌, ℕ, List}
use Rattle.rdf_model.specs.declared.term.Term.{Term}
use Rattle.store_model.specs.declared.event.Action.TheVariants as actions
use Rattle.store_model.specs.declared.event.NameKind.{NameKind}
use Rattle.store_model.specs.declared.event.Reply.TheVariants as replies
use Rattle.store_model.specs.Store.{RecordedStore, TakesStep}
use Rattle.commit_core.specs.declared.store.SessionFault.{SessionFault}
use Rattle.commit_core.specs.declared.store.SessionFault.TheVariants as refusals
use Rattle.commit_core.specs.declared.naming.NamingFault.{NamingFault}
use Rattle.commit_core.specs.declared.naming.NamingFault.TheVariants.{Unknown, Full, Memory}

abbrev pub OpensNone : SessionFault → RecordedStore → RecordedStore → Type 0
OpensNone refusals.SessionsFull old new = TakesStep old new (record { session = 0; action = actions.Open; reply = replies.SessionsFull })
OpensNone refusals.Memory old new = new ≡ old

-- Each fault but want of memory is the plain store's reply to a block of this kind, as a step; want of memory changes nothing.
abbrev pub NamesNone : NamingFault → RecordedStore → RecordedStore → ℕ → NameKind → List Term → Type 0
NamesNone (Unknown node) old new i kind terms = TakesStep old new (record { session = i; action = actions.Name kind terms; reply = replies.Unknown node })
NamesNone (Full count) old new i kind terms = TakesStep old new (record { session = i; action = actions.Name kind terms; reply = replies.Full count })
NamesNone Memory old new i kind terms = new ≡ old
