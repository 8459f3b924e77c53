-- Commands whose blocks are refused.
use Rattle.std.specs.Prelude.{◌⊎◌}
use Rattle.std.proofs.Common.{◌≡◌, ℕ, Option, Some, None, inl, inr, refl, sym, ap, subst}
use Rattle.rdf_model.specs.declared.term.Term.{Term}
use Rattle.session_model.specs.declared.command.Command.{Command}
use Rattle.session_model.specs.declared.command.Command.TheVariants.{Begin, Add, BadAdd, Remove, BadRemove, Attach, BadAttach, Shapes, BadShapes, BrokenShapes, RefusedPattern, Commit, Find, Select, BadSelect, Report, Abort}
use Rattle.session_model.specs.declared.reply.SessionReply.{SessionReply}
use Rattle.session_model.specs.declared.reply.SessionReply.TheVariants as said
use Rattle.session_model.specs.Sessions.{OpenTransaction, local_answer, answers}
use Rattle.session_transaction.specs.Replies.{IsRefused, IsRefusedBlock, answer_in}

pub refused_block : (c : Command)
    → ((n : ℕ) × (kind : ℕ) × (c ≡ BadAdd n kind)) ⊎ (((n : ℕ) × (kind : ℕ) × (c ≡ BadRemove n kind)) ⊎ (((n : ℕ) × (kind : ℕ) × (c ≡ BadAttach n kind))
    ⊎ (((n : ℕ) × (kind : ℕ) × (c ≡ BadShapes n kind)) ⊎ (((rule : ℕ) × (node : Term) × (c ≡ BrokenShapes rule node)) ⊎ (((node : Term) × (c ≡ RefusedPattern node)) ⊎ ((n : ℕ) × (c ≡ BadSelect n)))))))
    → IsRefusedBlock c
refused_block c (inl h) = subst IsRefusedBlock (sym h.2) (said.AddRefused h.0 h.1, refl)
refused_block c (inr (inl h)) = subst IsRefusedBlock (sym h.2) (said.RemoveRefused h.0 h.1, refl)
refused_block c (inr (inr (inl h))) = subst IsRefusedBlock (sym h.2) (said.AttachRefused h.0 h.1, refl)
refused_block c (inr (inr (inr (inl h)))) = subst IsRefusedBlock (sym h.2) (said.ShapesRefused h.0 h.1, refl)
refused_block c (inr (inr (inr (inr (inl h))))) = subst IsRefusedBlock (sym h.2) (said.ShapesBroken h.0 h.1, refl)
refused_block c (inr (inr (inr (inr (inr (inl h)))))) = subst IsRefusedBlock (sym h.1) (said.PatternRefused h.0, refl)
refused_block c (inr (inr (inr (inr (inr (inr h)))))) = subst IsRefusedBlock (sym h.1) (said.SelectRefused h.0, refl)

refused_none : (c : Command) (r : SessionReply) → IsRefused c r → local_answer None c ≡ answers said.NoTransaction None
refused_none Begin r h = absurd h
refused_none (Add ts) r h = absurd h
refused_none (BadAdd n k) r h = refl
refused_none (Remove ts) r h = absurd h
refused_none (BadRemove n k) r h = refl
refused_none (Attach ts) r h = absurd h
refused_none (BadAttach n k) r h = refl
refused_none (Shapes ts) r h = absurd h
refused_none (BadShapes n k) r h = refl
refused_none (BrokenShapes rule node) r h = refl
refused_none (RefusedPattern node) r h = refl
refused_none Commit r h = absurd h
refused_none (Find p) r h = absurd h
refused_none (Select ps) r h = absurd h
refused_none (BadSelect n) r h = refl
refused_none Report r h = absurd h
refused_none Abort r h = absurd h

refused_some : (c : Command) (r : SessionReply) (w : OpenTransaction) → IsRefused c r → local_answer (Some w) c ≡ answers r (Some w)
refused_some Begin r w h = absurd h
refused_some (Add ts) r w h = absurd h
refused_some (BadAdd n k) r w h = ap (λ x. answers x (Some w)) (sym h)
refused_some (Remove ts) r w h = absurd h
refused_some (BadRemove n k) r w h = ap (λ x. answers x (Some w)) (sym h)
refused_some (Attach ts) r w h = absurd h
refused_some (BadAttach n k) r w h = ap (λ x. answers x (Some w)) (sym h)
refused_some (Shapes ts) r w h = absurd h
refused_some (BadShapes n k) r w h = ap (λ x. answers x (Some w)) (sym h)
refused_some (BrokenShapes rule node) r w h = ap (λ x. answers x (Some w)) (sym h)
refused_some (RefusedPattern node) r w h = ap (λ x. answers x (Some w)) (sym h)
refused_some Commit r w h = absurd h
refused_some (Find p) r w h = absurd h
refused_some (Select ps) r w h = absurd h
refused_some (BadSelect n) r w h = ap (λ x. answers x (Some w)) (sym h)
refused_some Report r w h = absurd h
refused_some Abort r w h = absurd h

-- such a command changes nothing
pub refused_by : (c : Command) (r : SessionReply) (u : Option OpenTransaction) → IsRefused c r → local_answer u c ≡ answers (answer_in u r) u
refused_by c r None h = refused_none c r h
refused_by c r (Some w) h = refused_some c r w h
