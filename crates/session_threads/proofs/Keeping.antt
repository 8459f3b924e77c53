-- A session's own events, when others add theirs and when it adds one.
use Rattle.std.proofs.Common.{◌≡◌, ℕ, ◌==◌, nat_eq, Bool, true, false, cond, List, [], ◌∷◌, ◌++◌, Option, refl, sym, ◌∙◌, subst, eq-eqb}
use Rattle.std.specs.Prelude.{MatchBool}
use Rattle.std.proofs.lemmas.List.{append-nil, append_cancel_left}
use Rattle.turn_lock.specs.History.{under, OthersAdded, has_number}
use Rattle.turn_lock.specs.declared.view.Known.{Known}
use Rattle.turn_lock.proofs.Added.{under_append}
use Rattle.store_model.specs.declared.event.Limits.{Limits}
use Rattle.store_model.specs.declared.event.Event.{Event}
use Rattle.store_model.specs.declared.event.Action.{Action}
use Rattle.store_model.specs.declared.event.Reply.{Reply}
use Rattle.store_model.specs.Store.{State, Replays}
use Rattle.session_model.specs.declared.command.Command.{Command}
use Rattle.session_model.specs.declared.reply.SessionReply.{SessionReply}
use Rattle.session_model.specs.Sessions.{OpenTransaction, SessionState, GoesOn}
use Rattle.session_laws.specs.Following.{is_opening, unaided, OwnCommand, Follows}
use Rattle.guard_store.specs.Fronts.{session_of}
use Rattle.guard_store.proofs.Growing.{replays_one}

own_map : (a : Action) (s : State) (r : Reply) (w : Option OpenTransaction) (cs : List Command) (rs : List SessionReply) (F G : SessionState → Type 0) → ((k : SessionState) → F k → G k) → OwnCommand a s r w cs rs F → OwnCommand a s r w cs rs G
own_map a s r w [] rs F G f o = o
own_map a s r w (c ∷ cs) rs F G f o = (o.0, o.1, f o.0 o.2)

turn_map : (a : Action) (s : State) (r : Reply) (p : SessionState) (F G : SessionState → Type 0) (b c : Bool) → ((k : SessionState) → F k → G k)
    → MatchBool b (MatchBool c (F p) (OwnCommand a s r p.current p.commands p.replies F)) (F p) → MatchBool b (MatchBool c (G p) (OwnCommand a s r p.current p.commands p.replies G)) (G p)
turn_map a s r p F G true true f h = f p h
turn_map a s r p F G true false f h = own_map a s r p.current p.commands p.replies F G f h
turn_map a s r p F G false c f h = f p h

pub follows_append : (l : Limits) (i : ℕ) (s : State) (a b : List Event) (p k q : SessionState) → Follows l i s a p k → ((m : State) → Replays l s a m → Follows l i m b k q) → Follows l i s (a ++ b) p q
follows_append l i s [] b p k q h f = subst (λ (z : SessionState). Follows l i s b z q) h (f s refl)
follows_append l i s (e ∷ a) b p k q h f = λ t step.
    turn_map e.action s e.reply p (λ z. Follows l i t a z k) (λ z. Follows l i t (a ++ b) z q) (nat_eq e.session i) (is_opening e.action)
    (λ z y. follows_append l i t a b z k q y (λ m r. f m (t, step, r))) (h t step)

none_of : (e : Event) (b : Bool) (xs : List Event) → cond b (e ∷ xs) xs ≡ [] → (b ≡ false) × (xs ≡ [])
none_of e true xs h = cc
none_of e false xs h = (refl, h)

others_by : (X Y : Type 0) (b : Bool) → b ≡ false → Y → MatchBool b X Y
others_by X Y true e y = cc
others_by X Y false e y = y

own_by : (X Y Z : Type 0) (b c : Bool) → b ≡ true → c ≡ false → Y → MatchBool b (MatchBool c X Y) Z
own_by X Y Z true true e f y = cc
own_by X Y Z true false e f y = y
own_by X Y Z false c e f y = cc

-- events of others move nothing
pub follows_others : (l : Limits) (i : ℕ) (s : State) (es : List Event) (p : SessionState) → under session_of i es ≡ [] → Follows l i s es p p
follows_others l i s [] p h = refl
follows_others l i s (e ∷ es) p h = λ t step. let n = none_of e (e.session == i) (under session_of i es) h in
    others_by _ (Follows l i t es p p) (nat_eq e.session i) n.0 (follows_others l i t es p n.1)

-- one own event, which is that of the next command
pub follows_own : (l : Limits) (i : ℕ) (s : State) (w : Option OpenTransaction) (c : Command) (cs : List Command) (rs : List SessionReply) (a : Action) (r : Reply) (q : SessionState) → is_opening a ≡ false → GoesOn s w c cs rs (unaided a) r q
    → Follows l i s (record { session = i; action = a; reply = r } ∷ []) (record { current = w; commands = c ∷ cs; replies = rs }) q
follows_own l i s w c cs rs a r q e on = λ t step. own_by _ _ _ (nat_eq i i) (is_opening a) (eq-eqb i i refl) e (q, on, refl)

-- the opening
either_way : (p : SessionState) (Y : Type 0) (b c : Bool) → c ≡ true → MatchBool b (MatchBool c (p ≡ p) Y) (p ≡ p)
either_way p Y true true o = refl
either_way p Y true false o = cc
either_way p Y false c o = refl

pub follows_opening : (l : Limits) (i : ℕ) (s : State) (e : Event) (p : SessionState) → is_opening e.action ≡ true → Follows l i s (e ∷ []) p p
follows_opening l i s e p o = λ t step. either_way p _ (nat_eq e.session i) (is_opening e.action) o

-- what others added has none of the own numbers
pub none_under : (k : Known Event) (i : ℕ) (rest : List Event) → has_number k.numbers i ≡ true → OthersAdded session_of false k (k.front ++ rest) → under session_of i rest ≡ []
none_under k i rest own q = append_cancel_left (under session_of i k.front) (under session_of i rest) []
    (sym (under_append session_of i k.front rest) ∙ (q.own i own ∙ sym (append-nil (under session_of i k.front))))

-- a session has played as far when others have added theirs
pub played_still : (l : Limits) (start : State) (i : ℕ) (k : Known Event) (h : List Event) (p q : SessionState) → has_number k.numbers i ≡ true → OthersAdded session_of false k h → Follows l i start k.front p q → Follows l i start h p q
played_still l start i k h p q own o f =
    let none = none_under k i o.begins.0 own (subst (λ (x : List Event). OthersAdded session_of false k x) (sym o.begins.1) o) in
    subst (λ (x : List Event). Follows l i start x p q) o.begins.1 (follows_append l i start k.front o.begins.0 p q q f (λ m r. follows_others l i m o.begins.0 q none))

-- it plays one event more, where all that was seen leads to s
pub played_on : (l : Limits) (start : State) (i : ℕ) (h : List Event) (p : SessionState) (w : Option OpenTransaction) (c : Command) (cs : List Command) (rs : List SessionReply) (a : Action) (r : Reply) (q : SessionState) (s : State)
    → is_opening a ≡ false → GoesOn s w c cs rs (unaided a) r q → Replays l start h s → Follows l i start h p (record { current = w; commands = c ∷ cs; replies = rs }) → Follows l i start (h ++ record { session = i; action = a; reply = r } ∷ []) p q
played_on l start i h p w c cs rs a r q s e on replays f =
    let event : Event = record { session = i; action = a; reply = r } in
    let before : SessionState = record { current = w; commands = c ∷ cs; replies = rs } in
    follows_append l i start h (event ∷ []) p before q f
    (λ m g. subst (λ (x : State). Follows l i x (event ∷ []) before q) (sym (replays_one l start s m h replays g)) (follows_own l i s w c cs rs a r q e on))
