-- Each action's steps, and how many answers may follow.
use Rattle.std.proofs.Common.{◌≡◌, ℕ, ◌+◌, ◌-◌, ◌<◌, ◌≤◌, Bool, true, false, ◌||◌, nat_lt, List, [], ◌∷◌, length, Option, Some, None, refl, sym, ap, ◌∙◌, subst, arith, inl, inr}
use Rattle.std.specs.Prelude.{MatchBool, MatchOption, ◌⊎◌}
use Rattle.std.proofs.lemmas.Bool.Decides.{nat_tests}
use Rattle.rdf_model.specs.declared.term.Term.{Term}
use Rattle.rdf_model.specs.declared.triple.Triple.{Triple}
use Rattle.store_model.specs.declared.event.BlockMode.{BlockMode}
use Rattle.store_model.specs.declared.event.BlockMode.TheVariants.{All}
use Rattle.store_model.specs.declared.event.Limits.{Limits}
use Rattle.store_model.specs.declared.event.NameKind.{NameKind}
use Rattle.shape_model.specs.declared.result_row.ResultRow.{ResultRow}
use Rattle.store_model.specs.declared.commit.Again.{Again}
use Rattle.store_model.specs.declared.commit.Transaction.{Transaction}
use Rattle.store_model.specs.declared.commit.Overtaker.{Overtaker}
use Rattle.store_model.specs.declared.event.Action.{Action}
use Rattle.store_model.specs.declared.event.Action.TheVariants.{Open, Begin, Name, Head, Commit, Void}
use Rattle.store_model.specs.declared.event.Reply.{Reply}
use Rattle.store_model.specs.declared.event.Reply.TheVariants.{Session, SessionsFull, Version, Named, Unknown, Full, Conflict, FullTriples, Refused, Done, LogFault, Stopped, Nothing}
use Rattle.rdf_model.specs.Graphs.{after}
use Rattle.shape_model.specs.Validation.{Listing}
use Rattle.shape_model.proofs.Listings.{listing_law}
use Rattle.store_model.specs.Blocking.{has_blocking}
use Rattle.store_model.specs.Logs.{IsUnlogged, StepIsDeterministic}
use Rattle.store_model.specs.Nodes.{unknown_by}
use Rattle.store_model.specs.Store.{State, version, again, overtaker, named_with, shapes_under, committed, with_named, IsOpened, IsCommittable, Replies, OpensNext, OpensNothing, AcceptsCommit, CommitsByRows, CommitsByListing, CommitsWithinLimit, CommitsUnlessOvertaken, NamesWithinLimit, NamesUnless, StepOf, AcceptsOrFails, ReplyGivesOneState, StepGivesOneReply}

-- at most one list is a listing
pub Listing-deterministic : (graph shapes : List Triple) (a b : List ResultRow) → Listing graph shapes a → Listing graph shapes b → b ≡ a
Listing-deterministic graph shapes a b h k = listing_law graph shapes b a k h

-- two answers of one step
abbrev OneStep : Reply → Reply → State → State → Type 0
OneStep q r t u = ((r ≡ q) × (u ≡ t)) ⊎ AcceptsOrFails q r

same : (p : Reply) (m : State) (q r : Reply) (t u : State) → Replies p m q t → Replies p m r u → OneStep q r t u
same p m q r t u h k = inl (k.0 ∙ sym h.0, k.1 ∙ sym h.1)

accepts_or_fails : (n : ℕ) (why : Again) (q r : Reply) → q ≡ Done n why → r ≡ LogFault → AcceptsOrFails q r
accepts_or_fails n why q r e f = subst (λ (x : Reply). AcceptsOrFails x r) (sym e) (subst (λ (y : Reply). AcceptsOrFails (Done n why) y) (sym f) tt)

fails_or_accepts : (n : ℕ) (why : Again) (q r : Reply) → q ≡ LogFault → r ≡ Done n why → AcceptsOrFails q r
fails_or_accepts n why q r e f = subst (λ (x : Reply). AcceptsOrFails x r) (sym e) (subst (λ (y : Reply). AcceptsOrFails LogFault y) (sym f) tt)

accepts_one : (s : State) (x : Transaction) (q r : Reply) (t u : State) → AcceptsCommit s x q t → AcceptsCommit s x r u → OneStep q r t u
accepts_one s x q r t u h k =
    let why = again s.commits x.staged x.verdict in
    elim h [
      | inl a ↦ elim k [
        | inl b ↦ same (Done (version s + 1) why) (committed s x) q r t u a b
        | inr b ↦ inr (accepts_or_fails (version s + 1) why q r a.0 b.0)
      ]
      | inr a ↦ elim k [
        | inl b ↦ inr (fails_or_accepts (version s + 1) why q r a.0 b.0)
        | inr b ↦ same LogFault (record s { stopped = true }) q r t u a b
      ]
    ]

rows_one : (s : State) (x : Transaction) (p q r : Reply) (t u : State) (b : Bool) → MatchBool b (Replies p s q t) (AcceptsCommit s x q t) → MatchBool b (Replies p s r u) (AcceptsCommit s x r u) → OneStep q r t u
rows_one s x p q r t u true h k = same p s q r t u h k
rows_one s x p q r t u false h k = accepts_one s x q r t u h k

judged_one : (l : Limits) (s : State) (x : Transaction) (q r : Reply) (t u : State) → CommitsByListing l s x q t → CommitsByListing l s x r u → OneStep q r t u
judged_one l s x q r t u h k =
    let e = Listing-deterministic (after s.graph x.net) (shapes_under s.shapes x.staged) h.0 k.0 h.1 k.1 in
    rows_one s x (Refused h.0 (again s.commits x.staged x.verdict)) q r t u (has_blocking l.mode (shapes_under s.shapes x.staged) h.0) h.2
    (subst (λ (rows : List ResultRow). CommitsByRows l s x rows r u) e k.2)

weighed_one : (l : Limits) (s : State) (x : Transaction) (p q r : Reply) (t u : State) (b : Bool) → MatchBool b (Replies p s q t) (CommitsByListing l s x q t) → MatchBool b (Replies p s r u) (CommitsByListing l s x r u) → OneStep q r t u
weighed_one l s x p q r t u true h k = same p s q r t u h k
weighed_one l s x p q r t u false h k = judged_one l s x q r t u h k

overtaken_one : (l : Limits) (s : State) (x : Transaction) (q r : Reply) (t u : State) (o : Option Overtaker) → MatchOption o (CommitsWithinLimit l s x q t) (λ h. Replies (Conflict h.commit h.triple) s q t)
    → MatchOption o (CommitsWithinLimit l s x r u) (λ h. Replies (Conflict h.commit h.triple) s r u) → OneStep q r t u
overtaken_one l s x q r t u None h k = weighed_one l s x (FullTriples (length (after s.graph x.net))) q r t u (nat_lt l.triples (length (after s.graph x.net))) h k
overtaken_one l s x q r t u (Some y) h k = same (Conflict y.commit y.triple) s q r t u h k

commits_one : (l : Limits) (s : State) (x : Transaction) (p q r : Reply) (t u : State) (b : Bool) → MatchBool b (Replies p s q t) (CommitsUnlessOvertaken l s x q t) → MatchBool b (Replies p s r u) (CommitsUnlessOvertaken l s x r u) → OneStep q r t u
commits_one l s x p q r t u true h k = same p s q r t u h k
commits_one l s x p q r t u false h k = overtaken_one l s x q r t u (overtaker s.commits x.base x.finds) h k

limited_one : (p p' : Reply) (s m : State) (q r : Reply) (t u : State) (b : Bool) → MatchBool b (Replies p s q t) (Replies p' m q t) → MatchBool b (Replies p s r u) (Replies p' m r u) → OneStep q r t u
limited_one p p' s m q r t u true h k = same p s q r t u h k
limited_one p p' s m q r t u false h k = same p' m q r t u h k

names_one : (l : Limits) (s : State) (kind : NameKind) (ts : List Term) (q r : Reply) (t u : State) (nodes : List Term) → NamesUnless nodes l s kind ts q t → NamesUnless nodes l s kind ts r u → OneStep q r t u
names_one l s kind ts q r t u [] h k = limited_one (Full (length (named_with s.named ts) - 2)) Named s (with_named s kind ts) q r t u (nat_lt (l.terms + 2) (length (named_with s.named ts))) h k
names_one l s kind ts q r t u (node ∷ nodes) h k = same (Unknown node) s q r t u h k

opens_one : (s : State) (i : ℕ) (q r : Reply) (t u : State) (b : Bool) → MatchBool b (OpensNext s i q t) (OpensNothing s i q t) → MatchBool b (OpensNext s i r u) (OpensNothing s i r u) → OneStep q r t u
opens_one s i q r t u true h k = same (Session (s.opened + 1)) (record s { opened = s.opened + 1 }) q r t u h.1 k.1
opens_one s i q r t u false h k = same SessionsFull s q r t u h.1 k.1

step_one : (l : Limits) (s t u : State) (i : ℕ) (a : Action) (q r : Reply) → StepOf l s i a q t → StepOf l s i a r u → OneStep q r t u
step_one l s t u i Open q r h k = opens_one s i q r t u (nat_lt s.opened 64) h k
step_one l s t u i Begin q r h k = same (Version (version s)) s q r t u h.1 k.1
step_one l s t u i (Name kind ts) q r h k = names_one l s kind ts q r t u (unknown_by kind s.given ts) h.1 k.1
step_one l s t u i Head q r h k = same (Version (version s)) s q r t u h.1 k.1
step_one l s t u i (Commit x) q r h k = commits_one l s x (Stopped (version s)) q r t u s.stopped h.2 k.2
step_one l s t u i Void q r h k = same Nothing s q r t u h.1 k.1

-- no reply both accepts a commit and tells of a fault
not_both : (r : Reply) → AcceptsOrFails r r → ⊥
not_both (Session n) h = absurd h
not_both SessionsFull h = absurd h
not_both (Version n) h = absurd h
not_both Named h = absurd h
not_both (Unknown node) h = absurd h
not_both (Full n) h = absurd h
not_both (Conflict n triple) h = absurd h
not_both (FullTriples n) h = absurd h
not_both (Refused rows why) h = absurd h
not_both (Done n why) h = absurd h
not_both LogFault h = absurd h
not_both (Stopped n) h = absurd h
not_both Nothing h = absurd h

pub ReplyGivesOneState-holds : ReplyGivesOneState
ReplyGivesOneState-holds l s t u i a r h k = elim (step_one l s t u i a r r h k) [
  | inl e ↦ e.1
  | inr e ↦ absurd (not_both r e)
]

pub StepGivesOneReply-holds : StepGivesOneReply
StepGivesOneReply-holds l s t u i a q r h k = elim (step_one l s t u i a q r h k) [
  | inl e ↦ inl e.0
  | inr e ↦ inr e
]

-- one of the two is a reply of a log
fault_of : (q r : Reply) → AcceptsOrFails q r → IsUnlogged q → IsUnlogged r → ⊥
fault_of (Done n why) LogFault h a b = absurd b
fault_of LogFault r h a b = absurd a
fault_of q r h a b = absurd h

pub StepIsDeterministic-holds : StepIsDeterministic
StepIsDeterministic-holds l s t u i a q r n m h k = elim (step_one l s t u i a q r h k) [
  | inl e ↦ e
  | inr e ↦ absurd (fault_of q r e n m)
]

-- the next session is opened out, or none
pub opens : (l : Limits) (s : State) → s.opened < 64 → StepOf l s (s.opened + 1) Open (Session (s.opened + 1)) (record s { opened = s.opened + 1 })
opens l s lt =
    let e : nat_lt s.opened 64 ≡ true = grind (arith, nat_tests) in
    subst (λ b. MatchBool b (OpensNext s (s.opened + 1) (Session (s.opened + 1)) (record s { opened = s.opened + 1 })) (OpensNothing s (s.opened + 1) (Session (s.opened + 1)) (record s { opened = s.opened + 1 }))) (sym e) (refl, (refl, refl))

pub opens_none : (l : Limits) (s : State) → 64 ≤ s.opened → StepOf l s 0 Open SessionsFull s
opens_none l s le =
    let e : nat_lt s.opened 64 ≡ false = grind (arith, nat_tests) in
    subst (λ b. MatchBool b (OpensNext s 0 SessionsFull s) (OpensNothing s 0 SessionsFull s)) (sym e) (refl, (refl, refl))

-- terms are named, or they are too many, or one of them is a node that wasn't given
limits_on : (l : Limits) (s t : State) (kind : NameKind) (ts : List Term) (r : Reply) → unknown_by kind s.given ts ≡ [] → NamesWithinLimit l s kind ts r t → NamesUnless (unknown_by kind s.given ts) l s kind ts r t
limits_on l s t kind ts r e h = subst (λ (nodes : List Term). NamesUnless nodes l s kind ts r t) (sym e) h

pub names : (l : Limits) (s : State) (i : ℕ) (kind : NameKind) (ts : List Term) → IsOpened s i → unknown_by kind s.given ts ≡ [] → length (named_with s.named ts) ≤ l.terms + 2 → StepOf l s i (Name kind ts) Named (with_named s kind ts)
names l s i kind ts g known le =
    let t = with_named s kind ts in
    let e : nat_lt (l.terms + 2) (length (named_with s.named ts)) ≡ false = grind (arith, nat_tests) in
    (g, limits_on l s t kind ts Named known (subst (λ b. MatchBool b (Replies (Full (length (named_with s.named ts) - 2)) s Named t) (Replies Named t Named t)) (sym e) (refl, refl)))

pub names_none : (l : Limits) (s : State) (i : ℕ) (kind : NameKind) (ts : List Term) → IsOpened s i → unknown_by kind s.given ts ≡ [] → l.terms + 2 < length (named_with s.named ts) → StepOf l s i (Name kind ts) (Full (length (named_with s.named ts) - 2)) s
names_none l s i kind ts g known lt =
    let q = Full (length (named_with s.named ts) - 2) in
    let e : nat_lt (l.terms + 2) (length (named_with s.named ts)) ≡ true = grind (arith, nat_tests) in
    (g, limits_on l s s kind ts q known (subst (λ b. MatchBool b (Replies q s q s) (Replies Named (with_named s kind ts) q s)) (sym e) (refl, refl)))

pub names_unknown : (l : Limits) (s : State) (i : ℕ) (kind : NameKind) (ts nodes : List Term) (node : Term) → IsOpened s i → unknown_by kind s.given ts ≡ node ∷ nodes → StepOf l s i (Name kind ts) (Unknown node) s
names_unknown l s i kind ts nodes node g e = (g, subst (λ (xs : List Term). NamesUnless xs l s kind ts (Unknown node) s) (sym e) (refl, refl))

-- the answers of a commit: of a store that is stopped, and of one that isn't
pub stops : (l : Limits) (s : State) (i : ℕ) (x : Transaction) → IsOpened s i → IsCommittable s x → s.stopped ≡ true → StepOf l s i (Commit x) (Stopped (version s)) s
stops l s i x g f e = (g, f, subst (λ b. MatchBool b (Replies (Stopped (version s)) s (Stopped (version s)) s) (CommitsUnlessOvertaken l s x (Stopped (version s)) s)) (sym e) (refl, refl))

runs_on : (l : Limits) (s t : State) (i : ℕ) (x : Transaction) (q : Reply) → IsOpened s i → IsCommittable s x → s.stopped ≡ false → CommitsUnlessOvertaken l s x q t → StepOf l s i (Commit x) q t
runs_on l s t i x q g f e h = (g, f, subst (λ b. MatchBool b (Replies (Stopped (version s)) s q t) (CommitsUnlessOvertaken l s x q t)) (sym e) h)

pub conflicts : (l : Limits) (s : State) (i : ℕ) (x : Transaction) (h : Overtaker) → IsOpened s i → IsCommittable s x → s.stopped ≡ false → overtaker s.commits x.base x.finds ≡ Some h → StepOf l s i (Commit x) (Conflict h.commit h.triple) s
conflicts l s i x h g f on e =
    let q = Conflict h.commit h.triple in
    runs_on l s s i x q g f on (subst (λ (o : Option Overtaker). MatchOption o (CommitsWithinLimit l s x q s) (λ y. Replies (Conflict y.commit y.triple) s q s)) (sym e) (refl, refl))

weighs_on : (l : Limits) (s t : State) (i : ℕ) (x : Transaction) (q : Reply) → IsOpened s i → IsCommittable s x → s.stopped ≡ false → overtaker s.commits x.base x.finds ≡ None → CommitsWithinLimit l s x q t → StepOf l s i (Commit x) q t
weighs_on l s t i x q g f on e w = runs_on l s t i x q g f on (subst (λ (o : Option Overtaker). MatchOption o (CommitsWithinLimit l s x q t) (λ y. Replies (Conflict y.commit y.triple) s q t)) (sym e) w)

pub overflows : (l : Limits) (s : State) (i : ℕ) (x : Transaction) → IsOpened s i → IsCommittable s x → s.stopped ≡ false → overtaker s.commits x.base x.finds ≡ None → l.triples < length (after s.graph x.net) → StepOf l s i (Commit x) (FullTriples (length (after s.graph x.net))) s
overflows l s i x g f on e lt =
    let q = FullTriples (length (after s.graph x.net)) in
    let b : nat_lt l.triples (length (after s.graph x.net)) ≡ true = grind (arith, nat_tests) in
    weighs_on l s s i x q g f on e (subst (λ c. MatchBool c (Replies q s q s) (CommitsByListing l s x q s)) (sym b) (refl, refl))

-- with the listing of the graph that would be
pub judges : (l : Limits) (s t : State) (i : ℕ) (x : Transaction) (q : Reply) → IsOpened s i → IsCommittable s x → s.stopped ≡ false → overtaker s.commits x.base x.finds ≡ None → length (after s.graph x.net) ≤ l.triples → CommitsByListing l s x q t → StepOf l s i (Commit x) q t
judges l s t i x q g f on e le j =
    let b : nat_lt l.triples (length (after s.graph x.net)) ≡ false = grind (arith, nat_tests) in
    weighs_on l s t i x q g f on e (subst (λ c. MatchBool c (Replies (FullTriples (length (after s.graph x.net))) s q t) (CommitsByListing l s x q t)) (sym b) j)

-- a graph of whose results none blocks
rows_accepted : (l : Limits) (s t : State) (x : Transaction) (rows : List ResultRow) (q : Reply) → has_blocking l.mode (shapes_under s.shapes x.staged) rows ≡ false → AcceptsCommit s x q t → CommitsByRows l s x rows q t
rows_accepted l s t x rows q none a = subst (λ b. MatchBool b (Replies (Refused rows (again s.commits x.staged x.verdict)) s q t) (AcceptsCommit s x q t)) (sym none) a

pub accepts : (l : Limits) (s : State) (i : ℕ) (x : Transaction) (rows : List ResultRow) → IsOpened s i → IsCommittable s x → s.stopped ≡ false → overtaker s.commits x.base x.finds ≡ None → length (after s.graph x.net) ≤ l.triples
    → Listing (after s.graph x.net) (shapes_under s.shapes x.staged) rows → has_blocking l.mode (shapes_under s.shapes x.staged) rows ≡ false → StepOf l s i (Commit x) (Done (version s + 1) (again s.commits x.staged x.verdict)) (committed s x)
accepts l s i x rows g f on e le listing none =
    let q = Done (version s + 1) (again s.commits x.staged x.verdict) in
    judges l s (committed s x) i x q g f on e le (rows, listing, rows_accepted l s (committed s x) x rows q none (inl (refl, refl)))

-- the log may fail at it
pub fails : (l : Limits) (s : State) (i : ℕ) (x : Transaction) (rows : List ResultRow) → IsOpened s i → IsCommittable s x → s.stopped ≡ false → overtaker s.commits x.base x.finds ≡ None → length (after s.graph x.net) ≤ l.triples
    → Listing (after s.graph x.net) (shapes_under s.shapes x.staged) rows → has_blocking l.mode (shapes_under s.shapes x.staged) rows ≡ false → StepOf l s i (Commit x) LogFault (record s { stopped = true })
fails l s i x rows g f on e le listing none =
    let t = record s { stopped = true } in
    judges l s t i x LogFault g f on e le (rows, listing, rows_accepted l s t x rows LogFault none (inr (refl, refl)))

-- a graph with a result that blocks
pub refuses : (l : Limits) (s : State) (i : ℕ) (x : Transaction) (rows : List ResultRow) → IsOpened s i → IsCommittable s x → s.stopped ≡ false → overtaker s.commits x.base x.finds ≡ None → length (after s.graph x.net) ≤ l.triples
    → Listing (after s.graph x.net) (shapes_under s.shapes x.staged) rows → has_blocking l.mode (shapes_under s.shapes x.staged) rows ≡ true → StepOf l s i (Commit x) (Refused rows (again s.commits x.staged x.verdict)) s
refuses l s i x rows g f on e le listing some =
    let q = Refused rows (again s.commits x.staged x.verdict) in
    judges l s s i x q g f on e le (rows, listing, subst (λ b. MatchBool b (Replies q s q s) (AcceptsCommit s x q s)) (sym some) (refl, refl))

-- where all results block, one does exactly where there are results
pub all_block : (s : List Triple) (rows : List ResultRow) → 0 < length rows → has_blocking All s rows ≡ true
all_block s [] h = absurd (omega (arith, h))
all_block s (row ∷ rows) h = refl

pub some_block : (mode : BlockMode) (s : List Triple) (rows : List ResultRow) → mode ≡ All → 0 < length rows → has_blocking mode s rows ≡ true
some_block mode s rows e h = ap (λ (m : BlockMode). has_blocking m s rows) e ∙ all_block s rows h
