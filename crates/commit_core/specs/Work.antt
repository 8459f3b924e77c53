-- How many evaluations a commit takes.
use Rattle.std.specs.Prelude.{◌≡◌, ◌≤◌, ℕ, Bool, true, false, List, MatchOption}
use Rattle.rdf_model.specs.declared.triple.Triple.{Triple}
use Rattle.rdf_model.specs.Graphs.{after}
use Rattle.store_model.specs.declared.commit.Again.{Again}
use Rattle.store_model.specs.declared.commit.Again.TheVariants as whys
use Rattle.store_model.specs.declared.commit.Transaction.{Transaction}
use Rattle.store_model.specs.Store.{State, again, shapes_under}
use Rattle.parallel_validate.specs.Verdicts.{IsEvaluated}
use Rattle.parallel_validate.specs.Counting.{GrowsByCount, IsTargetPair}
use Rattle.commit_core.specs.declared.commit.Commit.{Commit}
use Rattle.commit_core.specs.declared.commit.Commit.TheVariants.{Done, Conflict, FullTriples, Refused, LogFault, Stopped, Memory}
use Rattle.commit_core.specs.declared.commit.Plan.{Plan}
use Rattle.commit_core.specs.declared.commit.Plan.TheVariants.{Overtaken, TooLarge, Refuse, Accept}

-- By why it evaluated in its step: none where its verdict held; under staged shapes one for each pair of a shape and its
-- target; else one for each pair that its changes touch and that is a target after them.
abbrev pub StepsBy : Again → List Triple → List Triple → Transaction → ℕ → ℕ → Type 0
StepsBy whys.No g s x old new = new ≡ old
StepsBy whys.OwnShapes g s x old new = GrowsByCount (IsTargetPair (after g x.net) (shapes_under s x.staged)) old new
StepsBy whys.NoVerdict g s x old new = GrowsByCount (IsEvaluated g s x.net) old new
StepsBy (whys.ShapesChanged n) g s x old new = GrowsByCount (IsEvaluated g s x.net) old new
StepsBy (whys.Touched n t) g s x old new = GrowsByCount (IsEvaluated g s x.net) old new

-- By its answer: none where it was overtaken, where the graph would have too many triples, or where the store was stopped
-- before. Where the log failed they are those of a commit that is accepted. After want of memory the count is what it was, or
-- more.
abbrev pub CommitSteps : Commit → State → Transaction → ℕ → ℕ → Type 0
CommitSteps (Done number again) s x old new = StepsBy again s.graph s.shapes x old new
CommitSteps (Conflict commit triple) s x old new = new ≡ old
CommitSteps (FullTriples count) s x old new = new ≡ old
CommitSteps (Refused rows again shapes) s x old new = StepsBy again s.graph s.shapes x old new
CommitSteps LogFault s x old new = StepsBy (again s.commits x.staged x.verdict) s.graph s.shapes x old new
CommitSteps (Stopped version) s x old new = new ≡ old
CommitSteps (Memory y) s x old new = old ≤ new

-- by whether a verdict is taken to hold
abbrev pub ResultSteps : Bool → State → Transaction → ℕ → ℕ → Type 0
ResultSteps true s x old new = new ≡ old
ResultSteps false s x old new = MatchOption x.staged (GrowsByCount (IsEvaluated s.graph s.shapes x.net) old new) (λ staged. GrowsByCount (IsTargetPair (after s.graph x.net) staged) old new)

-- by what the commit is going to do
abbrev pub PlanSteps : Bool → State → Transaction → ℕ → ℕ → Plan → Type 0
PlanSteps held s x old new (Overtaken o t) = new ≡ old
PlanSteps held s x old new (TooLarge n) = new ≡ old
PlanSteps held s x old new (Refuse p) = ResultSteps held s x old new
PlanSteps held s x old new (Accept p) = ResultSteps held s x old new

-- the answer is one by results, with this reason where it has one, or want of memory
abbrev pub IsByResults : Again → Commit → Type 0
IsByResults why (Done number again) = again ≡ why
IsByResults why (Conflict commit triple) = ⊥
IsByResults why (FullTriples count) = ⊥
IsByResults why (Refused rows again shapes) = again ≡ why
IsByResults why LogFault = Unit {0}
IsByResults why (Stopped version) = ⊥
IsByResults why (Memory y) = Unit {0}

-- by the answer, with this reason, and whether a verdict is taken to hold
abbrev pub AnswerSteps : Bool → Again → State → Transaction → ℕ → ℕ → Commit → Type 0
AnswerSteps held why s x old new (Done number again) = (again ≡ why) × ResultSteps held s x old new
AnswerSteps held why s x old new (Conflict commit triple) = new ≡ old
AnswerSteps held why s x old new (FullTriples count) = new ≡ old
AnswerSteps held why s x old new (Refused rows again shapes) = (again ≡ why) × ResultSteps held s x old new
AnswerSteps held why s x old new LogFault = ResultSteps held s x old new
AnswerSteps held why s x old new (Stopped version) = new ≡ old
AnswerSteps held why s x old new (Memory y) = old ≤ new

-- whether a verdict held
abbrev pub is_no : Again → Bool
is_no whys.No = true
is_no whys.OwnShapes = false
is_no whys.NoVerdict = false
is_no (whys.ShapesChanged n) = false
is_no (whys.Touched n t) = false
