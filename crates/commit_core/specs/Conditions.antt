-- Which events may be asked for, whatever the reply: the plain store's conditions on an action, as tests.
use Rattle.std.specs.Prelude.{ℕ, ◌+◌, Bool, true, false, ◌&&◌, List, [], ◌∷◌, Option, Some, None, nat_eq, nat_le, nat_lt, if◌then◌else◌}
use Rattle.std.specs.List.{list_all}
use Rattle.collections.specs.Ordered.{has_item}
use Rattle.rdf_model.specs.declared.change.Change.{Change}
use Rattle.rdf_model.specs.declared.look.Look.{Look}
use Rattle.rdf_model.specs.declared.look.Look.TheVariants.{Out, In, OutAny}
use Rattle.rdf_model.specs.declared.term.Term.{Term}
use Rattle.rdf_model.specs.declared.triple.Triple.{Triple}
use Rattle.rdf_model.specs.Terms.{term_cmp}
use Rattle.store_model.specs.declared.commit.Transaction.{Transaction}
use Rattle.store_model.specs.declared.commit.Verdict.{Verdict}
use Rattle.store_model.specs.declared.event.Action.{Action}
use Rattle.store_model.specs.declared.event.Action.TheVariants.{Open, Begin, Name, Head, Commit, Void}
use Rattle.store_model.specs.Store.{State, changed_triple, version}

abbrev pub triple_named : List Term → Triple → Bool
triple_named named t = has_item term_cmp t.subject named && has_item term_cmp t.predicate named && has_item term_cmp t.object named

abbrev pub triples_named : List Term → List Triple → Bool
triples_named named ts = list_all (triple_named named) ts

abbrev pub change_named : List Term → Change → Bool
change_named named c = triple_named named (changed_triple c)

abbrev pub staged_named : List Term → Option (List Triple) → Bool
staged_named named None = true
staged_named named (Some shapes) = triples_named named shapes

abbrev pub look_named : List Term → Look Term → Bool
look_named named (Out x p) = has_item term_cmp x named && has_item term_cmp p named
look_named named (In p x) = has_item term_cmp p named && has_item term_cmp x named
look_named named (OutAny x) = has_item term_cmp x named

abbrev pub verdict_fits : ℕ → List Term → Option Verdict → Bool
verdict_fits n named None = true
verdict_fits n named (Some v) = nat_le v.head n && list_all (look_named named) v.looks

abbrev pub has_change : List Change → Option (List Triple) → Bool
has_change [] None = false
has_change [] (Some shapes) = true
has_change (c ∷ cs) staged = true

-- the transaction may be committed at version n, where these terms are named
abbrev pub may_commit : ℕ → List Term → Transaction → Bool
may_commit n named x = nat_le x.base n && has_change x.net x.staged && list_all (change_named named) x.net && staged_named named x.staged && verdict_fits n named x.verdict

-- the number that the next opening has
abbrev pub next_session : ℕ → ℕ
next_session opened = if nat_lt opened 64 then opened + 1 else 0

abbrev pub was_opened : ℕ → ℕ → Bool
was_opened opened i = nat_lt 0 i && nat_le i opened

abbrev pub may_ask : State → ℕ → Action → Bool
may_ask s i Open = nat_eq i (next_session s.opened)
may_ask s i Begin = was_opened s.opened i
may_ask s i (Name kind terms) = was_opened s.opened i
may_ask s i Head = was_opened s.opened i
may_ask s i (Commit x) = was_opened s.opened i && may_commit (version s) s.named x
may_ask s i Void = nat_le i s.opened
