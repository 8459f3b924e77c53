-- The records of a history restore what its commits made.
use Rattle.std.proofs.Common.{◌≡◌, ◌∙◌, ℕ, ◌+◌, true, List, [], ◌∷◌, ◌++◌, length, map, Option, Some, None, refl, sym, ap, subst, inl, inr, append-nil, append_assoc, length-append}
use Rattle.std.proofs.lemmas.List.{map-append}
use Rattle.collections.specs.Ordered.{IsAscending}
use Rattle.rdf_model.specs.declared.triple.Triple.{Triple}
use Rattle.rdf_model.specs.Graphs.{after}
use Rattle.rdf_model.specs.Terms.{triple_cmp}
use Rattle.record_text.specs.declared.record.Record.{Record}
use Rattle.store_model.specs.declared.commit.Accepted.{Accepted}
use Rattle.store_model.specs.declared.commit.Transaction.{Transaction}
use Rattle.store_model.specs.declared.event.Action.{Action}
use Rattle.store_model.specs.declared.event.Event.{Event}
use Rattle.store_model.specs.declared.event.Limits.{Limits}
use Rattle.store_model.specs.declared.event.Reply.{Reply}
use Rattle.store_model.specs.Store.{Replays, State, StepOf, empty_store, shapes_under, version, with_named}
use Rattle.store_model.proofs.Histories.{IsAscending-after}
use Rattle.store_model.proofs.Outcomes.{outcome}
use Rattle.commit_core.specs.Logged.{accepted_in, graph_by, number_by, record_of, records_by, records_of}
use Rattle.commit_core.specs.Restored.{FitInTurn, accepted_by, graph_after, restored, restored_from, with_record, without_each}
use Rattle.commit_core.specs.RestoredParts.{graphs, shapes_after}
use Rattle.commit_core.proofs.RestoredParts.{graph_part}
use Rattle.log_laws.specs.Laws.{RecordsRestoreCommits}
use Rattle.log_laws.proofs.Accepted.{committed_by}
use Rattle.log_laws.proofs.Graphs.{ascends_with, ascends_without, graph_made, record_fits}

-- the parts of what records restore
pub shapes_part : (s : State) (rs : List Record) → (restored_from s rs).shapes ≡ shapes_after s.shapes rs
shapes_part s [] = refl
shapes_part s (r ∷ rs) = shapes_part (with_record s r) rs

commits_part : (s : State) (rs : List Record) → (restored_from s rs).commits ≡ s.commits ++ map accepted_by rs
commits_part s [] = sym (append-nil s.commits)
commits_part s (r ∷ rs) = commits_part (with_record s r) rs ∙ append_assoc s.commits (accepted_by r ∷ []) (map accepted_by rs)

-- the parts of the state after a step
record Leaves (s t : State) (o : Option Transaction) : Type 0 where
  graph : t.graph ≡ graph_by o s.graph
  number : version t ≡ number_by o (version s)
  shapes : t.shapes ≡ shapes_after s.shapes (records_by o s.graph (version s))
  commits : t.commits ≡ s.commits ++ map accepted_by (records_by o s.graph (version s))

leaves_none : (s t : State) → t.graph ≡ s.graph → t.shapes ≡ s.shapes → t.commits ≡ s.commits → Leaves s t None
leaves_none s t eg es ec = record { graph = eg; number = ap length ec; shapes = es; commits = ec ∙ sym (append-nil s.commits) }

leaves_by : (l : Limits) (s t : State) (i : ℕ) (a : Action) (r : Reply) (o : Option Transaction) → accepted_in a r ≡ o → StepOf l s i a r t → Leaves s t o
leaves_by l s t i a r (Some x) e h = subst (λ (u : State). Leaves s u (Some x)) (sym (committed_by l s t i a r x e h)) (record { graph = refl; number = simp length-append; shapes = refl; commits = refl })
leaves_by l s t i a r None e h = elim (outcome l s t i a r h) [
  | inl k ↦ subst (λ (u : State). Leaves s u None) (sym k.state) (leaves_none s s refl refl refl)
  | inr (inl k) ↦ subst (λ (u : State). Leaves s u None) (sym k.state) (leaves_none s (record s { opened = s.opened + 1 }) refl refl refl)
  | inr (inr (inl k)) ↦ subst (λ (u : State). Leaves s u None) (sym k.state) (leaves_none s (with_named s k.kind k.terms) refl refl refl)
  | inr (inr (inr (inl k))) ↦ let some : accepted_in a r ≡ Some k.transaction = λ j. accepted_in (k.action j) (k.reply j) in cc
  | inr (inr (inr (inr k))) ↦ subst (λ (u : State). Leaves s u None) (sym k.state) (leaves_none s (record s { stopped = true }) refl refl refl)
]

-- the records in front of others
module _ (g : List Triple) (n : ℕ) (a : IsAscending triple_cmp g) where
  made : (x : Transaction) → graph_after g (record_of g n x) ≡ after g x.net
  made x = graph_made g (after g x.net) a (IsAscending-after g x.net a)

  fits_front : (o : Option Transaction) (rs : List Record) → FitInTurn (graph_by o g) rs → FitInTurn g (records_by o g n ++ rs)
  fits_front None rs f = f
  fits_front (Some x) rs f = (record_fits g n x, subst (λ (h : List Triple). FitInTurn h rs) (sym (made x)) f)

  graphs_front : (o : Option Transaction) (rs : List Record) → graphs g (records_by o g n ++ rs) ≡ graphs (graph_by o g) rs
  graphs_front None rs = refl
  graphs_front (Some x) rs = ap (λ (h : List Triple). graphs h rs) (made x)

  ascends_by : (o : Option Transaction) → IsAscending triple_cmp (graph_by o g)
  ascends_by None = a
  ascends_by (Some x) = IsAscending-after g x.net a

shapes_front : (shapes : List Triple) (rs more : List Record) → shapes_after shapes (rs ++ more) ≡ shapes_after (shapes_after shapes rs) more
shapes_front shapes [] more = refl
shapes_front shapes (r ∷ rs) more = shapes_front (shapes_under shapes r.shapes) rs more

-- along a history
record Restores (s t : State) (rs : List Record) : Type 0 where
  fit : FitInTurn s.graph rs
  graph : graphs s.graph rs ≡ t.graph
  shapes : shapes_after s.shapes rs ≡ t.shapes
  commits : s.commits ++ map accepted_by rs ≡ t.commits

restores : (l : Limits) (s t : State) (es : List Event) → IsAscending triple_cmp s.graph → Replays l s es t → Restores s t (records_of s.graph (version s) es)
restores l s t [] a h = record {
  fit = tt;
  graph = sym (ap (λ (x : State). x.graph) h);
  shapes = sym (ap (λ (x : State). x.shapes) h);
  commits = append-nil s.commits ∙ sym (ap (λ (x : State). x.commits) h);
}
restores l s t (e ∷ es) a h =
    let m = h.0 in
    let o = accepted_in e.action e.reply in
    let k = leaves_by l s m e.session e.action e.reply o refl h.1 in
    let now = records_by o s.graph (version s) in
    let later = records_of (graph_by o s.graph) (number_by o (version s)) es in
    let same : records_of m.graph (version m) es ≡ later = λ i. records_of (k.graph i) (k.number i) es in
    let rest : Restores m t later = subst (λ (rs : List Record). Restores m t rs) same (restores l m t es (subst (λ (g : List Triple). IsAscending triple_cmp g) (sym k.graph) (ascends_by s.graph (version s) a o)) h.2) in
    record {
      fit = fits_front s.graph (version s) a o later (subst (λ (g : List Triple). FitInTurn g later) k.graph rest.fit);
      graph = graphs_front s.graph (version s) a o later ∙ (ap (λ (g : List Triple). graphs g later) (sym k.graph) ∙ rest.graph);
      shapes = shapes_front s.shapes now later ∙ (ap (λ (x : List Triple). shapes_after x later) (sym k.shapes) ∙ rest.shapes);
      commits = ap (λ (cs : List Accepted). s.commits ++ cs) (map-append accepted_by now later) ∙ (sym (append_assoc s.commits (map accepted_by now) (map accepted_by later)) ∙ (ap (λ (cs : List Accepted). cs ++ map accepted_by later) (sym k.commits) ∙ rest.commits));
    }

-- behind the records that restored its first state
restored_more : (s : State) (rs more : List Record) → restored_from s (rs ++ more) ≡ restored_from (restored_from s rs) more
restored_more s [] more = refl
restored_more s (r ∷ rs) more = restored_more (with_record s r) rs more

fit_more : (g : List Triple) (rs more : List Record) → FitInTurn g rs → FitInTurn (graphs g rs) more → FitInTurn g (rs ++ more)
fit_more g [] more f k = k
fit_more g (r ∷ rs) more f k = (f.0, fit_more (graph_after g r) rs more f.1 k)

ascends_graphs : (g : List Triple) (rs : List Record) → IsAscending triple_cmp g → IsAscending triple_cmp (graphs g rs)
ascends_graphs g [] a = a
ascends_graphs g (r ∷ rs) a = ascends_graphs (graph_after g r) rs (ascends_with (without_each g r.removed) r.added (ascends_without g r.removed a))

pub records_restore_commits : RecordsRestoreCommits
records_restore_commits l records es t f h =
    let s = restored records in
    let more = records_of s.graph (version s) es in
    let led : s.graph ≡ graphs [] records = graph_part empty_store records in
    let k = restores l s t es (subst (λ (g : List Triple). IsAscending triple_cmp g) (sym led) (ascends_graphs [] records tt)) h in
    let whole : restored (records ++ more) ≡ restored_from s more = restored_more empty_store records more in
    record {
      fit = fit_more [] records more f (subst (λ (g : List Triple). FitInTurn g more) led k.fit);
      graph = ap (λ (x : State). x.graph) whole ∙ (graph_part s more ∙ k.graph);
      shapes = ap (λ (x : State). x.shapes) whole ∙ (shapes_part s more ∙ k.shapes);
      commits = ap (λ (x : State). x.commits) whole ∙ (commits_part s more ∙ k.commits);
    }
