-- What records make of a follower is what they restore.
use Rattle.std.proofs.Common.{◌≡◌, ◌∙◌, ℕ, zero, suc, ◌+◌, Bool, true, false, cond, not, ◌&&◌, List, [], ◌∷◌, ◌++◌, map, take, Option, Some, None, refl, sym, ap, subst}
use Rattle.std.specs.Prelude.{◌↔◌}
use Rattle.std.specs.List.{filter, list_all}
use Rattle.collections.specs.Ordered.{has_item}
use Rattle.rdf_model.specs.declared.change.Change.TheVariants.{Add, Remove}
use Rattle.rdf_model.specs.declared.triple.Triple.{Triple}
use Rattle.rdf_model.specs.Graphs.{after, lacking, with_each}
use Rattle.rdf_model.specs.Terms.{triple_cmp}
use Rattle.record_text.specs.declared.record.Record.{Record}
use Rattle.record_text.specs.Records.{HasReadableShapes}
use Rattle.commit_log.specs.Format.{AreRecordsFrom}
use Rattle.store_model.specs.Store.{empty_store, shapes_under}
use Rattle.commit_core.specs.Restored.{FitInTurn, fits_record, graph_after, without_each}
use Rattle.commit_core.specs.RestoredParts.{graphs, shapes_after}
use Rattle.commit_core.proofs.RestoredParts.{graph_part}
use Rattle.follower.specs.Records.{AllFit, AreNumberedFrom, Fits, data_after, data_from, having, shapes_from, staged_over}
use Rattle.follower.proofs.Leaders.{follows_leader}
use Rattle.log_laws.specs.Laws.{FollowersGraphsAreRestored, FollowsStore, GivesRestored, IsAscendingIfStaged, StageAscending}
use Rattle.log_laws.proofs.Graphs.{in_order}
use Rattle.log_laws.proofs.Restores.{shapes_part}

-- the data graph
puts_in : (g ts : List Triple) → after g (map Add ts) ≡ with_each g ts
puts_in g [] = refl
puts_in g (t ∷ ts) = puts_in (with_each g (t ∷ [])) ts

takes_out : (g us ts : List Triple) → after g (map Remove us ++ map Add ts) ≡ with_each (without_each g us) ts
takes_out g [] ts = puts_in g ts
takes_out g (u ∷ us) ts = takes_out (without_each g (u ∷ [])) us ts

data_made : (g : List Triple) (r : Record) → data_after g r ≡ graph_after g r
data_made g r = takes_out g r.removed r.added

data_graphs : (g : List Triple) (rs : List Record) → data_from g rs ≡ graphs g rs
data_graphs g [] = refl
data_graphs g (r ∷ rs) = ap (λ (h : List Triple). data_from h rs) (data_made g r) ∙ data_graphs (graph_after g r) rs

-- the shapes graph
shapes_made : (s : List Triple) (staged : Option (List Triple)) → IsAscendingIfStaged staged → staged_over s staged ≡ shapes_under s staged
shapes_made s None a = refl
shapes_made s (Some triples) a = in_order triples a

shapes_graphs : (s : List Triple) (rs : List Record) → StageAscending rs → shapes_from s rs ≡ shapes_after s rs
shapes_graphs s [] a = refl
shapes_graphs s (r ∷ rs) a = ap (λ (h : List Triple). shapes_from h rs) (shapes_made s r.shapes a.0) ∙ shapes_graphs (shapes_under s r.shapes) rs a.1

-- a filter finds nothing exactly where all fail its test
none_found : (p : Triple → Bool) (ts : List Triple) → filter p ts ≡ [] → list_all (λ t. not (p t)) ts ≡ true
none_found p [] h = refl
none_found p (t ∷ ts) h = elim (p t) as (λ b. cond b (t ∷ filter p ts) (filter p ts) ≡ [] → (not b && list_all (λ u. not (p u)) ts) ≡ true) [
  | true ↦ λ e. cc
  | false ↦ λ e. none_found p ts e
] h

all_fail : (p : Triple → Bool) (ts : List Triple) → list_all (λ t. not (p t)) ts ≡ true → filter p ts ≡ []
all_fail p [] h = refl
all_fail p (t ∷ ts) h = elim (p t) as (λ b. (not b && list_all (λ u. not (p u)) ts) ≡ true → cond b (t ∷ filter p ts) (filter p ts) ≡ []) [
  | true ↦ λ e. cc
  | false ↦ λ e. all_fail p ts e
] h

not_not : (a : Bool) → not (not a) ≡ a
not_not true = refl
not_not false = refl

twice : (p : Triple → Bool) (ts : List Triple) → list_all (λ t. not (not (p t))) ts ≡ list_all (λ t. p t) ts
twice p ts = λ i. list_all (λ t. not_not (p t) i) ts

both_none : (xs ys : List Triple) → xs ++ ys ≡ [] → (xs ≡ []) × (ys ≡ [])
both_none [] ys e = (refl, e)
both_none (x ∷ xs) ys e = cc

both_true : (a b : Bool) → (a && b) ≡ true → (a ≡ true) × (b ≡ true)
both_true true true e = (refl, refl)
both_true true false e = cc
both_true false b e = cc

-- a record fits for both or for neither
fits_both : (g : List Triple) (r : Record) → Fits g r ↔ (fits_record g r ≡ true)
fits_both g r =
    let there : Triple → Bool = λ t. has_item triple_cmp t g in
    let missing : Triple → Bool = λ t. not (has_item triple_cmp t g) in (
      λ f.
          let k = both_none (lacking r.removed g) (having r.added g) f in
          let removed : list_all there r.removed ≡ true = sym (twice there r.removed) ∙ none_found missing r.removed k.0 in
          let added : list_all missing r.added ≡ true = none_found there r.added k.1 in
          λ i. removed i && added i,
      λ f.
          let k = both_true (list_all there r.removed) (list_all missing r.added) f in
          let removed : lacking r.removed g ≡ [] = all_fail missing r.removed (twice there r.removed ∙ k.0) in
          let added : having r.added g ≡ [] = all_fail there r.added k.1 in
          λ i. removed i ++ added i,
    )

fit_in_turn : (g : List Triple) (rs : List Record) → AllFit g rs → FitInTurn g rs
fit_in_turn g [] f = tt
fit_in_turn g (r ∷ rs) f = ((fits_both g r).0 f.0, fit_in_turn (graph_after g r) rs (subst (λ (h : List Triple). AllFit h rs) (data_made g r) f.1))

all_fit : (g : List Triple) (rs : List Record) → FitInTurn g rs → AllFit g rs
all_fit g [] f = tt
all_fit g (r ∷ rs) f = ((fits_both g r).1 f.0, subst (λ (h : List Triple). AllFit h rs) (sym (data_made g r)) (all_fit (graph_after g r) rs f.1))

pub followers_graphs_are_restored : FollowersGraphsAreRestored
followers_graphs_are_restored records = record {
  graph = data_graphs [] records ∙ sym (graph_part empty_store records);
  shapes = λ a. shapes_graphs [] records a ∙ sym (shapes_part empty_store records);
  fit = (fit_in_turn [] records, all_fit [] records);
}

-- the records of a log
numbered : (n : ℕ) (rs : List Record) → AreRecordsFrom n rs → AreNumberedFrom n rs
numbered n [] a = tt
numbered n (r ∷ rs) a = (a.0, numbered (n + 1) rs a.2)

ascends_staged : (staged : Option (List Triple)) → HasReadableShapes staged → IsAscendingIfStaged staged
ascends_staged None h = tt
ascends_staged (Some triples) h = h.1

first_ascending : (n k : ℕ) (rs : List Record) → AreRecordsFrom n rs → StageAscending (take k rs)
first_ascending n zero rs a = tt
first_ascending n (suc k) [] a = tt
first_ascending n (suc k) (r ∷ rs) a = (ascends_staged r.shapes a.1.shapes, first_ascending (n + 1) k rs a.2)

pub a_follower_has_the_stores_graphs : FollowsStore
a_follower_has_the_stores_graphs records fs s a f c r =
    let k = follows_leader records fs s (record { numbered = numbered 1 records a; fit = all_fit [] records f }) c r in
    let gives : (version : ℕ) → GivesRestored (take version records) = λ version. followers_graphs_are_restored (take version records) in
    record {
      graph = λ version le. k.graph version le ∙ (gives version).graph;
      shapes = λ version le. k.shapes version le ∙ (gives version).shapes (first_ascending 1 version records a);
    }
