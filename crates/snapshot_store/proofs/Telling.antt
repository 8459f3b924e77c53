-- What kept commits tell.
use Rattle.std.proofs.Common.{◌≡◌, ◌∙◌, ℕ, ◌-◌, ◌<◌, List, [], ◌∷◌, ◌++◌, length, drop, take, map, refl, sym, ap, subst, arith, length-append}
use Rattle.std.proofs.Math.ListN.{get_or-append}
use Rattle.std.proofs.lemmas.List.{drop-map, length-drop, map-append, take_all}
use Rattle.std.specs.List.{AllByRecursion}
use Rattle.rdf_model.specs.declared.ids.Ids.{Ids}
use Rattle.rdf_model.specs.declared.term.Term.{Term}
use Rattle.rdf_model.specs.declared.term.Term.TheVariants.{Blank}
use Rattle.rdf_model.specs.declared.triple.Triple.{Triple}
use Rattle.rdf_model.specs.Graphs.{with_each}
use Rattle.rdf_model.specs.Numbers.{AreNumbered, graph_of, triple_at}
use Rattle.store_model.specs.declared.commit.Accepted.{Accepted}
use Rattle.event_history.specs.Named.{IsBeginning}
use Rattle.triple_index.specs.Changes.{IsNumbered}
use Rattle.snapshot_store.specs.declared.kept.KeptCommit.{KeptCommit}
use Rattle.snapshot_store.specs.Kept.{HasTerms, told}

-- under more names, numbers stand for the same triples
module _ (names more : List Term) where
  below_more : (n : ℕ) → n < length names → n < length (names ++ more)
  below_more n lt = let l = length-append names more in omega (arith, l, lt)

  triple_more : (i : Ids) → IsNumbered names i → triple_at (names ++ more) i ≡ triple_at names i
  triple_more i h =
      let subject = get_or-append names more (Blank 0 0) i.subject h.0 in
      let predicate = get_or-append names more (Blank 0 0) i.predicate h.1 in
      let object = get_or-append names more (Blank 0 0) i.object h.2 in
      λ k. record { subject = subject k; predicate = predicate k; object = object k }

  pub graph_more : (ids : List Ids) → AreNumbered names ids → graph_of (names ++ more) ids ≡ graph_of names ids
  graph_more [] a = refl
  graph_more (i ∷ ids) a =
      let first = triple_more i a.0 in
      let rest = graph_more ids a.1 in
      λ k. first k ∷ rest k

  pub numbered_more : (ids : List Ids) → AreNumbered names ids → AreNumbered (names ++ more) ids
  numbered_more [] a = tt
  numbered_more (i ∷ ids) a = ((below_more i.subject a.0.0, below_more i.predicate a.0.1, below_more i.object a.0.2), numbered_more ids a.1)

  told_more : (k : KeptCommit) → HasTerms names k → told (names ++ more) k ≡ told names k
  told_more k h = let graph = graph_more k.changed h in λ i. record { changed = with_each [] (graph i); staged = k.staged }

  all_told_more : (ks : List KeptCommit) → AllByRecursion (HasTerms names) ks → map (told (names ++ more)) ks ≡ map (told names) ks
  all_told_more [] h = refl
  all_told_more (k ∷ ks) h =
      let first = told_more k h.0 in
      let rest = all_told_more ks h.1 in
      λ i. first i ∷ rest i

  all_have_more : (ks : List KeptCommit) → AllByRecursion (HasTerms names) ks → AllByRecursion (HasTerms (names ++ more)) ks
  all_have_more [] h = tt
  all_have_more (k ∷ ks) h = (numbered_more k.changed h.0, all_have_more ks h.1)

push_terms : (names : List Term) (ks : List KeptCommit) (k : KeptCommit) → AllByRecursion (HasTerms names) ks → HasTerms names k → AllByRecursion (HasTerms names) (ks ++ k ∷ [])
push_terms names [] k h w = (w, tt)
push_terms names (l ∷ ks) k h w = (h.0, push_terms names ks k h.1 w)

-- one more commit, under names with more
pub have_later : (names later : List Term) (ks js : List KeptCommit) (k : KeptCommit) → IsBeginning names later → js ≡ ks ++ k ∷ [] → AllByRecursion (HasTerms names) ks → HasTerms later k → AllByRecursion (HasTerms later) js
have_later names later ks js k b e h w =
    subst (λ (ls : List KeptCommit). AllByRecursion (HasTerms later) ls) (sym e) (push_terms later ks k (subst (λ (ts : List Term). AllByRecursion (HasTerms ts) ks) (sym b.1) (all_have_more names b.0 ks h)) w)

pub told_later : (names later : List Term) (ks js : List KeptCommit) (k : KeptCommit) → IsBeginning names later → js ≡ ks ++ k ∷ [] → AllByRecursion (HasTerms names) ks → map (told later) js ≡ map (told names) ks ++ told later k ∷ []
told_later names later ks js k b e h =
    ap (map (told later)) e ∙ map-append (told later) ks (k ∷ [])
    ∙ ap (λ (as' : List Accepted). as' ++ told later k ∷ []) (ap (λ (ts : List Term). map (told ts) ks) b.1 ∙ all_told_more names b.0 ks h)

-- the commits after so many
pub told_after : (names : List Term) (ls ks : List KeptCommit) (n : ℕ) → ls ≡ ks → map (told names) (take (length ls - n) (drop n ls)) ≡ drop n (map (told names) ks)
told_after names ls ks n e =
    ap (map (told names)) (take_all (length ls - n) (drop n ls) (let l = length-drop n ls in omega (arith, l)))
    ∙ ap (λ (js : List KeptCommit). map (told names) (drop n js)) e ∙ sym (drop-map (told names) n ks)
