-- Where more terms are named, the triples by number stay those of the graph, and what is named stays named.
use Rattle.std.proofs.Common.{◌≡◌, true, false, cond, List, [], ◌∷◌, ◌++◌, sym, subst, arith, length-append}
use Rattle.std.specs.Prelude.{◌↔◌, slice_index_or}
use Rattle.std.specs.List.{Contains}
use Rattle.std.proofs.Math.ListN.{get_or-append}
use Rattle.std.proofs.lemmas.List.Elements.{Contains-append_left}
use Rattle.collections.specs.Ordered.{has_item}
use Rattle.rdf_model.specs.declared.ids.Ids.{Ids}
use Rattle.rdf_model.specs.declared.term.Term.{Term}
use Rattle.rdf_model.specs.declared.term.Term.TheVariants.{Blank}
use Rattle.rdf_model.specs.declared.triple.Triple.{Triple}
use Rattle.rdf_model.specs.Numbers.{AreNumbered, graph_of, triple_at}
use Rattle.rdf_model.specs.Terms.{term_cmp}
use Rattle.term_dict.specs.Names.{with_terms}
use Rattle.triple_index.specs.Changes.{IsNumbered}
use Rattle.follower.specs.Numbered.{AreNamedTriples, IsIndexOf, IsNamedRecord}
use Rattle.record_text.specs.declared.record.Record.{Record}

same_triple : (terms : List Term) (u : Term) (i : Ids) → IsNumbered terms i → triple_at (terms ++ u ∷ []) i ≡ triple_at terms i
same_triple terms u i n =
    let subject = get_or-append terms (u ∷ []) (Blank 0 0) i.subject n.0 in
    let predicate = get_or-append terms (u ∷ []) (Blank 0 0) i.predicate n.1 in
    let object = get_or-append terms (u ∷ []) (Blank 0 0) i.object n.2 in
    λ k. record { subject = subject k; predicate = predicate k; object = object k }

same_triples : (terms : List Term) (u : Term) (ids : List Ids) → AreNumbered terms ids → graph_of (terms ++ u ∷ []) ids ≡ graph_of terms ids
same_triples terms u [] a = λ k. []
same_triples terms u (i ∷ is) a = let one = same_triple terms u i a.0 in let more = same_triples terms u is a.1 in λ k. one k ∷ more k

still_numbered : (terms : List Term) (u : Term) (ids : List Ids) → AreNumbered terms ids → AreNumbered (terms ++ u ∷ []) ids
still_numbered terms u [] a = tt
still_numbered terms u (i ∷ is) a =
    let l = length-append terms (u ∷ []) in
    let n = a.0 in
    ((omega (arith, l, n.0), omega (arith, l, n.1), omega (arith, l, n.2)), still_numbered terms u is a.1)

one_more : (terms : List Term) (u : Term) (ids : List Ids) (g : List Triple) → IsIndexOf terms ids g → IsIndexOf (terms ++ u ∷ []) ids g
one_more terms u ids g x = record {
  numbered = still_numbered terms u ids x.numbered;
  members = λ t. subst (λ (ts : List Triple). Contains ts t ↔ Contains g t) (sym (same_triples terms u ids x.numbered)) (x.members t);
}

pub index_more : (terms ts : List Term) (ids : List Ids) (g : List Triple) → IsIndexOf terms ids g → IsIndexOf (with_terms terms ts) ids g
index_more terms [] ids g x = x
index_more terms (t ∷ ts) ids g x = elim (has_item term_cmp t terms) as (λ b. IsIndexOf (with_terms (cond b terms (terms ++ t ∷ [])) ts) ids g) [
  | true ↦ index_more terms ts ids g x
  | false ↦ index_more (terms ++ t ∷ []) ts ids g (one_more terms t ids g x)
]

-- what is named stays named
pub names_stay : (terms ts : List Term) (u : Term) → Contains terms u → Contains (with_terms terms ts) u
names_stay terms [] u c = c
names_stay terms (t ∷ ts) u c = elim (has_item term_cmp t terms) as (λ b. Contains (with_terms (cond b terms (terms ++ t ∷ [])) ts) u) [
  | true ↦ names_stay terms ts u c
  | false ↦ names_stay (terms ++ t ∷ []) ts u (Contains-append_left terms (t ∷ []) u c)
]

triples_stay : (terms ts : List Term) (us : List Triple) → AreNamedTriples terms us → AreNamedTriples (with_terms terms ts) us
triples_stay terms ts us a i d lt = let u = slice_index_or us i d in let n = a i d lt in (names_stay terms ts u.subject n.0, names_stay terms ts u.predicate n.1, names_stay terms ts u.object n.2)

pub record_stays : (terms ts : List Term) (r : Record) → IsNamedRecord terms r → IsNamedRecord (with_terms terms ts) r
record_stays terms ts r n = (triples_stay terms ts r.removed n.0, triples_stay terms ts r.added n.1)
