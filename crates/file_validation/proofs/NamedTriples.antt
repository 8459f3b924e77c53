-- Triples whose terms have numbers, as more terms come.
use Rattle.std.proofs.Common.{◌≡◌, ◌+◌, ◌<◌, ℕ, zero, suc, List, [], ◌∷◌, length, get_or, arith, inl, inr, subst, sym}
use Rattle.std.specs.Prelude.{◌↔◌, codes}
use Rattle.std.specs.List.{Contains}
use Rattle.std.proofs.lemmas.Bool.{cases_eq}
use Rattle.std.proofs.lemmas.List.Elements.{Contains-append_left}
use Rattle.collections.proofs.Members.{has_equal, has_tail}
use Rattle.rdf_model.specs.declared.term.Term.{Term}
use Rattle.rdf_model.specs.declared.term.Term.TheVariants.{Iri}
use Rattle.rdf_model.specs.declared.ids.Ids.{Ids}
use Rattle.rdf_model.specs.declared.triple.Triple.{Triple}
use Rattle.rdf_model.specs.Numbers.{AreNumbered, graph_of, term_at}
use Rattle.shape_model.specs.Vocabulary.{rdf, rdf_type, sub_class_of}
use Rattle.path_eval.specs.declared.instances.ClassWords.{ClassWords}
use Rattle.path_eval.specs.Instances.{AreClassWords}
use Rattle.parallel_validate.specs.Named.{IsNamedTriple}
use Rattle.parallel_validate.proofs.Members.{index_members, index_numbered}
use Rattle.data_graph.specs.DataGraphs.{IsIndexOf}
use Rattle.triple_table.specs.Tables.{HasGrown, IsPlaceOf}
use Rattle.triple_table.proofs.Places.{graph_grown, numbered_grown, place_stays}

-- a term with a number is named
pub placed : (named : List Term) (n : ℕ) (t : Term) → n < length named → term_at named n ≡ t → Contains named t
placed [] n t lt e = absurd (omega arith)
placed (x ∷ xs) zero t lt e = has_equal x xs t e
placed (x ∷ xs) (suc n) t lt e = has_tail x xs t (placed xs n t (omega arith) e)

-- and so it is behind more terms
pub stays : (us vs : List Term) (t : Term) → HasGrown us vs → Contains us t → Contains vs t
stays us vs t g c = subst (λ (ws : List Term). Contains ws t) (sym g.1) (Contains-append_left us g.0 t c)

triple_stays : (us vs : List Term) (t : Triple) → HasGrown us vs → IsNamedTriple us t → IsNamedTriple vs t
triple_stays us vs t g n = (stays us vs t.subject g n.0, stays us vs t.predicate g n.1, stays us vs t.object g n.2)

-- one triple more of a list
item_at : (ts : List Triple) (i : ℕ) (t d : Triple) → i < length ts → t ≡ get_or ts i t → get_or ts i d ≡ t
item_at [] i t d l e = absurd (omega arith)
item_at (u ∷ ts) zero t d l e = sym e
item_at (u ∷ ts) (suc i) t d l e = item_at ts i t d (omega arith) e

pub named_more : (us vs : List Term) (ts : List Triple) (i : ℕ) (t : Triple) → HasGrown us vs → i < length ts → t ≡ get_or ts i t → IsNamedTriple vs t → ((k : ℕ) (d : Triple) → k < i → IsNamedTriple us (get_or ts k d)) → (k : ℕ) (d : Triple) → k < i + 1 → IsNamedTriple vs (get_or ts k d)
named_more us vs ts i t g lt is here before k d l = elim (cases_eq k i) [
  | inl e ↦ subst (λ (j : ℕ). IsNamedTriple vs (get_or ts j d)) (sym e) (subst (λ (u : Triple). IsNamedTriple vs u) (sym (item_at ts i t d lt is)) here)
  | inr n ↦ triple_stays us vs (get_or ts k d) g (before k d (apart n))
]
  where
    apart : (k ≡ i → ⊥) → k < i
    apart n = omega arith

-- the numbers of rdf:type and rdfs:subClassOf
pub class_words : (us vs : List Term) (n m : ℕ) → HasGrown us vs → IsPlaceOf us n (Iri (codes "http://www.w3.org/1999/02/22-rdf-syntax-ns#type")) → IsPlaceOf vs m (Iri (codes "http://www.w3.org/2000/01/rdf-schema#subClassOf")) → AreClassWords vs (record { rdf_type = n; sub_class_of = m })
unfolding rdf rdf_type sub_class_of
class_words us vs n m g p q =
    let r = place_stays us vs n (Iri (codes "http://www.w3.org/1999/02/22-rdf-syntax-ns#type")) g p in
    record { types_bound = r.within; types = r.is; above_bound = q.within; above = q.is }

pub words_stay : (us vs : List Term) (w : ClassWords) → HasGrown us vs → AreClassWords us w → AreClassWords vs w
words_stay us vs w g a =
    let types = place_stays us vs w.rdf_type rdf_type g (record { within = a.types_bound; is = a.types }) in
    let above = place_stays us vs w.sub_class_of sub_class_of g (record { within = a.above_bound; is = a.above }) in
    record { types_bound = types.within; types = types.is; above_bound = above.within; above = above.is }

-- an index of numbers stands for their graph
pub index_of : (terms : List Term) (graph : List Triple) (ids index : List Ids) → AreNumbered terms ids → graph_of terms ids ≡ graph → ((i : Ids) → Contains index i ↔ Contains ids i) → IsIndexOf terms index graph
index_of terms graph ids index a e same = record {
  numbered = index_numbered terms ids index a same;
  members = index_members terms ids index graph e same;
}

-- and as more terms come they stand for the same
pub index_grown : (us vs : List Term) (ids : List Ids) → HasGrown us vs → AreNumbered us ids → IsIndexOf vs ids (graph_of us ids)
index_grown us vs ids g a = record {
  numbered = numbered_grown us vs ids g a;
  members = λ t. subst (λ (ts : List Triple). Contains (graph_of vs ids) t ↔ Contains ts t) (graph_grown us vs ids g a) (λ h. h, λ h. h);
}
