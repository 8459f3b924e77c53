-- Where more terms are named, the triples by number stay those of the graph, and the words of classes keep their numbers.
use Rattle.std.proofs.Common.{◌≡◌, ◌∙◌, true, false, cond, List, [], ◌∷◌, ◌++◌, sym, subst, arith, length-append, refl}
use Rattle.std.specs.Prelude.{◌↔◌}
use Rattle.std.specs.List.{Contains}
use Rattle.std.proofs.Math.ListN.{get_or-append}
use Rattle.collections.specs.Ordered.{has_item}
use Rattle.rdf_model.specs.declared.ids.Ids.{Ids}
use Rattle.rdf_model.specs.declared.term.Term.{Term}
use Rattle.rdf_model.specs.declared.term.Term.TheVariants.{Blank}
use Rattle.rdf_model.specs.declared.triple.Triple.{Triple}
use Rattle.rdf_model.specs.Numbers.{AreNumbered, graph_of, triple_at}
use Rattle.rdf_model.specs.Terms.{term_cmp}
use Rattle.shape_model.specs.Vocabulary.{rdf, rdf_type, sub_class_of}
use Rattle.term_dict.specs.Names.{first_terms, with_terms}
use Rattle.bound_shapes.specs.Bound.{BoundGraph, IsBoundTo}
use Rattle.bound_shapes.proofs.Growing.{still_bound}
use Rattle.parallel_validate.specs.Named.{AreNamedTriples, IsNumbered}
use Rattle.data_graph.specs.DataGraphs.{HaveClassWords, IsIndexOf}

same_triple : (terms : List Term) (u : Term) (i : Ids) → IsNumbered terms i → triple_at (terms ++ u ∷ []) i ≡ triple_at terms i
same_triple terms u i n =
    let subject = get_or-append terms (u ∷ []) (Blank 0 0) i.subject n.0 in
    let predicate = get_or-append terms (u ∷ []) (Blank 0 0) i.predicate n.1 in
    let object = get_or-append terms (u ∷ []) (Blank 0 0) i.object n.2 in
    λ k. record { subject = subject k; predicate = predicate k; object = object k }

same_triples : (terms : List Term) (u : Term) (ids : List Ids) → AreNumbered terms ids → graph_of (terms ++ u ∷ []) ids ≡ graph_of terms ids
same_triples terms u [] a = λ k. []
same_triples terms u (i ∷ is) a = let one = same_triple terms u i a.0 in let more = same_triples terms u is a.1 in λ k. one k ∷ more k

still_numbered : (terms : List Term) (u : Term) (ids : List Ids) → AreNumbered terms ids → AreNumbered (terms ++ u ∷ []) ids
still_numbered terms u [] a = tt
still_numbered terms u (i ∷ is) a =
    let l = length-append terms (u ∷ []) in
    let n = a.0 in
    ((omega (arith, l, n.0), omega (arith, l, n.1), omega (arith, l, n.2)), still_numbered terms u is a.1)

one_more : (terms : List Term) (u : Term) (ids : List Ids) (g : List Triple) → IsIndexOf terms ids g → IsIndexOf (terms ++ u ∷ []) ids g
one_more terms u ids g x = record {
  numbered = still_numbered terms u ids x.numbered;
  members = λ t. subst (λ (ts : List Triple). Contains ts t ↔ Contains g t) (sym (same_triples terms u ids x.numbered)) (x.members t);
}

all_more : (terms ts : List Term) (ids : List Ids) (g : List Triple) → IsIndexOf terms ids g → IsIndexOf (with_terms terms ts) ids g
all_more terms [] ids g x = x
all_more terms (t ∷ ts) ids g x = elim (has_item term_cmp t terms) as (λ b. IsIndexOf (with_terms (cond b terms (terms ++ t ∷ [])) ts) ids g) [
  | true ↦ all_more terms ts ids g x
  | false ↦ all_more (terms ++ t ∷ []) ts ids g (one_more terms t ids g x)
]

-- by the names that a dictionary has afterwards
pub named_more : (terms more ts : List Term) (ids : List Ids) (g : List Triple) → more ≡ with_terms terms ts → IsIndexOf terms ids g → IsIndexOf more ids g
named_more terms more ts ids g e x = subst (λ (us : List Term). IsIndexOf us ids g) (sym e) (all_more terms ts ids g x)

-- the terms of no triples are named
pub no_triple_named : (terms : List Term) (g : List Triple) → g ≡ [] → AreNamedTriples terms g
no_triple_named terms g e = subst (λ (ts : List Triple). AreNamedTriples terms ts) (sym e) (λ k d lt. absurd (omega (arith, lt)))

-- the bound shapes stay bound
all_bound : (terms ts : List Term) (b : BoundGraph) → IsBoundTo terms b → IsBoundTo (with_terms terms ts) b
all_bound terms [] b x = x
all_bound terms (t ∷ ts) b x = elim (has_item term_cmp t terms) as (λ h. IsBoundTo (with_terms (cond h terms (terms ++ t ∷ [])) ts) b) [
  | true ↦ all_bound terms ts b x
  | false ↦ all_bound (terms ++ t ∷ []) ts b (still_bound terms (t ∷ []) b x)
]

pub bound_more : (terms more ts : List Term) (b : BoundGraph) → more ≡ with_terms terms ts → IsBoundTo terms b → IsBoundTo more b
bound_more terms more ts b e x = subst (λ (us : List Term). IsBoundTo us b) (sym e) (all_bound terms ts b x)

-- the first terms of a dictionary are the words of classes
first_are_words : first_terms ≡ rdf_type ∷ sub_class_of ∷ []
unfolding first_terms rdf rdf_type sub_class_of
first_are_words = refl

pub words_first : (terms : List Term) → terms ≡ first_terms → HaveClassWords terms
words_first terms e = subst (λ (ts : List Term). HaveClassWords ts) (sym (e ∙ first_are_words)) (record {
  types_bound = omega arith;
  types = refl;
  above_bound = omega arith;
  above = refl;
})

one_word : (terms : List Term) (u : Term) → HaveClassWords terms → HaveClassWords (terms ++ u ∷ [])
one_word terms u w =
    let l = length-append terms (u ∷ []) in
    record {
      types_bound = omega (arith, l, w.types_bound);
      types = get_or-append terms (u ∷ []) (Blank 0 0) 0 w.types_bound ∙ w.types;
      above_bound = omega (arith, l, w.above_bound);
      above = get_or-append terms (u ∷ []) (Blank 0 0) 1 w.above_bound ∙ w.above;
    }

all_words : (terms ts : List Term) → HaveClassWords terms → HaveClassWords (with_terms terms ts)
all_words terms [] w = w
all_words terms (t ∷ ts) w = elim (has_item term_cmp t terms) as (λ b. HaveClassWords (with_terms (cond b terms (terms ++ t ∷ [])) ts)) [
  | true ↦ all_words terms ts w
  | false ↦ all_words (terms ++ t ∷ []) ts (one_word terms t w)
]

pub words_more : (terms more ts : List Term) → more ≡ with_terms terms ts → HaveClassWords terms → HaveClassWords more
words_more terms more ts e w = subst (λ (us : List Term). HaveClassWords us) (sym e) (all_words terms ts w)
