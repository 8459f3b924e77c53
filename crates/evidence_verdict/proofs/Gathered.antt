-- The triples that a block lists, by the numbers of their terms.
use Rattle.std.proofs.Common.{◌≡◌, ◌∙◌, ◌+◌, ◌<◌, ℕ, List, [], ◌∷◌, ◌++◌, length, take, get_or, sym, ap, subst, append-nil, append_assoc}
use Rattle.std.specs.Prelude.{◌↔◌}
use Rattle.std.specs.List.{All, Contains}
use Rattle.std.proofs.lemmas.List.{map-append, take_more}
use Rattle.std.proofs.lemmas.List.Elements.{All-contains, Contains-get_or}
use Rattle.std.proofs.lemmas.Grind.{flat_map-append}
use Rattle.rdf_model.specs.declared.ids.Ids.{Ids}
use Rattle.rdf_model.specs.declared.term.Term.{Term}
use Rattle.rdf_model.specs.declared.triple.Triple.{Triple}
use Rattle.rdf_model.specs.Numbers.{AreNumbered, graph_of, term_at, triple_at}
use Rattle.parallel_validate.specs.Named.{AreNamedTriples, IsNamedTriple, IsNumbered}
use Rattle.parallel_validate.proofs.Members.{index_numbered, numbered_at, of_graph, same_graph}
use Rattle.evidence_blocks.specs.declared.block.ShownLook.{ShownLook}
use Rattle.evidence_blocks.specs.Blocks.{HasTriples}
use Rattle.evidence_blocks.specs.Shown.{triples_in}
use Rattle.evidence_laws.proofs.Holding.{to_looks, within}

-- each term of a graph by numbers is named
named_triple : (terms : List Term) (ids : List Ids) → AreNumbered terms ids → (t : Triple) → Contains (graph_of terms ids) t → IsNamedTriple terms t
named_triple terms ids are t c =
    let k = of_graph terms ids t c in
    let n = numbered_at terms ids k.0 are k.1 in
    let named : (i : ℕ) (x : Term) → i < length terms → term_at terms i ≡ x → Contains terms x = λ i x lt e. subst (λ (y : Term). Contains terms y) e (Contains-get_or terms i _ lt) in (
      named k.0.subject t.subject n.0 (ap (λ (u : Triple). u.subject) k.2),
      named k.0.predicate t.predicate n.1 (ap (λ (u : Triple). u.predicate) k.2),
      named k.0.object t.object n.2 (ap (λ (u : Triple). u.object) k.2),
    )

-- so are those of the listed triples
pub listed_named : (terms : List Term) (ids : List Ids) → AreNumbered terms ids → (looks : List ShownLook) → All (HasTriples (graph_of terms ids)) looks → AreNamedTriples terms (triples_in looks)
listed_named terms ids are looks each k d lt =
    let t = get_or (triples_in looks) k d in
    named_triple terms ids are t (within (graph_of terms ids) looks each t (Contains-get_or (triples_in looks) k d lt))

-- those under one look
pub under_named : (terms : List Term) (looks : List ShownLook) (i : ℕ) (x : ShownLook) → AreNamedTriples terms (triples_in looks) → i < length looks → x ≡ get_or looks i x → AreNamedTriples terms x.triples
under_named terms looks i x named lt at k d less =
    let t = get_or x.triples k d in
    let here : Contains looks x = subst (λ (y : ShownLook). Contains looks y) (sym at) (Contains-get_or looks i x lt) in
    All-contains (IsNamedTriple terms) (triples_in looks) t named (to_looks looks t x here (Contains-get_or x.triples k d less))

-- one triple more
module _ (terms : List Term) (triples : List Triple) (i : ℕ) where
  pub more_numbered : (x : Triple) (ids new start : List Ids) (number : Ids) → i < length triples → x ≡ get_or triples i x → triple_at terms number ≡ x → new ≡ ids ++ number ∷ []
      → graph_of terms ids ≡ graph_of terms start ++ take i triples → graph_of terms new ≡ graph_of terms start ++ take (i + 1) triples
  more_numbered x ids new start number lt at is joined before =
      ap (graph_of terms) joined ∙ map-append (triple_at terms) ids (number ∷ []) ∙ (λ j. before j ++ is j ∷ []) ∙ regroup (graph_of terms start) (take i triples) (x ∷ [])
      ∙ ap (λ (ts : List Triple). graph_of terms start ++ ts) (sym (take_more triples i x lt ∙ ap (λ (y : Triple). take i triples ++ y ∷ []) (sym at)))
    where
      regroup : (a b c : List Triple) → a ++ b ++ c ≡ a ++ (b ++ c)
      regroup a b c = simp append_assoc

pub numbers_more : (terms : List Term) (ids new : List Ids) (number : Ids) → new ≡ ids ++ number ∷ [] → AreNumbered terms ids → IsNumbered terms number → AreNumbered terms new
numbers_more terms ids new number joined are one = subst (λ (is : List Ids). AreNumbered terms is) (sym joined) (push ids are)
  where
    push : (is : List Ids) → AreNumbered terms is → AreNumbered terms (is ++ number ∷ [])
    push [] a = (one, tt)
    push (i ∷ is) a = (a.0, push is a.1)

-- the triples of one look more
pub more_listed : (terms : List Term) (looks : List ShownLook) (i : ℕ) (x : ShownLook) (old new : List Ids) → i < length looks → x ≡ get_or looks i x → graph_of terms old ≡ triples_in (take i looks)
    → graph_of terms new ≡ graph_of terms old ++ x.triples → graph_of terms new ≡ triples_in (take (i + 1) looks)
more_listed terms looks i x old new lt at before joined =
    joined ∙ (λ j. before j ++ x.triples) ∙ sym (ap triples_in (take_more looks i x lt ∙ ap (λ (y : ShownLook). take i looks ++ y ∷ []) (sym at)) ∙ flat_map-append (λ (y : ShownLook). y.triples) (take i looks) (x ∷ []) ∙ ap (λ (ts : List Triple). triples_in (take i looks) ++ ts) (append-nil x.triples))

-- the index of all of them
module _ (terms : List Term) (looks : List ShownLook) (ids index : List Ids) (same : (i : Ids) → Contains index i ↔ Contains ids i) where
  pub index_lists : graph_of terms ids ≡ triples_in looks → (t : Triple) → Contains (graph_of terms index) t ↔ Contains (triples_in looks) t
  index_lists is t = subst (λ (ts : List Triple). Contains (graph_of terms index) t ↔ Contains ts t) is (same_graph terms index ids same t)

  pub index_is_numbered : AreNumbered terms ids → AreNumbered terms index
  index_is_numbered are = index_numbered terms ids index are same
