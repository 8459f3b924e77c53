-- Whether under a look stand just its triples of a graph by numbers.
use Rattle.std.proofs.Common.{◌≡◌, ◌∙◌, ◌==◌, Bool, true, false, List, [], ◌∷◌, length, refl, sym, ap, subst, arith}
use Rattle.std.specs.Prelude.{◌↔◌, IsTrue}
use Rattle.std.specs.Bool.{Decides}
use Rattle.std.proofs.lemmas.Bool.Decides.{nat_tests}
use Rattle.std.specs.List.{Contains}
use Rattle.std.specs.Ordering.{eq_by_cmp, is_eq}
use Rattle.std.specs.declared.cmp.Ordering.{Ordering}
use Rattle.std.specs.declared.cmp.Ordering.TheVariants.{Less, Equal, Greater}
use Rattle.std.specs.Cmp.{tied_itself}
use lib.Pointwise.{pointwise}
use Rattle.std.proofs.lemmas.Slice.Eq.{slice_eq-Decides}
use Rattle.collections.specs.Listings.{IsListing}
use Rattle.collections.proofs.Members.{has_head}
use Rattle.rdf_model.specs.declared.term.Term.{Term}
use Rattle.rdf_model.specs.declared.triple.Triple.{Triple}
use Rattle.rdf_model.specs.declared.ids.Ids.{Ids}
use Rattle.rdf_model.specs.declared.look.Look.{Look}
use Rattle.rdf_model.specs.declared.look.Look.TheVariants.{Out, In, OutAny}
use Rattle.rdf_model.specs.Numbers.{AreNumbered, graph_of, term_at}
use Rattle.rdf_model.specs.Orders.{triple_exact, triple_total}
use Rattle.rdf_model.specs.Terms.{triple_cmp}
use Rattle.shape_model.specs.Looks.{Matches}
use Rattle.shape_model.proofs.Listings.{one_listing}
use Rattle.parallel_validate.proofs.Members.{numbered_at, of_graph}
use Rattle.evidence_blocks.specs.declared.block.ShownLook.{ShownLook}
use Rattle.evidence_blocks.specs.Blocks.{HasTriples}
use Rattle.result_evidence.specs.Standing.{HasNumbers}

is_equal : (o : Ordering) → is_eq o ≡ true → o ≡ Equal
is_equal Less h = cc
is_equal Equal h = refl
is_equal Greater h = cc

same_triples : (a b : Triple) → Decides (eq_by_cmp triple_cmp a b) (a ≡ b)
same_triples a b = (
  λ h. triple_exact a b (is_equal (triple_cmp a b) h),
  λ e. subst (λ (c : Triple). eq_by_cmp triple_cmp a c ≡ true) e (ap is_eq (tied_itself triple_total a)),
)

-- the listed triples are those that were found
pub exact_where_found : (g : List Triple) (x : ShownLook) (look : Look Term) (found own : List Triple) (answer : Bool) → look ≡ x.look → own ≡ x.triples → IsListing triple_cmp (λ t. Contains g t × Matches look t) found
    → answer ≡ pointwise (eq_by_cmp triple_cmp) found own → IsTrue answer ↔ HasTriples g x
exact_where_found g x look found own answer same is l told =
    let decides = slice_eq-Decides same_triples found own answer told in
    let listing : IsListing triple_cmp (λ t. Contains g t × Matches x.look t) found = subst (λ (k : Look Term). IsListing triple_cmp (λ t. Contains g t × Matches k t) found) same l in (
      λ a. subst (λ (ts : List Triple). IsListing triple_cmp (λ t. Contains g t × Matches x.look t) ts) (decides.0 a ∙ is) listing,
      λ h. decides.1 (one_listing triple_cmp triple_total (λ t. Contains g t × Matches x.look t) found x.triples listing h ∙ sym is),
    )

-- a look that a triple of the graph matches has numbers
module _ (terms : List Term) (ids : List Ids) (are : AreNumbered terms ids) where
  numbers_of : (look : Look Term) (t : Triple) → Contains (graph_of terms ids) t → Matches look t → HasNumbers terms look
  numbers_of (Out x p) t c m =
      let k = of_graph terms ids t c in
      let n = numbered_at terms ids k.0 are k.1 in
      let s : term_at terms k.0.subject ≡ x = ap (λ (u : Triple). u.subject) k.2 ∙ m.0 in
      let q : term_at terms k.0.predicate ≡ p = ap (λ (u : Triple). u.predicate) k.2 ∙ m.1 in
      (Out k.0.subject k.0.predicate, (n.0, n.1), λ i. Out (s i) (q i))
  numbers_of (In p x) t c m =
      let k = of_graph terms ids t c in
      let n = numbered_at terms ids k.0 are k.1 in
      let q : term_at terms k.0.predicate ≡ p = ap (λ (u : Triple). u.predicate) k.2 ∙ m.0 in
      let o : term_at terms k.0.object ≡ x = ap (λ (u : Triple). u.object) k.2 ∙ m.1 in
      (In k.0.predicate k.0.object, (n.1, n.2), λ i. In (q i) (o i))
  numbers_of (OutAny x) t c m =
      let k = of_graph terms ids t c in
      let n = numbered_at terms ids k.0 are k.1 in
      let s : term_at terms k.0.subject ≡ x = ap (λ (u : Triple). u.subject) k.2 ∙ m in
      (OutAny k.0.subject, n.0, λ i. OutAny (s i))

  -- one without numbers has no triple
  pub exact_where_none : (x : ShownLook) → (HasNumbers terms x.look → ⊥) → (answer : Bool) → IsTrue answer ↔ (x.triples ≡ []) → IsTrue answer ↔ HasTriples (graph_of terms ids) x
  exact_where_none x never answer told = (
    λ a. subst (λ (ts : List Triple). IsListing triple_cmp (λ t. Contains (graph_of terms ids) t × Matches x.look t) ts) (sym (told.0 a)) (record {
      ascending = tt;
      members = λ t. (λ c. absurd (omega (arith, c.1)), λ m. absurd (never (numbers_of x.look t m.0 m.1)));
    }),
    λ h. told.1 (empty x.triples (λ t c. let m = (h.members t).0 c in never (numbers_of x.look t m.0 m.1))),
  )
    where
      empty : (ts : List Triple) → ((t : Triple) → Contains ts t → ⊥) → ts ≡ []
      empty [] f = refl
      empty (t ∷ ts) f = absurd (f t (has_head t ts))

-- a list is empty where it has no item
pub by_length : (ts : List Triple) (answer : Bool) → answer ≡ (length ts == 0) → IsTrue answer ↔ (ts ≡ [])
by_length [] answer e = (λ a. refl, λ q. e)
by_length (t ∷ ts) answer e =
    let some : (length (t ∷ ts) == 0) ≡ false = grind (arith, nat_tests) in (
      λ a. (let bad : true ≡ false = sym a ∙ e ∙ some in cc),
      λ q. cc,
    )
