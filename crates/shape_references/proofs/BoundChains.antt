-- Chains of references in bundles, by the graph of the names of their nodes: a reference is two of its triples in a row.
use Rattle.std.proofs.Common.{◌≡◌, ◌∙◌, ℕ, zero, suc, ◌+◌, ◌<◌, List, [], ◌∷◌, length, Option, Some, None, refl, sym, ap, subst, arith, inl, inr}
use Rattle.std.specs.Prelude.{◌↔◌, ◌⊎◌, MatchOption, slice_get}
use Rattle.std.specs.List.{Contains}
use Rattle.std.proofs.lemmas.Bool.{cases_eq}
use Rattle.collections.specs.Listings.{IsListing}
use Rattle.rdf_model.specs.declared.term.Term.{Term}
use Rattle.rdf_model.specs.declared.term.Term.TheVariants.{Blank}
use Rattle.rdf_model.specs.declared.triple.Triple.{Triple}
use Rattle.rdf_model.specs.Terms.{term_cmp, triple_cmp}
use Rattle.shape_syntax.proofs.Items.{get_in, get_within, place_in}
use Rattle.shape_syntax.specs.Gathering.{Gives}
use Rattle.shape_references.specs.declared.bundle.Bundle.{Bundle}
use Rattle.shape_references.specs.Bundles.{IsBound, IsEdge, IsEdgeOf, IsFoundNode, IsLeastNode, IsName, IsNodeOf}
use Rattle.shape_references.specs.Chains.{Chain, HasChain, HasLoopAt, IsJoined, IsLeastOnLoop, IsLeastWithChain, IsOnLoop, LeadsTo}
use Rattle.shape_references.proofs.BoundNames.{found_by, has_name, not_bundle, one_named, one_place_named}

-- the triples of the bundles before the end, with those of the next
pub edge_next : (nodes : List Term) (bundles : List Bundle) (k : ℕ) (w : Bundle) (edges new : List Triple) → slice_get bundles k ≡ Some w → ((t : Triple) → Contains edges t ↔ IsEdge nodes bundles k t)
    → ((t : Triple) → Contains new t ↔ (Contains edges t ⊎ IsEdgeOf nodes k w t)) → (t : Triple) → Contains new t ↔ IsEdge nodes bundles (k + 1) t
edge_next nodes bundles k w edges new got before here t = (
  λ c. elim ((here t).0 c) [
    | inl old ↦ (let e = (before t).0 old in (e.0, (let l : e.0 < k = e.1 in omega arith), e.2))
    | inr now ↦ (k, omega arith, (w, got, now))
  ],
  λ e. (here t).1 (elim (cases_eq e.0 k) [
    | inl same ↦
        let f : Some e.2.0 ≡ Some w = sym e.2.1 ∙ ap (λ x. slice_get bundles x) same ∙ got in
        let g : e.2.0 ≡ w = cc in
        inr (subst (λ (x : Bundle). IsEdgeOf nodes k x t) g (subst (λ x. IsEdgeOf nodes x e.2.0 t) same e.2.2))
    | inr other ↦ inl ((before t).1 (e.0, (let l : e.0 < k + 1 = e.1 in omega arith), e.2))
  ]),
)

abbrev double : ℕ → ℕ
double zero = zero
double (suc k) = suc (suc (double k))

double_is : (k : ℕ) → double k ≡ k + k
double_is zero = omega arith
double_is (suc k) = let e : double k ≡ k + k = double_is k in omega arith

module _ (bundles : List Bundle) (nodes : List Term) (edges : List Triple) (are : IsListing term_cmp (Gives IsNodeOf bundles) nodes) (list : IsListing triple_cmp (IsEdge nodes bundles (length bundles)) edges) where
  named : (w : Bundle) (n : Term) → Contains bundles w → IsNodeOf w n → (x : Term) × IsName nodes n x
  named w n c h = has_name nodes n ((are.members n).1 (w, c, h))

  -- a triple begins at a node or at a bundle
  begins : (x y : Term) → IsJoined edges x y → ((n : Term) × IsName nodes n x) ⊎ ((i : ℕ) × (x ≡ Blank 1 i))
  begins x y j =
      let edge = (list.members (record { subject = x; predicate = j.0; object = y })).0 j.1 in
      elim edge.2.2 [
        | inl g ↦
            let subject : x ≡ g.2.0 = ap (λ (t : Triple). t.subject) g.2.2 in
            inl (g.0, subst (λ (z : Term). IsName nodes g.0 z) (sym subject) g.2.1)
        | inr g ↦ inr (edge.0, ap (λ (t : Triple). t.subject) g.2.2)
      ]

  from_node : (a x y : Term) → IsName nodes a x → IsJoined edges x y → (i : ℕ) × (w : Bundle) × (slice_get bundles i ≡ Some w) × Contains w.from a × (y ≡ Blank 1 i)
  from_node a x y name j =
      let edge = (list.members (record { subject = x; predicate = j.0; object = y })).0 j.1 in
      elim edge.2.2 [
        | inl g ↦
            let subject : x ≡ g.2.0 = ap (λ (t : Triple). t.subject) g.2.2 in
            let same : g.0 ≡ a = one_named nodes g.0 a x (subst (λ (z : Term). IsName nodes g.0 z) (sym subject) g.2.1) name in
            (edge.0, edge.2.0, edge.2.1, subst (λ (n : Term). Contains edge.2.0.from n) same g.1, ap (λ (t : Triple). t.object) g.2.2)
        | inr g ↦ absurd (not_bundle nodes a x edge.0 name (ap (λ (t : Triple). t.subject) g.2.2))
      ]

  from_bundle : (i : ℕ) (y : Term) → IsJoined edges (Blank 1 i) y → (w : Bundle) × (b : Term) × (slice_get bundles i ≡ Some w) × Contains w.to b × IsName nodes b y
  from_bundle i y j =
      let edge = (list.members (record { subject = Blank 1 i; predicate = j.0; object = y })).0 j.1 in
      elim edge.2.2 [
        | inl g ↦ absurd (not_bundle nodes g.0 g.2.0 i g.2.1 (sym (ap (λ (t : Triple). t.subject) g.2.2)))
        | inr g ↦
            let same : i ≡ edge.0 = one_place_named i edge.0 (ap (λ (t : Triple). t.subject) g.2.2) in
            let object : y ≡ g.2.0 = ap (λ (t : Triple). t.object) g.2.2 in
            (edge.2.0, g.0, ap (λ x. slice_get bundles x) same ∙ edge.2.1, g.1, subst (λ (z : Term). IsName nodes g.0 z) (sym object) g.2.1)
      ]

  -- a reference is two triples
  there : (a b x y : Term) → IsBound bundles a b → IsName nodes a x → IsName nodes b y → (m : Term) × IsJoined edges x m × IsJoined edges m y
  there a b x y h p q =
      let i = place_in bundles h.0 h.1 in
      let l : i.0 < length bundles = get_within bundles i.0 h.0 i.1 in (
        Blank 1 i.0,
        (Blank 1 i.0, (list.members (record { subject = x; predicate = Blank 1 i.0; object = Blank 1 i.0 })).1 (i.0, l, (h.0, i.1, inl (a, h.2, (x, p, refl))))),
        (Blank 1 i.0, (list.members (record { subject = Blank 1 i.0; predicate = Blank 1 i.0; object = y })).1 (i.0, l, (h.0, i.1, inr (b, h.3, (y, q, refl))))),
      )

  back : (a x m y : Term) → IsName nodes a x → IsJoined edges x m → IsJoined edges m y → (b : Term) × IsBound bundles a b × IsName nodes b y
  back a x m y name j k =
      let f = from_node a x m name j in
      let g = from_bundle f.0 y (subst (λ (z : Term). IsJoined edges z y) f.4 k) in
      let e : Some f.1 ≡ Some g.0 = sym f.2 ∙ g.2 in
      let same : f.1 ≡ g.0 = cc in
      (g.1, (f.1, get_in bundles f.0 f.1 f.2, f.3, subst (λ (w : Bundle). Contains w.to g.1) (sym same) g.3), g.4)

  chain_there : (k : ℕ) (a x : Term) → HasChain (IsBound bundles) k a → IsName nodes a x → HasChain (IsJoined edges) (double k) x
  chain_there zero a x h name = tt
  chain_there (suc k) a x h name =
      let y = named h.1.0 h.0 h.1.1 (inr h.1.3) in
      let m = there a h.0 x y.0 h.1 name y.1 in
      (m.0, m.1, (y.0, m.2, chain_there k h.0 y.0 h.2 y.1))

  chain_back : (k : ℕ) (a x : Term) → HasChain (IsJoined edges) (double k) x → IsName nodes a x → HasChain (IsBound bundles) k a
  chain_back zero a x h name = tt
  chain_back (suc k) a x h name = let b = back a x h.0 h.2.0 name h.1 h.2.1 in (b.0, b.1, chain_back k b.0 h.2.0 h.2.2 b.2)

  loop_there : (ms : List Term) (a b x y : Term) → Chain (IsBound bundles) a ms b → IsName nodes a x → IsName nodes b y → LeadsTo (IsJoined edges) x y
  loop_there [] a b x y h p q = let m = there a b x y h p q in (m.0 ∷ [], (m.1, m.2))
  loop_there (c ∷ ms) a b x y h p q =
      let z = named h.0.0 c h.0.1 (inr h.0.3) in
      let m = there a c x z.0 h.0 p z.1 in
      let rest = loop_there ms c b z.0 y h.1 z.1 q in
      (m.0 ∷ z.0 ∷ rest.0, (m.1, (m.2, rest.1)))

  loop_back : (ms : List Term) (a b x y : Term) → Chain (IsJoined edges) x ms y → IsName nodes a x → IsName nodes b y → LeadsTo (IsBound bundles) a b
  loop_back [] a b x y h p q = let f = from_node a x y p h in absurd (not_bundle nodes b y f.0 q f.4)
  loop_back (m ∷ []) a b x y h p q =
      let c = back a x m y p h.0 h.1 in
      let same : c.0 ≡ b = one_named nodes c.0 b y c.2 q in
      ([], subst (λ (n : Term). IsBound bundles a n) same c.1)
  loop_back (m ∷ z ∷ ms) a b x y h p q =
      let c = back a x m z p h.0 h.1.0 in
      let rest = loop_back ms c.0 b z y h.1.1 c.2 q in
      (c.0 ∷ rest.0, (c.1, rest.1))

  -- the least on a loop
  loop_named : (n : Term) → IsOnLoop (IsBound bundles) n → (x : Term) × IsName nodes n x
  loop_named n l = first l.0 n l.1
    where
      first : (ms : List Term) (b : Term) → Chain (IsBound bundles) n ms b → (x : Term) × IsName nodes n x
      first [] b h = named h.0 n h.1 (inl h.2)
      first (m ∷ ms) b h = named h.0.0 n h.0.1 (inl h.0.2)

  loop_begins : (x : Term) → HasLoopAt edges x → ((n : Term) × IsName nodes n x) ⊎ ((i : ℕ) × (x ≡ Blank 1 i))
  loop_begins x l = first l.0 x l.1
    where
      first : (ms : List Term) (b : Term) → Chain (IsJoined edges) x ms b → ((n : Term) × IsName nodes n x) ⊎ ((i : ℕ) × (x ≡ Blank 1 i))
      first [] b h = begins x b h
      first (m ∷ ms) b h = begins x m h.0

  pub least_loop : (name found : Option Term) → MatchOption name ((x : Term) → HasLoopAt edges x → ⊥) (λ x. IsLeastOnLoop edges x) → IsFoundNode nodes name found
      → MatchOption found ((n : Term) → IsOnLoop (IsBound bundles) n → ⊥) (λ n. IsLeastNode (IsOnLoop (IsBound bundles)) n)
  least_loop = found_by nodes are.ascending (HasLoopAt edges) (IsOnLoop (IsBound bundles))
      (λ n x name. (λ l. loop_back l.0 n n x x l.1 name name, λ l. loop_there l.0 n n x x l.1 name name)) loop_named loop_begins

  -- the least with a chain
  chain_named : (k : ℕ) → 0 < k → (n : Term) → HasChain (IsBound bundles) k n → (x : Term) × IsName nodes n x
  chain_named zero l n h = absurd (omega arith)
  chain_named (suc k) l n h = named h.1.0 n h.1.1 (inl h.1.2)

  chain_begins : (k : ℕ) → 0 < k → (x : Term) → HasChain (IsJoined edges) (double k) x → ((n : Term) × IsName nodes n x) ⊎ ((i : ℕ) × (x ≡ Blank 1 i))
  chain_begins zero l x h = absurd (omega arith)
  chain_begins (suc k) l x h = begins x h.0 h.1

  pub least_chain : (k : ℕ) → 0 < k → (name found : Option Term) → MatchOption name ((x : Term) → HasChain (IsJoined edges) (k + k) x → ⊥) (λ x. IsLeastWithChain edges (k + k) x) → IsFoundNode nodes name found
      → MatchOption found ((n : Term) → HasChain (IsBound bundles) k n → ⊥) (λ n. IsLeastNode (HasChain (IsBound bundles) k) n)
  least_chain k some name found h f = found_by nodes are.ascending (HasChain (IsJoined edges) (double k)) (HasChain (IsBound bundles) k)
      (λ n x named. (λ c. chain_back k n x c named, λ c. chain_there k n x c named)) (chain_named k some) (chain_begins k some) name found
      (subst (λ j. MatchOption name ((x : Term) → HasChain (IsJoined edges) j x → ⊥) (λ x. IsLeastWithChain edges j x)) (sym (double_is k)) h) f
