-- The one value of a predicate, and what is among the items of a list.
use Rattle.std.proofs.Common.{◌≡◌, ◌∙◌, List, [], ◌∷◌, length, get_or, refl, sym, subst, arith, inl, inr}
use Rattle.std.specs.Prelude.{Option, Some, None, MatchOption, IsTrue, Bool, true, false, ◌&&◌, ◌↔◌}
use Rattle.std.specs.List.{Contains}
use Rattle.std.specs.declared.cmp.Ordering.TheVariants.{Less, Equal}
use Rattle.std.proofs.lemmas.List.Elements.{Contains-push_cases}
use Rattle.collections.specs.Listings.{IsListing}
use Rattle.rdf_model.specs.declared.term.Term.{Term}
use Rattle.rdf_model.specs.declared.triple.Triple.{Triple}
use Rattle.rdf_model.specs.Terms.{term_cmp}
use Rattle.shape_model.specs.Triples.{Has, HasNone, HasOnly, IsMember}
use Rattle.shape_syntax.proofs.Places.{term_tied}
use Rattle.shape_model.specs.ShapeSyntax.{IsCell, IsListEnd, ListOf}
use Rattle.shape_model.specs.Vocabulary.{rdf_first, rdf_nil, rdf_rest}
use Rattle.plain_terms.specs.Finds.{Finds, IsListed, option_pair}
use Rattle.plain_terms.proofs.FoundItems.{finds_at, finds_none}
use Rattle.shape_syntax.proofs.Lists.{one_list}
use Rattle.shape_syntax.proofs.Scans.{contains_member, member_contains}

module _ (g : List Triple) (n p : Term) (found : List Term) (h : Finds (Has g n p) found) where
  pub is_only : (values : List Term) → IsListing term_cmp (Contains found) values → length values ≡ 1 → (v : Term) → v ≡ get_or values 0 v → HasOnly g n p v
  is_only [] l e v is = absurd (omega arith)
  is_only (x ∷ []) l e v is = (
    (h.members v).0 ((l.members v).0 (0, omega arith, sym is)),
    λ z has. elim (Contains-push_cases [] x z ((l.members z).1 ((h.members z).1 has))) [ inl c ↦ absurd (omega (arith, c.1)) | inr d ↦ sym d ∙ sym is ],
  )
  is_only (x ∷ y ∷ zs) l e v is = absurd (omega arith)

  pub not_only : (values : List Term) → IsListing term_cmp (Contains found) values → (length values ≡ 1 → ⊥) → (v : Term) → HasOnly g n p v → ⊥
  not_only [] l e v only = let c = (l.members v).1 ((h.members v).1 only.0) in absurd (omega (arith, c.1))
  not_only (x ∷ []) l e v only = e refl
  not_only (x ∷ y ∷ zs) l e v only =
      let a = only.1 x ((h.members x).0 ((l.members x).0 (0, omega arith, refl))) in
      let b = only.1 y ((h.members y).0 ((l.members y).0 (1, omega arith, refl))) in
      let tied : term_cmp x y ≡ Equal = term_tied x y (a ∙ sym b) in
      let less : term_cmp x y ≡ Less = l.ascending.0.0 in
      absurd (cc (tied, less))

  pub none_found : found ≡ [] → HasNone g n p
  none_found e v has = let c = subst (λ (xs : List Term). Contains xs v) e ((h.members v).1 has) in absurd (omega (arith, c.1))

  pub found_none : HasNone g n p → found ≡ []
  found_none none = at found (λ v c. none v ((h.members v).0 c))
    where
      at : (xs : List Term) → ((v : Term) → Contains xs v → ⊥) → xs ≡ []
      at [] never = refl
      at (x ∷ xs) never = absurd (never x (0, omega arith, refl))

pub pair_found : {X Y : Type 0} → (P : X → Type 0) (Q : Y → Type 0) (a : Option X) (b : Option Y) → MatchOption a ((x : X) → P x → ⊥) P → MatchOption b ((y : Y) → Q y → ⊥) Q
    → MatchOption (option_pair a b) ((x : X) (y : Y) → P x × Q y → ⊥) (λ z. P z.0 × Q z.1)
pair_found P Q None b h k = λ x y w. h x w.0
pair_found P Q (Some x) None h k = λ z y w. k y w.1
pair_found P Q (Some x) (Some y) h k = (h, k)

pub cell_found : (g : List Triple) (n first rest : Term) → first ≡ rdf_first → rest ≡ rdf_rest → (a b : Option Term) (found : Option (Term × Term)) → found ≡ option_pair a b
    → MatchOption a ((v : Term) → HasOnly g n first v → ⊥) (HasOnly g n first) → MatchOption b ((v : Term) → HasOnly g n rest v → ⊥) (HasOnly g n rest)
    → MatchOption found ((m k : Term) → IsCell g n m k → ⊥) (λ parts. IsCell g n parts.0 parts.1)
cell_found g n first rest e_first e_rest a b found e h k =
    let h_first : MatchOption a ((v : Term) → HasOnly g n rdf_first v → ⊥) (HasOnly g n rdf_first) = subst (λ (p : Term). MatchOption a ((v : Term) → HasOnly g n p v → ⊥) (HasOnly g n p)) e_first h in
    let k_rest : MatchOption b ((v : Term) → HasOnly g n rdf_rest v → ⊥) (HasOnly g n rdf_rest) = subst (λ (p : Term). MatchOption b ((v : Term) → HasOnly g n p v → ⊥) (HasOnly g n p)) e_rest k in
    subst (λ (z : Option (Term × Term)). MatchOption z ((m l : Term) → IsCell g n m l → ⊥) (λ parts. IsCell g n parts.0 parts.1)) (sym e) (pair_found (HasOnly g n rdf_first) (HasOnly g n rdf_rest) a b h_first k_rest)

pub all_hold : (a b c : Bool) (A B C : Type 0) → IsTrue a ↔ A → IsTrue b ↔ B → IsTrue c ↔ C → IsTrue ((a && b) && c) ↔ (A × B × C)
all_hold true true true A B C h k l = (λ t. (h.0 refl, k.0 refl, l.0 refl), λ w. refl)
all_hold false b c A B C h k l = (λ t. cc, λ w. let e = h.1 w.0 in cc)
all_hold true false c A B C h k l = (λ t. cc, λ w. let e = k.1 w.1 in cc)
all_hold true true false A B C h k l = (λ t. cc, λ w. let e = l.1 w.2 in cc)

pub end_found : (g : List Triple) (n nil first rest : Term) → nil ≡ rdf_nil → first ≡ rdf_first → rest ≡ rdf_rest → (a b c r : Bool) → r ≡ ((a && b) && c)
    → IsTrue a ↔ (n ≡ nil) → IsTrue b ↔ HasNone g n first → IsTrue c ↔ HasNone g n rest → IsTrue r ↔ IsListEnd g n
end_found g n nil first rest e_nil e_first e_rest a b c r e h k l =
    let h_nil : IsTrue a ↔ (n ≡ rdf_nil) = subst (λ (t : Term). IsTrue a ↔ (n ≡ t)) e_nil h in
    let k_first : IsTrue b ↔ HasNone g n rdf_first = subst (λ (p : Term). IsTrue b ↔ HasNone g n p) e_first k in
    let l_rest : IsTrue c ↔ HasNone g n rdf_rest = subst (λ (p : Term). IsTrue c ↔ HasNone g n p) e_rest l in
    subst (λ (x : Bool). IsTrue x ↔ IsListEnd g n) (sym e) (all_hold a b c (n ≡ rdf_nil) (HasNone g n rdf_first) (HasNone g n rdf_rest) h_nil k_first l_rest)

pub no_cell : (g : List Triple) (n : Term) (found : Option (Term × Term)) → found ≡ None → MatchOption found ((m k : Term) → IsCell g n m k → ⊥) (λ parts. IsCell g n parts.0 parts.1) → (m k : Term) → IsCell g n m k → ⊥
no_cell g n found e h = subst (λ (z : Option (Term × Term)). MatchOption z ((m k : Term) → IsCell g n m k → ⊥) (λ parts. IsCell g n parts.0 parts.1)) e h

pub is_cell : (g : List Triple) (n : Term) (found : Option (Term × Term)) (parts : Term × Term) → found ≡ Some parts → MatchOption found ((m k : Term) → IsCell g n m k → ⊥) (λ parts. IsCell g n parts.0 parts.1) → IsCell g n parts.0 parts.1
is_cell g n found parts e h = subst (λ (z : Option (Term × Term)). MatchOption z ((m k : Term) → IsCell g n m k → ⊥) (λ parts. IsCell g n parts.0 parts.1)) e h

-- the members of a list, in either case
pub listed_none : (g : List Triple) (head : Term) (found : Option (List Term)) (items : List Term) → found ≡ None → MatchOption found ((ms : List Term) → ListOf g head ms → ⊥) (ListOf g head) → items ≡ [] → Finds (IsListed g head) items
listed_none g head found items e h is =
    let none = subst (λ (o : Option (List Term)). MatchOption o ((ms : List Term) → ListOf g head ms → ⊥) (ListOf g head)) e h in
    finds_at (IsListed g head) [] items is (finds_none (IsListed g head) (λ m w. none w.0 w.1))

pub listed_some : (g : List Triple) (head : Term) (found : Option (List Term)) (members items : List Term) → found ≡ Some members → MatchOption found ((ms : List Term) → ListOf g head ms → ⊥) (ListOf g head) → items ≡ members → Finds (IsListed g head) items
listed_some g head found members items e h is =
    let there = subst (λ (o : Option (List Term)). MatchOption o ((ms : List Term) → ListOf g head ms → ⊥) (ListOf g head)) e h in
    finds_at (IsListed g head) members items is (record {
      members = λ m. (
        λ c. (members, there, contains_member members m c),
        λ w. member_contains members m (subst (λ (ms : List Term). IsMember ms m) (one_list g head w.0 members w.1 there) w.2),
      );
    })
