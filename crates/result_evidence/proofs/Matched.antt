-- The triples that a look asks for, by number and by their terms.
use Rattle.std.proofs.Common.{◌≡◌, ℕ, List, [], ◌∷◌, length, map, get_or, sym, ap, subst, arith, inl, inr}
use Rattle.std.specs.List.{All, AllByRecursion, Contains}
use Rattle.std.specs.Ordering.{nat_cmp}
use Rattle.std.proofs.lemmas.List.Elements.{Contains-get_or}
use Rattle.collections.specs.Listings.{IsListing}
use Rattle.collections.specs.Pairs.{pair_cmp}
use Rattle.collections.proofs.Members.{has_cases}
use Rattle.rdf_model.specs.declared.term.Term.{Term}
use Rattle.rdf_model.specs.declared.triple.Triple.{Triple}
use Rattle.rdf_model.specs.declared.ids.Ids.{Ids}
use Rattle.rdf_model.specs.declared.look.Look.{Look}
use Rattle.rdf_model.specs.declared.look.Look.TheVariants.{Out, In, OutAny}
use Rattle.rdf_model.specs.Numbers.{AreNumbered, IsEdge, IsFound, IsNumbering, graph_of, term_at, triple_at}
use Rattle.rdf_model.specs.Terms.{triple_cmp}
use Rattle.shape_model.specs.Looks.{Matches}
use Rattle.path_eval.specs.Naming.{IsBoundLook, look_of}
use Rattle.path_eval.proofs.Mirrors.{mapped_from, mapped_to}
use Rattle.result_evidence.specs.Standing.{CollectsMatches, IsNumbered, MatchesNumbers, with_edge, with_object, with_subject}

of_all : {X : Type 0} → (P : X → Type 0) (xs : List X) (x : X) → AllByRecursion P xs → Contains xs x → P x
of_all P [] x a c = absurd (omega (arith, c.1))
of_all P (y ∷ ys) x a c = elim (has_cases y ys x c) [ inl e ↦ subst P e a.0 | inr d ↦ of_all P ys x a.1 d ]

module _ (ids : List Ids) where
  pub out_matches : (x p : ℕ) (objects : List ℕ) (found : List Ids) → IsListing nat_cmp (IsFound (Out x p) ids) objects → found ≡ map (with_object x p) objects → CollectsMatches ids (Out x p) found
  out_matches x p objects found l is i = (
    λ c. (let k = mapped_from (with_object x p) objects i (subst (λ (fs : List Ids). Contains fs i) is c) in
        (subst (λ (j : Ids). Contains ids j) k.2 ((l.members k.0).0 k.1), (ap (λ (j : Ids). j.subject) (sym k.2), ap (λ (j : Ids). j.predicate) (sym k.2)))),
    λ m. (let e : with_object x p i.object ≡ i = λ j. record { subject = sym m.1.0 j; predicate = sym m.1.1 j; object = i.object } in
        subst (λ (fs : List Ids). Contains fs i) (sym is) (subst (λ (j : Ids). Contains (map (with_object x p) objects) j) e
        (mapped_to (with_object x p) objects i.object ((l.members i.object).1 (subst (λ (j : Ids). Contains ids j) (sym e) m.0))))),
  )

  pub in_matches : (p o : ℕ) (subjects : List ℕ) (found : List Ids) → IsListing nat_cmp (IsFound (In p o) ids) subjects → found ≡ map (with_subject p o) subjects → CollectsMatches ids (In p o) found
  in_matches p o subjects found l is i = (
    λ c. (let k = mapped_from (with_subject p o) subjects i (subst (λ (fs : List Ids). Contains fs i) is c) in
        (subst (λ (j : Ids). Contains ids j) k.2 ((l.members k.0).0 k.1), (ap (λ (j : Ids). j.predicate) (sym k.2), ap (λ (j : Ids). j.object) (sym k.2)))),
    λ m. (let e : with_subject p o i.subject ≡ i = λ j. record { subject = i.subject; predicate = sym m.1.0 j; object = sym m.1.1 j } in
        subst (λ (fs : List Ids). Contains fs i) (sym is) (subst (λ (j : Ids). Contains (map (with_subject p o) subjects) j) e
        (mapped_to (with_subject p o) subjects i.subject ((l.members i.subject).1 (subst (λ (j : Ids). Contains ids j) (sym e) m.0))))),
  )

  pub any_matches : (x : ℕ) (edges : List (ℕ × ℕ)) (found : List Ids) → IsListing pair_cmp (IsEdge ids x) edges → found ≡ map (with_edge x) edges → CollectsMatches ids (OutAny x) found
  any_matches x edges found l is i = (
    λ c. (let k = mapped_from (with_edge x) edges i (subst (λ (fs : List Ids). Contains fs i) is c) in
        (subst (λ (j : Ids). Contains ids j) k.2 ((l.members k.0).0 k.1), ap (λ (j : Ids). j.subject) (sym k.2))),
    λ m. (let e : with_edge x (i.predicate, i.object) ≡ i = λ j. record { subject = sym m.1 j; predicate = i.predicate; object = i.object } in
        subst (λ (fs : List Ids). Contains fs i) (sym is) (subst (λ (j : Ids). Contains (map (with_edge x) edges) j) e
        (mapped_to (with_edge x) edges (i.predicate, i.object) ((l.members (i.predicate, i.object)).1 (subst (λ (j : Ids). Contains ids j) (sym e) m.0))))),
  )

module _ (terms : List Term) (ids : List Ids) where
  module _ (are : AreNumbered terms ids) where
    numbered : (i : Ids) → Contains ids i → IsNumbered terms i
    numbered i c = of_all (IsNumbered terms) ids i are c

    pub all_numbered : (look : Look ℕ) (found : List Ids) → CollectsMatches ids look found → All (IsNumbered terms) found
    all_numbered look found collects k d lt = numbered (get_or found k d) ((collects (get_or found k d)).0 (Contains-get_or found k d lt)).0

  to_terms : (look : Look ℕ) (i : Ids) → MatchesNumbers look i → Matches (look_of terms look) (triple_at terms i)
  to_terms (Out x p) i m = (ap (term_at terms) m.0, ap (term_at terms) m.1)
  to_terms (In p x) i m = (ap (term_at terms) m.0, ap (term_at terms) m.1)
  to_terms (OutAny x) i m = ap (term_at terms) m

  module _ (numbering : IsNumbering terms) where
    from_terms : (look : Look ℕ) (i : Ids) → IsBoundLook (length terms) look → IsNumbered terms i → Matches (look_of terms look) (triple_at terms i) → MatchesNumbers look i
    from_terms (Out x p) i b n m = (numbering i.subject x n.0 b.0 m.0, numbering i.predicate p n.1 b.1 m.1)
    from_terms (In p x) i b n m = (numbering i.predicate p n.1 b.0 m.0, numbering i.object x n.2 b.1 m.1)
    from_terms (OutAny x) i b n m = numbering i.subject x n.0 b m

    pub listed_triples : AreNumbered terms ids → (look : Look ℕ) → IsBoundLook (length terms) look → (found : List Ids) → CollectsMatches ids look found → (triples sorted : List Triple) → triples ≡ map (triple_at terms) found
        → IsListing triple_cmp (Contains triples) sorted → IsListing triple_cmp (λ t. Contains (graph_of terms ids) t × Matches (look_of terms look) t) sorted
    listed_triples are look bound found collects triples sorted is l = record {
      ascending = l.ascending;
      members = λ t. (
        λ c. (let k = mapped_from (triple_at terms) found t (subst (λ (ts : List Triple). Contains ts t) is ((l.members t).0 c)) in
            let m = (collects k.0).0 k.1 in
            (subst (λ (u : Triple). Contains (graph_of terms ids) u) k.2 (mapped_to (triple_at terms) ids k.0 m.0), subst (λ (u : Triple). Matches (look_of terms look) u) k.2 (to_terms look k.0 m.1))),
        λ c. (let k = mapped_from (triple_at terms) ids t c.0 in
            let m = from_terms look k.0 bound (numbered are k.0 k.1) (subst (λ (u : Triple). Matches (look_of terms look) u) (sym k.2) c.1) in
            (l.members t).1 (subst (λ (ts : List Triple). Contains ts t) (sym is) (subst (λ (u : Triple). Contains (map (triple_at terms) found) u) k.2 (mapped_to (triple_at terms) found k.0 ((collects k.0).1 (k.1, m)))))),
      );
    }
