-- Nodes and looks that are found one after another.
use Rattle.std.proofs.Common.{◌≡◌, Option, ℕ, ◌+◌, ◌<◌, ◌≤◌, List, [], ◌∷◌, ◌++◌, length, map, take, get_or, Some, None, refl, sym, ap, subst, arith, inl, inr}
use Rattle.std.specs.Prelude.{◌⊎◌, ◌↔◌, true}
use Rattle.std.specs.List.{Contains}
use Rattle.std.proofs.lemmas.List.Elements.{Contains-append_cases, Contains-append_left, Contains-append_right}
use Rattle.rdf_model.specs.declared.term.Term.{Term}
use Rattle.rdf_model.specs.declared.ids.Ids.{Ids}
use Rattle.rdf_model.specs.declared.look.Look.{Look}
use Rattle.rdf_model.specs.Numbers.{graph_of, term_at}
use Rattle.shape_model.specs.Looks.{BackLook}
use Rattle.shape_model.specs.NodeLooks.{IsLook, PathReads}
use Rattle.shape_model.specs.Walks.{Walks}
use Rattle.path_ast.specs.declared.path.Path.{Path}
use Rattle.path_ast.specs.PathReadings.{path_of}
use Rattle.path_eval.specs.Naming.{AddsLooks, NumberedEach}
use Rattle.path_eval.proofs.Footprints.{looks_more, looks_none, looks_same, none_before, some_next}
use Rattle.path_eval.proofs.Mirrors.{mapped_from, mapped_to}
use Rattle.reverse_walk.specs.Walkers.{AddsBackReadsOfSome, AreWalkersToSome}
use Rattle.focus_affected.specs.Finding.{Finds, FindsFrom, FindsPairs, WhereNodes}
use Rattle.focus_affected.specs.Plans.{way_of}
use Rattle.focus_affected.proofs.Ways.{way_reads, way_walks}

module _ (terms : List Term) where
  pub finds_same : (W V : Term → Type 0) (P Q : Look Term → Type 0) (xs : List ℕ) (old new : List (Look ℕ)) → ((t : Term) → W t ↔ V t) → ((l : Look Term) → P l ↔ Q l)
      → Finds terms W P xs old new → Finds terms V Q xs old new
  finds_same W V P Q xs old new e d f = record {
    members = λ n. (λ c. let k = (f.members n).0 c in (k.0, (e (term_at terms n)).0 k.1), λ h. (f.members n).1 (h.0, (e (term_at terms n)).1 h.1));
    every = λ t v. f.every t ((e t).1 v);
    looks = looks_same terms P Q d old new f.looks;
  }

  pub finds_none : (W : Term → Type 0) (P : Look Term → Type 0) (xs : List ℕ) (old : List (Look ℕ)) → xs ≡ [] → ((t : Term) → W t → ⊥) → ((l : Look Term) → P l → ⊥) → Finds terms W P xs old old
  finds_none W P xs old e none never = record {
    members = λ n. (λ c. absurd (omega (arith, (subst (λ (l : List ℕ). Contains l n) e c).1)), λ h. absurd (none (term_at terms n) h.1));
    every = λ t w. absurd (none t w);
    looks = looks_none terms P never old;
  }

  -- pairs of a place with each of the numbers
  pub pairs_from : (W : Term → Type 0) (P : Look Term → Type 0) (place : ℕ) (xs : List ℕ) (old new : List (Look ℕ)) → Finds terms W P xs old new → FindsPairs terms (λ p t. (place ≡ p) × W t) P (map (λ n. (place, n)) xs) old new
  pairs_from W P place xs old new f =
      let pair : ℕ → ℕ × ℕ = λ n. (place, n) in
      record {
        members = λ e. (
          λ c.
              let m = mapped_from pair xs e c in
              let k = (f.members m.0).0 m.1 in
              subst (λ (y : ℕ × ℕ). (y.1 < length terms) × ((place ≡ y.0) × W (term_at terms y.1))) m.2 (k.0, (refl, k.1)),
          λ h.
              let same : pair e.1 ≡ e = λ j. (h.1.0 j, e.1) in
              subst (λ (y : ℕ × ℕ). Contains (map pair xs) y) same (mapped_to pair xs e.1 ((f.members e.1).1 (h.0, h.1.1))),
        );
        every = λ p t h.
            let m = mapped_from (term_at terms) xs t (f.every t h.1) in
            (m.0, subst (λ (q : ℕ). Contains (map pair xs) (q, m.0)) h.0 (mapped_to pair xs m.0 m.1), m.2);
        looks = f.looks;
      }

  pub pairs_same : (W V : ℕ → Term → Type 0) (P Q : Look Term → Type 0) (xs : List (ℕ × ℕ)) (old new : List (Look ℕ)) → ((p : ℕ) (t : Term) → W p t ↔ V p t) → ((l : Look Term) → P l ↔ Q l)
      → FindsPairs terms W P xs old new → FindsPairs terms V Q xs old new
  pairs_same W V P Q xs old new e d f = record {
    members = λ n. (λ c. let k = (f.members n).0 c in (k.0, (e n.0 (term_at terms n.1)).0 k.1), λ h. (f.members n).1 (h.0, (e n.0 (term_at terms n.1)).1 h.1));
    every = λ p t v. f.every p t ((e p t).1 v);
    looks = looks_same terms P Q d old new f.looks;
  }

  both : (W V : ℕ → Term → Type 0) (P Q : Look Term → Type 0) (xs ys : List (ℕ × ℕ)) (old mid new : List (Look ℕ)) → FindsPairs terms W P xs old mid → FindsPairs terms V Q ys mid new
      → FindsPairs terms (λ p t. W p t ⊎ V p t) (λ l. P l ⊎ Q l) (xs ++ ys) old new
  both W V P Q xs ys old mid new a b = record {
    members = λ n. (
      λ c. elim (Contains-append_cases xs ys n c) [
        | inl d ↦ let k = (a.members n).0 d in (k.0, inl k.1)
        | inr d ↦ let k = (b.members n).0 d in (k.0, inr k.1)
      ],
      λ h. elim h.1 [
        | inl w ↦ Contains-append_left xs ys n ((a.members n).1 (h.0, w))
        | inr v ↦ Contains-append_right xs ys n ((b.members n).1 (h.0, v))
      ],
    );
    every = λ p t. elim [
      | inl w ↦ let k = a.every p t w in (k.0, Contains-append_left xs ys (p, k.0) k.1, k.2)
      | inr v ↦ let k = b.every p t v in (k.0, Contains-append_right xs ys (p, k.0) k.1, k.2)
    ];
    looks = looks_more terms P Q old mid new a.looks b.looks;
  }

  -- one item more
  pub next_found : {X : Type 0} → (W : X → ℕ → Term → Type 0) (P : X → Look Term → Type 0) (ts : List X) (i : ℕ) (t : X) → i < length ts → t ≡ get_or ts i t
      → (xs ys zs : List (ℕ × ℕ)) → zs ≡ xs ++ ys → (old mid new : List (Look ℕ))
      → FindsPairs terms (λ p f. (u : X) × Contains (take i ts) u × W u p f) (λ l. (u : X) × Contains (take i ts) u × P u l) xs old mid → FindsPairs terms (W t) (P t) ys mid new
      → FindsPairs terms (λ p f. (u : X) × Contains (take (i + 1) ts) u × W u p f) (λ l. (u : X) × Contains (take (i + 1) ts) u × P u l) zs old new
  next_found {X} W P ts i t lt is xs ys zs e old mid new a b =
      let next : FindsPairs terms (W (get_or ts i t)) (P (get_or ts i t)) ys mid new = subst (λ u. FindsPairs terms (W u) (P u) ys mid new) is b in
      let joined = both (λ p f. (u : X) × Contains (take i ts) u × W u p f) (W (get_or ts i t)) (λ l. (u : X) × Contains (take i ts) u × P u l) (P (get_or ts i t)) xs ys old mid new a next in
      subst (λ (ns : List (ℕ × ℕ)). FindsPairs terms (λ p f. (u : X) × Contains (take (i + 1) ts) u × W u p f) (λ l. (u : X) × Contains (take (i + 1) ts) u × P u l) ns old new) (sym e)
      (pairs_same (λ p f. ((u : X) × Contains (take i ts) u × W u p f) ⊎ W (get_or ts i t) p f) (λ p f. (u : X) × Contains (take (i + 1) ts) u × W u p f)
      (λ l. ((u : X) × Contains (take i ts) u × P u l) ⊎ P (get_or ts i t) l) (λ l. (u : X) × Contains (take (i + 1) ts) u × P u l) (xs ++ ys) old new
      (λ p f. let k = some_next (λ u. W u p f) ts i t lt in (k.1, k.0)) (λ l. let k = some_next (λ u. P u l) ts i t lt in (k.1, k.0)) joined)

  pub none_found : {X : Type 0} → (W : X → ℕ → Term → Type 0) (P : X → Look Term → Type 0) (xs : List (ℕ × ℕ)) (old : List (Look ℕ)) → xs ≡ []
      → FindsPairs terms (λ p f. (u : X) × Contains [] u × W u p f) (λ l. (u : X) × Contains [] u × P u l) xs old old
  none_found {X} W P xs old e = record {
    members = λ n. (λ c. absurd (omega (arith, (subst (λ (l : List (ℕ × ℕ)). Contains l n) e c).1)), λ h. absurd (none_before (λ u. W u n.0 (term_at terms n.1)) h.1));
    every = λ p t h. absurd (none_before (λ u. W u p t) h);
    looks = looks_none terms (λ l. (u : X) × Contains [] u × P u l) (λ l. none_before (λ u. P u l)) old;
  }

-- the nodes themselves, where there is no way
pub found_here : (ids : List Ids) (nodes : List ℕ) (old : List (Look ℕ)) → WhereNodes ids None nodes (λ terms. FindsFrom terms ids None nodes nodes old old)
found_here ids nodes old terms numbering numbered bound within = record {
  found_from = record {
    members = λ n. (
      λ c. (within n c, (n, c, refl)),
      λ h. subst (λ (m : ℕ). Contains nodes m) (numbering h.1.0 n (within h.1.0 h.1.1) h.0 (sym h.1.2)) h.1.1,
    );
    every = λ t h. subst (λ (u : Term). Contains (map (term_at terms) nodes) u) (sym h.2) (mapped_to (term_at terms) nodes h.0 h.1);
    looks = looks_none terms (λ l. (n : ℕ) × Contains nodes n × IsLook (graph_of terms ids) (BackLook []) (term_at terms n) l) (λ l k. k.2.1) old;
  };
}

-- nothing, where there is no node
pub found_nothing : (ids : List Ids) (way : Option (Path ℕ)) (nodes : List ℕ) (old : List (Look ℕ)) → nodes ≡ [] → WhereNodes ids way nodes (λ terms. FindsFrom terms ids way nodes nodes old old)
found_nothing ids way nodes old e terms numbering numbered bound within =
    let none : (n : ℕ) → Contains nodes n → ⊥ = λ n c. absurd (omega (arith, (subst (λ (l : List ℕ). Contains l n) e c).1)) in
    record {
      found_from = finds_none terms (λ f. (n : ℕ) × Contains nodes n × Walks (graph_of terms ids) (way_of terms way) f (term_at terms n))
          (λ l. (n : ℕ) × Contains nodes n × IsLook (graph_of terms ids) (BackLook (way_of terms way)) (term_at terms n) l) nodes old e (λ t h. none h.0 h.1) (λ l h. none h.0 h.1);
    }

-- the nodes that walk along a path
pub found_back : (ids : List Ids) (path : Path ℕ) (nodes xs : List ℕ) (old new : List (Look ℕ)) → NumberedEach ids path nodes (λ terms. AreWalkersToSome terms ids path nodes xs)
    → NumberedEach ids path nodes (λ terms. AddsBackReadsOfSome terms ids path nodes old new) → WhereNodes ids (Some path) nodes (λ terms. FindsFrom terms ids (Some path) nodes xs old new)
found_back ids path nodes xs old new walk look terms numbering numbered bound within =
    let g = graph_of terms ids in
    let w = walk terms numbering numbered bound within in
    let made = look terms numbering numbered bound within in
    let added : AddsLooks terms (λ l. (x : ℕ) × Contains nodes x × PathReads g true (path_of terms path) (term_at terms x) l) old new = record { added = made.added; every = made.every } in
    record {
      found_from = record {
        members = λ n. (
          λ c. let k = (w.listed.members n).0 c in (k.0, (k.1.0, k.1.1, (way_walks terms g path (term_at terms n) (term_at terms k.1.0)).0 k.1.2)),
          λ h. (w.listed.members n).1 (h.0, (h.1.0, h.1.1, (way_walks terms g path (term_at terms n) (term_at terms h.1.0)).1 h.1.2)),
        );
        every = λ t h. w.every h.0 t h.1 ((way_walks terms g path t (term_at terms h.0)).1 h.2);
        looks = looks_same terms (λ l. (x : ℕ) × Contains nodes x × PathReads g true (path_of terms path) (term_at terms x) l) (λ l. (n : ℕ) × Contains nodes n × IsLook g (BackLook (way_of terms (Some path))) (term_at terms n) l)
            (λ l. (
              λ h. (h.0, h.1, (way_reads terms g path (term_at terms h.0) l).0 h.2),
              λ h. (h.0, h.1, (way_reads terms g path (term_at terms h.0) l).1 h.2),
            )) old new added;
      };
    }
