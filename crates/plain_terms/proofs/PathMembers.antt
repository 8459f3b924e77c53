-- Lists of paths, member by member.
use Rattle.std.proofs.Common.{◌≡◌, ℕ, ◌<◌, ◌≤◌, List, [], ◌∷◌, ◌++◌, length, sym, ap, subst, refl, arith, inl, inr}
use Rattle.std.specs.Prelude.{◌⊎◌, ◌↔◌}
use Rattle.std.specs.List.{Contains}
use Rattle.collections.proofs.Members.{has_cases, has_head, has_tail}
use Rattle.rdf_model.specs.declared.term.Term.{Term}
use Rattle.rdf_model.specs.declared.triple.Triple.{Triple}
use Rattle.shape_model.specs.Paths.{Path, Paths, Last, Also, AreSeveral}
use Rattle.shape_model.specs.ShapeSyntax.{ListOf, PathOf, PathsOf}
use Rattle.shape_model.specs.Walks.{Walk, WalkThrough, WalkSome}
use Rattle.shape_syntax.specs.PathDepth.{IsRead, depth_of, deepest_of}
use Rattle.shape_syntax.specs.PathWays.{AreReadPaths}
use Rattle.shape_syntax.proofs.Lists.{one_list}
use Rattle.plain_terms.specs.declared.relation.Relation.{Relation}
use Rattle.plain_terms.specs.declared.ways.Join.{Join}
use Rattle.plain_terms.specs.declared.ways.Join.TheVariants as ways
use Rattle.plain_terms.specs.Relations.{Joins, JoinsInTurn, JoinsSomehow, Means}
use Rattle.plain_terms.specs.Ways.{AreRelationsAt, AreUnread, IsOf, IsRelationAt, IsUnread, JoinsBy, joined}
use Rattle.plain_terms.proofs.Made.{means_same}

module _ (g s : List Triple) (levels : ℕ) where
  pub relations_push : (ns : List Term) (rs : List Relation) (n : Term) (r : Relation) → AreRelationsAt g s ns levels rs → IsRelationAt g s n levels r → AreRelationsAt g s (ns ++ n ∷ []) levels (rs ++ r ∷ [])
  relations_push [] [] n r a k = (k, tt)
  relations_push [] (q ∷ rs) n r a k = absurd a
  relations_push (m ∷ ns) [] n r a k = absurd a
  relations_push (m ∷ ns) (q ∷ rs) n r a k = (a.0, relations_push ns rs n r a.1 k)

  -- what the relations of the members of a list join
  record IsListed (n : Term) (rs : List Relation) (ps : Paths) : Type 0 where
    stands : PathsOf s n ps
    shallow : deepest_of ps ≤ levels
    through : (x y : Term) → JoinsInTurn rs x y ↔ WalkThrough g ps x y
    somehow : (x y : Term) → JoinsSomehow rs x y ↔ WalkSome g ps x y

  some_first : (r : Relation) (rs : List Relation) (x y : Term) → JoinsSomehow (r ∷ rs) x y ↔ (Joins r x y ⊎ JoinsSomehow rs x y)
  some_first r rs x y = (
    λ w. elim (has_cases r rs w.0 w.1) [ inl e ↦ inl (subst (λ (q : Relation). Joins q x y) (sym e) w.2) | inr c ↦ inr (w.0, c, w.2) ],
    elim [ inl j ↦ (r, has_head r rs, j) | inr w ↦ (w.0, has_tail r rs w.0 w.1, w.2) ],
  )

  relations_listed : (n m : Term) (ms : List Term) (r : Relation) (rs : List Relation) → ListOf s n (m ∷ ms) → AreRelationsAt g s (m ∷ ms) levels (r ∷ rs) → (ps : Paths) × IsListed n (r ∷ rs) ps
  relations_listed n m [] r [] l a = (
    Last a.0.0,
    record {
      stands = (m, l.0, l.1, l.2, a.0.1.0);
      shallow = a.0.1.1;
      through = λ x y. (
        λ w. (a.0.2.joins x y).0 (subst (λ (v : Term). Joins r x v) w.2 w.1),
        λ w. (y, (a.0.2.joins x y).1 w, refl),
      );
      somehow = λ x y. (
        λ w. elim ((some_first r [] x y).0 w) [ inl j ↦ (a.0.2.joins x y).0 j | inr v ↦ absurd (omega (arith, v.1)) ],
        λ w. (some_first r [] x y).1 (inl ((a.0.2.joins x y).1 w)),
      );
    },
  )
  relations_listed n m [] r (q ∷ rs) l a = absurd a.1
  relations_listed n m (o ∷ ms) r [] l a = absurd a.1
  relations_listed n m (o ∷ ms) r (q ∷ rs) l a =
      let rest = relations_listed l.0 o ms q rs l.2 a.1 in
      let first : depth_of a.0.0 ≤ levels = a.0.1.1 in
      let others : deepest_of rest.0 ≤ levels = rest.1.shallow in (
        Also a.0.0 rest.0,
        record {
          stands = (m, l.0, l.1, a.0.1.0, rest.1.stands);
          shallow = omega (arith, first, others);
          through = λ x y. (
            λ w. (w.0, (a.0.2.joins x w.0).0 w.1, (rest.1.through w.0 y).0 w.2),
            λ w. (w.0, (a.0.2.joins x w.0).1 w.1, (rest.1.through w.0 y).1 w.2),
          );
          somehow = λ x y. (
            λ w. elim ((some_first r (q ∷ rs) x y).0 w) [ inl j ↦ inl ((a.0.2.joins x y).0 j) | inr v ↦ inr ((rest.1.somehow x y).0 v) ],
            elim [ inl w ↦ (some_first r (q ∷ rs) x y).1 (inl ((a.0.2.joins x y).1 w)) | inr v ↦ (some_first r (q ∷ rs) x y).1 (inr ((rest.1.somehow x y).1 v)) ],
          );
        },
      )

  several_listed : (n : Term) (ms : List Term) (rs : List Relation) → 2 ≤ length ms → ListOf s n ms → AreRelationsAt g s ms levels rs → (ps : Paths) × AreSeveral ps × IsListed n rs ps
  several_listed n [] rs long l a = absurd (omega arith)
  several_listed n (m ∷ []) rs long l a = absurd (omega arith)
  several_listed n (m ∷ o ∷ ms) [] long l a = absurd a
  several_listed n (m ∷ o ∷ ms) (r ∷ []) long l a = absurd a.1
  several_listed n (m ∷ o ∷ ms) (r ∷ q ∷ rs) long l a = let k = relations_listed n m (o ∷ ms) r (q ∷ rs) l a in (k.0, several k.0 k.1.stands, k.1)
    where
      single : (p : Path) → PathsOf s n (Last p) → ⊥
      single p h = no_more h
        where
          no_more : PathsOf s n (Last p) → ⊥
          no_more k = let e = one_list s n (m ∷ o ∷ ms) (k.0 ∷ []) l (k.1, k.2, k.3) in absurd (omega (arith, ap (λ (xs : List Term). length xs) e))

      several : (ps : Paths) → PathsOf s n ps → AreSeveral ps
      several (Last p) h = absurd (single p h)
      several (Also p ps) h = tt

  by_join : (join : Join) (n : Term) (rs : List Relation) (ps : Paths) → IsListed n rs ps → (x y : Term) → JoinsBy join rs x y ↔ Walk g (joined join ps) x y
  by_join ways.Sequence n rs ps h x y = h.through x y
  by_join ways.Alternative n rs ps h x y = h.somehow x y

  -- the relation of the list
  pub joined_is : (join : Join) (n : Term) (ms : List Term) (rs : List Relation) (made : Relation) → 2 ≤ length ms → ListOf s n ms → AreRelationsAt g s ms levels rs → Means (JoinsBy join rs) made
      → (ps : Paths) × AreReadPaths s n levels ps × IsOf g (joined join ps) made
  joined_is join n ms rs made long l a k =
      let w = several_listed n ms rs long l a in
      (w.0, (w.1, w.2.stands, w.2.shallow), means_same (JoinsBy join rs) (Walk g (joined join w.0)) made (by_join join n rs w.0 w.2) k)

module _ (s : List Triple) (levels : ℕ) where
  -- the members of a list of paths
  read_members : (n : Term) (ps : Paths) → PathsOf s n ps → deepest_of ps ≤ levels → (ms : List Term) × ListOf s n ms × ((m : Term) → Contains ms m → (p : Path) × IsRead s m levels p) × (1 ≤ length ms)
  read_members n (Last p) h le = (
    h.0 ∷ [],
    (h.1, h.2, h.3),
    λ m c. elim (has_cases h.0 [] m c) [ inl e ↦ (p, (subst (λ (x : Term). PathOf s x p) e h.4, le)) | inr d ↦ absurd (omega (arith, d.1)) ],
    omega arith,
  )
  read_members n (Also p ps) h le =
      let first : depth_of p ≤ levels = omega (arith, le) in
      let others : deepest_of ps ≤ levels = omega (arith, le) in
      let rest = read_members h.1 ps h.4 others in (
        h.0 ∷ rest.0,
        (h.1, h.2, rest.1),
        λ m c. elim (has_cases h.0 rest.0 m c) [ inl e ↦ (p, (subst (λ (x : Term). PathOf s x p) e h.3, first)) | inr d ↦ rest.2 m d ],
        omega arith,
      )

  several_members : (n : Term) (ps : Paths) → AreReadPaths s n levels ps → (ms : List Term) × ListOf s n ms × ((m : Term) → Contains ms m → (p : Path) × IsRead s m levels p) × (2 ≤ length ms)
  several_members n (Last p) h = absurd h.0
  several_members n (Also p ps) h =
      let k = h.1 in
      let le : deepest_of (Also p ps) ≤ levels = h.2 in
      let first : depth_of p ≤ levels = omega (arith, le) in
      let others : deepest_of ps ≤ levels = omega (arith, le) in
      let rest = read_members k.1 ps k.4 others in
      let long : 1 ≤ length rest.0 = rest.3 in (
        k.0 ∷ rest.0,
        (k.1, k.2, rest.1),
        λ m c. elim (has_cases k.0 rest.0 m c) [ inl e ↦ (p, (subst (λ (x : Term). PathOf s x p) e k.3, first)) | inr d ↦ rest.2 m d ],
        omega (arith, long),
      )

  pub no_list_unread : (n : Term) → ((ms : List Term) → ListOf s n ms → ⊥) → AreUnread s n levels
  no_list_unread n none ps h = let w = several_members n ps h in none w.0 w.1

  pub short_unread : (n : Term) (ms : List Term) → ListOf s n ms → length ms < 2 → AreUnread s n levels
  short_unread n ms l short ps h =
      let w = several_members n ps h in
      let e : length w.0 ≡ length ms = ap (λ (xs : List Term). length xs) (one_list s n w.0 ms w.1 l) in
      let long : 2 ≤ length w.0 = w.3 in
      omega (arith, e, long, short)

  pub member_unread : (n : Term) (ms : List Term) → ListOf s n ms → ((m : Term) × Contains ms m × IsUnread s m levels) → AreUnread s n levels
  member_unread n ms l u ps h =
      let w = several_members n ps h in
      let k = w.2 u.0 (subst (λ (xs : List Term). Contains xs u.0) (one_list s n ms w.0 l w.1) u.1) in
      u.2 k.0 k.1
