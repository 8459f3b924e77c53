-- Walks are the same where the graphs agree on the looks of the path.
use Rattle.std.proofs.Common.{List, [], ◌∷◌, ◌++◌, refl, sym, subst, inl, inr}
use Rattle.std.specs.Prelude.{◌≢◌, ◌↔◌, Bool, true, false}
use Rattle.rdf_model.specs.declared.term.Term.{Term}
use Rattle.rdf_model.specs.declared.triple.Triple.{Triple}
use Rattle.shape_model.specs.Agreement.{AgreesAt}
use Rattle.shape_model.specs.Laws.{WalkLaw}
use Rattle.shape_model.specs.Looks.{ByIn, ByOut, LookRow, PathLook, SomeLook, ThroughLook, directed, directed_all}
use Rattle.shape_model.specs.Paths.{Also, Alternative, Inverse, Last, OneOrMore, Path, Paths, Predicate, Sequence, ZeroOrMore, ZeroOrOne}
use Rattle.shape_model.specs.Walks.{Chain, Walk, WalkThrough, Walks}

-- a further path at the end of a way
pub way_more : (g : List Triple) (q : List Path) (p : Path) (x y z : Term) → Walks g q x y → Walk g p y z → Walks g (q ++ p ∷ []) x z
way_more g [] p x y z w s = (z, subst (λ (a : Term). Walk g p a z) (sym w) s, refl)
way_more g (a ∷ q) p x y z w s = (w.0, w.1, way_more g q p w.0 y z w.2 s)

chain_more : (R : Term → Term → Type 0) (zs : List Term) (x y w : Term) → Chain R x zs y → R y w → Chain R x (zs ++ w ∷ []) w
chain_more R [] x y w c r = (subst (λ (a : Term). R a w) (sym c) r, refl)
chain_more R (z ∷ zs) x y w c r = (c.0, chain_more R zs z y w c.1 r)

not_empty : (zs : List Term) (w : Term) → (zs ++ w ∷ []) ≢ []
not_empty [] w e = cc
not_empty (z ∷ zs) w e = cc

-- a chain reversed
reversed_chain : (R : Term → Term → Type 0) (zs : List Term) (x y : Term) → Chain R x zs y → (ws : List Term) × (zs ≢ [] → ws ≢ []) × Chain (λ a b. R b a) y ws x
reversed_chain R [] x y c = ([], λ e. e, sym c)
reversed_chain R (z ∷ zs) x y c =
    let t : (ws : List Term) × (zs ≢ [] → ws ≢ []) × Chain (λ a b. R b a) y ws z = reversed_chain R zs z y c.1 in
    (t.0 ++ x ∷ [], λ _. not_empty t.0 x, chain_more (λ a b. R b a) t.0 y z x t.2 c.0)

-- a repetition whose inner walks are the same at each node that it comes to
chain_same : (g h : List Triple) (p : Path) (x : Term) → ((z : Term) → Walk g (ZeroOrMore p) x z → (y : Term) → Walk g p z y ↔ Walk h p z y)
    → (zs : List Term) (z y : Term) → Walk g (ZeroOrMore p) x z → Chain (Walk g p) z zs y ↔ Chain (Walk h p) z zs y
chain_same g h p x same [] z y w = (λ c. c, λ c. c)
chain_same g h p x same (a ∷ zs) z y w =
    let next : Walk g p z a → Walk g (ZeroOrMore p) x a = λ s. (w.0 ++ a ∷ [], chain_more (Walk g p) w.0 x z a w.1 s) in (
      λ c. ((same z w a).0 c.0, (chain_same g h p x same zs a y (next c.0)).0 c.1),
      λ c. let s : Walk g p z a = (same z w a).1 c.0 in (s, (chain_same g h p x same zs a y (next s)).1 c.1),
    )

module _ (g h : List Triple) (f : Term) where
  mutual
    pub walk_same : (p : Path) (reversed : Bool) (q : List Path) (x : Term) → Walks g q f x → ((row : LookRow) → PathLook reversed p q row → AgreesAt g h f row) → (y : Term) → Walk g (directed reversed p) x y ↔ Walk h (directed reversed p) x y
    walk_same (Predicate p) false q x w a y = a (record { way = q; kind = ByOut p }) refl x w (record { subject = x; predicate = p; object = y }) (refl, refl)
    walk_same (Predicate p) true q x w a y = a (record { way = q; kind = ByIn p }) refl x w (record { subject = y; predicate = p; object = x }) (refl, refl)
    walk_same (Inverse p) false q x w a y = walk_same p true q x w a y
    walk_same (Inverse p) true q x w a y = walk_same p false q x w a y
    walk_same (Sequence ps) false q x w a y = through_same ps false q x w a y
    walk_same (Sequence ps) true q x w a y = through_same ps true q x w a y
    walk_same (Alternative ps) false q x w a y = some_same ps false q x w a y
    walk_same (Alternative ps) true q x w a y = some_same ps true q x w a y
    walk_same (ZeroOrMore p) false q x w a y =
        let same = λ (zs : List Term). chain_same g h p x (λ z s. walk_same p false (q ++ ZeroOrMore p ∷ []) z (way_more g q (ZeroOrMore p) f x z w s) a) zs x y ([], refl) in
        (λ c. (c.0, (same c.0).0 c.1), λ c. (c.0, (same c.0).1 c.1))
    walk_same (ZeroOrMore p) true q x w a y =
        let same = λ (zs : List Term). chain_same g h (Inverse p) x (λ z s. walk_same p true (q ++ ZeroOrMore (Inverse p) ∷ []) z (way_more g q (ZeroOrMore (Inverse p)) f x z w s) a) zs x y ([], refl) in (
          λ c. let t = reversed_chain (Walk g p) c.0 y x c.1 in let u = reversed_chain (Walk h (Inverse p)) t.0 x y ((same t.0).0 t.2) in (u.0, u.2),
          λ c. let t = reversed_chain (Walk h p) c.0 y x c.1 in let u = reversed_chain (Walk g (Inverse p)) t.0 x y ((same t.0).1 t.2) in (u.0, u.2),
        )
    walk_same (OneOrMore p) false q x w a y =
        let same = λ (zs : List Term). chain_same g h p x (λ z s. walk_same p false (q ++ ZeroOrMore p ∷ []) z (way_more g q (ZeroOrMore p) f x z w s) a) zs x y ([], refl) in
        (λ c. (c.0, c.1, (same c.0).0 c.2), λ c. (c.0, c.1, (same c.0).1 c.2))
    walk_same (OneOrMore p) true q x w a y =
        let same = λ (zs : List Term). chain_same g h (Inverse p) x (λ z s. walk_same p true (q ++ ZeroOrMore (Inverse p) ∷ []) z (way_more g q (ZeroOrMore (Inverse p)) f x z w s) a) zs x y ([], refl) in (
          λ c. let t = reversed_chain (Walk g p) c.0 y x c.2 in let u = reversed_chain (Walk h (Inverse p)) t.0 x y ((same t.0).0 t.2) in (u.0, u.1 (t.1 c.1), u.2),
          λ c. let t = reversed_chain (Walk h p) c.0 y x c.2 in let u = reversed_chain (Walk g (Inverse p)) t.0 x y ((same t.0).1 t.2) in (u.0, u.1 (t.1 c.1), u.2),
        )
    walk_same (ZeroOrOne p) false q x w a y =
        let s = walk_same p false q x w a y in
        (elim [ inl e ↦ inl e | inr c ↦ inr (s.0 c) ], elim [ inl e ↦ inl e | inr c ↦ inr (s.1 c) ])
    walk_same (ZeroOrOne p) true q x w a y =
        let s = walk_same p true q x w a y in
        (elim [ inl e ↦ inl e | inr c ↦ inr (s.0 c) ], elim [ inl e ↦ inl e | inr c ↦ inr (s.1 c) ])

    pub through_same : (ps : Paths) (reversed : Bool) (q : List Path) (x : Term) → Walks g q f x → ((row : LookRow) → ThroughLook reversed ps q row → AgreesAt g h f row) → (y : Term) → Walk g (directed_all reversed ps) x y ↔ Walk h (directed_all reversed ps) x y
    through_same (Last p) false q x w a y = walk_same p false q x w a y
    through_same (Last p) true q x w a y = walk_same p true q x w a y
    through_same (Also p ps) false q x w a y =
        let head = walk_same p false q x w (λ row i. a row (inl i)) in
        let tail = λ (z : Term) (s : Walk g p x z). through_same ps false (q ++ p ∷ []) z (way_more g q p f x z w s) (λ row i. a row (inr i)) y in (
          λ c. (c.0, (head c.0).0 c.1, (tail c.0 c.1).0 c.2),
          λ c. let s : Walk g p x c.0 = (head c.0).1 c.1 in (c.0, s, (tail c.0 s).1 c.2),
        )
    through_same (Also p ps) true q x w a y =
        let head = through_same ps true q x w (λ row i. a row (inl i)) in
        let tail = λ (z : Term) (s : WalkThrough g ps z x). walk_same p true (q ++ Inverse (Sequence ps) ∷ []) z (way_more g q (Inverse (Sequence ps)) f x z w s) (λ row i. a row (inr i)) y in (
          λ c. (c.0, (tail c.0 c.2).0 c.1, (head c.0).0 c.2),
          λ c. let s : WalkThrough g ps c.0 x = (head c.0).1 c.2 in (c.0, (tail c.0 s).1 c.1, s),
        )

    pub some_same : (ps : Paths) (reversed : Bool) (q : List Path) (x : Term) → Walks g q f x → ((row : LookRow) → SomeLook reversed ps q row → AgreesAt g h f row) → (y : Term) → Walk g (directed reversed (Alternative ps)) x y ↔ Walk h (directed reversed (Alternative ps)) x y
    some_same (Last p) false q x w a y = walk_same p false q x w a y
    some_same (Last p) true q x w a y = walk_same p true q x w a y
    some_same (Also p ps) false q x w a y =
        let s = walk_same p false q x w (λ row i. a row (inl i)) y in
        let t = some_same ps false q x w (λ row i. a row (inr i)) y in
        (elim [ inl c ↦ inl (s.0 c) | inr c ↦ inr (t.0 c) ], elim [ inl c ↦ inl (s.1 c) | inr c ↦ inr (t.1 c) ])
    some_same (Also p ps) true q x w a y =
        let s = walk_same p true q x w (λ row i. a row (inl i)) y in
        let t = some_same ps true q x w (λ row i. a row (inr i)) y in
        (elim [ inl c ↦ inl (s.0 c) | inr c ↦ inr (t.0 c) ], elim [ inl c ↦ inl (s.1 c) | inr c ↦ inr (t.1 c) ])

pub walk_law : WalkLaw
walk_law g h p f a y = walk_same g h f p false [] f refl a y
