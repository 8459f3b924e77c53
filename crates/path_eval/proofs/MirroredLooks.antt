-- The looks of a walk from number to number are those of the terms of the numbers.
use Rattle.std.proofs.Common.{◌≡◌, ◌∙◌, ℕ, ◌<◌, List, length, Bool, true, false, refl, sym, ap, subst, inl, inr}
use Rattle.std.specs.Prelude.{◌⊎◌, ◌↔◌}
use Rattle.rdf_model.specs.declared.term.Term.{Term}
use Rattle.rdf_model.specs.declared.ids.Ids.{Ids}
use Rattle.rdf_model.specs.declared.look.Look.{Look}
use Rattle.rdf_model.specs.declared.look.Look.TheVariants as looks
use Rattle.rdf_model.specs.declared.look.Look.TheVariants.{Out, In}
use Rattle.rdf_model.specs.Numbers.{term_at, graph_of, IsNumbering, AreNumbered}
use Rattle.shape_model.specs.Paths as defined
use Rattle.shape_model.specs.Walks.{Chain, Walk}
use Rattle.shape_model.specs.Looks.{directed, directed_all}
use Rattle.shape_model.specs.NodeLooks.{PathReads, ThroughReads, SomeReads}
use Rattle.path_ast.specs.declared.path.Path.{Path, Predicate, Inverse', Sequence', Alternative', ZeroOrMore', OneOrMore', ZeroOrOne', Row_of-Path, end_of-Path, more_of-Path}
use Rattle.path_ast.specs.PathReadings.{IsBoundPath, RowHasEach, members, path_of, read_row}
use Rattle.path_eval.specs.Naming.{IsBoundLook, look_of}
use Rattle.path_eval.specs.Relations.{Repeated}
use Rattle.path_eval.specs.NumberedWalks.{Reaches, RowBackward}
use Rattle.path_eval.specs.NumberedLooks.{AtRepeated, Reads, RowReadsBackward, RowReadsOnward, RowReadsSome}
use Rattle.path_eval.proofs.Mirrors.{EachMirrors, Mirrors, each_mirrors, mirrors, mirrors_backward, mirrors_repeated}

module _ (terms : List Term) where
  -- at the term of a number just the looks are made that the other makes at the number
  pub record Shows (L : ℕ → Look ℕ → Type 0) (M : Term → Look Term → Type 0) : Type 0 where
    pub to : (x : ℕ) (look : Look ℕ) → x < length terms → L x look → IsBoundLook (length terms) look × M (term_at terms x) (look_of terms look)
    pub from : (x : ℕ) (l : Look Term) → x < length terms → M (term_at terms x) l → (look : Look ℕ) × L x look × (look_of terms look ≡ l)

  shows_as : (K L : ℕ → Look ℕ → Type 0) (M : Term → Look Term → Type 0) → ((x : ℕ) (look : Look ℕ) → K x look ↔ L x look) → Shows K M → Shows L M
  shows_as K L M e m = record { to = λ x look lt r. m.to x look lt ((e x look).1 r); from = λ x l lt w. let k = m.from x l lt w in (k.0, (e x k.0).0 k.1, k.2) }

  pub shows_then : (R : ℕ → ℕ → Type 0) (W : Term → Term → Type 0) (L : ℕ → Look ℕ → Type 0) (M : Term → Look Term → Type 0) → Mirrors terms R W → Shows L M
      → Shows (λ x look. (z : ℕ) × R x z × L z look) (λ x l. (z : Term) × W x z × M z l)
  shows_then R W L M m n = record {
    to = λ x look lt r. let k = m.to x r.0 lt r.1 in let l = n.to r.0 look k.0 r.2 in (l.0, (term_at terms r.0, k.1, l.1));
    from = λ x l lt w.
        let k = m.from x w.0 lt w.1 in
        let i = n.from k.0 l k.1 (subst (λ (z : Term). M z l) (sym k.3) w.2) in
        (i.0, (k.0, k.2, i.1), i.2);
  }

  pub shows_either : (K L : ℕ → Look ℕ → Type 0) (M N : Term → Look Term → Type 0) → Shows K M → Shows L N → Shows (λ x look. K x look ⊎ L x look) (λ x l. M x l ⊎ N x l)
  shows_either K L M N m n = record {
    to = λ x look lt. elim [ inl r ↦ let k = m.to x look lt r in (k.0, inl k.1) | inr s ↦ let k = n.to x look lt s in (k.0, inr k.1) ];
    from = λ x l lt. elim [
      | inl w ↦ let k = m.from x l lt w in (k.0, inl k.1, k.2)
      | inr w ↦ let k = n.from x l lt w in (k.0, inr k.1, k.2)
    ];
  }

  shows_look : (f : ℕ → Look ℕ) (h : Term → Look Term) → ((x : ℕ) → look_of terms (f x) ≡ h (term_at terms x)) → ((x : ℕ) → x < length terms → IsBoundLook (length terms) (f x)) → Shows (λ x look. look ≡ f x) (λ x l. l ≡ h x)
  shows_look f h e bound = record {
    to = λ x look lt r. (subst (λ (l : Look ℕ). IsBoundLook (length terms) l) (sym r) (bound x lt), ap (look_of terms) r ∙ e x);
    from = λ x l lt w. (f x, refl, e x ∙ sym w);
  }

  module _ (numbering : IsNumbering terms) (ids : List Ids) (numbered : AreNumbered terms ids) where
    pub repeated : (p : Path ℕ) (reversed : Bool) → IsBoundPath (length terms) p → Shows (Reads ids reversed p) (PathReads (graph_of terms ids) reversed (path_of terms p))
        → Shows (AtRepeated (Reaches ids reversed p) (Reads ids reversed p)) (λ x l. (z : Term) × ((zs : List Term) × Chain (Walk (graph_of terms ids) (directed reversed (path_of terms p))) x zs z) × PathReads (graph_of terms ids) reversed (path_of terms p) z l)
    repeated p reversed b shown =
        let W = Walk (graph_of terms ids) (directed reversed (path_of terms p)) in
        shows_then (Repeated (Reaches ids reversed p)) (λ x y. (zs : List Term) × Chain W x zs y) (Reads ids reversed p) (PathReads (graph_of terms ids) reversed (path_of terms p))
        (mirrors_repeated terms (Reaches ids reversed p) W (mirrors terms numbering ids numbered p reversed b)) shown

    -- the looks of each path of the row are shown
    abbrev pub EachShows : Bool → {m : _} → Row_of-Path ℕ m → Type 0
    EachShows reversed end_of-Path = Unit {0}
    EachShows reversed (more_of-Path p ps) = Shows (Reads ids reversed p) (PathReads (graph_of terms ids) reversed (path_of terms p)) × EachShows reversed ps

    -- after a path that is mirrored, with its looks
    pub shows_onward : {m : _} → (ps : Row_of-Path ℕ m) → EachMirrors terms numbering ids numbered false ps → EachShows false ps → (R : ℕ → ℕ → Type 0) (d : defined.Path) → Mirrors terms R (Walk (graph_of terms ids) d)
        → (L : ℕ → Look ℕ → Type 0) → Shows L (PathReads (graph_of terms ids) false d)
        → Shows (λ x look. L x look ⊎ ((z : ℕ) × R x z × RowReadsOnward ids ps z look)) (ThroughReads (graph_of terms ids) false (members d (read_row (term_at terms) ps)))
    shows_onward end_of-Path b e R d m L n = shows_as L (λ x look. L x look ⊎ ((z : ℕ) × R x z × ⊥)) (PathReads (graph_of terms ids) false d)
        (λ x look. (λ r. inl r, elim [ inl r ↦ r | inr k ↦ absurd k.2 ])) n
    shows_onward (more_of-Path p ps) b e R d m L n =
        let K = λ (x : ℕ) (look : Look ℕ). Reads ids false p x look ⊎ ((z : ℕ) × Reaches ids false p x z × RowReadsOnward ids ps z look) in
        let M = ThroughReads (graph_of terms ids) false (members (path_of terms p) (read_row (term_at terms) ps)) in
        shows_either L (λ x look. (z : ℕ) × R x z × K z look) (PathReads (graph_of terms ids) false d) (λ x l. (z : Term) × Walk (graph_of terms ids) d x z × M z l) n
        (shows_then R (Walk (graph_of terms ids) d) K M m
        (shows_onward ps b.1 e.1 (Reaches ids false p) (path_of terms p) b.0 (Reads ids false p) e.0))

    -- before a path, with the looks of its way back
    pub shows_backward : {m : _} → (ps : Row_of-Path ℕ m) → EachMirrors terms numbering ids numbered true ps → EachShows true ps → (d : defined.Path) (L : ℕ → Look ℕ → Type 0) → Shows L (PathReads (graph_of terms ids) true d)
        → Shows (λ x look. RowReadsBackward ids ps x look ⊎ ((z : ℕ) × RowBackward ids ps x z × L z look)) (ThroughReads (graph_of terms ids) true (members d (read_row (term_at terms) ps)))
    shows_backward end_of-Path b e d L n = shows_as L (λ x look. ⊥ ⊎ ((z : ℕ) × (x ≡ z) × L z look)) (PathReads (graph_of terms ids) true d)
        (λ x look. (λ r. inr (x, refl, r), elim [ inl never ↦ absurd never | inr k ↦ subst (λ (z : ℕ). L z look) (sym k.1) k.2 ])) n
    shows_backward (more_of-Path p ps) b e d L n =
        let R = λ (x y : ℕ). (z : ℕ) × RowBackward ids ps x z × Reaches ids true p z y in
        let K = λ (x : ℕ) (look : Look ℕ). RowReadsBackward ids ps x look ⊎ ((z : ℕ) × RowBackward ids ps x z × Reads ids true p z look) in
        let ms = members (path_of terms p) (read_row (term_at terms) ps) in
        let W = Walk (graph_of terms ids) (directed_all true ms) in
        let M = PathReads (graph_of terms ids) true d in
        shows_either K (λ x look. (z : ℕ) × R x z × L z look) (ThroughReads (graph_of terms ids) true ms) (λ x l. (z : Term) × W x z × M z l)
        (shows_backward ps b.1 e.1 (path_of terms p) (Reads ids true p) e.0)
        (shows_then R W L M (mirrors_backward terms numbering ids numbered ps b.1 (Reaches ids true p) (path_of terms p) b.0) n)

    -- beside a path
    pub shows_some : {m : _} → (ps : Row_of-Path ℕ m) (reversed : Bool) → EachShows reversed ps → (d : defined.Path) (L : ℕ → Look ℕ → Type 0) → Shows L (PathReads (graph_of terms ids) reversed d)
        → Shows (λ x look. L x look ⊎ RowReadsSome ids reversed ps x look) (SomeReads (graph_of terms ids) reversed (members d (read_row (term_at terms) ps)))
    shows_some end_of-Path false b d L n = shows_as L (λ x look. L x look ⊎ ⊥) (PathReads (graph_of terms ids) false d) (λ x look. (λ r. inl r, elim [ inl r ↦ r | inr never ↦ absurd never ])) n
    shows_some end_of-Path true b d L n = shows_as L (λ x look. L x look ⊎ ⊥) (PathReads (graph_of terms ids) true d) (λ x look. (λ r. inl r, elim [ inl r ↦ r | inr never ↦ absurd never ])) n
    shows_some (more_of-Path p ps) false b d L n =
        shows_either L (λ x look. Reads ids false p x look ⊎ RowReadsSome ids false ps x look) (PathReads (graph_of terms ids) false d) (SomeReads (graph_of terms ids) false (members (path_of terms p) (read_row (term_at terms) ps))) n
        (shows_some ps false b.1 (path_of terms p) (Reads ids false p) b.0)
    shows_some (more_of-Path p ps) true b d L n =
        shows_either L (λ x look. Reads ids true p x look ⊎ RowReadsSome ids true ps x look) (PathReads (graph_of terms ids) true d) (SomeReads (graph_of terms ids) true (members (path_of terms p) (read_row (term_at terms) ps))) n
        (shows_some ps true b.1 (path_of terms p) (Reads ids true p) b.0)

    mutual
      pub shows : (p : Path ℕ) (reversed : Bool) → IsBoundPath (length terms) p → Shows (Reads ids reversed p) (PathReads (graph_of terms ids) reversed (path_of terms p))
      shows (Predicate p) false b = shows_look (λ x. Out x p) (λ x. looks.Out x (term_at terms p)) (λ x. refl) (λ x lt. (lt, b))
      shows (Predicate p) true b = shows_look (λ x. In p x) (λ x. looks.In (term_at terms p) x) (λ x. refl) (λ x lt. (b, lt))
      shows (Inverse' _ p) false b = shows p true b
      shows (Inverse' _ p) true b = shows p false b
      shows (Sequence' _ p _ ps) false b = shows_onward ps (each_mirrors terms numbering ids numbered ps false b.1) (each_shows ps false b.1) (Reaches ids false p) (path_of terms p) (mirrors terms numbering ids numbered p false b.0) (Reads ids false p) (shows p false b.0)
      shows (Sequence' _ p _ ps) true b = shows_backward ps (each_mirrors terms numbering ids numbered ps true b.1) (each_shows ps true b.1) (path_of terms p) (Reads ids true p) (shows p true b.0)
      shows (Alternative' _ p _ ps) false b = shows_some ps false (each_shows ps false b.1) (path_of terms p) (Reads ids false p) (shows p false b.0)
      shows (Alternative' _ p _ ps) true b = shows_some ps true (each_shows ps true b.1) (path_of terms p) (Reads ids true p) (shows p true b.0)
      shows (ZeroOrMore' _ p) false b = repeated p false b (shows p false b)
      shows (ZeroOrMore' _ p) true b = repeated p true b (shows p true b)
      shows (OneOrMore' _ p) false b = repeated p false b (shows p false b)
      shows (OneOrMore' _ p) true b = repeated p true b (shows p true b)
      shows (ZeroOrOne' _ p) false b = shows p false b
      shows (ZeroOrOne' _ p) true b = shows p true b

      pub each_shows : {m : _} → (ps : Row_of-Path ℕ m) (reversed : Bool) → RowHasEach (λ p. p < length terms) ps → EachShows reversed ps
      each_shows end_of-Path reversed b = tt
      each_shows (more_of-Path p ps) reversed b = (shows p reversed b.0, each_shows ps reversed b.1)
