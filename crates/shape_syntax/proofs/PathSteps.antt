-- What is shown of a node is so, and where nothing more is shown, all that is so is known.
use Rattle.std.proofs.Common.{◌≡◌, List, refl, sym, subst, inl, inr, codes}
use Rattle.std.specs.Prelude.{◌↔◌, ◌⊎◌}
use Rattle.std.specs.List.{Contains}
use Rattle.rdf_model.specs.declared.term.Term.{Term}
use Rattle.rdf_model.specs.declared.triple.Triple.{Triple}
use Rattle.rdf_model.specs.declared.term.Term.TheVariants.{Blank, Iri, Literal}
use Rattle.shape_model.specs.Vocabulary.{sh}
use Rattle.shape_model.specs.Triples.{Has, IsBlank, IsIri}
use Rattle.shape_model.specs.Paths.{Path, Predicate, Inverse, Sequence, Alternative, ZeroOrMore, OneOrMore, ZeroOrOne, Paths, Last, Also, AreSeveral}
use Rattle.shape_model.specs.ShapeSyntax.{IsCell, IsListEnd, PathOf, PathsOf}
use Rattle.shape_syntax.specs.declared.claim.Claim.{Claim}
use Rattle.shape_syntax.specs.declared.claim.Claim.TheVariants as claims
use Rattle.shape_syntax.specs.Subjects.{IsSubject}
use Rattle.shape_syntax.specs.PathNodes.{IsPath, ArePathNodes}
use Rattle.shape_syntax.specs.PathSteps.{HasCell, HasOneTriple, MayStand, IsKnown, IsSeveral, ShowsList, ModifiesPath, LeadsOn, IsAlone, ShowsPath, Stands, Shows, Knows, node_of, AreSound}

known_path : (s : List Triple) (paths lists : List Term) → AreSound s paths lists → (n : Term) → IsKnown paths n → IsPath s n
known_path s paths lists sound n h = elim h [
  | inl i ↦ (Predicate n, (refl, i))
  | inr c ↦ (sound (claims.Path n) c).1
]

several_paths : (s : List Triple) (paths lists : List Term) → AreSound s paths lists → (n : Term) → IsSeveral s paths lists n → (ps : Paths) × AreSeveral ps × PathsOf s n ps
several_paths s paths lists sound n h =
    let first = known_path s paths lists sound h.0 h.3 in
    let rest = sound (claims.List h.1) h.4 in
    (Also first.0 rest.0, tt, (h.0, h.1, h.2, first.1, rest.1))

shown_list : (s : List Triple) (paths lists : List Term) → AreSound s paths lists → (n : Term) → ShowsList s paths lists n → (ps : Paths) × PathsOf s n ps
shown_list s paths lists sound n h =
    let first = known_path s paths lists sound h.0 h.3 in
    elim h.4 [
      | inl e ↦ (Last first.0, (h.0, h.1, h.2, e, first.1))
      | inr c ↦ (let rest = sound (claims.List h.1) c in (Also first.0 rest.0, (h.0, h.1, h.2, first.1, rest.1)))
    ]

led_path : (s : List Triple) (paths lists : List Term) → AreSound s paths lists → (n p m : Term) → IsBlank n → IsAlone s n p m → LeadsOn s paths lists p m → IsPath s n
led_path s paths lists sound n p m blank alone h = elim h [
  | inl modifiers ↦ (
      let q = known_path s paths lists sound m modifiers.1 in
      elim modifiers.0 [
        | inl e ↦ (let a = subst (λ (x : Term). IsAlone s n x m) e alone in (Inverse q.0, (m, (blank, a.0, a.1), q.1)))
        | inr (inl e) ↦ (let a = subst (λ (x : Term). IsAlone s n x m) e alone in (ZeroOrMore q.0, (m, (blank, a.0, a.1), q.1)))
        | inr (inr (inl e)) ↦ (let a = subst (λ (x : Term). IsAlone s n x m) e alone in (OneOrMore q.0, (m, (blank, a.0, a.1), q.1)))
        | inr (inr (inr e)) ↦ (let a = subst (λ (x : Term). IsAlone s n x m) e alone in (ZeroOrOne q.0, (m, (blank, a.0, a.1), q.1)))
      ]
      )
  | inr offers ↦ (
      let a = subst (λ (x : Term). IsAlone s n x m) offers.0 alone in
      let qs = several_paths s paths lists sound m offers.1 in
      (Alternative qs.0, (m, (blank, a.0, a.1), qs.1, qs.2))
      )
]

shown_path : (s : List Triple) (paths lists : List Term) → AreSound s paths lists → (n : Term) → IsBlank n → ShowsPath s paths lists n → IsPath s n
shown_path s paths lists sound n blank h = elim h [
  | inl several ↦ (let qs = several_paths s paths lists sound n several in (Sequence qs.0, (blank, qs.1, qs.2)))
  | inr leads ↦ led_path s paths lists sound n leads.0 leads.1 blank leads.2 leads.3
]

-- what is shown is so
pub shown_stands : (s : List Triple) (paths lists : List Term) → AreSound s paths lists → (c : Claim) → Shows s paths lists c → Stands s c
shown_stands s paths lists sound (claims.Path n) h = (h.0, shown_path s paths lists sound n h.0 h.1)
shown_stands s paths lists sound (claims.List n) h = shown_list s paths lists sound n h

has_subject : (s : List Triple) (n p v : Term) → Has s n p v → IsSubject s n
has_subject s n p v h = (record { subject = n; predicate = p; object = v }, h, refl)

-- nothing is shown but of the subject of a triple
pub may_subject : (s : List Triple) (c : Claim) → MayStand s c → IsSubject s (node_of c)
may_subject s (claims.Path n) h = elim h.1 [
  | inl cell ↦ has_subject s n _ _ cell.2.0.0
  | inr alone ↦ has_subject s n _ _ alone.2.0
]
may_subject s (claims.List n) h = has_subject s n _ _ h.2.0.0

-- what is shown may be
pub shown_may : (s : List Triple) (paths lists : List Term) (c : Claim) → Shows s paths lists c → MayStand s c
shown_may s paths lists (claims.Path n) h = elim h.1 [
  | inl several ↦ (h.0, inl (several.0, several.1, several.2))
  | inr leads ↦ (h.0, inr (leads.0, leads.1, leads.2))
]
shown_may s paths lists (claims.List n) h = (h.0, h.1, h.2)

-- the claims of a node are among these, if those of a cell and of the subject of one triple are
pub may_among : (s : List Triple) (n : Term) (xs : List Claim) → (HasCell s n → Contains xs (claims.List n)) → (IsBlank n → HasCell s n ⊎ HasOneTriple s n → Contains xs (claims.Path n)) → (c : Claim) → n ≡ node_of c → MayStand s c → Contains xs c
may_among s n xs list path (claims.Path m) e h = subst (λ (x : Term). Contains xs (claims.Path x)) e (path (subst (λ (x : Term). IsBlank x) (sym e) h.0) (subst (λ (x : Term). HasCell s x ⊎ HasOneTriple s x) (sym e) h.1))
may_among s n xs list path (claims.List m) e h = subst (λ (x : Term). Contains xs (claims.List x)) e (list (subst (λ (x : Term). HasCell s x) (sym e) h))

-- A node is one cell at most, and has one triple alone at most.
same_member : (s : List Triple) (n m k o l : Term) → IsCell s n m k → IsCell s n o l → m ≡ o
same_member s n m k o l c d = d.0.1 m c.0.0

same_rest : (s : List Triple) (n m k o l : Term) → IsCell s n m k → IsCell s n o l → k ≡ l
same_rest s n m k o l c d = d.1.1 k c.1.0

pub several_at : (s : List Triple) (paths lists : List Term) (n m k : Term) → IsCell s n m k → IsSeveral s paths lists n → IsKnown paths m × Contains lists k
several_at s paths lists n m k cell h = (
  subst (λ (x : Term). IsKnown paths x) (same_member s n h.0 h.1 m k h.2 cell) h.3,
  subst (λ (x : Term). Contains lists x) (same_rest s n h.0 h.1 m k h.2 cell) h.4,
)

pub list_at : (s : List Triple) (paths lists : List Term) (n m k : Term) → IsCell s n m k → ShowsList s paths lists n → IsKnown paths m × (IsListEnd s k ⊎ Contains lists k)
list_at s paths lists n m k cell h = (
  subst (λ (x : Term). IsKnown paths x) (same_member s n h.0 h.1 m k h.2 cell) h.3,
  subst (λ (x : Term). IsListEnd s x ⊎ Contains lists x) (same_rest s n h.0 h.1 m k h.2 cell) h.4,
)

pub alone_at : (s : List Triple) (paths lists : List Term) (n p m : Term) → IsAlone s n p m → ((q : Term) × (w : Term) × IsAlone s n q w × LeadsOn s paths lists q w) → LeadsOn s paths lists p m
alone_at s paths lists n p m alone h =
    let same = alone.1 h.0 h.1 h.2.0 in
    subst (λ (x : Term). LeadsOn s paths lists p x) same.1 (subst (λ (x : Term). LeadsOn s paths lists x h.1) same.0 h.3)

-- Where all is known that is shown, each node that stands for a path is known, and so is each list of paths.
abbrev pub IsClosed : List Triple → List Term → List Term → Type 0
IsClosed s paths lists = (c : Claim) → Shows s paths lists c → Knows paths lists c

module _ (s : List Triple) (paths lists : List Term) (closed : IsClosed s paths lists) where
  modified : (n p m : Term) → IsBlank n → IsAlone s n p m → ModifiesPath p → IsKnown paths m → IsKnown paths n
  modified n p m blank alone modifiers known = inr (closed (claims.Path n) (blank, inr (p, m, alone, inl (modifiers, known))))

  mutual
    all_paths : (n : Term) (p : Path) → PathOf s n p → IsKnown paths n
    all_paths n (Predicate p) h = inl h.1
    all_paths n (Inverse p) h = modified n (sh (codes "inversePath")) h.0 h.1.0 (h.1.1, h.1.2) (inl refl) (all_paths h.0 p h.2)
    all_paths n (Sequence ps) h = inr (closed (claims.Path n) (h.0, inl (all_several n ps h.1 h.2)))
    all_paths n (Alternative ps) h = inr (closed (claims.Path n) (h.1.0, inr (sh (codes "alternativePath"), h.0, (h.1.1, h.1.2), inr (refl, all_several h.0 ps h.2 h.3))))
    all_paths n (ZeroOrMore p) h = modified n (sh (codes "zeroOrMorePath")) h.0 h.1.0 (h.1.1, h.1.2) (inr (inl refl)) (all_paths h.0 p h.2)
    all_paths n (OneOrMore p) h = modified n (sh (codes "oneOrMorePath")) h.0 h.1.0 (h.1.1, h.1.2) (inr (inr (inl refl))) (all_paths h.0 p h.2)
    all_paths n (ZeroOrOne p) h = modified n (sh (codes "zeroOrOnePath")) h.0 h.1.0 (h.1.1, h.1.2) (inr (inr (inr refl))) (all_paths h.0 p h.2)

    all_lists : (n : Term) (ps : Paths) → PathsOf s n ps → Contains lists n
    all_lists n (Last p) h = closed (claims.List n) (h.0, h.1, h.2, all_paths h.0 p h.4, inl h.3)
    all_lists n (Also p ps) h = closed (claims.List n) (h.0, h.1, h.2, all_paths h.0 p h.3, inr (all_lists h.1 ps h.4))

    all_several : (n : Term) (ps : Paths) → AreSeveral ps → PathsOf s n ps → IsSeveral s paths lists n
    all_several n (Last p) a h = absurd a
    all_several n (Also p ps) a h = (h.0, h.1, h.2, all_paths h.0 p h.3, all_lists h.1 ps h.4)

  known_blank : (n : Term) → IsBlank n → IsKnown paths n → Contains paths n
  known_blank n blank h = elim h [ inl i ↦ absurd (no_blank_iri n blank i) | inr c ↦ c ]
    where
      no_blank_iri : (t : Term) → IsBlank t → IsIri t → ⊥
      no_blank_iri (Blank session number) b i = i
      no_blank_iri (Iri text) b i = b
      no_blank_iri (Literal text datatype language) b i = b

  pub path_nodes : AreSound s paths lists → ArePathNodes s paths
  path_nodes sound n = (
    λ c. sound (claims.Path n) c,
    λ h. known_blank n h.0 (all_paths n h.1.0 h.1.1),
  )

-- the nodes that are gathered, with the IRIs, are the paths
pub path_known : (s : List Triple) (nodes : List Term) → ArePathNodes s nodes → (n : Term) → IsKnown nodes n ↔ IsPath s n
path_known s nodes all n = (
  λ h. elim h [ inl i ↦ (Predicate n, (refl, i)) | inr c ↦ ((all n).0 c).1 ],
  λ h. is_known n h.0 h.1,
)
  where
    has_blank : (m : Term) → IsBlank m → (p : Path) → PathOf s m p → IsKnown nodes m
    has_blank m blank p h = inr ((all m).1 (blank, (p, h)))

    is_known : (m : Term) (p : Path) → PathOf s m p → IsKnown nodes m
    is_known m (Predicate p) h = inl h.1
    is_known m (Inverse p) h = has_blank m h.1.0 (Inverse p) h
    is_known m (Sequence ps) h = has_blank m h.0 (Sequence ps) h
    is_known m (Alternative ps) h = has_blank m h.1.0 (Alternative ps) h
    is_known m (ZeroOrMore p) h = has_blank m h.1.0 (ZeroOrMore p) h
    is_known m (OneOrMore p) h = has_blank m h.1.0 (OneOrMore p) h
    is_known m (ZeroOrOne p) h = has_blank m h.1.0 (ZeroOrOne p) h
