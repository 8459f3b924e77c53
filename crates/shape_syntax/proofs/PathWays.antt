-- A blank node that stands for a path does so in one way, and reading it is reading what that way leads to.
use Rattle.std.proofs.Common.{◌≡◌, ◌∙◌, ℕ, ◌+◌, ◌<◌, ◌≤◌, List, [], ◌∷◌, ◌++◌, length, true, false, refl, sym, ap, subst, arith, inl, inr, codes}
use Rattle.std.specs.Prelude.{bytes_eq}
use Rattle.rdf_model.specs.declared.term.Term.{Term}
use Rattle.rdf_model.specs.declared.term.Term.TheVariants.{Blank, Iri, Literal}
use Rattle.rdf_model.specs.declared.triple.Triple.{Triple}
use Rattle.shape_model.specs.Vocabulary.{sh, rdf, rdf_first, rdf_rest}
use Rattle.shape_model.specs.Triples.{IsBlank, IsIri, IsMember}
use Rattle.shape_model.specs.Paths.{Path, Predicate, Inverse, Sequence, Alternative, ZeroOrMore, OneOrMore, ZeroOrOne, Paths, Last, Also, AreSeveral}
use Rattle.shape_model.specs.ShapeSyntax.{IsCell, ListOf, HasAlone, PathOf, PathsOf}
use Rattle.path_ast.specs.PathReadings.{members}
use Rattle.shape_syntax.specs.declared.way.PathModifier.{PathModifier}
use Rattle.shape_syntax.specs.declared.way.PathModifier.TheVariants as modifiers
use Rattle.shape_syntax.specs.PathNodes.{IsPath}
use Rattle.shape_syntax.specs.PathSteps.{IsAlone}
use Rattle.shape_syntax.specs.PathDepth.{IsRead, IsDeep, depth_of, deepest_of}
use Rattle.shape_syntax.specs.PathWays.{modifier_name, modified, IsPathList, AreReadPaths, AreDeep, AreRead}

-- names that differ
append_left : (xs ys zs : List ℕ) → xs ++ ys ≡ xs ++ zs → ys ≡ zs
append_left [] ys zs e = e
append_left (x ∷ xs) ys zs e = let d : xs ++ ys ≡ xs ++ zs = cc in append_left xs ys zs d

pub sh_exact : (a b : List ℕ) → sh a ≡ sh b → a ≡ b
unfolding sh
sh_exact a b e = let d : codes "http://www.w3.org/ns/shacl#" ++ a ≡ codes "http://www.w3.org/ns/shacl#" ++ b = cc in append_left (codes "http://www.w3.org/ns/shacl#") a b d

first_not_rest : rdf_first ≡ rdf_rest → ⊥
unfolding rdf rdf_first rdf_rest
first_not_rest e =
    let space = codes "http://www.w3.org/1999/02/22-rdf-syntax-ns#" in
    let d : space ++ codes "first" ≡ space ++ codes "rest" = cc in
    let f : codes "first" ≡ codes "rest" = append_left space (codes "first") (codes "rest") d in
    let g : true ≡ false = ap (λ (x : List ℕ). bytes_eq (codes "first") x) f in
    cc

pub modifiers_no_alternative : (modifier : PathModifier) → codes "alternativePath" ≡ modifier_name modifier → ⊥
modifiers_no_alternative modifiers.Inverse e = let g : true ≡ false = ap (λ (x : List ℕ). bytes_eq (codes "alternativePath") x) e in cc
modifiers_no_alternative modifiers.ZeroOrMore e = let g : true ≡ false = ap (λ (x : List ℕ). bytes_eq (codes "alternativePath") x) e in cc
modifiers_no_alternative modifiers.OneOrMore e = let g : true ≡ false = ap (λ (x : List ℕ). bytes_eq (codes "alternativePath") x) e in cc
modifiers_no_alternative modifiers.ZeroOrOne e = let g : true ≡ false = ap (λ (x : List ℕ). bytes_eq (codes "alternativePath") x) e in cc

pub no_blank_iri : (t : Term) → IsBlank t → IsIri t → ⊥
no_blank_iri (Blank session number) b i = i
no_blank_iri (Iri text) b i = b
no_blank_iri (Literal text datatype language) b i = b

no_list_alone : (s : List Triple) (n p m : Term) → IsAlone s n p m → (a b : Term) → IsCell s n a b → ⊥
no_list_alone s n p m alone a b cell = first_not_rest ((alone.1 rdf_first a cell.0.0).0 ∙ sym (alone.1 rdf_rest b cell.1.0).0)

pub no_paths_alone : (s : List Triple) (n p m : Term) → IsAlone s n p m → (ps : Paths) → PathsOf s n ps → ⊥
no_paths_alone s n p m alone (Last q) h = no_list_alone s n p m alone h.0 h.1 h.2
no_paths_alone s n p m alone (Also q qs) h = no_list_alone s n p m alone h.0 h.1 h.2

-- What the one triple of a path leads to is the path that it modifies, or the list of those that it offers.
module _ (s : List Triple) (n p m : Term) (alone : IsAlone s n p m) (blank : IsBlank n) where
  at_name : (name : List ℕ) (v : Term) → HasAlone s n name v → (sh name ≡ p) × (v ≡ m)
  at_name name v h = alone.1 (sh name) v h.1

  modified_at : (modifier : PathModifier) → p ≡ sh (modifier_name modifier) → (q : Path) → PathOf s n q → IsPath s m
  modified_at modifier e (Predicate q) h = absurd (no_blank_iri n blank h.1)
  modified_at modifier e (Inverse q) h = (q, subst (λ (x : Term). PathOf s x q) (at_name (codes "inversePath") h.0 h.1).1 h.2)
  modified_at modifier e (Sequence qs) h = absurd (no_paths_alone s n p m alone qs h.2)
  modified_at modifier e (Alternative qs) h = absurd (modifiers_no_alternative modifier (sh_exact (codes "alternativePath") (modifier_name modifier) ((at_name (codes "alternativePath") h.0 h.1).0 ∙ e)))
  modified_at modifier e (ZeroOrMore q) h = (q, subst (λ (x : Term). PathOf s x q) (at_name (codes "zeroOrMorePath") h.0 h.1).1 h.2)
  modified_at modifier e (OneOrMore q) h = (q, subst (λ (x : Term). PathOf s x q) (at_name (codes "oneOrMorePath") h.0 h.1).1 h.2)
  modified_at modifier e (ZeroOrOne q) h = (q, subst (λ (x : Term). PathOf s x q) (at_name (codes "zeroOrOnePath") h.0 h.1).1 h.2)

  pub modified_inner : (modifier : PathModifier) → p ≡ sh (modifier_name modifier) → IsPath s n → IsPath s m
  modified_inner modifier e h = modified_at modifier e h.0 h.1

  offered_at : ((modifier : PathModifier) → p ≡ sh (modifier_name modifier) → ⊥) → (q : Path) → PathOf s n q → (p ≡ sh (codes "alternativePath")) × IsPathList s m
  offered_at never (Predicate q) h = absurd (no_blank_iri n blank h.1)
  offered_at never (Inverse q) h = absurd (never modifiers.Inverse (sym (at_name (codes "inversePath") h.0 h.1).0))
  offered_at never (Sequence qs) h = absurd (no_paths_alone s n p m alone qs h.2)
  offered_at never (Alternative qs) h = let same = at_name (codes "alternativePath") h.0 h.1 in (sym same.0, (qs, h.2, subst (λ (x : Term). PathsOf s x qs) same.1 h.3))
  offered_at never (ZeroOrMore q) h = absurd (never modifiers.ZeroOrMore (sym (at_name (codes "zeroOrMorePath") h.0 h.1).0))
  offered_at never (OneOrMore q) h = absurd (never modifiers.OneOrMore (sym (at_name (codes "oneOrMorePath") h.0 h.1).0))
  offered_at never (ZeroOrOne q) h = absurd (never modifiers.ZeroOrOne (sym (at_name (codes "zeroOrOnePath") h.0 h.1).0))

  pub offered_inner : ((modifier : PathModifier) → p ≡ sh (modifier_name modifier) → ⊥) → IsPath s n → IsPathList s m
  offered_inner never h = (offered_at never h.0 h.1).1

  named : (name : List ℕ) → p ≡ sh name → HasAlone s n name m
  named name e = let a = subst (λ (x : Term). IsAlone s n x m) e alone in (blank, a.0, a.1)

  pub modified_read : (levels : ℕ) (modifier : PathModifier) → p ≡ sh (modifier_name modifier) → (q : Path) → IsRead s m levels q → IsRead s n (levels + 1) (modified modifier q)
  modified_read levels modifiers.Inverse e q r = let le : depth_of q ≤ levels = r.1 in ((m, named (codes "inversePath") e, r.0), omega arith)
  modified_read levels modifiers.ZeroOrMore e q r = let le : depth_of q ≤ levels = r.1 in ((m, named (codes "zeroOrMorePath") e, r.0), omega arith)
  modified_read levels modifiers.OneOrMore e q r = let le : depth_of q ≤ levels = r.1 in ((m, named (codes "oneOrMorePath") e, r.0), omega arith)
  modified_read levels modifiers.ZeroOrOne e q r = let le : depth_of q ≤ levels = r.1 in ((m, named (codes "zeroOrOnePath") e, r.0), omega arith)

  pub modified_deep : (levels : ℕ) (modifier : PathModifier) → p ≡ sh (modifier_name modifier) → IsDeep s m levels → IsDeep s n (levels + 1)
  modified_deep levels modifiers.Inverse e r = let lt : levels < depth_of r.0 = r.2 in (Inverse r.0, (m, named (codes "inversePath") e, r.1), omega arith)
  modified_deep levels modifiers.ZeroOrMore e r = let lt : levels < depth_of r.0 = r.2 in (ZeroOrMore r.0, (m, named (codes "zeroOrMorePath") e, r.1), omega arith)
  modified_deep levels modifiers.OneOrMore e r = let lt : levels < depth_of r.0 = r.2 in (OneOrMore r.0, (m, named (codes "oneOrMorePath") e, r.1), omega arith)
  modified_deep levels modifiers.ZeroOrOne e r = let lt : levels < depth_of r.0 = r.2 in (ZeroOrOne r.0, (m, named (codes "zeroOrOnePath") e, r.1), omega arith)

  pub offered_read : (levels : ℕ) → ((modifier : PathModifier) → p ≡ sh (modifier_name modifier) → ⊥) → IsPath s n → (qs : Paths) → AreReadPaths s m levels qs → IsRead s n (levels + 1) (Alternative qs)
  offered_read levels never h qs r = let le : deepest_of qs ≤ levels = r.2 in ((m, named (codes "alternativePath") (offered_at never h.0 h.1).0, r.0, r.1), omega arith)

  pub offered_deep : (levels : ℕ) → ((modifier : PathModifier) → p ≡ sh (modifier_name modifier) → ⊥) → IsPath s n → AreDeep s m levels → IsDeep s n (levels + 1)
  offered_deep levels never h r = let lt : levels < deepest_of r.0 = r.3 in (Alternative r.0, (m, named (codes "alternativePath") (offered_at never h.0 h.1).0, r.1, r.2), omega arith)

-- a path whose node isn't the subject of one triple alone is a sequence
listed_at : (s : List Triple) (n : Term) → IsBlank n → ((p v : Term) → IsAlone s n p v → ⊥) → (q : Path) → PathOf s n q → IsPathList s n
listed_at s n blank never (Predicate q) h = absurd (no_blank_iri n blank h.1)
listed_at s n blank never (Inverse q) h = absurd (never (sh (codes "inversePath")) h.0 (h.1.1, h.1.2))
listed_at s n blank never (Sequence qs) h = (qs, h.1, h.2)
listed_at s n blank never (Alternative qs) h = absurd (never (sh (codes "alternativePath")) h.0 (h.1.1, h.1.2))
listed_at s n blank never (ZeroOrMore q) h = absurd (never (sh (codes "zeroOrMorePath")) h.0 (h.1.1, h.1.2))
listed_at s n blank never (OneOrMore q) h = absurd (never (sh (codes "oneOrMorePath")) h.0 (h.1.1, h.1.2))
listed_at s n blank never (ZeroOrOne q) h = absurd (never (sh (codes "zeroOrOnePath")) h.0 (h.1.1, h.1.2))

pub listed_inner : (s : List Triple) (n : Term) → IsBlank n → ((p v : Term) → IsAlone s n p v → ⊥) → IsPath s n → IsPathList s n
listed_inner s n blank never h = listed_at s n blank never h.0 h.1

pub listed_read : (s : List Triple) (n : Term) (levels : ℕ) → IsBlank n → (qs : Paths) → AreReadPaths s n levels qs → IsRead s n (levels + 1) (Sequence qs)
listed_read s n levels blank qs r = let le : deepest_of qs ≤ levels = r.2 in ((blank, r.0, r.1), omega arith)

pub listed_deep : (s : List Triple) (n : Term) (levels : ℕ) → IsBlank n → AreDeep s n levels → IsDeep s n (levels + 1)
listed_deep s n levels blank r = let lt : levels < deepest_of r.0 = r.3 in (Sequence r.0, (blank, r.1, r.2), omega arith)

-- a blank node stands for no predicate, so that each of its paths is at depth 1 at least
deep_blank : (s : List Triple) (n : Term) → (IsIri n → ⊥) → (p : Path) → PathOf s n p → 0 < depth_of p
deep_blank s n never (Predicate p) h = absurd (never h.1)
deep_blank s n never (Inverse p) h = omega arith
deep_blank s n never (Sequence ps) h = omega arith
deep_blank s n never (Alternative ps) h = omega arith
deep_blank s n never (ZeroOrMore p) h = omega arith
deep_blank s n never (OneOrMore p) h = omega arith
deep_blank s n never (ZeroOrOne p) h = omega arith

pub deep_at_none : (s : List Triple) (n : Term) (levels : ℕ) → levels ≡ 0 → (IsIri n → ⊥) → IsPath s n → IsDeep s n levels
deep_at_none s n levels e never h = let lt : 0 < depth_of h.0 = deep_blank s n never h.0 h.1 in (h.0, h.1, omega arith)

-- a node that stands for a path and is no IRI is blank
blank_at : (s : List Triple) (n : Term) → (IsIri n → ⊥) → (p : Path) → PathOf s n p → IsBlank n
blank_at s n never (Predicate p) h = absurd (never h.1)
blank_at s n never (Inverse p) h = h.1.0
blank_at s n never (Sequence ps) h = h.0
blank_at s n never (Alternative ps) h = h.1.0
blank_at s n never (ZeroOrMore p) h = h.1.0
blank_at s n never (OneOrMore p) h = h.1.0
blank_at s n never (ZeroOrOne p) h = h.1.0

pub blank_path : (s : List Triple) (n : Term) → (IsIri n → ⊥) → IsPath s n → IsBlank n
blank_path s n never h = blank_at s n never h.0 h.1

-- The members of a list of paths
list_nodes : (s : List Triple) (n : Term) (ps : Paths) → PathsOf s n ps → (ms : List Term) × ListOf s n ms × ((m : Term) → IsMember ms m → IsPath s m) × (1 ≤ length ms)
list_nodes s n (Last p) h = (h.0 ∷ [], (h.1, h.2, h.3), (λ m i. elim i [ inl e ↦ subst (λ (x : Term). IsPath s x) e (p, h.4) | inr j ↦ absurd j ]), omega arith)
list_nodes s n (Also p ps) h =
    let rest = list_nodes s h.1 ps h.4 in
    (h.0 ∷ rest.0, (h.1, h.2, rest.1), (λ m i. elim i [ inl e ↦ subst (λ (x : Term). IsPath s x) e (p, h.3) | inr j ↦ rest.2 m j ]), omega arith)

several_nodes : (s : List Triple) (n : Term) (ps : Paths) → AreSeveral ps → PathsOf s n ps → (ms : List Term) × ListOf s n ms × ((m : Term) → IsMember ms m → IsPath s m) × (2 ≤ length ms)
several_nodes s n (Last p) a h = absurd a
several_nodes s n (Also p ps) a h =
    let rest = list_nodes s h.1 ps h.4 in
    let long : 1 ≤ length rest.0 = rest.3 in
    (h.0 ∷ rest.0, (h.1, h.2, rest.1), (λ m i. elim i [ inl e ↦ subst (λ (x : Term). IsPath s x) e (p, h.3) | inr j ↦ rest.2 m j ]), omega arith)

pub path_nodes_of : (s : List Triple) (n : Term) → IsPathList s n → (ms : List Term) × ListOf s n ms × ((m : Term) → IsMember ms m → IsPath s m) × (2 ≤ length ms)
path_nodes_of s n h = several_nodes s n h.0 h.1 h.2

-- Paths that are read, member by member
pub read_push : (s : List Triple) (ns : List Term) (levels : ℕ) (ps : List Path) (n : Term) (p : Path) → AreRead s ns levels ps → IsRead s n levels p → AreRead s (ns ++ n ∷ []) levels (ps ++ p ∷ [])
read_push s [] levels [] n p a r = (r, tt)
read_push s [] levels (q ∷ ps) n p a r = absurd a
read_push s (m ∷ ns) levels [] n p a r = absurd a
read_push s (m ∷ ns) levels (q ∷ ps) n p a r = (a.0, read_push s ns levels ps n p a.1 r)

read_paths : (s : List Triple) (n : Term) (ms : List Term) (levels : ℕ) (p : Path) (ps : List Path) → ListOf s n ms → AreRead s ms levels (p ∷ ps) → PathsOf s n (members p ps) × (deepest_of (members p ps) ≤ levels)
read_paths s n [] levels p ps l a = absurd a
read_paths s n (m ∷ []) levels p [] l a = ((m, l.0, l.1, l.2, a.0.0), a.0.1)
read_paths s n (m ∷ []) levels p (q ∷ ps) l a = absurd a.1
read_paths s n (m ∷ o ∷ ms) levels p [] l a = absurd a.1
read_paths s n (m ∷ o ∷ ms) levels p (q ∷ ps) l a =
    let rest = read_paths s l.0 (o ∷ ms) levels q ps l.2 a.1 in
    let first : depth_of p ≤ levels = a.0.1 in
    let others : deepest_of (members q ps) ≤ levels = rest.1 in
    ((m, l.0, l.1, a.0.0, rest.0), omega arith)

pub list_read : (s : List Triple) (n : Term) (ms : List Term) (levels : ℕ) (p : Path) (ps : List Path) → 2 ≤ length ms → ListOf s n ms → AreRead s ms levels (p ∷ ps) → AreReadPaths s n levels (members p ps)
list_read s n [] levels p ps long l a = absurd a
list_read s n (m ∷ []) levels p ps long l a = absurd (omega arith)
list_read s n (m ∷ o ∷ ms) levels p [] long l a = absurd a.1
list_read s n (m ∷ o ∷ ms) levels p (q ∷ ps) long l a = let h = read_paths s n (m ∷ o ∷ ms) levels p (q ∷ ps) l a in (tt, h.0, h.1)

any_paths : (s : List Triple) (n : Term) (m : Term) (ms : List Term) → ListOf s n (m ∷ ms) → ((x : Term) → IsMember (m ∷ ms) x → IsPath s x) → (ps : Paths) × PathsOf s n ps
any_paths s n m [] l all = let p = all m (inl refl) in (Last p.0, (m, l.0, l.1, l.2, p.1))
any_paths s n m (o ∷ ms) l all =
    let p = all m (inl refl) in
    let rest = any_paths s l.0 o ms l.2 (λ x i. all x (inr i)) in
    (Also p.0 rest.0, (m, l.0, l.1, p.1, rest.1))

deep_paths : (s : List Triple) (n : Term) (m : Term) (ms : List Term) (levels : ℕ) → ListOf s n (m ∷ ms) → ((x : Term) → IsMember (m ∷ ms) x → IsPath s x) → (d : Term) → IsMember (m ∷ ms) d → IsDeep s d levels → (ps : Paths) × PathsOf s n ps × (levels < deepest_of ps)
deep_paths s n m [] levels l all d i deep = elim i [
  | inl e ↦ (let p = subst (λ (x : Term). IsDeep s x levels) (sym e) deep in (Last p.0, (m, l.0, l.1, l.2, p.1), p.2))
  | inr j ↦ absurd j
]
deep_paths s n m (o ∷ ms) levels l all d i deep = elim i [
  | inl e ↦ (
      let p = subst (λ (x : Term). IsDeep s x levels) (sym e) deep in
      let rest = any_paths s l.0 o ms l.2 (λ x k. all x (inr k)) in
      let lt : levels < depth_of p.0 = p.2 in
      (Also p.0 rest.0, (m, l.0, l.1, p.1, rest.1), omega arith)
      )
  | inr j ↦ (
      let p = all m (inl refl) in
      let rest = deep_paths s l.0 o ms levels l.2 (λ x k. all x (inr k)) d j deep in
      let lt : levels < deepest_of rest.0 = rest.2 in
      (Also p.0 rest.0, (m, l.0, l.1, p.1, rest.1), omega arith)
      )
]

pub list_deep : (s : List Triple) (n : Term) (ms : List Term) (levels : ℕ) → 2 ≤ length ms → ListOf s n ms → ((x : Term) → IsMember ms x → IsPath s x) → (d : Term) → IsMember ms d → IsDeep s d levels → AreDeep s n levels
list_deep s n [] levels long l all d i deep = absurd (omega arith)
list_deep s n (m ∷ []) levels long l all d i deep = absurd (omega arith)
list_deep s n (m ∷ o ∷ ms) levels long l all d i deep = elim i [
  | inl e ↦ (
      let p = subst (λ (x : Term). IsDeep s x levels) (sym e) deep in
      let rest = any_paths s l.0 o ms l.2 (λ x k. all x (inr k)) in
      let lt : levels < depth_of p.0 = p.2 in
      (Also p.0 rest.0, tt, (m, l.0, l.1, p.1, rest.1), omega arith)
      )
  | inr j ↦ (
      let p = all m (inl refl) in
      let rest = deep_paths s l.0 o ms levels l.2 (λ x k. all x (inr k)) d j deep in
      let lt : levels < deepest_of rest.0 = rest.2 in
      (Also p.0 rest.0, tt, (m, l.0, l.1, p.1, rest.1), omega arith)
      )
]
