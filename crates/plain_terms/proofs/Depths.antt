-- A path of a graph is no deeper than the graph has triples: on the way down to its deepest member each node is the subject of a triple,
-- and no node comes twice, since each stands for one path alone.
use Rattle.std.proofs.Common.{◌≡◌, ℕ, ◌+◌, ◌≤◌, List, [], ◌∷◌, length, map, sym, ap, subst, refl, arith, inl, inr}
use Rattle.std.specs.Prelude.{max, codes}
use Rattle.std.proofs.lemmas.Bool.{cases_lt}
use Rattle.std.proofs.lemmas.List.{length-map}
use Rattle.rdf_model.specs.declared.term.Term.{Term}
use Rattle.rdf_model.specs.declared.triple.Triple.{Triple}
use Rattle.shape_model.specs.Paths.{Path, Paths, Predicate, Inverse, Sequence, Alternative, ZeroOrMore, OneOrMore, ZeroOrOne, Last, Also}
use Rattle.shape_model.specs.Triples.{Has, IsMember}
use Rattle.shape_model.specs.Vocabulary.{sh, rdf_first}
use Rattle.shape_model.specs.ShapeSyntax.{HasAlone, PathOf, PathsOf}
use Rattle.shape_syntax.specs.PathDepth.{IsRead, depth_of, deepest_of}
use Rattle.shape_syntax.proofs.OnePath.{one_path}
use Rattle.shape_syntax.proofs.Pigeonholes.{AreDistinct, no_longer}
use Rattle.shape_syntax.proofs.Scans.{image_of}

module _ (s : List Triple) where
  abbrev Subjects : List Term
  Subjects = map (λ (t : Triple). t.subject) s

  -- distinct subjects, as many as the depth, each of which stands for a path that is no deeper
  record Descends (depth : ℕ) : Type 0 where
    nodes : List Term
    many : length nodes ≡ depth
    distinct : AreDistinct nodes
    subjects : (x : Term) → IsMember nodes x → IsMember Subjects x
    shallow : (x : Term) → IsMember nodes x → (q : Path) × PathOf s x q × (depth_of q ≤ depth)

  one_deeper : (n p v : Term) (q : Path) (depth : ℕ) → Has s n p v → PathOf s n q → depth_of q ≡ depth + 1 → Descends depth → Descends (depth + 1)
  one_deeper n p v q depth has h e d = record {
    nodes = n ∷ d.nodes;
    many = let e : length d.nodes ≡ depth = d.many in omega (arith, e);
    distinct = (
      λ w i same.
          let k = d.shallow w i in
          let other : q ≡ k.0 = one_path s n k.0 q (subst (λ (x : Term). PathOf s x k.0) same k.1) h in
          let le : depth_of k.0 ≤ depth = k.2 in
          let f : depth_of q ≡ depth_of k.0 = ap depth_of other in
          omega (arith, e, f, le),
      d.distinct,
    );
    subjects = λ x i. elim i [ inl f ↦ image_of (λ (t : Triple). t.subject) s (record { subject = n; predicate = p; object = v }) x has f | inr j ↦ d.subjects x j ];
    shallow = λ x i. elim i [
      | inl f ↦ (q, subst (λ (y : Term). PathOf s y q) f h, omega (arith, e))
      | inr j ↦ (let k = d.shallow x j in let le : depth_of k.0 ≤ depth = k.2 in (k.0, k.1, omega (arith, le)))
    ];
  }

  at_depth : (a b : ℕ) → a ≡ b → Descends a → Descends b
  at_depth a b e d = subst (λ (n : ℕ). Descends n) e d

  alone_deeper : (n : Term) (name : List ℕ) (m : Term) (q : Path) (depth : ℕ) → HasAlone s n name m → PathOf s n q → depth_of q ≡ depth + 1 → Descends depth → Descends (depth_of q)
  alone_deeper n name m q depth a h e d = at_depth (depth + 1) (depth_of q) (sym e) (one_deeper n (sh name) m q depth a.1 h e d)

  -- a list of paths has a first member
  list_subject : (n : Term) (ps : Paths) → PathsOf s n ps → (v : Term) × Has s n rdf_first v
  list_subject n (Last p) h = (h.0, h.2.0.0)
  list_subject n (Also p ps) h = (h.0, h.2.0.0)

  mutual
    descends : (n : Term) (q : Path) → PathOf s n q → Descends (depth_of q)
    descends n (Predicate p) h = record { nodes = []; many = refl; distinct = tt; subjects = λ x i. absurd i; shallow = λ x i. absurd i }
    descends n (Inverse q) h = alone_deeper n (codes "inversePath") h.0 (Inverse q) (depth_of q) h.1 h refl (descends h.0 q h.2)
    descends n (Sequence qs) h = let k = list_subject n qs h.2 in one_deeper n rdf_first k.0 (Sequence qs) (deepest_of qs) k.1 h refl (descends_list n qs h.2)
    descends n (Alternative qs) h = alone_deeper n (codes "alternativePath") h.0 (Alternative qs) (deepest_of qs) h.1 h refl (descends_list h.0 qs h.3)
    descends n (ZeroOrMore q) h = alone_deeper n (codes "zeroOrMorePath") h.0 (ZeroOrMore q) (depth_of q) h.1 h refl (descends h.0 q h.2)
    descends n (OneOrMore q) h = alone_deeper n (codes "oneOrMorePath") h.0 (OneOrMore q) (depth_of q) h.1 h refl (descends h.0 q h.2)
    descends n (ZeroOrOne q) h = alone_deeper n (codes "zeroOrOnePath") h.0 (ZeroOrOne q) (depth_of q) h.1 h refl (descends h.0 q h.2)

    descends_list : (n : Term) (ps : Paths) → PathsOf s n ps → Descends (deepest_of ps)
    descends_list n (Last p) h = descends h.0 p h.4
    descends_list n (Also p ps) h =
        let first = descends h.0 p h.3 in
        let rest = descends_list h.1 ps h.4 in
        elim (cases_lt (depth_of p) (deepest_of ps)) [
          | inl le ↦ at_depth (deepest_of ps) (max (depth_of p) (deepest_of ps)) (omega (arith, le)) rest
          | inr le ↦ at_depth (depth_of p) (max (depth_of p) (deepest_of ps)) (omega (arith, le)) first
        ]

  pub read_whole : (n : Term) (p : Path) → PathOf s n p → IsRead s n (length s) p
  read_whole n p h =
      let d = descends n p h in
      let le : length d.nodes ≤ length Subjects = no_longer d.nodes Subjects d.distinct d.subjects in
      let e : length Subjects ≡ length s = length-map s (λ (t : Triple). t.subject) in
      (h, omega (arith, d.many, le, e))
