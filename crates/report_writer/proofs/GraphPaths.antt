-- The text at a node that stands for a path is the text of the path.
use Rattle.std.proofs.Common.{◌≡◌, ◌∙◌, ℕ, zero, suc, ◌+◌, ◌<◌, ◌≤◌, List, [], ◌∷◌, ◌++◌, length, get_or, map, true, false, max, refl, sym, ap, subst, arith, append-nil, codes}
use Rattle.std.specs.Prelude.{bytes_eq, nat_eq}
use Rattle.std.specs.List.{flat_map}
use Rattle.rdf_model.specs.declared.term.Term.{Term}
use Rattle.rdf_model.specs.declared.term.Term.TheVariants.{Blank, Iri, Literal}
use Rattle.rdf_model.specs.declared.triple.Triple.{Triple}
use Rattle.rdf_model.specs.NTriples.{term_text}
use Rattle.shape_model.specs.Declarations.{values_of}
use Rattle.shape_model.specs.Paths.{Path, Predicate, Inverse, Sequence, Alternative, ZeroOrMore, OneOrMore, ZeroOrOne, Paths, Last, Also}
use Rattle.shape_model.specs.ShapeSyntax.{HasAlone, ListOf, PathOf, PathsOf}
use Rattle.shape_model.specs.Triples.{HasNone, IsBlank, IsIri}
use Rattle.shape_model.specs.Vocabulary.{rdf, rdf_first, rdf_rest, sh}
use Rattle.shape_syntax.specs.PathDepth.{deepest_of, depth_of}
use Rattle.shape_syntax.proofs.Lists.{list_short}
use Rattle.shape_syntax.proofs.PathWays.{sh_exact}
use Rattle.report_writer.specs.GraphPaths.{first_text, iri_texts, joined_texts, list_texts, members_at, node_texts, path_text_at, property_texts, text_of_members}
use Rattle.report_writer.specs.PathTexts.{list_text, members_text, node_text, path_text}
use Rattle.report_writer.proofs.GraphValues.{no_values, only_value}

-- the members of a list
no_members : (s : List Triple) (n : Term) (count : ℕ) → HasNone s n rdf_first → HasNone s n rdf_rest → members_at count s n ≡ []
no_members s n zero first rest = refl
no_members s n (suc count) first rest =
    ap (λ (ms : List Term). ms ++ flat_map (members_at count s) (values_of s n rdf_rest)) (no_values s n rdf_first first)
    ∙ ap (flat_map (members_at count s)) (no_values s n rdf_rest rest)

list_members : (s : List Triple) (n : Term) (ms : List Term) (count : ℕ) → ListOf s n ms → length ms ≤ count → members_at count s n ≡ ms
list_members s n [] count l le = no_members s n count l.1 l.2
list_members s n (m ∷ ms) zero l le = absurd (omega (arith, le))
list_members s n (m ∷ ms) (suc count) l le =
    let long : suc (length ms) ≤ suc count = le in
    let rest : members_at count s l.0 ≡ ms = list_members s l.0 ms count l.2 (omega (arith, long)) in
    ap (λ (firsts : List Term). firsts ++ flat_map (members_at count s) (values_of s n rdf_rest)) (only_value s n rdf_first m l.1.0)
    ∙ ap (λ (rests : List Term). m ∷ flat_map (members_at count s) rests) (only_value s n rdf_rest l.0 l.1.1)
    ∙ ap (λ (others : List Term). m ∷ others) (append-nil (members_at count s l.0) ∙ rest)

-- words that differ
first_apart : (name : List ℕ) → rdf_first ≡ sh name → ⊥
unfolding sh rdf rdf_first
first_apart name e =
    let d : codes "http://www.w3.org/1999/02/22-rdf-syntax-ns#" ++ codes "first" ≡ codes "http://www.w3.org/ns/shacl#" ++ name = cc in
    let g : true ≡ false = ap (λ (x : List ℕ). nat_eq (get_or x 18 0) 49) d in
    cc

rest_apart : (name : List ℕ) → rdf_rest ≡ sh name → ⊥
unfolding sh rdf rdf_rest
rest_apart name e =
    let d : codes "http://www.w3.org/1999/02/22-rdf-syntax-ns#" ++ codes "rest" ≡ codes "http://www.w3.org/ns/shacl#" ++ name = cc in
    let g : true ≡ false = ap (λ (x : List ℕ). nat_eq (get_or x 18 0) 49) d in
    cc

blank_no_iri : (n : Term) → IsBlank n → iri_texts n ≡ []
blank_no_iri (Blank session number) b = refl
blank_no_iri (Iri iri) b = absurd b
blank_no_iri (Literal lexical datatype language) b = absurd b

iri_text : (text : Term → List ℕ) (s : List Triple) (n : Term) → IsIri n → first_text (node_texts text s n) ≡ term_text n
iri_text text s (Blank session number) i = absurd i
iri_text text s (Iri iri) i = refl
iri_text text s (Literal lexical datatype language) i = absurd i

-- a node with one triple, of this property of SHACL
module _ (s : List Triple) (n : Term) (name : List ℕ) (m : Term) (alone : HasAlone s n name m) where
  no_list : (text : Term → List ℕ) → list_texts text s n ≡ []
  no_list text = ap (text_of_members text) (no_members s n (length s) (λ v h. first_apart name (alone.2 rdf_first v h).0) (λ v h. rest_apart name (alone.2 rdf_rest v h).0))

  own : (text : Term → List ℕ) → property_texts text s n name ≡ node_text (codes "sh:" ++ name) (text m) ∷ []
  own text = ap (map (λ (v : Term). node_text (codes "sh:" ++ name) (text v))) (only_value s n (sh name) m (alone.1, λ w h. (alone.2 (sh name) w h).1))

  other : (text : Term → List ℕ) (word : List ℕ) → bytes_eq name word ≡ false → bytes_eq name name ≡ true → property_texts text s n word ≡ []
  other text word differs same =
      ap (map (λ (v : Term). node_text (codes "sh:" ++ word) (text v)))
      (no_values s n (sh word) (λ v h. let e : word ≡ name = sh_exact word name (alone.2 (sh word) v h).0 in let d : bytes_eq name word ≡ true = subst (λ (w : List ℕ). bytes_eq name w ≡ true) (sym e) same in cc (d, differs)))

-- the text of its one value is that of the node
module _ (text : Term → List ℕ) (s : List Triple) (n m : Term) where
  abbrev value_list : Term → List ℕ
  value_list v = first_text (list_texts text s v)

  inverse_text : HasAlone s n (codes "inversePath") m → first_text (node_texts text s n) ≡ node_text (codes "sh:inversePath") (text m)
  inverse_text a =
      let name = codes "inversePath" in
      λ i. first_text (blank_no_iri n a.0 i ++ no_list s n name m a text i ++ own s n name m a text i
      ++ property_texts value_list s n (codes "alternativePath") ++ property_texts text s n (codes "zeroOrMorePath")
      ++ property_texts text s n (codes "oneOrMorePath") ++ property_texts text s n (codes "zeroOrOnePath"))

  alternative_text : HasAlone s n (codes "alternativePath") m → first_text (node_texts text s n) ≡ node_text (codes "sh:alternativePath") (value_list m)
  alternative_text a =
      let name = codes "alternativePath" in
      λ i. first_text (blank_no_iri n a.0 i ++ no_list s n name m a text i ++ other s n name m a text (codes "inversePath") refl refl i
      ++ own s n name m a value_list i ++ property_texts text s n (codes "zeroOrMorePath")
      ++ property_texts text s n (codes "oneOrMorePath") ++ property_texts text s n (codes "zeroOrOnePath"))

  zero_or_more_text : HasAlone s n (codes "zeroOrMorePath") m → first_text (node_texts text s n) ≡ node_text (codes "sh:zeroOrMorePath") (text m)
  zero_or_more_text a =
      let name = codes "zeroOrMorePath" in
      λ i. first_text (blank_no_iri n a.0 i ++ no_list s n name m a text i ++ other s n name m a text (codes "inversePath") refl refl i
      ++ other s n name m a value_list (codes "alternativePath") refl refl i ++ own s n name m a text i
      ++ property_texts text s n (codes "oneOrMorePath") ++ property_texts text s n (codes "zeroOrOnePath"))

  one_or_more_text : HasAlone s n (codes "oneOrMorePath") m → first_text (node_texts text s n) ≡ node_text (codes "sh:oneOrMorePath") (text m)
  one_or_more_text a =
      let name = codes "oneOrMorePath" in
      λ i. first_text (blank_no_iri n a.0 i ++ no_list s n name m a text i ++ other s n name m a text (codes "inversePath") refl refl i
      ++ other s n name m a value_list (codes "alternativePath") refl refl i ++ other s n name m a text (codes "zeroOrMorePath") refl refl i
      ++ own s n name m a text i ++ property_texts text s n (codes "zeroOrOnePath"))

  zero_or_one_text : HasAlone s n (codes "zeroOrOnePath") m → first_text (node_texts text s n) ≡ node_text (codes "sh:zeroOrOnePath") (text m)
  zero_or_one_text a =
      let name = codes "zeroOrOnePath" in
      λ i. first_text (blank_no_iri n a.0 i ++ no_list s n name m a text i ++ other s n name m a text (codes "inversePath") refl refl i
      ++ other s n name m a value_list (codes "alternativePath") refl refl i ++ other s n name m a text (codes "zeroOrMorePath") refl refl i
      ++ other s n name m a text (codes "oneOrMorePath") refl refl i ++ own s n name m a text i)

  sequence_text : (t : List ℕ) → IsBlank n → list_texts text s n ≡ t ∷ [] → first_text (node_texts text s n) ≡ t
  sequence_text t blank e =
      λ i. first_text (blank_no_iri n blank i ++ e i ++ property_texts text s n (codes "inversePath")
      ++ property_texts value_list s n (codes "alternativePath") ++ property_texts text s n (codes "zeroOrMorePath")
      ++ property_texts text s n (codes "oneOrMorePath") ++ property_texts text s n (codes "zeroOrOnePath"))

-- the text of a list whose members have these texts
listed_text : (text : Term → List ℕ) (s : List Triple) (n m : Term) (ms : List Term) (t : List ℕ) → ListOf s n (m ∷ ms) → joined_texts text m ms ≡ t → list_texts text s n ≡ list_text t ∷ []
listed_text text s n m ms t l e =
    ap (text_of_members text) (list_members s n (m ∷ ms) (length s) l (list_short s n (m ∷ ms) l))
    ∙ ap (λ (joined : List ℕ). list_text joined ∷ []) e

mutual
  pub path_law : (p : Path) (levels : ℕ) (s : List Triple) (n : Term) → PathOf s n p → depth_of p < levels → path_text_at levels s n ≡ path_text p
  path_law p zero s n h less = absurd (omega (arith, less))
  path_law (Predicate p) (suc levels) s n h less = iri_text (path_text_at levels s) s n h.1 ∙ ap term_text h.0
  path_law (Inverse p) (suc levels) s n h less =
      let deep : depth_of p + 1 < suc levels = less in
      inverse_text (path_text_at levels s) s n h.0 h.1 ∙ ap (node_text (codes "sh:inversePath")) (path_law p levels s h.0 h.2 (omega (arith, deep)))
  path_law (Sequence ps) (suc levels) s n h less =
      let deep : deepest_of ps + 1 < suc levels = less in
      let k = paths_law ps levels s n h.2 (omega (arith, deep)) in
      sequence_text (path_text_at levels s) s n n (list_text (members_text ps)) h.0 (listed_text (path_text_at levels s) s n k.0 k.1 (members_text ps) k.2 k.3)
  path_law (Alternative ps) (suc levels) s n h less =
      let deep : deepest_of ps + 1 < suc levels = less in
      let k = paths_law ps levels s h.0 h.3 (omega (arith, deep)) in
      alternative_text (path_text_at levels s) s n h.0 h.1
      ∙ ap (λ (ts : List (List ℕ)). node_text (codes "sh:alternativePath") (first_text ts)) (listed_text (path_text_at levels s) s h.0 k.0 k.1 (members_text ps) k.2 k.3)
  path_law (ZeroOrMore p) (suc levels) s n h less =
      let deep : depth_of p + 1 < suc levels = less in
      zero_or_more_text (path_text_at levels s) s n h.0 h.1 ∙ ap (node_text (codes "sh:zeroOrMorePath")) (path_law p levels s h.0 h.2 (omega (arith, deep)))
  path_law (OneOrMore p) (suc levels) s n h less =
      let deep : depth_of p + 1 < suc levels = less in
      one_or_more_text (path_text_at levels s) s n h.0 h.1 ∙ ap (node_text (codes "sh:oneOrMorePath")) (path_law p levels s h.0 h.2 (omega (arith, deep)))
  path_law (ZeroOrOne p) (suc levels) s n h less =
      let deep : depth_of p + 1 < suc levels = less in
      zero_or_one_text (path_text_at levels s) s n h.0 h.1 ∙ ap (node_text (codes "sh:zeroOrOnePath")) (path_law p levels s h.0 h.2 (omega (arith, deep)))

  -- the nodes of a list of paths have the texts of the paths
  paths_law : (ps : Paths) (levels : ℕ) (s : List Triple) (n : Term) → PathsOf s n ps → deepest_of ps < levels → (m : Term) × (ms : List Term) × ListOf s n (m ∷ ms) × (joined_texts (path_text_at levels s) m ms ≡ members_text ps)
  paths_law (Last p) levels s n h less = (h.0, [], (h.1, h.2, h.3), path_law p levels s h.0 h.4 less)
  paths_law (Also p ps) levels s n h less =
      let deep : max (depth_of p) (deepest_of ps) < levels = less in
      let first = path_law p levels s h.0 h.3 (omega (arith, deep)) in
      let rest = paths_law ps levels s h.1 h.4 (omega (arith, deep)) in
      (h.0, rest.0 ∷ rest.1, (h.1, h.2, rest.2), λ i. first i ++ codes " " ++ rest.3 i)
