-- The terms of evidence can be read where those of its graphs can.
use Rattle.std.proofs.Common.{◌≡◌, ℕ, zero, suc, Bool, true, false, List, [], ◌∷◌, length, Some, None, Ok, codes, refl, sym, ap, subst, arith, inl, inr}
use Rattle.std.specs.List.{AllByRecursion, Contains, list_all}
use Rattle.std.specs.Str.{IsUtf8}
use Rattle.std.proofs.lemmas.Str.{chars-encodes}
use lib.Utf8.{encode}
use Rattle.std.proofs.lemmas.List.Elements.{All-contains}
use Rattle.collections.proofs.Members.{has_cases, has_head, has_tail}
use Rattle.path_eval.proofs.Mirrors.{mapped_to}
use Rattle.rdf_model.specs.declared.term.Term.{Term}
use Rattle.rdf_model.specs.declared.term.Term.TheVariants.{Blank, Iri, Literal}
use Rattle.rdf_model.specs.declared.triple.Triple.{Triple}
use Rattle.rdf_model.specs.declared.look.Look.{Look}
use Rattle.rdf_model.specs.NTriples.{xsd_string}
use Rattle.rdf_lexical.specs.Characters.{is_iri_char}
use Rattle.ntriples_text.specs.Grammar.{literal}
use Rattle.ntriples_text.specs.Laws.{IsIriText, IsReadable, IsReadableIri, IsStored}
use Rattle.ntriples_text.proofs.Written.{as_object}
use Rattle.shape_model.specs.declared.component.Component.{Component}
use Rattle.shape_model.specs.declared.component.Component.TheVariants as components
use Rattle.shape_model.specs.declared.result_row.ResultRow.{ResultRow}
use Rattle.shape_model.specs.Components.{Finding, ForCount, ForEach, ForEachOfList, ForMissing, ForPairs, ForQualifiedCount, ForTags, ForTriples, RowsOf, Surroundings, found_alone, found_at, found_beside, row_of}
use Rattle.shape_model.specs.Instances.{Instance, class_path}
use Rattle.shape_model.specs.Looks.{ByIn, ByOut, ByOutAny, LookKind, LookRow, PathLook, SomeLook, ThroughLook, look_at}
use Rattle.shape_model.specs.NodeLooks.{IsLook}
use Rattle.shape_model.specs.Paths.{Path, Predicate, Inverse, Sequence, Alternative, ZeroOrMore, OneOrMore, ZeroOrOne, Paths, Last, Also}
use Rattle.shape_model.specs.Readings.{IsCompared, Reading, ValueNode, reading}
use Rattle.shape_model.specs.ShapeLooks.{Looks, ShapeLookDepth, TargetLook}
use Rattle.shape_model.specs.ShapeSyntax.{PathOf, PathsOf}
use Rattle.shape_model.specs.Targets.{Target}
use Rattle.shape_model.specs.TermTests.{HasTag}
use Rattle.shape_model.specs.Triples.{Has, IsIri}
use Rattle.shape_model.specs.Validation.{AtDepth, surroundings}
use Rattle.shape_model.specs.Vocabulary.{ShapeProperty, ShEquals, ShDisjoint, ShLessThan, ShLessThanOrEquals, ShTargetSubjectsOf, ShTargetObjectsOf, rdf, rdf_type, string_literal, sub_class_of}
use Rattle.shape_model.specs.Walks.{Chain, Walk, WalkSome, WalkThrough, Walks}
use Rattle.shape_rules.specs.Broken.{IsWellFormed}
use Rattle.shape_rules.specs.Rows.{row}
use Rattle.shape_rules.proofs.TermKinds.{iri_unless}
use Rattle.shape_properties.specs.declared.property.ShapeProperty.TheVariants as properties
use Rattle.literal_order.specs.Values.{reading as value_reading}
use Rattle.literal_order.specs.Datatypes.{datatype_of, local_datatype}
use Rattle.evidence_blocks.specs.declared.block.Block.{Block}
use Rattle.evidence_blocks.specs.declared.block.ShownLook.{ShownLook}
use Rattle.evidence_blocks.specs.Blocks.{HasTriples, IsEvidence}
use Rattle.evidence_blocks.specs.Readable.{IsReadableBlock, IsReadableLook, IsReadableOption, IsReadableRow, IsReadableShown, IsReadableTerm}

-- constant IRIs
xsd_string_iri : IsIriText xsd_string
unfolding encode
xsd_string_iri = ((xsd_string, (refl, refl)), ap (list_all is_iri_char) (chars-encodes xsd_string refl), refl)

abbrev type_text : List ℕ
type_text = codes "http://www.w3.org/1999/02/22-rdf-syntax-ns#type"

type_iri : IsIriText type_text
unfolding encode
type_iri = ((type_text, (refl, refl)), ap (list_all is_iri_char) (chars-encodes type_text refl), refl)

abbrev subclass_text : List ℕ
subclass_text = codes "http://www.w3.org/2000/01/rdf-schema#subClassOf"

subclass_iri : IsIriText subclass_text
unfolding encode
subclass_iri = ((subclass_text, (refl, refl)), ap (list_all is_iri_char) (chars-encodes subclass_text refl), refl)

type_readable : IsReadableIri rdf_type
unfolding rdf_type rdf
type_readable = type_iri

subclass_readable : IsReadableIri sub_class_of
unfolding sub_class_of
subclass_readable = subclass_iri

-- a text as a literal of xsd:string
plain_kept : (l : List ℕ) → literal l xsd_string ≡ Ok (Literal l xsd_string None)
unfolding value_reading datatype_of local_datatype
plain_kept l = refl

tag_readable : (tag : List ℕ) (v : Term) → HasTag tag v → IsReadableTerm v → IsReadableTerm (string_literal tag)
unfolding string_literal
tag_readable tag (Blank s n) h r = absurd h
tag_readable tag (Iri a) h r = absurd h
tag_readable tag (Literal l d None) h r = absurd (cc)
tag_readable tag (Literal l d (Some other)) h r =
    let same : other ≡ tag = cc in
    (subst (λ (t : List ℕ). IsUtf8 t) same r.2, xsd_string_iri, plain_kept tag)

-- an IRI that is an object can be a predicate
as_predicate : (t : Term) → IsIri t → IsReadableTerm t → IsReadableIri t
as_predicate (Iri a) i r = r
as_predicate (Blank s n) i r = absurd i
as_predicate (Literal l d t) i r = absurd i

as_term : (t : Term) → IsReadableIri t → IsReadableTerm t
as_term (Iri a) r = r
as_term (Blank s n) r = absurd r
as_term (Literal l d t) r = absurd r

of_all : (g : List Triple) (t : Triple) → AllByRecursion (IsReadable IsStored) g → Contains g t → IsReadable IsStored t
of_all [] t a c = absurd (omega (arith, c.1))
of_all (u ∷ g) t a c = elim (has_cases u g t c) [ inl e ↦ subst (λ (x : Triple). IsReadable IsStored x) e a.0 | inr d ↦ of_all g t a.1 d ]

-- terms of a graph whose triples can be read
module _ (g : List Triple) (readable : AllByRecursion (IsReadable IsStored) g) where
  subject_ok : (x p y : Term) → Has g x p y → IsReadableTerm x
  subject_ok x p y h = as_object IsStored x (of_all g _ readable h).subject

  predicate_ok : (x p y : Term) → Has g x p y → IsReadableIri p
  predicate_ok x p y h = (of_all g _ readable h).predicate

  object_ok : (x p y : Term) → Has g x p y → IsReadableTerm y
  object_ok x p y h = (of_all g _ readable h).object

  -- both ends of a walk can be read where one can
  abbrev BothOk : Term → Term → Type 0
  BothOk x y = (IsReadableTerm x → IsReadableTerm y) × (IsReadableTerm y → IsReadableTerm x)

  same_ok : (x y : Term) → x ≡ y → BothOk x y
  same_ok x y e = (λ r. subst IsReadableTerm e r, λ r. subst IsReadableTerm (sym e) r)

  chain_ok : (R : Term → Term → Type 0) → ((x y : Term) → R x y → BothOk x y) → (x : Term) (zs : List Term) (y : Term) → Chain R x zs y → BothOk x y
  chain_ok R f x [] y c = same_ok x y c
  chain_ok R f x (z ∷ zs) y c =
      let a = f x z c.0 in
      let b = chain_ok R f z zs y c.1 in
      (λ r. b.0 (a.0 r), λ r. a.1 (b.1 r))

  mutual
    walk_ok : (p : Path) (x y : Term) → Walk g p x y → BothOk x y
    walk_ok (Predicate p) x y w = (λ r. object_ok x p y w, λ r. subject_ok x p y w)
    walk_ok (Inverse p) x y w = let k = walk_ok p y x w in (k.1, k.0)
    walk_ok (Sequence ps) x y w = through_ok ps x y w
    walk_ok (Alternative ps) x y w = some_ok ps x y w
    walk_ok (ZeroOrMore p) x y w = chain_ok (Walk g p) (λ a b k. walk_ok p a b k) x w.0 y w.1
    walk_ok (OneOrMore p) x y w = chain_ok (Walk g p) (λ a b k. walk_ok p a b k) x w.0 y w.2
    walk_ok (ZeroOrOne p) x y w = elim w [ inl e ↦ same_ok x y e | inr k ↦ walk_ok p x y k ]

    through_ok : (ps : Paths) (x y : Term) → WalkThrough g ps x y → BothOk x y
    through_ok (Last p) x y w = walk_ok p x y w
    through_ok (Also p ps) x y w =
        let a = walk_ok p x w.0 w.1 in
        let b = through_ok ps w.0 y w.2 in
        (λ r. b.0 (a.0 r), λ r. a.1 (b.1 r))

    some_ok : (ps : Paths) (x y : Term) → WalkSome g ps x y → BothOk x y
    some_ok (Last p) x y w = walk_ok p x y w
    some_ok (Also p ps) x y w = elim w [ inl k ↦ walk_ok p x y k | inr k ↦ some_ok ps x y k ]

  walks_ok : (ps : List Path) (x y : Term) → Walks g ps x y → IsReadableTerm x → IsReadableTerm y
  walks_ok [] x y w r = subst IsReadableTerm w r
  walks_ok (p ∷ ps) x y w r = walks_ok ps w.0 y w.2 ((walk_ok p x w.0 w.1).0 r)

  value_ok : (y : Reading) (f v : Term) → ValueNode g y f v → IsReadableTerm f → IsReadableTerm v
  value_ok y f v n r = elim n [ inl e ↦ subst IsReadableTerm e.1 r | inr w ↦ (walk_ok w.0 f v w.2).0 r ]

  instance_ok : (n c : Term) → Instance g n c → IsReadableTerm n
  instance_ok n c i = subject_ok n rdf_type i.0 i.1

-- what tells a result apart
record IsReadableFinding (x : Finding) : Type 0 where
  about : IsReadableOption x.about
  value : IsReadableOption x.value
  other : IsReadableOption x.other

row_ok : (c : Component) (shape f q : Term) (x : Finding) (r : ResultRow) → IsReadableTerm shape → IsReadableTerm f → IsReadableTerm q → IsReadableFinding x → r ≡ row_of c shape f q x → IsReadableRow r
row_ok c shape f q x r a b d k e =
    let made : IsReadableRow (row_of c shape f q x) = record { source_shape = a; focus_node = b; parameter = d; about = k.about; value = k.value; other = k.other } in
    subst (λ (z : ResultRow). IsReadableRow z) (sym e) made

alone_ok : IsReadableFinding found_alone
alone_ok = record { about = tt; value = tt; other = tt }

at_ok : (v : Term) → IsReadableTerm v → IsReadableFinding (found_at v)
at_ok v r = record { about = r; value = r; other = tt }

beside_ok : (v w : Term) → IsReadableTerm v → IsReadableTerm w → IsReadableFinding (found_beside v w)
beside_ok v w r q = record { about = r; value = r; other = q }

-- the results of one component, by its surroundings
module _ (g : List Triple) (readable : AllByRecursion (IsReadable IsStored) g) (row : Term → Term → ResultRow → Type 0) (y : Reading) (shape f : Term) (shape_ok : IsReadableTerm shape) (focus_ok : IsReadableTerm f) where
  t : Surroundings
  t = surroundings row g y f

  module _ (c : Component) (q : Term) (parameter_ok : IsReadableTerm q) (r : ResultRow) where
    own : (x : Finding) → IsReadableFinding x → r ≡ row_of c shape f q x → IsReadableRow r
    own x k e = row_ok c shape f q x r shape_ok focus_ok parameter_ok k e

    node_ok : (v : Term) → ValueNode g y f v → IsReadableTerm v
    node_ok v n = value_ok g readable y f v n focus_ok

    each_ok : (P : Term → Type 0) → ForEach (surroundings row g y f) (row_of c shape f q) P r → IsReadableRow r
    each_ok P h = own (found_at h.0) (at_ok h.0 (node_ok h.0 h.1)) h.3

    count_ok : (P : Term → Type 0) (W : ℕ → Type 0) → ForCount (row_of c shape f q) P W r → IsReadableRow r
    count_ok P W h = own found_alone alone_ok h.3

    list_ok : (p : ShapeProperty) (P : List Term → Term → Type 0) → ForEachOfList (surroundings row g y f) y p q (row_of c shape f q) P r → IsReadableRow r
    list_ok p P h = each_ok (P h.0) h.2

    qualified_ok : (W : ℕ → Type 0) → ForQualifiedCount (surroundings row g y f) y (row_of c shape f q) W r → IsReadableRow r
    qualified_ok W h = count_ok _ W h.2

    missing_ok : ForMissing (surroundings row g y f) q (row_of c shape f q) r → IsReadableRow r
    missing_ok h = own (found_at h.0) (at_ok h.0 (object_ok g readable f q h.0 h.1)) h.3

    pairs_ok : (P : Term → Term → Type 0) → ForPairs (surroundings row g y f) q (row_of c shape f q) P r → IsReadableRow r
    pairs_ok P h = own (found_beside h.0 h.1) (beside_ok h.0 h.1 (node_ok h.0 h.2) (object_ok g readable f q h.1 h.3)) h.5

    tags_ok : ForTags (surroundings row g y f) (row_of c shape f q) r → IsReadableRow r
    tags_ok h = own _ (record { about = tt; value = tt; other = tag_readable h.0 h.1 h.6 (node_ok h.1 h.4) }) h.8

    triples_ok : ForTriples (surroundings row g y f) y (row_of c shape f q) r → IsReadableRow r
    triples_ok h = own _ (record { about = node_ok h.0 h.3; value = object_ok g readable h.0 h.1 h.2 h.4; other = as_term h.1 (predicate_ok g readable h.0 h.1 h.2 h.4) }) h.6

  component_ok : (c : Component) (q : Term) (r : ResultRow) → IsReadableTerm q → RowsOf c (surroundings row g y f) y q (row_of c shape f q) r → IsReadableRow r
  component_ok components.Class q r k h = each_ok components.Class q k r _ h
  component_ok components.Datatype q r k h = each_ok components.Datatype q k r _ h
  component_ok components.NodeKind q r k h = each_ok components.NodeKind q k r _ h
  component_ok components.MinCount q r k h = count_ok components.MinCount q k r _ _ h
  component_ok components.MaxCount q r k h = count_ok components.MaxCount q k r _ _ h
  component_ok components.MinExclusive q r k h = each_ok components.MinExclusive q k r _ h
  component_ok components.MinInclusive q r k h = each_ok components.MinInclusive q k r _ h
  component_ok components.MaxExclusive q r k h = each_ok components.MaxExclusive q k r _ h
  component_ok components.MaxInclusive q r k h = each_ok components.MaxInclusive q k r _ h
  component_ok components.MinLength q r k h = each_ok components.MinLength q k r _ h
  component_ok components.MaxLength q r k h = each_ok components.MaxLength q k r _ h
  component_ok components.Pattern q r k h = each_ok components.Pattern q k r _ h
  component_ok components.LanguageIn q r k h = list_ok components.LanguageIn q k r _ _ h
  component_ok components.UniqueLang q r k h = tags_ok components.UniqueLang q k r h.1
  component_ok components.Equals q r k h = elim h [ inl i ↦ each_ok components.Equals q k r _ i | inr i ↦ missing_ok components.Equals q k r i ]
  component_ok components.Disjoint q r k h = each_ok components.Disjoint q k r _ h
  component_ok components.LessThan q r k h = pairs_ok components.LessThan q k r _ h
  component_ok components.LessThanOrEquals q r k h = pairs_ok components.LessThanOrEquals q k r _ h
  component_ok components.Not q r k h = each_ok components.Not q k r _ h
  component_ok components.And q r k h = list_ok components.And q k r _ _ h
  component_ok components.Or q r k h = list_ok components.Or q k r _ _ h
  component_ok components.Xone q r k h = list_ok components.Xone q k r _ _ h
  component_ok components.Node q r k h = each_ok components.Node q k r _ h
  component_ok components.QualifiedMinCount q r k h = qualified_ok components.QualifiedMinCount q k r _ h
  component_ok components.QualifiedMaxCount q r k h = qualified_ok components.QualifiedMaxCount q k r _ h
  component_ok components.Closed q r k h = triples_ok components.Closed q k r h.1
  component_ok components.HasValue q r k h = own components.HasValue q k r found_alone alone_ok h.1
  component_ok components.In q r k h = list_ok components.In q k r _ _ h

-- the results of a shape at a focus node
module _ (g s : List Triple) (data_ok : AllByRecursion (IsReadable IsStored) g) (shapes_ok : AllByRecursion (IsReadable IsStored) s) where
  rows_ok : (n : ℕ) (shape f : Term) (r : ResultRow) → IsReadableTerm f → AtDepth n g (reading s) shape f r → IsReadableRow r
  rows_ok zero shape f r k h = absurd h
  rows_ok (suc n) shape f r k h = elim h.1 [
    | inl c ↦ component_ok g data_ok (AtDepth n g (reading s)) (reading s shape) shape f (subject_ok s shapes_ok shape _ c.1.0 c.1.1) k c.0 c.1.0 r (object_ok s shapes_ok shape _ c.1.0 c.1.1) c.1.2
    | inr p ↦ rows_ok n p.0 p.2.0 r (value_ok g data_ok (reading s shape) f p.2.0 p.2.1 k) p.2.2
  ]

  -- targets, and the shapes that have some
  target_ok : (shape f : Term) → Target g s shape f → IsReadableTerm f
  target_ok shape f target = elim target [
    | inl n ↦ object_ok s shapes_ok shape _ f n
    | inr (inl c) ↦ instance_ok g data_ok f c.0 c.2
    | inr (inr (inl i)) ↦ instance_ok g data_ok f shape i.1
    | inr (inr (inr (inl p))) ↦ subject_ok g data_ok f p.0 p.2.0 p.2.1
    | inr (inr (inr (inr p))) ↦ object_ok g data_ok p.2.0 p.0 f p.2.1
  ]

  target_shape_ok : (shape f : Term) → Target g s shape f → IsReadableTerm shape
  target_shape_ok shape f target = elim target [
    | inl n ↦ subject_ok s shapes_ok shape _ f n
    | inr (inl c) ↦ subject_ok s shapes_ok shape _ c.0 c.1
    | inr (inr (inl i)) ↦ instance_ok s shapes_ok shape _ i.0.1
    | inr (inr (inr (inl p))) ↦ subject_ok s shapes_ok shape _ p.0 p.1
    | inr (inr (inr (inr p))) ↦ subject_ok s shapes_ok shape _ p.0 p.1
  ]

-- paths with readable predicates
abbrev mutual
  PathOk : Path → Type 0
  PathOk (Predicate p) = IsReadableIri p
  PathOk (Inverse p) = PathOk p
  PathOk (Sequence ps) = PathsOk ps
  PathOk (Alternative ps) = PathsOk ps
  PathOk (ZeroOrMore p) = PathOk p
  PathOk (OneOrMore p) = PathOk p
  PathOk (ZeroOrOne p) = PathOk p

  PathsOk : Paths → Type 0
  PathsOk (Last p) = PathOk p
  PathsOk (Also p ps) = PathOk p × PathsOk ps

class_path_ok : PathOk class_path
class_path_ok = (type_readable, subclass_readable)

abbrev KindOk : LookKind → Type 0
KindOk (ByOut p) = IsReadableIri p
KindOk (ByIn p) = IsReadableIri p
KindOk ByOutAny = Unit {0}

made_ok : (row made : LookRow) → row ≡ made → KindOk made.kind → KindOk row.kind
made_ok row made e k = subst (λ (x : LookRow). KindOk x.kind) (sym e) k

mutual
  path_look_ok : (reversed : Bool) (p : Path) (q : List Path) (row : LookRow) → PathOk p → PathLook reversed p q row → KindOk row.kind
  path_look_ok false (Predicate p) q row k h = made_ok row _ h k
  path_look_ok true (Predicate p) q row k h = made_ok row _ h k
  path_look_ok false (Inverse p) q row k h = path_look_ok true p q row k h
  path_look_ok true (Inverse p) q row k h = path_look_ok false p q row k h
  path_look_ok false (Sequence ps) q row k h = through_look_ok false ps q row k h
  path_look_ok true (Sequence ps) q row k h = through_look_ok true ps q row k h
  path_look_ok false (Alternative ps) q row k h = some_look_ok false ps q row k h
  path_look_ok true (Alternative ps) q row k h = some_look_ok true ps q row k h
  path_look_ok false (ZeroOrMore p) q row k h = path_look_ok false p _ row k h
  path_look_ok true (ZeroOrMore p) q row k h = path_look_ok true p _ row k h
  path_look_ok false (OneOrMore p) q row k h = path_look_ok false p _ row k h
  path_look_ok true (OneOrMore p) q row k h = path_look_ok true p _ row k h
  path_look_ok false (ZeroOrOne p) q row k h = path_look_ok false p q row k h
  path_look_ok true (ZeroOrOne p) q row k h = path_look_ok true p q row k h

  through_look_ok : (reversed : Bool) (ps : Paths) (q : List Path) (row : LookRow) → PathsOk ps → ThroughLook reversed ps q row → KindOk row.kind
  through_look_ok false (Last p) q row k h = path_look_ok false p q row k h
  through_look_ok true (Last p) q row k h = path_look_ok true p q row k h
  through_look_ok false (Also p ps) q row k h = elim h [ inl i ↦ path_look_ok false p q row k.0 i | inr i ↦ through_look_ok false ps _ row k.1 i ]
  through_look_ok true (Also p ps) q row k h = elim h [ inl i ↦ through_look_ok true ps q row k.1 i | inr i ↦ path_look_ok true p _ row k.0 i ]

  some_look_ok : (reversed : Bool) (ps : Paths) (q : List Path) (row : LookRow) → PathsOk ps → SomeLook reversed ps q row → KindOk row.kind
  some_look_ok false (Last p) q row k h = path_look_ok false p q row k h
  some_look_ok true (Last p) q row k h = path_look_ok true p q row k h
  some_look_ok false (Also p ps) q row k h = elim h [ inl i ↦ path_look_ok false p q row k.0 i | inr i ↦ some_look_ok false ps q row k.1 i ]
  some_look_ok true (Also p ps) q row k h = elim h [ inl i ↦ path_look_ok true p q row k.0 i | inr i ↦ some_look_ok true ps q row k.1 i ]

-- the looks of a well-formed shapes graph
module _ (s : List Triple) (readable : AllByRecursion (IsReadable IsStored) s) (well : IsWellFormed s) where
  mutual
    path_ok : (n : Term) (p : Path) → IsReadableTerm n → PathOf s n p → PathOk p
    path_ok n (Predicate p) r h = subst IsReadableIri h.0 (as_predicate n h.1 r)
    path_ok n (Inverse p) r h = path_ok h.0 p (object_ok s readable n _ h.0 h.1.1) h.2
    path_ok n (Sequence ps) r h = paths_ok n ps h.2
    path_ok n (Alternative ps) r h = paths_ok h.0 ps h.3
    path_ok n (ZeroOrMore p) r h = path_ok h.0 p (object_ok s readable n _ h.0 h.1.1) h.2
    path_ok n (OneOrMore p) r h = path_ok h.0 p (object_ok s readable n _ h.0 h.1.1) h.2
    path_ok n (ZeroOrOne p) r h = path_ok h.0 p (object_ok s readable n _ h.0 h.1.1) h.2

    paths_ok : (n : Term) (ps : Paths) → PathsOf s n ps → PathsOk ps
    paths_ok n (Last p) h = path_ok h.0 p (object_ok s readable n _ h.0 h.2.0.0) h.4
    paths_ok n (Also p ps) h = (path_ok h.0 p (object_ok s readable n _ h.0 h.2.0.0) h.3, paths_ok h.1 ps h.4)

  shape_path_ok : (shape : Term) (p : Path) → (reading s shape).path p → PathOk p
  shape_path_ok shape p h = path_ok h.0 p (object_ok s readable shape _ h.0 h.1) h.2

  -- the rules ask for IRIs
  equals_ok : (shape p : Term) → (reading s shape).has ShEquals p → IsReadableIri p
  equals_ok shape p h =
      let iri = iri_unless p (λ never. well (row shape 26 (Some p)) (inl (inl (inl (inr (inr (inl (properties.Equals, p, h, refl))), inl (properties.Equals, p, h, inr (inl (never, refl)))))))) in
      as_predicate p iri (object_ok s readable shape _ p h)

  disjoint_ok : (shape p : Term) → (reading s shape).has ShDisjoint p → IsReadableIri p
  disjoint_ok shape p h =
      let iri = iri_unless p (λ never. well (row shape 26 (Some p)) (inl (inl (inl (inr (inr (inl (properties.Disjoint, p, h, refl))), inl (properties.Disjoint, p, h, inr (inl (never, refl)))))))) in
      as_predicate p iri (object_ok s readable shape _ p h)

  less_ok : (shape p : Term) → (reading s shape).has ShLessThan p → IsReadableIri p
  less_ok shape p h =
      let iri = iri_unless p (λ never. well (row shape 27 (Some p)) (inl (inl (inl (inr (inr (inl (properties.LessThan, p, h, refl))), inl (properties.LessThan, p, h, inr (inl (never, refl)))))))) in
      as_predicate p iri (object_ok s readable shape _ p h)

  less_or_equals_ok : (shape p : Term) → (reading s shape).has ShLessThanOrEquals p → IsReadableIri p
  less_or_equals_ok shape p h =
      let iri = iri_unless p (λ never. well (row shape 27 (Some p)) (inl (inl (inl (inr (inr (inl (properties.LessThanOrEquals, p, h, refl))), inl (properties.LessThanOrEquals, p, h, inr (inl (never, refl)))))))) in
      as_predicate p iri (object_ok s readable shape _ p h)

  subjects_of_ok : (shape p : Term) → (reading s shape).has ShTargetSubjectsOf p → IsReadableIri p
  subjects_of_ok shape p h =
      let iri = iri_unless p (λ never. well (row shape 5 (Some p)) (inl (inl (inl (inr (inr (inl (properties.TargetSubjectsOf, p, h, refl))), inl (properties.TargetSubjectsOf, p, h, inr (inl (never, refl)))))))) in
      as_predicate p iri (object_ok s readable shape _ p h)

  objects_of_ok : (shape p : Term) → (reading s shape).has ShTargetObjectsOf p → IsReadableIri p
  objects_of_ok shape p h =
      let iri = iri_unless p (λ never. well (row shape 6 (Some p)) (inl (inl (inl (inr (inr (inl (properties.TargetObjectsOf, p, h, refl))), inl (properties.TargetObjectsOf, p, h, inr (inl (never, refl)))))))) in
      as_predicate p iri (object_ok s readable shape _ p h)

  compared_ok : (shape p : Term) → IsCompared (reading s shape) p → IsReadableIri p
  compared_ok shape p h = elim h [
    | inl i ↦ equals_ok shape p i
    | inr (inl i) ↦ disjoint_ok shape p i
    | inr (inr (inl i)) ↦ less_ok shape p i
    | inr (inr (inr i)) ↦ less_or_equals_ok shape p i
  ]

  shape_look_ok : (n : ℕ) (shape : Term) (q : List Path) (row : LookRow) → ShapeLookDepth n (reading s) shape q row → KindOk row.kind
  shape_look_ok zero shape q row h = absurd h
  shape_look_ok (suc n) shape q row h = elim h.1 [
    | inl i ↦ path_look_ok false i.0 q row (shape_path_ok shape i.0 i.1) i.2
    | inr (inl i) ↦ path_look_ok false class_path i.1 row class_path_ok i.4
    | inr (inr (inl i)) ↦ made_ok row _ i.2 (compared_ok shape i.0 i.1)
    | inr (inr (inr (inl i))) ↦ made_ok row _ i.1.2 tt
    | inr (inr (inr (inr i))) ↦ shape_look_ok n i.0 i.1 row i.4
  ]

  target_look_ok : (shape : Term) (row : LookRow) → TargetLook (reading s shape) row → KindOk row.kind
  target_look_ok shape row h = elim h [
    | inl i ↦ path_look_ok false class_path [] row class_path_ok i.2
    | inr (inl i) ↦ path_look_ok false class_path [] row class_path_ok i.1
    | inr (inr (inl i)) ↦ made_ok row _ i.2 (subjects_of_ok shape i.0 i.1)
    | inr (inr (inr i)) ↦ made_ok row _ i.2 (objects_of_ok shape i.0 i.1)
  ]

  looks_ok : (shape : Term) (row : LookRow) → Looks s shape row → KindOk row.kind
  looks_ok shape row h = elim h [ inl i ↦ shape_look_ok (suc (length s)) shape [] row i | inr i ↦ target_look_ok shape row i ]

look_at_ok : (kind : LookKind) (z : Term) → KindOk kind → IsReadableTerm z → IsReadableLook (look_at kind z)
look_at_ok (ByOut p) z k r = (r, k)
look_at_ok (ByIn p) z k r = (k, r)
look_at_ok ByOutAny z k r = r

-- evidence of a result is a block of the format
module _ (g s : List Triple) (data_ok : AllByRecursion (IsReadable IsStored) g) (shapes_ok : AllByRecursion (IsReadable IsStored) s) (well : IsWellFormed s) where
  look_ok : (shape f : Term) (look : Look Term) → IsReadableTerm f → IsLook g (Looks s shape) f look → IsReadableLook look
  look_ok shape f look r l = subst (λ (k : Look Term). IsReadableLook k) (sym l.2.2) (look_at_ok l.0.kind l.2.0 (looks_ok s shapes_ok well shape l.0 l.1) (walks_ok g data_ok l.0.way f l.2.0 l.2.1 r))

  all_ok : (P : Triple → Type 0) (ts : List Triple) → ((t : Triple) → Contains ts t → P t) → AllByRecursion P ts
  all_ok P [] f = tt
  all_ok P (t ∷ ts) f = (f t (has_head t ts), all_ok P ts (λ u c. f u (has_tail t ts u c)))

  shown_ok : (x : ShownLook) → HasTriples g x → IsReadableLook x.look → IsReadableShown x
  shown_ok x h k = (k, all_ok (IsReadable IsStored) x.triples (λ t c. of_all g t data_ok ((h.members t).0 c).0))

  all_shown_ok : (xs : List ShownLook) → ((x : ShownLook) → Contains xs x → HasTriples g x × IsReadableLook x.look) → AllByRecursion IsReadableShown xs
  all_shown_ok [] f = tt
  all_shown_ok (x ∷ xs) f = (let k = f x (has_head x xs) in shown_ok x k.0 k.1, all_shown_ok xs (λ y c. f y (has_tail x xs y c)))

  pub evidence_ok : (b : Block) → IsEvidence g s b → IsReadableBlock b
  evidence_ok b e =
      let gives = e.aim.gives in
      let focus = target_ok g s data_ok shapes_ok b.shape b.focus gives.0 in
      record {
        shape = target_shape_ok g s data_ok shapes_ok b.shape b.focus gives.0;
        focus = focus;
        row = rows_ok g s data_ok shapes_ok (suc (length s)) b.shape b.focus b.row focus gives.1;
        looks = all_shown_ok b.looks (λ x c. (
          All-contains (HasTriples g) b.looks x e.triples c,
          look_ok b.shape b.focus x.look focus ((e.looks.members x.look).0 (mapped_to (λ (y : ShownLook). y.look) b.looks x c)),
        ));
      }
