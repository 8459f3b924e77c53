-- The constraint components of SHACL Core (section 4): the results of each at a focus node.
use Rattle.std.specs.Prelude.{◌≡◌, ◌≢◌, ◌⊎◌, ◌↔◌, ℕ, List, [], ◌∷◌, Option, Some, None}
use Rattle.rdf_model.specs.declared.term.Term.{Term}
use Rattle.shape_model.specs.declared.component.Component.{Component}
use Rattle.shape_model.specs.declared.component.Component.TheVariants as components
use Rattle.shape_model.specs.declared.result_row.ResultRow.{ResultRow}
use Rattle.shape_model.specs.Vocabulary.{string_literal, true_literal, ShapeProperty, ShClass, ShDatatype, ShNodeKind, ShMinCount, ShMaxCount, ShMinExclusive, ShMinInclusive, ShMaxExclusive, ShMaxInclusive, ShMinLength, ShMaxLength, ShPattern, ShLanguageIn, ShUniqueLang, ShEquals, ShDisjoint, ShLessThan, ShLessThanOrEquals, ShNot, ShAnd, ShOr, ShXone, ShNode, ShProperty, ShQualifiedValueShape, ShQualifiedMinCount, ShQualifiedMaxCount, ShClosed, ShHasValue, ShIn}
use Rattle.shape_model.specs.Triples.{IsMember}
use Rattle.shape_model.specs.Readings.{Reading, IsDeactivated, IsClosed, IsCompared, HasFlags, Refers}
use Rattle.shape_model.specs.Listings.{Counts}
use Rattle.shape_model.specs.TermTests.{HasTag, IsAtMost, IsFewer, IsInLanguages, IsLess, IsMatched, IsMore, IsOfDatatype, IsOfKind, IsTooLong, IsTooShort}

-- All that the components of a shape may read of the data graph at a focus node.
pub record Surroundings : Type 1 where
  -- this is a value node
  pub value_node : Term → Type 0
  -- the node, first, is an instance of the class
  pub instance : Term → Term → Type 0
  -- the focus node has this value, last, of the property
  pub focus_value : Term → Term → Type 0
  -- the graph has the triple
  pub triple : Term → Term → Term → Type 0
  -- the shape, first, gives the result at the node
  pub row : Term → Term → ResultRow → Type 0

-- the node conforms to the shape, which gives no result there (SHACL 3.5)
abbrev pub ConformsTo : Surroundings → Term → Term → Type 0
ConformsTo t shape v = (r : ResultRow) → t.row shape v r → ⊥

-- What tells the results of one component at one value of its parameter apart: the value node that the result is
-- about, the value that it names, and what else.
pub record Finding : Type 0 where
  pub about : Option Term
  pub value : Option Term
  pub other : Option Term

-- about no value node; about the value node v; the same with w beside
abbrev pub found_alone : Finding
found_alone = record { about = None; value = None; other = None }

abbrev pub found_at : Term → Finding
found_at v = record { about = Some v; value = Some v; other = None }

abbrev pub found_beside : Term → Term → Finding
found_beside v w = record { about = Some v; value = Some v; other = Some w }

-- The result (SHACL 3.6.2) of a component of the shape at the focus node, for the value q of the parameter.
abbrev pub row_of : Component → Term → Term → Term → Finding → ResultRow
row_of c shape f q x = record { source_shape = shape; focus_node = f; component = c; parameter = Some q; about = x.about; value = x.value; other = x.other }

abbrev pub row_without_value : Component → Term → Term → Term → ResultRow
row_without_value c shape f q = row_of c shape f q found_alone

abbrev pub row_about : Component → Term → Term → Term → Term → ResultRow
row_about c shape f q v = row_of c shape f q (found_at v)

-- In what follows `row` makes the result of a finding.

-- one result for each value node of which P holds
abbrev pub ForEach : Surroundings → (Finding → ResultRow) → (Term → Type 0) → ResultRow → Type 0
ForEach t row P r = (v : Term) × t.value_node v × P v × (r ≡ row (found_at v))

-- one result where P holds of a wrong number of terms
abbrev pub ForCount : (Finding → ResultRow) → (Term → Type 0) → (ℕ → Type 0) → ResultRow → Type 0
ForCount row P IsWrong r = (n : ℕ) × Counts P n × IsWrong n × (r ≡ row found_alone)

-- the same for each value node, where q is the head of a list that is a value of the parameter
abbrev pub ForEachOfList : Surroundings → Reading → ShapeProperty → Term → (Finding → ResultRow) → (List Term → Term → Type 0) → ResultRow → Type 0
ForEachOfList t y p q row P r = (members : List Term) × y.has_list p q members × ForEach t row (P members) r

-- P holds of no member of the list, and of exactly one, counted with repeats
abbrev pub NoneOf : (Term → Type 0) → List Term → Type 0
NoneOf P ms = (m : Term) → IsMember ms m → P m → ⊥

abbrev pub OneOf : (Term → Type 0) → List Term → Type 0
OneOf P [] = ⊥
OneOf P (m ∷ ms) = (P m × NoneOf P ms) ⊎ ((P m → ⊥) × OneOf P ms)

-- a value node that conforms to the qualified value shape and to no sibling shape (SHACL 4.7.3)
abbrev pub IsQualified : Surroundings → Reading → Term → Term → Type 0
IsQualified t y m v = t.value_node v × ConformsTo t m v × ((k : Term) → y.sibling k → ConformsTo t k v → ⊥)

-- one result where a wrong number of value nodes is qualified; without a qualified value shape there is none
abbrev pub ForQualifiedCount : Surroundings → Reading → (Finding → ResultRow) → (ℕ → Type 0) → ResultRow → Type 0
ForQualifiedCount t y row IsWrong r = (m : Term) × y.has ShQualifiedValueShape m × ForCount row (IsQualified t y m) IsWrong r

-- one result for each value of the property q at the focus node that is no value node
abbrev pub ForMissing : Surroundings → Term → (Finding → ResultRow) → ResultRow → Type 0
ForMissing t q row r = (w : Term) × t.focus_value q w × (t.value_node w → ⊥) × (r ≡ row (found_at w))

-- one result for each value node v and value w of the property q at the focus node, unless v stands so to w
abbrev pub ForPairs : Surroundings → Term → (Finding → ResultRow) → (Term → Term → Type 0) → ResultRow → Type 0
ForPairs t q row P r = (v : Term) × (w : Term) × t.value_node v × t.focus_value q w × (P v w → ⊥) × (r ≡ row (found_beside v w))

-- one result for each language tag that two value nodes have
abbrev pub ForTags : Surroundings → (Finding → ResultRow) → ResultRow → Type 0
ForTags t row r = (tag : List ℕ) × (v : Term) × (w : Term) × (v ≢ w) × t.value_node v × t.value_node w × HasTag tag v × HasTag tag w
    × (r ≡ row (record { about = None; value = None; other = Some (string_literal tag) }))

-- one result for each triple of a value node whose predicate isn't allowed
abbrev pub ForTriples : Surroundings → Reading → (Finding → ResultRow) → ResultRow → Type 0
ForTriples t y row r = (v : Term) × (p : Term) × (o : Term) × t.value_node v × t.triple v p o × (y.allowed p → ⊥)
    × (r ≡ row (record { about = Some v; value = Some o; other = Some p }))

-- the parameter of a component that its results name
abbrev pub parameter_of : Component → ShapeProperty
parameter_of components.Class = ShClass
parameter_of components.Datatype = ShDatatype
parameter_of components.NodeKind = ShNodeKind
parameter_of components.MinCount = ShMinCount
parameter_of components.MaxCount = ShMaxCount
parameter_of components.MinExclusive = ShMinExclusive
parameter_of components.MinInclusive = ShMinInclusive
parameter_of components.MaxExclusive = ShMaxExclusive
parameter_of components.MaxInclusive = ShMaxInclusive
parameter_of components.MinLength = ShMinLength
parameter_of components.MaxLength = ShMaxLength
parameter_of components.Pattern = ShPattern
parameter_of components.LanguageIn = ShLanguageIn
parameter_of components.UniqueLang = ShUniqueLang
parameter_of components.Equals = ShEquals
parameter_of components.Disjoint = ShDisjoint
parameter_of components.LessThan = ShLessThan
parameter_of components.LessThanOrEquals = ShLessThanOrEquals
parameter_of components.Not = ShNot
parameter_of components.And = ShAnd
parameter_of components.Or = ShOr
parameter_of components.Xone = ShXone
parameter_of components.Node = ShNode
parameter_of components.QualifiedMinCount = ShQualifiedMinCount
parameter_of components.QualifiedMaxCount = ShQualifiedMaxCount
parameter_of components.Closed = ShClosed
parameter_of components.HasValue = ShHasValue
parameter_of components.In = ShIn

-- The results of a component at one value q of its parameter.
abbrev pub RowsOf : Component → Surroundings → Reading → Term → (Finding → ResultRow) → ResultRow → Type 0
-- 4.1.1: each value node that is no instance of the class q
RowsOf components.Class t y q row r = ForEach t row (λ v. t.instance v q → ⊥) r
-- 4.1.2: each value node that is no well-typed literal of the datatype q
RowsOf components.Datatype t y q row r = ForEach t row (λ v. IsOfDatatype q v → ⊥) r
-- 4.1.3: each value node of another kind than q
RowsOf components.NodeKind t y q row r = ForEach t row (λ v. IsOfKind q v → ⊥) r
-- 4.2.1, 4.2.2: fewer, more value nodes than q says
RowsOf components.MinCount t y q row r = ForCount row t.value_node (λ n. IsFewer n q) r
RowsOf components.MaxCount t y q row r = ForCount row t.value_node (λ n. IsMore n q) r
-- 4.3.1 to 4.3.4: each value node, unless the bound q is less than it, is at most it, it is less than q, is at most q
RowsOf components.MinExclusive t y q row r = ForEach t row (λ v. IsLess q v → ⊥) r
RowsOf components.MinInclusive t y q row r = ForEach t row (λ v. IsAtMost q v → ⊥) r
RowsOf components.MaxExclusive t y q row r = ForEach t row (λ v. IsLess v q → ⊥) r
RowsOf components.MaxInclusive t y q row r = ForEach t row (λ v. IsAtMost v q → ⊥) r
-- 4.4.1, 4.4.2: each value node that is blank, or whose text has fewer, has more characters than q says
RowsOf components.MinLength t y q row r = ForEach t row (λ v. IsTooShort q v) r
RowsOf components.MaxLength t y q row r = ForEach t row (λ v. IsTooLong q v) r
-- 4.4.3: each value node that the pattern q doesn't match under the shape's flags
RowsOf components.Pattern t y q row r = ForEach t row (λ v. ((flags : List ℕ) × HasFlags y flags × IsMatched q flags v) → ⊥) r
-- 4.4.4: each value node without a language tag that some member of the list q matches
RowsOf components.LanguageIn t y q row r = ForEachOfList t y ShLanguageIn q row (λ ms v. IsInLanguages ms v → ⊥) r
-- 4.4.5: where q is true, each language tag that two value nodes have
RowsOf components.UniqueLang t y q row r = (q ≡ true_literal) × ForTags t row r
-- 4.5.1: each value node that is no value of the property q at the focus node, and each such value that is no value node
RowsOf components.Equals t y q row r = ForEach t row (λ v. t.focus_value q v → ⊥) r ⊎ ForMissing t q row r
-- 4.5.2: each value node that is a value of the property q at the focus node
RowsOf components.Disjoint t y q row r = ForEach t row (λ v. t.focus_value q v) r
-- 4.5.3, 4.5.4: each value node and value of the property q at the focus node, unless the first is less, is at most the other
RowsOf components.LessThan t y q row r = ForPairs t q row IsLess r
RowsOf components.LessThanOrEquals t y q row r = ForPairs t q row IsAtMost r
-- 4.6.1: each value node that conforms to the shape q
RowsOf components.Not t y q row r = ForEach t row (λ v. ConformsTo t q v) r
-- 4.6.2, 4.6.3, 4.6.4: each value node that conforms not to all members of the list q, to none, not to exactly one
RowsOf components.And t y q row r = ForEachOfList t y ShAnd q row (λ ms v. ((m : Term) → IsMember ms m → ConformsTo t m v) → ⊥) r
RowsOf components.Or t y q row r = ForEachOfList t y ShOr q row (λ ms v. NoneOf (λ m. ConformsTo t m v) ms) r
RowsOf components.Xone t y q row r = ForEachOfList t y ShXone q row (λ ms v. OneOf (λ m. ConformsTo t m v) ms → ⊥) r
-- 4.7.1: each value node that doesn't conform to the shape q
RowsOf components.Node t y q row r = ForEach t row (λ v. ConformsTo t q v → ⊥) r
-- 4.7.3: fewer, more qualified value nodes than q says
RowsOf components.QualifiedMinCount t y q row r = ForQualifiedCount t y row (λ n. IsFewer n q) r
RowsOf components.QualifiedMaxCount t y q row r = ForQualifiedCount t y row (λ n. IsMore n q) r
-- 4.8.1: where q is true, each triple of a value node whose predicate isn't allowed
RowsOf components.Closed t y q row r = (q ≡ true_literal) × ForTriples t y row r
-- 4.8.2: where q is no value node
RowsOf components.HasValue t y q row r = (t.value_node q → ⊥) × (r ≡ row found_alone)
-- 4.8.3: each value node that is no member of the list q
RowsOf components.In t y q row r = ForEachOfList t y ShIn q row (λ ms v. IsMember ms v → ⊥) r

-- The results of a component of the shape at the focus node, at each value of its parameter.
abbrev pub ComponentRow : Component → Surroundings → Reading → Term → Term → ResultRow → Type 0
ComponentRow c t y shape f r = (q : Term) × y.has (parameter_of c) q × RowsOf c t y q (row_of c shape f q) r

-- the results that the property shapes give at each value node (SHACL 4.7.2)
abbrev pub PropertyRow : Surroundings → Reading → ResultRow → Type 0
PropertyRow t y r = (m : Term) × y.has ShProperty m × ((v : Term) × t.value_node v × t.row m v r)

-- The results of a shape at a focus node (SHACL 3.4): none where it is deactivated, else those of all components
-- and of its property shapes.
abbrev pub AtIn : Surroundings → Reading → Term → Term → ResultRow → Type 0
AtIn t y shape f r = (IsDeactivated y → ⊥) × (((c : Component) × ComponentRow c t y shape f r) ⊎ PropertyRow t y r)

-- no component of the shape tells the two apart
pub record SameSurroundings (y : Reading) (a b : Surroundings) : Type 0 where
  pub value_node : (v : Term) → a.value_node v ↔ b.value_node v
  pub instance : (q v : Term) → y.has ShClass q → a.value_node v → a.instance v q ↔ b.instance v q
  pub focus_value : (q w : Term) → IsCompared y q → a.focus_value q w ↔ b.focus_value q w
  pub triple : IsClosed y → (v p o : Term) → a.value_node v → a.triple v p o ↔ b.triple v p o
  pub row : (m v : Term) → Refers y m → a.value_node v → (r : ResultRow) → a.row m v r ↔ b.row m v r
