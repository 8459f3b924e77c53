-- Surroundings that no component tells apart give the same results, for two readings of a shape that say the same.
use Rattle.std.proofs.Common.{ℕ, List, [], ◌∷◌, refl, inl, inr, subst}
use Rattle.std.specs.Prelude.{◌⊎◌, ◌↔◌}
use Rattle.rdf_model.specs.declared.term.Term.{Term}
use Rattle.shape_model.specs.declared.component.Component.TheVariants as components
use Rattle.shape_model.specs.Components.{AtIn, ComponentRow, ConformsTo, Finding, ForCount, ForEach, ForEachOfList, ForPairs, ForQualifiedCount, IsQualified, NoneOf, OneOf, RowsOf, SameSurroundings, Surroundings, parameter_of, row_of}
use Rattle.shape_model.specs.Listings.{Counts}
use Rattle.shape_model.specs.Readings.{HasFlags, HasMember, HasQualifiedCount, IsAsked, IsClosed, IsCompared, Reading, Refers, SameReading}
use Rattle.shape_model.specs.ShapeSyntax.{TakesMembers}
use Rattle.shape_model.specs.TermTests.{IsAtMost, IsFewer, IsInLanguages, IsLess, IsMatched, IsMore, IsOfDatatype, IsOfKind, IsTooLong, IsTooShort}
use Rattle.shape_model.specs.Triples.{IsMember}
use Rattle.shape_model.specs.Vocabulary.{ShAnd, ShClass, ShClosed, ShDeactivated, ShDisjoint, ShEquals, ShFlags, ShIn, ShLanguageIn, ShLessThan, ShLessThanOrEquals, ShNode, ShNot, ShOr, ShProperty, ShQualifiedMaxCount, ShQualifiedMinCount, ShQualifiedValueShape, ShXone, ShapeProperty, true_literal}
use Rattle.shape_model.specs.declared.component.Component.{Component}
use Rattle.shape_model.specs.declared.result_row.ResultRow.{ResultRow}

takes_languages : TakesMembers ShLanguageIn
takes_languages = inl refl

takes_and : TakesMembers ShAnd
takes_and = inr (inl refl)

takes_or : TakesMembers ShOr
takes_or = inr (inr (inl refl))

takes_xone : TakesMembers ShXone
takes_xone = inr (inr (inr (inl refl)))

takes_in : TakesMembers ShIn
takes_in = inr (inr (inr (inr refl)))

-- a parameter of a component is asked for as such
pub asked : (c : Component) (q : Term) → IsAsked (parameter_of c) q
asked components.Class q = tt
asked components.Datatype q = tt
asked components.NodeKind q = tt
asked components.MinCount q = tt
asked components.MaxCount q = tt
asked components.MinExclusive q = tt
asked components.MinInclusive q = tt
asked components.MaxExclusive q = tt
asked components.MaxInclusive q = tt
asked components.MinLength q = tt
asked components.MaxLength q = tt
asked components.Pattern q = tt
asked components.LanguageIn q = tt
asked components.UniqueLang q = tt
asked components.Equals q = tt
asked components.Disjoint q = tt
asked components.LessThan q = tt
asked components.LessThanOrEquals q = tt
asked components.Not q = tt
asked components.And q = tt
asked components.Or q = tt
asked components.Xone q = tt
asked components.Node q = tt
asked components.QualifiedMinCount q = tt
asked components.QualifiedMaxCount q = tt
asked components.Closed q = tt
asked components.HasValue q = tt
asked components.In q = tt

pub reading_itself : (y : Reading) → SameReading y y
reading_itself y = record {
  path = λ p. (λ i. i, λ i. i);
  is_node_shape = (λ i. i, λ i. i);
  has = λ word v asked. (λ i. i, λ i. i);
  has_list = λ word takes n ms. (λ i. i, λ i. i);
  sibling = λ t. (λ i. i, λ i. i);
  allowed = λ p. (λ i. i, λ i. i);
  is_class = (λ i. i, λ i. i);
}

pub reading_back : (y z : Reading) → SameReading y z → SameReading z y
reading_back y z e = record {
  path = λ p. ((e.path p).1, (e.path p).0);
  is_node_shape = (e.is_node_shape.1, e.is_node_shape.0);
  has = λ word v asked. ((e.has word v asked).1, (e.has word v asked).0);
  has_list = λ word takes n ms. ((e.has_list word takes n ms).1, (e.has_list word takes n ms).0);
  sibling = λ t. ((e.sibling t).1, (e.sibling t).0);
  allowed = λ p. ((e.allowed p).1, (e.allowed p).0);
  is_class = (e.is_class.1, e.is_class.0);
}

module _ (y z : Reading) (e : SameReading y z) where
  pub compared_same : (p : Term) → IsCompared y p → IsCompared z p
  compared_same p = elim [
    | inl i ↦ inl ((e.has ShEquals p tt).0 i)
    | inr (inl i) ↦ inr (inl ((e.has ShDisjoint p tt).0 i))
    | inr (inr (inl i)) ↦ inr (inr (inl ((e.has ShLessThan p tt).0 i)))
    | inr (inr (inr i)) ↦ inr (inr (inr ((e.has ShLessThanOrEquals p tt).0 i)))
  ]

  count_same : HasQualifiedCount y → HasQualifiedCount z
  count_same h = (h.0, elim h.1 [ inl i ↦ inl ((e.has ShQualifiedMinCount h.0 tt).0 i) | inr i ↦ inr ((e.has ShQualifiedMaxCount h.0 tt).0 i) ])

  list_same : (word : ShapeProperty) → TakesMembers word → (t : Term) → HasMember y word t → HasMember z word t
  list_same word takes t h = (h.0, h.1, (e.has_list word takes h.0 h.1).0 h.2, h.3)

  pub refers_same : (t : Term) → Refers y t → Refers z t
  refers_same t = elim [
    | inl i ↦ inl ((e.has ShNot t tt).0 i)
    | inr (inl i) ↦ inr (inl ((e.has ShNode t tt).0 i))
    | inr (inr (inl i)) ↦ inr (inr (inl ((e.has ShProperty t tt).0 i)))
    | inr (inr (inr (inl i))) ↦ inr (inr (inr (inl (list_same ShAnd takes_and t i))))
    | inr (inr (inr (inr (inl i)))) ↦ inr (inr (inr (inr (inl (list_same ShOr takes_or t i)))))
    | inr (inr (inr (inr (inr (inl i))))) ↦ inr (inr (inr (inr (inr (inl (list_same ShXone takes_xone t i))))))
    | inr (inr (inr (inr (inr (inr (inl i)))))) ↦ inr (inr (inr (inr (inr (inr (inl (count_same i.0, (e.has ShQualifiedValueShape t tt).0 i.1)))))))
    | inr (inr (inr (inr (inr (inr (inr i)))))) ↦ inr (inr (inr (inr (inr (inr (inr (count_same i.0, (e.sibling t).0 i.1)))))))
  ]

flip : (y z : Reading) → SameReading y z → (a b : Surroundings) → SameSurroundings y a b → SameSurroundings z b a
flip y z e a b same = record {
  value_node = λ v. ((same.value_node v).1, (same.value_node v).0);
  instance = λ q v i w. let k = same.instance q v ((e.has ShClass q tt).1 i) ((same.value_node v).1 w) in (k.1, k.0);
  focus_value = λ q w i. let k = same.focus_value q w (compared_same z y (reading_back y z e) q i) in (k.1, k.0);
  triple = λ i v p o w. let k = same.triple ((e.has ShClosed true_literal tt).1 i) v p o ((same.value_node v).1 w) in (k.1, k.0);
  row = λ m v i w r. let k = same.row m v (refers_same z y (reading_back y z e) m i) ((same.value_node v).1 w) r in (k.1, k.0);
}

counts_same : (P Q : Term → Type 0) (n : ℕ) → ((v : Term) → P v ↔ Q v) → Counts P n → Counts Q n
counts_same P Q n e c = record {
  items = c.items;
  listing = record {
    ascending = c.listing.ascending;
    members = λ v. (λ i. (e v).0 ((c.listing.members v).0 i), λ p. (c.listing.members v).1 ((e v).1 p));
  };
  count = c.count;
}

one_same : (P Q : Term → Type 0) (ms : List Term) → ((m : Term) → IsMember ms m → P m ↔ Q m) → OneOf P ms → OneOf Q ms
one_same P Q [] e h = h
one_same P Q (m ∷ ms) e h = elim h [
  | inl x ↦ inl ((e m (inl refl)).0 x.0, λ k i p. x.1 k i ((e k (inr i)).1 p))
  | inr x ↦ inr (λ p. x.0 ((e m (inl refl)).1 p), one_same P Q ms (λ k i. e k (inr i)) x.1)
]

module _ (shape f : Term) (y z : Reading) (e : SameReading y z) (a b : Surroundings) (same : SameSurroundings y a b) where
  conform : (m v : Term) → Refers y m → a.value_node v → ConformsTo a m v ↔ ConformsTo b m v
  conform m v i w = (λ h r x. h r ((same.row m v i w r).1 x), λ h r x. h r ((same.row m v i w r).0 x))

  each : (row : Finding → ResultRow) (P Q : Term → Type 0) (r : ResultRow) → ((v : Term) → a.value_node v → P v → Q v) → ForEach a row P r → ForEach b row Q r
  each row P Q r to h = (h.0, (same.value_node h.0).0 h.1, to h.0 h.1 h.2, h.3)

  counted : (row : Finding → ResultRow) (P Q : Term → Type 0) (IsWrong : ℕ → Type 0) (r : ResultRow) → ((v : Term) → P v ↔ Q v) → ForCount row P IsWrong r → ForCount row Q IsWrong r
  counted row P Q IsWrong r k h = (h.0, counts_same P Q h.0 k h.1, h.2, h.3)

  of_list : (word : ShapeProperty) → TakesMembers word → (q : Term) (row : Finding → ResultRow) (P Q : List Term → Term → Type 0) (r : ResultRow)
      → ((ms : List Term) → y.has_list word q ms → (v : Term) → a.value_node v → P ms v → Q ms v)
      → ForEachOfList a y word q row P r → ForEachOfList b z word q row Q r
  of_list word takes q row P Q r to h = (h.0, (e.has_list word takes q h.0).0 h.1, each row (P h.0) (Q h.0) r (to h.0 h.1) h.2)

  pairs : (q : Term) (row : Finding → ResultRow) (P : Term → Term → Type 0) (r : ResultRow) → IsCompared y q → ForPairs a q row P r → ForPairs b q row P r
  pairs q row P r i h = (h.0, h.1, (same.value_node h.0).0 h.2, (same.focus_value q h.1 i).0 h.3, h.4, h.5)

  flags_same : (flags : List ℕ) → HasFlags z flags → HasFlags y flags
  flags_same flags = elim [
    | inl h ↦ inl (h.0, (e.has ShFlags h.0 tt).1 h.1, h.2)
    | inr h ↦ inr (λ q i. h.0 q ((e.has ShFlags q tt).0 i), h.1)
  ]

  qualify : (m : Term) → HasQualifiedCount y → y.has ShQualifiedValueShape m → (v : Term) → IsQualified a y m v ↔ IsQualified b z m v
  qualify m n i v = (
    λ h. (
      (same.value_node v).0 h.0,
      (conform m v (inr (inr (inr (inr (inr (inr (inl (n, i)))))))) h.0).0 h.1,
      λ k x c. let x_y : y.sibling k = (e.sibling k).1 x in h.2 k x_y ((conform k v (inr (inr (inr (inr (inr (inr (inr (n, x_y)))))))) h.0).1 c),
    ),
    λ h. let w : a.value_node v = (same.value_node v).1 h.0 in (
      w,
      (conform m v (inr (inr (inr (inr (inr (inr (inl (n, i)))))))) w).1 h.1,
      λ k x c. h.2 k ((e.sibling k).0 x) ((conform k v (inr (inr (inr (inr (inr (inr (inr (n, x)))))))) w).0 c),
    ),
  )

  qualified : (q : Term) → (y.has ShQualifiedMinCount q ⊎ y.has ShQualifiedMaxCount q) → (row : Finding → ResultRow) (IsWrong : ℕ → Type 0) (r : ResultRow) → ForQualifiedCount a y row IsWrong r → ForQualifiedCount b z row IsWrong r
  qualified q n row IsWrong r h = (h.0, (e.has ShQualifiedValueShape h.0 tt).0 h.1, counted row (IsQualified a y h.0) (IsQualified b z h.0) IsWrong r (qualify h.0 (q, n) h.1) h.2)

  -- the results at one value of the parameter
  keep : (c : Component) (q : Term) (row : Finding → ResultRow) (r : ResultRow) → y.has (parameter_of c) q → RowsOf c a y q row r → RowsOf c b z q row r
  keep components.Class q row r i h = each row (λ v. a.instance v q → ⊥) (λ v. b.instance v q → ⊥) r (λ v w x k. x ((same.instance q v i w).1 k)) h
  keep components.Datatype q row r i h = each row (λ v. IsOfDatatype q v → ⊥) (λ v. IsOfDatatype q v → ⊥) r (λ v w x. x) h
  keep components.NodeKind q row r i h = each row (λ v. IsOfKind q v → ⊥) (λ v. IsOfKind q v → ⊥) r (λ v w x. x) h
  keep components.MinCount q row r i h = counted row a.value_node b.value_node (λ n. IsFewer n q) r same.value_node h
  keep components.MaxCount q row r i h = counted row a.value_node b.value_node (λ n. IsMore n q) r same.value_node h
  keep components.MinExclusive q row r i h = each row (λ v. IsLess q v → ⊥) (λ v. IsLess q v → ⊥) r (λ v w x. x) h
  keep components.MinInclusive q row r i h = each row (λ v. IsAtMost q v → ⊥) (λ v. IsAtMost q v → ⊥) r (λ v w x. x) h
  keep components.MaxExclusive q row r i h = each row (λ v. IsLess v q → ⊥) (λ v. IsLess v q → ⊥) r (λ v w x. x) h
  keep components.MaxInclusive q row r i h = each row (λ v. IsAtMost v q → ⊥) (λ v. IsAtMost v q → ⊥) r (λ v w x. x) h
  keep components.MinLength q row r i h = each row (λ v. IsTooShort q v) (λ v. IsTooShort q v) r (λ v w x. x) h
  keep components.MaxLength q row r i h = each row (λ v. IsTooLong q v) (λ v. IsTooLong q v) r (λ v w x. x) h
  keep components.Pattern q row r i h = each row (λ v. ((flags : List ℕ) × HasFlags y flags × IsMatched q flags v) → ⊥) (λ v. ((flags : List ℕ) × HasFlags z flags × IsMatched q flags v) → ⊥) r
      (λ v w x k. x (k.0, flags_same k.0 k.1, k.2)) h
  keep components.LanguageIn q row r i h = of_list ShLanguageIn takes_languages q row (λ ms v. IsInLanguages ms v → ⊥) (λ ms v. IsInLanguages ms v → ⊥) r (λ ms l v w x. x) h
  keep components.UniqueLang q row r i h = (h.0, (h.1.0, h.1.1, h.1.2, h.1.3, (same.value_node h.1.1).0 h.1.4, (same.value_node h.1.2).0 h.1.5, h.1.6, h.1.7, h.1.8))
  keep components.Equals q row r i h = elim h [
    | inl x ↦ inl (each row (λ v. a.focus_value q v → ⊥) (λ v. b.focus_value q v → ⊥) r (λ v w x k. x ((same.focus_value q v (inl i)).1 k)) x)
    | inr x ↦ inr (x.0, (same.focus_value q x.0 (inl i)).0 x.1, λ k. x.2 ((same.value_node x.0).1 k), x.3)
  ]
  keep components.Disjoint q row r i h = each row (λ v. a.focus_value q v) (λ v. b.focus_value q v) r (λ v w x. (same.focus_value q v (inr (inl i))).0 x) h
  keep components.LessThan q row r i h = pairs q row IsLess r (inr (inr (inl i))) h
  keep components.LessThanOrEquals q row r i h = pairs q row IsAtMost r (inr (inr (inr i))) h
  keep components.Not q row r i h = each row (λ v. ConformsTo a q v) (λ v. ConformsTo b q v) r (λ v w x. (conform q v (inl i) w).0 x) h
  keep components.And q row r i h = of_list ShAnd takes_and q row (λ ms v. ((m : Term) → IsMember ms m → ConformsTo a m v) → ⊥) (λ ms v. ((m : Term) → IsMember ms m → ConformsTo b m v) → ⊥) r
      (λ ms l v w x k. x (λ m j. (conform m v (inr (inr (inr (inl (q, ms, l, j))))) w).1 (k m j))) h
  keep components.Or q row r i h = of_list ShOr takes_or q row (λ ms v. NoneOf (λ m. ConformsTo a m v) ms) (λ ms v. NoneOf (λ m. ConformsTo b m v) ms) r
      (λ ms l v w x m j k. x m j ((conform m v (inr (inr (inr (inr (inl (q, ms, l, j)))))) w).1 k)) h
  keep components.Xone q row r i h = of_list ShXone takes_xone q row (λ ms v. OneOf (λ m. ConformsTo a m v) ms → ⊥) (λ ms v. OneOf (λ m. ConformsTo b m v) ms → ⊥) r
      (λ ms l v w x k. x (one_same (λ m. ConformsTo b m v) (λ m. ConformsTo a m v) ms
      (λ m j. let c = conform m v (inr (inr (inr (inr (inr (inl (q, ms, l, j))))))) w in (c.1, c.0)) k)) h
  keep components.Node q row r i h = each row (λ v. ConformsTo a q v → ⊥) (λ v. ConformsTo b q v → ⊥) r (λ v w x k. x ((conform q v (inr (inl i)) w).1 k)) h
  keep components.QualifiedMinCount q row r i h = qualified q (inl i) row (λ n. IsFewer n q) r h
  keep components.QualifiedMaxCount q row r i h = qualified q (inr i) row (λ n. IsMore n q) r h
  keep components.Closed q row r i h =
      let closed : IsClosed y = subst (λ (x : Term). y.has ShClosed x) h.0 i in
      (h.0, (h.1.0, h.1.1, h.1.2, (same.value_node h.1.0).0 h.1.3, (same.triple closed h.1.0 h.1.1 h.1.2 h.1.3).0 h.1.4, λ k. h.1.5 ((e.allowed h.1.1).1 k), h.1.6))
  keep components.HasValue q row r i h = (λ k. h.0 ((same.value_node q).1 k), h.1)
  keep components.In q row r i h = of_list ShIn takes_in q row (λ ms v. IsMember ms v → ⊥) (λ ms v. IsMember ms v → ⊥) r (λ ms l v w x. x) h

  keep_row : (c : Component) (r : ResultRow) → ComponentRow c a y shape f r → ComponentRow c b z shape f r
  keep_row c r h = (h.0, (e.has (parameter_of c) h.0 (asked c h.0)).0 h.1, keep c h.0 (row_of c shape f h.0) r h.1 h.2)

  keep_all : (r : ResultRow) → AtIn a y shape f r → AtIn b z shape f r
  keep_all r h = (
    λ k. h.0 ((e.has ShDeactivated true_literal refl).1 k),
    elim h.1 [
      | inl x ↦ inl (x.0, keep_row x.0 r x.1)
      | inr x ↦ inr (x.0, (e.has ShProperty x.0 tt).0 x.1, (x.2.0, (same.value_node x.2.0).0 x.2.1, (same.row x.0 x.2.0 (inr (inr (inl x.1))) x.2.1 r).0 x.2.2))
    ],
  )

-- the one lemma of the components
pub at_same : (shape f : Term) (y z : Reading) → SameReading y z → (a b : Surroundings) → SameSurroundings y a b → (r : ResultRow) → AtIn a y shape f r ↔ AtIn b z shape f r
at_same shape f y z e a b same r = (keep_all shape f y z e a b same r, keep_all shape f z y (reading_back y z e) b a (flip y z e a b same) r)
