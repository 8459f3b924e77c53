-- The worked rows of the components hold.
use Rattle.std.proofs.Common.{◌≡◌, ℕ, ◌<◌, List, [], ◌∷◌, length, Option, Some, None, true, false, refl, sym, ap, subst, arith, inl, inr, codes, zero, suc, lit<, Bool}
use Rattle.std.specs.Prelude.{IsAscii, chars, ℤ, pos, int_lt}
use Rattle.std.proofs.lemmas.Str.{chars-IsAscii}
use Rattle.collections.proofs.Members.{has_cases, has_equal}
use Rattle.rdf_model.specs.declared.term.Term.{Term}
use Rattle.rdf_model.specs.declared.term.Term.TheVariants.{Blank, Iri, Literal}
use Rattle.literal_order.specs.Datatypes.{datatype_of, integer_type, is_in_range, local_datatype}
use Rattle.literal_order.specs.Digits.{fraction_number, fraction_of, whole_number}
use Rattle.literal_order.specs.Numerals.{decimal_reading, integer_reading}
use Rattle.literal_order.specs.Order.{less, less_or_equal}
use Rattle.literal_order.specs.Texts.{lang_matches, string_value}
use Rattle.literal_order.specs.Values.{lexical, reading}
use Rattle.literal_order.specs.declared.literal_value.Lexical.TheVariants.{IllTyped}
use Rattle.shape_model.specs.declared.component.Component.TheVariants as components
use Rattle.shape_model.specs.Components.{ConformsTo, IsQualified, OneOf, row_about}
use Rattle.shape_model.specs.Listings.{Counts}
use Rattle.shape_model.specs.TermTests.{IsAtMost, IsInLanguages, IsLess, IsOfDatatype, IsTooLong, count_of}
use Rattle.shape_model.specs.Triples.{IsMember}
use Rattle.shape_model.specs.Vocabulary.{ShQualifiedMaxCount, ShQualifiedMinCount, ShapeProperty, true_literal, xsd_integer}
use Rattle.validation_tests.specs.Components.{BoundExamples, CountExamples, LanguageExamples, LogicExamples, OtherExamples, PairExamples, PropertyExample, QualifiedExamples, TextExamples, TypeExamples, at_node, decimal, head, inner, node, other, qualified, tagged, typed, with_broken, word, xsd}
use Rattle.validation_tests.specs.Examples.{integer}

-- terms that differ in length
abbrev size : Term → ℕ
size (Blank session number) = 0
size (Iri iri) = length iri
size (Literal lexical datatype language) = length lexical

differ : (t u : Term) → t ≡ u → size t < size u → ⊥
differ t u e lt = let k : size t ≡ size u = ap size e in omega (arith, k)

-- a test that is met where it is to fail
met : (P : Term → Term → Type 0) (q v a b : Term) → q ≡ a → v ≡ b → P a b → (P q v → ⊥) → ⊥
met P q v a b e f p never = never (subst (λ (x : Term). P x v) (sym e) (subst (λ (y : Term). P a y) (sym f) p))

-- values of literals
abbrev five : Term
five = integer (codes "5")

abbrev sized : Term
sized = decimal (codes "5.")

abbrev half : Term
half = decimal (codes ".5")

ill : lexical (integer (codes "x")) ≡ IllTyped
unfolding reading datatype_of local_datatype integer_type integer_reading decimal_reading is_in_range whole_number fraction_number fraction_of xsd_integer
ill = refl

one_typed : lexical (integer (codes "1")) ≡ IllTyped → ⊥
unfolding reading datatype_of local_datatype integer_type integer_reading decimal_reading is_in_range whole_number fraction_number fraction_of xsd_integer
one_typed e = cc

not_below : less five sized ≡ Some false
unfolding reading datatype_of local_datatype integer_type integer_reading decimal_reading is_in_range whole_number fraction_number fraction_of xsd_integer
not_below = refl

not_above : less sized five ≡ Some false
unfolding reading datatype_of local_datatype integer_type integer_reading decimal_reading is_in_range whole_number fraction_number fraction_of xsd_integer
not_above = refl

half_below : less half five ≡ Some true
unfolding reading datatype_of local_datatype integer_type integer_reading decimal_reading is_in_range whole_number fraction_number fraction_of xsd_integer
half_below = refl

not_half : less_or_equal five half ≡ Some false
unfolding reading datatype_of local_datatype integer_type integer_reading decimal_reading is_in_range whole_number fraction_number fraction_of xsd_integer
not_half = refl

five_most : less_or_equal five sized ≡ Some true
unfolding reading datatype_of local_datatype integer_type integer_reading decimal_reading is_in_range whole_number fraction_number fraction_of xsd_integer
five_most = refl

no_order : less_or_equal node five ≡ None
unfolding reading datatype_of local_datatype integer_type integer_reading decimal_reading is_in_range whole_number fraction_number fraction_of xsd_integer
no_order = refl

not_itself : less five five ≡ Some false
unfolding reading datatype_of local_datatype integer_type integer_reading decimal_reading is_in_range whole_number fraction_number fraction_of xsd_integer
not_itself = refl

itself : less_or_equal five five ≡ Some true
unfolding reading datatype_of local_datatype integer_type integer_reading decimal_reading is_in_range whole_number fraction_number fraction_of xsd_integer
itself = refl

not_three : less_or_equal five (integer (codes "3")) ≡ Some false
unfolding reading datatype_of local_datatype integer_type integer_reading decimal_reading is_in_range whole_number fraction_number fraction_of xsd_integer
not_three = refl

none_true : (o : Option Bool) → o ≡ None → o ≡ Some true → ⊥
none_true o e k = cc (e, k)

false_true : (o : Option Bool) → o ≡ Some false → o ≡ Some true → ⊥
false_true o e k = cc (e, k)

count_zero : count_of (integer (codes "0")) ≡ Some (pos 0)
unfolding count_of reading datatype_of local_datatype integer_type integer_reading is_in_range whole_number xsd_integer
count_zero = refl

count_one : count_of (integer (codes "1")) ≡ Some (pos 1)
unfolding count_of reading datatype_of local_datatype integer_type integer_reading is_in_range whole_number xsd_integer
count_one = refl

count_two : count_of (integer (codes "2")) ≡ Some (pos 2)
unfolding count_of reading datatype_of local_datatype integer_type integer_reading is_in_range whole_number xsd_integer
count_two = refl

-- one term of which something holds
alone : (P : Term → Type 0) (x : Term) → P x → ((v : Term) → P v → v ≡ x) → Counts P 1
alone P x p only = record {
  items = x ∷ [];
  listing = record {
    ascending = (tt, tt);
    members = λ v. (λ c. elim (has_cases x [] v c) [ inl e ↦ subst P e p | inr d ↦ absurd (omega arith) ], λ h. has_equal x [] v (sym (only v h)));
  };
  count = refl;
}

datatype_is : xsd (codes "integer") ≡ Iri xsd_integer
unfolding xsd_integer
datatype_is = refl

pub type_examples : TypeExamples
type_examples = (
  (word, (refl, refl), (node, refl, λ k. k, refl)),
  (xsd (codes "integer"), (refl, refl), (integer (codes "x"), refl, λ k. k.1 ill, refl)),
  λ r h. met IsOfDatatype h.0 h.2.0 (xsd (codes "integer")) (integer (codes "1")) h.1.1 h.2.1 (datatype_is, one_typed) h.2.2,
)

pub count_examples : CountExamples
count_examples = (integer (codes "0"), (refl, refl), (1, alone (λ v. v ≡ node) node refl (λ v e. e), (pos 0, count_zero, refl), refl))

pub bound_examples : BoundExamples
bound_examples = (
  (five, (refl, refl), (sized, refl, λ k. false_true (less five sized) not_below k, refl)),
  (five, (refl, refl), (half, refl, λ k. false_true (less_or_equal five half) not_half k, refl)),
  λ r h. met IsAtMost h.0 h.2.0 five sized h.1.1 h.2.1 five_most h.2.2,
  (five, (refl, refl), (sized, refl, λ k. false_true (less sized five) not_above k, refl)),
  λ r h. met (λ q v. IsLess v q) h.0 h.2.0 five half h.1.1 h.2.1 half_below h.2.2,
  (five, (refl, refl), (node, refl, λ k. none_true (less_or_equal node five) no_order k, refl)),
)

-- texts of one and of two characters
ascii_x : IsAscii (codes "x")
ascii_x zero = lit< tt
ascii_x (suc i) = lit< tt

ascii_xy : IsAscii (codes "xy")
ascii_xy zero = lit< tt
ascii_xy (suc zero) = lit< tt
ascii_xy (suc (suc i)) = lit< tt

one_long : length (chars (codes "x")) ≡ 1
one_long = ap length (chars-IsAscii (codes "x") ascii_x)

two_long : length (chars (codes "xy")) ≡ 2
two_long = ap length (chars-IsAscii (codes "xy") ascii_xy)

abbrev letter : Term
letter = typed (codes "x") (codes "string")

not_long : IsTooLong (integer (codes "1")) letter → ⊥
not_long h = elim h [
  | inl e ↦ cc
  | inr k ↦
      let text : codes "x" ≡ k.0 = cc (k.1) in
      let count : pos 1 ≡ k.2.0 = cc (count_one, k.2.1) in
      let many : int_lt (pos 1) (pos (length (chars k.0))) ≡ true = subst (λ (m : ℤ). int_lt m (pos (length (chars k.0))) ≡ true) (sym count) k.2.2 in
      let size : length (chars k.0) ≡ 1 = subst (λ (s : List ℕ). length (chars s) ≡ 1) text one_long in
      let never : int_lt (pos 1) (pos 1) ≡ true = subst (λ (n : ℕ). int_lt (pos 1) (pos n) ≡ true) size many in
      cc
]

pub text_examples : TextExamples
text_examples = (
  (integer (codes "2"), (refl, refl), (letter, refl, inr (codes "x", refl, (pos 2, count_two, subst (λ (n : ℕ). int_lt (pos n) (pos 2) ≡ true) (sym one_long) refl)), refl)),
  (integer (codes "1"), (refl, refl), (typed (codes "xy") (codes "string"), refl, inr (codes "xy", refl, (pos 1, count_one, subst (λ (n : ℕ). int_lt (pos 1) (pos n) ≡ true) (sym two_long) refl)), refl)),
  λ r h. not_long (subst (λ (v : Term). IsTooLong (integer (codes "1")) v) h.2.1 (subst (λ (q : Term). IsTooLong q h.2.0) h.1.1 h.2.2)),
  (integer (codes "0"), (refl, refl), (head, refl, inl refl, refl)),
  (typed (codes "^a+$") (codes "string"), (refl, refl), (head, refl, λ k. let e : None ≡ Some k.2.1 = k.2.3 in cc, refl)),
)

no_language : lang_matches (codes "de") (codes "en") ≡ false
unfolding lang_matches
no_language = refl

a_language : lang_matches (codes "en-us") (codes "en") ≡ true
unfolding lang_matches
a_language = refl

abbrev english : Term
english = typed (codes "en") (codes "string")

not_german : IsInLanguages (english ∷ []) (tagged (codes "x") (codes "de")) → ⊥
not_german h = elim h.4 [
  | inl e ↦
      let tag : codes "de" ≡ h.0 = cc (h.3) in
      let text : string_value english ≡ Some h.2 = subst (λ (m : Term). string_value m ≡ Some h.2) (sym e) h.5 in
      let range : codes "en" ≡ h.2 = cc (text) in
      let found : lang_matches (codes "de") (codes "en") ≡ true = subst (λ (t : List ℕ). lang_matches t (codes "en") ≡ true) (sym tag) (subst (λ (s : List ℕ). lang_matches h.0 s ≡ true) (sym range) h.6) in
      cc (found, no_language)
  | inr never ↦ never
]

-- a test of a list that is met where it is to fail
listed : (P : List Term → Term → Type 0) (ms ns : List Term) (v a : Term) → ms ≡ ns → v ≡ a → P ns a → (P ms v → ⊥) → ⊥
listed P ms ns v a e f p never = never (subst (λ (l : List Term). P l v) (sym e) (subst (λ (x : Term). P ns x) (sym f) p))

pub language_examples : LanguageExamples
language_examples = (
  (head, (refl, refl), (english ∷ [], (refl, refl, refl), (tagged (codes "x") (codes "de"), refl, not_german, refl))),
  λ r h. listed IsInLanguages h.2.0 (english ∷ []) h.2.2.0 (tagged (codes "x") (codes "en-us")) h.2.1.2 h.2.2.1 (codes "en-us", english, codes "en", refl, inl refl, refl, a_language) h.2.2.2,
  (true_literal, (refl, refl), (refl, (codes "en", tagged (codes "x") (codes "en"), tagged (codes "yy") (codes "en"), λ e. differ (tagged (codes "x") (codes "en")) (tagged (codes "yy") (codes "en")) e (omega arith), inl refl, inr refl, refl, refl, refl))),
)

pub pair_examples : PairExamples
pair_examples = (
  (word, (refl, refl), inr (other, (refl, refl), λ e. differ node other (sym e) (omega arith), refl)),
  (word, (refl, refl), inl (node, refl, λ k. differ node other k.1 (omega arith), refl)),
  (word, (refl, refl), (node, refl, (refl, refl), refl)),
  (word, (refl, refl), (five, five, refl, (refl, refl), λ k. false_true (less five five) not_itself k, refl)),
  (word, (refl, refl), (five, integer (codes "3"), refl, (refl, refl), λ k. false_true (less_or_equal five (integer (codes "3"))) not_three k, refl)),
  λ r h. met IsAtMost h.2.0 h.2.1 five five h.2.2 h.2.3.1 itself h.2.4,
)

pub logic_examples : LogicExamples
logic_examples = (
  (inner, (refl, refl), (node, refl, λ r x. x.0, refl)),
  (head, (refl, refl), (other ∷ inner ∷ [], (refl, refl, refl), (node, refl, λ all. all inner (inr (inl refl)) (row_about components.Class inner node word node) (refl, refl), refl))),
  (head, (refl, refl), (inner ∷ [], (refl, refl, refl), (node, refl, λ m i k. elim i [ inl e ↦ k (row_about components.Class m node word node) (sym e, refl) | inr never ↦ never ], refl))),
  (head, (refl, refl), (inner ∷ inner ∷ [], (refl, refl, refl), (node, refl, λ one. elim one [ inl x ↦ x.1 inner (inl refl) (λ r i. i.0) | inr x ↦ x.0 (λ r i. i.0) ], refl))),
  λ r h. listed (λ ms v. OneOf (λ m. ConformsTo (with_broken inner) m v) ms) h.2.0 (inner ∷ other ∷ []) h.2.2.0 node h.2.1.2 h.2.2.1
      (inr (λ k. k (row_about components.Class inner node word node) (refl, refl), inl (λ r x. differ inner other (sym x.0) (omega arith), λ m i k. i))) h.2.2.2,
  (inner, (refl, refl), (node, refl, λ k. k (row_about components.Class inner node word node) (refl, refl), refl)),
)

-- the one qualified value node
qualified_one : (p : ShapeProperty) (q : Term) → Counts (IsQualified (at_node node) (qualified p q) inner) 1
qualified_one p q = alone (IsQualified (at_node node) (qualified p q) inner) node (refl, λ r x. x.0, λ k never c. never) (λ v h. h.0)

pub qualified_examples : QualifiedExamples
qualified_examples = (
  (integer (codes "2"), inl (refl, refl), (inner, inr (refl, refl), (1, qualified_one ShQualifiedMinCount (integer (codes "2")), (pos 2, count_two, refl), refl))),
  (integer (codes "0"), inl (refl, refl), (inner, inr (refl, refl), (1, qualified_one ShQualifiedMaxCount (integer (codes "0")), (pos 0, count_zero, refl), refl))),
)

pub other_examples : OtherExamples
other_examples = (
  (true_literal, (refl, refl), (refl, (node, word, other, refl, (refl, refl, refl), λ k. k, refl))),
  (other, (refl, refl), (λ e. differ node other (sym e) (omega arith), refl)),
  (head, (refl, refl), (decimal (codes "5.0") ∷ [], (refl, refl, refl), (sized, refl, λ i. elim i [ inl e ↦ differ sized (decimal (codes "5.0")) (sym e) (omega arith) | inr never ↦ never ], refl))),
  λ r h. listed IsMember h.2.0 (node ∷ []) h.2.2.0 node h.2.1.2 h.2.2.1 (inl refl) h.2.2.2,
)

pub property_example : PropertyExample
property_example = (inner, (refl, refl), (node, refl, (refl, refl)))
