-- Worked texts.
use Rattle.std.proofs.Common.{◌≡◌, ℕ, List, [], ◌∷◌, ◌++◌, Ok, Err, refl}
use Rattle.std.specs.Prelude.{codes, None}
use Rattle.rdf_model.specs.declared.term.Term.{Term}
use Rattle.rdf_model.specs.declared.term.Term.TheVariants.{Blank, Iri, Literal}
use Rattle.rdf_model.specs.declared.triple.Triple.{Triple}
use Rattle.iri_ref.specs.Resolution.{resolved}
use Rattle.iri_ref.specs.Components.{components}
use Rattle.iri_ref.specs.DotSegments.{without_dot_segments}
use Rattle.rdf_lexical.specs.declared.refusal.RefusalKind.TheVariants.{UnexpectedToken, UndeclaredPrefix, RelativeIri, FloatingPoint, TooDeep, BlankPredicate, UnexpectedEnd}
use Rattle.turtle_reader.specs.Parsers.{many}
use Rattle.turtle_reader.specs.Tokens.{next, is_next, is_other, is_unfinished, expected, where_next}
use Rattle.turtle_reader.specs.Terms.{rdf, xsd, iri, fresh, labelled, kept, tagged, typed}
use Rattle.turtle_reader.specs.Grammar.{found, rdf_type, rdf_first, rdf_rest, rdf_nil, verb, more_objects, more_verbs, square, collection, object, prefix_declared, base_declared, statement, turtle_doc}
use Rattle.turtle_reader.specs.Document.{text_read, graph_of, found_by, opening}
use Rattle.literal_order.specs.Values as values
use Rattle.literal_order.specs.Datatypes as datatypes
use Rattle.literal_order.specs.Numerals as numerals
use Rattle.literal_order.specs.Digits as digits
use lib.Utf8.{encode}

abbrev t : Term → Term → Term → Triple
t a b c = record { subject = a; predicate = b; object = c }

abbrev e : List ℕ → Term
e w = Iri (codes "e:" ++ w)

abbrev b : ℕ → Term
b n = Blank 1 n

abbrev r : List ℕ → Term
r w = Iri (codes "http://www.w3.org/1999/02/22-rdf-syntax-ns#" ++ w)

abbrev one : Term
one = Literal (codes "1") (codes "http://www.w3.org/2001/XMLSchema#integer") None

plain_triple : text_read (codes "<e:a> <e:p> <e:b> .") 1 1 ≡ Ok (t (e (codes "a")) (e (codes "p")) (e (codes "b")) ∷ [], 1)
unfolding many next is_next is_other is_unfinished expected where_next rdf xsd iri fresh labelled kept tagged typed found rdf_type rdf_first rdf_rest rdf_nil verb more_objects more_verbs square collection object prefix_declared base_declared statement turtle_doc resolved components without_dot_segments encode values.reading datatypes.datatype_of datatypes.local_datatype datatypes.integer_type datatypes.is_in_range numerals.integer_reading numerals.decimal_reading numerals.boolean_reading digits.whole_number digits.fraction_number digits.fraction_of
plain_triple = refl

nodes_of_list : text_read (codes "<e:a> <e:p> ( [ ] 1 ) .") 1 1 ≡ Ok (t (b 1) (r (codes "first")) (b 2) ∷ t (b 1) (r (codes "rest")) (b 3) ∷ t (b 3) (r (codes "first")) one ∷ t (b 3) (r (codes "rest")) (r (codes "nil")) ∷ t (e (codes "a")) (e (codes "p")) (b 1) ∷ [], 4)
unfolding many next is_next is_other is_unfinished expected where_next rdf xsd iri fresh labelled kept tagged typed found rdf_type rdf_first rdf_rest rdf_nil verb more_objects more_verbs square collection object prefix_declared base_declared statement turtle_doc resolved components without_dot_segments encode values.reading datatypes.datatype_of datatypes.local_datatype datatypes.integer_type datatypes.is_in_range numerals.integer_reading numerals.decimal_reading numerals.boolean_reading digits.whole_number digits.fraction_number digits.fraction_of
nodes_of_list = refl

prefix_and_label : text_read (codes "@prefix e: <e:> . e:a a e:C , e:D ; e:p _:x ; .") 1 1 ≡ Ok (t (e (codes "a")) (e (codes "p")) (b 1) ∷ t (e (codes "a")) (r (codes "type")) (e (codes "C")) ∷ t (e (codes "a")) (r (codes "type")) (e (codes "D")) ∷ [], 2)
unfolding many next is_next is_other is_unfinished expected where_next rdf xsd iri fresh labelled kept tagged typed found rdf_type rdf_first rdf_rest rdf_nil verb more_objects more_verbs square collection object prefix_declared base_declared statement turtle_doc resolved components without_dot_segments encode values.reading datatypes.datatype_of datatypes.local_datatype datatypes.integer_type datatypes.is_in_range numerals.integer_reading numerals.decimal_reading numerals.boolean_reading digits.whole_number digits.fraction_number digits.fraction_of
prefix_and_label = refl

nested_properties : text_read (codes "[ <e:p> [ <e:q> () ] ] <e:r> _:l .") 1 1 ≡ Ok (t (b 1) (e (codes "p")) (b 2) ∷ t (b 1) (e (codes "r")) (b 3) ∷ t (b 2) (e (codes "q")) (r (codes "nil")) ∷ [], 4)
unfolding many next is_next is_other is_unfinished expected where_next rdf xsd iri fresh labelled kept tagged typed found rdf_type rdf_first rdf_rest rdf_nil verb more_objects more_verbs square collection object prefix_declared base_declared statement turtle_doc resolved components without_dot_segments encode values.reading datatypes.datatype_of datatypes.local_datatype datatypes.integer_type datatypes.is_in_range numerals.integer_reading numerals.decimal_reading numerals.boolean_reading digits.whole_number digits.fraction_number digits.fraction_of
nested_properties = refl

subject_list : text_read (codes "( <e:a> ) <e:p> <e:b> . ") 1 1 ≡ Ok (t (b 1) (e (codes "p")) (e (codes "b")) ∷ t (b 1) (r (codes "first")) (e (codes "a")) ∷ t (b 1) (r (codes "rest")) (r (codes "nil")) ∷ [], 2)
unfolding many next is_next is_other is_unfinished expected where_next rdf xsd iri fresh labelled kept tagged typed found rdf_type rdf_first rdf_rest rdf_nil verb more_objects more_verbs square collection object prefix_declared base_declared statement turtle_doc resolved components without_dot_segments encode values.reading datatypes.datatype_of datatypes.local_datatype datatypes.integer_type datatypes.is_in_range numerals.integer_reading numerals.decimal_reading numerals.boolean_reading digits.whole_number digits.fraction_number digits.fraction_of
subject_list = refl

base_again : text_read (codes "@base <e:/a/b> . BASE <c/d> <../g> <e:p> <e:b> .") 1 1 ≡ Ok (t (e (codes "/a/g")) (e (codes "p")) (e (codes "b")) ∷ [], 1)
unfolding many next is_next is_other is_unfinished expected where_next rdf xsd iri fresh labelled kept tagged typed found rdf_type rdf_first rdf_rest rdf_nil verb more_objects more_verbs square collection object prefix_declared base_declared statement turtle_doc resolved components without_dot_segments encode values.reading datatypes.datatype_of datatypes.local_datatype datatypes.integer_type datatypes.is_in_range numerals.integer_reading numerals.decimal_reading numerals.boolean_reading digits.whole_number digits.fraction_number digits.fraction_of
base_again = refl

end_in_statement : text_read (codes "<e:a> <e:p>\n") 1 1 ≡ Err (2, UnexpectedEnd)
unfolding many next is_next is_other is_unfinished expected where_next rdf xsd iri fresh labelled kept tagged typed found rdf_type rdf_first rdf_rest rdf_nil verb more_objects more_verbs square collection object prefix_declared base_declared statement turtle_doc resolved components without_dot_segments encode values.reading datatypes.datatype_of datatypes.local_datatype datatypes.integer_type datatypes.is_in_range numerals.integer_reading numerals.decimal_reading numerals.boolean_reading digits.whole_number digits.fraction_number digits.fraction_of
end_in_statement = refl

blank_predicate : text_read (codes "<e:a> _:b <e:c> .") 1 1 ≡ Err (1, BlankPredicate)
unfolding many next is_next is_other is_unfinished expected where_next rdf xsd iri fresh labelled kept tagged typed found rdf_type rdf_first rdf_rest rdf_nil verb more_objects more_verbs square collection object prefix_declared base_declared statement turtle_doc resolved components without_dot_segments encode values.reading datatypes.datatype_of datatypes.local_datatype datatypes.integer_type datatypes.is_in_range numerals.integer_reading numerals.decimal_reading numerals.boolean_reading digits.whole_number digits.fraction_number digits.fraction_of
blank_predicate = refl

blank_after_semicolon : text_read (codes "<e:a> <e:p> <e:b> ; [ ] .") 1 1 ≡ Err (1, BlankPredicate)
unfolding many next is_next is_other is_unfinished expected where_next rdf xsd iri fresh labelled kept tagged typed found rdf_type rdf_first rdf_rest rdf_nil verb more_objects more_verbs square collection object prefix_declared base_declared statement turtle_doc resolved components without_dot_segments encode values.reading datatypes.datatype_of datatypes.local_datatype datatypes.integer_type datatypes.is_in_range numerals.integer_reading numerals.decimal_reading numerals.boolean_reading digits.whole_number digits.fraction_number digits.fraction_of
blank_after_semicolon = refl

blank_after_object : text_read (codes "<e:a> <e:p> <e:b> [ ] .") 1 1 ≡ Err (1, UnexpectedToken)
unfolding many next is_next is_other is_unfinished expected where_next rdf xsd iri fresh labelled kept tagged typed found rdf_type rdf_first rdf_rest rdf_nil verb more_objects more_verbs square collection object prefix_declared base_declared statement turtle_doc resolved components without_dot_segments encode values.reading datatypes.datatype_of datatypes.local_datatype datatypes.integer_type datatypes.is_in_range numerals.integer_reading numerals.decimal_reading numerals.boolean_reading digits.whole_number digits.fraction_number digits.fraction_of
blank_after_object = refl

unknown_prefix : text_read (codes "<e:a> <e:p> x:c .") 1 1 ≡ Err (1, UndeclaredPrefix)
unfolding many next is_next is_other is_unfinished expected where_next rdf xsd iri fresh labelled kept tagged typed found rdf_type rdf_first rdf_rest rdf_nil verb more_objects more_verbs square collection object prefix_declared base_declared statement turtle_doc resolved components without_dot_segments encode values.reading datatypes.datatype_of datatypes.local_datatype datatypes.integer_type datatypes.is_in_range numerals.integer_reading numerals.decimal_reading numerals.boolean_reading digits.whole_number digits.fraction_number digits.fraction_of
unknown_prefix = refl

no_base : text_read (codes "<e:a> <e:p> <b> .") 1 1 ≡ Err (1, RelativeIri)
unfolding many next is_next is_other is_unfinished expected where_next rdf xsd iri fresh labelled kept tagged typed found rdf_type rdf_first rdf_rest rdf_nil verb more_objects more_verbs square collection object prefix_declared base_declared statement turtle_doc resolved components without_dot_segments encode values.reading datatypes.datatype_of datatypes.local_datatype datatypes.integer_type datatypes.is_in_range numerals.integer_reading numerals.decimal_reading numerals.boolean_reading digits.whole_number digits.fraction_number digits.fraction_of
no_base = refl

prefix_without_dot : text_read (codes "@prefix e: <e:>\n<e:a> <e:p> <e:b> .") 1 1 ≡ Err (2, UnexpectedToken)
unfolding many next is_next is_other is_unfinished expected where_next rdf xsd iri fresh labelled kept tagged typed found rdf_type rdf_first rdf_rest rdf_nil verb more_objects more_verbs square collection object prefix_declared base_declared statement turtle_doc resolved components without_dot_segments encode values.reading datatypes.datatype_of datatypes.local_datatype datatypes.integer_type datatypes.is_in_range numerals.integer_reading numerals.decimal_reading numerals.boolean_reading digits.whole_number digits.fraction_number digits.fraction_of
prefix_without_dot = refl

double_refused : text_read (codes "<e:a> <e:p> 1e0 .") 1 1 ≡ Err (1, FloatingPoint)
unfolding many next is_next is_other is_unfinished expected where_next rdf xsd iri fresh labelled kept tagged typed found rdf_type rdf_first rdf_rest rdf_nil verb more_objects more_verbs square collection object prefix_declared base_declared statement turtle_doc resolved components without_dot_segments encode values.reading datatypes.datatype_of datatypes.local_datatype datatypes.integer_type datatypes.is_in_range numerals.integer_reading numerals.decimal_reading numerals.boolean_reading digits.whole_number digits.fraction_number digits.fraction_of
double_refused = refl

anonymous_alone : text_read (codes "[ ] .") 1 1 ≡ Err (1, UnexpectedToken)
unfolding many next is_next is_other is_unfinished expected where_next rdf xsd iri fresh labelled kept tagged typed found rdf_type rdf_first rdf_rest rdf_nil verb more_objects more_verbs square collection object prefix_declared base_declared statement turtle_doc resolved components without_dot_segments encode values.reading datatypes.datatype_of datatypes.local_datatype datatypes.integer_type datatypes.is_in_range numerals.integer_reading numerals.decimal_reading numerals.boolean_reading digits.whole_number digits.fraction_number digits.fraction_of
anonymous_alone = refl

properties_alone : text_read (codes "[ <e:p> <e:b> ] .") 1 1 ≡ Ok (t (b 1) (e (codes "p")) (e (codes "b")) ∷ [], 2)
unfolding many next is_next is_other is_unfinished expected where_next rdf xsd iri fresh labelled kept tagged typed found rdf_type rdf_first rdf_rest rdf_nil verb more_objects more_verbs square collection object prefix_declared base_declared statement turtle_doc resolved components without_dot_segments encode values.reading datatypes.datatype_of datatypes.local_datatype datatypes.integer_type datatypes.is_in_range numerals.integer_reading numerals.decimal_reading numerals.boolean_reading digits.whole_number digits.fraction_number digits.fraction_of
properties_alone = refl

bad_token_first : text_read (codes "<e:a> <e:p> x:c ! .") 1 1 ≡ Err (1, UndeclaredPrefix)
unfolding many next is_next is_other is_unfinished expected where_next rdf xsd iri fresh labelled kept tagged typed found rdf_type rdf_first rdf_rest rdf_nil verb more_objects more_verbs square collection object prefix_declared base_declared statement turtle_doc resolved components without_dot_segments encode values.reading datatypes.datatype_of datatypes.local_datatype datatypes.integer_type datatypes.is_in_range numerals.integer_reading numerals.decimal_reading numerals.boolean_reading digits.whole_number digits.fraction_number digits.fraction_of
bad_token_first = refl

too_deep : graph_of (found_by (turtle_doc (codes "<e:a> <e:p> ( [ <e:p> (") 1 (opening (codes "<e:a> <e:p> ( [ <e:p> (") 1 1))) ≡ Err (1, TooDeep)
unfolding many next is_next is_other is_unfinished expected where_next rdf xsd iri fresh labelled kept tagged typed found rdf_type rdf_first rdf_rest rdf_nil verb more_objects more_verbs square collection object prefix_declared base_declared statement turtle_doc resolved components without_dot_segments encode values.reading datatypes.datatype_of datatypes.local_datatype datatypes.integer_type datatypes.is_in_range numerals.integer_reading numerals.decimal_reading numerals.boolean_reading digits.whole_number digits.fraction_number digits.fraction_of
too_deep = refl

deep_enough : graph_of (found_by (turtle_doc (codes "<e:a> <e:p> ( [ <e:p> )") 1 (opening (codes "<e:a> <e:p> ( [ <e:p> )") 1 1))) ≡ Err (1, UnexpectedToken)
unfolding many next is_next is_other is_unfinished expected where_next rdf xsd iri fresh labelled kept tagged typed found rdf_type rdf_first rdf_rest rdf_nil verb more_objects more_verbs square collection object prefix_declared base_declared statement turtle_doc resolved components without_dot_segments encode values.reading datatypes.datatype_of datatypes.local_datatype datatypes.integer_type datatypes.is_in_range numerals.integer_reading numerals.decimal_reading numerals.boolean_reading digits.whole_number digits.fraction_number digits.fraction_of
deep_enough = refl
