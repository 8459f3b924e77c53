-- The words of the vocabularies are IRIs that can be written and read again.
use Rattle.std.proofs.Common.{ℕ, refl, codes}
use lib.Utf8.{encode}
use Rattle.ntriples_text.specs.Laws.{IsIriText, IsReadableSubject, IsReadableIri, IsReadableObject}
use Rattle.turtle_reader.specs.Terms.{rdf, xsd}
use Rattle.turtle_reader.specs.Grammar.{rdf_type, rdf_first, rdf_rest, rdf_nil}
use Rattle.turtle_reader.proofs.IriTexts.{ascii_iri}

pub xsd_integer_text : IsIriText (xsd (codes "integer"))
unfolding xsd encode
xsd_integer_text = ascii_iri (xsd (codes "integer")) refl refl refl refl

pub xsd_decimal_text : IsIriText (xsd (codes "decimal"))
unfolding xsd encode
xsd_decimal_text = ascii_iri (xsd (codes "decimal")) refl refl refl refl

pub xsd_double_text : IsIriText (xsd (codes "double"))
unfolding xsd encode
xsd_double_text = ascii_iri (xsd (codes "double")) refl refl refl refl

pub xsd_boolean_text : IsIriText (xsd (codes "boolean"))
unfolding xsd encode
xsd_boolean_text = ascii_iri (xsd (codes "boolean")) refl refl refl refl

pub xsd_string_text : IsIriText (xsd (codes "string"))
unfolding xsd encode
xsd_string_text = ascii_iri (xsd (codes "string")) refl refl refl refl

pub rdf_type_text : IsReadableIri rdf_type
unfolding rdf rdf_type encode
rdf_type_text = ascii_iri (rdf (codes "type")) refl refl refl refl

pub rdf_first_text : IsReadableIri rdf_first
unfolding rdf rdf_first encode
rdf_first_text = ascii_iri (rdf (codes "first")) refl refl refl refl

pub rdf_rest_text : IsReadableIri rdf_rest
unfolding rdf rdf_rest encode
rdf_rest_text = ascii_iri (rdf (codes "rest")) refl refl refl refl

pub rdf_nil_subject : (IsNode : ℕ → ℕ → Type 0) → IsReadableSubject IsNode rdf_nil
unfolding rdf rdf_nil encode
rdf_nil_subject IsNode = ascii_iri (rdf (codes "nil")) refl refl refl refl

pub rdf_nil_object : (IsNode : ℕ → ℕ → Type 0) → IsReadableObject IsNode rdf_nil
unfolding rdf rdf_nil encode
rdf_nil_object IsNode = ascii_iri (rdf (codes "nil")) refl refl refl refl
