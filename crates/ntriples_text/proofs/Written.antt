-- The characters of written triples, each before what follows it.
use Rattle.std.proofs.Common.{◌≡◌, ◌∙◌, ℕ, Bool, true, false, cond, eqb, List, [], ◌∷◌, ◌++◌, Option, Some, None, refl, sym, ap, append_assoc, codes}
use Rattle.std.specs.Prelude.{encode_utf8, bytes_eq}
use Rattle.std.specs.List.{AllByRecursion, flat_map}
use Rattle.std.specs.Str.{IsUtf8, chars}
use Rattle.std.proofs.lemmas.Str.{encodes-chars, encodes-append, scalars-chars}
use Rattle.std.proofs.lemmas.Bool.{and_parts, and_from}
use lib.Utf8.{encodes, encode, scalars, scalar}
use Rattle.rdf_model.specs.declared.term.Term.{Term}
use Rattle.rdf_model.specs.declared.term.Term.TheVariants.{Blank, Iri, Literal}
use Rattle.rdf_model.specs.declared.triple.Triple.{Triple}
use Rattle.rdf_model.specs.NTriples.{xsd_string, escaped, literal_suffix, term_text}
use Rattle.ntriples_text.specs.Writing.{written}
use Rattle.ntriples_text.specs.Laws.{IsReadableSubject, IsReadableIri, IsReadableObject, IsReadable}
use Rattle.ntriples_text.specs.declared.statement.LabelKind.{LabelKind}
use Rattle.ntriples_text.proofs.StoreNodes.{IsNodeOf, blank_text, encodes_label, node_label, plain_label, plain_scalars, stored_of}

abbrev pub in_angles : List ℕ → List ℕ → List ℕ
in_angles a rest = 60 ∷ (chars a ++ 62 ∷ rest)

-- a character of a string, which is escaped where it must be
abbrev pub escape_chars : ℕ → List ℕ
escape_chars c = cond (eqb c 34) (92 ∷ 34 ∷ []) (cond (eqb c 92) (92 ∷ 92 ∷ []) (cond (eqb c 10) (92 ∷ 110 ∷ []) (cond (eqb c 13) (92 ∷ 114 ∷ []) (c ∷ []))))

abbrev pub all_escaped : List ℕ → List ℕ → List ℕ
all_escaped [] rest = rest
all_escaped (c ∷ cs) rest = escape_chars c ++ all_escaped cs rest

abbrev pub in_quotes : List ℕ → List ℕ → List ℕ
in_quotes l rest = 34 ∷ all_escaped (chars l) (34 ∷ rest)

abbrev pub suffix_chars : List ℕ → Bool → List ℕ → List ℕ
suffix_chars d same rest = cond same rest (94 ∷ 94 ∷ in_angles d rest)

abbrev pub end_chars : List ℕ → Option (List ℕ) → List ℕ → List ℕ
end_chars d None rest = suffix_chars d (bytes_eq d xsd_string) rest
end_chars d (Some tag) rest = 64 ∷ (chars tag ++ rest)

abbrev pub iri_chars : Term → List ℕ → List ℕ
iri_chars (Iri a) rest = in_angles a rest
iri_chars (Blank s n) rest = rest
iri_chars (Literal l d t) rest = rest

abbrev pub object_chars : Term → List ℕ → List ℕ
object_chars (Iri a) rest = in_angles a rest
object_chars (Blank s n) rest = 95 ∷ 58 ∷ (node_label s n ++ rest)
object_chars (Literal l d t) rest = in_quotes l (end_chars d t rest)

abbrev pub parts_chars : Term → Term → Term → List ℕ → List ℕ
parts_chars s p o rest = object_chars s (32 ∷ iri_chars p (32 ∷ object_chars o (32 ∷ 46 ∷ 10 ∷ rest)))

abbrev pub all_chars : List Triple → List ℕ
all_chars [] = []
all_chars (t ∷ ts) = parts_chars t.subject t.predicate t.object (all_chars ts)

-- a subject may be an object
pub as_object : (IsNode : ℕ → ℕ → Type 0) (t : Term) → IsReadableSubject IsNode t → IsReadableObject IsNode t
as_object IsNode (Iri a) r = r
as_object IsNode (Blank s n) r = r
as_object IsNode (Literal l d t) r = absurd r

-- their bytes
encodes-in_angles : (a rest : List ℕ) → IsUtf8 a → encodes (in_angles a rest) ≡ 60 ∷ (a ++ 62 ∷ encodes rest)
unfolding encode
encodes-in_angles a rest u = ap (λ x. 60 ∷ x) (encodes-append (chars a) (62 ∷ rest) ∙ ap (λ b. b ++ 62 ∷ encodes rest) (encodes-chars a u))

encodes-escaped : (c : ℕ) (more : List ℕ) → encodes (escape_chars c ++ more) ≡ escaped c ++ encodes more
unfolding encode
encodes-escaped c more =
    let last : Bool → List ℕ = λ b. cond b (92 ∷ 114 ∷ []) (c ∷ []) in
    let last' : Bool → List ℕ = λ b. cond b (92 ∷ 114 ∷ []) (encode_utf8 c) in
    elim (eqb c 34) as (λ b. encodes (cond b (92 ∷ 34 ∷ []) (cond (eqb c 92) (92 ∷ 92 ∷ []) (cond (eqb c 10) (92 ∷ 110 ∷ []) (last (eqb c 13)))) ++ more) ≡ cond b (92 ∷ 34 ∷ []) (cond (eqb c 92) (92 ∷ 92 ∷ []) (cond (eqb c 10) (92 ∷ 110 ∷ []) (last' (eqb c 13)))) ++ encodes more) [
      | true ↦ refl
      | false ↦ elim (eqb c 92) as (λ b. encodes (cond b (92 ∷ 92 ∷ []) (cond (eqb c 10) (92 ∷ 110 ∷ []) (last (eqb c 13))) ++ more) ≡ cond b (92 ∷ 92 ∷ []) (cond (eqb c 10) (92 ∷ 110 ∷ []) (last' (eqb c 13))) ++ encodes more) [
        | true ↦ refl
        | false ↦ elim (eqb c 10) as (λ b. encodes (cond b (92 ∷ 110 ∷ []) (last (eqb c 13)) ++ more) ≡ cond b (92 ∷ 110 ∷ []) (last' (eqb c 13)) ++ encodes more) [
          | true ↦ refl
          | false ↦ elim (eqb c 13) as (λ b. encodes (last b ++ more) ≡ last' b ++ encodes more) [ true ↦ refl | false ↦ refl ]
        ]
      ]
    ]

encodes-all_escaped : (cs rest : List ℕ) → encodes (all_escaped cs rest) ≡ flat_map escaped cs ++ encodes rest
encodes-all_escaped [] rest = refl
encodes-all_escaped (c ∷ cs) rest =
    encodes-escaped c (all_escaped cs rest)
    ∙ (ap (λ x. escaped c ++ x) (encodes-all_escaped cs rest)
    ∙ sym (append_assoc (escaped c) (flat_map escaped cs) (encodes rest)))

encodes-in_quotes : (l rest : List ℕ) → encodes (in_quotes l rest) ≡ 34 ∷ (flat_map escaped (chars l) ++ 34 ∷ encodes rest)
unfolding encode
encodes-in_quotes l rest = ap (λ x. 34 ∷ x) (encodes-all_escaped (chars l) (34 ∷ rest))

pub encodes-iri : (t : Term) (rest : List ℕ) → IsReadableIri t → encodes (iri_chars t rest) ≡ term_text t ++ encodes rest
unfolding encode
encodes-iri (Iri a) rest r = encodes-in_angles a rest r.0 ∙ ap (λ x. 60 ∷ x) (sym (append_assoc a (62 ∷ []) (encodes rest)))
encodes-iri (Blank s n) rest r = absurd r
encodes-iri (Literal l d t) rest r = absurd r

encodes-suffix : (d rest : List ℕ) (same : Bool) → IsUtf8 d → encodes (suffix_chars d same rest) ≡ cond same [] (codes "^^<" ++ d ++ codes ">") ++ encodes rest
unfolding encode
encodes-suffix d rest true u = refl
encodes-suffix d rest false u = ap (λ x. 94 ∷ 94 ∷ x) (encodes-in_angles d rest u ∙ ap (λ x. 60 ∷ x) (sym (append_assoc d (62 ∷ []) (encodes rest))))

encodes-tag : (tag rest : List ℕ) → IsUtf8 tag → encodes (64 ∷ (chars tag ++ rest)) ≡ (codes "@" ++ tag) ++ encodes rest
unfolding encode
encodes-tag tag rest u = ap (λ x. 64 ∷ x) (encodes-append (chars tag) rest ∙ ap (λ x. x ++ encodes rest) (encodes-chars tag u))

regroup_quotes : (q x suffix rest : List ℕ) → q ++ (x ++ (q ++ (suffix ++ rest))) ≡ (q ++ x ++ q ++ suffix) ++ rest
regroup_quotes q x suffix rest = simp append_assoc

encodes-literal : (l suffix rest : List ℕ) (ends : List ℕ) → encodes ends ≡ suffix ++ encodes rest → encodes (in_quotes l ends) ≡ (codes "\"" ++ flat_map escaped (chars l) ++ codes "\"" ++ suffix) ++ encodes rest
encodes-literal l suffix rest ends e =
    encodes-in_quotes l ends
    ∙ (ap (λ x. 34 ∷ (flat_map escaped (chars l) ++ 34 ∷ x)) e
    ∙ regroup_quotes (34 ∷ []) (flat_map escaped (chars l)) suffix (encodes rest))

pub encodes-object : (labels : LabelKind) (t : Term) (rest : List ℕ) → IsReadableObject (IsNodeOf labels) t → encodes (object_chars t rest) ≡ term_text t ++ encodes rest
unfolding encode
encodes-object labels (Iri a) rest r = encodes-in_angles a rest r.0 ∙ ap (λ x. 60 ∷ x) (sym (append_assoc a (62 ∷ []) (encodes rest)))
encodes-object labels (Blank s n) rest r = ap (λ x. 95 ∷ 58 ∷ x) (encodes_label s n rest (stored_of labels s n r)) ∙ ap (λ x. x ++ encodes rest) (sym (blank_text s n))
encodes-object labels (Literal l d None) rest r = encodes-literal l (literal_suffix d None) rest (end_chars d None rest) (encodes-suffix d rest (bytes_eq d xsd_string) r.1.0)
encodes-object labels (Literal l d (Some tag)) rest r = encodes-literal l (literal_suffix d (Some tag)) rest (end_chars d (Some tag) rest) (encodes-tag tag rest r.2)

encodes-parts : (labels : LabelKind) (s p o : Term) (rest : List ℕ) → IsReadableObject (IsNodeOf labels) s → IsReadableIri p → IsReadableObject (IsNodeOf labels) o
    → encodes (parts_chars s p o rest) ≡ term_text s ++ 32 ∷ (term_text p ++ 32 ∷ (term_text o ++ 32 ∷ 46 ∷ 10 ∷ encodes rest))
unfolding encode
encodes-parts labels s p o rest hs hp ho =
    encodes-object labels s (32 ∷ iri_chars p (32 ∷ object_chars o (32 ∷ 46 ∷ 10 ∷ rest))) hs
    ∙ ap (λ x. term_text s ++ 32 ∷ x) (encodes-iri p (32 ∷ object_chars o (32 ∷ 46 ∷ 10 ∷ rest)) hp
    ∙ ap (λ x. term_text p ++ 32 ∷ x) (encodes-object labels o (32 ∷ 46 ∷ 10 ∷ rest) ho))

regroup : (s p o rest : List ℕ) → (s ++ codes " " ++ p ++ codes " " ++ o ++ codes " ." ++ codes "\n") ++ rest ≡ s ++ 32 ∷ (p ++ 32 ∷ (o ++ 32 ∷ 46 ∷ 10 ∷ rest))
regroup s p o rest = simp append_assoc

pub encodes-all : (labels : LabelKind) (ts : List Triple) → AllByRecursion (IsReadable (IsNodeOf labels)) ts → encodes (all_chars ts) ≡ written ts
unfolding encode
encodes-all labels [] r = refl
encodes-all labels (t ∷ ts) r =
    encodes-parts labels t.subject t.predicate t.object (all_chars ts) (as_object (IsNodeOf labels) t.subject r.0.subject) r.0.predicate r.0.object
    ∙ (ap (λ x. term_text t.subject ++ 32 ∷ (term_text t.predicate ++ 32 ∷ (term_text t.object ++ 32 ∷ 46 ∷ 10 ∷ x))) (encodes-all labels ts r.1)
    ∙ sym (regroup (term_text t.subject) (term_text t.predicate) (term_text t.object) (written ts)))

-- they are characters
scalars-append : (cs ds : List ℕ) → scalars cs ≡ true → scalars ds ≡ true → scalars (cs ++ ds) ≡ true
scalars-append [] ds a b = b
scalars-append (c ∷ cs) ds a b = let p = and_parts (scalar c) (scalars cs) a in and_from (scalar c) (scalars (cs ++ ds)) p.0 (scalars-append cs ds p.1 b)

scalars-escape : (c : ℕ) (more : List ℕ) → scalar c ≡ true → scalars more ≡ true → scalars (escape_chars c ++ more) ≡ true
scalars-escape c more s h = elim (eqb c 34) as (λ b. scalars (cond b (92 ∷ 34 ∷ []) (cond (eqb c 92) (92 ∷ 92 ∷ []) (cond (eqb c 10) (92 ∷ 110 ∷ []) (cond (eqb c 13) (92 ∷ 114 ∷ []) (c ∷ [])))) ++ more) ≡ true) [
  | true ↦ h
  | false ↦ elim (eqb c 92) as (λ b. scalars (cond b (92 ∷ 92 ∷ []) (cond (eqb c 10) (92 ∷ 110 ∷ []) (cond (eqb c 13) (92 ∷ 114 ∷ []) (c ∷ []))) ++ more) ≡ true) [
    | true ↦ h
    | false ↦ elim (eqb c 10) as (λ b. scalars (cond b (92 ∷ 110 ∷ []) (cond (eqb c 13) (92 ∷ 114 ∷ []) (c ∷ [])) ++ more) ≡ true) [
      | true ↦ h
      | false ↦ elim (eqb c 13) as (λ b. scalars (cond b (92 ∷ 114 ∷ []) (c ∷ []) ++ more) ≡ true) [ true ↦ h | false ↦ and_from (scalar c) (scalars more) s h ]
    ]
  ]
]

scalars-all_escaped : (cs rest : List ℕ) → scalars cs ≡ true → scalars rest ≡ true → scalars (all_escaped cs rest) ≡ true
scalars-all_escaped [] rest s h = h
scalars-all_escaped (c ∷ cs) rest s h = let p = and_parts (scalar c) (scalars cs) s in scalars-escape c (all_escaped cs rest) p.0 (scalars-all_escaped cs rest p.1 h)

scalars-iri : (t : Term) (rest : List ℕ) → IsReadableIri t → scalars rest ≡ true → scalars (iri_chars t rest) ≡ true
scalars-iri (Iri a) rest r h = scalars-append (chars a) (62 ∷ rest) (scalars-chars a r.0) h
scalars-iri (Blank s n) rest r h = absurd r
scalars-iri (Literal l d t) rest r h = absurd r

scalars-suffix : (d rest : List ℕ) (same : Bool) → IsUtf8 d → scalars rest ≡ true → scalars (suffix_chars d same rest) ≡ true
scalars-suffix d rest true u h = h
scalars-suffix d rest false u h = scalars-append (chars d) (62 ∷ rest) (scalars-chars d u) h

scalars-object : (labels : LabelKind) (t : Term) (rest : List ℕ) → IsReadableObject (IsNodeOf labels) t → scalars rest ≡ true → scalars (object_chars t rest) ≡ true
scalars-object labels (Iri a) rest r h = scalars-append (chars a) (62 ∷ rest) (scalars-chars a r.0) h
scalars-object labels (Blank s n) rest r h = plain_scalars (node_label s n) rest (plain_label s n (stored_of labels s n r)) h
scalars-object labels (Literal l d None) rest r h = scalars-all_escaped (chars l) (34 ∷ end_chars d None rest) (scalars-chars l r.0) (scalars-suffix d rest (bytes_eq d xsd_string) r.1.0 h)
scalars-object labels (Literal l d (Some tag)) rest r h = scalars-all_escaped (chars l) (34 ∷ end_chars d (Some tag) rest) (scalars-chars l r.0) (scalars-append (chars tag) rest (scalars-chars tag r.2) h)

pub scalars-all : (labels : LabelKind) (ts : List Triple) → AllByRecursion (IsReadable (IsNodeOf labels)) ts → scalars (all_chars ts) ≡ true
scalars-all labels [] r = refl
scalars-all labels (t ∷ ts) r =
    let o = scalars-object labels t.object (32 ∷ 46 ∷ 10 ∷ all_chars ts) r.0.object (scalars-all labels ts r.1) in
    let p = scalars-iri t.predicate (32 ∷ object_chars t.object (32 ∷ 46 ∷ 10 ∷ all_chars ts)) r.0.predicate o in
    scalars-object labels t.subject (32 ∷ iri_chars t.predicate (32 ∷ object_chars t.object (32 ∷ 46 ∷ 10 ∷ all_chars ts))) (as_object (IsNodeOf labels) t.subject r.0.subject) p
