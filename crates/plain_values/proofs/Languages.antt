-- Language tags that ranges match.
use Rattle.std.proofs.Common.{◌≡◌, ◌∙◌, ℕ, true, false, List, Option, Some, None, refl, sym, ap}
use Rattle.std.specs.Prelude.{option_map}
use Rattle.std.specs.List.{Contains}
use Rattle.std.specs.Option.{unwrap_or}
use Rattle.std.proofs.lemmas.Option.{same_Some}
use Rattle.rdf_model.specs.declared.term.Term.{Term}
use Rattle.rdf_model.specs.declared.term.Term.TheVariants.{Blank, Iri, Literal}
use Rattle.literal_order.specs.Texts.{lang_matches, string_value}
use Rattle.shape_model.specs.TermTests.{HasTag, IsInLanguages}
use Rattle.shape_model.specs.Triples.{IsMember}
use Rattle.shape_syntax.proofs.Scans.{contains_member}
use Rattle.plain_values.specs.Tests.{tag_of}
use Rattle.plain_values.specs.Tests.{does_match, is_in_range}

-- the tag of a literal is the one that it has
pub has_its_tag : (v : Term) (t : List ℕ) → tag_of v ≡ Some t → HasTag t v
has_its_tag (Blank s n) t e = cc
has_its_tag (Iri i) t e = cc
has_its_tag (Literal text datatype language) t e = e

pub is_its_tag : (v : Term) (t : List ℕ) → HasTag t v → tag_of v ≡ Some t
is_its_tag (Blank s n) t h = absurd h
is_its_tag (Iri i) t h = absurd h
is_its_tag (Literal text datatype language) t h = h

in_range : (tag : List ℕ) (m : Term) (o : Option (List ℕ)) → string_value m ≡ o → is_in_range tag m ≡ true → (range : List ℕ) × (string_value m ≡ Some range) × (lang_matches tag range ≡ true)
in_range tag m None e h = (let never : false ≡ true = ap (λ (o : Option (List ℕ)). unwrap_or (option_map (lang_matches tag) o) false) (sym e) ∙ h in cc)
in_range tag m (Some range) e h = (range, e, ap (λ (o : Option (List ℕ)). unwrap_or (option_map (lang_matches tag) o) false) (sym e) ∙ h)

to_range : (tag : List ℕ) (m : Term) (range : List ℕ) → string_value m ≡ Some range → lang_matches tag range ≡ true → is_in_range tag m ≡ true
to_range tag m range e h = ap (λ (o : Option (List ℕ)). unwrap_or (option_map (lang_matches tag) o) false) e ∙ h

matched : (m v : Term) (o : Option (List ℕ)) → tag_of v ≡ o → does_match m v ≡ true → (tag : List ℕ) × (tag_of v ≡ Some tag) × (is_in_range tag m ≡ true)
matched m v None e h = (let never : false ≡ true = ap (λ (o : Option (List ℕ)). unwrap_or (option_map (λ tag. is_in_range tag m) o) false) (sym e) ∙ h in cc)
matched m v (Some tag) e h = (tag, e, ap (λ (o : Option (List ℕ)). unwrap_or (option_map (λ tag. is_in_range tag m) o) false) (sym e) ∙ h)

to_matched : (m v : Term) (tag : List ℕ) → tag_of v ≡ Some tag → is_in_range tag m ≡ true → does_match m v ≡ true
to_matched m v tag e h = ap (λ (o : Option (List ℕ)). unwrap_or (option_map (λ tag. is_in_range tag m) o) false) e ∙ h

pub to_languages : (ms : List Term) (v m : Term) → Contains ms m → does_match m v ≡ true → IsInLanguages ms v
to_languages ms v m c h =
    let t = matched m v (tag_of v) refl h in
    let r = in_range t.0 m (string_value m) refl t.2 in
    (t.0, m, r.0, has_its_tag v t.0 t.1, contains_member ms m c, r.1, r.2)

pub from_languages : (ms : List Term) (v : Term) → IsInLanguages ms v → (m : Term) × IsMember ms m × (does_match m v ≡ true)
from_languages ms v h = (h.1, h.4, to_matched h.1 v h.0 (is_its_tag v h.0 h.3) (to_range h.0 h.1 h.2 h.5 h.6))

-- the tag that was found is the one that the literal has
pub tag_found : (v : Term) (found : Option (List ℕ)) (t : List ℕ) → found ≡ tag_of v → found ≡ Some t → HasTag t v
tag_found v found t e is = has_its_tag v t (sym e ∙ is)

pub one_tag : (v : Term) (s t : List ℕ) → HasTag s v → HasTag t v → s ≡ t
one_tag v s t h k = same_Some s t (sym (is_its_tag v s h) ∙ is_its_tag v t k)

pub no_tag : (v : Term) → None ≡ tag_of v → (t : List ℕ) → HasTag t v → ⊥
no_tag v e t h = let k = e ∙ is_its_tag v t h in absurd (cc)
