-- Each property has a name of its own.
use Rattle.std.proofs.Common.{◌≡◌, ◌∙◌, ℕ, List, [], ◌∷◌, ◌++◌, true, false, cond, Option, Some, None, refl, sym, ap, subst, codes}
use Rattle.std.proofs.Common.{length, nat_eq, take}
use Rattle.std.proofs.Math.Seq.{take-append_seam}
use Rattle.std.proofs.lemmas.Cmp.{nat_list_eq_equiv}
use Rattle.std.specs.Prelude.{bytes_eq}
use Rattle.std.specs.List.{Contains, starts_with}
use lib.Pointwise.{pointwise}
use Rattle.rdf_model.specs.declared.term.Term.TheVariants.{Iri}
use Rattle.collections.proofs.Members.{has_head, has_tail}
use Rattle.shape_model.specs.Vocabulary.{sh}
use Rattle.shape_properties.specs.Properties.{local_name, property_iri}
use Rattle.shape_properties.specs.declared.property.TheConstants.{ALL}
use Rattle.shape_properties.specs.declared.property.ShapeProperty.{ShapeProperty}
use Rattle.shape_properties.specs.declared.property.ShapeProperty.TheVariants as properties

-- the first of the properties with this name
abbrev pub named_in : List ShapeProperty → List ℕ → Option ShapeProperty
named_in [] name = None
named_in (p ∷ ps) name = cond (bytes_eq (local_name p) name) (Some p) (named_in ps name)

by_name : (p : ShapeProperty) → named_in ALL (local_name p) ≡ Some p
by_name properties.Class = refl
by_name properties.Datatype = refl
by_name properties.NodeKind = refl
by_name properties.MinCount = refl
by_name properties.MaxCount = refl
by_name properties.MinExclusive = refl
by_name properties.MinInclusive = refl
by_name properties.MaxExclusive = refl
by_name properties.MaxInclusive = refl
by_name properties.MinLength = refl
by_name properties.MaxLength = refl
by_name properties.Pattern = refl
by_name properties.Flags = refl
by_name properties.LanguageIn = refl
by_name properties.UniqueLang = refl
by_name properties.Equals = refl
by_name properties.Disjoint = refl
by_name properties.LessThan = refl
by_name properties.LessThanOrEquals = refl
by_name properties.Not = refl
by_name properties.And = refl
by_name properties.Or = refl
by_name properties.Xone = refl
by_name properties.Node = refl
by_name properties.Property = refl
by_name properties.QualifiedValueShape = refl
by_name properties.QualifiedMinCount = refl
by_name properties.QualifiedMaxCount = refl
by_name properties.QualifiedValueShapesDisjoint = refl
by_name properties.Closed = refl
by_name properties.IgnoredProperties = refl
by_name properties.HasValue = refl
by_name properties.In = refl
by_name properties.TargetNode = refl
by_name properties.TargetClass = refl
by_name properties.TargetSubjectsOf = refl
by_name properties.TargetObjectsOf = refl
by_name properties.Path = refl
by_name properties.Severity = refl
by_name properties.Message = refl
by_name properties.Deactivated = refl
by_name properties.Sparql = refl
by_name properties.Js = refl
by_name properties.Target = refl
by_name properties.Entailment = refl

found_in : (ps : List ShapeProperty) (name : List ℕ) (p : ShapeProperty) → named_in ps name ≡ Some p → Contains ps p
found_in [] name p e = cc
found_in (q ∷ qs) name p e = elim (bytes_eq (local_name q) name) as (λ b. cond b (Some q) (named_in qs name) ≡ Some p → Contains (q ∷ qs) p) [
  | true ↦ λ f. let d : q ≡ p = cc in subst (λ (z : ShapeProperty). Contains (q ∷ qs) z) d (has_head q qs)
  | false ↦ λ f. has_tail q qs p (found_in qs name p f)
] e

-- each property is listed
pub listed : (p : ShapeProperty) → Contains ALL p
listed p = found_in ALL (local_name p) p (by_name p)

append_left : (xs ys zs : List ℕ) → xs ++ ys ≡ xs ++ zs → ys ≡ zs
append_left [] ys zs e = e
append_left (x ∷ xs) ys zs e = let d : xs ++ ys ≡ xs ++ zs = cc in append_left xs ys zs d

sh_exact : (a b : List ℕ) → sh a ≡ sh b → a ≡ b
unfolding sh
sh_exact a b e = let d : codes "http://www.w3.org/ns/shacl#" ++ a ≡ codes "http://www.w3.org/ns/shacl#" ++ b = cc in append_left (codes "http://www.w3.org/ns/shacl#") a b d

-- properties of one IRI are one
pub one_property : (p q : ShapeProperty) → property_iri p ≡ property_iri q → p ≡ q
one_property p q e =
    let d : Some p ≡ Some q = sym (by_name p) ∙ ap (named_in ALL) (sh_exact (local_name p) (local_name q) e) ∙ by_name q in
    cc

starts_itself : (xs : List ℕ) → pointwise nat_eq xs xs ≡ true
starts_itself xs = nat_list_eq_equiv.refl xs

starts_before : (s xs ys : List ℕ) → s ≡ xs ++ ys → starts_with nat_eq s xs ≡ true
starts_before s xs ys e = ap (λ (zs : List ℕ). pointwise nat_eq xs (take (length xs) zs)) e ∙ ap (λ (zs : List ℕ). pointwise nat_eq xs zs) (take-append_seam xs ys) ∙ starts_itself xs

-- how each of their IRIs begins
pub starts_shacl : (s : List ℕ) (p : ShapeProperty) → Iri s ≡ property_iri p → starts_with nat_eq s (codes "http://www.w3.org/ns/shacl#") ≡ true
unfolding sh
starts_shacl s p e = starts_before s (codes "http://www.w3.org/ns/shacl#") (local_name p) (let d : s ≡ codes "http://www.w3.org/ns/shacl#" ++ local_name p = cc in d)
