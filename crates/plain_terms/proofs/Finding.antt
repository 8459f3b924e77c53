-- What is found in a graph triple by triple is what stands there.
use Rattle.std.proofs.Common.{◌≡◌, Bool, true, false, List, Some, None, refl, subst}
use Rattle.std.specs.Prelude.{◌&&◌, if◌then◌else◌}
use Rattle.std.specs.List.{Contains, filter_map}
use Rattle.rdf_model.specs.declared.term.Term.{Term}
use Rattle.rdf_model.specs.declared.triple.Triple.{Triple}
use Rattle.rdf_model.specs.Matching.{same_term}
use Rattle.rdf_model.proofs.Finding.{from_given, to_given}
use Rattle.rdf_model.proofs.SameTerms.{same_equal, equal_same}
use Rattle.shape_model.specs.Triples.{Has}
use Rattle.plain_terms.specs.Finds.{Finds, HasSome, object_in, subject_in, subject_with}

-- both tests hold where the choice gives something
chosen : {Y : Type 0} → (b : Bool) (x y : Y) → (if b then Some x else None) ≡ Some y → (b ≡ true) × (x ≡ y)
chosen true x y e = (refl, cc)
chosen false x y e = absurd (cc)

both : (a b : Bool) → (a && b) ≡ true → (a ≡ true) × (b ≡ true)
both true b e = (refl, e)
both false b e = absurd (cc)

gives : {Y : Type 0} → (b : Bool) (y : Y) → b ≡ true → (if b then Some y else None) ≡ Some y
gives true y e = refl
gives false y e = absurd (cc)

together : (a b : Bool) → a ≡ true → b ≡ true → (a && b) ≡ true
together true b e k = k
together false b e k = absurd (cc)

from_object : (x p : Term) (t : Triple) (o : Term) → object_in x p t ≡ Some o → t ≡ record { subject = x; predicate = p; object = o }
from_object x p t o e =
    let k = chosen (same_term t.subject x && same_term t.predicate p) t.object o e in
    let h = both (same_term t.subject x) (same_term t.predicate p) k.0 in
    let a = same_equal t.subject x h.0 in
    let b = same_equal t.predicate p h.1 in
    λ i. record { subject = a i; predicate = b i; object = k.1 i }

pub objects_are : (g : List Triple) (x p : Term) → Finds (Has g x p) (filter_map (object_in x p) g)
objects_are g x p = record {
  members = λ o. (
    λ c. let w = from_given (object_in x p) g o c in subst (λ (t : Triple). Contains g t) (from_object x p w.0 o w.2) w.1,
    λ h. to_given (object_in x p) g o (record { subject = x; predicate = p; object = o }) h (gives (same_term x x && same_term p p) o (together (same_term x x) (same_term p p) (equal_same x x refl) (equal_same p p refl))),
  );
}

from_subject : (p : Term) (t : Triple) (x : Term) → subject_in p t ≡ Some x → t ≡ record { subject = x; predicate = p; object = t.object }
from_subject p t x e =
    let k = chosen (same_term t.predicate p) t.subject x e in
    let b = same_equal t.predicate p k.0 in
    λ i. record { subject = k.1 i; predicate = b i; object = t.object }

pub subjects_are : (g : List Triple) (p : Term) → Finds (HasSome g p) (filter_map (subject_in p) g)
subjects_are g p = record {
  members = λ x. (
    λ c. let w = from_given (subject_in p) g x c in (w.0.object, subst (λ (t : Triple). Contains g t) (from_subject p w.0 x w.2) w.1),
    λ h. to_given (subject_in p) g x (record { subject = x; predicate = p; object = h.0 }) h.1 (gives (same_term p p) x (equal_same p p refl)),
  );
}

from_owner : (p o : Term) (t : Triple) (x : Term) → subject_with p o t ≡ Some x → t ≡ record { subject = x; predicate = p; object = o }
from_owner p o t x e =
    let k = chosen (same_term t.predicate p && same_term t.object o) t.subject x e in
    let h = both (same_term t.predicate p) (same_term t.object o) k.0 in
    let a = same_equal t.predicate p h.0 in
    let b = same_equal t.object o h.1 in
    λ i. record { subject = k.1 i; predicate = a i; object = b i }

pub owners_are : (g : List Triple) (p o : Term) → Finds (λ x. Has g x p o) (filter_map (subject_with p o) g)
owners_are g p o = record {
  members = λ x. (
    λ c. let w = from_given (subject_with p o) g x c in subst (λ (t : Triple). Contains g t) (from_owner p o w.0 x w.2) w.1,
    λ h. to_given (subject_with p o) g x (record { subject = x; predicate = p; object = o }) h (gives (same_term p p && same_term o o) x (together (same_term p p) (same_term o o) (equal_same p p refl) (equal_same o o refl))),
  );
}
