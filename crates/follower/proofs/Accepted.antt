-- The terms of a follower are those of the records that it accepted.
use Rattle.std.proofs.Common.{◌≡◌, ◌∙◌, List, [], ◌∷◌, ◌++◌, refl, sym, ap}
use Rattle.rdf_model.specs.declared.term.Term.{Term}
use Rattle.record_text.specs.declared.record.Record.{Record}
use Rattle.term_dict.specs.Names.{with_term, with_terms}
use Rattle.follower.specs.declared.fed.Fed.{Fed}
use Rattle.follower.specs.declared.fed.Fed.TheVariants.{Differs, Known, Window, Full, Waiting, Misfit, Applied}
use Rattle.follower.specs.Followed.{Feeds, Followed, unfed}
use Rattle.follower.specs.Laws.{Feeding, NamesAccepted, Runs, accepted_terms, taken_terms}
use Rattle.follower.specs.Records.{terms_of}

terms_joined : (terms xs ys : List Term) → with_terms terms (xs ++ ys) ≡ with_terms (with_terms terms xs) ys
terms_joined terms [] ys = refl
terms_joined terms (x ∷ xs) ys = terms_joined (with_term terms x) xs ys

one_taken : (s t : Followed) (r : Record) (a : Fed) → Feeds s r a t → t.terms ≡ with_terms s.terms (taken_terms a (terms_of r))
one_taken s t r (Differs number) f = ap (λ (u : Followed). u.terms) f.2
one_taken s t r (Known version) f = ap (λ (u : Followed). u.terms) f.2
one_taken s t r (Window version) f = ap (λ (u : Followed). u.terms) f.3
one_taken s t r (Full count) f = ap (λ (u : Followed). u.terms) f.4
one_taken s t r (Waiting version) f = ap (λ (u : Followed). u.terms) f.3
one_taken s t r (Misfit number triple) f = ap (λ (u : Followed). u.terms) f.4
one_taken s t r (Applied version dropped) f = f.4.terms

all_taken : (fs : List Feeding) (s t : Followed) → Runs s fs t → t.terms ≡ with_terms s.terms (accepted_terms fs)
all_taken [] s t r = ap (λ (u : Followed). u.terms) r
all_taken (f ∷ fs) s t r =
    let taken = taken_terms f.1 (terms_of f.0) in
    all_taken fs r.0 t r.2 ∙ (ap (λ (ts : List Term). with_terms ts (accepted_terms fs)) (one_taken s r.0 f.0 f.1 r.1) ∙ sym (terms_joined s.terms taken (accepted_terms fs)))

pub names_accepted : NamesAccepted
names_accepted fs s r = all_taken fs unfed s r
