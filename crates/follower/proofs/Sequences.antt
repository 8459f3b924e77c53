-- What records make, one list of them after another.
use Rattle.std.proofs.Common.{◌≡◌, ◌<◌, ◌+◌, ℕ, zero, suc, List, [], ◌∷◌, ◌++◌, length, take, refl, subst, arith}
use Rattle.std.specs.Prelude.{slice_index_or}
use Rattle.collections.specs.Ordered.{IsAscending, with_item, without_item}
use Rattle.collections.proofs.Ascending.{IsAscending-with_item, IsAscending-without_item}
use Rattle.rdf_model.specs.declared.change.Change.{Change}
use Rattle.rdf_model.specs.declared.change.Change.TheVariants.{Add, Remove}
use Rattle.rdf_model.specs.declared.term.Term.{Term}
use Rattle.rdf_model.specs.declared.triple.Triple.{Triple}
use Rattle.rdf_model.specs.Graphs.{after}
use Rattle.rdf_model.specs.Orders.{triple_total}
use Rattle.rdf_model.specs.Terms.{triple_cmp}
use Rattle.record_text.specs.declared.record.Record.{Record}
use Rattle.term_dict.specs.Names.{with_terms}
use Rattle.follower.specs.declared.version.Version.{Version}
use Rattle.follower.specs.Records.{AllFit, AreNumberedFrom, changes_of, data_after, data_from, shapes_after, shapes_from}
use Rattle.follower.specs.Versions.{AreVersions, IsVersion}
use Rattle.follower.proofs.Growing.{index_more}

-- data graphs ascend
ascends_after : (g : List Triple) (net : List Change) → IsAscending triple_cmp g → IsAscending triple_cmp (after g net)
ascends_after g [] a = a
ascends_after g (Add t ∷ cs) a = ascends_after (with_item triple_cmp t g) cs (IsAscending-with_item triple_total t g a)
ascends_after g (Remove t ∷ cs) a = ascends_after (without_item triple_cmp t g) cs (IsAscending-without_item triple_total t g a)

pub data_ascends : (g : List Triple) (r : Record) → IsAscending triple_cmp g → IsAscending triple_cmp (data_after g r)
data_ascends g r a = ascends_after g (changes_of r) a

pub all_ascends : (g : List Triple) (rs : List Record) → IsAscending triple_cmp g → IsAscending triple_cmp (data_from g rs)
all_ascends g [] a = a
all_ascends g (r ∷ rs) a = all_ascends (data_after g r) rs (data_ascends g r a)

-- one list after another
pub data_joined : (g : List Triple) (rs more : List Record) → data_from g (rs ++ more) ≡ data_from (data_from g rs) more
data_joined g [] more = refl
data_joined g (r ∷ rs) more = data_joined (data_after g r) rs more

pub shapes_joined : (s : List Triple) (rs more : List Record) → shapes_from s (rs ++ more) ≡ shapes_from (shapes_from s rs) more
shapes_joined s [] more = refl
shapes_joined s (r ∷ rs) more = shapes_joined (shapes_after s r) rs more

pub fit_joined : (g : List Triple) (rs more : List Record) → AllFit g rs → AllFit (data_from g rs) more → AllFit g (rs ++ more)
fit_joined g [] more a b = b
fit_joined g (r ∷ rs) more a b = (a.0, fit_joined (data_after g r) rs more a.1 b)

pub numbered_joined : (n m : ℕ) (rs more : List Record) → m ≡ n + length rs → AreNumberedFrom n rs → AreNumberedFrom m more → AreNumberedFrom n (rs ++ more)
numbered_joined n m [] more e a b = let same : m ≡ n = omega (arith, e) in subst (λ (k : ℕ). AreNumberedFrom k more) same b
numbered_joined n m (r ∷ rs) more e a b = (a.0, numbered_joined (n + 1) m rs more (omega (arith, e)) a.1 b)

pub versions_joined : (terms : List Term) (g s : List Triple) (rs more : List Record) (xs ys : List Version) → AreVersions terms g s rs xs → AreVersions terms (data_from g rs) (shapes_from s rs) more ys →
    AreVersions terms g s (rs ++ more) (xs ++ ys)
versions_joined terms g s [] more [] ys a b = b
versions_joined terms g s [] more (x ∷ xs) ys a b = absurd a
versions_joined terms g s (r ∷ rs) more [] ys a b = absurd a
versions_joined terms g s (r ∷ rs) more (x ∷ xs) ys a b = (a.0, versions_joined terms (data_after g r) (shapes_after s r) rs more xs ys a.1 b)

-- there are as many versions as records
pub as_many : (terms : List Term) (g s : List Triple) (rs : List Record) (xs : List Version) → AreVersions terms g s rs xs → length xs ≡ length rs
as_many terms g s [] [] a = refl
as_many terms g s [] (x ∷ xs) a = absurd a
as_many terms g s (r ∷ rs) [] a = absurd a
as_many terms g s (r ∷ rs) (x ∷ xs) a = let n = as_many terms (data_after g r) (shapes_after s r) rs xs a.1 in omega (arith, n)

-- the version after some of the records
pub version_there : (terms : List Term) (g s : List Triple) (rs : List Record) (xs : List Version) (v : ℕ) (d : Version) → AreVersions terms g s rs xs → v < length xs →
    IsVersion terms (data_from g (take (suc v) rs)) (shapes_from s (take (suc v) rs)) (slice_index_or xs v d)
version_there terms g s [] [] v d a lt = absurd (omega (arith, lt))
version_there terms g s [] (x ∷ xs) v d a lt = absurd a
version_there terms g s (r ∷ rs) [] v d a lt = absurd a
version_there terms g s (r ∷ rs) (x ∷ xs) zero d a lt = a.0
version_there terms g s (r ∷ rs) (x ∷ xs) (suc v) d a lt = version_there terms (data_after g r) (shapes_after s r) rs xs v d a.1 (omega (arith, lt))

-- where more terms are named
pub versions_stay : (terms ts : List Term) (g s : List Triple) (rs : List Record) (xs : List Version) → AreVersions terms g s rs xs → AreVersions (with_terms terms ts) g s rs xs
versions_stay terms ts g s [] [] a = tt
versions_stay terms ts g s [] (x ∷ xs) a = absurd a
versions_stay terms ts g s (r ∷ rs) [] a = absurd a
versions_stay terms ts g s (r ∷ rs) (x ∷ xs) a = ((index_more terms ts x.graph (data_after g r) a.0.0, a.0.1), versions_stay terms ts (data_after g r) (shapes_after s r) rs xs a.1)
