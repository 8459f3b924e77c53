-- The terms of triples, put into their order, are names of them.
use Rattle.std.proofs.Common.{◌≡◌, ℕ, zero, suc, ◌+◌, ◌*◌, ◌<◌, ◌≤◌, List, [], ◌∷◌, length, refl, sym, ap, subst, arith, inl, inr}
use Rattle.std.specs.List.{Contains}
use Rattle.std.proofs.lemmas.List.Elements.{All-contains_itself}
use Rattle.std.specs.declared.cmp.Ordering.TheVariants.{Less, Equal, Greater}
use Rattle.std.specs.Ordering.{match_ordering}
use Rattle.std.specs.Cmp.{tied_itself}
use Rattle.rdf_model.specs.declared.term.Term.{Term}
use Rattle.rdf_model.specs.declared.triple.Triple.{Triple}
use Rattle.rdf_model.specs.Numbers.{IsNumbering, term_at}
use Rattle.rdf_model.specs.Orders.{term_total, term_exact}
use Rattle.rdf_model.specs.Terms.{term_cmp}
use Rattle.collections.specs.Ordered.{AllAbove, IsAscending, with_item}
use Rattle.collections.proofs.Ascending.{IsAscending-with_item}
use Rattle.collections.proofs.Members.{below, has_cases, has_head, has_tail, with_new, with_old}
use Rattle.parallel_validate.specs.Named.{AreNamedTriples, IsNamedTriple}
use Rattle.shape_model.specs.Vocabulary.{rdf_type, sub_class_of}
use Rattle.plain_validation.specs.Names.{class_names, with_triple, with_terms}

-- the place of a term among these
placed : (ns : List Term) (n : ℕ) → n < length ns → Contains ns (term_at ns n)
placed [] n lt = absurd (omega arith)
placed (x ∷ xs) zero lt = has_head x xs
placed (x ∷ xs) (suc n) lt = has_tail x xs (term_at xs n) (placed xs n (omega arith))

apart : (x : Term) (xs : List Term) (n : ℕ) → AllAbove term_cmp x xs → n < length xs → x ≡ term_at xs n → ⊥
apart x xs n a lt e =
    let less : term_cmp x x ≡ Less = subst (λ (t : Term). term_cmp x t ≡ Less) (sym e) (below term_cmp x xs (term_at xs n) a (placed xs n lt)) in
    let tied = tied_itself term_total x in cc (less, tied)

-- names that ascend are distinct
pub numbered : (ns : List Term) → IsAscending term_cmp ns → IsNumbering ns
numbered [] a n m ln lm e = absurd (omega arith)
numbered (x ∷ xs) a zero zero ln lm e = refl
numbered (x ∷ xs) a zero (suc m) ln lm e = absurd (apart x xs m a.0 (omega arith) e)
numbered (x ∷ xs) a (suc n) zero ln lm e = absurd (apart x xs n a.0 (omega arith) (sym e))
numbered (x ∷ xs) a (suc n) (suc m) ln lm e = ap suc (numbered xs a.1 n m (omega arith) (omega arith) e)

pub ascending : (ns : List Term) (ts : List Triple) → IsAscending term_cmp ns → IsAscending term_cmp (with_terms ns ts)
ascending ns [] a = a
ascending ns (t ∷ ts) a = ascending (with_triple ns t) ts
    (IsAscending-with_item term_total t.object (with_item term_cmp t.predicate (with_item term_cmp t.subject ns))
    (IsAscending-with_item term_total t.predicate (with_item term_cmp t.subject ns)
    (IsAscending-with_item term_total t.subject ns a)))

-- at most three more for each triple
one_more : (x : Term) (ns : List Term) → length (with_item term_cmp x ns) ≤ suc (length ns)
one_more x [] = omega arith
one_more x (y ∷ ys) = elim (term_cmp x y) as (λ o. length (match_ordering o (x ∷ y ∷ ys) (y ∷ ys) (y ∷ with_item term_cmp x ys)) ≤ suc (suc (length ys))) [
  | Less ↦ omega arith
  | Equal ↦ omega arith
  | Greater ↦ omega (arith, one_more x ys)
]

pub few : (ns : List Term) (ts : List Triple) → length (with_terms ns ts) ≤ length ns + 3 * length ts
few ns [] = omega arith
few ns (t ∷ ts) =
    let with_subject = with_item term_cmp t.subject ns in
    let with_predicate = with_item term_cmp t.predicate with_subject in
    omega (arith, few (with_triple ns t) ts, one_more t.subject ns, one_more t.predicate with_subject, one_more t.object with_predicate)

-- what is a name stays one
triple_stays : (ns : List Term) (t : Triple) (u : Term) → Contains ns u → Contains (with_triple ns t) u
triple_stays ns t u c =
    let with_subject = with_item term_cmp t.subject ns in
    let with_predicate = with_item term_cmp t.predicate with_subject in
    with_old term_cmp t.object with_predicate u (with_old term_cmp t.predicate with_subject u (with_old term_cmp t.subject ns u c))

pub stays : (ns : List Term) (ts : List Triple) (u : Term) → Contains ns u → Contains (with_terms ns ts) u
stays ns [] u c = c
stays ns (t ∷ ts) u c = stays (with_triple ns t) ts u (triple_stays ns t u c)

triple_named : (ns : List Term) (t : Triple) → IsNamedTriple (with_triple ns t) t
triple_named ns t =
    let with_subject = with_item term_cmp t.subject ns in
    let with_predicate = with_item term_cmp t.predicate with_subject in (
      with_old term_cmp t.object with_predicate t.subject (with_old term_cmp t.predicate with_subject t.subject (with_new term_cmp term_total term_exact t.subject ns)),
      with_old term_cmp t.object with_predicate t.predicate (with_new term_cmp term_total term_exact t.predicate with_subject),
      with_new term_cmp term_total term_exact t.object with_predicate,
    )

named_stays : (ns : List Term) (ts : List Triple) (t : Triple) → IsNamedTriple ns t → IsNamedTriple (with_terms ns ts) t
named_stays ns ts t h = (stays ns ts t.subject h.0, stays ns ts t.predicate h.1, stays ns ts t.object h.2)

member_named : (ns : List Term) (ts : List Triple) (t : Triple) → Contains ts t → IsNamedTriple (with_terms ns ts) t
member_named ns [] t c = absurd (omega arith)
member_named ns (u ∷ us) t c = elim (has_cases u us t c) [
  | inl e ↦ subst (λ (w : Triple). IsNamedTriple (with_terms ns (u ∷ us)) w) e (named_stays (with_triple ns u) us u (triple_named ns u))
  | inr d ↦ member_named (with_triple ns u) us t d
]

pub named : (ns : List Term) (ts : List Triple) → AreNamedTriples (with_terms ns ts) ts
named ns ts k d lt = member_named ns ts _ (All-contains_itself ts k d lt)

pub named_after : (ns : List Term) (gs ts : List Triple) → AreNamedTriples (with_terms (with_terms ns gs) ts) gs
named_after ns gs ts k d lt = named_stays (with_terms ns gs) ts _ (member_named ns gs _ (All-contains_itself gs k d lt))

-- the names of the words
pub class_names_ascend : IsAscending term_cmp class_names
class_names_ascend = IsAscending-with_item term_total sub_class_of (with_item term_cmp rdf_type []) (IsAscending-with_item term_total rdf_type [] tt)

pub class_names_few : length class_names ≤ 2
class_names_few = omega (arith, one_more sub_class_of (with_item term_cmp rdf_type []), one_more rdf_type [])

pub type_named : Contains class_names rdf_type
type_named = with_old term_cmp sub_class_of (with_item term_cmp rdf_type []) rdf_type (with_new term_cmp term_total term_exact rdf_type [])

pub super_named : Contains class_names sub_class_of
super_named = with_new term_cmp term_total term_exact sub_class_of (with_item term_cmp rdf_type [])
