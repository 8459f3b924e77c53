-- Each name stands once, and what is named stays named.
use Rattle.std.proofs.Common.{get_or, ◌≡◌, ◌∙◌, ℕ, zero, suc, ◌+◌, ◌<◌, Bool, true, false, ◌||◌, cond, List, [], ◌∷◌, ◌++◌, length, Option, Some, None, refl, sym, ap, subst, arith, inl, inr, append_assoc, length-append}
use Rattle.std.specs.Prelude.{MatchOption, if◌then◌else◌, is_some}
use Rattle.std.proofs.lemmas.Bool.{cases_lt}
use Rattle.std.proofs.Math.ListN.{get_or-append}
use Rattle.std.proofs.lemmas.List.{append-nil}
use Rattle.std.proofs.Math.Seq.{get_or-append_seam}
use Rattle.std.specs.List.{All, AllByRecursion, Contains}
use Rattle.std.proofs.lemmas.List.Elements.{All-contains, All-contains_itself, Contains-append_left}
use Rattle.rdf_model.specs.declared.term.Term.{Term}
use Rattle.rdf_model.specs.declared.term.Term.TheVariants.{Blank, Iri, Literal}
use Rattle.rdf_model.specs.declared.triple.Triple.{Triple}
use Rattle.rdf_model.specs.declared.change.Change.{Change}
use Rattle.rdf_model.specs.declared.change.Change.TheVariants.{Add, Remove}
use Rattle.rdf_model.specs.Graphs.{after, changed}
use Rattle.rdf_model.specs.Matching.{same_term}
use Rattle.rdf_model.specs.Numbers.{IsNumbering, term_at}
use Rattle.rdf_model.specs.Terms.{term_cmp, triple_cmp}
use Rattle.rdf_model.proofs.SameTerms.{equal_same, same_equal}
use Rattle.shape_model.specs.Vocabulary.{rdf, rdf_type, sub_class_of}
use Rattle.collections.specs.Ordered.{has_item, with_item, without_item}
use Rattle.collections.proofs.Members.{has_cases, has_equal, has_tail, with_cases, without_old}
use Rattle.store_model.specs.declared.event.NameKind.{NameKind}
use Rattle.store_model.specs.Store.{AreNamed, NetNamed, StagedNamed, changed_triple, named_with, number_of, numbers_of, shapes_under, terms_of}
use Rattle.term_dict.specs.Names.{AreNumbersOf, first_terms, with_terms}
use Rattle.parallel_validate.specs.Named.{AreNamedTriples, IsNamedTriple}
use Rattle.data_graph.specs.DataGraphs.{AreNamedChanges, NamedGraph}
use Rattle.event_history.specs.Named.{IsBeginning, terms_at}
use Rattle.event_history.proofs.Naming.{begins_with, numbers_have, numbers_told}
use Rattle.commit_core.specs.declared.naming.NamedTerms.{NamedTerms}
use Rattle.commit_core.specs.Naming.{IsNaming}

-- whether a term has a name
abbrev has : List Term → Term → Bool
has named t = has_item term_cmp t named

pub has_name : (named : List Term) (t : Term) → has named t ≡ true → Contains named t
has_name [] t h = cc
has_name (x ∷ xs) t h = elim (same_term x t) as (λ b. same_term x t ≡ b → (b || has xs t) ≡ true → Contains (x ∷ xs) t) [
  | true ↦ λ e g. has_equal x xs t (same_equal x t e)
  | false ↦ λ e g. has_tail x xs t (has_name xs t g)
] refl h

found : (b : Bool) (named : List Term) (t : Term) → has named t ≡ true → (b || has named t) ≡ true
found true named t h = refl
found false named t h = h

pub name_has : (named : List Term) (t : Term) → Contains named t → has named t ≡ true
name_has [] t c = absurd (omega arith)
name_has (x ∷ xs) t c = elim (has_cases x xs t c) [
  | inl e ↦ ap (λ b. b || has xs t) (equal_same x t e)
  | inr d ↦ found (same_term x t) xs t (name_has xs t d)
]

-- the place of a term among these
placed : (named : List Term) (n : ℕ) (t : Term) → n < length named → term_at named n ≡ t → Contains named t
placed [] n t lt e = absurd (omega arith)
placed (x ∷ xs) zero t lt e = has_equal x xs t e
placed (x ∷ xs) (suc n) t lt e = has_tail x xs t (placed xs n t (omega arith) e)

-- whether a name has a number is whether it is there
pub is_there : (named : List Term) (t : Term) (o : Option ℕ) → MatchOption o (Contains named t → ⊥) (λ n. (n < length named) × (term_at named n ≡ t)) → is_some o ≡ has_item term_cmp t named
is_there named t None none = elim (has named t) as (λ b. has named t ≡ b → false ≡ b) [
  | true ↦ λ e. absurd (none (has_name named t e))
  | false ↦ λ e. refl
] refl
is_there named t (Some n) at = sym (name_has named t (placed named n t at.0 at.1))

-- the place of a name is its number
one_less : (x : Term) (xs : List Term) → IsNumbering (x ∷ xs) → IsNumbering xs
one_less x xs k n m ln lm e = let same : suc n ≡ suc m = k (suc n) (suc m) (omega (arith, ln)) (omega (arith, lm)) e in omega (arith, same)

number_at : (named : List Term) (n : ℕ) (t : Term) → IsNumbering named → n < length named → term_at named n ≡ t → number_of named t ≡ n
number_at [] n t k lt e = absurd (omega (arith, lt))
number_at (x ∷ xs) zero t k lt e = ap (λ b. if b then 0 else number_of xs t + 1) (equal_same x t e)
number_at (x ∷ xs) (suc n) t k lt e = elim (same_term x t) as (λ b. same_term x t ≡ b → (if b then 0 else number_of xs t + 1) ≡ suc n) [
  | true ↦ λ h. let never : 0 ≡ suc n = k 0 (suc n) (omega arith) lt (same_equal x t h ∙ sym e) in absurd (omega (arith, never))
  | false ↦ λ h. let rest : number_of xs t ≡ n = number_at xs n t (one_less x xs k) (omega (arith, lt)) e in omega (arith, rest)
] refl

pub numbers_at : (named ts : List Term) (ns : List ℕ) → IsNumbering named → AreNumbersOf named ts ns → ns ≡ numbers_of named ts
numbers_at named [] [] k a = refl
numbers_at named [] (n ∷ ns) k a = absurd a
numbers_at named (t ∷ ts) [] k a = absurd a
numbers_at named (t ∷ ts) (n ∷ ns) k a =
    let first : n ≡ number_of named t = sym (number_at named n t k a.0.within a.0.is) in
    let rest : ns ≡ numbers_of named ts = numbers_at named ts ns k a.1 in
    λ i. first i ∷ rest i

-- a dictionary names as the store does
pub same_names : (named ts : List Term) → with_terms named ts ≡ named_with named ts
same_names named [] = refl
same_names named (t ∷ ts) = same_names (cond (has named t) named (named ++ t ∷ [])) ts

-- a new name at the end
numbered_push : (named : List Term) (u : Term) → (Contains named u → ⊥) → IsNumbering named → IsNumbering (named ++ u ∷ [])
numbered_push named u new k n m ln lm e =
    let size : length (named ++ u ∷ []) ≡ length named + 1 = simp length-append in
    elim (cases_lt n (length named)) [
      | inl a ↦ elim (cases_lt m (length named)) [
        | inl b ↦ k n m a b (sym (get_or-append named (u ∷ []) (Blank 0 0) n a) ∙ (e ∙ get_or-append named (u ∷ []) (Blank 0 0) m b))
        | inr b ↦ absurd (new (placed named n u a (sym (get_or-append named (u ∷ []) (Blank 0 0) n a) ∙ (e ∙ last m (omega (arith, b, lm, size))))))
      ]
      | inr a ↦ elim (cases_lt m (length named)) [
        | inl b ↦ absurd (new (placed named m u b (sym (get_or-append named (u ∷ []) (Blank 0 0) m b) ∙ (sym e ∙ last n (omega (arith, a, ln, size))))))
        | inr b ↦ omega (arith, a, b, ln, lm, size)
      ]
    ]
  where
    last : (i : ℕ) → i ≡ length named → term_at (named ++ u ∷ []) i ≡ u
    last i h = ap (term_at (named ++ u ∷ [])) h ∙ get_or-append_seam named u [] (Blank 0 0)

pub numbered_with : (named ts : List Term) → IsNumbering named → IsNumbering (named_with named ts)
numbered_with named [] k = k
numbered_with named (t ∷ ts) k = elim (has named t) as (λ b. has named t ≡ b → IsNumbering (named_with (cond b named (named ++ t ∷ [])) ts)) [
  | true ↦ λ e. numbered_with named ts k
  | false ↦ λ e. numbered_with (named ++ t ∷ []) ts (numbered_push named t (λ c. let h = name_has named t c in cc (e, h)) k)
] refl

pub names_stay : (named ts : List Term) (u : Term) → Contains named u → Contains (named_with named ts) u
names_stay named [] u c = c
names_stay named (t ∷ ts) u c = elim (has named t) as (λ b. Contains (named_with (cond b named (named ++ t ∷ [])) ts) u) [
  | true ↦ names_stay named ts u c
  | false ↦ names_stay (named ++ t ∷ []) ts u (Contains-append_left named (t ∷ []) u c)
]

-- what holds of each item, of whatever stands in the list
pub all_of : {X : Type 0} (P : X → Type 0) (xs : List X) → ((x : X) → Contains xs x → P x) → All P xs
all_of P xs f = λ k d lt. f _ (All-contains_itself xs k d lt)

pub triple_stays : (named ts : List Term) (t : Triple) → IsNamedTriple named t → IsNamedTriple (named_with named ts) t
triple_stays named ts t h = (names_stay named ts t.subject h.0, names_stay named ts t.predicate h.1, names_stay named ts t.object h.2)

pub triples_stay : (named ts : List Term) (g : List Triple) → AreNamedTriples named g → AreNamedTriples (named_with named ts) g
triples_stay named ts g a = all_of (IsNamedTriple (named_with named ts)) g (λ t c. triple_stays named ts t (All-contains (IsNamedTriple named) g t a c))

-- the terms of a triple that are named one by one
triple_named : (named : List Term) (t : Triple) → AreNamed named (terms_of t) → IsNamedTriple named t
triple_named named t a = (has_name named t.subject a.0, has_name named t.predicate a.1.0, has_name named t.object a.1.1.0)

named_changed : (named : List Term) (g : List Triple) (c : Change) → AreNamedTriples named g → AreNamed named (terms_of (changed_triple c)) → AreNamedTriples named (changed g c)
named_changed named g (Add t) a n = all_of (IsNamedTriple named) (with_item triple_cmp t g) (λ u c. elim (with_cases triple_cmp t g u c) [
  | inl e ↦ subst (λ (x : Triple). IsNamedTriple named x) e (triple_named named t n)
  | inr d ↦ All-contains (IsNamedTriple named) g u a d
])
named_changed named g (Remove t) a n = all_of (IsNamedTriple named) (without_item triple_cmp t g) (λ u c. All-contains (IsNamedTriple named) g u a (without_old triple_cmp t g u c))

-- a graph after changes of named triples
pub named_after : (named : List Term) (g : List Triple) (net : List Change) → AreNamedTriples named g → NetNamed named net → AreNamedTriples named (after g net)
named_after named g [] a n = a
named_after named g (c ∷ cs) a n = named_after named (changed g c) cs (named_changed named g c a n.0) n.1

all_named : (named : List Term) (g : List Triple) → AllByRecursion (λ t. AreNamed named (terms_of t)) g → (t : Triple) → Contains g t → IsNamedTriple named t
all_named named [] a t c = absurd (omega arith)
all_named named (u ∷ us) a t c = elim (has_cases u us t c) [
  | inl e ↦ subst (λ (x : Triple). IsNamedTriple named x) e (triple_named named u a.0)
  | inr d ↦ all_named named us a.1 t d
]

each_change : (named : List Term) (net : List Change) → NetNamed named net → (c : Change) → Contains net c → IsNamedTriple named (changed_triple c)
each_change named [] a c i = absurd (omega arith)
each_change named (d ∷ ds) a c i = elim (has_cases d ds c i) [
  | inl e ↦ subst (λ (x : Change). IsNamedTriple named (changed_triple x)) e (triple_named named (changed_triple d) a.0)
  | inr k ↦ each_change named ds a.1 c k
]

-- the triples of changes that are named term by term
pub net_named : (named : List Term) (net : List Change) → NetNamed named net → AreNamedChanges named net
net_named named net a = all_of (λ c. IsNamedTriple named (changed_triple c)) net (each_change named net a)

-- the triples of staged shapes that are named term by term
pub staged_named : (named : List Term) (g : List Triple) → AllByRecursion (λ t. AreNamed named (terms_of t)) g → AreNamedTriples named g
staged_named named g n = all_of (IsNamedTriple named) g (all_named named g n)

-- the staged shapes, or else the newest
pub named_under : (named : List Term) (shapes : List Triple) (staged : Option (List Triple)) → AreNamedTriples named shapes → StagedNamed named staged → AreNamedTriples named (shapes_under shapes staged)
named_under named shapes None a n = a
named_under named shapes (Some g) a n = staged_named named g n

-- the first names of a dictionary are those of the store
pub first_names : first_terms ≡ rdf_type ∷ sub_class_of ∷ []
unfolding first_terms rdf rdf_type sub_class_of
first_names = refl

-- the two first names are two terms
abbrev letter : Term → ℕ
letter (Blank session number) = 0
letter (Iri iri) = get_or iri 18 0
letter (Literal lexical datatype language) = 0

are_apart : rdf_type ≡ sub_class_of → ⊥
unfolding rdf rdf_type sub_class_of
are_apart e = let k : letter rdf_type ≡ letter sub_class_of = ap letter e in absurd (omega (arith, k))

pub first_numbering : IsNumbering (rdf_type ∷ sub_class_of ∷ [])
first_numbering = numbered_push (rdf_type ∷ []) sub_class_of (λ c. elim (has_cases rdf_type [] sub_class_of c) [
  | inl e ↦ absurd (are_apart e)
  | inr d ↦ absurd (omega arith)
]) (numbered_push [] rdf_type (λ c. absurd (omega arith)) (λ n m ln lm e. absurd (omega arith)))

-- names that come first
pub begins_same : (first names : List Term) → names ≡ first → IsBeginning first names
begins_same first names e = ([], e ∙ sym (append-nil first))

begins_then : (first names more : List Term) → IsBeginning first names → IsBeginning names more → IsBeginning first more
begins_then first names more a b = (a.0 ++ b.0, b.1 ∙ ap (λ (us : List Term). us ++ b.0) a.1 ∙ append_assoc first a.0 b.0)

-- what a block that is named gives the history, whose names are those of the graph before it
module _ (kind : NameKind) (graph : NamedGraph) (given terms : List Term) (n : NamedTerms) (is : IsNaming kind graph given terms n) where
  pub block_begins : (names : List Term) → names ≡ graph.terms → IsBeginning names n.names.terms
  block_begins names same =
      let all : n.names.terms ≡ with_terms graph.terms terms = is.names_are ∙ ap (λ (g : NamedGraph). g.terms) is.graph_is in
      subst (λ (us : List Term). IsBeginning us n.names.terms) (sym same) (subst (λ (us : List Term). IsBeginning graph.terms us) (sym all) (begins_with graph.terms terms))

  pub block_follows : (first : List Term) → IsBeginning first graph.terms → IsBeginning first n.graph.terms
  block_follows first b =
      begins_then first graph.terms n.graph.terms b (subst (λ (us : List Term). IsBeginning graph.terms us) (sym (ap (λ (g : NamedGraph). g.terms) is.graph_is)) (begins_with graph.terms terms))

  module _ (numbers : List ℕ) (are : AreNumbersOf n.graph.terms terms numbers) where
    block_numbers : AreNumbersOf n.names.terms terms numbers
    block_numbers = subst (λ (us : List Term). AreNumbersOf us terms numbers) (sym is.names_are) are

    pub block_told : terms_at n.names.terms numbers ≡ terms
    block_told = numbers_told n.names.terms terms numbers block_numbers

    pub block_has : AllByRecursion (λ i. i < length n.names.terms) numbers
    block_has = numbers_have n.names.terms terms numbers block_numbers

    -- they are the numbers that the terms have
    pub block_own : IsNumbering graph.terms → numbers ≡ numbers_of n.names.terms terms
    block_own k =
        let all : n.graph.terms ≡ named_with graph.terms terms = ap (λ (g : NamedGraph). g.terms) is.graph_is ∙ same_names graph.terms terms in
        let apart = subst (λ (us : List Term). IsNumbering us) (sym all) (numbered_with graph.terms terms k) in
        subst (λ (us : List Term). numbers ≡ numbers_of us terms) (sym is.names_are) (numbers_at n.graph.terms terms numbers apart are)
