-- The terms of a transaction keep their names.
use Rattle.std.proofs.Common.{◌≡◌, Bool, true, false, ◌||◌, cond, List, [], ◌∷◌, ◌++◌, Option, Some, None, refl, ap}
use Rattle.std.specs.List.{AllByRecursion}
use Rattle.std.specs.Ordering.{eq_by_cmp, is_eq}
use Rattle.std.proofs.lemmas.Cmp.{tied_itself}
use Rattle.rdf_model.specs.declared.term.Term.{Term}
use Rattle.rdf_model.specs.declared.triple.Triple.{Triple}
use Rattle.rdf_model.specs.declared.change.Change.{Change}
use Rattle.rdf_model.specs.Terms.{term_cmp}
use Rattle.rdf_model.specs.Orders.{term_total}
use Rattle.collections.specs.Ordered.{has_item}
use Rattle.store_model.specs.Store.{NetNamed, StagedNamed, changed_triple, terms_of, named_with}
use Rattle.session_model.specs.Sessions.{additions, parts_of, removals}

-- whether a term has a name
abbrev pub has : List Term → Term → Bool
has named t = has_item term_cmp t named

-- these names and others
abbrev pub IsMore : List Term → List Term → Type 0
IsMore named more = (t : Term) → has named t ≡ true → has more t ≡ true

has-push_old : (named : List Term) (u t : Term) → has named t ≡ true → has (named ++ u ∷ []) t ≡ true
has-push_old [] u t h = cc
has-push_old (x ∷ xs) u t h = elim (eq_by_cmp term_cmp x t) as (λ b. (b || has xs t) ≡ true → (b || has (xs ++ u ∷ []) t) ≡ true) [ true ↦ λ _. refl | false ↦ λ g. has-push_old xs u t g ] h

has-push_new : (named : List Term) (u : Term) → has (named ++ u ∷ []) u ≡ true
has-push_new [] u = ap (λ o. is_eq o || false) (tied_itself term_total u)
has-push_new (x ∷ xs) u = elim (eq_by_cmp term_cmp x u) as (λ b. (b || has (xs ++ u ∷ []) u) ≡ true) [ true ↦ refl | false ↦ has-push_new xs u ]

-- the names with one term more
abbrev one_more : List Term → Term → List Term
one_more named u = cond (has named u) named (named ++ u ∷ [])

IsMore-one_more : (named : List Term) (u : Term) → IsMore named (one_more named u)
IsMore-one_more named u t h = elim (has named u) as (λ b. has (cond b named (named ++ u ∷ [])) t ≡ true) [ true ↦ h | false ↦ has-push_old named u t h ]

has-one_more : (named : List Term) (u : Term) → has (one_more named u) u ≡ true
has-one_more named u = elim (has named u) as (λ b. has named u ≡ b → has (cond b named (named ++ u ∷ [])) u ≡ true) [ true ↦ λ e. e | false ↦ λ e. has-push_new named u ] refl

pub IsMore-named_with : (named ts : List Term) → IsMore named (named_with named ts)
IsMore-named_with named [] t h = h
IsMore-named_with named (u ∷ us) t h = IsMore-named_with (one_more named u) us t (IsMore-one_more named u t h)

All-named_with : (named ts : List Term) → AllByRecursion (λ t. has (named_with named ts) t ≡ true) ts
All-named_with named [] = tt
All-named_with named (u ∷ us) = (IsMore-named_with (one_more named u) us u (has-one_more named u), All-named_with (one_more named u) us)

All-more_names : (named more ts : List Term) → IsMore named more → AllByRecursion (λ t. has named t ≡ true) ts → AllByRecursion (λ t. has more t ≡ true) ts
All-more_names named more [] m a = tt
All-more_names named more (t ∷ ts) m a = (m t a.0, All-more_names named more ts m a.1)

pub NetNamed-more : (named more : List Term) (net : List Change) → IsMore named more → NetNamed named net → NetNamed more net
NetNamed-more named more [] m a = tt
NetNamed-more named more (c ∷ cs) m a = (All-more_names named more (terms_of (changed_triple c)) m a.0, NetNamed-more named more cs m a.1)

NetNamed-additions_each : (named : List Term) (ts : List Triple) → AllByRecursion (λ t. has named t ≡ true) (parts_of ts) → NetNamed named (additions ts)
NetNamed-additions_each named [] a = tt
NetNamed-additions_each named (t ∷ ts) a = ((a.0, (a.1.0, (a.1.1.0, tt))), NetNamed-additions_each named ts a.1.1.1)

NetNamed-removals_each : (named : List Term) (ts : List Triple) → AllByRecursion (λ t. has named t ≡ true) (parts_of ts) → NetNamed named (removals ts)
NetNamed-removals_each named [] a = tt
NetNamed-removals_each named (t ∷ ts) a = ((a.0, (a.1.0, (a.1.1.0, tt))), NetNamed-removals_each named ts a.1.1.1)

NetNamed-append : (named : List Term) (a b : List Change) → NetNamed named a → NetNamed named b → NetNamed named (a ++ b)
NetNamed-append named [] b x y = y
NetNamed-append named (c ∷ cs) b x y = (x.0, NetNamed-append named cs b x.1 y)

pub NetNamed-additions : (named : List Term) (net : List Change) (ts : List Triple) → NetNamed named net → NetNamed (named_with named (parts_of ts)) (net ++ additions ts)
NetNamed-additions named net ts n =
    let new = named_with named (parts_of ts) in
    NetNamed-append new net (additions ts) (NetNamed-more named new net (IsMore-named_with named (parts_of ts)) n) (NetNamed-additions_each new ts (All-named_with named (parts_of ts)))

pub NetNamed-removals : (named : List Term) (net : List Change) (ts : List Triple) → NetNamed named net → NetNamed (named_with named (parts_of ts)) (net ++ removals ts)
NetNamed-removals named net ts n =
    let new = named_with named (parts_of ts) in
    NetNamed-append new net (removals ts) (NetNamed-more named new net (IsMore-named_with named (parts_of ts)) n) (NetNamed-removals_each new ts (All-named_with named (parts_of ts)))

pub NetNamed-naming : (named : List Term) (net : List Change) (ts : List Term) → NetNamed named net → NetNamed (named_with named ts) net
NetNamed-naming named net ts n = NetNamed-more named (named_with named ts) net (IsMore-named_with named ts) n

-- so do those of staged shapes
AreNamed-more : (named more : List Term) (ts : List Triple) → IsMore named more → AllByRecursion (λ t. AllByRecursion (λ u. has named u ≡ true) (terms_of t)) ts → AllByRecursion (λ t. AllByRecursion (λ u. has more u ≡ true) (terms_of t)) ts
AreNamed-more named more [] m a = tt
AreNamed-more named more (t ∷ ts) m a = (All-more_names named more (terms_of t) m a.0, AreNamed-more named more ts m a.1)

pub StagedNamed-more : (named more : List Term) (staged : Option (List Triple)) → IsMore named more → StagedNamed named staged → StagedNamed more staged
StagedNamed-more named more None m a = tt
StagedNamed-more named more (Some shapes) m a = AreNamed-more named more shapes m a

pub StagedNamed-naming : (named : List Term) (staged : Option (List Triple)) (ts : List Term) → StagedNamed named staged → StagedNamed (named_with named ts) staged
StagedNamed-naming named staged ts a = StagedNamed-more named (named_with named ts) staged (IsMore-named_with named ts) a

AreNamed-parts : (named : List Term) (ts : List Triple) → AllByRecursion (λ t. has named t ≡ true) (parts_of ts) → AllByRecursion (λ t. AllByRecursion (λ u. has named u ≡ true) (terms_of t)) ts
AreNamed-parts named [] a = tt
AreNamed-parts named (t ∷ ts) a = ((a.0, (a.1.0, (a.1.1.0, tt))), AreNamed-parts named ts a.1.1.1)

pub StagedNamed-shapes : (named : List Term) (ts : List Triple) → StagedNamed (named_with named (parts_of ts)) (Some ts)
StagedNamed-shapes named ts = AreNamed-parts (named_with named (parts_of ts)) ts (All-named_with named (parts_of ts))
