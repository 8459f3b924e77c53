-- What finds and looks ask for, by number.
use Rattle.std.specs.Prelude.{◌≡◌, ◌<◌, ℕ, Bool, false, ◌&&◌, ◌||◌, List, length}
use Rattle.std.specs.List.{list_any}
use Rattle.std.specs.Ordering.{eq_by_cmp, nat_cmp}
use Rattle.collections.specs.Ordered.{IsAscending, has_item}
use Rattle.collections.specs.Pairs.{pair_cmp}
use Rattle.rdf_model.specs.declared.ids.Ids.{Ids}
use Rattle.rdf_model.specs.declared.look.Look.{Look}
use Rattle.rdf_model.specs.declared.pattern.Pattern.{Pattern}
use Rattle.rdf_model.specs.declared.term.Term.{Term}
use Rattle.rdf_model.specs.Matching.{is_found, is_read, is_read_by, matches, same_term}
use Rattle.rdf_model.specs.Numbers.{term_at, triple_at}
use Rattle.triple_index.specs.Patterns.{matches_ids}
use Rattle.numbered_patterns.specs.declared.pattern.NumberedPattern.{NumberedPattern}
use Rattle.triple_index.specs.Changes.{IsNumbered}
use Rattle.snapshot_store.specs.declared.looks.LookNumbers.{LookNumbers}

abbrev pub is_asked : List NumberedPattern → Ids → Bool
is_asked ps i = list_any (λ p. matches_ids p.subject p.predicate p.object i) ps

-- triples of numbers are asked for where a pattern asks for the triples that they stand for
abbrev pub AskAlike : List Term → List Pattern → List NumberedPattern → Type 0
AskAlike terms ps asked = (i : Ids) → IsNumbered terms i → is_asked asked i ≡ is_found ps (triple_at terms i)

-- one pattern is asked for besides
abbrev pub AsksBesides : List Term → Pattern → List NumberedPattern → List NumberedPattern → Type 0
AsksBesides terms p before later = (i : Ids) → IsNumbered terms i → is_asked later i ≡ (is_asked before i || matches p (triple_at terms i))

-- a number that has a term is this one where its term is t, and a pair of such numbers is this one where their terms are t and u
abbrev pub IsNumberAlike : List Term → Term → ℕ → Type 0
IsNumberAlike terms t number = (n : ℕ) → n < length terms → eq_by_cmp nat_cmp number n ≡ same_term t (term_at terms n)

abbrev pub IsPairAlike : List Term → Term → Term → ℕ × ℕ → Type 0
IsPairAlike terms t u pair = (n m : ℕ) → n < length terms → m < length terms → eq_by_cmp pair_cmp pair (n, m) ≡ (same_term t (term_at terms n) && same_term u (term_at terms m))

-- no number has the term, and no two have the two terms
abbrev pub IsUnnamed : List Term → Term → Type 0
IsUnnamed terms t = (n : ℕ) → n < length terms → same_term t (term_at terms n) ≡ false

abbrev pub NoneIsPaired : List Term → Term → Term → Type 0
NoneIsPaired terms t u = (n m : ℕ) → n < length terms → m < length terms → (same_term t (term_at terms n) && same_term u (term_at terms m)) ≡ false

-- the number of the term is there besides, and the pair of the two
abbrev pub AddsNumber : List Term → Term → List ℕ → List ℕ → Type 0
AddsNumber terms t before later = (n : ℕ) → n < length terms → has_item nat_cmp n later ≡ (has_item nat_cmp n before || same_term t (term_at terms n))

abbrev pub AddsPair : List Term → Term → Term → List (ℕ × ℕ) → List (ℕ × ℕ) → Type 0
AddsPair terms t u before later = (n m : ℕ) → n < length terms → m < length terms → has_item pair_cmp (n, m) later ≡ (has_item pair_cmp (n, m) before || (same_term t (term_at terms n) && same_term u (term_at terms m)))

-- one of the looks is at the triple's subject and predicate, at its predicate and object, or at its subject
abbrev pub is_looked_at : LookNumbers → Ids → Bool
is_looked_at l i = has_item pair_cmp (i.subject, i.predicate) l.out.items || has_item pair_cmp (i.predicate, i.object) l.into.items || has_item nat_cmp i.subject l.any.items

-- triples of numbers are looked at where a look reads the triples that they stand for
abbrev pub LookAlike : List Term → List (Look Term) → LookNumbers → Type 0
LookAlike terms looks l = (i : Ids) → IsNumbered terms i → is_looked_at l i ≡ is_read looks (triple_at terms i)

-- one look is at them besides
abbrev pub LooksBesides : List Term → Look Term → LookNumbers → LookNumbers → Type 0
LooksBesides terms look before later = (i : Ids) → IsNumbered terms i → is_looked_at later i ≡ (is_looked_at before i || is_read_by look (triple_at terms i))

-- they are at the same triples
abbrev pub LookSame : LookNumbers → LookNumbers → Type 0
LookSame l m = (i : Ids) → is_looked_at m i ≡ is_looked_at l i

-- each list rises
pub record AreSorted (l : LookNumbers) : Type 0 where
  pub out : IsAscending pair_cmp l.out.items
  pub into : IsAscending pair_cmp l.into.items
  pub any : IsAscending nat_cmp l.any.items
