-- The delimiters that components cannot have.
use Rattle.std.proofs.Common.{◌≡◌, ℕ, true, false, List, Some, None, IfSome, drop, sym, ap, ◌∙◌, cond, eqb, ⊎_elim, codes}
use Rattle.std.specs.List.{list_any, position_or_len, after_first, starts_with}
use Rattle.std.proofs.lemmas.Bool.{cases_Bool, cond_both}
use Rattle.std.proofs.lemmas.Option.{none-some}
use Rattle.iri_ref.specs.Components.{components, before, after, from, after_scheme, authority_of, path_of, hierarchical_part}
use Rattle.iri_ref.specs.Laws.{SplitsAtDelimiters, Lacks}
use Rattle.iri_ref.proofs.Marks.{lacks-before, lacks-take, lacks-drop}

path-lacks : (mark : ℕ) (part : List ℕ) → Lacks mark part → Lacks mark (path_of part)
path-lacks mark part h =
    cond_both (starts_with eqb part (codes "//")) (from 47 (drop 2 part)) part (Lacks mark)
    (λ _. lacks-drop mark (position_or_len (λ c. eqb c 47) (drop 2 part)) (drop 2 part) (lacks-drop mark 2 part h)) (λ _. h)

authority-lacks : (part : List ℕ) → Lacks 63 part → Lacks 35 part → IfSome (authority_of part) (λ a. Lacks 47 a × Lacks 63 a × Lacks 35 a)
authority-lacks part h k =
    cond_both (starts_with eqb part (codes "//")) (Some (before 47 (drop 2 part))) None (λ o. IfSome o (λ a. Lacks 47 a × Lacks 63 a × Lacks 35 a))
    (λ _. (
      lacks-before 47 (drop 2 part),
      lacks-take 63 (position_or_len (λ c. eqb c 47) (drop 2 part)) (drop 2 part) (lacks-drop 63 2 part h),
      lacks-take 35 (position_or_len (λ c. eqb c 47) (drop 2 part)) (drop 2 part) (lacks-drop 35 2 part k),
    ))
    (λ _. tt)

query-lacks : (front : List ℕ) → Lacks 35 front → IfSome (after 63 front) (Lacks 35)
query-lacks front h =
    cond_both (list_any (λ c. eqb c 63) front) (Some (after_first (λ c. eqb c 63) front)) None (λ o. IfSome o (Lacks 35)) (λ _. lacks-drop 35 _ front h) (λ _. tt)

without_authority : (part : List ℕ) → authority_of part ≡ None → starts_with eqb (path_of part) (codes "//") ≡ false
without_authority part e =
    ⊎_elim
    (λ (h : starts_with eqb part (codes "//") ≡ true). absurd (none-some (before 47 (drop 2 part)) (sym e ∙ ap (λ b. cond b (Some (before 47 (drop 2 part))) None) h)))
    (λ (h : starts_with eqb part (codes "//") ≡ false). ap (λ b. starts_with eqb (cond b (from 47 (drop 2 part)) part) (codes "//")) h ∙ h)
    (cases_Bool (starts_with eqb part (codes "//")))

pub splits_at_delimiters : SplitsAtDelimiters
unfolding components
splits_at_delimiters text =
    let rest : List ℕ = after_scheme text in
    let front : List ℕ = before 35 rest in
    let no_sign : Lacks 35 front = lacks-before 35 rest in
    let part : List ℕ = hierarchical_part text in
    let no_mark : Lacks 63 part = lacks-before 63 front in
    let neither : Lacks 35 part = lacks-take 35 (position_or_len (λ c. eqb c 63) front) front no_sign in
    record {
      authority = authority-lacks part no_mark neither;
      path = (path-lacks 63 part no_mark, path-lacks 35 part neither);
      query = query-lacks front no_sign;
      no_authority = without_authority part;
    }
