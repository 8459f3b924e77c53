-- What the components of a text, joined, are.
use Rattle.std.proofs.Common.{◌≡◌, ℕ, ◌<◌, ◌≤◌, true, false, List, [], ◌∷◌, ◌++◌, Some, None, length, drop, sym, ap, ◌∙◌, cond, eqb, ⊎_elim, append_assoc, codes}
use Rattle.std.specs.List.{position_or_len, after_first, starts_with}
use Rattle.std.proofs.lemmas.Bool.{cases_Bool, cases_lt}
use Rattle.std.proofs.lemmas.List.{append-nil, take-append-drop, take_all}
use Rattle.std.proofs.lemmas.Option.{same_Some}
use Rattle.iri_ref.specs.Scheme.{has_scheme}
use Rattle.iri_ref.specs.Components.{Components, components, joined, led_by, ended_by, before, after, from, scheme_of, after_scheme, authority_of, path_of, query_of, fragment_of, hierarchical_part}
use Rattle.iri_ref.specs.Resolution.{resolved, target}
use Rattle.iri_ref.specs.Laws.{JoinsAgain, KeepsWithScheme, BeginsWithScheme, GivesScheme}
use Rattle.iri_ref.proofs.Marks.{split_at_character, list_any-some, list_any-past}
use Rattle.iri_ref.proofs.Prefixes.{starts_with-true}
use Rattle.iri_ref.proofs.Schemes.{colon_inside, has_scheme-front}

-- a text is what stands before a mark, the mark, and what follows
led_by-after : (mark : ℕ) (text : List ℕ) → before mark text ++ led_by (mark ∷ []) (after mark text) ≡ text
led_by-after mark text =
    ⊎_elim
    (λ (l : position_or_len (λ c. eqb c mark) text < length text).
    ap (λ b. before mark text ++ led_by (mark ∷ []) (cond b (Some (after_first (λ c. eqb c mark) text)) None)) (list_any-some (λ c. eqb c mark) text l) ∙ sym (split_at_character mark text l))
    (λ (l : length text ≤ position_or_len (λ c. eqb c mark) text).
    ap (λ b. before mark text ++ led_by (mark ∷ []) (cond b (Some (after_first (λ c. eqb c mark) text)) None)) (list_any-past (λ c. eqb c mark) text l)
    ∙ append-nil (before mark text) ∙ take_all (position_or_len (λ c. eqb c mark) text) text l)
    (cases_lt (position_or_len (λ c. eqb c mark) text) (length text))

scheme-joined : (text : List ℕ) → ended_by (58 ∷ []) (scheme_of text) ++ after_scheme text ≡ text
scheme-joined text =
    ⊎_elim
    (λ (h : has_scheme text ≡ true).
    ap (λ b. ended_by (58 ∷ []) (cond b (Some (before 58 text)) None) ++ cond b (after_first (λ c. eqb c 58) text) text) h
    ∙ append_assoc (before 58 text) (58 ∷ []) (after_first (λ c. eqb c 58) text) ∙ sym (split_at_character 58 text (colon_inside text h)))
    (λ (h : has_scheme text ≡ false).
    ap (λ b. ended_by (58 ∷ []) (cond b (Some (before 58 text)) None) ++ cond b (after_first (λ c. eqb c 58) text) text) h)
    (cases_Bool (has_scheme text))

authority-joined : (part : List ℕ) → led_by (codes "//") (authority_of part) ++ path_of part ≡ part
authority-joined part =
    ⊎_elim
    (λ (h : starts_with eqb part (codes "//") ≡ true).
    ap (λ b. led_by (codes "//") (cond b (Some (before 47 (drop 2 part))) None) ++ cond b (from 47 (drop 2 part)) part) h
    ∙ append_assoc (codes "//") (before 47 (drop 2 part)) (from 47 (drop 2 part))
    ∙ ap (λ t. codes "//" ++ t) (take-append-drop (position_or_len (λ c. eqb c 47) (drop 2 part)) (drop 2 part))
    ∙ sym (starts_with-true part (codes "//") h))
    (λ (h : starts_with eqb part (codes "//") ≡ false).
    ap (λ b. led_by (codes "//") (cond b (Some (before 47 (drop 2 part))) None) ++ cond b (from 47 (drop 2 part)) part) h)
    (cases_Bool (starts_with eqb part (codes "//")))

regrouped : (s a p q f : List ℕ) → s ++ a ++ p ++ q ++ f ≡ s ++ (a ++ p ++ q ++ f)
regrouped s a p q f = simp append_assoc

assembled : (s a p q f part front rest text : List ℕ) → a ++ p ≡ part → part ++ q ≡ front → front ++ f ≡ rest → s ++ rest ≡ text → s ++ a ++ p ++ q ++ f ≡ text
assembled s a p q f part front rest text e g h i =
    regrouped s a p q f ∙ ap (λ t. s ++ (t ++ q ++ f)) e ∙ ap (λ t. s ++ (t ++ f)) g ∙ ap (λ t. s ++ t) h ∙ i

pub joins_again : JoinsAgain
unfolding components
joins_again text =
    assembled (ended_by (codes ":") (scheme_of text)) (led_by (codes "//") (authority_of (hierarchical_part text))) (path_of (hierarchical_part text)) (led_by (codes "?") (query_of text)) (led_by (codes "#") (fragment_of text))
    (hierarchical_part text) (before 35 (after_scheme text)) (after_scheme text) text
    (authority-joined (hierarchical_part text)) (led_by-after 63 (before 35 (after_scheme text))) (led_by-after 35 (after_scheme text)) (scheme-joined text)

pub keeps_with_scheme : KeepsWithScheme
unfolding resolved
keeps_with_scheme base reference h = ap (λ b. cond b reference (joined (target (components base) (components reference)))) h

-- the scheme of a base that has one
scheme-defined : (base : List ℕ) → has_scheme base ≡ true → (components base).scheme ≡ Some (before 58 base)
unfolding components
scheme-defined base h = ap (λ b. cond b (Some (before 58 base)) None) h

-- what follows the scheme in the target
rest_of : Components → List ℕ
rest_of t = led_by (codes "//") t.authority ++ t.path ++ led_by (codes "?") t.query ++ led_by (codes "#") t.fragment

joined-scheme : (t : Components) (scheme : List ℕ) → t.scheme ≡ Some scheme → joined t ≡ scheme ++ codes ":" ++ rest_of t
unfolding rest_of
joined-scheme t scheme e =
    ap (λ s. ended_by (codes ":") s ++ led_by (codes "//") t.authority ++ t.path ++ led_by (codes "?") t.query ++ led_by (codes "#") t.fragment) e
    ∙ regrouped (scheme ++ codes ":") (led_by (codes "//") t.authority) t.path (led_by (codes "?") t.query) (led_by (codes "#") t.fragment)

pub begins_with_scheme : BeginsWithScheme
unfolding resolved
begins_with_scheme base reference h none =
    let goal : Components = target (components base) (components reference) in
    (before 58 base, rest_of goal, scheme-defined base h, ap (λ b. cond b reference (joined goal)) none ∙ joined-scheme goal (before 58 base) (scheme-defined base h))

pub gives_scheme : GivesScheme
gives_scheme base reference h =
    ⊎_elim
    (λ (some : has_scheme reference ≡ true). ap has_scheme (keeps_with_scheme base reference some) ∙ some)
    (λ (none : has_scheme reference ≡ false).
    let begins = begins_with_scheme base reference h none in
    let same : begins.0 ≡ before 58 base = same_Some begins.0 (before 58 base) (sym begins.2 ∙ scheme-defined base h) in
    ap has_scheme (begins.3 ∙ append_assoc begins.0 (58 ∷ []) begins.1 ∙ ap (λ s. s ++ (58 ∷ begins.1)) same) ∙ has_scheme-front base begins.1 h)
    (cases_Bool (has_scheme reference))
