-- Texts that begin with another.
use Rattle.std.proofs.Common.{◌≡◌, ℕ, ◌+◌, ◌≤◌, true, false, List, [], ◌∷◌, ◌++◌, length, drop, refl, sym, ap, ◌∙◌, eqb, arith, append_assoc, get_or, add-one, length-append, bytes_eq}
use Rattle.std.specs.List.{starts_with}
use Rattle.std.specs.Str.Pattern.{StripsPrefix, FindsTextPrefix}
use Rattle.std.proofs.lemmas.List.{append-nil, drop_all}
use Rattle.std.proofs.lemmas.Slice.Eq.{starts_is, bytes_eq-Decides}
use Rattle.std.proofs.lemmas.Bool.Decides.{Decides-eqb}
use Rattle.std.proofs.lemmas.Bool.{false_from_ne_true, or_from, or_left, or_right}
use Rattle.iri_ref.specs.DotSegments.{begins_with_segment}

-- `starts_with` is true exactly where the text is the prefix and a rest
pub starts_with-true : (text prefix : List ℕ) → starts_with eqb text prefix ≡ true → text ≡ prefix ++ drop (length prefix) text
starts_with-true text prefix h = (starts_is Decides-eqb text prefix _ refl).0 h

pub starts_with-append : (text prefix rest : List ℕ) → text ≡ prefix ++ rest → starts_with eqb text prefix ≡ true
starts_with-append text prefix rest e = (starts_is Decides-eqb text prefix _ refl).1 rest e

pub starts_with-false : (text prefix : List ℕ) → ((rest : List ℕ) → text ≡ prefix ++ rest → ⊥) → starts_with eqb text prefix ≡ false
starts_with-false text prefix h = false_from_ne_true _ (λ e. h _ (starts_with-true text prefix e))

pub bytes_eq-false : (text other : List ℕ) → (text ≡ other → ⊥) → bytes_eq text other ≡ false
bytes_eq-false text other h = false_from_ne_true _ (λ e. h ((bytes_eq-Decides text other).0 e))

-- a text that does not begin with a segment does not begin with it as a complete one
pub begins-without : (text segment : List ℕ) → ((rest : List ℕ) → text ≡ segment ++ rest → ⊥) → begins_with_segment text segment ≡ false
begins-without text segment h =
    or_from _ _
    (starts_with-false text (segment ++ 47 ∷ []) (λ rest e. h (47 ∷ rest) (e ∙ append_assoc segment (47 ∷ []) rest)))
    (bytes_eq-false text segment (λ e. h [] (e ∙ sym (append-nil segment))))

append-cancel : (front xs ys : List ℕ) → front ++ xs ≡ front ++ ys → xs ≡ ys
append-cancel [] xs ys e = e
append-cancel (f ∷ fs) xs ys e = append-cancel fs xs ys cc

-- the segment is complete where nothing or a slash follows
pub begins-end : (text segment rest : List ℕ) → text ≡ segment ++ rest → length rest ≡ 0 → begins_with_segment text segment ≡ true
begins-end text segment [] e l = or_right _ _ ((bytes_eq-Decides text segment).1 (e ∙ append-nil segment))
begins-end text segment (x ∷ xs) e l = absurd (omega arith)

pub begins-slash : (text segment rest : List ℕ) → text ≡ segment ++ 47 ∷ rest → begins_with_segment text segment ≡ true
begins-slash text segment rest e = or_left _ _ (starts_with-append text (segment ++ 47 ∷ []) rest (e ∙ sym (append_assoc segment (47 ∷ []) rest)))

pub begins-other : (text segment rest : List ℕ) → text ≡ segment ++ rest → (length rest ≡ 0 → ⊥) → (get_or rest 0 0 ≡ 47 → ⊥) → begins_with_segment text segment ≡ false
begins-other text segment rest e some other =
    or_from _ _
    (starts_with-false text (segment ++ 47 ∷ []) (λ more f.
    let same : rest ≡ 47 ∷ more = append-cancel segment rest (47 ∷ more) (sym e ∙ f ∙ append_assoc segment (47 ∷ []) more) in
    other (ap (λ t. get_or t 0 0) same)))
    (bytes_eq-false text segment (λ f.
    let same : rest ≡ [] = append-cancel segment rest [] (sym e ∙ f ∙ sym (append-nil segment)) in
    some (ap length same)))

drop-past : (segment : List ℕ) (c : ℕ) (rest : List ℕ) → drop (length segment + 1) (segment ++ c ∷ rest) ≡ rest
drop-past [] c rest = refl
drop-past (x ∷ xs) c rest = rw add-one (rw add-one at (drop-past xs c rest))

-- what the code answers after a segment
pub rest-end : (text segment rest : List ℕ) → text ≡ segment ++ rest → length rest ≡ 0 → drop (length segment + 1) text ≡ []
rest-end text segment rest e l =
    let short : length text ≤ length segment + 1 = omega (arith, ap length e, length-append segment rest) in
    drop_all (length segment + 1) text short

pub rest-slash : (text segment rest : List ℕ) → text ≡ segment ++ 47 ∷ rest → drop (length segment + 1) text ≡ rest
rest-slash text segment rest e = ap (λ t. drop (length segment + 1) t) e ∙ drop-past segment 47 rest

-- the same, as `strip_prefix` says it
abbrev pub Strips : List ℕ → List ℕ → List ℕ → Type 0
Strips text segment rest = StripsPrefix (FindsTextPrefix segment) text rest

stripped : (text segment rest : List ℕ) → Strips text segment rest → text ≡ segment ++ rest
stripped text segment rest h = h.1.1 ∙ ap (λ t. segment ++ t) (sym h.2)

pub after-end : (text segment rest : List ℕ) → Strips text segment rest → length rest ≡ 0 → (begins_with_segment text segment ≡ true) × (◌≡◌ {A = List ℕ} (47 ∷ []) (47 ∷ drop (length segment + 1) text))
after-end text segment rest h l = (begins-end text segment rest (stripped text segment rest h) l, ap (λ t. 47 ∷ t) (sym (rest-end text segment rest (stripped text segment rest h) l)))

pub after-slash : (text segment rest : List ℕ) → Strips text segment rest → (length rest ≡ 0 → ⊥) → get_or rest 0 0 ≡ 47 → (begins_with_segment text segment ≡ true) × (rest ≡ 47 ∷ drop (length segment + 1) text)
after-slash text segment [] h some e = absurd (some refl)
after-slash text segment (x ∷ xs) h some e =
    let whole : text ≡ segment ++ 47 ∷ xs = stripped text segment (x ∷ xs) h ∙ ap (λ c. segment ++ c ∷ xs) e in
    (begins-slash text segment xs whole, ap (λ c. c ∷ xs) e ∙ ap (λ t. 47 ∷ t) (sym (rest-slash text segment xs whole)))

pub after-other : (text segment rest : List ℕ) → Strips text segment rest → (length rest ≡ 0 → ⊥) → (get_or rest 0 0 ≡ 47 → ⊥) → begins_with_segment text segment ≡ false
after-other text segment rest h some other = begins-other text segment rest (stripped text segment rest h) some other
