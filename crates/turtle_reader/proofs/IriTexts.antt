-- IRIs, literals and tags of tokens can be written and read again.
use Rattle.std.proofs.Common.{◌≡◌, ◌∙◌, ℕ, zero, suc, ◌<◌, Bool, true, false, cond, not, ◌&&◌, ◌||◌, List, [], ◌∷◌, ◌++◌, drop, Option, Some, None, IfSome, refl, sym, ap, eqb, ltb, arith, inl, inr, ◌⊎◌, ⊎_elim, ◌≤◌}
use Rattle.std.specs.List.{AllByRecursion, list_all}
use Rattle.std.specs.Str.{IsUtf8, chars}
use Rattle.std.proofs.lemmas.Bool.{and_parts, and_from, or_from, or_right, or_cases, cases_lt, cases_eq, lt-ltb, eqb-true}
use Rattle.std.proofs.lemmas.List.Folds.{list_all-append}
use Rattle.std.proofs.lemmas.Str.{IsUtf8-append, chars-append, chars-encodes}
use lib.Utf8.{encodes, encode, scalars, scalar}
use Rattle.iri_ref.specs.Scheme.{has_scheme, reaches_colon, is_letter, is_scheme_char}
use Rattle.iri_ref.specs.Resolution.{resolved}
use Rattle.iri_ref.proofs.Joins.{gives_scheme}
use Rattle.iri_ref.proofs.Characters.{keeps_characters}
use Rattle.rdf_lexical.specs.Characters.{is_iri_char}
use Rattle.rdf_lexical.specs.declared.classes.Class.TheVariants.{Hexadecimal, NameStart, Name, NameOrColon, LocalEscape}
use Rattle.rdf_lexical.specs.Classes.{holds}
use Rattle.rdf_lexical.specs.declared.quoting.Quotes.{Quotes}
use Rattle.rdf_lexical.specs.declared.enclosing.Enclosed.TheVariants as enclosed
use Rattle.rdf_lexical.specs.Meanings.{inner, iri_text, string_value}
use Rattle.rdf_lexical.specs.Quoting.{quotes_length}
use Rattle.rdf_lexical.specs.Productions.{joined_texts, IsNameTail, IsIriRef}
use Rattle.rdf_lexical.proofs.Runs.{apart}
use Rattle.rdf_lexical.proofs.Contents.{unescaped_text}
use Rattle.turtle_lex.specs.Meanings.{local_text, local_part, before_colon, after_one}
use Rattle.turtle_lex.specs.Productions.{IsPrefix, IsPrefixName, IsLocalPiece, IsLocalPieceOrDot, IsLocal, IsPrefixedName}
use Rattle.ntriples_text.specs.Laws.{IsIriText}
use Rattle.ntriples_text.proofs.Gives.{body_of, scalars_take, scalars_drop}
use Rattle.turtle_reader.specs.Terms.{in_base}

-- a text that is its own characters
pub ascii_iri : (a : List ℕ) → scalars a ≡ true → encodes a ≡ a → list_all is_iri_char a ≡ true → has_scheme a ≡ true → IsIriText a
ascii_iri a s e h k = ((a, (s, e)), ap (list_all is_iri_char) (ap chars (sym e) ∙ chars-encodes a s) ∙ h, k)

-- IRIREF, and what it is in a base

pub iri_ref_text : (t : List ℕ) → scalars t ≡ true → IsIriRef t → IsUtf8 (iri_text t) × (list_all is_iri_char (chars (iri_text t)) ≡ true)
iri_ref_text t s (b, e, body) = let a = body_of enclosed.Iri 60 t b refl e s body in (a.0, a.1)

resolved_text : (base a : List ℕ) → IsIriText base → IsUtf8 a → list_all is_iri_char (chars a) ≡ true → IsIriText (resolved base a)
resolved_text base a b u h = let k = keeps_characters is_iri_char base a refl b.0 u b.1 h in (k.0, k.1, gives_scheme base a b.2)

pub in_base_text : (o : Option (List ℕ)) (a : List ℕ) → IfSome o IsIriText → IsUtf8 a → list_all is_iri_char (chars a) ≡ true → IfSome (in_base o a) IsIriText
in_base_text (Some base) a b u h = resolved_text base a b u h
in_base_text None a b u h = elim (has_scheme a) as (λ t. has_scheme a ≡ t → IfSome (cond t (Some a) None) IsIriText) [ true ↦ λ e. (u, h, e) | false ↦ λ e. tt ] refl

-- classes of characters that an IRI may hold

all_below : (ℕ → Bool) → ℕ → Bool
all_below f zero = true
all_below f (suc n) = f n && all_below f n

abbrev refused : (ℕ → Bool) → ℕ → Bool
refused f n = not (f n)

not_true : (b : Bool) → not b ≡ true → b ≡ true → ⊥
not_true true h k = cc
not_true false h k = cc

none_below : (f : ℕ → Bool) (n c : ℕ) → c < n → f c ≡ true → all_below (refused f) n ≡ true → ⊥
unfolding all_below
none_below f zero c l h k = absurd (omega arith)
none_below f (suc n) c l h k =
    let p = and_parts (refused f n) (all_below (refused f) n) k in
    ⊎_elim
    (λ (e : c ≡ n). not_true (f c) (ap (refused f) e ∙ p.0) h)
    (λ (e : c ≡ n → ⊥). none_below f n c (omega arith) h p.1)
    (cases_eq c n)

-- a class without the characters that an IRIREF may not hold
record IsHeld (f : ℕ → Bool) : Type 0 where
  low : all_below (refused f) 33 ≡ true
  less : f 60 ≡ false
  greater : f 62 ≡ false
  quote : f 34 ≡ false
  left : f 123 ≡ false
  right : f 125 ≡ false
  bar : f 124 ≡ false
  caret : f 94 ≡ false
  backquote : f 96 ≡ false
  backslash : f 92 ≡ false

held_char : (f : ℕ → Bool) (c : ℕ) → IsHeld f → f c ≡ true → is_iri_char c ≡ true
held_char f c h k =
    let above : ltb 32 c ≡ true = ⊎_elim (λ (l : c < 33). absurd (none_below f 33 c l k h.low)) (λ (l : 33 ≤ c). lt-ltb 32 c (omega arith)) (cases_lt c 33) in
    let two = or_from (eqb c 60) (eqb c 62) (apart f c 60 k h.less) (apart f c 62 k h.greater) in
    let three = or_from _ (eqb c 34) two (apart f c 34 k h.quote) in
    let four = or_from _ (eqb c 123) three (apart f c 123 k h.left) in
    let five = or_from _ (eqb c 125) four (apart f c 125 k h.right) in
    let six = or_from _ (eqb c 124) five (apart f c 124 k h.bar) in
    let seven = or_from _ (eqb c 94) six (apart f c 94 k h.caret) in
    let eight = or_from _ (eqb c 96) seven (apart f c 96 k h.backquote) in
    let nine = or_from _ (eqb c 92) eight (apart f c 92 k h.backslash) in
    and_from (ltb 32 c) _ above (ap not nine)

name_held : IsHeld (holds Name)
unfolding all_below
name_held = record { low = refl; less = refl; greater = refl; quote = refl; left = refl; right = refl; bar = refl; caret = refl; backquote = refl; backslash = refl }

start_held : IsHeld (holds NameStart)
unfolding all_below
start_held = record { low = refl; less = refl; greater = refl; quote = refl; left = refl; right = refl; bar = refl; caret = refl; backquote = refl; backslash = refl }

colon_held : IsHeld (holds NameOrColon)
unfolding all_below
colon_held = record { low = refl; less = refl; greater = refl; quote = refl; left = refl; right = refl; bar = refl; caret = refl; backquote = refl; backslash = refl }

hexadecimal_held : IsHeld (holds Hexadecimal)
unfolding all_below
hexadecimal_held = record { low = refl; less = refl; greater = refl; quote = refl; left = refl; right = refl; bar = refl; caret = refl; backquote = refl; backslash = refl }

escape_held : IsHeld (holds LocalEscape)
unfolding all_below
escape_held = record { low = refl; less = refl; greater = refl; quote = refl; left = refl; right = refl; bar = refl; caret = refl; backquote = refl; backslash = refl }

-- Prefixed names: all their characters are such, or backslashes, which are dropped.

abbrev pub stands : ℕ → Bool
stands c = eqb c 92 || is_iri_char c

stands_if : (c : ℕ) → is_iri_char c ≡ true → stands c ≡ true
stands_if c h = or_right (eqb c 92) (is_iri_char c) h

one_stands : (f : ℕ → Bool) (c : ℕ) → IsHeld f → f c ≡ true → stands c ≡ true
one_stands f c h k = stands_if c (held_char f c h k)

-- before other characters
more_stand : (c : ℕ) (cs : List ℕ) → stands c ≡ true → list_all stands cs ≡ true → list_all stands (c ∷ cs) ≡ true
more_stand c cs h k = and_from (stands c) (list_all stands cs) h k

both_stand : (a b : List ℕ) → list_all stands a ≡ true → list_all stands b ≡ true → list_all stands (a ++ b) ≡ true
both_stand a b h k = list_all-append stands a b ∙ and_from (list_all stands a) (list_all stands b) h k

is_stands : (a b : List ℕ) → a ≡ b → list_all stands b ≡ true → list_all stands a ≡ true
is_stands a b e h = ap (list_all stands) e ∙ h

dots_stand : (cs : List ℕ) → AllByRecursion (λ d. (holds Name d || eqb d 46) ≡ true) cs → list_all stands cs ≡ true
dots_stand [] h = refl
dots_stand (c ∷ cs) h = more_stand c cs
    (⊎_elim (λ (k : holds Name c ≡ true). one_stands (holds Name) c name_held k) (λ (k : eqb c 46 ≡ true). ap stands (eqb-true c 46 k)) (or_cases (holds Name c) (eqb c 46) h.0))
    (dots_stand cs h.1)

tail_stands : (v : List ℕ) → IsNameTail Name v → list_all stands v ≡ true
tail_stands v (inl e) = ap (list_all stands) e
tail_stands v (inr (w, d, e, all, last)) = is_stands v (w ++ d ∷ []) e (both_stand w (d ∷ []) (dots_stand w all) (more_stand d [] (one_stands (holds Name) d name_held last) refl))

prefix_stands : (p : List ℕ) → (p ≡ []) ⊎ IsPrefix p → list_all stands p ≡ true
prefix_stands p (inl e) = ap (list_all stands) e
prefix_stands p (inr (c, v, e, first, tail)) = is_stands p (c ∷ v) e (more_stand c v (one_stands (holds NameStart) c start_held first) (tail_stands v tail))

pub name_stands : (t : List ℕ) → IsPrefixName t → list_all stands t ≡ true
name_stands t (p, e, h) = is_stands t (p ++ 58 ∷ []) e (both_stand p (58 ∷ []) (prefix_stands p h) refl)

piece_stands : (t : List ℕ) → IsLocalPiece t → list_all stands t ≡ true
piece_stands t (inl (c, e, h)) = is_stands t (c ∷ []) e (more_stand c [] (one_stands (holds NameOrColon) c colon_held h) refl)
piece_stands t (inr (inl (a, b, e, h, k))) = is_stands t (37 ∷ a ∷ b ∷ []) e
    (more_stand 37 (a ∷ b ∷ []) refl (more_stand a (b ∷ []) (one_stands (holds Hexadecimal) a hexadecimal_held h) (more_stand b [] (one_stands (holds Hexadecimal) b hexadecimal_held k) refl)))
piece_stands t (inr (inr (c, e, h))) = is_stands t (92 ∷ c ∷ []) e (more_stand 92 (c ∷ []) refl (more_stand c [] (one_stands (holds LocalEscape) c escape_held h) refl))

pieces_stand : (ps : List (List ℕ)) → AllByRecursion IsLocalPieceOrDot ps → list_all stands (joined_texts ps) ≡ true
pieces_stand [] h = refl
pieces_stand (p ∷ ps) (inl piece, h) = both_stand p (joined_texts ps) (piece_stands p piece) (pieces_stand ps h)
pieces_stand (p ∷ ps) (inr dot, h) = both_stand p (joined_texts ps) (is_stands p (46 ∷ []) dot refl) (pieces_stand ps h)

local_stands : (t : List ℕ) → IsLocal t → list_all stands t ≡ true
local_stands t (ps, q, e, all, last, begins) = is_stands t (joined_texts ps ++ q) e (both_stand (joined_texts ps) q (pieces_stand ps all) (piece_stands q last))

pub prefixed_stands : (t : List ℕ) → IsPrefixedName t → list_all stands t ≡ true
prefixed_stands t (n, l, e, name, rest) = is_stands t (n ++ l) e (both_stand n l (name_stands n name) (local_stands l rest))

-- what is left behind the prefix
all_dropped : (f : ℕ → Bool) (n : ℕ) (cs : List ℕ) → list_all f cs ≡ true → list_all f (drop n cs) ≡ true
all_dropped f zero cs h = h
all_dropped f (suc n) [] h = h
all_dropped f (suc n) (c ∷ cs) h = all_dropped f n cs ((and_parts (f c) (list_all f cs) h).1)

all_behind_one : (f : ℕ → Bool) (cs : List ℕ) → list_all f cs ≡ true → list_all f (after_one cs) ≡ true
all_behind_one f [] h = h
all_behind_one f (c ∷ cs) h = (and_parts (f c) (list_all f cs) h).1

scalars_behind_one : (cs : List ℕ) → scalars cs ≡ true → scalars (after_one cs) ≡ true
scalars_behind_one [] h = h
scalars_behind_one (c ∷ cs) h = (and_parts (scalar c) (scalars cs) h).1

local_is : (cs : List ℕ) → scalars cs ≡ true → list_all stands cs ≡ true → (vs : List ℕ) × (local_text cs ≡ encodes vs) × (list_all is_iri_char vs ≡ true) × (scalars vs ≡ true)
local_is [] s h = ([], refl, refl, refl)
local_is (c ∷ cs) s h =
    let q = and_parts (scalar c) (scalars cs) s in
    let p = and_parts (stands c) (list_all stands cs) h in
    let more = local_is cs q.1 p.1 in
    elim (eqb c 92) as (λ b. (b || is_iri_char c) ≡ true → (vs : List ℕ) × (cond b (local_text cs) (encode c ++ local_text cs) ≡ encodes vs) × (list_all is_iri_char vs ≡ true) × (scalars vs ≡ true)) [
      | true ↦ λ k. more
      | false ↦ λ k. (
        c ∷ more.0,
        ap (λ x. encode c ++ x) more.1,
        and_from (is_iri_char c) (list_all is_iri_char more.0) k more.2,
        and_from (scalar c) (scalars more.0) q.0 more.3,
      )
    ] p.0

reaches_on : (a b : List ℕ) → reaches_colon a ≡ true → reaches_colon (a ++ b) ≡ true
reaches_on [] b h = cc
reaches_on (c ∷ cs) b h =
    elim (eqb c 58) as (λ t. (t || (is_scheme_char c && reaches_colon cs)) ≡ true → (t || (is_scheme_char c && reaches_colon (cs ++ b))) ≡ true) [
      | true ↦ λ k. refl
      | false ↦ λ k. let p = and_parts (is_scheme_char c) (reaches_colon cs) k in and_from (is_scheme_char c) (reaches_colon (cs ++ b)) p.0 (reaches_on cs b p.1)
    ] h

scheme_on : (a b : List ℕ) → has_scheme a ≡ true → has_scheme (a ++ b) ≡ true
scheme_on [] b h = cc
scheme_on (c ∷ cs) b h = let p = and_parts (is_letter c) (reaches_colon cs) h in and_from (is_letter c) (reaches_colon (cs ++ b)) p.0 (reaches_on cs b p.1)

pub named_text : (a t : List ℕ) → IsIriText a → scalars t ≡ true → list_all stands t ≡ true → IsIriText (a ++ local_text (local_part t))
named_text a t i s h =
    let rest : List ℕ = drop (before_colon t) t in
    let l = local_is (local_part t) (scalars_behind_one rest (scalars_drop (before_colon t) t s)) (all_behind_one stands rest (all_dropped stands (before_colon t) t h)) in
    let text : List ℕ = local_text (local_part t) in
    let utf8 : IsUtf8 text = (l.0, (l.3, sym l.1)) in
    let are : list_all is_iri_char (chars text) ≡ true = ap (λ x. list_all is_iri_char (chars x)) l.1 ∙ ap (list_all is_iri_char) (chars-encodes l.0 l.3) ∙ l.2 in (
      IsUtf8-append a text i.0 utf8,
      ap (list_all is_iri_char) (chars-append a text i.0) ∙ list_all-append is_iri_char (chars a) (chars text) ∙ and_from (list_all is_iri_char (chars a)) (list_all is_iri_char (chars text)) i.1 are,
      scheme_on a text i.2,
    )

-- strings

scalars_inner : (n : ℕ) (cs : List ℕ) → scalars cs ≡ true → scalars (inner n cs) ≡ true
scalars_inner n cs s = scalars_take _ (drop n cs) (scalars_drop n cs s)

pub string_text : (q : Quotes) (t : List ℕ) → scalars t ≡ true → IsUtf8 (string_value q t)
string_text q t s = let v = unescaped_text 0 (inner (quotes_length q) t) (scalars_inner (quotes_length q) t s) in (v.0, (v.2, sym v.1))
