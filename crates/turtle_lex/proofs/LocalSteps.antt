-- Steps of a local name.
use Rattle.std.proofs.Common.{◌≡◌, ◌≢◌, ◌∙◌, ℕ, zero, suc, ◌+◌, ◌<◌, ◌≤◌, ◌==◌, ◌||◌, true, false, cond, List, [], ◌∷◌, ◌++◌, length, drop, refl, sym, ap, subst, arith}
use Rattle.std.specs.Prelude.{encode_utf8, encode_utf8_all}
use Rattle.std.specs.List.{list_any}
use Rattle.std.proofs.lemmas.Bool.Decides.{nat_tests}
use Rattle.rdf_lexical.specs.Names.{with_dot}
use Rattle.rdf_lexical.proofs.Joined.{joined, joined_dot, joined_piece}
use Rattle.turtle_lex.specs.Meanings.{local_text}
use Rattle.rdf_lexical.specs.declared.classes.Class.TheVariants.{NameOrColon, LocalEscape}
use Rattle.rdf_lexical.specs.Classes.{holds, begins_with}
use Rattle.rdf_lexical.proofs.Runs.{apart}
use Rattle.turtle_lex.specs.Names.{begins_with_pair, local_piece, local_run, with_piece}

skip_run : (n : ℕ) (cs : List ℕ) → n ≤ length cs → local_run n cs ≡ n + local_run 0 (drop n cs)
skip_run zero cs h = omega arith
skip_run (suc n) [] h = absurd (omega arith)
skip_run (suc n) (c ∷ cs) h = let e = skip_run n cs (omega arith) in omega arith

abbrev TheRun : ℕ → List ℕ → ℕ → ℕ
TheRun c cs p = with_piece p (λ n. local_run n cs)

not_a_dot : (c : ℕ) (cs : List ℕ) → (c == 46) ≡ false → local_run 0 (c ∷ cs) ≡ TheRun c cs (local_piece (c ∷ cs))
not_a_dot c cs e = ap (λ b. cond b (with_dot (local_run 0 cs)) (TheRun c cs (local_piece (c ∷ cs)))) e

run_of_piece : (c : ℕ) (cs : List ℕ) (p : ℕ) → 0 < p → p ≤ suc (length cs) → TheRun c cs p ≡ p + local_run 0 (drop p (c ∷ cs))
run_of_piece c cs zero h b = absurd (omega arith)
run_of_piece c cs (suc n) h b = let e = skip_run n cs (omega arith) in omega arith

pub piece_step : (cs after : List ℕ) (kept count c p : ℕ) → cs ≡ c ∷ after → c ≢ 46 → p ≡ local_piece cs → 0 < p → p ≤ length cs → joined kept count (local_run 0 cs) ≡ joined (count + p) (count + p) (local_run 0 (drop p cs))
piece_step [] after kept count c p is dot e h b = cc
piece_step (d ∷ cs) after kept count c p is dot e h b =
    let same : d ≡ c = cc in
    let other : (d == 46) ≡ false = subst (λ (x : ℕ). (x == 46) ≡ false) (sym same) (grind (arith, nat_tests)) in
    ap (joined kept count) (not_a_dot d cs other ∙ ap (TheRun d cs) (sym e) ∙ run_of_piece d cs p h b) ∙ joined_piece kept count p (local_run 0 (drop p (d ∷ cs))) h

-- most pieces are a character that stands for itself
pub name_step : (cs after : List ℕ) (kept count c : ℕ) → cs ≡ c ∷ after → holds NameOrColon c ≡ true → joined kept count (local_run 0 cs) ≡ joined (count + 1) (count + 1) (local_run 0 after)
name_step cs after kept count c is held =
    let no_percent = apart (holds NameOrColon) c 37 held refl in
    let no_backslash = apart (holds NameOrColon) c 92 held refl in
    let one : local_piece (c ∷ after) ≡ 1 =
    ap (λ b. cond b (cond (begins_with_pair after) 3 0) (cond (c == 92) (cond (begins_with LocalEscape after) 2 0) (cond (holds NameOrColon c) 1 0))) no_percent
    ∙ ap (λ b. cond b (cond (begins_with LocalEscape after) 2 0) (cond (holds NameOrColon c) 1 0)) no_backslash
    ∙ ap (λ b. cond b 1 0) held in
    ap (λ x. joined kept count (local_run 0 x)) is
    ∙ ap (joined kept count) (not_a_dot c after (apart (holds NameOrColon) c 46 held refl) ∙ ap (TheRun c after) one ∙ run_of_piece c after 1 (omega arith) (omega arith))
    ∙ joined_piece kept count 1 (local_run 0 after) (omega arith)

pub dot_step : (cs after : List ℕ) (kept count c : ℕ) → cs ≡ c ∷ after → c ≡ 46 → joined kept count (local_run 0 cs) ≡ joined kept (count + 1) (local_run 0 after)
dot_step cs after kept count c is dot =
    let same : (c == 46) ≡ true = grind (arith, nat_tests) in
    ap (λ x. joined kept count (local_run 0 x)) is
    ∙ ap (joined kept count) (ap (λ b. cond b (with_dot (local_run 0 after)) (TheRun c after (local_piece (c ∷ after)))) same)
    ∙ joined_dot kept count (local_run 0 after)

-- a local name without a backslash stands for itself
pub no_escape : (cs : List ℕ) → list_any (λ c. c == 92) cs ≡ false → local_text cs ≡ encode_utf8_all cs
no_escape [] e = refl
no_escape (c ∷ cs) e = elim (c == 92) as (λ b. (b || list_any (λ d. d == 92) cs) ≡ false → cond b (local_text cs) (encode_utf8 c ++ local_text cs) ≡ encode_utf8 c ++ encode_utf8_all cs) [
  | true ↦ λ h. cc
  | false ↦ λ h. ap (λ r. encode_utf8 c ++ r) (no_escape cs h)
] e
