use Rattle.std.proofs.Common.{◌≡◌, ◌∙◌, ◌<◌, List, Bool, ℕ, [], length, map, get_or, ap, sym, Vec, Global}
use Rattle.std.proofs.Common.{subst}
use Rattle.std.specs.Cmp.{booleans_Decides}
use Rattle.std.proofs.lemmas.Slice.Eq.{slice_eq-Decides}
use Rattle.std.proofs.lemmas.List.{get_or-map}
use Rattle.constraint_tests.proofs.checks.agree.Goals as goal

-- the items of what was read at a place
read : (answers : List (Vec Bool Global)) (n : ℕ) (a : Vec Bool Global) → n < length answers → a ≡ get_or answers n a
    → get_or (map (λ (v : Vec Bool Global). v.items) answers) n [] ≡ a.items
read answers n a lt e = get_or-map (λ (v : Vec Bool Global). v.items) answers n a [] lt ∙ ap (λ (v : Vec Bool Global). v.items) (sym e)

pub returns-else-shapes-place : goal.returns-else-shapes-place
returns-else-shapes-place c = λ t e.
    let answers = c.args.answers.now in
    let first = c.index-answers-place.result in
    let other = c.index-answers-other.result in
    let same : first.items ≡ other.items = (slice_eq-Decides booleans_Decides first.items other.items c.eq.result c.eq.ensures).0 t in
    read answers c.args.place first (subst (λ n. c.args.place < n) (sym c.requires.same) c.requires.place) c.index-answers-place.is
    ∙ (same ∙ sym (read answers c.args.other other (subst (λ n. c.args.other < n) (sym c.requires.same) c.requires.other) c.index-answers-other.is))
