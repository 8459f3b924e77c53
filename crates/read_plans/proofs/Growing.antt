-- Rows that are added one after another.
use Rattle.std.proofs.Common.{◌≡◌, ◌∙◌, ℕ, suc, ◌+◌, ◌<◌, List, [], ◌∷◌, ◌++◌, length, map, drop, drop-cons, get_or, refl, ap, sym, append_assoc, append-nil, arith, subst}
use Rattle.std.specs.Prelude.{Result, Ok, Err}
use Rattle.std.specs.List.{flat_map}
use Rattle.std.proofs.lemmas.List.{length-append, length-map}
use Rattle.std.proofs.lemmas.List.Folds.{flat_map-map}
use Rattle.shape_model.specs.Looks.{LookRow}
use Rattle.read_plans.specs.declared.fault.PlanFault.{PlanFault}
use Rattle.read_plans.specs.declared.fault.PlanFault.TheVariants.{TooWide, Memory}
use Rattle.read_plans.specs.declared.look.PlannedLook.{PlannedLook}
use Rattle.read_plans.specs.Rows.{Adds, IsStopped, read_look, read_looks}

pub stopped_more : (m n : ℕ) (fault : PlanFault) → m < n + 1 → IsStopped m fault → IsStopped n fault
stopped_more m n (TooWide count) le s = let lt = s.1 in (s.0, omega (arith, lt, le))
stopped_more m n Memory le s = tt

-- `rest` is left of all that is added to the old rows
abbrev pub IsLeft : List PlannedLook → List PlannedLook → List LookRow → List LookRow → Type 0
IsLeft old now all rest = read_looks now ++ rest ≡ read_looks old ++ all

module _ (old : List PlannedLook) (all : List LookRow) where
  pub left_all : IsLeft old old all all
  left_all = refl

  -- some more was added
  pub left_more : (now new : List PlannedLook) (more rest : List LookRow) → IsLeft old now all (more ++ rest) → read_looks new ≡ read_looks now ++ more → IsLeft old new all rest
  left_more now new more rest e k = ap (λ xs. xs ++ rest) k ∙ append_assoc (read_looks now) more rest ∙ e

  pub left_none : (now : List PlannedLook) (rest : List LookRow) → rest ≡ [] → IsLeft old now all rest → read_looks now ≡ read_looks old ++ all
  left_none now rest none e = sym (append-nil (read_looks now)) ∙ ap (λ xs. read_looks now ++ xs) (sym none) ∙ e

  -- what is too much of it is too much
  pub left_stopped : (now : List PlannedLook) (more rest : List LookRow) (fault : PlanFault) → IsLeft old now all (more ++ rest) → IsStopped (length now + length more) fault → IsStopped (length old + length all) fault
  left_stopped now more rest fault e s =
      let n : length (read_looks now) ≡ length now = length-map now read_look in
      let o : length (read_looks old) ≡ length old = length-map old read_look in
      let a = length-append (read_looks now) (more ++ rest) in
      let b = length-append more rest in
      let c = length-append (read_looks old) all in
      let d = ap length e in
      stopped_more (length now + length more) (length old + length all) fault (omega (arith, n, o, a, b, c, d)) s

-- so the exit of a step that was stopped
pub stopped_exit : {X : Type 0} → (more : List LookRow) (old new : List PlannedLook) (r : Result X PlanFault) (f g : PlanFault) → r ≡ Err g → g ≡ f → IsStopped (length old + length more) f → Adds more old new r
stopped_exit more old new r f g is same s = subst (λ (q : Result _ PlanFault). Adds more old new q) (sym is) (subst (IsStopped (length old + length more)) (sym same) s)

-- the rows of one item after another
module _ {X : Type 0} (f : X → List LookRow) (xs : List X) (i : ℕ) (d : X) (lt : i < length xs) where
  next_at : drop i xs ≡ get_or xs i d ∷ drop (i + 1) xs
  next_at = let e : suc i ≡ i + 1 = omega arith in drop-cons xs i d lt ∙ ap (λ (n : ℕ). get_or xs i d ∷ drop n xs) e

  pub flat_stopped : (old now : List PlannedLook) (all : List LookRow) (fault : PlanFault) → IsLeft old now all (flat_map f (drop i xs))
      → IsStopped (length now + length (f (get_or xs i d))) fault → IsStopped (length old + length all) fault
  flat_stopped old now all fault left s =
      left_stopped old all now (f (get_or xs i d)) (flat_map f (drop (i + 1) xs)) fault (subst (λ (ys : List X). IsLeft old now all (flat_map f ys)) next_at left) s

-- by items that are read
pub mapped_stopped : {X Y : Type 0} → (R : X → Y) (f : Y → List LookRow) (xs : List X) (i : ℕ) (x : X) → i < length xs → x ≡ get_or xs i x
    → (old now : List PlannedLook) (all : List LookRow) (fault : PlanFault) → IsLeft old now all (flat_map f (map R (drop i xs)))
    → IsStopped (length now + length (f (R x))) fault → IsStopped (length old + length all) fault
mapped_stopped {X} {Y} R f xs i x lt is old now all fault left s =
    flat_stopped (λ (z : X). f (R z)) xs i x lt old now all fault
    (subst (λ (rest : List LookRow). IsLeft old now all rest) (flat_map-map f R (drop i xs)) left)
    (subst (λ (z : X). IsStopped (length now + length (f (R z))) fault) is s)

-- a step that was stopped, and others would follow
pub first_stopped : (old : List PlannedLook) (more rest all : List LookRow) (fault : PlanFault) → all ≡ more ++ rest → IsStopped (length old + length more) fault → IsStopped (length old + length all) fault
first_stopped old more rest all fault e s = left_stopped old all old more rest fault (ap (λ (rows : List LookRow). read_looks old ++ rows) (sym e)) s

-- one step after another
pub then_adds : {X : Type 0} → (old mid new : List PlannedLook) (more rest all : List LookRow) (r : Result X PlanFault) → all ≡ more ++ rest → read_looks mid ≡ read_looks old ++ more → Adds rest mid new r → Adds all old new r
then_adds old mid new more rest all (Ok x) e k a = a ∙ ap (λ (rows : List LookRow). rows ++ rest) k ∙ append_assoc (read_looks old) more rest ∙ ap (λ (rows : List LookRow). read_looks old ++ rows) (sym e)
then_adds old mid new more rest all (Err fault) e k s =
    let left : IsLeft old mid all (rest ++ []) = ap (λ (rows : List LookRow). read_looks mid ++ rows) (append-nil rest) ∙ ap (λ (rows : List LookRow). rows ++ rest) k ∙ append_assoc (read_looks old) more rest ∙ ap (λ (rows : List LookRow). read_looks old ++ rows) (sym e) in
    left_stopped old all mid rest [] fault left s

-- nothing is added
pub adds_none : (old : List PlannedLook) (more : List LookRow) → more ≡ [] → read_looks old ≡ read_looks old ++ more
adds_none old more e = sym (append-nil (read_looks old)) ∙ ap (λ (rows : List LookRow). read_looks old ++ rows) (sym e)
