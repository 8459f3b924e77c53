-- The rows of the members of a sequence or an alternative are those of a list of them, one after another.
use Rattle.std.proofs.Common.{◌≡◌, ◌∙◌, ◌<◌, ◌+◌, ◌-◌, ℕ, suc, List, [], ◌∷◌, ◌++◌, Vec, Box, Global, length, map, take, drop, drop-cons, get_or, ap, sym, subst, append-nil, arith}
use Rattle.std.specs.Prelude.{Bool, true, false}
use Rattle.std.proofs.lemmas.List.{length-drop, take_all}
use Rattle.rdf_model.specs.declared.term.Term.{Term}
use Rattle.shape_model.specs.Looks.{LookRow}
use Rattle.shape_model.specs.Paths as defined
use Rattle.path_ast.specs.declared.path.Path.{Path, Sequence, Alternative}
use Rattle.path_ast.specs.PathReadings.{defined_path, members}
use Rattle.path_ast.proofs.Sizes.{alternative_size, list_size, path_size, sequence_size}
use Rattle.read_plans.specs.declared.fault.PlanFault.{PlanFault}
use Rattle.read_plans.specs.declared.look.PlannedLook.{PlannedLook}
use Rattle.read_plans.specs.PathRows.{path_rows, some_rows, through_rows}
use Rattle.read_plans.specs.MemberRows.{back_way, backward_rows, each_rows, forward_rows}
use Rattle.read_plans.specs.Rows.{IsStopped}
use Rattle.read_plans.proofs.Growing.{IsLeft, left_stopped}

pub forward_members : (p : defined.Path) (ps : List defined.Path) (q : List defined.Path) → through_rows false (members p ps) q ≡ forward_rows (p ∷ ps) q
forward_members p [] q = sym (append-nil (path_rows false p q))
forward_members p (r ∷ rs) q = ap (λ xs. path_rows false p q ++ xs) (forward_members r rs (q ++ p ∷ []))

pub backward_members : (p : defined.Path) (ps : List defined.Path) (q : List defined.Path) → through_rows true (members p ps) q ≡ backward_rows (p ∷ ps) q
backward_members p [] q = sym (append-nil (path_rows true p q))
backward_members p (r ∷ rs) q = ap (λ xs. path_rows true p (q ++ defined.Inverse (defined.Sequence (members r rs)) ∷ []) ++ xs) (backward_members r rs q)

pub each_members : (reversed : Bool) (p : defined.Path) (ps : List defined.Path) (q : List defined.Path) → some_rows reversed (members p ps) q ≡ each_rows reversed (p ∷ ps) q
each_members reversed p [] q = sym (append-nil (path_rows reversed p q))
each_members reversed p (r ∷ rs) q = ap (λ xs. path_rows reversed p q ++ xs) (each_members reversed r rs q)

-- the parts of a sequence or an alternative are smaller
module _ (path : Path Term) (first : Box (Path Term) Global) (others : Vec (Path Term) Global) (f : Path Term) (ps : List (Path Term)) (is_first : f ≡ first.value) (are_others : ps ≡ others.items) where
  pub sequence_smaller : path ≡ Sequence first others → path_size f + list_size ps < path_size path
  sequence_smaller e = omega (arith, ap path_size e, sequence_size first others, ap path_size is_first, ap list_size are_others)

  pub alternative_smaller : path ≡ Alternative first others → path_size f + list_size ps < path_size path
  alternative_smaller e = omega (arith, ap path_size e, alternative_size first others, ap path_size is_first, ap list_size are_others)

-- the first of those that are left
module _ (ps : List (Path Term)) (i : ℕ) (p : Path Term) (lt : i < length ps) (is : p ≡ get_or ps i p) where
  next_of : drop i ps ≡ p ∷ drop (i + 1) ps
  next_of =
      let e : suc i ≡ i + 1 = omega arith in
      drop-cons ps i p lt ∙ ap (λ (n : ℕ). get_or ps i p ∷ drop n ps) e ∙ ap (λ (q : Path Term). q ∷ drop (i + 1) ps) (sym is)

  module _ (old now : List PlannedLook) (all : List LookRow) (fault : PlanFault) where
    pub forward_stopped : (longer slice : List (Path Term)) → slice ≡ longer → IsLeft old now all (forward_rows (map defined_path (drop i ps)) (map defined_path longer))
        → IsStopped (length now + length (path_rows false (defined_path p) (map defined_path slice))) fault → IsStopped (length old + length all) fault
    forward_stopped longer slice same left s =
        let w = map defined_path longer in
        left_stopped old all now (path_rows false (defined_path p) w) (forward_rows (map defined_path (drop (i + 1) ps)) (w ++ defined_path p ∷ [])) fault
        (subst (λ (qs : List (Path Term)). IsLeft old now all (forward_rows (map defined_path qs) w)) next_of left)
        (subst (λ (l : List (Path Term)). IsStopped (length now + length (path_rows false (defined_path p) (map defined_path l))) fault) same s)

    pub each_stopped : (reversed : Bool) (way : List (Path Term)) → IsLeft old now all (each_rows reversed (map defined_path (drop i ps)) (map defined_path way))
        → IsStopped (length now + length (path_rows reversed (defined_path p) (map defined_path way))) fault → IsStopped (length old + length all) fault
    each_stopped reversed way left s =
        let w = map defined_path way in
        left_stopped old all now (path_rows reversed (defined_path p) w) (each_rows reversed (map defined_path (drop (i + 1) ps)) w) fault
        (subst (λ (qs : List (Path Term)). IsLeft old now all (each_rows reversed (map defined_path qs) w)) next_of left) s

    pub backward_stopped : (way back slice : List (Path Term)) → slice ≡ back
        → map defined_path back ≡ back_way (map defined_path (take (length ps - (i + 1)) (drop (i + 1) ps))) (map defined_path way)
        → IsLeft old now all (backward_rows (map defined_path (drop i ps)) (map defined_path way))
        → IsStopped (length now + length (path_rows true (defined_path p) (map defined_path slice))) fault → IsStopped (length old + length all) fault
    backward_stopped way back slice same is_back left s =
        let w = map defined_path way in
        let rest = drop (i + 1) ps in
        let whole : take (length ps - (i + 1)) rest ≡ rest = take_all (length ps - (i + 1)) rest (let n = length-drop (i + 1) ps in omega (arith, n)) in
        let behind : map defined_path slice ≡ back_way (map defined_path rest) w = ap (map defined_path) same ∙ is_back ∙ ap (λ (qs : List (Path Term)). back_way (map defined_path qs) w) whole in
        left_stopped old all now (path_rows true (defined_path p) (back_way (map defined_path rest) w)) (backward_rows (map defined_path rest) w) fault
        (subst (λ (qs : List (Path Term)). IsLeft old now all (backward_rows (map defined_path qs) w)) next_of left)
        (subst (λ (l : List defined.Path). IsStopped (length now + length (path_rows true (defined_path p) l)) fault) behind s)
