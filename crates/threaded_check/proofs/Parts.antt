-- One pair of a shape and a node: whether it is permitted, and what its evaluation gives; and the pairs of shares.
use Rattle.std.proofs.Common.{◌≡◌, ◌∙◌, ℕ, ◌+◌, ◌<◌, Bool, true, false, List, [], ◌∷◌, ◌++◌, append-nil, length, refl, ap, sym, subst, arith, inl, inr}
use Rattle.std.specs.Prelude.{◌⊎◌, ◌↔◌, IsTrue, Option, Some, if◌then◌else◌, is_some, slice_get}
use Rattle.std.specs.List.{All, AllZip, Contains, flat_map}
use Rattle.std.proofs.lemmas.List.{map-append, nil_from_length}
use Rattle.std.proofs.lemmas.List.Concat.{flat_map-append}
use Rattle.std.proofs.lemmas.List.Elements.{All-cons, All-nil, Contains-append_left, Contains-append_right}
use Rattle.collections.specs.Listings.{IsListing}
use Rattle.collections.proofs.Members.{has_head}
use Rattle.rdf_model.specs.declared.term.Term.{Term}
use Rattle.rdf_model.specs.declared.triple.Triple.{Triple}
use Rattle.rdf_model.specs.declared.ids.Ids.{Ids}
use Rattle.rdf_model.specs.declared.look.Look.{Look}
use Rattle.rdf_model.specs.Numbers.{AreNumbered, IsNumbering, graph_of, term_at}
use Rattle.shape_model.specs.declared.result_row.ResultRow.{ResultRow}
use Rattle.shape_model.specs.NodeLooks.{IsLook}
use Rattle.shape_model.specs.Rows.{result_row_cmp}
use Rattle.shape_model.specs.ShapeLooks.{ResultLook}
use Rattle.shape_model.specs.Targets.{Target}
use Rattle.shape_model.specs.Validation.{At}
use Rattle.shape_model.proofs.Listings.{listing_same}
use Rattle.path_eval.specs.declared.instances.ClassWords.{ClassWords}
use Rattle.path_eval.specs.Instances.{AreClassWords}
use Rattle.path_eval.proofs.Footprints.{looks_none, looks_same}
use Rattle.shape_ast.specs.declared.shape.Shape.{Shape}
use Rattle.shape_ast.specs.Readings.{AreBound, ReadShape, named_shapes}
use Rattle.shape_ast.specs.Standing.{StandFor}
use Rattle.target_nodes.specs.ShapeTargets.{AddsTargetLooks, AtShape, IsTargetAnswer, NumberedShapes}
use Rattle.shape_eval.specs.declared.rights.Permit.{Permit}
use Rattle.shape_eval.specs.Looks.{AddsShapeLooks}
use Rattle.shape_eval.specs.Results.{ListsResults}
use Rattle.change_laws.specs.Pairs.{PairRow}
use Rattle.parallel_validate.specs.PairResults.{ListsPair, StepsOfPair, TellsTarget}
use Rattle.parallel_validate.specs.PairsResults.{HaveRows}
use Rattle.threaded_check.specs.Findings.{AddsAimLooks, AddsRowLooks, AimLook, AreFound, IsFoundOf, RowLook}
use Rattle.threaded_check.specs.PermittedPairs.{AreAllowed, IsPermitted, pair_in, pairs_in, permitted_in}
use Rattle.threaded_check.specs.declared.pairs.Found.{Found}
use Rattle.threaded_check.specs.declared.pairs.PermittedPair.{PermittedPair}
use Rattle.threaded_check.specs.declared.pairs.Share.{Share}
use Rattle.threaded_check.proofs.Joining.{both_looks, both_rows, later_looks, no_looks, no_rows, one_looks}

-- what a test of the node says, as it is told of the shape at the place
pub told_of : (terms : List Term) (ids : List Ids) (words : ClassWords) (shapes : List (Shape ℕ)) (n f : ℕ) (answer : Bool) (old new : List (Look ℕ)) → IsNumbering terms → AreNumbered terms ids → AreClassWords terms words → AreBound terms shapes → f < length terms
    → NumberedShapes ids words shapes (λ terms. AtShape terms shapes n (λ s own. IsTargetAnswer terms ids s own f answer))
    → NumberedShapes ids words shapes (λ terms. AtShape terms shapes n (λ s own. AddsTargetLooks terms ids s own f old new)) → TellsTarget terms ids shapes n f answer old new
told_of terms ids words shapes n f answer old new numbering numbered named bound lt tells adds s c stand at = record {
  answered = tells terms numbering numbered named bound s c stand at lt;
  looks = adds terms numbering numbered named bound s c stand at lt;
}

-- one is counted where it holds, else none
counted_if : (T : Type 0) (aim : Bool) → (IsTrue aim ↔ T) → (old new : ℕ) → new ≡ (if aim then old + 1 else old) → (T × (new ≡ old + 1)) ⊎ ((T → ⊥) × (new ≡ old))
counted_if T true e old new k = inl (e.0 refl, k)
counted_if T false e old new k = inr (λ t. let h = e.1 t in cc, k)

module _ (terms : List Term) (ids : List Ids) (shapes : List (Shape ℕ)) where
  module _ (e : ℕ × ℕ) (aim : Bool) (old new : List (Look ℕ)) (place : e.0 < length shapes) (told : TellsTarget terms ids shapes e.0 e.1 aim old new) where
    pub is_permitted : e.1 < length terms → (allowed : Option Permit) → is_some allowed ≡ aim → IsPermitted terms ids shapes (record { shape = e.0; focus = e.1; allowed = allowed })
    is_permitted node allowed is = record {
      place = place;
      node = node;
      targets = λ s c stand at. subst (λ (b : Bool). IsTrue b ↔ Target (graph_of terms ids) s c.node (term_at terms e.1)) (sym is) (told s c stand at).answered;
    }

    pub aim_looks : AddsAimLooks terms ids shapes (e ∷ []) old new
    aim_looks = one_looks (AimLook (graph_of terms ids)) terms shapes e old new place (λ s c stand at acyclic shallow. (told s c stand at).looks)

    pub aim_steps : (before after : ℕ) → after ≡ (if aim then before + 1 else before) → StepsOfPair terms ids shapes e.0 e.1 before after
    aim_steps before after k s c stand at = counted_if (Target (graph_of terms ids) s c.node (term_at terms e.1)) aim (told s c stand at).answered before after k

  module _ (p : PermittedPair) (is : IsPermitted terms ids shapes p) where
    abbrev Is : (s : List Triple) → ReadShape → Type 0
    Is s c = Target (graph_of terms ids) s c.node (term_at terms p.focus)

    answered : (b : Bool) → is_some p.allowed ≡ b → (s : List Triple) (c : ReadShape) → StandFor (named_shapes terms shapes) s → slice_get (named_shapes terms shapes) p.shape ≡ Some c → IsTrue b ↔ Is s c
    answered b e s c stand at = subst (λ (x : Bool). IsTrue x ↔ Is s c) e (is.targets s c stand at)

    -- where an evaluation is permitted
    pub some_rows : is_some p.allowed ≡ true → (rows : List ResultRow) → ListsResults terms ids shapes p.shape p.focus rows → ListsPair terms ids shapes p.shape p.focus rows
    some_rows e rows lists s c stand at acyclic shallow =
        let g = graph_of terms ids in
        let aim = (answered true e s c stand at).0 refl in
        listing_same result_row_cmp (At g s c.node (term_at terms p.focus)) (PairRow g s c.node (term_at terms p.focus)) (λ r. (λ i. (aim, i), λ i. i.1)) rows (lists s c stand at acyclic shallow)

    pub some_looks : is_some p.allowed ≡ true → (old new : List (Look ℕ)) → AddsShapeLooks terms ids shapes p.shape p.focus old new → AddsRowLooks terms ids shapes (pair_in p ∷ []) old new
    some_looks e old new adds = one_looks (RowLook (graph_of terms ids)) terms shapes (pair_in p) old new is.place (λ s c stand at acyclic shallow.
        let g = graph_of terms ids in
        let aim = (answered true e s c stand at).0 refl in
        looks_same terms (IsLook g (ResultLook s c.node) (term_at terms p.focus)) (RowLook g s c.node (term_at terms p.focus)) (λ l. (λ i. (aim, i), λ i. i.1)) old new (adds s c stand at acyclic shallow))

    -- where it isn't
    pub no_row : is_some p.allowed ≡ false → (rows : List ResultRow) → rows ≡ [] → ListsPair terms ids shapes p.shape p.focus rows
    no_row e rows none s c stand at acyclic shallow = subst (λ (rs : List ResultRow). IsListing result_row_cmp (PairRow (graph_of terms ids) s c.node (term_at terms p.focus)) rs) (sym none) (record {
      ascending = tt;
      members = λ r. (λ k. absurd (omega (arith, k.1)), λ i. let h = (answered false e s c stand at).1 i.0 in cc);
    })

    pub no_look : is_some p.allowed ≡ false → (old : List (Look ℕ)) → AddsRowLooks terms ids shapes (pair_in p ∷ []) old old
    no_look e old = one_looks (RowLook (graph_of terms ids)) terms shapes (pair_in p) old old is.place (λ s c stand at acyclic shallow.
        looks_none terms (RowLook (graph_of terms ids) s c.node (term_at terms p.focus)) (λ l i. let h = (answered false e s c stand at).1 i.0 in cc) old)

  -- what is found of the pairs of all shares
  pub all_found : (shares : List Share) (parts : List Found) → AllZip (IsFoundOf terms ids shapes) shares parts
      → AreFound terms ids shapes (pairs_in (permitted_in shares)) (flat_map (λ part. part.pairs.items) parts) (flat_map (λ part. part.looks) parts)
  all_found [] [] z = record { rows = no_rows terms ids shapes; looks = no_looks (RowLook (graph_of terms ids)) terms shapes [] }
  all_found [] (r ∷ rs) z = absurd z
  all_found (v ∷ vs) [] z = absurd z
  all_found (v ∷ vs) (r ∷ rs) z =
      let own = pairs_in v.pairs.items in
      let others = pairs_in (permitted_in vs) in
      let left = flat_map (λ (part : Found). part.looks) rs in
      let more = all_found vs rs z.1 in
      let joined : pairs_in (permitted_in (v ∷ vs)) ≡ own ++ others = map-append pair_in v.pairs.items (permitted_in vs) in
      record {
        rows = subst (λ (es : List (ℕ × ℕ)). HaveRows terms ids shapes es (r.pairs.items ++ flat_map (λ (part : Found). part.pairs.items) rs)) (sym joined)
            (both_rows terms ids shapes own others r.pairs.items (flat_map (λ (part : Found). part.pairs.items) rs) z.0.rows more.rows);
        looks = subst (λ (es : List (ℕ × ℕ)). AddsRowLooks terms ids shapes es [] (r.looks ++ left)) (sym joined)
            (both_looks (RowLook (graph_of terms ids)) terms shapes own others [] r.looks (r.looks ++ left) z.0.looks (later_looks (RowLook (graph_of terms ids)) terms shapes others r.looks left more.looks));
      }

  pub each_share : (shares : List Share) → AreAllowed terms ids shapes (permitted_in shares) → All (λ share. AreAllowed terms ids shapes share.pairs.items) shares
  each_share [] h = All-nil (λ (share : Share). AreAllowed terms ids shapes share.pairs.items)
  each_share (v ∷ vs) h =
      All-cons (λ (share : Share). AreAllowed terms ids shapes share.pairs.items) v vs
      (λ p i. h p (Contains-append_left v.pairs.items (permitted_in vs) p i))
      (each_share vs (λ p i. h p (Contains-append_right v.pairs.items (permitted_in vs) p i)))

-- one share more
pub share_more : (shares new : List Share) (share : Share) → new ≡ shares ++ share ∷ [] → permitted_in new ≡ permitted_in shares ++ share.pairs.items
share_more shares new share joined =
    ap permitted_in joined
    ∙ (flat_map-append (λ (s : Share). s.pairs.items) shares (share ∷ [])
    ∙ ap (λ (l : List PermittedPair). permitted_in shares ++ l) (append-nil share.pairs.items))

pub pairs_more : (permitted more new : List PermittedPair) (pairs : List (ℕ × ℕ)) → new ≡ permitted ++ more → pairs_in more ≡ pairs → pairs_in new ≡ pairs_in permitted ++ pairs
pairs_more permitted more new pairs joined is = ap pairs_in joined ∙ (map-append pair_in permitted more ∙ ap (λ (l : List (ℕ × ℕ)). pairs_in permitted ++ l) is)

-- the next item of those that are left is one of all, and where none is left all have gone before
pub next_is_one : {X : Type 0} → (done left rest all : List X) (x : X) → left ≡ x ∷ rest → done ++ left ≡ all → Contains all x
next_is_one {X} done left rest all x next whole =
    subst (λ (xs : List X). Contains xs x) (ap (λ (xs : List X). done ++ xs) (sym next) ∙ whole) (Contains-append_right done (x ∷ rest) x (has_head x rest))

pub all_done : {X : Type 0} → (done left all : List X) → length left ≡ 0 → done ++ left ≡ all → done ≡ all
all_done {X} done left all none whole = sym (append-nil done) ∙ (ap (λ (xs : List X). done ++ xs) (sym (nil_from_length left none)) ∙ whole)
