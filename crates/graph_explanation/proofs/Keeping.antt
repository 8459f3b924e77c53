-- Which items of an ascending list are the first of their rows, and that of each row one is kept.
use Rattle.std.proofs.Common.{◌≡◌, ◌∙◌, ℕ, zero, suc, ◌+◌, ◌-◌, ◌<◌, ◌≤◌, List, [], ◌∷◌, ◌++◌, length, take, get_or, codes, refl, sym, ap, subst, arith, inl, inr}
use Rattle.std.specs.List.{Contains}
use Rattle.std.specs.Fmt.{decimal}
use Rattle.std.proofs.lemmas.List.{length-map, length_push, map-append, take_all, take_more}
use Rattle.std.proofs.lemmas.List.Elements.{Contains-append_left, Contains-get_or, Contains-push, Contains-push_cases}
use Rattle.std.specs.declared.cmp.Ordering.{Ordering}
use Rattle.std.specs.declared.cmp.Ordering.TheVariants.{Less, Equal, Greater}
use Rattle.std.specs.Ordering.{nat_cmp, ordering_reverse, ordering_then}
use Rattle.std.specs.Cmp.{tied_itself}
use Rattle.collections.specs.Ordered.{AllAbove, IsAscending}
use Rattle.collections.proofs.Members.{below, has_cases, has_head, has_tail}
use Rattle.rdf_model.specs.declared.ids.Ids.{Ids}
use Rattle.rdf_model.specs.declared.term.Term.{Term}
use Rattle.rdf_model.specs.declared.triple.Triple.{Triple}
use Rattle.rdf_model.specs.Numbers.{graph_of}
use Rattle.rdf_model.specs.Terms.{term_cmp}
use Rattle.path_eval.proofs.Mirrors.{mapped_from}
use Rattle.shape_model.specs.declared.result_row.ResultRow.{ResultRow}
use Rattle.shape_model.specs.Orders.{result_row_exact, result_row_total}
use Rattle.shape_model.specs.Rows.{result_row_cmp}
use Rattle.shape_model.specs.Validation.{IsResult, Listing}
use Rattle.shape_ast.specs.declared.shape.Shape.{Shape}
use Rattle.result_evidence.specs.declared.aimed_row.AimedRow.{AimedRow}
use Rattle.result_evidence.specs.AimedOrder.{aimed_cmp}
use Rattle.result_evidence.specs.AimedRows.{AreAimedRows}
use Rattle.evidence_blocks.specs.declared.block.Block.{Block}
use Rattle.evidence_blocks.specs.Blocks.{Gives}
use Rattle.evidence_blocks.specs.BlockText.{block_text}
use Rattle.result_evidence.specs.Standing.{AreOf, IsEvidenceOf}
use Rattle.result_evidence.proofs.LeastAims.{shape_place}
use Rattle.graph_explanation.specs.Explanations.{IsTextOf}
use Rattle.graph_explanation.specs.Firsts.{IsNewAt, IsOldAt, IsTextOfEach, KeepsEach, kept_rows}
use Rattle.graph_explanation.proofs.Numbered.{more_block, no_block}

module _ {X : Type 0} (R : X → X → Ordering) where
  above_push : (x : X) (xs : List X) (y : X) → AllAbove R x xs → R x y ≡ Less → AllAbove R x (xs ++ y ∷ [])
  above_push x [] y a l = (l, tt)
  above_push x (z ∷ xs) y a l = (a.0, above_push x xs y a.1 l)

  ascending_push : (xs : List X) (y : X) → IsAscending R xs → ((x : X) → Contains xs x → R x y ≡ Less) → IsAscending R (xs ++ y ∷ [])
  ascending_push [] y a all = (tt, tt)
  ascending_push (x ∷ xs) y a all = (above_push x xs y a.0 (all x (has_head x xs)), ascending_push xs y a.1 (λ z c. all z (has_tail x xs z c)))

  -- an item is above all before it
  passed_below : (xs : List X) → IsAscending R xs → (i : ℕ) (y x : X) → i < length xs → y ≡ get_or xs i y → Contains (take i xs) x → R x y ≡ Less
  passed_below [] a i y x l e c = absurd (omega (arith, l))
  passed_below (z ∷ xs) a zero y x l e c = absurd (let k = c.1 in omega arith)
  passed_below (z ∷ xs) a (suc i) y x l e c = elim (has_cases z (take i xs) x c) [
    | inl f ↦ subst (λ (w : X). R w y ≡ Less) f (subst (λ (w : X). R z w ≡ Less) (sym e) (below R z xs (get_or xs i y) a.0 (Contains-get_or xs i y (omega (arith, l)))))
    | inr d ↦ passed_below xs a.1 i y x (omega (arith, l)) e d
  ]

-- the first part of an order, where the whole is Less
tied_first : (o rest : Ordering) → ordering_then o rest ≡ Less → (o ≡ Less → ⊥) → o ≡ Equal
tied_first Less rest h n = absurd (n refl)
tied_first Equal rest h n = refl
tied_first Greater rest h n = cc

less_first : (o rest : Ordering) → ordering_then o rest ≡ Less → (o ≡ Equal → ⊥) → o ≡ Less
less_first Less rest h n = refl
less_first Equal rest h n = absurd (n refl)
less_first Greater rest h n = cc

never_less : (o rest : Ordering) → o ≡ Greater → ordering_then o rest ≡ Less → ⊥
never_less o rest g h = let k : ordering_then Greater rest ≡ Less = subst (λ (p : Ordering). ordering_then p rest ≡ Less) g h in cc

-- what follows the row in the order of an aim
abbrev by_aim : AimedRow → AimedRow → Ordering
by_aim x y = ordering_then (nat_cmp x.place y.place) (ordering_then (term_cmp x.focus y.focus) (nat_cmp x.number y.number))

-- the item at a place, whatever stands for one that is missing
same_item : (xs : List AimedRow) (i : ℕ) (a b : AimedRow) → i < length xs → a ≡ get_or xs i a → b ≡ get_or xs i b → a ≡ b
same_item [] i a b lt e f = absurd (omega (arith, lt))
same_item (x ∷ xs) zero a b lt e f = e ∙ sym f
same_item (x ∷ xs) (suc i) a b lt e f = same_item xs i a b (omega (arith, lt)) e f

module _ (all : List AimedRow) (asc : IsAscending aimed_cmp all) where
  -- the row is above the one before it
  pub new_here : (k : ℕ) (p y x : AimedRow) → k + 1 < length all → p ≡ get_or all k p → result_row_cmp p.row y.row ≡ Less → Contains (take (k + 1) all) x → x.row ≡ y.row → ⊥
  new_here k p y x lt is less c same =
      let over : result_row_cmp p.row x.row ≡ Less = subst (λ (r : ResultRow). result_row_cmp p.row r ≡ Less) (sym same) less in
      let greater : result_row_cmp x.row p.row ≡ Greater = result_row_total.antisymm x.row p.row ∙ ap ordering_reverse over in
      elim (Contains-push_cases (take k all) p x (subst (λ (xs : List AimedRow). Contains xs x) (take_more all k p (omega (arith, lt)) ∙ ap (λ (q : AimedRow). take k all ++ q ∷ []) (sym is)) c)) [
        | inl d ↦ never_less (result_row_cmp x.row p.row) (by_aim x p) greater (passed_below aimed_cmp all asc k p x (omega (arith, lt)) is d)
        | inr e ↦ (let tied = tied_itself result_row_total p.row in
            let own : result_row_cmp p.row p.row ≡ Less = subst (λ (z : AimedRow). result_row_cmp p.row z.row ≡ Less) (sym e) over in cc (tied, own))
      ]

  -- or it is the same
  pub old_here : (k : ℕ) (p y : AimedRow) → k + 1 < length all → p ≡ get_or all k p → y ≡ get_or all (k + 1) y → (result_row_cmp p.row y.row ≡ Less → ⊥) → (x : AimedRow) × Contains (take (k + 1) all) x × (x.row ≡ y.row)
  old_here k p y lt is at never =
      let here : Contains (take (k + 1) all) p = subst (λ (xs : List AimedRow). Contains xs p) (ap (λ (q : AimedRow). take k all ++ q ∷ []) is ∙ sym (take_more all k p (omega (arith, lt)))) (Contains-push (take k all) p) in
      (p, here, result_row_exact p.row y.row (tied_first (result_row_cmp p.row y.row) (by_aim p y) (passed_below aimed_cmp all asc (k + 1) y p lt at here) never))

  module _ (i : ℕ) (p q : AimedRow) (lt : i < length all) (some : i ≡ 0 → ⊥) (is : p ≡ get_or all (i - 1) p) (at : q ≡ get_or all i q) where
    behind : (i - 1) + 1 ≡ i
    behind = omega (arith, some)

    -- by the row of the item before it
    pub new_at : result_row_cmp (get_or all (i - 1) p).row (get_or all i q).row ≡ Less → IsNewAt all i
    new_at less y x here c same =
        let own : result_row_cmp p.row y.row ≡ Less = subst (λ (e : AimedRow × AimedRow). result_row_cmp e.0.row e.1.row ≡ Less) (λ j. (sym is j, (sym at ∙ same_item all i q y lt at here) j)) less in
        new_here (i - 1) p y x (omega (arith, lt, behind)) is own (subst (λ (k : ℕ). Contains (take k all) x) (sym behind) c) same

    pub old_at : (result_row_cmp (get_or all (i - 1) p).row (get_or all i q).row ≡ Less → ⊥) → IsOldAt all i
    old_at never y here =
        let own : result_row_cmp p.row y.row ≡ Less → ⊥ = λ less. never (subst (λ (e : AimedRow × AimedRow). result_row_cmp e.0.row e.1.row ≡ Less) (λ j. (is j, (same_item all i y q lt here at ∙ at) j)) less) in
        let k = old_here (i - 1) p y (omega (arith, lt, behind)) is (subst (λ (n : ℕ). y ≡ get_or all n y) (sym behind) here) own in
        (k.0, subst (λ (n : ℕ). Contains (take n all) k.0) behind k.1, k.2)

  -- items up to a place
  module _ (i : ℕ) (y : AimedRow) (lt : i < length all) (at : y ≡ get_or all i y) where
    up_to : take (i + 1) all ≡ take i all ++ y ∷ []
    up_to = take_more all i y lt ∙ ap (λ (q : AimedRow). take i all ++ q ∷ []) (sym at)

    pub keep_more : (kept : List AimedRow) → KeepsEach (take i all) kept → ((x : AimedRow) → Contains (take i all) x → x.row ≡ y.row → ⊥) → KeepsEach (take (i + 1) all) (kept ++ y ∷ [])
    keep_more kept k new =
        let rows : kept_rows (kept ++ y ∷ []) ≡ kept_rows kept ++ y.row ∷ [] = map-append (λ (x : AimedRow). x.row) kept (y ∷ []) in
        let before = λ (r : ResultRow) (c : Contains (kept_rows kept) r).
        let m = mapped_from (λ (x : AimedRow). x.row) kept r c in
        let old = k.among m.0 m.1 in
        let less = less_first (result_row_cmp m.0.row y.row) (by_aim m.0 y) (passed_below aimed_cmp all asc i y m.0 lt at old) (λ e. new m.0 old (result_row_exact m.0.row y.row e)) in
        subst (λ (w : ResultRow). result_row_cmp w y.row ≡ Less) m.2 less in
        record {
          ascending = subst (λ (rs : List ResultRow). IsAscending result_row_cmp rs) (sym rows) (ascending_push result_row_cmp (kept_rows kept) y.row k.ascending before);
          among = λ x c. subst (λ (xs : List AimedRow). Contains xs x) (sym up_to) (elim (Contains-push_cases kept y x c) [
            | inl d ↦ Contains-append_left (take i all) (y ∷ []) x (k.among x d)
            | inr e ↦ subst (λ (z : AimedRow). Contains (take i all ++ y ∷ []) z) e (Contains-push (take i all) y)
          ]);
          every = λ x c. subst (λ (rs : List ResultRow). Contains rs x.row) (sym rows) (elim (Contains-push_cases (take i all) y x (subst (λ (xs : List AimedRow). Contains xs x) up_to c)) [
            | inl d ↦ Contains-append_left (kept_rows kept) (y.row ∷ []) x.row (k.every x d)
            | inr e ↦ subst (λ (z : AimedRow). Contains (kept_rows kept ++ y.row ∷ []) z.row) e (Contains-push (kept_rows kept) y.row)
          ]);
        }

    pub keep_same : (kept : List AimedRow) → KeepsEach (take i all) kept → ((x : AimedRow) × Contains (take i all) x × (x.row ≡ y.row)) → KeepsEach (take (i + 1) all) kept
    keep_same kept k old = record {
      ascending = k.ascending;
      among = λ x c. subst (λ (xs : List AimedRow). Contains xs x) (sym up_to) (Contains-append_left (take i all) (y ∷ []) x (k.among x c));
      every = λ x c. elim (Contains-push_cases (take i all) y x (subst (λ (xs : List AimedRow). Contains xs x) up_to c)) [
        | inl d ↦ k.every x d
        | inr e ↦ subst (λ (z : AimedRow). Contains (kept_rows kept) z.row) e (subst (λ (r : ResultRow). Contains (kept_rows kept) r) old.2 (k.every old.0 old.1))
      ];
    }

pub keep_none : (all : List AimedRow) → KeepsEach (take 0 all) []
keep_none all = record { ascending = tt; among = λ x c. absurd (omega (arith, c.1)); every = λ x c. absurd (omega (arith, c.1)) }

-- The text so far, item by item.
module _ (terms : List Term) (ids : List Ids) (shapes : List (Shape ℕ)) (all : List AimedRow) (asc : IsAscending aimed_cmp all) where
  pub none_written : IsTextOfEach terms ids shapes [] 0 []
  none_written = record { kept = []; keeps = keep_none all; count = refl; written = no_block terms ids shapes }

  module _ (i : ℕ) (y : AimedRow) (lt : i < length all) (at : y ≡ get_or all i y) (n : ℕ) (old : List ℕ) (so_far : IsTextOfEach terms ids shapes (take i all) n old) where
    pub write_new : IsNewAt all i → (text new : List ℕ) → ((b : Block) × IsEvidenceOf terms ids shapes y.row b × (text ≡ block_text b)) → new ≡ old ++ codes "result " ++ decimal (n + 1) ++ codes "\n" ++ text
        → IsTextOfEach terms ids shapes (take (i + 1) all) (n + 1) new
    write_new first text new found joined =
        let kept = so_far.kept in
        let many : length (kept_rows kept) ≡ length kept = length-map kept (λ (x : AimedRow). x.row) in
        let rows : kept_rows (kept ++ y ∷ []) ≡ kept_rows kept ++ y.row ∷ [] = map-append (λ (x : AimedRow). x.row) kept (y ∷ []) in
        let more : IsTextOf terms ids shapes (kept_rows kept ++ y.row ∷ []) new = more_block terms ids shapes (kept_rows kept) y.row (n + 1) (omega (arith, so_far.count, many)) old text new so_far.written found joined in
        record {
          kept = kept ++ y ∷ [];
          keeps = keep_more all asc i y lt at kept so_far.keeps (λ x c same. first y x at c same);
          count = omega (arith, so_far.count, length_push kept y);
          written = subst (λ (rs : List ResultRow). IsTextOf terms ids shapes rs new) (sym rows) more;
        }

    pub write_none : IsOldAt all i → IsTextOfEach terms ids shapes (take (i + 1) all) n old
    write_none again = record { kept = so_far.kept; keeps = keep_same all asc i y lt at so_far.kept so_far.keeps (again y at); count = so_far.count; written = so_far.written }

-- all items were passed
pub all_written : (terms : List Term) (ids : List Ids) (shapes : List (Shape ℕ)) (all : List AimedRow) (i n : ℕ) (text : List ℕ) → length all ≤ i → IsTextOfEach terms ids shapes (take i all) n text → IsTextOfEach terms ids shapes all n text
all_written terms ids shapes all i n text le h = subst (λ (xs : List AimedRow). IsTextOfEach terms ids shapes xs n text) (take_all i all le) h

module _ (terms : List Term) (ids : List Ids) (shapes : List (Shape ℕ)) (all kept : List AimedRow) (aimed : AreAimedRows terms ids shapes all) (k : KeepsEach all kept) (s : List Triple) (of : AreOf terms shapes s) where
  kept_is_result : (r : ResultRow) → Contains (kept_rows kept) r → IsResult (graph_of terms ids) s r
  kept_is_result r c =
      let m = mapped_from (λ (x : AimedRow). x.row) kept r c in
      let h = (aimed.1 s of).sound m.0 (k.among m.0 m.1) in
      let gives : Gives (graph_of terms ids) s r h.1.0.node m.0.focus = subst (λ (w : ResultRow). Gives (graph_of terms ids) s w h.1.0.node m.0.focus) m.2 h.1.2.2 in
      (h.1.0.node, m.0.focus, gives.0, gives.1)

  result_is_kept : (r : ResultRow) → IsResult (graph_of terms ids) s r → Contains (kept_rows kept) r
  result_is_kept r i =
      let p = shape_place terms ids shapes r s of i.0 i.1 (i.2, i.3) in
      let own = subst (λ (t : Term). Gives (graph_of terms ids) s r t i.1) (sym p.4) (i.2, i.3) in
      let x = (aimed.1 s of).every p.0 p.1 r i.1 p.2 p.3 own in
      subst (λ (w : ResultRow). Contains (kept_rows kept) w) x.2 (k.every x.0 x.1)

  -- the kept rows are the results of the graph
  pub lists_results : Listing (graph_of terms ids) s (kept_rows kept)
  lists_results = record { ascending = k.ascending; members = λ r. (kept_is_result r, result_is_kept r) }
