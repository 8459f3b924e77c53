-- What the threads give, taken together.
use Rattle.std.proofs.Common.{◌≡◌, ◌∙◌, ℕ, List, [], ◌∷◌, ◌++◌, Vec, Global, ap, append-nil, append_assoc, arith, length, inl, inr, map, subst, sym}
use Rattle.std.proofs.lemmas.List.{map-append}
use Rattle.std.proofs.lemmas.List.Concat.{flat_map-append}
use Rattle.std.specs.Prelude.{IfOk, MatchResult, Result, Ok, Err}
use Rattle.std.specs.List.{All, AllZip, flat_map}
use Rattle.std.proofs.lemmas.List.Elements.{All-cons, All-head, All-nil, All-tail, Contains-append_cases, Contains-append_left, Contains-append_right}
use Rattle.rdf_model.specs.declared.term.Term.{Term}
use Rattle.rdf_model.specs.declared.ids.Ids.{Ids}
use Rattle.rdf_model.specs.Numbers.{graph_of, term_at}
use Rattle.shape_model.specs.declared.result_row.ResultRow.{ResultRow}
use Rattle.shape_model.specs.Validation.{At}
use Rattle.component_rows.specs.Listed.{Collects}
use Rattle.component_rows.proofs.Collecting.{from_more, from_none}
use Rattle.shape_ast.specs.declared.shape.Shape.{Shape}
use Rattle.shape_eval.specs.ShapeRows.{FromSome}
use Rattle.parallel_validate.specs.Whole.{CollectsAtNodes}
use Rattle.threaded_listing.specs.declared.visit.NodeRows.{NodeRows}
use Rattle.threaded_listing.specs.declared.visit.PermittedVisit.{PermittedVisit}
use Rattle.threaded_listing.specs.declared.visit.Share.{Share}
use Rattle.threaded_listing.specs.ByNode.{HasResults, HaveResults}
use Rattle.threaded_listing.specs.Shares.{nodes_of, nodes_of_shares}

-- where each item gave a result, the results are those of the items
each_of : {A B E : Type 0} → (P : A → Result B E → Type 0) (Q : A → B → Type 0) → ((a : A) (r : Result B E) → P a r → IfOk r (Q a)) → (xs : List A) (ys : List B) → AllZip P xs (map Ok ys) → AllZip Q xs ys
each_of P Q h [] [] z = tt
each_of P Q h [] (y ∷ ys) z = absurd z
each_of P Q h (x ∷ xs) [] z = absurd z
each_of P Q h (x ∷ xs) (y ∷ ys) z = (h x (Ok y) z.0, each_of P Q h xs ys z.1)

pub each_given : {A B E : Type 0} → (P : A → Result B E → Type 0) (Q : A → B → Type 0) → ((a : A) (r : Result B E) → P a r → IfOk r (Q a)) → (xs : List A) (rs : List (Result B E)) (ys : List B) → AllZip P xs rs → rs ≡ map Ok ys → AllZip Q xs ys
each_given P Q h xs rs ys z e = each_of P Q h xs ys (subst (λ results. AllZip P xs results) e z)

-- what holds of what was made of each item
pub all_unmapped : {X Y : Type 0} → (P : X → Type 0) (f : Y → X) (ys : List Y) → All P (map f ys) → All (λ y. P (f y)) ys
all_unmapped P f [] h = All-nil (λ y. P (f y))
all_unmapped P f (y ∷ ys) h = All-cons (λ z. P (f z)) y ys (All-head P (f y) (map f ys) h) (all_unmapped P f ys (All-tail P (f y) (map f ys) h))

-- an answer by its case
pub when_ok : {X E : Type 0} → (r : Result X E) (P : X → Type 0) (Q : E → Type 0) (S : X → Type 0) → MatchResult r P Q → ((x : X) → P x → S x) → IfOk r S
when_ok (Ok x) P Q S m h = h x m
when_ok (Err e) P Q S m h = tt

-- the results at some nodes and at others are those at all of them
both_of : {X : Type 0} → (Gives : X → ResultRow → Type 0) (xs ys : List X) (first rows : List ResultRow) → Collects (FromSome xs Gives) first → Collects (FromSome ys Gives) rows → Collects (FromSome (xs ++ ys) Gives) (first ++ rows)
both_of {X} Gives xs ys first rows h k r = (
  λ c. elim (Contains-append_cases first rows r c) [
    | inl d ↦ let i = (h r).0 d in (i.0, Contains-append_left xs ys i.0 i.1, i.2)
    | inr d ↦ let i = (k r).0 d in (i.0, Contains-append_right xs ys i.0 i.1, i.2)
  ],
  λ i. elim (Contains-append_cases xs ys i.0 i.1) [
    | inl e ↦ Contains-append_left first rows r ((h r).1 (i.0, e, i.2))
    | inr e ↦ Contains-append_right first rows r ((k r).1 (i.0, e, i.2))
  ],
)

-- what holds of two lists place by place, and of two others, holds of both together
both_zipped : {A B : Type 0} → (P : A → B → Type 0) (xs ys : List A) (us vs : List B) → AllZip P xs us → AllZip P ys vs → AllZip P (xs ++ ys) (us ++ vs)
both_zipped P [] ys [] vs z w = w
both_zipped P [] ys (u ∷ us) vs z w = absurd z
both_zipped P (x ∷ xs) ys [] vs z w = absurd z
both_zipped P (x ∷ xs) ys (u ∷ us) vs z w = (z.0, both_zipped P xs ys us vs z.1 w)

module _ (terms : List Term) (ids : List Ids) (shapes : List (Shape ℕ)) (k : ℕ) where
  -- one visit more
  pub at_one_more : (visits : List PermittedVisit) (v : PermittedVisit) (found new : List NodeRows) (next : NodeRows) → new ≡ found ++ next ∷ []
      → HaveResults terms ids shapes k (nodes_of visits) found → HasResults terms ids shapes k v.node next → HaveResults terms ids shapes k (nodes_of (visits ++ v ∷ [])) new
  at_one_more visits v found new next joined before own =
      subst (λ (p : List ℕ × List NodeRows). HaveResults terms ids shapes k p.0 p.1)
      (λ i. (sym (map-append (λ (w : PermittedVisit). w.node) visits (v ∷ [])) i, sym joined i))
      (both_zipped (HasResults terms ids shapes k) (nodes_of visits) (v.node ∷ []) found (next ∷ []) before (own, tt))

  -- the nodes of all shares have their results where those of each have
  pub have_in_shares : (shares : List Share) (lists : List (Vec NodeRows Global)) → AllZip (λ share found. HaveResults terms ids shapes k (nodes_of share.visits.items) found.items) shares lists
      → HaveResults terms ids shapes k (nodes_of_shares shares) (flat_map (λ list. list.items) lists)
  have_in_shares [] [] z = tt
  have_in_shares [] (r ∷ rs) z = absurd z
  have_in_shares (v ∷ vs) [] z = absurd z
  have_in_shares (v ∷ vs) (r ∷ rs) z =
      both_zipped (HasResults terms ids shapes k) (nodes_of v.visits.items) (nodes_of_shares vs) r.items (flat_map (λ (list : Vec NodeRows Global). list.items) rs) z.0 (have_in_shares vs rs z.1)

  -- the results at some nodes are those of each
  pub collects_by_node : (nodes : List ℕ) (found : List NodeRows) → HaveResults terms ids shapes k nodes found → CollectsAtNodes terms ids shapes k nodes (flat_map (λ node. node.rows) found)
  collects_by_node [] [] z s c stand at acyclic shallow = from_none (λ n. At (graph_of terms ids) s c.node (term_at terms n))
  collects_by_node [] (r ∷ rs) z s c stand at acyclic shallow = absurd z
  collects_by_node (n ∷ ns) [] z s c stand at acyclic shallow = absurd z
  collects_by_node (n ∷ ns) (r ∷ rs) z s c stand at acyclic shallow =
      let own : ℕ → ResultRow → Type 0 = λ m. At (graph_of terms ids) s c.node (term_at terms m) in
      both_of own (n ∷ []) ns r.rows (flat_map (λ (node : NodeRows). node.rows) rs)
      (from_more own [] n [] r.rows (from_none own) (λ row. (z.0.1 s c stand at acyclic shallow).members row))
      (collects_by_node ns rs z.1 s c stand at acyclic shallow)

-- what holds of each item of two lists
all_front : {X : Type 0} → (P : X → Type 0) (xs ys : List X) → All P (xs ++ ys) → All P xs
all_front P [] ys h = All-nil P
all_front P (x ∷ xs) ys h = All-cons P x xs (All-head P x (xs ++ ys) h) (all_front P xs ys (All-tail P x (xs ++ ys) h))

all_back : {X : Type 0} → (P : X → Type 0) (xs ys : List X) → All P (xs ++ ys) → All P ys
all_back P [] ys h = h
all_back P (x ∷ xs) ys h = all_back P xs ys (All-tail P x (xs ++ ys) h)

-- what holds of the nodes of all shares holds of each visit of each share
pub all_in_shares : (P : ℕ → Type 0) (shares : List Share) → All P (nodes_of_shares shares) → All (λ share. All (λ v. P v.node) share.visits.items) shares
all_in_shares P [] h = All-nil (λ (share : Share). All (λ v. P v.node) share.visits.items)
all_in_shares P (v ∷ vs) h =
    All-cons (λ (share : Share). All (λ w. P w.node) share.visits.items) v vs
    (all_unmapped P (λ (w : PermittedVisit). w.node) v.visits.items (all_front P (nodes_of v.visits.items) (nodes_of_shares vs) h))
    (all_in_shares P vs (all_back P (nodes_of v.visits.items) (nodes_of_shares vs) h))

-- the next visit of a share is one of it
pub next_held : (P : PermittedVisit → Type 0) (done : List PermittedVisit) (v : PermittedVisit) (rest left all : List PermittedVisit) → left ≡ v ∷ rest → done ++ left ≡ all → All P all → P v
next_held P done v rest left all next whole h = All-head P v rest (all_back P done (v ∷ rest) (subst (λ (vs : List PermittedVisit). All P vs) (sym whole ∙ ap (λ (vs : List PermittedVisit). done ++ vs) next) h))

-- one share more, of the nodes in front of those that are left
pub one_share_more : (shares new : List Share) (share : Share) (front back rest nodes : List ℕ) → new ≡ shares ++ share ∷ [] → nodes_of share.visits.items ≡ front → front ++ back ≡ rest
    → nodes_of_shares shares ++ rest ≡ nodes → nodes_of_shares new ++ back ≡ nodes
one_share_more shares new share front back rest nodes joined is whole before =
    ap (λ (ss : List Share). nodes_of_shares ss ++ back) joined
    ∙ (ap (λ (ns : List ℕ). ns ++ back) (flat_map-append (λ (s : Share). nodes_of s.visits.items) shares (share ∷ []))
    ∙ (append_assoc (nodes_of_shares shares) (nodes_of share.visits.items ++ []) back
    ∙ (ap (λ (ns : List ℕ). nodes_of_shares shares ++ (ns ++ back)) (append-nil (nodes_of share.visits.items) ∙ is)
    ∙ (ap (λ (ns : List ℕ). nodes_of_shares shares ++ ns) whole ∙ before))))

-- where nothing is left, all have gone before
pub all_done : {X : Type 0} → (done left all : List X) → length left ≡ 0 → done ++ left ≡ all → done ≡ all
all_done done [] all none whole = sym (append-nil done) ∙ whole
all_done done (x ∷ xs) all none whole = absurd (omega (arith, none))
