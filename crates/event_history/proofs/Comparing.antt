-- Replies are compared as what they are.
use Rattle.std.proofs.Common.{◌≡◌, ℕ, true, nat_eq, List, [], ◌∷◌, ◌++◌, refl, ap, ◌∙◌}
use lib.Pointwise.{pointwise}
use Rattle.std.proofs.lemmas.Bool.{and_from, and_parts, eqb-true, eq-eqb}
use Rattle.std.specs.Ordering.{eq_by_cmp, is_eq}
use Rattle.std.specs.Cmp.{tied_itself}
use Rattle.std.specs.declared.cmp.Ordering.{Ordering}
use Rattle.std.specs.declared.cmp.Ordering.TheVariants.{Less, Equal, Greater}
use Rattle.rdf_model.specs.declared.term.Term.{Term}
use Rattle.rdf_model.specs.declared.triple.Triple.{Triple}
use Rattle.rdf_model.specs.Orders.{term_exact, term_total, triple_exact, triple_total}
use Rattle.rdf_model.specs.Terms.{term_cmp, triple_cmp}
use Rattle.shape_model.specs.declared.result_row.ResultRow.{ResultRow}
use Rattle.shape_model.specs.Orders.{result_row_exact, result_row_total}
use Rattle.shape_model.specs.Rows.{result_row_cmp}
use Rattle.store_model.specs.declared.commit.Again.{Again}
use Rattle.store_model.specs.declared.commit.Again.TheVariants.{No, OwnShapes, NoVerdict, ShapesChanged, Touched}
use Rattle.store_model.specs.declared.event.Event.{Event}
use Rattle.store_model.specs.declared.event.Reply.{Reply}
use Rattle.store_model.specs.declared.event.Reply.TheVariants.{Session, SessionsFull, Version, Named, Unknown, Full, Conflict, FullTriples, Refused, Done, LogFault, Stopped, Nothing}
use Rattle.event_history.specs.Replies.{newest_replied, same_again, same_reply}

tied : (o : Ordering) → is_eq o ≡ true → o ≡ Equal
tied Less e = cc
tied Equal e = refl
tied Greater e = cc

same_term : (t u : Term) → eq_by_cmp term_cmp t u ≡ true → t ≡ u
same_term t u h = term_exact t u (tied (term_cmp t u) h)

term_itself : (t : Term) → eq_by_cmp term_cmp t t ≡ true
term_itself t = ap is_eq (tied_itself term_total t)

same_triple : (t u : Triple) → eq_by_cmp triple_cmp t u ≡ true → t ≡ u
same_triple t u h = triple_exact t u (tied (triple_cmp t u) h)

triple_itself : (t : Triple) → eq_by_cmp triple_cmp t t ≡ true
triple_itself t = ap is_eq (tied_itself triple_total t)

number_itself : (n : ℕ) → nat_eq n n ≡ true
number_itself n = eq-eqb n n refl

same_rows : (xs ys : List ResultRow) → pointwise (eq_by_cmp result_row_cmp) xs ys ≡ true → xs ≡ ys
same_rows [] [] h = refl
same_rows [] (y ∷ ys) h = cc
same_rows (x ∷ xs) [] h = cc
same_rows (x ∷ xs) (y ∷ ys) h =
    let p = and_parts (eq_by_cmp result_row_cmp x y) (pointwise (eq_by_cmp result_row_cmp) xs ys) h in
    ap (λ z. z ∷ xs) (result_row_exact x y (tied (result_row_cmp x y) p.0)) ∙ ap (λ zs. y ∷ zs) (same_rows xs ys p.1)

rows_themselves : (xs : List ResultRow) → pointwise (eq_by_cmp result_row_cmp) xs xs ≡ true
rows_themselves [] = refl
rows_themselves (x ∷ xs) = and_from (eq_by_cmp result_row_cmp x x) (pointwise (eq_by_cmp result_row_cmp) xs xs) (ap is_eq (tied_itself result_row_total x)) (rows_themselves xs)

again_exact : (a b : Again) → same_again a b ≡ true → a ≡ b
again_exact No No h = refl
again_exact OwnShapes OwnShapes h = refl
again_exact NoVerdict NoVerdict h = refl
again_exact (ShapesChanged n) (ShapesChanged m) h = ap ShapesChanged (eqb-true n m h)
again_exact (Touched n t) (Touched m u) h =
    let p = and_parts (nat_eq n m) (eq_by_cmp triple_cmp t u) h in
    ap (λ k. Touched k t) (eqb-true n m p.0) ∙ ap (λ x. Touched m x) (same_triple t u p.1)
again_exact a b h = cc

again_itself : (a : Again) → same_again a a ≡ true
again_itself No = refl
again_itself OwnShapes = refl
again_itself NoVerdict = refl
again_itself (ShapesChanged n) = number_itself n
again_itself (Touched n t) = and_from (nat_eq n n) (eq_by_cmp triple_cmp t t) (number_itself n) (triple_itself t)

pub reply_exact : (a b : Reply) → same_reply a b ≡ true → a ≡ b
reply_exact (Session i) (Session j) h = ap Session (eqb-true i j h)
reply_exact SessionsFull SessionsFull h = refl
reply_exact (Version n) (Version m) h = ap Version (eqb-true n m h)
reply_exact Named Named h = refl
reply_exact (Unknown t) (Unknown u) h = ap Unknown (same_term t u h)
reply_exact (Full n) (Full m) h = ap Full (eqb-true n m h)
reply_exact (Conflict n t) (Conflict m u) h =
    let p = and_parts (nat_eq n m) (eq_by_cmp triple_cmp t u) h in
    ap (λ k. Conflict k t) (eqb-true n m p.0) ∙ ap (λ x. Conflict m x) (same_triple t u p.1)
reply_exact (FullTriples n) (FullTriples m) h = ap FullTriples (eqb-true n m h)
reply_exact (Refused rows a) (Refused rows' b) h =
    let p = and_parts (pointwise (eq_by_cmp result_row_cmp) rows rows') (same_again a b) h in
    ap (λ xs. Refused xs a) (same_rows rows rows' p.0) ∙ ap (λ x. Refused rows' x) (again_exact a b p.1)
reply_exact (Done n a) (Done m b) h =
    let p = and_parts (nat_eq n m) (same_again a b) h in
    ap (λ k. Done k a) (eqb-true n m p.0) ∙ ap (λ x. Done m x) (again_exact a b p.1)
reply_exact LogFault LogFault h = refl
reply_exact (Stopped n) (Stopped m) h = ap Stopped (eqb-true n m h)
reply_exact Nothing Nothing h = refl
reply_exact a b h = cc

pub reply_itself : (a : Reply) → same_reply a a ≡ true
reply_itself (Session i) = number_itself i
reply_itself SessionsFull = refl
reply_itself (Version n) = number_itself n
reply_itself Named = refl
reply_itself (Unknown t) = term_itself t
reply_itself (Full n) = number_itself n
reply_itself (Conflict n t) = and_from (nat_eq n n) (eq_by_cmp triple_cmp t t) (number_itself n) (triple_itself t)
reply_itself (FullTriples n) = number_itself n
reply_itself (Refused rows a) = and_from (pointwise (eq_by_cmp result_row_cmp) rows rows) (same_again a a) (rows_themselves rows) (again_itself a)
reply_itself (Done n a) = and_from (nat_eq n n) (same_again a a) (number_itself n) (again_itself a)
reply_itself LogFault = refl
reply_itself (Stopped n) = number_itself n
reply_itself Nothing = refl

pub newest_of : (es : List Event) (e : Event) (r : Reply) → newest_replied (es ++ e ∷ []) r ≡ same_reply e.reply r
newest_of [] e r = refl
newest_of (f ∷ []) e r = refl
newest_of (f ∷ g ∷ es) e r = newest_of (g ∷ es) e r
