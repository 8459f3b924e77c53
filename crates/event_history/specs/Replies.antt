-- Replies compared.
use Rattle.std.specs.Prelude.{Bool, true, false, ◌&&◌, List, [], ◌∷◌, nat_eq}
use Rattle.std.specs.Ordering.{eq_by_cmp}
use lib.Pointwise.{pointwise}
use Rattle.rdf_model.specs.Terms.{term_cmp, triple_cmp}
use Rattle.shape_model.specs.Rows.{result_row_cmp}
use Rattle.store_model.specs.declared.commit.Again.{Again}
use Rattle.store_model.specs.declared.commit.Again.TheVariants.{No, OwnShapes, NoVerdict, ShapesChanged, Touched}
use Rattle.store_model.specs.declared.event.Event.{Event}
use Rattle.store_model.specs.declared.event.Reply.{Reply}
use Rattle.store_model.specs.declared.event.Reply.TheVariants.{Session, SessionsFull, Version, Named, Unknown, Full, Conflict, FullTriples, Refused, Done, LogFault, Stopped, Nothing}

abbrev pub same_again : Again → Again → Bool
same_again No No = true
same_again OwnShapes OwnShapes = true
same_again NoVerdict NoVerdict = true
same_again (ShapesChanged n) (ShapesChanged m) = nat_eq n m
same_again (Touched n t) (Touched m u) = nat_eq n m && eq_by_cmp triple_cmp t u
same_again a b = false

abbrev pub same_reply : Reply → Reply → Bool
same_reply (Session i) (Session j) = nat_eq i j
same_reply SessionsFull SessionsFull = true
same_reply (Version n) (Version m) = nat_eq n m
same_reply Named Named = true
same_reply (Unknown t) (Unknown u) = eq_by_cmp term_cmp t u
same_reply (Full n) (Full m) = nat_eq n m
same_reply (Conflict n t) (Conflict m u) = nat_eq n m && eq_by_cmp triple_cmp t u
same_reply (FullTriples n) (FullTriples m) = nat_eq n m
same_reply (Refused rows a) (Refused rows' b) = pointwise (eq_by_cmp result_row_cmp) rows rows' && same_again a b
same_reply (Done n a) (Done m b) = nat_eq n m && same_again a b
same_reply LogFault LogFault = true
same_reply (Stopped n) (Stopped m) = nat_eq n m
same_reply Nothing Nothing = true
same_reply a b = false

-- whether the newest event of a history has this reply
abbrev pub newest_replied : List Event → Reply → Bool
newest_replied [] r = false
newest_replied (e ∷ []) r = same_reply e.reply r
newest_replied (e ∷ f ∷ es) r = newest_replied (f ∷ es) r
