-- The laws of the order of values.
use Rattle.std.proofs.Common.{ℕ, List, ◌⊎◌, ◌↔◌, inl, inr, ◌≡◌, Bool, true, false, not, Option, Some, None, option_map, chars, refl, sym, ap, ◌∙◌}
use Rattle.std.specs.declared.cmp.Ordering.{Ordering}
use Rattle.std.specs.declared.cmp.Ordering.TheVariants.{Less, Equal, Greater}
use Rattle.std.specs.Ordering.{nat_cmp, bool_cmp, is_lt, is_le, is_eq, ordering_reverse, ordering_then}
use Rattle.std.specs.Cmp.Lexicographic.{slice_cmp}
use Rattle.std.specs.Cmp.{IsTotalOrder, bool_cmp_total}
use Rattle.std.proofs.lemmas.Cmp.{tied_itself, ranked, int_ranked, nat_cmp_total, int_cmp_total, nat_list_cmp_total, on_total, then_total}
use Rattle.std.proofs.lemmas.Map.Text.{is_eq-slice_cmp}
use Rattle.std.proofs.lemmas.Slice.Eq.{bytes_eq-Decides}
use Rattle.literal_order.specs.declared.literal_value.Instant.{Instant}
use Rattle.literal_order.specs.declared.literal_value.LiteralValue.{LiteralValue}
use Rattle.literal_order.specs.declared.literal_value.LiteralValue.TheVariants.{Number, Text, Boolean, DateTime, Date}
use Rattle.literal_order.specs.declared.literal_value.Lexical.{Lexical}
use Rattle.literal_order.specs.declared.literal_value.Lexical.TheVariants.{NotTyped, IllTyped, Value}
use Rattle.literal_order.specs.Order.{if_both, instant_cmp, instant_order, value_order, lexical_order, AreEqualValues, AreEqual}

pub instant_total : IsTotalOrder instant_cmp
instant_total = then_total (on_total (λ (i : Instant). i.seconds) nat_cmp_total) (on_total (λ (i : Instant). i.nanoseconds) nat_cmp_total)

-- a value and itself
instant_self : (i : Instant) → instant_order i i ≡ Some Equal
instant_self i = elim i.has_offset as (λ b. if_both b b (instant_cmp i i) ≡ Some Equal) [
  | true ↦ ap Some (tied_itself instant_total i)
  | false ↦ ap Some (tied_itself instant_total i)
]

pub value_self : (v : LiteralValue) → value_order v v ≡ Some Equal
value_self (Number a) = ap Some (tied_itself int_cmp_total a)
value_self (Text a) = ap Some (tied_itself nat_list_cmp_total (chars a))
value_self (Boolean a) = ap Some (tied_itself bool_cmp_total a)
value_self (DateTime i) = instant_self i
value_self (Date i) = instant_self i

-- the other way round
both_back : (b c : Bool) (o p : Ordering) → p ≡ ordering_reverse o → if_both c b p ≡ option_map ordering_reverse (if_both b c o)
both_back true true o p h = ap Some h
both_back false false o p h = ap Some h
both_back true false o p h = refl
both_back false true o p h = refl

instant_back : (i j : Instant) → instant_order j i ≡ option_map ordering_reverse (instant_order i j)
instant_back i j = both_back i.has_offset j.has_offset (instant_cmp i j) (instant_cmp j i) (instant_total.antisymm j i)

value_back : (v w : LiteralValue) → value_order w v ≡ option_map ordering_reverse (value_order v w)
value_back (Number a) (Number b) = ap Some (int_cmp_total.antisymm b a)
value_back (Text a) (Text b) = ap Some (nat_list_cmp_total.antisymm (chars b) (chars a))
value_back (Boolean a) (Boolean b) = ap Some (bool_cmp_total.antisymm b a)
value_back (DateTime i) (DateTime j) = instant_back i j
value_back (Date i) (Date j) = instant_back i j
value_back _ _ = refl

lexical_back : (x y : Lexical) → lexical_order y x ≡ option_map ordering_reverse (lexical_order x y)
lexical_back (Value v) (Value w) = value_back v w
lexical_back (Value v) NotTyped = refl
lexical_back (Value v) IllTyped = refl
lexical_back NotTyped NotTyped = refl
lexical_back NotTyped IllTyped = refl
lexical_back NotTyped (Value w) = refl
lexical_back IllTyped NotTyped = refl
lexical_back IllTyped IllTyped = refl
lexical_back IllTyped (Value w) = refl

-- below what is below
only_same : (o p : Ordering) → Some o ≡ Some p → o ≡ p
only_same o p h = cc

both_through : (a b c : Bool) (o p q : Ordering) → (o ≡ Less → p ≡ Less → q ≡ Less) → if_both a b o ≡ Some Less → if_both b c p ≡ Some Less → if_both a c q ≡ Some Less
both_through true true true o p q f h k = ap Some (f (only_same o Less h) (only_same p Less k))
both_through false false false o p q f h k = ap Some (f (only_same o Less h) (only_same p Less k))
both_through true true false o p q f h k = cc
both_through true false c o p q f h k = cc
both_through false true c o p q f h k = cc
both_through false false true o p q f h k = cc

instant_through : (i j k : Instant) → instant_order i j ≡ Some Less → instant_order j k ≡ Some Less → instant_order i k ≡ Some Less
instant_through i j k = both_through i.has_offset j.has_offset k.has_offset _ _ _ (instant_total.trans i j k)

value_through : (u v w : LiteralValue) → value_order u v ≡ Some Less → value_order v w ≡ Some Less → value_order u w ≡ Some Less
value_through (Number a) (Number b) (Number c) h k = ap Some (int_cmp_total.trans a b c (only_same _ _ h) (only_same _ _ k))
value_through (Text a) (Text b) (Text c) h k = ap Some (nat_list_cmp_total.trans (chars a) (chars b) (chars c) (only_same _ _ h) (only_same _ _ k))
value_through (Boolean a) (Boolean b) (Boolean c) h k = ap Some (bool_cmp_total.trans a b c (only_same _ _ h) (only_same _ _ k))
value_through (DateTime i) (DateTime j) (DateTime l) h k = instant_through i j l h k
value_through (Date i) (Date j) (Date l) h k = instant_through i j l h k
value_through _ _ _ h k = cc

lexical_through : (x y z : Lexical) → lexical_order x y ≡ Some Less → lexical_order y z ≡ Some Less → lexical_order x z ≡ Some Less
lexical_through (Value u) (Value v) (Value w) h k = value_through u v w h k
lexical_through _ _ _ h k = cc

-- what the tests tell of the order
answered_less : (o : Option Ordering) → option_map is_lt o ≡ Some true → o ≡ Some Less
answered_less None h = cc
answered_less (Some Less) h = refl
answered_less (Some Equal) h = cc
answered_less (Some Greater) h = cc

not_greater : (o : Option Ordering) → option_map is_le o ≡ option_map not (option_map is_lt (option_map ordering_reverse o))
not_greater None = refl
not_greater (Some Less) = refl
not_greater (Some Equal) = refl
not_greater (Some Greater) = refl

-- the laws, of what two terms are as typed literals
pub irreflexive : (x : Lexical) → option_map is_lt (lexical_order x x) ≡ Some true → ⊥
irreflexive NotTyped h = cc
irreflexive IllTyped h = cc
irreflexive (Value v) h = let e = rw (value_self v) at h in cc

pub transitive : (x y z : Lexical) → option_map is_lt (lexical_order x y) ≡ Some true → option_map is_lt (lexical_order y z) ≡ Some true → option_map is_lt (lexical_order x z) ≡ Some true
transitive x y z h k = ap (option_map is_lt) (lexical_through x y z (answered_less _ h) (answered_less _ k))

pub turned : (x y : Lexical) → option_map is_le (lexical_order x y) ≡ option_map not (option_map is_lt (lexical_order y x))
turned x y = not_greater (lexical_order x y) ∙ ap (λ o. option_map not (option_map is_lt o)) (sym (lexical_back x y))

-- equal in the order is equal in value
text_exact : (a b : List ℕ) → slice_cmp nat_cmp a b ≡ Equal → a ≡ b
text_exact a b h = (bytes_eq-Decides a b).0 (sym (is_eq-slice_cmp a b) ∙ ap is_eq h)

text_same : (a b : List ℕ) → a ≡ b → slice_cmp nat_cmp a b ≡ Equal
text_same a b h = rw h (tied_itself nat_list_cmp_total b)

both_exact : (b c : Bool) (o : Ordering) → if_both b c o ≡ Some Equal → (b ≡ c) × (o ≡ Equal)
both_exact true true o h = (refl, only_same o Equal h)
both_exact false false o h = (refl, only_same o Equal h)
both_exact true false o h = cc
both_exact false true o h = cc

then_exact : (o p : Ordering) → ordering_then o p ≡ Equal → (o ≡ Equal) × (p ≡ Equal)
then_exact Less p h = cc
then_exact Equal p h = (refl, h)
then_exact Greater p h = cc

bool_exact : (a b : Bool) → bool_cmp a b ≡ Equal → a ≡ b
bool_exact true true h = refl
bool_exact false false h = refl
bool_exact true false h = cc
bool_exact false true h = cc

instant_exact : (i j : Instant) → instant_order i j ≡ Some Equal → i ≡ j
instant_exact i j h =
    let both = both_exact i.has_offset j.has_offset (instant_cmp i j) h in
    let parts = then_exact (nat_cmp i.seconds j.seconds) (nat_cmp i.nanoseconds j.nanoseconds) both.1 in
    let seconds : i.seconds ≡ j.seconds = ranked i.seconds j.seconds Equal (sym parts.0) in
    let nanoseconds : i.nanoseconds ≡ j.nanoseconds = ranked i.nanoseconds j.nanoseconds Equal (sym parts.1) in
    let offsets : i.has_offset ≡ j.has_offset = both.0 in
    λ k. record { seconds = seconds k; nanoseconds = nanoseconds k; has_offset = offsets k }

value_exact : (v w : LiteralValue) → value_order v w ≡ Some Equal → AreEqualValues v w
value_exact (Number a) (Number b) h = int_ranked a b Equal (sym (only_same _ _ h))
value_exact (Text a) (Text b) h = text_exact (chars a) (chars b) (only_same _ _ h)
value_exact (Boolean a) (Boolean b) h = bool_exact a b (only_same _ _ h)
value_exact (DateTime i) (DateTime j) h = instant_exact i j h
value_exact (Date i) (Date j) h = instant_exact i j h
value_exact _ _ h = cc

value_same : (v w : LiteralValue) → AreEqualValues v w → value_order v w ≡ Some Equal
value_same (Number a) (Number b) h = rw h (ap Some (tied_itself int_cmp_total b))
value_same (Text a) (Text b) h = ap Some (text_same (chars a) (chars b) h)
value_same (Boolean a) (Boolean b) h = rw h (ap Some (tied_itself bool_cmp_total b))
value_same (DateTime i) (DateTime j) h = rw h (instant_self j)
value_same (Date i) (Date j) h = rw h (instant_self j)
value_same _ _ h = absurd h

lexical_exact : (x y : Lexical) → lexical_order x y ≡ Some Equal → AreEqual x y
lexical_exact (Value v) (Value w) h = value_exact v w h
lexical_exact _ _ h = cc

lexical_same : (x y : Lexical) → AreEqual x y → lexical_order x y ≡ Some Equal
lexical_same (Value v) (Value w) h = value_same v w h
lexical_same _ _ h = absurd h

at_most : (o : Option Ordering) → option_map is_le o ≡ Some true → (option_map is_lt o ≡ Some true) ⊎ (o ≡ Some Equal)
at_most None h = cc
at_most (Some Less) h = inl refl
at_most (Some Equal) h = inr refl
at_most (Some Greater) h = cc

below : (o : Option Ordering) → option_map is_lt o ≡ Some true → option_map is_le o ≡ Some true
below o h = ap (option_map is_le) (answered_less o h)

pub either : (x y : Lexical) → (option_map is_le (lexical_order x y) ≡ Some true) ↔ ((option_map is_lt (lexical_order x y) ≡ Some true) ⊎ AreEqual x y)
either x y = (
  λ h. elim (at_most (lexical_order x y) h) [ inl l ↦ inl l | inr e ↦ inr (lexical_exact x y e) ],
  λ h. elim h [ inl l ↦ below (lexical_order x y) l | inr e ↦ ap (option_map is_le) (lexical_same x y e) ],
)
