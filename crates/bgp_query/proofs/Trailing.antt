-- What a part or a pattern that is given a number or a triple does to a trail.
use Rattle.std.proofs.Common.{◌≡◌, ◌∙◌, ◌<◌, ◌==◌, ◌++◌, ℕ, Bool, List, [], ◌∷◌, true, false, refl, sym, subst, ap, arith, inl, inr, length}
use Rattle.std.proofs.lemmas.Bool.Decides.{nat_tests}
use Rattle.std.specs.Prelude.{◌≢◌, Option, Some, None, MatchOption}
use Rattle.std.specs.List.{All, Contains, slice_get}
use Rattle.std.proofs.Math.Seq.{take-append_seam}
use Rattle.std.proofs.lemmas.List.{append-nil, append_assoc}
use Rattle.std.proofs.lemmas.List.Elements.{All-contains, All-push, All-take, Contains-append_left, Contains-push, Contains-push_cases}
use Rattle.rdf_model.specs.declared.ids.Ids.{Ids}
use Rattle.bgp_query.specs.declared.pattern.JoinPattern.{JoinPattern}
use Rattle.bgp_query.specs.declared.pattern.Part.{Part}
use Rattle.bgp_query.specs.declared.pattern.Part.TheVariants.{Variable, Constant}
use Rattle.bgp_query.specs.declared.trail.BoundVariable.{BoundVariable}
use Rattle.bgp_query.specs.Trails.{bound, Fits, Gave, GaveTriple, Gives, GivesTriple, HasNumber, IsFree, IsKnown, IsTrail}

-- tests of numbers
equal : (x y : ℕ) → (x == y) ≡ true → x ≡ y
equal x y e = grind (arith, nat_tests)

tested : (x y : ℕ) → x ≡ y → (x == y) ≡ true
tested x y e = grind (arith, nat_tests)

-- the number that an assignment gives a variable that has one
pub fitted : (trail : List BoundVariable) (xs : List ℕ) (v m : ℕ) → Fits trail xs → Contains trail (bound v m) → slice_get xs v ≡ Some m
fitted trail xs v m f c = All-contains (λ (b : BoundVariable). slice_get xs b.variable ≡ Some b.number) trail (bound v m) f c

one_number : (xs : List ℕ) (v m n : ℕ) → slice_get xs v ≡ Some m → slice_get xs v ≡ Some n → m ≡ n
one_number xs v m n e f = cc

const_gave : (old : List BoundVariable) (c n : ℕ) (b : Bool) → (c == n) ≡ b → Gave old old (Constant c) n b
const_gave old c n true e = record {
  grown = ([], sym (append-nil old));
  gives = λ xs. (λ f. (f, equal c n e), λ f. f.0);
  trail = λ m h t. t;
  numbers = λ h v i. absurd i;
}
const_gave old c n false e = record {
  grown = ([], sym (append-nil old));
  gives = λ xs f s. let k = tested c n s in cc (k, e);
  trail = λ m h t. t;
  numbers = λ h v i. absurd i;
}

same_gave : (old : List BoundVariable) (v m n : ℕ) (b : Bool) → Contains old (bound v m) → (m == n) ≡ b → Gave old old (Variable v) n b
same_gave old v m n true c e = record {
  grown = ([], sym (append-nil old));
  gives = λ xs. (λ f. (f, fitted old xs v m f c ∙ ap Some (equal m n e)), λ f. f.0);
  trail = λ k h t. t;
  numbers = λ h w i. (m, subst (λ (u : ℕ). Contains old (bound u m)) i c);
}
same_gave old v m n false c e = record {
  grown = ([], sym (append-nil old));
  gives = λ xs f s. let k = tested m n (one_number xs v m n (fitted old xs v m f c) s) in cc (k, e);
  trail = λ k h t. t;
  numbers = λ h w i. absurd (cc (h));
}

-- a variable without a number is given one
free_from : (old : List BoundVariable) (v m : ℕ) → IsFree old v → Contains old (bound v m) → ⊥
free_from old v m f c = All-contains (λ (b : BoundVariable). b.variable ≢ v) old (bound v m) f c refl

all_left : {X : Type 0} (P : X → Type 0) (xs ys : List X) → All P (xs ++ ys) → All P xs
all_left P xs ys a = subst (λ (zs : List _). All P zs) (take-append_seam xs ys) (All-take P (length xs) (xs ++ ys) a)

module _ (old : List BoundVariable) (v n : ℕ) (free : IsFree old v) where
  single : (m : ℕ) → IsTrail m old → (w x y : ℕ) → Contains (old ++ bound v n ∷ []) (bound w x) → Contains (old ++ bound v n ∷ []) (bound w y) → x ≡ y
  single m t w x y c d = elim (Contains-push_cases old (bound v n) (bound w x) c) [
    | inl i ↦ elim (Contains-push_cases old (bound v n) (bound w y) d) [
      | inl j ↦ t.single w x y i j
      | inr e ↦ absurd (free_from old v x free (subst (λ (u : ℕ). Contains old (bound u x)) (sym (ap (λ (b : BoundVariable). b.variable) e)) i))
    ]
    | inr e ↦ elim (Contains-push_cases old (bound v n) (bound w y) d) [
      | inl j ↦ absurd (free_from old v y free (subst (λ (u : ℕ). Contains old (bound u y)) (sym (ap (λ (b : BoundVariable). b.variable) e)) j))
      | inr f ↦ sym (ap (λ (b : BoundVariable). b.number) e) ∙ ap (λ (b : BoundVariable). b.number) f
    ]
  ]

  new_gave : Gave old (old ++ bound v n ∷ []) (Variable v) n true
  new_gave = record {
    grown = (bound v n ∷ [], refl);
    gives = λ xs. (
      λ f. (all_left (λ (b : BoundVariable). slice_get xs b.variable ≡ Some b.number) old (bound v n ∷ []) f, fitted (old ++ bound v n ∷ []) xs v n f (Contains-push old (bound v n))),
      λ f. All-push (λ (b : BoundVariable). slice_get xs b.variable ≡ Some b.number) old (bound v n) f.0 f.1,
    );
    trail = λ m h t. record { below = All-push (λ (b : BoundVariable). b.variable < m) old (bound v n) t.below (h v refl); single = single m t };
    numbers = λ h w i. (n, subst (λ (u : ℕ). Contains (old ++ bound v n ∷ []) (bound u n)) i (Contains-push old (bound v n)));
  }

-- by the equations of the code
pub constant_given : (old new : List BoundVariable) (part : Part ℕ) (c n : ℕ) (b : Bool) → part ≡ Constant c → new ≡ old → b ≡ (c == n) → Gave old new part n b
constant_given old new part c n b p e f = subst (λ (q : Part ℕ). Gave old new q n b) (sym p) (subst (λ (ts : List BoundVariable). Gave old ts (Constant c) n b) (sym e) (const_gave old c n b (sym f)))

pub variable_same : (old new : List BoundVariable) (v m n : ℕ) (b : Bool) → Contains old (bound v m) → new ≡ old → b ≡ (m == n) → Gave old new (Variable v) n b
variable_same old new v m n b c e f = subst (λ (ts : List BoundVariable). Gave old ts (Variable v) n b) (sym e) (same_gave old v m n b c (sym f))

pub variable_new : (old new : List BoundVariable) (v n : ℕ) → IsFree old v → new ≡ old ++ bound v n ∷ [] → Gave old new (Variable v) n true
variable_new old new v n free e = subst (λ (ts : List BoundVariable). Gave old ts (Variable v) n true) (sym e) (new_gave old v n free)

-- the parts one after the other
grown_twice : {X : Type 0} (a b c : List X) → (more : List X) × (b ≡ a ++ more) → (more : List X) × (c ≡ b ++ more) → (more : List X) × (c ≡ a ++ more)
grown_twice a b c p q = (p.0 ++ q.0, q.1 ∙ ap (λ (ys : List _). ys ++ q.0) p.1 ∙ append_assoc a p.0 q.0)

pub keeps_number : (old new : List BoundVariable) (v : ℕ) → (more : List BoundVariable) × (new ≡ old ++ more) → HasNumber old v → HasNumber new v
keeps_number old new v g h = (h.0, subst (λ (ts : List BoundVariable). Contains ts (bound v h.0)) (sym g.1) (Contains-append_left old g.0 (bound v h.0) h.1))

module _ (p : JoinPattern ℕ) (t : Ids) where
  pub no_subject : (a b : List BoundVariable) → Gave a b p.subject t.subject false → GaveTriple a b p t false
  no_subject a b g = record {
    grown = g.grown;
    gives = λ xs f u. g.gives xs f u.0;
    trail = λ m h k. g.trail m (λ v i. h v (inl i)) k;
    numbers = λ h v i. absurd (cc (h));
  }

  pub no_predicate : (a b c : List BoundVariable) → Gave a b p.subject t.subject true → Gave b c p.predicate t.predicate false → GaveTriple a c p t false
  no_predicate a b c g h = record {
    grown = grown_twice a b c g.grown h.grown;
    gives = λ xs f u. h.gives xs ((g.gives xs).1 (f, u.0)) u.1;
    trail = λ m k i. h.trail m (λ v j. k v (inr (inl j))) (g.trail m (λ v j. k v (inl j)) i);
    numbers = λ e v i. absurd (cc (e));
  }

  module _ (a b c d : List BoundVariable) (g : Gave a b p.subject t.subject true) (h : Gave b c p.predicate t.predicate true) where
    third_gives : (can : Bool) → Gives c d p.object t.object can → GivesTriple a d p t can
    third_gives true k = λ xs. (
      λ f. let third = (k xs).0 f in let second = (h.gives xs).0 third.0 in let first = (g.gives xs).0 second.0 in (first.0, (first.1, second.1, third.1)),
      λ f. (k xs).1 ((h.gives xs).1 ((g.gives xs).1 (f.0, f.1.0), f.1.1), f.1.2),
    )
    third_gives false k = λ xs f u. k xs ((h.gives xs).1 ((g.gives xs).1 (f, u.0), u.1)) u.2

    pub all_parts : (can : Bool) → Gave c d p.object t.object can → GaveTriple a d p t can
    all_parts can k = record {
      grown = grown_twice a c d (grown_twice a b c g.grown h.grown) k.grown;
      gives = third_gives can k.gives;
      trail = λ m i j. k.trail m (λ v l. i v (inr (inr l))) (h.trail m (λ v l. i v (inr (inl l))) (g.trail m (λ v l. i v (inl l)) j));
      numbers = λ e v i. elim i [
        | inl l ↦ keeps_number c d v k.grown (keeps_number b c v h.grown (g.numbers refl v l))
        | inr r ↦ elim r [ inl l ↦ keeps_number c d v k.grown (h.numbers refl v l) | inr l ↦ k.numbers e v l ]
      ];
    }

-- what is known of a part
pub known_constant : (trail : List BoundVariable) (part : Part ℕ) (c : ℕ) → part ≡ Constant c → IsKnown trail part (Some c)
known_constant trail part c e = subst (λ (q : Part ℕ). IsKnown trail q (Some c)) (sym e) (λ xs n f s. tested c n s)

known_number : (trail : List BoundVariable) (v : ℕ) (known : Option ℕ) → MatchOption known (IsFree trail v) (λ n. Contains trail (bound v n)) → IsKnown trail (Variable v) known
known_number trail v None m = λ xs n f s. refl
known_number trail v (Some x) m = λ xs n f s. tested x n (one_number xs v x n (fitted trail xs v x f m) s)

pub known_variable : (trail : List BoundVariable) (part : Part ℕ) (v : ℕ) (known : Option ℕ) → part ≡ Variable v → MatchOption known (IsFree trail v) (λ n. Contains trail (bound v n)) → IsKnown trail part known
known_variable trail part v known e m = subst (λ (q : Part ℕ). IsKnown trail q known) (sym e) (known_number trail v known m)
