-- Texts that are split after a line, at a space, or item by item.
use Rattle.std.proofs.Common.{◌≡◌, ◌≢◌, ◌∙◌, ℕ, suc, ◌<◌, List, [], ◌∷◌, ◌++◌, length, drop, get_or, Option, Some, None, refl, sym, ap, subst, append_assoc, append-nil, arith}
use Rattle.std.specs.Borrow.{Bor}
use Rattle.std.specs.List.{AllByRecursion, flat_map}
use Rattle.std.proofs.lemmas.List.{append_cancel_left}
use Rattle.record_text.specs.Lines.{HasNoEnd, ended}
use Rattle.record_text.proofs.OneSplit.{same_marked, all_push}
use Rattle.evidence_reader.specs.Finding.{Anything, Finds, FindsAll, FindsAlone, FindsSome, HasNo, HasNot, IsLineBehind, marked_line, spaced}

-- a line behind a mark, by the line that is found behind it
pub line_behind_mark : (mark text behind : List ℕ) (r : Option (Bor (List ℕ) × Bor (List ℕ))) → text ≡ mark ++ behind → IsLineBehind [] behind r → IsLineBehind mark text r
line_behind_mark mark text behind None is h = λ line rest n e. h line rest n (append_cancel_left mark _ _ (sym is ∙ e ∙ append_assoc mark (ended line) rest))
line_behind_mark mark text behind (Some r) is h = (h.0, is ∙ ap (λ (l : List ℕ). mark ++ l) h.1 ∙ sym (append_assoc mark (ended r.0.now) r.1.now))

pub none_behind_mark : (mark text : List ℕ) → HasNot mark text → IsLineBehind mark text None
none_behind_mark mark text h line rest n e = h (ended line ++ rest) (e ∙ append_assoc mark (ended line) rest)

-- what is found in the first line behind a mark
module _ {X : Type 0} (P : X → Type 0) (text_of inner : X → List ℕ) (mark text : List ℕ) (lined : (x : X) → P x → text_of x ≡ marked_line mark (inner x)) (one_line : (x : X) → P x → HasNoEnd (inner x)) where
  pub none_in_line : IsLineBehind mark text None → Finds P text_of Anything text None
  none_in_line h = record { sound = tt; every = λ x rest p w e. h (inner x) rest (one_line x p) (e ∙ ap (λ (l : List ℕ). l ++ rest) (lined x p)) }

  module _ (line behind : Bor (List ℕ)) (h : IsLineBehind mark text (Some (line, behind))) where
    same_line : (x : X) (rest : List ℕ) → P x → text ≡ text_of x ++ rest → (line.now ≡ inner x) × (behind.now ≡ rest)
    same_line x rest p e = same_marked mark line.now (inner x) behind.now rest h.0 (one_line x p) (sym h.1 ∙ e ∙ ap (λ (l : List ℕ). l ++ rest) (lined x p))

    pub found_in_line : (x : X) → FindsAlone P inner line.now (Some x) → Finds P text_of Anything text (Some (x, behind))
    found_in_line x f = record {
      sound = f.sound;
      every = λ y rest p w e. (let s = same_line y rest p e in let k : Some x ≡ Some y = f.every y p s.0 in let j : x ≡ y = cc in (j, s.1));
    }

    pub not_in_line : FindsAlone P inner line.now None → Finds P text_of Anything text None
    not_in_line f = record {
      sound = tt;
      every = λ y rest p w e. (let s = same_line y rest p e in let k : None ≡ Some y = f.every y p s.0 in absurd (apart y k));
    }
      where
        apart : (y : X) → None ≡ Some y → ⊥
        apart y k = cc

-- one thing after another
module _ {A B : Type 0} (P : A → Type 0) (Q : B → Type 0) (text_of : A → List ℕ) (next_of : B → List ℕ) (Ends : List ℕ → Type 0) (text : List ℕ) where
  abbrev Both : A × B → Type 0
  Both x = P x.0 × Q x.1

  abbrev both_text : A × B → List ℕ
  both_text x = text_of x.0 ++ next_of x.1

  pub first_missing : Finds P text_of Anything text None → Finds Both both_text Ends text None
  first_missing f = record { sound = tt; every = λ x rest p w e. f.every x.0 (next_of x.1 ++ rest) p.0 tt (e ∙ append_assoc (text_of x.0) (next_of x.1) rest) }

  module _ (a : A) (behind : Bor (List ℕ)) (f : Finds P text_of Anything text (Some (a, behind))) where
    split_here : (x : A × B) (rest : List ℕ) → Both x → text ≡ both_text x ++ rest → (a ≡ x.0) × (behind.now ≡ next_of x.1 ++ rest)
    split_here x rest p e = f.every x.0 (next_of x.1 ++ rest) p.0 tt (e ∙ append_assoc (text_of x.0) (next_of x.1) rest)

    pub second_missing : Finds Q next_of Ends behind.now None → Finds Both both_text Ends text None
    second_missing g = record { sound = tt; every = λ x rest p w e. g.every x.1 rest p.1 w (split_here x rest p e).1 }

    pub both_found : (b : B) (last : Bor (List ℕ)) → Finds Q next_of Ends behind.now (Some (b, last)) → Finds Both both_text Ends text (Some ((a, b), last))
    both_found b last g = record {
      sound = (f.sound, g.sound);
      every = λ x rest p w e. (let s = split_here x rest p e in let k = g.every x.1 rest p.1 w s.1 in ((λ i. (s.0 i, k.0 i)), k.1));
    }

-- items one after another
module _ {X : Type 0} (P : X → Type 0) (text_of : X → List ℕ) (Ends ItemEnds : List ℕ → Type 0) (follows : (us : List X) (behind : List ℕ) → AllByRecursion P us → Ends behind → ItemEnds (flat_map text_of us ++ behind)) (text : List ℕ) where
  pub none_yet : FindsSome P text_of Ends text [] text
  none_yet = record { sound = tt; every = λ xs behind a w e. (xs, a, refl, e) }

  module _ (found : List X) (rest : List ℕ) (so_far : FindsSome P text_of Ends text found rest) where
    pub one_more_item : (x : X) (next : Bor (List ℕ)) → Finds P text_of ItemEnds rest (Some (x, next)) → (Ends rest → ⊥) → FindsSome P text_of Ends text (found ++ x ∷ []) next.now
    one_more_item x next item never = record {
      sound = all_push P found x so_far.sound item.sound;
      every = λ xs behind a w e. (let k = so_far.every xs behind a w e in more k.0 xs behind w k.1 k.2 k.3);
    }
      where
        more : (ms : List X) (xs : List X) (behind : List ℕ) → Ends behind → AllByRecursion P ms → xs ≡ found ++ ms → rest ≡ flat_map text_of ms ++ behind
            → (us : List X) × AllByRecursion P us × (xs ≡ (found ++ x ∷ []) ++ us) × (next.now ≡ flat_map text_of us ++ behind)
        more [] xs behind w a split here = absurd (never (subst Ends (sym here) w))
        more (u ∷ us) xs behind w a split here =
            let k = item.every u (flat_map text_of us ++ behind) a.0 (follows us behind a.1 w) (here ∙ append_assoc (text_of u) (flat_map text_of us) behind) in
            (us, a.1, split ∙ ap (λ (y : X). found ++ y ∷ us) (sym k.0) ∙ sym (append_assoc found (x ∷ []) us), k.1)

    pub no_more_items : Finds P text_of ItemEnds rest None → FindsAll P text_of Ends text found rest
    no_more_items item = record {
      sound = so_far.sound;
      every = λ xs behind a w e. (let k = so_far.every xs behind a w e in last k.0 xs behind w k.1 k.2 k.3);
    }
      where
        last : (ms : List X) (xs : List X) (behind : List ℕ) → Ends behind → AllByRecursion P ms → xs ≡ found ++ ms → rest ≡ flat_map text_of ms ++ behind → (found ≡ xs) × (rest ≡ behind)
        last [] xs behind w a split here = (sym (split ∙ append-nil found), here)
        last (u ∷ us) xs behind w a split here = absurd (item.every u (flat_map text_of us ++ behind) a.0 (follows us behind a.1 w) (here ∙ append_assoc (text_of u) (flat_map text_of us) behind))

-- the parts before and behind the first space, and the last
pub same_first_space : (a b x y : List ℕ) → HasNo 32 a → HasNo 32 b → spaced a x ≡ spaced b y → (a ≡ b) × (x ≡ y)
same_first_space [] [] x y n m e = (refl, append_cancel_left (32 ∷ []) x y e)
same_first_space [] (d ∷ b) x y n m e = absurd (m 0 (omega arith) (sym (ap (λ (l : List ℕ). get_or l 0 0) e)))
same_first_space (c ∷ a) [] x y n m e = absurd (n 0 (omega arith) (ap (λ (l : List ℕ). get_or l 0 0) e))
same_first_space (c ∷ a) (d ∷ b) x y n m e =
    let first : c ≡ d = ap (λ (l : List ℕ). get_or l 0 0) e in
    let rest : spaced a x ≡ spaced b y = append_cancel_left (c ∷ []) _ _ (e ∙ ap (λ z. z ∷ spaced b y) (sym first)) in
    let more = same_first_space a b x y (λ i lt. n (suc i) (omega (arith, lt))) (λ i lt. m (suc i) (omega (arith, lt))) rest in
    ((λ i. first i ∷ more.0 i), more.1)

space_inside : (b y : List ℕ) → HasNo 32 (spaced b y) → ⊥
space_inside [] y h = h 0 (omega arith) refl
space_inside (d ∷ b) y h = space_inside b y (λ i lt. h (suc i) (omega (arith, lt)))

pub same_last_space : (a b x y : List ℕ) → HasNo 32 x → HasNo 32 y → spaced a x ≡ spaced b y → (a ≡ b) × (x ≡ y)
same_last_space [] [] x y n m e = (refl, append_cancel_left (32 ∷ []) x y e)
same_last_space [] (d ∷ b) x y n m e =
    let first : 32 ≡ d = ap (λ (l : List ℕ). get_or l 0 0) e in
    let rest : x ≡ spaced b y = append_cancel_left (32 ∷ []) _ _ (e ∙ ap (λ z. z ∷ spaced b y) (sym first)) in
    absurd (space_inside b y (subst (λ (l : List ℕ). HasNo 32 l) rest n))
same_last_space (c ∷ a) [] x y n m e =
    let first : c ≡ 32 = ap (λ (l : List ℕ). get_or l 0 0) e in
    let rest : spaced a x ≡ y = append_cancel_left (c ∷ []) _ _ (e ∙ ap (λ z. z ∷ y) (sym first)) in
    absurd (space_inside a x (subst (λ (l : List ℕ). HasNo 32 l) (sym rest) m))
same_last_space (c ∷ a) (d ∷ b) x y n m e =
    let first : c ≡ d = ap (λ (l : List ℕ). get_or l 0 0) e in
    let rest : spaced a x ≡ spaced b y = append_cancel_left (c ∷ []) _ _ (e ∙ ap (λ z. z ∷ spaced b y) (sym first)) in
    let more = same_last_space a b x y n m rest in
    ((λ i. first i ∷ more.0 i), more.1)

-- nothing is left before a part without a space
pub no_space_left : (line rest : List ℕ) → length rest < 1 → HasNo 32 (drop (length rest) line) → (a b : List ℕ) → HasNo 32 b → line ≢ spaced a b
no_space_left line [] lt none a b n e = space_inside a b (subst (λ (l : List ℕ). HasNo 32 l) e none)
no_space_left line (c ∷ cs) lt none a b n e = absurd (omega (arith, lt))
