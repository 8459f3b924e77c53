-- A print whose last line is handed in as a history.
use Rattle.std.proofs.Common.{◌≡◌, ℕ, ◌+◌, ◌==◌, ◌||◌, Bool, true, false, cond, List, [], ◌∷◌, ◌++◌, map, take, codes, Option, Some, None, refl, sym, ap, ◌∙◌, subst, inl, inr, ⊎_elim, append_assoc, arith}
use Rattle.std.specs.List.{flat_map, list_any}
use Rattle.std.specs.Fmt.{decimal}
use Rattle.std.proofs.lemmas.List.{append-nil, append_cancel_left, append_cancel_right}
use Rattle.store_model.specs.declared.event.Limits.{Limits}
use Rattle.store_model.specs.Store.{empty_store}
use Rattle.session_model.specs.declared.command.Command.{Command}
use Rattle.session_model.specs.declared.reply.SessionReply.{SessionReply}
use Rattle.session_model.specs.Print.{AreReplyLines, AreSessionLines, IsPrint, history_text, line}
use Rattle.session_model.proofs.Printing.{sessions_one}
use Rattle.session_player.specs.Histories.{IsFirstBad}
use Rattle.session_player.proofs.Exact.{never_both, order_sessions, replays_again}
use Rattle.history_reader.specs.History.{history_of}
use Rattle.history_reader.proofs.Orders.{one_line, reads_back}
use Rattle.outside.specs.Faults.{Refusal}
use Rattle.outside.specs.Files.{Contents}
use Rattle.input_files.specs.Lengths.{HoldsText, room}
use Rattle.session_reader.specs.Checking.{OnlyGrows}
use Rattle.session_reader.specs.SessionFile.{IsSession}
use Rattle.session_reader.proofs.Checks.{commands_grow, grows_on, grows_same}
use Rattle.session_reader.proofs.OneSession.{one_session}
use Rattle.session_files.specs.Loading.{HoldsSession, HoldSessions, first_of}
use Rattle.session_files.specs.Runs.{IsBadPlace}
use Rattle.session_files.specs.Laws.{EndsLine, IsLastLine, ReplaysPrint, UnrefusedReadAlike}

-- what stands behind the last LF of a text
last_words : List ℕ → List ℕ
last_words [] = []
last_words (c ∷ cs) = cond (list_any (λ x. x == 10) cs) (last_words cs) (cond (c == 10) cs (c ∷ cs))

both_false : (a b : Bool) → (a || b) ≡ false → (a ≡ false) × (b ≡ false)
both_false true b h = cc
both_false false b h = (refl, h)

words_self : (xs : List ℕ) → list_any (λ x. x == 10) xs ≡ false → last_words xs ≡ xs
unfolding last_words
words_self [] h = refl
words_self (c ∷ cs) h =
    let two = both_false (c == 10) (list_any (λ x. x == 10) cs) h in
    ap (λ b. cond b (last_words cs) (cond (c == 10) cs (c ∷ cs))) two.1 ∙ ap (λ b. cond b cs (c ∷ cs)) two.0

has_middle : (b xs : List ℕ) → list_any (λ x. x == 10) (b ++ 10 ∷ xs) ≡ true
has_middle [] xs = refl
has_middle (c ∷ b) xs = elim (c == 10) as (λ v. (v || list_any (λ x. x == 10) (b ++ 10 ∷ xs)) ≡ true) [ true ↦ refl | false ↦ has_middle b xs ]

words_behind : (b xs : List ℕ) → list_any (λ x. x == 10) xs ≡ false → last_words (b ++ 10 ∷ xs) ≡ xs
unfolding last_words
words_behind [] xs h = ap (λ v. cond v (last_words xs) xs) h
words_behind (c ∷ b) xs h = ap (λ v. cond v (last_words (b ++ 10 ∷ xs)) (cond (c == 10) (b ++ 10 ∷ xs) (c ∷ (b ++ 10 ∷ xs)))) (has_middle b xs) ∙ words_behind b xs h

words_of : (before words : List ℕ) → EndsLine before → list_any (λ x. x == 10) words ≡ false → last_words (before ++ words) ≡ words
words_of before words ends h = ⊎_elim
    (λ (none : before ≡ []). ap (λ (x : List ℕ). last_words (x ++ words)) none ∙ words_self words h)
    (λ (some : (more : List ℕ) × (before ≡ more ++ 10 ∷ [])). ap (λ (x : List ℕ). last_words (x ++ words)) some.1 ∙ (ap last_words (append_assoc some.0 (10 ∷ []) words) ∙ words_behind some.0 words h)) ends

-- a text has one last line
without_end : (text line : List ℕ) (x : IsLastLine text line) → (x.before ++ x.words) ++ 10 ∷ [] ≡ text
without_end text line x = append_assoc x.before x.words (10 ∷ []) ∙ (ap (λ (ys : List ℕ). x.before ++ ys) (sym x.closed) ∙ sym x.whole)

last_line_is : (text a b : List ℕ) → IsLastLine text a → IsLastLine text b → b ≡ a
last_line_is text a b x y =
    let same : x.before ++ x.words ≡ y.before ++ y.words = append_cancel_right (x.before ++ x.words) (y.before ++ y.words) (10 ∷ []) (without_end text a x ∙ sym (without_end text b y)) in
    let words : x.words ≡ y.words = sym (words_of x.before x.words x.ends x.one) ∙ (ap last_words same ∙ words_of y.before y.words y.ends y.one) in
    y.closed ∙ (ap (λ (ws : List ℕ). ws ++ 10 ∷ []) (sym words) ∙ sym x.closed)

-- the history is the last line of a print
ends_append : (a b : List ℕ) → EndsLine a → EndsLine b → EndsLine (a ++ b)
ends_append a b ha hb = ⊎_elim
    (λ (none : b ≡ []). subst EndsLine (sym (ap (λ (x : List ℕ). a ++ x) none ∙ append-nil a)) ha)
    (λ (some : (more : List ℕ) × (b ≡ more ++ 10 ∷ [])). let e : EndsLine (a ++ b) = inr (a ++ some.0, ap (λ (x : List ℕ). a ++ x) some.1 ∙ sym (append_assoc a some.0 (10 ∷ []))) in e) hb

ends_line : (text : List ℕ) → EndsLine (line text)
ends_line text = inr (text, refl)

ends_replies : (replies : List SessionReply) (text : List ℕ) → AreReplyLines replies text → EndsLine text
ends_replies [] text h = inl h
ends_replies (r ∷ replies) text h = subst EndsLine (sym h.4) (ends_append (line h.0) h.1 (ends_line h.0) (ends_replies replies h.1 h.3))

ends_sessions : (i : ℕ) (all : List (List SessionReply)) (text : List ℕ) → AreSessionLines i all text → EndsLine text
ends_sessions i [] text h = inl h
ends_sessions i (replies ∷ more) text h =
    let own = line (codes "session " ++ decimal i) in
    subst EndsLine (sym h.4) (ends_append own (h.0 ++ h.1) (ends_line (codes "session " ++ decimal i)) (ends_append h.0 h.1 (ends_replies replies h.0 h.2) (ends_sessions (i + 1) more h.1 h.3)))

history_is_last : (files : List (List Command)) (l : Limits) (order text : List ℕ) → IsPrint files l empty_store order None text → IsLastLine text (history_text order)
history_is_last files l order text p = record {
  before = p.2.0;
  words = codes "history" ++ flat_map (λ i. 32 ∷ decimal i) order;
  whole = p.2.2;
  closed = refl;
  ends = ends_sessions 1 p.0 p.2.0 p.2.1;
  one = one_line order (order_sessions files l empty_store order p.0 (omega arith) p.1);
}

-- a file holds one text
some_same : {X : Type 0} (x y : X) → Some x ≡ Some y → x ≡ y
some_same x y e = cc

one_text : (held : Contents) (name a b : List ℕ) → HoldsText (Some held) name a → HoldsText (Some held) name b → b ≡ a
one_text held name a b x y =
    let all : y.0.0 ≡ x.0.0 = some_same y.0.0 x.0.0 (sym y.0.1 ∙ x.0.1) in
    y.0.2 ∙ (ap (take room) all ∙ sym x.0.2)

-- the same files in the same order print the same
prints_one : (files : List (List Command)) (l : Limits) (order again text other : List ℕ) → IsPrint files l empty_store order None text → map Some order ≡ map Some again → IsPrint files l empty_store again None other → other ≡ text
prints_one files l order again text other p e q =
    let same = replays_again files l empty_store order again p.0 q.0 p.1 (e, q.1) in
    let lines = sessions_one 1 p.0 p.2.0 q.2.0 p.2.1 (subst (λ (rs : List (List SessionReply)). AreSessionLines 1 rs q.2.0) same.1 q.2.1) in
    let orders = same.0 in
    q.2.2 ∙ ((λ i. lines i ++ history_text (orders i)) ∙ sym p.2.2)

pub replays_print : ReplaysPrint
replays_print held l history names old new old' new' text line run last holds alike =
    let all = run.0 in
    let order = run.1 in
    let print : IsPrint all l empty_store order None text = run.4 in
    let is : line ≡ history_text order = last_line_is text (history_text order) line (history_is_last all l order text print) last in
    let back : history_of line ≡ Some (map Some order) = ap history_of is ∙ reads_back order (order_sessions all l empty_store order print.0 (omega arith) print.1) in
    record {
      prints = λ again h.
          let files : h.0 ≡ all = alike all h.0 run.2 h.2 in
          let bytes : h.3.0 ≡ line = one_text held history line h.3.0 holds h.3.1 in
          let places : map Some order ≡ map Some h.1 = some_same (map Some order) (map Some h.1) (sym back ∙ (ap history_of (sym bytes) ∙ h.3.2)) in
          prints_one all l order h.1 text again print places (subst (λ (fs : List (List Command)). IsPrint fs l empty_store h.1 None again) files h.4);
      valid = λ k bad.
          let files : bad.1 ≡ all = alike all bad.1 run.2 bad.3 in
          let bytes : bad.0 ≡ line = one_text held history line bad.0 holds bad.2 in
          let places : history_of bad.0 ≡ Some (map Some order) = ap history_of bytes ∙ back in
          let at : IsFirstBad all l empty_store (map Some order) k = subst (λ (fs : List (List Command)). IsBadPlace fs l (Some (map Some order)) k) files (subst (λ (ps : Option (List (Option ℕ))). IsBadPlace bad.1 l ps k) places bad.4) in
          never_both all l empty_store (map Some order) order print.0 k (refl, print.1) at;
    }

-- where no pattern was refused from first to last, none was in between
none_left : {X : Type 0} (a b : List X) → a ++ b ≡ [] → a ≡ []
none_left [] b h = refl
none_left (x ∷ a) b h = cc

same_throughout : (old mid : List Refusal) → OnlyGrows old mid → OnlyGrows mid old → mid ≡ old
same_throughout old mid a b =
    let whole : old ++ (a.0 ++ b.0) ≡ old ++ [] = sym (append_assoc old a.0 b.0) ∙ (ap (λ (xs : List Refusal). xs ++ b.0) (sym a.1) ∙ (sym b.1 ∙ sym (append-nil old))) in
    let none : a.0 ≡ [] = none_left a.0 b.0 (append_cancel_left old (a.0 ++ b.0) [] whole) in
    a.1 ∙ (ap (λ (xs : List Refusal). old ++ xs) none ∙ append-nil old)

session_grows : (held : Option Contents) (firsts : List ℕ) (i : ℕ) (name : List ℕ) (commands : List Command) (old new : List Refusal) → HoldsSession held firsts i name commands old new → OnlyGrows old new
session_grows held firsts i name commands old new h = commands_grow h.2.1.0 commands old new h.2.1.2

files_grow : (held : Option Contents) (firsts : List ℕ) (i : ℕ) (names : List (List ℕ)) (all : List (List Command)) (old new : List Refusal) → HoldSessions held firsts i names all old new → OnlyGrows old new
files_grow held firsts i [] [] old new h = grows_same old new h
files_grow held firsts i [] (c ∷ cs) old new h = absurd h
files_grow held firsts i (n ∷ ns) [] old new h = absurd h
files_grow held firsts i (n ∷ ns) (c ∷ cs) old new h = grows_on old h.0 new (session_grows held firsts i n c old h.0 h.1) (files_grow held firsts (i + 1) ns cs h.0 new h.2)

-- the first session and the others, of which no pattern was refused
first_kept : (held : Option Contents) (firsts : List ℕ) (i : ℕ) (name : List ℕ) (names : List (List ℕ)) (c : List Command) (cs : List (List Command)) (old : List Refusal)
    → HoldSessions held firsts i (name ∷ names) (c ∷ cs) old old → HoldsSession held firsts i name c old old × HoldSessions held firsts (i + 1) names cs old old
first_kept held firsts i name names c cs old h =
    let same : h.0 ≡ old = same_throughout old h.0 (session_grows held firsts i name c old h.0 h.1) (files_grow held firsts (i + 1) names cs h.0 old h.2) in
    (subst (λ (xs : List Refusal). HoldsSession held firsts i name c old xs) same h.1, subst (λ (xs : List Refusal). HoldSessions held firsts (i + 1) names cs xs old) same h.2)

session_one : (held : Contents) (firsts : List ℕ) (i : ℕ) (name : List ℕ) (c d : List Command) (old other : List Refusal) → HoldsSession (Some held) firsts i name c old old → HoldsSession (Some held) firsts i name d other other → d ≡ c
session_one held firsts i name c d old other h k =
    let bytes : k.0 ≡ h.0 = one_text held name h.0 k.0 (h.1, h.2.0) (k.1, k.2.0) in
    one_session i (first_of firsts i) h.0 c d old other h.2.1 (subst (λ (b : List ℕ). IsSession i (first_of firsts i) b d other other) bytes k.2.1)

files_one : (held : Contents) (firsts : List ℕ) (i : ℕ) (names : List (List ℕ)) (all again : List (List Command)) (old other : List Refusal) → HoldSessions (Some held) firsts i names all old old → HoldSessions (Some held) firsts i names again other other → again ≡ all
files_one held firsts i [] [] [] old other h k = refl
files_one held firsts i [] [] (d ∷ ds) old other h k = absurd k
files_one held firsts i [] (c ∷ cs) again old other h k = absurd h
files_one held firsts i (n ∷ ns) [] again old other h k = absurd h
files_one held firsts i (n ∷ ns) (c ∷ cs) [] old other h k = absurd k
files_one held firsts i (n ∷ ns) (c ∷ cs) (d ∷ ds) old other h k =
    let a = first_kept (Some held) firsts i n ns c cs old h in
    let b = first_kept (Some held) firsts i n ns d ds other k in
    let head : d ≡ c = session_one held firsts i n c d old other a.0 b.0 in
    let tail : ds ≡ cs = files_one held firsts (i + 1) ns cs ds old other a.1 b.1 in
    ap (λ (x : List Command). x ∷ ds) head ∙ ap (λ (xs : List (List Command)). c ∷ xs) tail

pub unrefused_read_alike : UnrefusedReadAlike
unrefused_read_alike held firsts names old other all again h k = files_one held firsts 1 names all again old other h k
