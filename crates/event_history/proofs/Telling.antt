-- What kept events tell.
use Rattle.std.proofs.Common.{◌≡◌, ◌∙◌, ℕ, ◌<◌, List, [], ◌∷◌, ◌++◌, length, map, reverse, refl, sym, ap, subst, append_assoc, arith, length-append}
use Rattle.std.proofs.Math.ListN.{get_or-append}
use Rattle.std.proofs.lemmas.List.{map-append, reverse-append, reverse-reverse}
use Rattle.std.specs.List.{AllByRecursion}
use Rattle.rdf_model.specs.declared.ids.Ids.{Ids}
use Rattle.rdf_model.specs.declared.change.Change.TheVariants as changes
use Rattle.rdf_model.specs.declared.triple.Triple.{Triple}
use Rattle.rdf_model.specs.declared.term.Term.{Term}
use Rattle.rdf_model.specs.declared.term.Term.TheVariants as terms
use Rattle.rdf_model.specs.Numbers.{triple_at}
use Rattle.store_model.specs.declared.event.Event.{Event}
use Rattle.store_model.specs.declared.event.Reply.{Reply}
use Rattle.triple_index.specs.Changes.{IsNumbered, IsNumberedChange, change_at}
use Rattle.triple_index.specs.declared.change.NumberedChange.{NumberedChange}
use Rattle.triple_index.specs.declared.change.NumberedChange.TheVariants.{Add, Remove}
use Rattle.event_history.specs.declared.kept.KeptEvent.{KeptEvent}
use Rattle.event_history.specs.declared.kept.KeptEvent.TheVariants.{Whole, Block, Accepted}
use Rattle.event_history.specs.declared.kept.Meaning.{Meaning}
use Rattle.event_history.specs.Kept.{HasTerms, events_with, meaning, reply_of, session_of, told}
use Rattle.event_history.specs.Named.{IsBeginning, accepted_commit, named_block, net_at, terms_at}
use Rattle.event_history.specs.Replies.{newest_replied, same_reply}
use Rattle.event_history.proofs.Comparing.{newest_of}

-- under more names, numbers stand for the same terms
terms_more : (names more : List Term) (ns : List ℕ) → AllByRecursion (λ n. n < length names) ns → terms_at (names ++ more) ns ≡ terms_at names ns
terms_more names more [] h = refl
terms_more names more (n ∷ ns) h =
    let first = get_or-append names more (terms.Blank 0 0) n h.0 in
    let rest = terms_more names more ns h.1 in
    λ i. first i ∷ rest i

triple_more : (names more : List Term) (i : Ids) → IsNumbered names i → triple_at (names ++ more) i ≡ triple_at names i
triple_more names more i h =
    let s = get_or-append names more (terms.Blank 0 0) i.subject h.0 in
    let p = get_or-append names more (terms.Blank 0 0) i.predicate h.1 in
    let o = get_or-append names more (terms.Blank 0 0) i.object h.2 in
    λ k. record { subject = s k; predicate = p k; object = o k }

change_more : (names more : List Term) (c : NumberedChange) → IsNumberedChange names c → change_at (names ++ more) c ≡ change_at names c
change_more names more (Add i) h = ap (λ (t : Triple). changes.Add t) (triple_more names more i h)
change_more names more (Remove i) h = ap (λ (t : Triple). changes.Remove t) (triple_more names more i h)

net_more : (names more : List Term) (cs : List NumberedChange) → AllByRecursion (IsNumberedChange names) cs → net_at (names ++ more) cs ≡ net_at names cs
net_more names more [] h = refl
net_more names more (c ∷ cs) h =
    let first = change_more names more c h.0 in
    let rest = net_more names more cs h.1 in
    λ i. first i ∷ rest i

told_more : (names more : List Term) (k : KeptEvent) → HasTerms names k → told (names ++ more) k ≡ told names k
told_more names more (Whole e) h = refl
told_more names more (Block b) h = ap (named_block b.session b.kind) (terms_more names more b.numbers h)
told_more names more (Accepted c) h = ap (accepted_commit c) (net_more names more c.net h)

all_told_more : (names more : List Term) (ks : List KeptEvent) → AllByRecursion (HasTerms names) ks → map (told (names ++ more)) ks ≡ map (told names) ks
all_told_more names more [] h = refl
all_told_more names more (k ∷ ks) h =
    let first = told_more names more k h.0 in
    let rest = all_told_more names more ks h.1 in
    λ i. first i ∷ rest i

have_more : (names more : List Term) (ns : List ℕ) → AllByRecursion (λ n. n < length names) ns → AllByRecursion (λ n. n < length (names ++ more)) ns
have_more names more [] h = tt
have_more names more (n ∷ ns) h = ((let l = length-append names more in let w = h.0 in omega (arith, l, w)), have_more names more ns h.1)

number_more : (names more : List Term) (i : Ids) → IsNumbered names i → IsNumbered (names ++ more) i
number_more names more i h =
    let l = length-append names more in
    let s = h.0 in
    let p = h.1 in
    let o = h.2 in
    (omega (arith, l, s), omega (arith, l, p), omega (arith, l, o))

changes_have_more : (names more : List Term) (cs : List NumberedChange) → AllByRecursion (IsNumberedChange names) cs → AllByRecursion (IsNumberedChange (names ++ more)) cs
changes_have_more names more [] h = tt
changes_have_more names more (Add i ∷ cs) h = (number_more names more i h.0, changes_have_more names more cs h.1)
changes_have_more names more (Remove i ∷ cs) h = (number_more names more i h.0, changes_have_more names more cs h.1)

has_more : (names more : List Term) (k : KeptEvent) → HasTerms names k → HasTerms (names ++ more) k
has_more names more (Whole e) h = tt
has_more names more (Block b) h = have_more names more b.numbers h
has_more names more (Accepted c) h = changes_have_more names more c.net h

all_have_more : (names more : List Term) (ks : List KeptEvent) → AllByRecursion (HasTerms names) ks → AllByRecursion (HasTerms (names ++ more)) ks
all_have_more names more [] h = tt
all_have_more names more (k ∷ ks) h = (has_more names more k h.0, all_have_more names more ks h.1)

push_terms : (names : List Term) (ks : List KeptEvent) (k : KeptEvent) → AllByRecursion (HasTerms names) ks → HasTerms names k → AllByRecursion (HasTerms names) (ks ++ k ∷ [])
push_terms names [] k h w = (w, tt)
push_terms names (l ∷ ks) k h w = (h.0, push_terms names ks k h.1 w)

-- one more event, under the names that were there
pub have_pushed : (names : List Term) (ks js : List KeptEvent) (k : KeptEvent) → js ≡ ks ++ k ∷ [] → AllByRecursion (HasTerms names) ks → HasTerms names k → AllByRecursion (HasTerms names) js
have_pushed names ks js k e h w = subst (λ (ls : List KeptEvent). AllByRecursion (HasTerms names) ls) (sym e) (push_terms names ks k h w)

pub told_pushed : (names : List Term) (ks js : List KeptEvent) (k : KeptEvent) → js ≡ ks ++ k ∷ [] → map (told names) js ≡ map (told names) ks ++ told names k ∷ []
told_pushed names ks js k e = ap (map (told names)) e ∙ map-append (told names) ks (k ∷ [])

-- one more event, under names with more
pub have_later : (names later : List Term) (ks js : List KeptEvent) (k : KeptEvent) → IsBeginning names later → js ≡ ks ++ k ∷ [] → AllByRecursion (HasTerms names) ks → HasTerms later k → AllByRecursion (HasTerms later) js
have_later names later ks js k b e h w =
    have_pushed later ks js k e (subst (λ (ts : List Term). AllByRecursion (HasTerms ts) ks) (sym b.1) (all_have_more names b.0 ks h)) w

pub told_later : (names later : List Term) (ks js : List KeptEvent) (k : KeptEvent) → IsBeginning names later → js ≡ ks ++ k ∷ [] → AllByRecursion (HasTerms names) ks → map (told later) js ≡ map (told names) ks ++ told later k ∷ []
told_later names later ks js k b e h =
    told_pushed later ks js k e ∙ ap (λ (es : List Event). es ++ told later k ∷ []) (ap (λ (ts : List Term). map (told ts) ks) b.1 ∙ all_told_more names b.0 ks h)

-- what doesn't rest on names
reply_told : (names : List Term) (k : KeptEvent) → (told names k).reply ≡ reply_of k
reply_told names (Whole e) = refl
reply_told names (Block b) = refl
reply_told names (Accepted c) = refl

pub newest_told : (names : List Term) (ks : List KeptEvent) (k : KeptEvent) (r : Reply) → newest_replied (map (told names) (ks ++ k ∷ [])) r ≡ same_reply (reply_of k) r
newest_told names ks k r =
    ap (λ (es : List Event). newest_replied es r) (map-append (told names) ks (k ∷ [])) ∙ newest_of (map (told names) ks) (told names k) r
    ∙ ap (λ (q : Reply). same_reply q r) (reply_told names k)

pub sessions_told : (names : List Term) (ks : List KeptEvent) → map session_of ks ≡ map (λ (e : Event). e.session) (map (told names) ks)
sessions_told names [] = refl
sessions_told names (Whole e ∷ ks) = ap (λ (ns : List ℕ). e.session ∷ ns) (sessions_told names ks)
sessions_told names (Block b ∷ ks) = ap (λ (ns : List ℕ). b.session ∷ ns) (sessions_told names ks)
sessions_told names (Accepted c ∷ ks) = ap (λ (ns : List ℕ). c.session ∷ ns) (sessions_told names ks)

-- each event with what its numbers stand for
with_own : (names : List Term) (ks : List KeptEvent) → events_with ks (map (meaning names) ks) ≡ map (told names) ks
with_own names [] = refl
with_own names (Whole e ∷ ks) = ap (λ (es : List Event). e ∷ es) (with_own names ks)
with_own names (Block b ∷ ks) = ap (λ (es : List Event). named_block b.session b.kind (terms_at names b.numbers) ∷ es) (with_own names ks)
with_own names (Accepted c ∷ ks) = ap (λ (es : List Event). accepted_commit c (net_at names c.net) ∷ es) (with_own names ks)

module _ {X Y : Type 0} (f : X → Y) where
  pub map_reverse : (xs : List X) → map f (reverse xs) ≡ reverse (map f xs)
  map_reverse [] = refl
  map_reverse (x ∷ xs) =
      ap (map f) (reverse-append (x ∷ []) xs) ∙ map-append f (reverse xs) (x ∷ []) ∙ ap (λ (ys : List Y). ys ++ f x ∷ []) (map_reverse xs)
      ∙ sym (reverse-append (f x ∷ []) (map f xs))

-- the events, told the newest first
pub all_told : (names : List Term) (ks : List KeptEvent) (read : List Meaning) (es : List Event) → read ≡ map (meaning names) ks → es ≡ events_with (reverse ks) (reverse read) → reverse es ≡ map (told names) ks
all_told names ks read es b e =
    ap reverse (e ∙ ap (λ (ms : List Meaning). events_with (reverse ks) (reverse ms)) b ∙ ap (events_with (reverse ks)) (sym (map_reverse (meaning names) ks)) ∙ with_own names (reverse ks) ∙ map_reverse (told names) ks)
    ∙ reverse-reverse (map (told names) ks)

-- what the numbers of one event more stand for
all_front : (names : List Term) (ks : List KeptEvent) (k : KeptEvent) → AllByRecursion (HasTerms names) (ks ++ k ∷ []) → AllByRecursion (HasTerms names) ks
all_front names [] k h = tt
all_front names (l ∷ ks) k h = (h.0, all_front names ks k h.1)

pub fewer_have : (names : List Term) (ks js : List KeptEvent) (k : KeptEvent) → js ≡ ks ++ k ∷ [] → AllByRecursion (HasTerms names) js → AllByRecursion (HasTerms names) ks
fewer_have names ks js k e h = all_front names ks k (subst (λ (ls : List KeptEvent). AllByRecursion (HasTerms names) ls) e h)

pub more_meanings : (names : List Term) (ks js : List KeptEvent) (k : KeptEvent) (bs cs all : List Meaning) → js ≡ ks ++ k ∷ [] → cs ≡ bs ++ meaning names k ∷ [] → bs ++ reverse (map (meaning names) js) ≡ all → cs ++ reverse (map (meaning names) ks) ≡ all
more_meanings names ks js k bs cs all e c so_far =
    let f = meaning names in
    let last : reverse (map f js) ≡ f k ∷ reverse (map f ks) = ap (λ (ls : List KeptEvent). reverse (map f ls)) e ∙ ap reverse (map-append f ks (k ∷ [])) ∙ reverse-append (map f ks) (f k ∷ []) in
    ap (λ (ds : List Meaning). ds ++ reverse (map f ks)) c ∙ append_assoc bs (f k ∷ []) (reverse (map f ks)) ∙ ap (λ (ds : List Meaning). bs ++ ds) (sym last) ∙ so_far
