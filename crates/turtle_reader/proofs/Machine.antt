-- What is left to be read, one step on.
use Rattle.std.proofs.Common.{◌≡◌, ◌∙◌, ℕ, zero, suc, Bool, true, false, cond, not, List, ◌∷◌, Ok, Err, Some, None, Result, refl, sym, ap, arith}
use Rattle.rdf_model.specs.declared.term.Term.{Term}
use Rattle.turtle_lex.specs.declared.token.Token.{Token}
use Rattle.turtle_lex.specs.declared.token.TokenKind.{TokenKind}
use Rattle.turtle_lex.specs.declared.token.TokenKind.TheVariants.{OpenBracket, OpenParenthesis}
use Rattle.turtle_reader.specs.declared.state.State.{State}
use Rattle.turtle_reader.specs.declared.frame.Frame.{Frame}
use Rattle.turtle_reader.specs.declared.frame.Frame.TheVariants.{Properties, Members}
use Rattle.rdf_lexical.specs.declared.refusal.ReadFault.{ReadFault}
use Rattle.rdf_lexical.specs.declared.refusal.ReadFault.TheVariants.{Refusal, Memory}
use Rattle.rdf_lexical.specs.Refusals.{Refuses}
use Rattle.turtle_reader.specs.Parsers.{Outcome, Parser, and_then, ◌>>=◌, give, many}
use Rattle.turtle_reader.specs.Tokens.{next, is_next, is_other, is_comma, is_semicolon, is_close_bracket, is_close_parenthesis, may_begin_verb, expected, where_next}
use Rattle.turtle_reader.specs.Terms.{fresh}
use Rattle.turtle_reader.specs.Grammar.{found, rdf_first, rdf_rest, rdf_nil, verb, one_object, more_objects, object_list, verb_objects, more_verbs, next_member, more_members, property_list, square, collection, object_of, too_deep, object}
use Rattle.turtle_reader.specs.Stack.{more_properties, properties_from, all_closed, remaining, list_closed, node_after, square_first, round_first, bracket_first, bracket_open, token_object}
use Rattle.turtle_reader.specs.Progress.{Goes}
use Rattle.turtle_reader.proofs.Progress.{many_more}
use Rattle.turtle_reader.proofs.Productions.{takes_comma, takes_semicolon, takes_member, takes_object}
use Rattle.turtle_reader.proofs.Steps.{then_then}

abbrev Nothing : Type 0
Nothing = Unit {0}

-- a refusal of the first reading is one of all
pub refuses_same : {A B : Type 0} (e : ReadFault) (o : Outcome A) (f : A → Parser B) (p : Outcome B) → p ≡ and_then o f → Refuses e o → Refuses e p
refuses_same Memory o f p h r = tt
refuses_same (Refusal line kind) o f p h r = h ∙ ap (λ q. and_then q f) r

pub refuses_by : {B : Type 0} (e : ReadFault) (o p : Outcome B) → p ≡ o → Refuses e o → Refuses e p
refuses_by Memory o p h r = tt
refuses_by (Refusal line kind) o p h r = h ∙ r

-- `(';' (verb objectList)?)*`
pub verbs_more : (text : List ℕ) (levels : ℕ) (node : Term) (s : State) → is_next is_semicolon s ≡ true
    → more_verbs text (object text levels) node s ≡ and_then (next text s) (λ _. where_next may_begin_verb (verb_objects text (object text levels) node) (give tt) >>= λ _. more_verbs text (object text levels) node)
unfolding more_verbs
verbs_more text levels node s h =
    many_more text (is_next is_semicolon) _ (λ x. takes_semicolon text (object text levels) node (takes_object text levels)) tt s
    ∙ ap (λ b. cond b (and_then (and_then (next text s) (λ _. where_next may_begin_verb (verb_objects text (object text levels) node) (give tt))) (λ _. more_verbs text (object text levels) node)) (Ok (tt, s))) h
    ∙ then_then (next text s) _ _

pub verbs_end : (text : List ℕ) (levels : ℕ) (node : Term) (s : State) → is_next is_semicolon s ≡ false → more_verbs text (object text levels) node s ≡ Ok (tt, s)
unfolding more_verbs
verbs_end text levels node s h =
    many_more text (is_next is_semicolon) _ (λ x. takes_semicolon text (object text levels) node (takes_object text levels)) tt s
    ∙ ap (λ b. cond b (and_then (and_then (next text s) (λ _. where_next may_begin_verb (verb_objects text (object text levels) node) (give tt))) (λ _. more_verbs text (object text levels) node)) (Ok (tt, s))) h

pub where_is : {X : Type 0} (test : _) (f g : Parser X) (s : State) (b : Bool) → is_next test s ≡ b → where_next test f g s ≡ (let h : Parser X = cond b f g in h) s
unfolding where_next
where_is {X = X} test f g s b h = ap (λ c. (let r : Parser X = cond c f g in r) s) h

pub verbs_skip : (text : List ℕ) (levels : ℕ) (node : Term) (s t : State) (token : Token) → is_next is_semicolon s ≡ true → next text s ≡ Ok (token, t) → is_next may_begin_verb t ≡ false
    → more_verbs text (object text levels) node s ≡ more_verbs text (object text levels) node t
verbs_skip text levels node s t token h n v =
    verbs_more text levels node s h
    ∙ ap (λ o. and_then o (λ _. where_next may_begin_verb (verb_objects text (object text levels) node) (give tt) >>= λ _. more_verbs text (object text levels) node)) n
    ∙ ap (λ o. and_then o (λ _. more_verbs text (object text levels) node)) (where_is may_begin_verb (verb_objects text (object text levels) node) (give tt) t false v)

pub verbs_verb : (text : List ℕ) (levels : ℕ) (node : Term) (s t : State) (token : Token) → is_next is_semicolon s ≡ true → next text s ≡ Ok (token, t) → is_next may_begin_verb t ≡ true
    → more_verbs text (object text levels) node s ≡ and_then (verb text t) (λ p. properties_from text (object text levels) node (Some p))
verbs_verb text levels node s t token h n v =
    verbs_more text levels node s h
    ∙ ap (λ o. and_then o (λ _. where_next may_begin_verb (verb_objects text (object text levels) node) (give tt) >>= λ _. more_verbs text (object text levels) node)) n
    ∙ ap (λ o. and_then o (λ _. more_verbs text (object text levels) node)) (where_is may_begin_verb (verb_objects text (object text levels) node) (give tt) t true v)
    ∙ split (verb text t)
  where
    split : (o : Outcome Term) → and_then (and_then o (object_list text (object text levels) node)) (λ _. more_verbs text (object text levels) node) ≡ and_then o (λ p. properties_from text (object text levels) node (Some p))
    split (Ok r) = then_then (one_object (object text levels) node r.0 r.1) _ _
    split (Err e) = refl

-- `(',' object)*`
pub comma_more : (text : List ℕ) (levels : ℕ) (node predicate : Term) (s : State) → is_next is_comma s ≡ true
    → more_properties text (object text levels) node predicate s ≡ and_then (next text s) (λ _. properties_from text (object text levels) node (Some predicate))
unfolding more_objects
comma_more text levels node predicate s h =
    ap (λ o. and_then o (λ _. more_verbs text (object text levels) node))
    (many_more text (is_next is_comma) _ (λ x. takes_comma text (object text levels) node predicate (takes_object text levels)) tt s
    ∙ ap (λ b. cond b (and_then (and_then (next text s) (λ _. one_object (object text levels) node predicate)) (λ _. more_objects text (object text levels) node predicate)) (Ok (tt, s))) h)
    ∙ split (next text s)
  where
    split : (o : Outcome Token) → and_then (and_then (and_then o (λ _. one_object (object text levels) node predicate)) (λ _. more_objects text (object text levels) node predicate)) (λ _. more_verbs text (object text levels) node)
        ≡ and_then o (λ _. properties_from text (object text levels) node (Some predicate))
    split (Ok r) = then_then (one_object (object text levels) node predicate r.1) _ _
    split (Err e) = refl

pub comma_none : (text : List ℕ) (levels : ℕ) (node predicate : Term) (s : State) → is_next is_comma s ≡ false
    → more_properties text (object text levels) node predicate s ≡ more_verbs text (object text levels) node s
unfolding more_objects
comma_none text levels node predicate s h =
    ap (λ o. and_then o (λ _. more_verbs text (object text levels) node))
    (many_more text (is_next is_comma) _ (λ x. takes_comma text (object text levels) node predicate (takes_object text levels)) tt s
    ∙ ap (λ b. cond b (and_then (and_then (next text s) (λ _. one_object (object text levels) node predicate)) (λ _. more_objects text (object text levels) node predicate)) (Ok (tt, s))) h)

-- within `[`
reopened : (o : Outcome Term) (f : Term → Parser Nothing) (m : Parser Nothing) (e : Parser Term) (k : Term → Parser Term)
    → and_then (and_then (and_then (and_then o f) (λ _. m)) (λ _. e)) k ≡ and_then o (λ t. (f t >>= λ _. m >>= λ _. e) >>= k)
reopened (Ok r) f m e k = ap (λ q. and_then q k) (then_then (f r.0 r.1) (λ _. m) (λ _. e))
reopened (Err x) f m e k = refl

pub value_first : (text : List ℕ) (levels : ℕ) (fs : List Frame) (node predicate term : Term) (s t : State) → found node predicate term s ≡ Ok (tt, t)
    → all_closed text levels (Properties node predicate ∷ fs) term s ≡ and_then (and_then (more_properties text (object text levels) node predicate t) (λ _. expected text is_close_bracket >>= λ _. give node)) (all_closed text (suc levels) fs)
value_first text levels fs node predicate term s t f =
    ap (λ o. and_then (and_then o (λ _. more_properties text (object text levels) node predicate >>= λ _. expected text is_close_bracket >>= λ _. give node)) (all_closed text (suc levels) fs)) f

pub value_next : (text : List ℕ) (levels : ℕ) (fs : List Frame) (node predicate term p : Term) (s t u : State) → found node predicate term s ≡ Ok (tt, t)
    → more_properties text (object text levels) node predicate t ≡ properties_from text (object text levels) node (Some p) u
    → all_closed text levels (Properties node predicate ∷ fs) term s ≡ remaining text levels (Properties node p ∷ fs) None u
value_next text levels fs node predicate term p s t u f m =
    value_first text levels fs node predicate term s t f
    ∙ ap (λ o. and_then (and_then o (λ _. expected text is_close_bracket >>= λ _. give node)) (all_closed text (suc levels) fs)) m
    ∙ reopened (object text levels u) (found node p) (more_properties text (object text levels) node p) (expected text is_close_bracket >>= λ _. give node) (all_closed text (suc levels) fs)

pub value_end : (text : List ℕ) (levels : ℕ) (fs : List Frame) (node predicate term : Term) (s t u : State) → found node predicate term s ≡ Ok (tt, t)
    → more_properties text (object text levels) node predicate t ≡ properties_from text (object text levels) node None u
    → all_closed text levels (Properties node predicate ∷ fs) term s ≡ and_then (expected text is_close_bracket u) (λ _. all_closed text (suc levels) fs node)
value_end text levels fs node predicate term s t u f m =
    value_first text levels fs node predicate term s t f
    ∙ ap (λ o. and_then (and_then o (λ _. expected text is_close_bracket >>= λ _. give node)) (all_closed text (suc levels) fs)) m
    ∙ then_then (expected text is_close_bracket u) (λ _. give node) (all_closed text (suc levels) fs)

-- within `(`
is_none : (s : State) (b : Bool) → is_next is_close_parenthesis s ≡ b → is_other is_close_parenthesis s ≡ not b
unfolding is_next is_other
is_none s b h = ap not h

member_first : (text : List ℕ) (levels : ℕ) (fs : List Frame) (first last term : Term) (s t : State) → found last rdf_first term s ≡ Ok (tt, t)
    → all_closed text levels (Members first last ∷ fs) term s ≡ and_then (and_then (more_members text (object text levels) last t) (λ _. give first)) (all_closed text (suc levels) fs)
member_first text levels fs first last term s t f =
    ap (λ o. and_then (and_then o (λ _. more_members text (object text levels) last >>= λ _. give first)) (all_closed text (suc levels) fs)) f

members : (text : List ℕ) (levels : ℕ) (last : Term) (t : State) (b : Bool) → is_next is_close_parenthesis t ≡ b
    → many text (is_other is_close_parenthesis) (next_member text (object text levels)) last t ≡ cond (not b) (and_then (next_member text (object text levels) last t) (many text (is_other is_close_parenthesis) (next_member text (object text levels)))) (Ok (last, t))
members text levels last t b h =
    many_more text (is_other is_close_parenthesis) (next_member text (object text levels)) (λ x. takes_member text (object text levels) x (takes_object text levels)) last t
    ∙ ap (λ c. cond c (and_then (next_member text (object text levels) last t) (many text (is_other is_close_parenthesis) (next_member text (object text levels)))) (Ok (last, t))) (is_none t b h)

pub member_end : (text : List ℕ) (levels : ℕ) (fs : List Frame) (first last term : Term) (s t : State) → found last rdf_first term s ≡ Ok (tt, t) → is_next is_close_parenthesis t ≡ true
    → all_closed text levels (Members first last ∷ fs) term s ≡ and_then (list_closed text last t) (λ _. all_closed text (suc levels) fs first)
unfolding list_closed
member_end text levels fs first last term s t f h =
    member_first text levels fs first last term s t f
    ∙ ap (λ o. and_then (and_then (and_then o (λ l. expected text is_close_parenthesis >>= λ _. found l rdf_rest rdf_nil)) (λ _. give first)) (all_closed text (suc levels) fs)) (members text levels last t true h)
    ∙ then_then ((expected text is_close_parenthesis >>= λ _. found last rdf_rest rdf_nil) t) (λ _. give first) (all_closed text (suc levels) fs)

again : (o : Outcome Term) (f : Term → Parser Nothing) (node : Term) (m : Term → Parser Term) (e : Term → Parser Nothing) (g : Parser Term) (k : Term → Parser Term)
    → and_then (and_then (and_then (and_then (and_then (and_then o f) (λ _. give node)) m) e) (λ _. g)) k ≡ and_then o (λ t. (f t >>= λ _. (m node >>= e) >>= λ _. g) >>= k)
again (Ok r) f node m e g k = split (f r.0 r.1)
  where
    split : (q : Outcome Nothing) → and_then (and_then (and_then (and_then (and_then q (λ _. give node)) m) e) (λ _. g)) k ≡ and_then (and_then q (λ _. (m node >>= e) >>= λ _. g)) k
    split (Ok x) = refl
    split (Err x) = refl
again (Err x) f node m e g k = refl

nodes : (text : List ℕ) (levels : ℕ) (last node : Term) (t v : State) → node_after last t ≡ Ok (node, v) → next_member text (object text levels) last t ≡ (one_object (object text levels) node rdf_first >>= λ _. give node) v
unfolding node_after
nodes text levels last node t v h = split (fresh t) ∙ ap (λ o. and_then o (λ m. one_object (object text levels) m rdf_first >>= λ _. give m)) h
  where
    inner : (m : Term) (q : Outcome Nothing) → and_then q (λ _. one_object (object text levels) m rdf_first >>= λ _. give m) ≡ and_then (and_then q (λ _. give m)) (λ m. one_object (object text levels) m rdf_first >>= λ _. give m)
    inner m (Ok x) = refl
    inner m (Err x) = refl

    split : (o : Outcome Term) → and_then o (λ m. found last rdf_rest m >>= λ _. one_object (object text levels) m rdf_first >>= λ _. give m)
        ≡ and_then (and_then o (λ m. found last rdf_rest m >>= λ _. give m)) (λ m. one_object (object text levels) m rdf_first >>= λ _. give m)
    split (Ok r) = inner r.0 (found last rdf_rest r.0 r.1)
    split (Err x) = refl

pub member_next : (text : List ℕ) (levels : ℕ) (fs : List Frame) (first last term node : Term) (s t v : State) → found last rdf_first term s ≡ Ok (tt, t) → is_next is_close_parenthesis t ≡ false
    → node_after last t ≡ Ok (node, v)
    → all_closed text levels (Members first last ∷ fs) term s ≡ remaining text levels (Members first node ∷ fs) None v
member_next text levels fs first last term node s t v f h n =
    let close : Term → Parser Nothing = λ l. expected text is_close_parenthesis >>= λ _. found l rdf_rest rdf_nil in
    let more : Term → Parser Term = many text (is_other is_close_parenthesis) (next_member text (object text levels)) in
    member_first text levels fs first last term s t f
    ∙ ap (λ o. and_then (and_then (and_then o close) (λ _. give first)) (all_closed text (suc levels) fs)) (members text levels last t false h)
    ∙ ap (λ o. and_then (and_then (and_then (and_then o more) close) (λ _. give first)) (all_closed text (suc levels) fs)) (nodes text levels last node t v n)
    ∙ again (object text levels v) (found node rdf_first) node more close (give first) (all_closed text (suc levels) fs)

-- the clauses of what is passed on
pub goes_by : {X Y : Type 0} (r : Result X ReadFault) (before p : Outcome Y) (now : X → Outcome Y) → p ≡ before → Goes r before now → Goes r p now
goes_by (Ok x) before p now h g = h ∙ g
goes_by (Err e) before p now h g = refuses_by e before p h g

pub value_any : (text : List ℕ) (levels : ℕ) (fs : List Frame) (node predicate term : Term) (s t : State) → found node predicate term s ≡ Ok (tt, t)
    → all_closed text levels (Properties node predicate ∷ fs) term s ≡ and_then (more_properties text (object text levels) node predicate t) (λ _. (expected text is_close_bracket >>= λ _. give node) >>= all_closed text (suc levels) fs)
value_any text levels fs node predicate term s t f =
    value_first text levels fs node predicate term s t f ∙ then_then (more_properties text (object text levels) node predicate t) _ _

-- a triple with copies of terms
pub found_as : (a a' b b' c c' : Term) (s : State) (o : Outcome Nothing) → a' ≡ a → b' ≡ b → c' ≡ c → found a' b' c' s ≡ o → found a b c s ≡ o
found_as a a' b b' c c' s o ea eb ec h = ap (λ x. found x b c s) (sym ea) ∙ ap (λ y. found a' y c s) (sym eb) ∙ ap (λ z. found a' b' z s) (sym ec) ∙ h

pub node_made : (last node : Term) (t u v : State) → fresh t ≡ Ok (node, u) → found last rdf_rest node u ≡ Ok (tt, v) → node_after last t ≡ Ok (node, v)
unfolding node_after
node_made last node t u v h f = ap (λ o. and_then o (λ n. found last rdf_rest n >>= λ _. give n)) h ∙ ap (λ o. and_then o (λ _. give node)) f

pub list_made : (text : List ℕ) (last : Term) (token : Token) (t u v : State) → expected text is_close_parenthesis t ≡ Ok (token, u) → found last rdf_rest rdf_nil u ≡ Ok (tt, v) → list_closed text last t ≡ Ok (tt, v)
unfolding list_closed
list_made text last token t u v h f = ap (λ o. and_then o (λ _. found last rdf_rest rdf_nil)) h ∙ f

pub list_fault : (text : List ℕ) (last : Term) (t : State) (e : ReadFault) → Refuses e (expected text is_close_parenthesis t) → Refuses e (list_closed text last t)
unfolding list_closed
list_fault text last t e h = refuses_same e (expected text is_close_parenthesis t) (λ _. found last rdf_rest rdf_nil) ((expected text is_close_parenthesis >>= λ _. found last rdf_rest rdf_nil) t) refl h

-- as many levels, and the same frames
pub at_levels : (text : List ℕ) (n m : ℕ) (fs : List Frame) (term : Term) (s : State) → n ≡ m → all_closed text n fs term s ≡ all_closed text m fs term s
at_levels text n m fs term s e = ap (λ k. all_closed text k fs term s) e

pub at_frames : (text : List ℕ) (n old new : ℕ) (fs gs : List Frame) (s : State) → old ≡ suc n → old ≡ suc new → gs ≡ fs → remaining text n fs None s ≡ remaining text new gs None s
at_frames text n old new fs gs s a b e =
    let same : n ≡ new = omega arith in
    ap (λ k. remaining text k fs None s) same ∙ ap (λ (hs : List Frame). remaining text new hs None s) (sym e)

-- an open bracket
pub square_end : (text : List ℕ) (levels : ℕ) (fs : List Frame) (node : Term) (s t : State) → fresh s ≡ Ok (node, t) → is_next is_close_bracket t ≡ true
    → square_first text levels fs s ≡ and_then (next text t) (λ _. all_closed text (suc levels) fs node)
unfolding square
square_end text levels fs node s t f h =
    ap (λ o. and_then (and_then o (λ n. where_next is_close_bracket (next text >>= λ _. give n) (property_list text (object text levels) n))) (all_closed text (suc levels) fs)) f
    ∙ ap (λ o. and_then o (all_closed text (suc levels) fs)) (where_is is_close_bracket (next text >>= λ _. give node) (property_list text (object text levels) node) t true h)
    ∙ then_then (next text t) (λ _. give node) (all_closed text (suc levels) fs)

opened : (o : Outcome Term) (f : Term → Term → Parser Nothing) (m : Term → Parser Nothing) (v : Parser Nothing) (e : Parser Term) (k : Term → Parser Term) (object : Parser Term)
    → and_then (and_then (and_then (and_then o (λ p. (object >>= f p) >>= λ _. m p)) (λ _. v)) (λ _. e)) k
    ≡ and_then o (λ p. object >>= λ t. (f p t >>= λ _. (m p >>= λ _. v) >>= λ _. e) >>= k)
opened (Ok r) f m v e k object = split (object r.1)
  where
    inner : (q : Outcome Nothing) → and_then (and_then (and_then (and_then q (λ _. m r.0)) (λ _. v)) (λ _. e)) k ≡ and_then (and_then q (λ _. (m r.0 >>= λ _. v) >>= λ _. e)) k
    inner (Ok x) = refl
    inner (Err x) = refl

    split : (q : Outcome Term) → and_then (and_then (and_then (and_then (and_then q (f r.0)) (λ _. m r.0)) (λ _. v)) (λ _. e)) k ≡ and_then q (λ t. (f r.0 t >>= λ _. (m r.0 >>= λ _. v) >>= λ _. e) >>= k)
    split (Ok x) = inner (f r.0 x.0 x.1)
    split (Err x) = refl
opened (Err x) f m v e k object = refl

pub square_next : (text : List ℕ) (levels : ℕ) (fs : List Frame) (node : Term) (s t : State) → fresh s ≡ Ok (node, t) → is_next is_close_bracket t ≡ false
    → square_first text levels fs s ≡ and_then (verb text t) (λ p. remaining text levels (Properties node p ∷ fs) None)
unfolding square
square_next text levels fs node s t f h =
    ap (λ o. and_then (and_then o (λ n. where_next is_close_bracket (next text >>= λ _. give n) (property_list text (object text levels) n))) (all_closed text (suc levels) fs)) f
    ∙ ap (λ o. and_then o (all_closed text (suc levels) fs)) (where_is is_close_bracket (next text >>= λ _. give node) (property_list text (object text levels) node) t false h)
    ∙ opened (verb text t) (found node) (more_objects text (object text levels) node) (more_verbs text (object text levels) node) (expected text is_close_bracket >>= λ _. give node) (all_closed text (suc levels) fs) (object text levels)

pub round_end : (text : List ℕ) (levels : ℕ) (fs : List Frame) (s : State) → is_next is_close_parenthesis s ≡ true
    → round_first text levels fs s ≡ and_then (next text s) (λ _. all_closed text (suc levels) fs rdf_nil)
unfolding collection
round_end text levels fs s h =
    ap (λ o. and_then o (all_closed text (suc levels) fs)) (where_is is_close_parenthesis (next text >>= λ _. give rdf_nil)
    (fresh >>= λ node. one_object (object text levels) node rdf_first >>= λ _. more_members text (object text levels) node >>= λ _. give node) s true h)
    ∙ then_then (next text s) (λ _. give rdf_nil) (all_closed text (suc levels) fs)

pub round_next : (text : List ℕ) (levels : ℕ) (fs : List Frame) (node last : Term) (s t : State) → is_next is_close_parenthesis s ≡ false → fresh s ≡ Ok (node, t) → last ≡ node
    → round_first text levels fs s ≡ remaining text levels (Members node last ∷ fs) None t
unfolding collection
round_next text levels fs node last s t h f e =
    ap (λ o. and_then o (all_closed text (suc levels) fs)) (where_is is_close_parenthesis (next text >>= λ _. give rdf_nil)
    (fresh >>= λ node. one_object (object text levels) node rdf_first >>= λ _. more_members text (object text levels) node >>= λ _. give node) s false h)
    ∙ ap (λ o. and_then (and_then o (λ node. one_object (object text levels) node rdf_first >>= λ _. more_members text (object text levels) node >>= λ _. give node)) (all_closed text (suc levels) fs)) f
    ∙ reopened_list (object text levels t) (found node rdf_first) (more_members text (object text levels) node) (give node) (all_closed text (suc levels) fs)
    ∙ ap (λ n. remaining text levels (Members node n ∷ fs) None t) (sym e)
  where
    reopened_list : (o : Outcome Term) (f : Term → Parser Nothing) (m : Parser Nothing) (e : Parser Term) (k : Term → Parser Term)
        → and_then (and_then (and_then o f) (λ _. m >>= λ _. e)) k ≡ and_then o (λ t. (f t >>= λ _. m >>= λ _. e) >>= k)
    reopened_list (Ok r) f m e k = refl
    reopened_list (Err x) f m e k = refl

pub bracket_suc : (text : List ℕ) (n l : ℕ) (kind : TokenKind) (t : Token) (fs : List Frame) (s : State) → n ≡ suc l → bracket_open text n kind t fs s ≡ bracket_first kind text l fs s
bracket_suc text n l kind t fs s e = ap (λ k. bracket_open text k kind t fs s) e

-- an object by its first token
by_token : (k : TokenKind) (text : List ℕ) (levels : ℕ) (fs : List Frame) (t : Token) (s : State)
    → and_then (object_of k text (square text (object text levels)) (collection text (object text levels)) t s) (all_closed text (suc levels) fs) ≡ token_object text (suc levels) fs k t s
by_token OpenBracket text levels fs t s = refl
by_token OpenParenthesis text levels fs t s = refl
by_token _ text levels fs t s = refl

by_token_last : (k : TokenKind) (text : List ℕ) (fs : List Frame) (t : Token) (s : State)
    → and_then (object_of k text (too_deep t) (too_deep t) t s) (all_closed text zero fs) ≡ token_object text zero fs k t s
by_token_last OpenBracket text fs t s = refl
by_token_last OpenParenthesis text fs t s = refl
by_token_last _ text fs t s = refl

pub object_next : (text : List ℕ) (levels : ℕ) (fs : List Frame) (s : State) → remaining text levels fs None s ≡ and_then (next text s) (λ t. token_object text levels fs t.kind t)
unfolding object
object_next text zero fs s = split (next text s)
  where
    split : (o : Outcome Token) → and_then (and_then o (λ t. object_of t.kind text (too_deep t) (too_deep t) t)) (all_closed text zero fs) ≡ and_then o (λ t. token_object text zero fs t.kind t)
    split (Ok r) = by_token_last r.0.kind text fs r.0 r.1
    split (Err e) = refl
object_next text (suc levels) fs s = split (next text s)
  where
    split : (o : Outcome Token) → and_then (and_then o (λ t. object_of t.kind text (square text (object text levels)) (collection text (object text levels)) t)) (all_closed text (suc levels) fs) ≡ and_then o (λ t. token_object text (suc levels) fs t.kind t)
    split (Ok r) = by_token r.0.kind text levels fs r.0 r.1
    split (Err e) = refl

pub object_token : (text : List ℕ) (levels : ℕ) (fs : List Frame) (s u : State) (t : Token) → next text s ≡ Ok (t, u) → remaining text levels fs None s ≡ token_object text levels fs t.kind t u
object_token text levels fs s u t h = object_next text levels fs s ∙ ap (λ o. and_then o (λ t. token_object text levels fs t.kind t)) h
