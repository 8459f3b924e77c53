-- Statements and lists of predicates, one step on.
use Rattle.std.proofs.Common.{◌≡◌, ◌∙◌, ℕ, suc, ◌+◌, true, false, cond, List, [], Ok, Err, Some, Result, refl, ap, arith}
use Rattle.rdf_model.specs.declared.term.Term.{Term}
use Rattle.turtle_lex.specs.declared.token.Token.{Token}
use Rattle.turtle_reader.specs.declared.state.State.{State}
use Rattle.turtle_reader.specs.Parsers.{Outcome, and_then, ◌>>=◌, give}
use Rattle.turtle_reader.specs.Tokens.{next, is_next, is_dot, is_close_bracket, is_unfinished, expected, where_next}
use Rattle.turtle_reader.specs.Terms.{fresh}
use Rattle.turtle_reader.specs.Grammar.{verb, one_object, more_verbs, object_list, predicate_object_list, optional_predicates, property_list, collection, object, turtle_doc, statement, bracket_triples}
use Rattle.turtle_reader.specs.Stack.{properties_from, properties_closed, round_first}
use Rattle.turtle_reader.proofs.Progress.{many_more}
use Rattle.turtle_reader.proofs.Productions.{takes_statement}
use Rattle.turtle_reader.proofs.Steps.{then_then}
use Rattle.rdf_lexical.specs.declared.refusal.ReadFault.{ReadFault}
use Rattle.turtle_reader.specs.Progress.{Gives}
use Rattle.turtle_reader.proofs.Machine.{refuses_by, where_is}

pub predicates_first : (text : List ℕ) (levels : ℕ) (node : Term) (s : State) → predicate_object_list text (object text levels) node s ≡ and_then (verb text s) (λ p. properties_from text (object text levels) node (Some p))
predicates_first text levels node s = split (verb text s)
  where
    split : (o : Outcome Term) → and_then (and_then o (object_list text (object text levels) node)) (λ _. more_verbs text (object text levels) node) ≡ and_then o (λ p. properties_from text (object text levels) node (Some p))
    split (Ok r) = then_then (one_object (object text levels) node r.0 r.1) _ _
    split (Err e) = refl

pub collection_first : (text : List ℕ) (levels : ℕ) (s : State) → collection text (object text levels) s ≡ round_first text levels [] s
collection_first text levels s = split (collection text (object text levels) s)
  where
    split : (o : Outcome Term) → o ≡ and_then o (λ x. give x)
    split (Ok r) = refl
    split (Err e) = refl

-- one statement more
pub doc_more : (text : List ℕ) (levels : ℕ) (s : State) → is_unfinished s ≡ true → turtle_doc text levels s ≡ and_then (statement text levels s) (λ _. turtle_doc text levels)
unfolding turtle_doc
doc_more text levels s h =
    many_more text is_unfinished (λ _. statement text levels) (λ x. takes_statement text levels) tt s
    ∙ ap (λ b. cond b (and_then (statement text levels s) (λ _. turtle_doc text levels)) (Ok (tt, s))) h

pub doc_end : (text : List ℕ) (levels : ℕ) (s : State) → is_unfinished s ≡ false → turtle_doc text levels s ≡ Ok (tt, s)
unfolding turtle_doc
doc_end text levels s h =
    many_more text is_unfinished (λ _. statement text levels) (λ x. takes_statement text levels) tt s
    ∙ ap (λ b. cond b (and_then (statement text levels s) (λ _. turtle_doc text levels)) (Ok (tt, s))) h

pub gives_by : {X : Type 0} (r : Result X ReadFault) (s : State) (o p : Outcome X) → p ≡ o → Gives r s o → Gives r s p
gives_by (Ok x) s o p h g = h ∙ g
gives_by (Err e) s o p h g = refuses_by e o p h g

pub more_end : (text : List ℕ) (levels : ℕ) (node : Term) (s : State) → is_next is_dot s ≡ true → optional_predicates text (object text levels) node s ≡ Ok (tt, s)
more_end text levels node s h = where_is is_dot (give tt) (predicate_object_list text (object text levels) node) s true h

pub more_next : (text : List ℕ) (levels : ℕ) (node : Term) (s : State) → is_next is_dot s ≡ false → optional_predicates text (object text levels) node s ≡ predicate_object_list text (object text levels) node s
more_next text levels node s h = where_is is_dot (give tt) (predicate_object_list text (object text levels) node) s false h

bracket_any : (text : List ℕ) (levels : ℕ) (node : Term) (s t : State) → fresh s ≡ Ok (node, t)
    → bracket_triples text levels s ≡ where_next is_close_bracket (next text >>= λ _. predicate_object_list text (object text (suc levels)) node) (property_list text (object text levels) node >>= optional_predicates text (object text (suc levels))) t
bracket_any text levels node s t f = ap (λ o. and_then o (λ n. where_next is_close_bracket (next text >>= λ _. predicate_object_list text (object text (suc levels)) n) (property_list text (object text levels) n >>= optional_predicates text (object text (suc levels))))) f

pub bracket_end : (text : List ℕ) (levels : ℕ) (node : Term) (s t : State) → fresh s ≡ Ok (node, t) → is_next is_close_bracket t ≡ true
    → bracket_triples text levels s ≡ and_then (next text t) (λ _. predicate_object_list text (object text (levels + 1)) node)
bracket_end text levels node s t f h =
    let more : suc levels ≡ levels + 1 = omega arith in
    bracket_any text levels node s t f
    ∙ where_is is_close_bracket (next text >>= λ _. predicate_object_list text (object text (suc levels)) node) (property_list text (object text levels) node >>= optional_predicates text (object text (suc levels))) t true h
    ∙ ap (λ k. and_then (next text t) (λ _. predicate_object_list text (object text k) node)) more

pub bracket_next : (text : List ℕ) (levels : ℕ) (node : Term) (s t : State) → fresh s ≡ Ok (node, t) → is_next is_close_bracket t ≡ false
    → bracket_triples text levels s ≡ and_then (properties_closed text (object text levels) node t) (λ _. optional_predicates text (object text (levels + 1)) node)
bracket_next text levels node s t f h =
    let more : suc levels ≡ levels + 1 = omega arith in
    bracket_any text levels node s t f
    ∙ where_is is_close_bracket (next text >>= λ _. predicate_object_list text (object text (suc levels)) node) (property_list text (object text levels) node >>= optional_predicates text (object text (suc levels))) t false h
    ∙ split (predicate_object_list text (object text levels) node t)
    ∙ ap (λ k. and_then (properties_closed text (object text levels) node t) (λ _. optional_predicates text (object text k) node)) more
  where
    inner : (q : Outcome Token) → and_then (and_then q (λ _. give node)) (optional_predicates text (object text (suc levels))) ≡ and_then (and_then q (λ _. give (let u : Unit {0} = tt in u))) (λ _. optional_predicates text (object text (suc levels)) node)
    inner (Ok r) = refl
    inner (Err e) = refl

    split : (o : Outcome (Unit {0})) → and_then (and_then o (λ _. expected text is_close_bracket >>= λ _. give node)) (optional_predicates text (object text (suc levels)))
        ≡ and_then (and_then o (λ _. expected text is_close_bracket >>= λ _. give (let u : Unit {0} = tt in u))) (λ _. optional_predicates text (object text (suc levels)) node)
    split (Ok r) = inner (expected text is_close_bracket r.1)
    split (Err e) = refl
