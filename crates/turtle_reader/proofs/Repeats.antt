-- Repetitions, one turn on.
use Rattle.std.proofs.Common.{◌∙◌, cond, Ok, ap}
use Rattle.turtle_reader.specs.Parsers.{give}
use Rattle.turtle_reader.specs.Tokens.{is_comma, is_semicolon, is_close_parenthesis, may_begin_verb, next, is_next, is_other, is_unfinished, where_next}
use Rattle.turtle_reader.specs.Grammar.{one_object, more_objects, verb_objects, more_verbs, next_member, object, statement, turtle_doc}
use Rattle.turtle_reader.specs.Laws.{RepeatsStatements, RepeatsObjects, RepeatsVerbs, RepeatsMembers}
use Rattle.turtle_reader.proofs.Progress.{many_more}
use Rattle.turtle_reader.proofs.Productions.{takes_comma, takes_semicolon, takes_member, takes_object, takes_statement}
use Rattle.turtle_reader.proofs.Steps.{then_then}

pub repeats_statements : RepeatsStatements
unfolding turtle_doc
repeats_statements text levels s = many_more text is_unfinished (λ _. statement text levels) (λ x. takes_statement text levels) tt s

pub repeats_objects : RepeatsObjects
unfolding more_objects
repeats_objects text levels a b s =
    many_more text (is_next is_comma) _ (λ x. takes_comma text (object text levels) a b (takes_object text levels)) tt s
    ∙ ap (λ o. cond (is_next is_comma s) o (Ok (tt, s))) (then_then (next text s) (λ _. one_object (object text levels) a b) (λ _. more_objects text (object text levels) a b))

pub repeats_verbs : RepeatsVerbs
unfolding more_verbs
repeats_verbs text levels a s =
    many_more text (is_next is_semicolon) _ (λ x. takes_semicolon text (object text levels) a (takes_object text levels)) tt s
    ∙ ap (λ o. cond (is_next is_semicolon s) o (Ok (tt, s))) (then_then (next text s) (λ _. where_next may_begin_verb (verb_objects text (object text levels) a) (give tt)) (λ _. more_verbs text (object text levels) a))

pub repeats_members : RepeatsMembers
repeats_members text levels node s = many_more text (is_other is_close_parenthesis) (next_member text (object text levels)) (λ x. takes_member text (object text levels) x (takes_object text levels)) node s
