use Rattle.std.proofs.Common.{◌≡◌, ◌∙◌, ◌∷◌, Some, None, sym, ap, arith}
use Rattle.std.proofs.lemmas.Str.Pattern.{strip_prefix_char}
use Rattle.ntriples_text.specs.StoreLabels.{stored_node}
use Rattle.ntriples_text.proofs.StoreLabels.{without_s}
use Rattle.ntriples_text.proofs.store_labels.stored_node.Goals as goal

pub returns-in-Some : goal.returns-in-Some
returns-in-Some c =
    let is : c.args.label.now ≡ 115 ∷ c.in-Some.rest.now = strip_prefix_char 115 c.args.label.now (Some c.in-Some.rest) c.in-Some.ensures.cases (omega arith) in
    c.node_behind_s.ensures ∙ sym (ap stored_node is)

pub returns-in-None : goal.returns-in-None
returns-in-None c = sym (without_s c.args.label.now (strip_prefix_char 115 c.args.label.now None c.in-None.ensures.cases (omega arith)))
