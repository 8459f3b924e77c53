use Rattle.std.proofs.Common.{◌∙◌}
use Rattle.std.specs.String.{string_bytes}
use Rattle.rdf_lexical.proofs.Unescaping.{unescaped_step}
use Rattle.rdf_lexical.proofs.meanings.each_unescaped.Goals as goal

pub loop-character-preserved : goal.loop-character-preserved
loop-character-preserved c =
    let bound = c.in-Some.ensures.bound in
    unescaped_step (string_bytes c.loop-character.text) (string_bytes c.push.new.self) c.loop-character.rest c.after-rest.result c.in-Some.character c.in-Some.length bound.0 bound.1 c.in-Some.ensures.value c.in_ok-push.ensures.bytes c.after-rest.ensures.value
    ∙ c.loop-character.invariant
