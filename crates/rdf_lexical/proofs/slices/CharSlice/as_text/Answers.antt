use Rattle.std.proofs.Common.{◌∙◌, sym, ap}
use Rattle.std.specs.Prelude.{encode_utf8_all}
use Rattle.std.proofs.lemmas.Str.{encodes-chars}
use Rattle.rdf_lexical.proofs.slices.CharSlice.as_text.Goals as goal

pub returns : goal.returns
returns c = sym (encodes-chars c.self.inside.text.now c.self.invariant.0) ∙ ap encode_utf8_all c.self.view_is
