use Rattle.std.proofs.Common.{◌∙◌, ℕ, ◌≤◌, List, length, take, sym, ap, subst}
use Rattle.std.specs.Prelude.{encode_utf8_all}
use Rattle.std.specs.Str.{chars}
use Rattle.rdf_lexical.proofs.Spelled.{one_byte_each}
use Rattle.rdf_lexical.proofs.slices.CharSlice.bytes_before.Goals as goal

pub returns-then-self : goal.returns-then-self
returns-then-self c =
    let h = c.if-self.true in
    let long : c.args.count ≤ length (chars c.self.inside.text.now) = subst (λ (xs : List ℕ). c.args.count ≤ length xs) (sym c.self.view_is) c.requires in
    one_byte_each c.self.inside.text.now c.args.count c.self.invariant.0 long (sym c.self.invariant.1 ∙ h)
    ∙ ap (λ xs. length (encode_utf8_all (take c.args.count xs))) c.self.view_is
