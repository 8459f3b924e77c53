use Rattle.std.proofs.Common.{◌≡◌, nat_eq, codes}
use Rattle.std.specs.List.{starts_with}
use Rattle.std.proofs.lemmas.Str.Pattern.{starts_text}
use Rattle.shape_properties.proofs.Names.{starts_shacl}
use Rattle.shape_properties.proofs.property.is_shacl.Goals as goal

pub returns : goal.returns
returns c = λ none p e.
    let s = c.args.iri.now in
    let told : c.starts_with.result ≡ starts_with nat_eq s (codes "http://www.w3.org/ns/shacl#") = starts_text c.starts_with.result (codes "http://www.w3.org/ns/shacl#") s c.starts_with.ensures.cases in
    let yes = starts_shacl s p e in
    cc
