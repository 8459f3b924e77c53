-- What a term feeds a hasher: its texts and numbers, one after the other; and its hash.
use Rattle.std.specs.Prelude.{◌++◌, ℕ, Some, None}
use Rattle.std.specs.Hash as fed
use Rattle.std.specs.Hash.DefaultHasher as sip
use Rattle.std.specs.List.{fold}
use Rattle.rdf_model.specs.declared.term.Term.{Term}
use Rattle.rdf_model.specs.declared.term.Term.TheVariants.{Blank, Iri, Literal}

abbrev pub term_writes : Term → fed.HashWrites
term_writes (Blank s n) = fed.u32 s ++ fed.u32 n
term_writes (Iri i) = fed.str i
term_writes (Literal l d None) = fed.str l ++ fed.str d
term_writes (Literal l d (Some t)) = fed.str l ++ (fed.str d ++ fed.str t)

-- its hash by SipHash-1-3 with both keys 0
unfoldable pub term_hash : Term → ℕ
term_hash t = sip.finish (fold sip.write sip.initial (term_writes t))
