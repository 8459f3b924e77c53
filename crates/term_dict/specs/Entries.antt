-- Terms by their hashes: each entry has its term's number.
use Rattle.std.specs.Prelude.{ℕ, ◌+◌, List, [], ◌∷◌}
use Rattle.std.specs.declared.cmp.Ordering.{Ordering}
use Rattle.std.specs.Ordering.{nat_cmp, ordering_then}
use Rattle.rdf_model.specs.declared.term.Term.{Term}
use Rattle.term_dict.specs.declared.entry.ByHash.{ByHash}
use Rattle.term_dict.specs.Hashes.{term_hash}

-- entries by hash, and by number where terms have one hash
abbrev pub entry_cmp : ByHash → ByHash → Ordering
entry_cmp a b = ordering_then (nat_cmp a.hash b.hash) (nat_cmp a.number b.number)

abbrev pub entry : ℕ → Term → ByHash
entry n t = record { hash = term_hash t; number = n }

-- the entries of terms, with the numbers from the one given on
abbrev pub entries_from : ℕ → List Term → List ByHash
entries_from n [] = []
entries_from n (t ∷ ts) = entry n t ∷ entries_from (n + 1) ts
