-- The text of a block of evidence, line by line.
use Rattle.std.specs.Prelude.{ℕ, ◌+◌, List, [], ◌∷◌, ◌++◌, Option, Some, None, codes}
use Rattle.std.specs.List.{flat_map}
use Rattle.std.specs.Fmt.{decimal}
use Rattle.rdf_model.specs.declared.term.Term.{Term}
use Rattle.rdf_model.specs.declared.look.Look.{Look}
use Rattle.rdf_model.specs.declared.look.Look.TheVariants.{Out, In, OutAny}
use Rattle.rdf_model.specs.NTriples.{term_text}
use Rattle.ntriples_text.specs.Writing.{written}
use Rattle.shape_model.specs.declared.result_row.ResultRow.{ResultRow}
use Rattle.shape_model.specs.Rows.{component_number}
use Rattle.evidence_blocks.specs.declared.block.Block.{Block}
use Rattle.evidence_blocks.specs.declared.block.ShownLook.{ShownLook}

-- a word, a space, a term, and LF; where there is no term, no line
abbrev pub term_line : List ℕ → Term → List ℕ
term_line word t = word ++ codes " " ++ term_text t ++ codes "\n"

abbrev pub optional_line : List ℕ → Option Term → List ℕ
optional_line word None = []
optional_line word (Some t) = term_line word t

-- the result, part by part
abbrev pub row_head : ResultRow → List ℕ
row_head r =
    term_line (codes "source") r.source_shape ++ term_line (codes "focus") r.focus_node
    ++ codes "component " ++ decimal (component_number r.component) ++ codes "\n"

abbrev pub row_terms : ResultRow → List ℕ
row_terms r =
    optional_line (codes "parameter") r.parameter ++ optional_line (codes "about") r.about
    ++ optional_line (codes "value") r.value ++ optional_line (codes "other") r.other

abbrev pub row_text : ResultRow → List ℕ
row_text r = row_head r ++ row_terms r

-- its kind, and its terms from left to right
abbrev pub look_text : Look Term → List ℕ
look_text (Out x p) = codes "out " ++ term_text x ++ codes " " ++ term_text p ++ codes "\n"
look_text (In p x) = codes "in " ++ term_text p ++ codes " " ++ term_text x ++ codes "\n"
look_text (OutAny x) = codes "any " ++ term_text x ++ codes "\n"

-- a look, followed by its triples as lines of N-Triples
abbrev pub shown_text : ShownLook → List ℕ
shown_text x = look_text x.look ++ written x.triples

abbrev pub block_text : Block → List ℕ
block_text b = term_line (codes "shape") b.shape ++ term_line (codes "at") b.focus ++ row_text b.row ++ flat_map shown_text b.looks ++ codes "end\n"

-- a block behind its number
abbrev pub numbered_block : ℕ → Block → List ℕ
numbered_block n b = codes "result " ++ decimal n ++ codes "\n" ++ block_text b

-- blocks that are numbered from n
abbrev pub numbered_blocks : ℕ → List Block → List ℕ
numbered_blocks n [] = []
numbered_blocks n (b ∷ bs) = numbered_block n b ++ numbered_blocks (n + 1) bs
