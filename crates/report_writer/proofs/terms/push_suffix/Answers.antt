use Rattle.std.proofs.Common.{◌≡◌, ◌∙◌, ◌++◌, List, Option, None, false, ℕ, ap, append_assoc, codes, string_bytes, sym}
use Rattle.std.specs.Prelude.{nat_eq}
use Rattle.std.proofs.lemmas.Result.{on_ok_weaker}
use lib.Pointwise.{pointwise}
use Rattle.rdf_model.specs.NTriples.{literal_suffix, xsd_string}
use Rattle.report_writer.proofs.terms.push_suffix.Goals as goal

-- the suffix of a literal of another datatype
with_datatype : (out new datatype : List ℕ) (language : Option (List ℕ)) → language ≡ None → pointwise nat_eq datatype xsd_string ≡ false
    → new ≡ out ++ codes "^^<" ++ datatype ++ codes ">"
    → new ≡ out ++ literal_suffix datatype language
with_datatype out new datatype language none other written = rw (none, other, written) (simp append_assoc)

pub returns-in-None-2 : goal.returns-in-None-2
returns-in-None-2 c =
    let same : c.as_str-datatype.result.now ≡ c.args.datatype.now = c.as_str-datatype.ensures in
    let other : pointwise nat_eq c.args.datatype.now xsd_string ≡ false = ap (λ (d : List ℕ). pointwise nat_eq d xsd_string) (sym same) ∙ sym c.eq.ensures ∙ c.if-eq.false in
    on_ok_weaker c.push_three-in-None-2.result (λ h. with_datatype (string_bytes c.args.out.now) (string_bytes c.push_three-in-None-2.new.out) c.args.datatype.now c.args.language.now c.in-None-2.is other
    (h ∙ ap (λ (d : List ℕ). string_bytes c.args.out.now ++ codes "^^<" ++ d ++ codes ">") same)) c.push_three-in-None-2.ensures
