use Rattle.std.proofs.Common.{◌≡◌, ◌∙◌, ◌+◌, ◌*◌, ◌≤◌, List, length, sym, ap, subst, arith}
use Rattle.rdf_model.specs.declared.term.Term.{Term}
use Rattle.rdf_model.specs.Numbers.{IsNumbering}
use Rattle.shape_model.specs.Vocabulary.{rdf_type, sub_class_of}
use Rattle.path_ast.specs.PathReadings.{IsNamed}
use Rattle.parallel_validate.specs.Named.{AreNamedTriples}
use Rattle.plain_validation.specs.Names.{class_names, with_terms}
use Rattle.plain_validation.proofs.Naming.{ascending, class_names_ascend, class_names_few, few, named, named_after, numbered, stays, super_named, type_named}
use Rattle.plain_validation.proofs.names.names_of.Goals as goal

pub returns : goal.returns
returns c =
    let g = c.args.graph.now in
    let s = c.args.shapes.now in
    let first : List Term = with_terms class_names g in
    let all : List Term = with_terms first s in
    let is : all ≡ c.add_terms-2.new.names.items = sym (c.in_ok-add_terms-2.ensures ∙ ap (λ ns. with_terms ns s) (c.in_ok-add_terms.ensures ∙ ap (λ ns. with_terms ns g) c.in_ok-names.ensures)) in
    let size : length all ≤ 3 * (length g + length s) + 2 = omega (arith, few class_names g, few first s, class_names_few) in
    record {
      numbering = subst (λ (ns : List Term). IsNumbering ns) is (numbered all (ascending first s (ascending class_names g class_names_ascend)));
      words = subst (λ (ns : List Term). IsNamed ns rdf_type × IsNamed ns sub_class_of) is (stays first s rdf_type (stays class_names g rdf_type type_named), stays first s sub_class_of (stays class_names g sub_class_of super_named));
      graph = subst (λ (ns : List Term). AreNamedTriples ns g) is (named_after class_names g s);
      shapes = subst (λ (ns : List Term). AreNamedTriples ns s) is (named first s);
      few = subst (λ (ns : List Term). length ns ≤ 3 * (length g + length s) + 2) is size;
    }
