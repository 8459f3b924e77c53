-- A text of evidence has one verdict, and what explains two texts has this one.
use Rattle.std.proofs.Common.{◌≡◌, ℕ, List, Result, Ok, length, sym, ap, subst, arith}
use Rattle.rdf_model.specs.declared.triple.Triple.{Triple}
use Rattle.turtle_reader.specs.Document.{reads}
use Rattle.evidence_blocks.specs.Verdicts.{IsVerified}
use Rattle.verdict_laws.proofs.Apart.{verdicts_stay_apart}
use Rattle.verdict_laws.proofs.Evidenced.{evidence_is_verified}
use Rattle.file_validation.specs.declared.validating.EvidenceVerdict.{EvidenceVerdict}
use Rattle.file_validation.specs.declared.validating.EvidenceVerdict.TheVariants.{Verified, Wrong}
use Rattle.file_validation.specs.Validations.{IsRead, IsVerdict}
use Rattle.file_laws.specs.Laws.{ExplanationsAreVerified, VerdictsAreOne}
use Rattle.file_laws.proofs.Readable.{read_readable}

ok_same : {X E : Type 0} → (r : Result X E) (x y : X) → r ≡ Ok x → r ≡ Ok y → x ≡ y
ok_same r x y a b = cc

-- a text has one graph
one_graph : (session : ℕ) (text : List ℕ) (ts us : List Triple) → IsRead session text ts → IsRead session text us → ts ≡ us
one_graph session text ts us a b = ap (λ (p : List Triple × ℕ). p.0) (ok_same (reads text session 1) (ts, a.0) (us, b.0) a.1 b.1)

one_verdict : (g s : List Triple) (text : List ℕ) (v w : EvidenceVerdict) → IsVerdict g s text v → IsVerdict g s text w → v ≡ w
one_verdict g s text (Verified n) (Verified m) a b = ap Verified ((verdicts_stay_apart g s text n m 0 0).0 a b)
one_verdict g s text (Verified n) (Wrong i) a b = absurd ((verdicts_stay_apart g s text n n i i).1 a b)
one_verdict g s text (Wrong i) (Verified n) a b = absurd ((verdicts_stay_apart g s text n n i i).1 b a)
one_verdict g s text (Wrong i) (Wrong j) a b = ap Wrong ((verdicts_stay_apart g s text 0 0 i j).2 a b)

pub verdicts_are_one : VerdictsAreOne
verdicts_are_one data_text shapes_text text v w a b =
    let g = one_graph 1 data_text b.graph a.graph b.read.data_read a.read.data_read in
    let s = one_graph 2 shapes_text b.shapes_graph a.shapes_graph b.read.shapes_read a.read.shapes_read in
    one_verdict a.graph a.shapes_graph text v w a.verdict (subst (λ (p : List Triple × List Triple). IsVerdict p.0 p.1 text w) (λ i. (g i, s i)) b.verdict)

pub explanations_are_verified : ExplanationsAreVerified
explanations_are_verified data_text shapes_text e is =
    let k = is.explained.explanation in
    let data_ok = read_readable 1 data_text is.graph (omega arith) (omega arith) is.read.data_read in
    let shapes_ok = read_readable 2 shapes_text is.shapes_graph (omega arith) (omega arith) is.read.shapes_read in
    let verified = evidence_is_verified is.graph is.shapes_graph k.0 data_ok shapes_ok is.read.well_formed k.1.each in (
      k.0,
      k.2,
      record {
        graph = is.graph;
        shapes_graph = is.shapes_graph;
        read = is.read;
        verdict = subst (λ (text : List ℕ). IsVerified is.graph is.shapes_graph text (length k.0)) (sym k.2) verified;
      },
    )
