-- The text of a run grows by a reply, and by a session.
use Rattle.std.proofs.Common.{◌≡◌, ◌∙◌, ◌++◌, ◌+◌, ◌<◌, ℕ, List, [], ◌∷◌, Some, add-one, ap, append_assoc, arith, codes, get_or, length, refl, subst, sym, take}
use Rattle.std.proofs.Math.Seq.{take-suc}
use Rattle.std.proofs.lemmas.List.{length-take-le}
use Rattle.std.specs.Fmt.{AppendsText, ◌++?◌, decimal}
use Rattle.session_model.specs.Reports.{ReportedGraph}
use Rattle.session_model.specs.declared.reply.SessionReply.{SessionReply}
use Rattle.session_model.specs.declared.reply.SessionReply.TheVariants.{Reported}
use Rattle.session_model.specs.Print.{AreReplyLines, AreSessionLines, IsReplyText, line, reply_text, shown}
use Rattle.session_model.proofs.Printing.{reply_more, session_more}

-- a reply that is no report was written as it shows itself
pub reply_written : (r : SessionReply) (old new : List ℕ) → ((x : ReportedGraph) → r ≡ Reported x → ⊥) → AppendsText old new (shown r ++? Some (10 ∷ [])) → (text : List ℕ) × IsReplyText r text × (new ≡ old ++ line text)
reply_written (Reported x) old new other h = absurd (other x refl)
reply_written r old new other h = (reply_text r, refl, h)

one_more : {A : Type 0} (xs : List A) (k : ℕ) (x : A) → k < length xs → x ≡ get_or xs k x → take (k + 1) xs ≡ take k xs ++ x ∷ []
one_more xs k x less at = ap (λ (n : ℕ). take n xs) (add-one k) ∙ (take-suc xs k x less ∙ ap (λ y. take k xs ++ y ∷ []) (sym at))

further : (old mid new own lines one : List ℕ) → mid ≡ old ++ (own ++ lines) → new ≡ mid ++ one → new ≡ old ++ (own ++ (lines ++ one))
further old mid new own lines one before after =
    after ∙ (ap (λ (ts : List ℕ). ts ++ one) before ∙ (append_assoc old (own ++ lines) one ∙ ap (λ (ts : List ℕ). old ++ ts) (append_assoc own lines one)))

pub one_reply : (replies : List SessionReply) (k : ℕ) (r : SessionReply) (old mid new own lines text : List ℕ) → k < length replies → r ≡ get_or replies k r → AreReplyLines (take k replies) lines → mid ≡ old ++ (own ++ lines)
    → IsReplyText r text → new ≡ mid ++ line text → (all : List ℕ) × AreReplyLines (take (k + 1) replies) all × (new ≡ old ++ (own ++ all))
one_reply replies k r old mid new own lines text less at so_far before one after = (
  lines ++ line text,
  subst (λ (rs : List SessionReply). AreReplyLines rs (lines ++ line text)) (sym (one_more replies k r less at)) (reply_more (take k replies) r lines text so_far one),
  further old mid new own lines (line text) before after,
)

pub one_session : (all : List (List SessionReply)) (k : ℕ) (replies : List SessionReply) (text new lines : List ℕ) → k < length all → replies ≡ get_or all k replies → AreSessionLines 1 (take k all) text → AreReplyLines replies lines
    → new ≡ text ++ (line (codes "session " ++ decimal (k + 1)) ++ lines) → AreSessionLines 1 (take (k + 1) all) new
one_session all k replies text new lines less at so_far own after =
    let count : k + 1 ≡ 1 + length (take k all) = omega (arith, length-take-le k all (omega arith)) in
    let longer = session_more 1 (k + 1) (take k all) replies text lines count so_far own in
    subst (AreSessionLines 1 (take (k + 1) all)) (sym after) (subst (λ (rs : List (List SessionReply)). AreSessionLines 1 rs (text ++ (line (codes "session " ++ decimal (k + 1)) ++ lines))) (sym (one_more all k replies less at)) longer)
