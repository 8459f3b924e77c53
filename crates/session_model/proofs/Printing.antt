-- The lines of replies and of sessions: one more, and that there are no others.
use Rattle.std.proofs.Common.{◌≡◌, ◌∙◌, ℕ, ◌+◌, List, [], ◌∷◌, ◌++◌, length, codes, refl, sym, ap, arith, append-nil, append_assoc}
use Rattle.std.specs.Fmt.{decimal}
use Rattle.shape_model.specs.declared.result_row.ResultRow.{ResultRow}
use Rattle.shape_model.proofs.Listings.{listing_law}
use Rattle.report_writer.specs.Report.{report_text}
use Rattle.session_model.specs.declared.reply.SessionReply.{SessionReply}
use Rattle.session_model.specs.declared.reply.SessionReply.TheVariants.{Reported}
use Rattle.session_model.specs.Print.{AreReplyLines, AreSessionLines, IsReplyText, line}

pub reply_more : (rs : List SessionReply) (r : SessionReply) (text one : List ℕ) → AreReplyLines rs text → IsReplyText r one → AreReplyLines (rs ++ r ∷ []) (text ++ line one)
reply_more [] r text one h k = (one, [], k, refl, ap (λ (t : List ℕ). t ++ line one) h ∙ sym (append-nil (line one)))
reply_more (x ∷ rs) r text one h k = (h.0, h.1 ++ line one, h.2, reply_more rs r h.1 one h.3 k, ap (λ (t : List ℕ). t ++ line one) h.4 ∙ append_assoc (line h.0) h.1 (line one))

abbrev session_line : ℕ → List ℕ
session_line i = line (codes "session " ++ decimal i)

pub session_more : (i n : ℕ) (all : List (List SessionReply)) (replies : List SessionReply) (text lines : List ℕ) → n ≡ i + length all → AreSessionLines i all text → AreReplyLines replies lines → AreSessionLines i (all ++ replies ∷ []) (text ++ (session_line n ++ lines))
session_more i n [] replies text lines e h k =
    let at : n ≡ i = omega (arith, e) in
    (lines, [], k, refl, ap (λ (t : List ℕ). t ++ (session_line n ++ lines)) h ∙ ap (λ (m : ℕ). session_line m ++ lines) at ∙ ap (λ (t : List ℕ). session_line i ++ t) (sym (append-nil lines)))
session_more i n (x ∷ all) replies text lines e h k = (
  h.0,
  h.1 ++ (session_line n ++ lines),
  h.2,
  session_more (i + 1) n all replies h.1 lines (omega (arith, e)) h.3 k,
  ap (λ (t : List ℕ). t ++ (session_line n ++ lines)) h.4 ∙ append_assoc (session_line i) (h.0 ++ h.1) (session_line n ++ lines) ∙ ap (λ (t : List ℕ). session_line i ++ t) (append_assoc h.0 h.1 (session_line n ++ lines)),
)

-- replies have one text
reply_one : (r : SessionReply) (a b : List ℕ) → IsReplyText r a → IsReplyText r b → b ≡ a
reply_one (Reported r) a b h k =
    let e = listing_law r.graph r.shapes k.0 h.0 k.1 h.1 in
    k.2 ∙ (ap (λ (rows : List ResultRow). codes "report " ++ decimal (length rows) ++ codes "\n" ++ report_text r.shapes rows ++ codes "end") e ∙ sym h.2)
reply_one r a b h k = k ∙ sym h

replies_one : (rs : List SessionReply) (a b : List ℕ) → AreReplyLines rs a → AreReplyLines rs b → b ≡ a
replies_one [] a b h k = k ∙ sym h
replies_one (r ∷ rs) a b h k =
    let one = reply_one r h.0 k.0 h.2 k.2 in
    let rest = replies_one rs h.1 k.1 h.3 k.3 in
    k.4 ∙ ((λ i. line (one i) ++ rest i) ∙ sym h.4)

pub sessions_one : (i : ℕ) (all : List (List SessionReply)) (a b : List ℕ) → AreSessionLines i all a → AreSessionLines i all b → b ≡ a
sessions_one i [] a b h k = k ∙ sym h
sessions_one i (x ∷ all) a b h k =
    let one = replies_one x h.0 k.0 h.2 k.2 in
    let rest = sessions_one (i + 1) all h.1 k.1 h.3 k.3 in
    k.4 ∙ ((λ j. session_line i ++ (one j ++ rest j)) ∙ sym h.4)
