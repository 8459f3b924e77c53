use Rattle.std.proofs.Common.{◌≡◌, ◌∙◌, get_or, subst, sym}
use Rattle.std.specs.Vec.{vec_len}
use Rattle.session_files.specs.declared.reading.SessionText.{SessionText}
use Rattle.session_files.specs.Reading.{AreRead, IsRead}
use Rattle.session_files.proofs.Preparing.{each_read, if_both}
use Rattle.session_files.proofs.reading.read_texts.Goals as goal

pub returns : goal.returns
returns g c =
    let texts = c.args.texts in
    if_both c.map_vec.result (λ read. vec_len read ≡ vec_len texts) _ (λ read. AreRead texts.items read.items)
    (λ read len each. each_read texts.items read.items (sym read.ok.0 ∙ (len ∙ texts.ok.0))
    (λ i d t lt. let job = (each i d lt).1 in subst (λ (text : SessionText). IsRead text (get_or read.items i d)) (sym (job.job_is t)) job.call.met))
    c.map_vec.ensures.len c.map_vec.ensures.each
