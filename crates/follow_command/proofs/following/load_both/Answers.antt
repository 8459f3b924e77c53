use Rattle.follow_command.proofs.Stopping.{both_texts, first_file, of_a_file, second_file}
use Rattle.follow_command.proofs.following.load_both.Goals as goal

pub returns-in-Err-clause-answer : goal.returns-in-Err-clause-answer
returns-in-Err-clause-answer g c = λ refused. first_file _ c.in-Err.fault _ _ _ _ _ c.file_fault.ensures c.as_str.ensures (c.in-Err.ensures.answer refused)

pub returns-in-Err-load_file-clause-answer : goal.returns-in-Err-load_file-clause-answer
returns-in-Err-load_file-clause-answer g c = λ refused.
    let h = c.in-Ok.ensures.answer refused in
    second_file _ c.in-Err-load_file.fault _ _ _ _ _ _ _ _ _ c.file_fault-in-Err-load_file.ensures c.load_file.ensures.holds c.as_str.ensures c.as_str-2.ensures h.0 h.1 h.2 (c.in-Err-load_file.ensures.answer refused)

pub returns-clause-answer : goal.returns-clause-answer
returns-clause-answer g c = λ refused.
    let h = c.in-Ok.ensures.answer refused in
    let k = c.in-Ok-load_file.ensures.answer refused in
    both_texts _ _ c.args.followed.now _ _ _ _ _ _ _ _ _ _ c.load_file.ensures.holds c.as_str.ensures c.as_str-2.ensures h.0 h.1 h.2 k.0 k.1 k.2

pub returns-in-Err-clause-fault : goal.returns-in-Err-clause-fault
returns-in-Err-clause-fault g c = of_a_file c.in-Err.fault _ _ c.file_fault.ensures

pub returns-in-Err-load_file-clause-fault : goal.returns-in-Err-load_file-clause-fault
returns-in-Err-load_file-clause-fault g c = of_a_file c.in-Err-load_file.fault _ _ c.file_fault-in-Err-load_file.ensures
