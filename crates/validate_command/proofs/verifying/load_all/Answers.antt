use Rattle.std.proofs.Common.{refl}
use Rattle.input_files.specs.Loads.{Loads}
use Rattle.validate_command.proofs.ThreeFiles.{all_texts, graphs_stop, third_file}
use Rattle.validate_command.proofs.verifying.load_all.Goals as goal

pub returns-in-Err : goal.returns-in-Err
returns-in-Err g c = λ refused. graphs_stop _ _ _ _ c.in-Err.fault c.in-Err.ensures.fault (c.in-Err.ensures.answer refused)

pub returns-in-Err-load_file : goal.returns-in-Err-load_file
returns-in-Err-load_file g c = λ refused.
    let h = c.in-Ok.ensures.answer refused in
    third_file _ _ _ _ _ _ _ _ _ c.load_texts.ensures.holds c.as_str.ensures h.0 h.1 _ c.in-Err-load_file.fault c.file_fault.ensures refl (c.in-Err-load_file.ensures.answer refused)

pub returns : goal.returns
returns g c = λ refused.
    let h = c.in-Ok.ensures.answer refused in
    let k = c.in-Ok-load_file.ensures.answer refused in
    let before : Loads = record { loaded = g.F.Files.loaded c.args.files.now; failed = g.F.Files.failed c.args.files.now; refused = refused } in
    let mid : Loads = record { loaded = g.F.Files.loaded c.load_texts.new.files; failed = g.F.Files.failed c.load_texts.new.files; refused = refused } in
    let after : Loads = record { loaded = g.F.Files.loaded c.load_file.new.files; failed = g.F.Files.failed c.load_file.new.files; refused = refused } in
    all_texts _ _ _ _ _ _ before mid after c.load_texts.ensures.holds c.as_str.ensures h.0 h.1 _ k.0 k.1 k.2
