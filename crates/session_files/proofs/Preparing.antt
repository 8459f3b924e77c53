-- Session files that were loaded, and those whose blocks were read: the sessions that they hold.
use Rattle.std.proofs.Common.{◌≡◌, ◌∙◌, ℕ, suc, ◌+◌, ◌<◌, false, List, [], ◌∷◌, Option, length, get_or, refl, sym, subst, arith}
use Rattle.std.specs.Prelude.{IfOk, Result, Ok, Err, map}
use Rattle.std.specs.List.{All, list_any}
use Rattle.std.proofs.lemmas.List.Elements.{All-cons, All-nil}
use Rattle.std.specs.declared.alloc.AllocError.{AllocError}
use Rattle.outside.specs.Faults.{Refusal}
use Rattle.outside.specs.Files.{Contents}
use Rattle.input_files.specs.Lengths.{room}
use Rattle.session_model.specs.declared.command.Command.{Command}
use Rattle.session_reader.specs.declared.read_command.ReadCommand.{ReadCommand}
use Rattle.session_reader.specs.Checking.{AreChecked}
use Rattle.session_reader.specs.Faults.{Fails, MakesNone}
use Rattle.session_reader.specs.declared.prepare_fault.PrepareFault.{PrepareFault}
use Rattle.session_reader.specs.declared.prepare_fault.PrepareFault.TheVariants as prepare
use Rattle.session_reader.specs.LineCheck.{HasNoCommands, is_of_shapes}
use Rattle.session_reader.specs.SessionFile.{session_of}
use Rattle.session_reader.proofs.Unshaped.{checked_alike, some_checked}
use Rattle.session_files.specs.declared.reading.SessionText.{SessionText}
use Rattle.session_files.specs.declared.reading.LoadedFile.{LoadedFile}
use Rattle.session_files.specs.declared.reading.LoadedFile.TheVariants.{Prepared, Unread}
use Rattle.session_files.specs.declared.fault.RunFault.{RunFault}
use Rattle.session_files.specs.Faults.{Unread as IsUnread}
use Rattle.session_files.specs.Loading.{HoldsSession, HoldSessions, first_of}
use Rattle.session_files.specs.Reading.{AreFinished, AreRead, HoldFiles, HoldsFile, IsRead, IsReadableText, IsText, of_session, prepared_of, texts_of}

-- the bytes of a text are within their length
within : (t : SessionText) (i n : ℕ) (bytes : List ℕ) → IsText t i n bytes → length bytes < room
within t i n bytes text = subst (λ (xs : List ℕ). length xs < room) text.are_bytes text.readable.short

module _ (held : Option Contents) (firsts : List ℕ) where
  -- a file that was loaded holds a session, whether or not its blocks were read
  session_of_file : (i : ℕ) (name : List ℕ) (file : LoadedFile) (old new : List Refusal) → HoldsFile held firsts i name file old new → (commands : List Command) × HoldsSession held firsts i name commands old new
  session_of_file i name (Prepared commands) old new h = (commands, h)
  session_of_file i name (Unread t) old new h =
      let text = h.2.0 in
      let given = text.lines i (first_of firsts i) in
      let some = some_checked given.0 given.2 in
      (some.0, (h.0, h.1, (within t i (first_of firsts i) h.0 text, (given.0, given.1, subst (λ (xs : List Refusal). AreChecked given.0 some.0 old xs) (sym h.2.1) (some.1 old)))))

  pub sessions_of : (i : ℕ) (names : List (List ℕ)) (files : List LoadedFile) (old new : List Refusal) → HoldFiles held firsts i names files old new → (all : List (List Command)) × HoldSessions held firsts i names all old new
  sessions_of i [] [] old new h = ([], h)
  sessions_of i [] (file ∷ files) old new h = absurd h
  sessions_of i (name ∷ names) [] old new h = absurd h
  sessions_of i (name ∷ names) (file ∷ files) old new h =
      let one = session_of_file i name file old h.0 h.1 in
      let more = sessions_of (i + 1) names files h.0 new h.2 in
      (one.0 ∷ more.0, (h.0, one.1, more.1))

  -- the blocks of each that is still to be read may be
  pub texts_readable : (i : ℕ) (names : List (List ℕ)) (files : List LoadedFile) (old new : List Refusal) → HoldFiles held firsts i names files old new → All IsReadableText (texts_of files)
  texts_readable i [] [] old new h = All-nil IsReadableText
  texts_readable i [] (file ∷ files) old new h = absurd h
  texts_readable i (name ∷ names) [] old new h = absurd h
  texts_readable i (name ∷ names) (Prepared commands ∷ files) old new h = texts_readable (i + 1) names files h.0 new h.2
  texts_readable i (name ∷ names) (Unread t ∷ files) old new h = All-cons IsReadableText t (texts_of files) h.1.2.0.readable (texts_readable (i + 1) names files h.0 new h.2)

  -- the commands that were read of a text are those that its lines promise
  read_alike : (t : SessionText) (i n : ℕ) (bytes : List ℕ) (commands : List ReadCommand) → IsText t i n bytes → session_of t.session t.first t.bytes.items ≡ Ok commands → (session_of i n bytes ≡ Ok commands) × (list_any is_of_shapes commands ≡ false)
  read_alike t i n bytes commands text is =
      let here : session_of i n bytes ≡ Ok commands = (λ k. session_of (sym text.is_session k) (sym text.is_first k) (sym text.are_bytes k)) ∙ is in
      let given = text.lines i n in
      let same : Ok given.0 ≡ Ok commands = sym given.1 ∙ here in
      let alike : given.0 ≡ commands = cc in
      (here, subst (λ (rs : List ReadCommand). list_any is_of_shapes rs ≡ false) alike given.2)

  -- its blocks were read and its commands checked, after all files were loaded
  text_finished : (i : ℕ) (name : List ℕ) (t : SessionText) (read : List ReadCommand) (commands : List Command) (old mid last new : List Refusal) → HoldsFile held firsts i name (Unread t) old mid → session_of t.session t.first t.bytes.items ≡ Ok read → AreChecked read commands last new
      → (new ≡ last) × HoldsSession held firsts i name commands old mid
  text_finished i name t read commands old mid last new h is done =
      let text = read_alike t i (first_of firsts i) h.0 read h.2.0 is in
      let checked = checked_alike read commands last new text.1 done in
      (checked.0, (h.0, h.1, (within t i (first_of firsts i) h.0 h.2.0, (read, text.0, subst (λ (xs : List Refusal). AreChecked read commands old xs) (sym h.2.1) (checked.1 old)))))

  pub files_finished : (i : ℕ) (names : List (List ℕ)) (files : List LoadedFile) (rs : List (Result (List ReadCommand) AllocError)) (all : List (List Command)) (old mid last new : List Refusal) → HoldFiles held firsts i names files old mid → AreRead (texts_of files) rs
      → AreFinished (map prepared_of files) rs all last new → (new ≡ last) × HoldSessions held firsts i names all old mid
  files_finished i [] [] rs [] old mid last new h are done = (done, h)
  files_finished i [] [] rs (commands ∷ all) old mid last new h are done = absurd done
  files_finished i [] (file ∷ files) rs all old mid last new h are done = absurd h
  files_finished i (name ∷ names) [] rs all old mid last new h are done = absurd h
  files_finished i (name ∷ names) (file ∷ files) rs [] old mid last new h are done = absurd done
  files_finished i (name ∷ names) (Prepared before ∷ files) rs (commands ∷ all) old mid last new h are done =
      let more = files_finished (i + 1) names files done.0 all h.0 mid done.1 new h.2 (subst (AreRead (texts_of files)) (sym done.2.1) are) done.3 in
      (more.0 ∙ done.2.2, (h.0, subst (λ (cs : List Command). HoldsSession held firsts i name cs old h.0) (sym done.2.0) h.1, more.1))
  files_finished i (name ∷ names) (Unread t ∷ files) rs (commands ∷ all) old mid last new h are done =
      let both = subst (AreRead (t ∷ texts_of files)) done.2.1 are in
      let one = text_finished i name t done.2.0 commands old h.0 last done.1 h.1 both.0 done.2.2 in
      let more = files_finished (i + 1) names files done.0 all h.0 mid done.1 new h.2 both.1 done.3 in
      (more.0 ∙ one.0, (h.0, one.1, more.1))

-- what each thread read
pub each_read : (ts : List SessionText) (rs : List (Result (List ReadCommand) AllocError)) → length rs ≡ length ts → ((i : ℕ) (d : Result (List ReadCommand) AllocError) (t : SessionText) → i < length ts → IsRead (get_or ts i t) (get_or rs i d)) → AreRead ts rs
each_read [] [] len each = tt
each_read [] (r ∷ rs) len each = absurd (omega (arith, len))
each_read (t ∷ ts) [] len each = absurd (omega (arith, len))
each_read (t ∷ ts) (r ∷ rs) len each = (each 0 r t (omega arith), each_read ts rs (omega (arith, len)) (λ i d e lt. each (suc i) d e (omega (arith, lt))))

-- what two facts of a value tell of it, if it came
pub if_both : {X E : Type 0} (r : Result X E) (P Q R : X → Type 0) → ((x : X) → P x → Q x → R x) → IfOk r P → IfOk r Q → IfOk r R
if_both (Ok x) P Q R from p q = from x p q
if_both (Err e) P Q R from p q = tt

-- why the bytes of a file give no session
pub unread_bytes : (f : PrepareFault) (s : RunFault) (i n : ℕ) (bytes : List ℕ) (old new : List Refusal) → length bytes < room → s ≡ of_session f i → Fails f (session_of i n bytes) → MakesNone f old new → IsUnread s i n bytes old new
unread_bytes (prepare.Line k) s i n bytes old new short e h none = subst (λ (x : RunFault). IsUnread x i n bytes old new) (sym e) (refl, (short, h), none)
unread_bytes prepare.Memory s i n bytes old new short e h none = subst (λ (x : RunFault). IsUnread x i n bytes old new) (sym e) tt

-- or its lines do
pub unread_lines : (f : PrepareFault) (s : RunFault) (i n : ℕ) (bytes : List ℕ) (old : List Refusal) → length bytes < room → s ≡ of_session f i → HasNoCommands f bytes → IsUnread s i n bytes old old
unread_lines (prepare.Line k) s i n bytes old short e h = unread_bytes (prepare.Line k) s i n bytes old old short e (h i n) refl
unread_lines prepare.Memory s i n bytes old short e h = unread_bytes prepare.Memory s i n bytes old old short e tt tt
