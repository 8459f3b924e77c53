-- What readings give can be written and read again; its blank nodes have numbers from the first on, below the next.
use Rattle.std.proofs.Common.{◌≡◌, ℕ, zero, suc, ◌+◌, ◌-◌, ◌<◌, ◌≤◌, Bool, true, false, cond, List, [], ◌∷◌, ◌++◌, drop, Ok, Err, Some, None, Option, Result, refl, ap, arith}
use Rattle.std.specs.Prelude.{IfOk, IfSome, codes, bytes_eq}
use Rattle.std.specs.List.{AllByRecursion, list_all}
use Rattle.std.specs.Str.{IsUtf8}
use Rattle.std.specs.Map.{lookup}
use lib.Utf8.{encodes, scalars}
use Rattle.indexmap.specs.IndexMap.{insert_entry}
use Rattle.rdf_model.specs.declared.term.Term.{Term}
use Rattle.rdf_model.specs.declared.term.Term.TheVariants.{Blank, Iri, Literal}
use Rattle.rdf_model.specs.declared.triple.Triple.{Triple}
use Rattle.literal_order.specs.Values.{reading, profile}
use Rattle.literal_order.specs.Datatypes.{datatype_of, local_datatype}
use Rattle.rdf_lexical.specs.Meanings.{iri_text, string_value}
use Rattle.rdf_lexical.specs.Productions.{IsIriRef, IsLanguageTag}
use Rattle.rdf_lexical.specs.declared.refusal.RefusalKind.{RefusalKind}
use Rattle.rdf_lexical.specs.declared.refusal.RefusalKind.TheVariants.{UnexpectedToken, UndeclaredPrefix, RelativeIri}
use Rattle.turtle_lex.specs.declared.token.Token.{Token}
use Rattle.turtle_lex.specs.declared.token.LexFault.{LexFault}
use Rattle.turtle_lex.specs.declared.token.TokenKind.{TokenKind}
use Rattle.turtle_lex.specs.declared.token.TokenKind.TheVariants.{IriRef, PrefixName, PrefixedName, BlankNodeLabel, LanguageTag, Integer, Decimal, Double, StringLiteral, OpenBracket, OpenParenthesis, A, True, False, Prefix, Base, AtPrefix, AtBase}
use Rattle.turtle_lex.specs.Meanings.{token_text}
use Rattle.turtle_lex.specs.Tokens.{next_token}
use Rattle.turtle_lex.specs.Productions.{IsToken, IsNextToken}
use Rattle.turtle_lex.proofs.TokenLaws.{next_is_longest}
use Rattle.ntriples_text.specs.Grammar.{kept}
use Rattle.ntriples_text.specs.Laws.{IsIriText, IsReadableSubject, IsReadableIri, IsReadableObject, IsReadable, IsWithin}
use Rattle.ntriples_text.proofs.Gives.{tag_of, scalars_take, scalars_drop}
use Rattle.turtle_reader.specs.declared.state.State.{State}
use Rattle.turtle_reader.specs.Parsers.{Outcome, Parser, and_then, ◌>>=◌, give, refuse, left, repeated, many}
use Rattle.turtle_reader.specs.Tokens
use Rattle.turtle_reader.specs.Tokens.{next, next_of, is_next, expected, where_next}
use Rattle.turtle_reader.specs.Terms
use Rattle.turtle_reader.specs.Grammar
use Rattle.turtle_reader.proofs.IriTexts.{stands, iri_ref_text, in_base_text, name_stands, prefixed_stands, named_text, string_text}
use Rattle.turtle_reader.proofs.Vocabulary.{xsd_integer_text, xsd_decimal_text, xsd_double_text, xsd_boolean_text, xsd_string_text, rdf_type_text, rdf_first_text, rdf_rest_text, rdf_nil_subject, rdf_nil_object}

all_more : {X : Type 0} (P Q : X → Type 0) (xs : List X) → ((x : X) → P x → Q x) → AllByRecursion P xs → AllByRecursion Q xs
all_more P Q [] h a = tt
all_more P Q (x ∷ xs) h a = (h x a.0, all_more P Q xs h a.1)

all_push : {X : Type 0} (P : X → Type 0) (xs : List X) (x : X) → AllByRecursion P xs → P x → AllByRecursion P (xs ++ x ∷ [])
all_push P [] x a p = (p, tt)
all_push P (y ∷ ys) x a p = (a.0, all_push P ys x a.1 p)

abbrev Entry : Type 0 → Type 0
Entry V = List ℕ × V

all_inserted : {V : Type 0} (P : V → Type 0) (key : List ℕ) (v : V) (es : List (Entry V)) → AllByRecursion (λ (e : Entry V). P e.1) es → P v → AllByRecursion (λ (e : Entry V). P e.1) (insert_entry bytes_eq es key v)
all_inserted P key v [] a p = (p, tt)
all_inserted {V = V} P key v (e ∷ es) a p = elim (bytes_eq key e.0) as (λ b. AllByRecursion (λ (e : Entry V). P e.1) (cond b ((e.0, v) ∷ es) (e ∷ insert_entry bytes_eq es key v))) [
  | true ↦ (p, a.1)
  | false ↦ (a.0, all_inserted P key v es a.1 p)
]

all_looked : {V : Type 0} (P : V → Type 0) (test : List ℕ → Bool) (es : List (Entry V)) → AllByRecursion (λ (e : Entry V). P e.1) es → IfSome (lookup test es) P
all_looked P test [] a = tt
all_looked P test (e ∷ es) a = elim (test e.0) as (λ b. IfSome (cond b (Some e.1) (lookup test es)) P) [
  | true ↦ a.0
  | false ↦ all_looked P test es a.1
]

module _ (session first : ℕ) (text : List ℕ) (are : scalars text ≡ true) where
  abbrev IsNode : ℕ → ℕ → ℕ → Type 0
  IsNode next s n = IsWithin session first next s n

  abbrev W : Term → ℕ → Type 0
  W t n = IsReadableObject (IsNode n) t

  abbrev S : Term → ℕ → Type 0
  S t n = IsReadableSubject (IsNode n) t

  abbrev P : Term → ℕ → Type 0
  P t n = IsReadableIri t

  abbrev I : List ℕ → ℕ → Type 0
  I a n = IsIriText a

  -- a token of the text
  abbrev IsLexed : Token → Type 0
  IsLexed t = (m : Bool) × IsToken m t.kind (token_text text t)

  abbrev L : Token → ℕ → Type 0
  L t n = IsLexed t

  abbrev Any : {X : Type 0} → X → ℕ → Type 0
  Any x n = Unit {0}

  abbrev Number : ℕ → ℕ → Type 0
  Number next n = (first ≤ n) × (n < next)

  within_more : (t : Term) (n m : ℕ) → n ≤ m → W t n → W t m
  within_more (Blank s k) n m le h = (h.0, h.1, omega (arith, le, h.2))
  within_more (Iri a) n m le h = h
  within_more (Literal a b None) n m le h = h
  within_more (Literal a b (Some c)) n m le h = h

  subject_more : (t : Term) (n m : ℕ) → n ≤ m → S t n → S t m
  subject_more (Blank s k) n m le h = (h.0, h.1, omega (arith, le, h.2))
  subject_more (Iri a) n m le h = h
  subject_more (Literal a b c) n m le h = h

  subject_within : (t : Term) (n : ℕ) → S t n → W t n
  subject_within (Blank s k) n h = h
  subject_within (Iri a) n h = h
  subject_within (Literal a b c) n h = absurd h

  triple_more : (n m : ℕ) → n ≤ m → (t : Triple) → IsReadable (IsNode n) t → IsReadable (IsNode m) t
  triple_more n m le t h = record { subject = subject_more t.subject n m le h.subject; predicate = h.predicate; object = within_more t.object n m le h.object }

  -- what holds of a state
  pub record Fine (s : State) : Type 0 where
    pub ahead-is : IfOk s.ahead (λ o. IfSome o IsLexed)
    pub prefixes-are : AllByRecursion (λ (e : Entry (List ℕ)). IsIriText e.1) s.prefixes
    pub base-is : IfSome s.base IsIriText
    pub session-is : s.session ≡ session
    pub first-is : first ≤ s.next
    pub labels-are : AllByRecursion (λ (e : Entry ℕ). Number s.next e.1) s.labels
    pub triples-are : AllByRecursion (IsReadable (IsNode s.next)) s.triples

  fine_next : (s : State) → Fine s → Fine (record s { next = s.next + 1 })
  fine_next s f = record {
    ahead-is = f.ahead-is;
    prefixes-are = f.prefixes-are;
    base-is = f.base-is;
    session-is = f.session-is;
    first-is = omega (arith, f.first-is);
    labels-are = all_more (λ (e : Entry ℕ). Number s.next e.1) (λ (e : Entry ℕ). Number (s.next + 1) e.1) s.labels (λ e h. (h.0, omega (arith, h.1))) f.labels-are;
    triples-are = all_more (IsReadable (IsNode s.next)) (IsReadable (IsNode (s.next + 1))) s.triples (triple_more s.next (s.next + 1) (omega arith)) f.triples-are;
  }

  -- what holds behind a reading
  pub record Reached {X : Type 0} (low : ℕ) (Q : X → ℕ → Type 0) (r : X × State) : Type 0 where
    pub fine : Fine r.1
    pub rises : low ≤ r.1.next
    pub is : Q r.0 r.1.next

  abbrev After : {X : Type 0} → ℕ → (X → ℕ → Type 0) → Outcome X → Type 0
  After low Q o = IfOk o (Reached low Q)

  abbrev Sound : {X : Type 0} → ℕ → (X → ℕ → Type 0) → Parser X → Type 0
  Sound low Q f = (s : State) → Fine s → low ≤ s.next → After s.next Q (f s)

  after_more : {X : Type 0} (low high : ℕ) (Q : X → ℕ → Type 0) (o : Outcome X) → low ≤ high → After high Q o → After low Q o
  after_more low high Q (Ok r) le h = record { fine = h.fine; rises = omega (arith, le, h.rises); is = h.is }
  after_more low high Q (Err e) le h = tt

  then_after : {X Y : Type 0} (low : ℕ) (Q : X → ℕ → Type 0) (R : Y → ℕ → Type 0) (o : Outcome X) (g : X → Parser Y) → After low Q o → ((x : X) (t : State) → Fine t → low ≤ t.next → Q x t.next → After low R (g x t)) → After low R (and_then o g)
  then_after low Q R (Ok r) g h k = k r.0 r.1 h.fine h.rises h.is
  then_after low Q R (Err e) g h k = tt

  sound_then : {X Y : Type 0} (low : ℕ) (Q : X → ℕ → Type 0) (R : Y → ℕ → Type 0) (f : Parser X) (g : X → Parser Y) → Sound low Q f → ((x : X) (n : ℕ) → low ≤ n → Q x n → Sound n R (g x)) → Sound low R (f >>= g)
  sound_then low Q R f g hf hg s fine le = then_after s.next Q R (f s) g (hf s fine le) (λ x t ft up q. after_more s.next t.next R (g x t) up (hg x t.next (omega (arith, le, up)) q t ft (omega arith)))

  free : {X : Type 0} (low : ℕ) (Q : X → ℕ → Type 0) (f : Parser X) → Sound 0 Q f → Sound low Q f
  free low Q f h s fine le = h s fine (omega arith)

  weak : {X : Type 0} (low : ℕ) (Q R : X → ℕ → Type 0) (f : Parser X) → ((x : X) (n : ℕ) → Q x n → R x n) → Sound low Q f → Sound low R f
  weak {X = X} low Q R f h k s fine le = by (f s) (k s fine le)
    where
      by : (o : Outcome X) → After s.next Q o → After s.next R o
      by (Ok r) a = record { fine = a.fine; rises = a.rises; is = h r.0 r.1.next a.is }
      by (Err e) a = tt

  -- what holds of the next number from here on
  carry : {X : Type 0} (m : ℕ) (R : ℕ → Type 0) (f : Parser X) → ((k : ℕ) → m ≤ k → R k) → Sound m Any f → Sound m (λ x k. R k) f
  carry {X = X} m R f h k s fine le = by (f s) (k s fine le)
    where
      by : (o : Outcome X) → After s.next Any o → After s.next (λ x k. R k) o
      by (Ok r) a = record { fine = a.fine; rises = a.rises; is = h r.1.next (omega (arith, le, a.rises)) }
      by (Err e) a = tt

  sound_give : {X : Type 0} (low : ℕ) (Q : X → ℕ → Type 0) (x : X) → ((n : ℕ) → low ≤ n → Q x n) → Sound low Q (give x)
  sound_give low Q x h s fine le = record { fine = fine; rises = omega arith; is = h s.next le }

  sound_where : {X : Type 0} (low : ℕ) (Q : X → ℕ → Type 0) (test : TokenKind → Bool) (f g : Parser X) → Sound low Q f → Sound low Q g → Sound low Q (where_next test f g)
  unfolding where_next
  sound_where {X = X} low Q test f g hf hg s fine le = elim (is_next test s) as (λ b. After s.next Q ((let h : Parser X = cond b f g in h) s)) [ true ↦ hf s fine le | false ↦ hg s fine le ]

  sound_repeated : {X : Type 0} (low : ℕ) (Q : X → ℕ → Type 0) (test : State → Bool) (body : X → Parser X) → ((x : X) (n m : ℕ) → n ≤ m → Q x n → Q x m)
      → ((x : X) (n : ℕ) → Q x n → Sound n Q (body x)) → (k : ℕ) (x : X) (n : ℕ) → Q x n → Sound n Q (repeated k test body x)
  sound_repeated low Q test body up each zero x n q s fine le = record { fine = fine; rises = omega arith; is = up x n s.next le q }
  sound_repeated low Q test body up each (suc k) x n q s fine le = elim (test s) as (λ b. After s.next Q (cond b (and_then (body x s) (repeated k test body)) (Ok (x, s)))) [
    | true ↦ sound_then n Q Q (body x) (repeated k test body) (each x n q) (λ y m l p. sound_repeated low Q test body up each k y m p) s fine le
    | false ↦ record { fine = fine; rises = omega arith; is = up x n s.next le q }
  ]

  sound_many : {X : Type 0} (Q : X → ℕ → Type 0) (test : State → Bool) (body : X → Parser X) → ((x : X) (n m : ℕ) → n ≤ m → Q x n → Q x m)
      → ((x : X) (n : ℕ) → Q x n → Sound n Q (body x)) → (x : X) (n : ℕ) → Q x n → Sound n Q (many text test body x)
  unfolding many
  sound_many Q test body up each x n q s = sound_repeated n Q test body up each (suc (left text s)) x n q s

  -- tokens

  lexed_ahead : (m : Bool) (r : Result (Option Token) LexFault) → IfOk r (λ o. IfSome o (IsNextToken m text)) → IfOk r (λ o. IfSome o IsLexed)
  lexed_ahead m (Ok (Some t)) h = (m, h.is)
  lexed_ahead m (Ok None) h = tt
  lexed_ahead m (Err e) h = tt

  pub next_lexed : (at : ℕ) (m : Bool) → IfOk (next_token text at m) (λ o. IfSome o IsLexed)
  next_lexed at m = lexed_ahead m (next_token text at m) (next_is_longest m text at)

  -- behind a token
  fine_past : (t : Token) (s : State) → Fine s → Fine (record s { ahead = next_token text t.end.at (Tokens.is_string t.kind) })
  fine_past t s f = record { ahead-is = next_lexed t.end.at (Tokens.is_string t.kind); prefixes-are = f.prefixes-are; base-is = f.base-is; session-is = f.session-is; first-is = f.first-is; labels-are = f.labels-are; triples-are = f.triples-are }

  token_scalars : (t : Token) → scalars (token_text text t) ≡ true
  token_scalars t = scalars_take (t.end.at - t.start.at) (drop t.start.at text) (scalars_drop t.start.at text are)

  sound_next_of : (a : Result (Option Token) LexFault) (s : State) → Fine s → IfOk a (λ o. IfSome o IsLexed) → After s.next L (next_of text a s)
  sound_next_of (Ok (Some t)) s f h = record { fine = fine_past t s f; rises = omega arith; is = h }
  sound_next_of (Ok None) s f h = tt
  sound_next_of (Err e) s f h = tt

  sound_next : (low : ℕ) → Sound low L (next text)
  unfolding next
  sound_next low s fine le = sound_next_of s.ahead s fine fine.ahead-is

  sound_expected : (low : ℕ) (test : TokenKind → Bool) → Sound low Any (expected text test)
  unfolding expected
  sound_expected low test = sound_then low L Any (next text) _ (sound_next low) (λ t n le q s fine up. elim (test t.kind) as (λ b. After s.next Any ((let h : Parser Token = cond b (give t) (refuse t.start.line UnexpectedToken) in h) s)) [ true ↦ record { fine = fine; rises = omega arith; is = tt } | false ↦ tt ])

  -- terms

  sound_or_refuse : (line : ℕ) (kind : RefusalKind) (o : Option (List ℕ)) (s : State) → Fine s → IfSome o IsIriText → After s.next I (Terms.or_refuse line kind o s)
  sound_or_refuse line kind (Some x) s fine h = record { fine = fine; rises = omega arith; is = h }
  sound_or_refuse line kind None s fine h = tt

  sound_resolved : (low : ℕ) (t : Token) → IsIriRef (token_text text t) → Sound low I (Terms.resolved_iri text t)
  sound_resolved low t h s fine le =
      let a = iri_ref_text (token_text text t) (token_scalars t) h in
      sound_or_refuse t.start.line RelativeIri (Terms.in_base s.base (iri_text (token_text text t))) s fine (in_base_text s.base (iri_text (token_text text t)) fine.base-is a.0 a.1)

  sound_prefixed : (low : ℕ) (t : Token) → list_all stands (token_text text t) ≡ true → Sound low I (Terms.prefixed_iri text t)
  sound_prefixed low t h = sound_then {X = List ℕ} {Y = List ℕ} low I I _ _
      (λ s fine le. sound_or_refuse t.start.line UndeclaredPrefix (lookup (bytes_eq (Terms.prefix_of text t)) s.prefixes) s fine (all_looked IsIriText (bytes_eq (Terms.prefix_of text t)) s.prefixes fine.prefixes-are))
      (λ iri n le q. sound_give n I (iri ++ Terms.local_of text t) (λ m l. named_text iri (token_text text t) q (token_scalars t) h))

  sound_iri_of : (low : ℕ) (k : TokenKind) (m : Bool) (t : Token) → IsToken m k (token_text text t) → Sound low I (Terms.iri_of k text t)
  sound_iri_of low IriRef m t h = sound_resolved low t h
  sound_iri_of low PrefixName m t h = sound_prefixed low t (name_stands (token_text text t) h)
  sound_iri_of low PrefixedName m t h = sound_prefixed low t (prefixed_stands (token_text text t) h)
  sound_iri_of low _ m t h = λ s fine le. tt

  sound_iri : (low : ℕ) (t : Token) → IsLexed t → Sound low I (Terms.iri text t)
  unfolding Terms.iri
  sound_iri low t h = sound_iri_of low t.kind h.0 t h.1

  -- an IRI may stand everywhere
  sound_term : (low : ℕ) (Q : Term → ℕ → Type 0) (t : Token) → ((a : List ℕ) (n : ℕ) → IsIriText a → Q (Iri a) n) → IsLexed t → Sound low Q (Grammar.iri_term text t)
  sound_term low Q t h lexed = sound_then low I Q (Terms.iri text t) _ (sound_iri low t lexed) (λ iri n le q. sound_give n Q (Iri iri) (λ m l. h iri m q))

  sound_fresh : (low : ℕ) → Sound low S Terms.fresh
  unfolding Terms.fresh
  sound_fresh low s f le = record { fine = fine_next s f; rises = omega arith; is = (f.session-is, f.first-is, omega arith) }

  sound_node : (o : Option ℕ) (label : List ℕ) (s : State) → Fine s → IfSome o (Number s.next) → After s.next S (Terms.node_of_label o label s)
  sound_node (Some n) label s f h = record { fine = f; rises = omega arith; is = (f.session-is, h.0, h.1) }
  sound_node None label s f h =
      let up = fine_next s f in
      record {
        fine = record { ahead-is = up.ahead-is; prefixes-are = up.prefixes-are; base-is = up.base-is; session-is = up.session-is; first-is = up.first-is; labels-are = all_inserted (Number (s.next + 1)) label s.next s.labels up.labels-are (f.first-is, omega arith); triples-are = up.triples-are };
        rises = omega arith;
        is = (f.session-is, f.first-is, omega arith);
      }

  sound_labelled : (low : ℕ) (t : Token) → Sound low S (Terms.labelled text t)
  unfolding Terms.labelled
  sound_labelled low t s f le = sound_node (lookup (bytes_eq (Terms.label_of text t)) s.labels) (Terms.label_of text t) s f (all_looked (Number s.next) (bytes_eq (Terms.label_of text t)) s.labels f.labels-are)

  -- a literal with a datatype
  sound_kept : (low line : ℕ) (a b : List ℕ) → IsUtf8 a → IsIriText b → Sound low W (Terms.kept line (Literal a b None))
  unfolding Terms.kept
  sound_kept low line a b utf8 iri s f le =
      elim (profile (Literal a b None)) as (λ o. profile (Literal a b None) ≡ o → After s.next W (Terms.kept_by o line (Literal a b None) s)) [
        | None ↦ λ e. record { fine = f; rises = omega arith; is = (utf8, iri, ap (λ o. kept o (Literal a b None)) e) }
        | Some n ↦ λ e. tt
      ] refl

  sound_plain : (low : ℕ) (t : Token) (word : List ℕ) → IsIriText (Terms.xsd word) → Sound low W (Terms.plain text (Terms.xsd word) t)
  sound_plain low t word iri = sound_kept low t.start.line (encodes (token_text text t)) (Terms.xsd word) (token_text text t, (token_scalars t, refl)) iri

  -- or with a tag, where one is ahead
  tag_of_kind : (m : Bool) (k : TokenKind) (cs : List ℕ) → Tokens.is_language_tag k ≡ true → IsToken m k cs → IsLanguageTag cs
  tag_of_kind m LanguageTag cs e h = h.1
  tag_of_kind m _ cs e h = absurd (let bad : false ≡ true = e in cc)

  abbrev tagged_by : List ℕ → Token → Parser Term
  tagged_by value t = give (Literal value (Terms.rdf (codes "langString")) (Some (Terms.tag_of text t)))

  tag_ahead : (a : Result (Option Token) LexFault) (value : List ℕ) (s : State) → IsUtf8 value → Fine s → IfOk a (λ o. IfSome o IsLexed) → Tokens.is_of Tokens.is_language_tag a ≡ true → After s.next W (and_then (next_of text a s) (tagged_by value))
  unfolding Terms.rdf
  tag_ahead (Ok (Some t)) value s utf8 f h e =
      let tag = tag_of (token_text text t) (token_scalars t) (tag_of_kind h.0 t.kind (token_text text t) e h.1) in
      record { fine = fine_past t s f; rises = omega arith; is = (utf8, refl, tag.0, tag.1) }
  tag_ahead (Ok None) value s utf8 f h e = tt
  tag_ahead (Err k) value s utf8 f h e = tt

  sound_tagged : (low : ℕ) (value : List ℕ) (s : State) → IsUtf8 value → Fine s → is_next Tokens.is_language_tag s ≡ true → After s.next W (Terms.tagged text value s)
  unfolding Terms.tagged next is_next
  sound_tagged low value s utf8 f e = tag_ahead s.ahead value s utf8 f f.ahead-is e

  sound_typed : (low : ℕ) (line : ℕ) (value : List ℕ) → IsUtf8 value → Sound low W (Terms.typed text line value)
  unfolding Terms.typed
  sound_typed low line value utf8 = sound_then low L W (next text) _ (sound_next low) (λ u n le q. sound_then n L W (next text) _ (sound_next n)
      (λ t m l p. sound_then m I W (Terms.iri text t) _ (sound_iri m t p) (λ datatype k up r. sound_kept k line value datatype utf8 r)))

  sound_string : (low : ℕ) (value : List ℕ) → IsUtf8 value → Sound low W (give (Literal value (Terms.xsd (codes "string")) None))
  unfolding Terms.xsd reading datatype_of local_datatype
  sound_string low value utf8 = sound_give low W (Literal value (Terms.xsd (codes "string")) None) (λ m l. (utf8, xsd_string_text, refl))

  sound_literal : (low : ℕ) (line : ℕ) (value : List ℕ) → IsUtf8 value → Sound low W (Terms.rdf_literal text line value)
  unfolding where_next
  sound_literal low line value utf8 s f le =
      let other : Parser Term = where_next Tokens.is_carets (Terms.typed text line value) (give (Literal value (Terms.xsd (codes "string")) None)) in
      elim (is_next Tokens.is_language_tag s) as (λ b. is_next Tokens.is_language_tag s ≡ b → After s.next W ((let h : Parser Term = cond b (Terms.tagged text value) other in h) s)) [
        | true ↦ λ e. sound_tagged low value s utf8 f e
        | false ↦ λ e. sound_where low W Tokens.is_carets (Terms.typed text line value) _ (sound_typed low line value utf8) (sound_string low value utf8) s f le
      ] refl

  sound_found : (n : ℕ) (a b c : Term) → S a n → IsReadableIri b → W c n → Sound n Any (Grammar.found a b c)
  unfolding Grammar.found
  sound_found n a b c ha hb hc s f le = record {
    fine = record { ahead-is = f.ahead-is; prefixes-are = f.prefixes-are; base-is = f.base-is; session-is = f.session-is; first-is = f.first-is; labels-are = f.labels-are; triples-are = all_push (IsReadable (IsNode s.next)) s.triples (record { subject = a; predicate = b; object = c }) f.triples-are (record { subject = subject_more a n s.next le ha; predicate = hb; object = within_more c n s.next le hc }) };
    rises = omega arith;
    is = tt;
  }

  sound_verb_of : (low : ℕ) (k : TokenKind) (t : Token) → IsLexed t → Sound low P (Grammar.verb_of k text t)
  sound_verb_of low A t h = sound_give low P Grammar.rdf_type (λ m l. rdf_type_text)
  sound_verb_of low IriRef t h = sound_term low P t (λ a n i. i) h
  sound_verb_of low PrefixName t h = sound_term low P t (λ a n i. i) h
  sound_verb_of low PrefixedName t h = sound_term low P t (λ a n i. i) h
  sound_verb_of low _ t h = λ s fine le. tt

  sound_verb : (low : ℕ) → Sound low P (Grammar.verb text)
  unfolding Grammar.verb
  sound_verb low = sound_then low L P (next text) _ (sound_next low) (λ t n le q. sound_verb_of n t.kind t q)

  any_more : {X : Type 0} (x : X) (n m : ℕ) → n ≤ m → Any x n → Any x m
  any_more x n m le h = tt

  -- the productions with an object in them
  module _ (object : Parser Term) (sound : Sound 0 W object) where
    sound_one : (n : ℕ) (a b : Term) → S a n → IsReadableIri b → Sound n Any (Grammar.one_object object a b)
    sound_one n a b ha hb = sound_then n W Any object (Grammar.found a b) (free n W object sound) (λ c m le hc. sound_found m a b c (subject_more a n m le ha) hb hc)

    sound_comma : (n : ℕ) (a b : Term) → S a n → IsReadableIri b → Sound n Any (next text >>= λ _. Grammar.one_object object a b)
    sound_comma n a b ha hb = sound_then n L Any (next text) _ (sound_next n) (λ t m le q. sound_one m a b (subject_more a n m le ha) hb)

    sound_more_objects : (n : ℕ) (a b : Term) → S a n → IsReadableIri b → Sound n Any (Grammar.more_objects text object a b)
    unfolding Grammar.more_objects
    sound_more_objects n a b ha hb = weak n (λ (x : Unit {0}) m. S a m) Any _ (λ x m h. tt)
        (sound_many (λ (x : Unit {0}) m. S a m) _ (λ x. next text >>= λ _. Grammar.one_object object a b) (λ x k m up h. subject_more a k m up h)
        (λ x m h. carry m (λ k. S a k) _ (λ k up. subject_more a m k up h) (sound_comma m a b h hb)) tt n ha)

    sound_object_list : (n : ℕ) (a b : Term) → S a n → IsReadableIri b → Sound n Any (Grammar.object_list text object a b)
    sound_object_list n a b ha hb = sound_then n Any Any (Grammar.one_object object a b) _ (sound_one n a b ha hb) (λ x m le q. sound_more_objects m a b (subject_more a n m le ha) hb)

    sound_verb_objects : (n : ℕ) (a : Term) → S a n → Sound n Any (Grammar.verb_objects text object a)
    sound_verb_objects n a ha = sound_then n P Any (Grammar.verb text) _ (sound_verb n) (λ b m le hb. sound_object_list m a b (subject_more a n m le ha) hb)

    sound_semicolon : (n : ℕ) (a : Term) → S a n → Sound n Any (next text >>= λ _. where_next Tokens.may_begin_verb (Grammar.verb_objects text object a) (give tt))
    sound_semicolon n a ha = sound_then n L Any (next text) _ (sound_next n)
        (λ t m le q. sound_where m Any Tokens.may_begin_verb (Grammar.verb_objects text object a) (give tt) (sound_verb_objects m a (subject_more a n m le ha)) (sound_give {X = Unit {0}} m Any tt (λ k l. tt)))

    sound_more_verbs : (n : ℕ) (a : Term) → S a n → Sound n Any (Grammar.more_verbs text object a)
    unfolding Grammar.more_verbs
    sound_more_verbs n a ha = weak n (λ (x : Unit {0}) m. S a m) Any _ (λ x m h. tt)
        (sound_many (λ (x : Unit {0}) m. S a m) _ (λ x. next text >>= λ _. where_next Tokens.may_begin_verb (Grammar.verb_objects text object a) (give tt)) (λ x k m up h. subject_more a k m up h)
        (λ x m h. carry m (λ k. S a k) _ (λ k up. subject_more a m k up h) (sound_semicolon m a h)) tt n ha)

    sound_predicates : (n : ℕ) (a : Term) → S a n → Sound n Any (Grammar.predicate_object_list text object a)
    sound_predicates n a ha = sound_then n Any Any (Grammar.verb_objects text object a) _ (sound_verb_objects n a ha) (λ x m le q. sound_more_verbs m a (subject_more a n m le ha))

    sound_property_list : (n : ℕ) (a : Term) → S a n → Sound n S (Grammar.property_list text object a)
    sound_property_list n a ha = sound_then n Any S (Grammar.predicate_object_list text object a) _ (sound_predicates n a ha)
        (λ x m le q. sound_then m Any S (expected text Tokens.is_close_bracket) _ (sound_expected m Tokens.is_close_bracket)
        (λ t k up r. sound_give k S a (λ l over. subject_more a n l (omega (arith, le, up, over)) ha)))

    sound_square : Sound 0 S (Grammar.square text object)
    unfolding Grammar.square
    sound_square = sound_then 0 S S Terms.fresh _ (sound_fresh 0)
        (λ node n le h. sound_where n S Tokens.is_close_bracket (next text >>= λ _. give node) (Grammar.property_list text object node)
        (sound_then n L S (next text) _ (sound_next n) (λ t m up q. sound_give m S node (λ k over. subject_more node n k (omega (arith, up, over)) h)))
        (sound_property_list n node h))

    sound_member : (n : ℕ) (a : Term) → S a n → Sound n S (Grammar.next_member text object a)
    sound_member n a ha = sound_then n S S Terms.fresh _ (sound_fresh n)
        (λ b m le hb. sound_then m Any S (Grammar.found a Grammar.rdf_rest b) _ (sound_found m a Grammar.rdf_rest b (subject_more a n m le ha) rdf_rest_text (subject_within b m hb))
        (λ x k up q. sound_then k Any S (Grammar.one_object object b Grammar.rdf_first) _ (sound_one k b Grammar.rdf_first (subject_more b m k up hb) rdf_first_text)
        (λ y l over r. sound_give l S b (λ i above. subject_more b m i (omega (arith, up, over, above)) hb))))

    sound_more_members : (n : ℕ) (a : Term) → S a n → Sound n Any (Grammar.more_members text object a)
    sound_more_members n a ha = sound_then n S Any (many text (Tokens.is_other Tokens.is_close_parenthesis) (Grammar.next_member text object) a) _
        (sound_many S (Tokens.is_other Tokens.is_close_parenthesis) (Grammar.next_member text object) subject_more (λ b m h. sound_member m b h) a n ha)
        (λ last m le h. sound_then m Any Any (expected text Tokens.is_close_parenthesis) _ (sound_expected m Tokens.is_close_parenthesis)
        (λ t k up q. sound_found k last Grammar.rdf_rest Grammar.rdf_nil (subject_more last m k up h) rdf_rest_text (rdf_nil_object (IsNode k))))

    sound_collection : Sound 0 S (Grammar.collection text object)
    unfolding Grammar.collection
    sound_collection = sound_where 0 S Tokens.is_close_parenthesis _ _
        (sound_then 0 L S (next text) _ (sound_next 0) (λ t n le q. sound_give n S Grammar.rdf_nil (λ m l. rdf_nil_subject (IsNode m))))
        (sound_then 0 S S Terms.fresh _ (sound_fresh 0)
        (λ node n le h. sound_then n Any S (Grammar.one_object object node Grammar.rdf_first) _ (sound_one n node Grammar.rdf_first h rdf_first_text)
        (λ x m up q. sound_then m Any S (Grammar.more_members text object node) _ (sound_more_members m node (subject_more node n m up h))
        (λ y k over r. sound_give k S node (λ l above. subject_more node n l (omega (arith, up, over, above)) h)))))

    sound_optional : (n : ℕ) (a : Term) → S a n → Sound n Any (Grammar.optional_predicates text object a)
    sound_optional n a ha = sound_where n Any Tokens.is_dot (give tt) (Grammar.predicate_object_list text object a) (sound_give {X = Unit {0}} n Any tt (λ k l. tt)) (sound_predicates n a ha)

  sound_term_of : (low : ℕ) (k : TokenKind) (t : Token) → IsLexed t → Sound low W (Grammar.term_of k text t)
  sound_term_of low IriRef t h = sound_term low W t (λ a n i. i) h
  sound_term_of low PrefixName t h = sound_term low W t (λ a n i. i) h
  sound_term_of low PrefixedName t h = sound_term low W t (λ a n i. i) h
  sound_term_of low BlankNodeLabel t h = weak low S W _ subject_within (sound_labelled low t)
  sound_term_of low (StringLiteral quotes) t h = sound_literal low t.start.line (string_value quotes (token_text text t)) (string_text quotes (token_text text t) (token_scalars t))
  sound_term_of low Integer t h = sound_plain low t (codes "integer") xsd_integer_text
  sound_term_of low Decimal t h = sound_plain low t (codes "decimal") xsd_decimal_text
  sound_term_of low Double t h = sound_plain low t (codes "double") xsd_double_text
  sound_term_of low True t h = sound_plain low t (codes "boolean") xsd_boolean_text
  sound_term_of low False t h = sound_plain low t (codes "boolean") xsd_boolean_text
  sound_term_of low _ t h = λ s fine le. tt

  sound_object_of : (low : ℕ) (k : TokenKind) (list collected : Parser Term) (t : Token) → IsLexed t → Sound low W list → Sound low W collected → Sound low W (Grammar.object_of k text list collected t)
  sound_object_of low OpenBracket list collected t h hl hc = hl
  sound_object_of low OpenParenthesis list collected t h hl hc = hc
  sound_object_of low k list collected t h hl hc = sound_term_of low k t h

  sound_object : (levels : ℕ) → Sound 0 W (Grammar.object text levels)
  unfolding Grammar.object
  sound_object zero = sound_then 0 L W (next text) _ (sound_next 0) (λ t n le q. sound_object_of n t.kind _ _ t q (λ s fine up. tt) (λ s fine up. tt))
  sound_object (suc levels) = sound_then 0 L W (next text) _ (sound_next 0)
      (λ t n le q. sound_object_of n t.kind _ _ t q
      (free n W _ (weak 0 S W _ subject_within (sound_square (Grammar.object text levels) (sound_object levels))))
      (free n W _ (weak 0 S W _ subject_within (sound_collection (Grammar.object text levels) (sound_object levels)))))

  sound_subject_of : (low : ℕ) (k : TokenKind) (collected : Parser Term) (t : Token) → IsLexed t → Sound low S collected → Sound low S (Grammar.subject_of k text collected t)
  sound_subject_of low IriRef collected t l h = sound_term low S t (λ a n i. i) l
  sound_subject_of low PrefixName collected t l h = sound_term low S t (λ a n i. i) l
  sound_subject_of low PrefixedName collected t l h = sound_term low S t (λ a n i. i) l
  sound_subject_of low BlankNodeLabel collected t l h = sound_labelled low t
  sound_subject_of low OpenParenthesis collected t l h = h
  sound_subject_of low _ collected t l h = λ s fine le. tt

  sound_subject_triples : (low : ℕ) (levels : ℕ) (t : Token) → IsLexed t → Sound low Any (Grammar.subject_triples text levels t)
  sound_subject_triples low levels t lexed = sound_then low S Any (Grammar.subject_of t.kind text (Grammar.collection text (Grammar.object text levels)) t) _
      (sound_subject_of low t.kind _ t lexed (free low S _ (sound_collection (Grammar.object text levels) (sound_object levels))))
      (λ node n le h. sound_predicates (Grammar.object text (suc levels)) (sound_object (suc levels)) n node h)

  sound_bracket : (low : ℕ) (levels : ℕ) → Sound low Any (Grammar.bracket_triples text levels)
  sound_bracket low levels = sound_then low S Any Terms.fresh _ (sound_fresh low)
      (λ node n le h. sound_where n Any Tokens.is_close_bracket _ _
      (sound_then n L Any (next text) _ (sound_next n) (λ t m up q. sound_predicates (Grammar.object text (suc levels)) (sound_object (suc levels)) m node (subject_more node n m up h)))
      (sound_then n S Any (Grammar.property_list text (Grammar.object text levels) node) _ (sound_property_list (Grammar.object text levels) (sound_object levels) n node h)
      (λ other m up k. sound_optional (Grammar.object text (suc levels)) (sound_object (suc levels)) m other k)))

  sound_triples : (low : ℕ) (k : TokenKind) (levels : ℕ) (t : Token) → IsLexed t → Sound low Any (Grammar.triples_of k text levels t)
  sound_triples low OpenBracket levels t h = sound_bracket low levels
  sound_triples low k levels t h = sound_subject_triples low levels t h

  sound_reference : (low : ℕ) → Sound low I (Grammar.iri_reference text)
  sound_reference low = sound_then low L I (next text) _ (sound_next low)
      (λ t n le q s fine up. elim (Tokens.is_iri_ref t.kind) as (λ b. After s.next I ((let h : Parser (List ℕ) = cond b (Terms.iri text t) (refuse t.start.line UnexpectedToken) in h) s)) [ true ↦ sound_iri n t q s fine up | false ↦ tt ])

  sound_prefix : (low : ℕ) → Sound low Any (Grammar.prefix_declared text)
  unfolding Grammar.prefix_declared
  sound_prefix low = sound_then low Any Any (expected text Tokens.is_prefix_name) _ (sound_expected low Tokens.is_prefix_name)
      (λ t n le q. sound_then n I Any (Grammar.iri_reference text) _ (sound_reference n)
      (λ iri m up r s f l. record {
        fine = record {
          ahead-is = f.ahead-is;
          prefixes-are = all_inserted IsIriText (Terms.prefix_of text t) iri s.prefixes f.prefixes-are r;
          base-is = f.base-is;
          session-is = f.session-is;
          first-is = f.first-is;
          labels-are = f.labels-are;
          triples-are = f.triples-are;
        };
        rises = omega arith;
        is = tt;
      }))

  sound_base : (low : ℕ) → Sound low Any (Grammar.base_declared text)
  unfolding Grammar.base_declared
  sound_base low = sound_then low I Any (Grammar.iri_reference text) Grammar.base_set (sound_reference low)
      (λ iri m up r s f l. record { fine = record { ahead-is = f.ahead-is; prefixes-are = f.prefixes-are; base-is = r; session-is = f.session-is; first-is = f.first-is; labels-are = f.labels-are; triples-are = f.triples-are }; rises = omega arith; is = tt })

  sound_dotted : (low : ℕ) (k : TokenKind) (levels : ℕ) (t : Token) → IsLexed t → Sound low Any (Grammar.dotted_of k text levels t)
  sound_dotted low AtPrefix levels t h = sound_prefix low
  sound_dotted low AtBase levels t h = sound_base low
  sound_dotted low k levels t h = sound_triples low k levels t h

  sound_statement_of : (low : ℕ) (k : TokenKind) (levels : ℕ) (t : Token) → IsLexed t → Sound low Any (Grammar.statement_of k text levels t)
  sound_statement_of low Prefix levels t h = sound_prefix low
  sound_statement_of low Base levels t h = sound_base low
  sound_statement_of low k levels t h = sound_then low Any Any (Grammar.dotted_of k text levels t) _ (sound_dotted low k levels t h)
      (λ x n le q. sound_then n Any Any (expected text Tokens.is_dot) _ (sound_expected n Tokens.is_dot) (λ t m up r. sound_give {X = Unit {0}} m Any tt (λ k l. tt)))

  sound_statement : (low : ℕ) (levels : ℕ) → Sound low Any (Grammar.statement text levels)
  unfolding Grammar.statement
  sound_statement low levels = sound_then low L Any (next text) _ (sound_next low) (λ t n le q. sound_statement_of n t.kind levels t q)

  pub sound_doc : (levels : ℕ) → Sound 0 Any (Grammar.turtle_doc text levels)
  unfolding Grammar.turtle_doc
  sound_doc levels = sound_many Any Tokens.is_unfinished (λ _. Grammar.statement text levels) any_more (λ x n h. sound_statement n levels) tt 0 tt
