-- The files of a load are session files, of fewer than 2^32 bytes.
use Rattle.std.proofs.Common.{◌≡◌, ℕ, zero, suc, ◌+◌, ◌-◌, ◌*◌, ◌%◌, ◌<◌, ◌≤◌, ◌^◌, Bool, true, false, cond, List, [], ◌∷◌, ◌++◌, length, length-append, nat_eq, refl, sym, ap, ◌∙◌, subst, arith, append_assoc, codes}
use Rattle.std.specs.Prelude.{Err, Ok, bytes_eq, if◌then◌else◌, take, true}
use Rattle.std.specs.Fmt.{decimal}
use Rattle.std.specs.List.{flat_map, range_with_len}
use Rattle.std.proofs.lemmas.Fmt.{length-decimal-le}
use Rattle.std.proofs.lemmas.Grind.{flat_map-append}
use Rattle.std.proofs.lemmas.Nat.{mod_below}
use Rattle.load_maker.specs.Workload.{line, lines_text, node, shapes_lines, type_lines, value_lines, commit_lines, transaction_lines, own_lines, workload}
use Rattle.session_reader.specs.declared.line.BlockKind.TheVariants as blocks
use Rattle.session_reader.specs.declared.line.Syntax.TheVariants.{NTriples, Turtle}
use Rattle.session_reader.specs.SessionFile.{is_block_end, session_of, commands_of, items_of}
use Rattle.generate_command.proofs.Splitting.{all_of, append_no_lf, append_no_lfs, decimal_no_lf, no_lf, no_lfs, split_lines}
use Rattle.generate_command.proofs.Commands.{AreCommands, IsRead, none_left, with_one_block, with_pieces}

abbrev class_text : List ℕ
class_text = codes " <http://www.w3.org/1999/02/22-rdf-syntax-ns#type> <e:C> ."

abbrev type_line : ℕ → List ℕ
type_line i = node i ++ class_text

abbrev value_line : ℕ → ℕ → List ℕ
value_line n i = node i ++ codes " <e:p> " ++ node ((i * i) % n + 1) ++ codes " ."

-- a number of a load
record IsNumber (n i : ℕ) : Type 0 where
  pub some : 0 < i
  pub most : i ≤ 100000
  pub n_some : 0 < n
  pub n_most : n ≤ 100000

target_number : (n i : ℕ) → IsNumber n i → IsNumber n ((i * i) % n + 1)
target_number n i is = let below = mod_below (i * i) n is.n_some in record { some = omega arith; most = omega (arith, below, is.n_most); n_some = is.n_some; n_most = is.n_most }

-- No line has an LF.

node_no_lf : (n i : ℕ) → IsNumber n i → no_lf (node i) ≡ true
node_no_lf n i is = append_no_lf (codes "<e:n" ++ decimal i) (codes ">") (append_no_lf (codes "<e:n") (decimal i) refl (decimal_no_lf i is.some (omega (arith, is.most)))) refl

type_no_lf : (n i : ℕ) → IsNumber n i → no_lf (type_line i) ≡ true
type_no_lf n i is = append_no_lf (node i) class_text (node_no_lf n i is) refl

value_no_lf : (n i : ℕ) → IsNumber n i → no_lf (value_line n i) ≡ true
value_no_lf n i is =
    let target = node ((i * i) % n + 1) in
    append_no_lf (node i ++ codes " <e:p> " ++ target) (codes " .")
    (append_no_lf (node i ++ codes " <e:p> ") target (append_no_lf (node i) (codes " <e:p> ") (node_no_lf n i is) refl) (node_no_lf n ((i * i) % n + 1) (target_number n i is))) refl

one_no_lf : (text : List ℕ) → no_lf text ≡ true → no_lfs (text ∷ []) ≡ true
one_no_lf text h = all_of (no_lf text) true h refl

unless_no_lf : (b : Bool) (ls : List (List ℕ)) → no_lfs ls ≡ true → no_lfs (cond b [] ls) ≡ true
unless_no_lf true ls h = refl
unless_no_lf false ls h = h

where_no_lf : (b : Bool) (ls : List (List ℕ)) → no_lfs ls ≡ true → no_lfs (cond b ls []) ≡ true
where_no_lf true ls h = h
where_no_lf false ls h = refl

transaction_no_lf : (n i : ℕ) → IsNumber n i → no_lfs (transaction_lines n i) ≡ true
unfolding transaction_lines type_lines value_lines commit_lines
transaction_no_lf n i is =
    append_no_lfs (type_lines i ++ value_lines n i) commit_lines
    (append_no_lfs (type_lines i) (value_lines n i) (one_no_lf (type_line i) (type_no_lf n i is)) (unless_no_lf (nat_eq (i % 10) 0) (value_line n i ∷ []) (one_no_lf (value_line n i) (value_no_lf n i is)))) refl

own_no_lf : (n s i : ℕ) → IsNumber n i → no_lfs (own_lines n s i) ≡ true
unfolding own_lines
own_no_lf n s i is = where_no_lf (nat_eq ((i - 1) % 4) (s - 1)) (transaction_lines n i) (transaction_no_lf n i is)

shapes_no_lf : no_lfs shapes_lines ≡ true
unfolding shapes_lines
shapes_no_lf = refl

numbers_no_lf : (n s a k : ℕ) → 0 < a → a + k ≤ n + 1 → 0 < n → n ≤ 100000 → no_lfs (flat_map (own_lines n s) (range_with_len a k)) ≡ true
numbers_no_lf n s a zero some le one most = refl
numbers_no_lf n s a (suc k) some le one most =
    append_no_lfs (own_lines n s a) (flat_map (own_lines n s) (range_with_len (a + 1) k))
    (own_no_lf n s a (record { some = some; most = omega (arith, le, most); n_some = one; n_most = most }))
    (numbers_no_lf n s (a + 1) k (omega arith) (omega (arith, le)) one most)

abbrev lines_of : ℕ → ℕ → List (List ℕ)
lines_of n s = shapes_lines ++ flat_map (own_lines n s) (range_with_len 1 n)

file_no_lf : (n s : ℕ) → 0 < n → n ≤ 100000 → no_lfs (lines_of n s) ≡ true
file_no_lf n s one most = append_no_lfs shapes_lines (flat_map (own_lines n s) (range_with_len 1 n)) shapes_no_lf (numbers_no_lf n s 1 n (omega arith) (omega arith) one most)

-- They are commands.

ends_none : (b : Bool) (m k : ℕ) (xs : List ℕ) → m ≡ suc k → bytes_eq (if b then take m (60 ∷ 101 ∷ xs) else 60 ∷ 101 ∷ xs) (codes "%%") ≡ false
ends_none true m k xs e = ap (λ n. bytes_eq (take n (60 ∷ 101 ∷ xs)) (codes "%%")) e
ends_none false m k xs e = refl

node_inside : (xs : List ℕ) → is_block_end (60 ∷ 101 ∷ xs) ≡ false
node_inside xs = ends_none _ (length (60 ∷ 101 ∷ xs) - 1) (length xs) xs (omega arith)

type_inside : (i : ℕ) → is_block_end (type_line i) ≡ false
type_inside i = node_inside (codes ":n" ++ decimal i ++ codes ">" ++ class_text)

value_inside : (n i : ℕ) → is_block_end (value_line n i) ≡ false
value_inside n i = node_inside (codes ":n" ++ decimal i ++ codes ">" ++ codes " <e:p> " ++ node ((i * i) % n + 1) ++ codes " .")

with_transaction : (n i : ℕ) (b : Bool) (rest : List (List ℕ)) → AreCommands rest → AreCommands (type_lines i ++ cond b [] (value_line n i ∷ []) ++ commit_lines ++ rest)
unfolding type_lines commit_lines
with_transaction n i true rest h = with_one_block (codes "add ntriples") (blocks.Add NTriples) (type_line i ∷ []) rest refl refl (type_inside i, tt) h
with_transaction n i false rest h = with_one_block (codes "add ntriples") (blocks.Add NTriples) (type_line i ∷ value_line n i ∷ []) rest refl refl (type_inside i, (value_inside n i, tt)) h

where_commands : (b : Bool) (ls rest : List (List ℕ)) → AreCommands (ls ++ rest) → AreCommands rest → AreCommands (cond b ls [] ++ rest)
where_commands true ls rest h g = h
where_commands false ls rest h g = g

own_commands : (n s i : ℕ) (rest : List (List ℕ)) → AreCommands rest → AreCommands (own_lines n s i ++ rest)
unfolding own_lines transaction_lines value_lines
own_commands n s i rest h = where_commands (nat_eq ((i - 1) % 4) (s - 1)) (transaction_lines n i) rest (with_transaction n i (nat_eq (i % 10) 0) rest h) h

with_shapes : (rest : List (List ℕ)) → AreCommands rest → AreCommands (shapes_lines ++ rest)
unfolding shapes_lines
with_shapes rest h =
    with_one_block (codes "shapes turtle") (blocks.Shapes Turtle)
    (codes "@prefix sh: <http://www.w3.org/ns/shacl#> ." ∷ codes "<e:S> sh:targetClass <e:C> ; sh:property <e:P> ." ∷ codes "<e:P> sh:path <e:p> ; sh:minCount 1 ; sh:maxCount 2 ." ∷ []) rest refl refl (refl, (refl, (refl, tt))) h

file_commands : (n s : ℕ) → AreCommands (lines_of n s ++ [] ∷ [])
file_commands n s =
    let numbers = flat_map (own_lines n s) (range_with_len 1 n) in
    subst AreCommands (sym (append_assoc shapes_lines numbers ([] ∷ []))) (with_shapes (numbers ++ [] ∷ []) (with_pieces (own_lines n s) (own_commands n s) (range_with_len 1 n) ([] ∷ []) none_left))

file_read : (n s : ℕ) → 0 < n → n ≤ 100000 → IsRead (session_of s 1 (workload n s))
unfolding workload shapes_lines
file_read n s one most = subst (λ (lines : List (List ℕ)). IsRead (commands_of s 1 (items_of lines))) (sym (split_lines (lines_of n s) (file_no_lf n s one most))) (file_commands n s s 1 1)

-- a file has no line that is no command
pub no_bad_line : (n s k : ℕ) → 0 < n → n ≤ 100000 → session_of s 1 (workload n s) ≡ Err k → ⊥
no_bad_line n s k one most e = let r = file_read n s one most in let no : Err k ≡ Ok r.0 = sym e ∙ r.1 in cc

-- No file is too long.

append_le : (xs ys : List ℕ) (a b : ℕ) → length xs ≤ a → length ys ≤ b → length (xs ++ ys) ≤ a + b
append_le xs ys a b h g = let e = length-append xs ys in omega (arith, e, h, g)

line_le : (text : List ℕ) (lines : List (List ℕ)) (a b : ℕ) → length text ≤ a → length (lines_text lines) ≤ b → length (lines_text (text ∷ lines)) ≤ a + 1 + b
line_le text lines a b h g = append_le (line text) (lines_text lines) (a + 1) b (append_le text (10 ∷ []) a 1 h (omega arith)) g

lines_le : (xs ys : List (List ℕ)) (a b : ℕ) → length (lines_text xs) ≤ a → length (lines_text ys) ≤ b → length (lines_text (xs ++ ys)) ≤ a + b
lines_le xs ys a b h g = subst (λ (text : List ℕ). length text ≤ a + b) (sym (flat_map-append line xs ys)) (append_le (lines_text xs) (lines_text ys) a b h g)

node_le : (n i : ℕ) → IsNumber n i → length (node i) ≤ 11
node_le n i is = append_le (codes "<e:n" ++ decimal i) (codes ">") 10 1 (append_le (codes "<e:n") (decimal i) 4 6 (omega arith) (length-decimal-le 6 i (omega arith) (omega (arith, is.most)) (omega (arith, is.most)))) (omega arith)

type_le : (n i : ℕ) → IsNumber n i → length (type_line i) ≤ 69
type_le n i is = append_le (node i) class_text 11 58 (node_le n i is) (omega arith)

value_le : (n i : ℕ) → IsNumber n i → length (value_line n i) ≤ 31
value_le n i is =
    let target = node ((i * i) % n + 1) in
    append_le (node i ++ codes " <e:p> " ++ target) (codes " .") 29 2
    (append_le (node i ++ codes " <e:p> ") target 18 11 (append_le (node i) (codes " <e:p> ") 11 7 (node_le n i is) (omega arith)) (node_le n ((i * i) % n + 1) (target_number n i is))) (omega arith)

one_le : (text : List ℕ) (a : ℕ) → length text ≤ a → length (lines_text (text ∷ [])) ≤ a + 1
one_le text a h = let e = line_le text [] a 0 h (omega arith) in omega (arith, e)

unless_le : (b : Bool) (ls : List (List ℕ)) (a : ℕ) → length (lines_text ls) ≤ a → length (lines_text (cond b [] ls)) ≤ a
unless_le true ls a h = omega arith
unless_le false ls a h = h

where_le : (b : Bool) (ls : List (List ℕ)) (a : ℕ) → length (lines_text ls) ≤ a → length (lines_text (cond b ls [])) ≤ a
where_le true ls a h = h
where_le false ls a h = omega arith

transaction_le : (n i : ℕ) → IsNumber n i → length (lines_text (transaction_lines n i)) ≤ 131
unfolding transaction_lines type_lines value_lines commit_lines
transaction_le n i is =
    lines_le (type_lines i ++ value_lines n i) commit_lines 121 10
    (lines_le (type_lines i) (value_lines n i) 89 32 (line_le (codes "begin") (codes "add ntriples" ∷ type_line i ∷ []) 5 83 (omega arith) (line_le (codes "add ntriples") (type_line i ∷ []) 12 70 (omega arith) (one_le (type_line i) 69 (type_le n i is))))
    (unless_le (nat_eq (i % 10) 0) (value_line n i ∷ []) 32 (one_le (value_line n i) 31 (value_le n i is)))) (omega arith)

own_le : (n s i : ℕ) → IsNumber n i → length (lines_text (own_lines n s i)) ≤ 131
unfolding own_lines
own_le n s i is = where_le (nat_eq ((i - 1) % 4) (s - 1)) (transaction_lines n i) 131 (transaction_le n i is)

numbers_le : (n s a k : ℕ) → 0 < a → a + k ≤ n + 1 → 0 < n → n ≤ 100000 → length (lines_text (flat_map (own_lines n s) (range_with_len a k))) ≤ 131 * k
numbers_le n s a zero some le one most = omega arith
numbers_le n s a (suc k) some le one most =
    let first = own_le n s a (record { some = some; most = omega (arith, le, most); n_some = one; n_most = most }) in
    let others = numbers_le n s (a + 1) k (omega arith) (omega (arith, le)) one most in
    let all = lines_le (own_lines n s a) (flat_map (own_lines n s) (range_with_len (a + 1) k)) 131 (131 * k) first others in
    omega (arith, all)

shapes_le : length (lines_text shapes_lines) ≤ 177
unfolding shapes_lines
shapes_le = omega arith

pub short : (n s : ℕ) → 0 < n → n ≤ 100000 → 1 + length (workload n s) < 2 ^ 32
unfolding workload shapes_lines
short n s one most =
    let numbers = flat_map (own_lines n s) (range_with_len 1 n) in
    let all = lines_le shapes_lines numbers 177 (131 * n) shapes_le (numbers_le n s 1 n (omega arith) (omega arith) one most) in
    omega (arith, all, most)
