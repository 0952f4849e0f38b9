-- What was written is read back, and what is read is written the same.
use mathlib.Core.Path.{◌≡◌, refl, sym, ap, ◌∙◌}
use mathlib.Core.Logic.{⊎_elim}
use mathlib.Core.Bool.{Bool, true, false, not, cond}
use mathlib.Core.List.{List, [], ◌∷◌, ◌++◌, append_assoc, append-nil}
use Prim.Native.Nat.{ℕ, zero, suc, ◌+◌, ◌*◌, ◌/◌, ◌%◌, ◌≤◌, ◌<◌}
use native.Mathlib.Nat.{not-suc-le-zero}
use native.Mathlib.Omega.{arith}
use borrow.Author.Tests.{le-leb, leb-true}
use lib.Dec.{eqb, leb}
use lib.ListN.{length, get_or, take, drop, length-drop, get_or-append}
use lib.Seq.{get_or-append-add, get_or-drop, drop-drop, take-add, drop_at}
use mir.Val.{Val}
use denote.Laws.{Is}
use denote.Struct.Declared.{row}
use Rattle.sets.specs.Below.{table_from}
use Rattle.sets.proofs.Below.{last_or, table_at, table_of, all_by, all_each, part_table}
use Rattle.sets.proofs.Tests.{and_both, and_true}
use Rattle.model_promises.specs.Loads.{AreBytes}
use Rattle.engine.specs.pools.Entries.{blank_entry}
use Rattle.engine.specs.declared.Entry.{Entry}
use Rattle.engine.specs.configs.Subjects.{no_one, at, Held}
use Rattle.engine.specs.declared.Config.{Config}
use Rattle.engine.specs.declared.Subject.{Subject}
use Rattle.engine.specs.contracts.Config as config
use Rattle.engine.proofs.Machine.{machine_held}
use Rattle.sets.specs.Stores.{each_of}
use Rattle.blocks.specs.Made.{two_bytes}
use Rattle.exported.specs.Bytes.{word_bytes, config_size, entry_bytes, field_bytes, marks_bytes, entries_bytes, subject_bytes, config_bytes, short_of, word_of, entry_from, marks_from, entries_from, subject_from, config_from, flag_place, flags_right, is_config}
use Rattle.exported.specs.Laws.{WrittenIsRead}
use Rattle.sets.proofs.Stores.{length_each, each_same}
use Rattle.exported.specs.Sizes.{length_entry, length_marks, length_subject, length_config}

-- ---- numbers

-- a number in two bytes, and in four, is read back
pub short_back : (x : ℕ) (rest : List ℕ) → short_of (two_bytes x ++ rest) ≡ x
short_back x rest = omega arith

word_back : (x : ℕ) (rest : List ℕ) → word_of (word_bytes x ++ rest) ≡ x
word_back x rest = omega arith

-- ---- one behind the other

module _ (f : ℕ → List ℕ) (size : ℕ) (each : (i : ℕ) → length (f i) ≡ size) where
  -- what stands behind the first i
  pub drop_each : (n i : ℕ) (rest : List ℕ) → i < n → (tail : List ℕ) × (drop (size * i) (each_of f n ++ rest) ≡ f i ++ tail)
  unfolding each_of
  drop_each zero i rest l = absurd (not-suc-le-zero l)
  drop_each (suc n) i rest l =
      ⊎_elim
      (λ (e : i ≡ n). (rest, ap (drop (size * i)) (append_assoc (each_of f n) (f n) rest) ∙ drop_at (each_of f n) (f n ++ rest) (size * i) (length_each f size each n ∙ ap (λ (k : ℕ). size * k) (sym e)) ∙ ap (λ (k : ℕ). f k ++ rest) (sym e)))
      (λ (m : i < n).
      let r = drop_each n i (f n ++ rest) m in
      (r.0, ap (drop (size * i)) (append_assoc (each_of f n) (f n) rest) ∙ r.1))
      (last_or i n l)

-- ---- reading back

entry_back : (e : Entry) (rest : List ℕ) → entry_from (entry_bytes e ++ rest) ≡ e
unfolding entry_from entry_bytes
entry_back e rest =
    let m = go e.message in
    let w = word_back e.content rest in
    λ i. record { sender = e.sender; typ = e.typ; message = m i; content = w i }
  where
    go : (b : Bool) → not (eqb (cond b 1 0) 0) ≡ b
    go true = refl
    go false = refl

marks_back : (closed rest : List ℕ) → length closed ≡ 16 → marks_from (marks_bytes closed ++ rest) ≡ closed
unfolding marks_from marks_bytes
marks_back closed rest h =
    table_of _ 16 0 closed h
    (λ i l.
    let r = drop_each (λ k. word_bytes (get_or closed k 0)) 4 (λ k. refl) 16 i rest l in
    ap word_of r.1 ∙ word_back (get_or closed i 0) r.0)

entries_back : (entries : List Entry) (rest : List ℕ) → length entries ≡ 16 → entries_from (entries_bytes entries ++ rest) ≡ entries
unfolding entries_from entries_bytes
entries_back entries rest h =
    table_of _ 16 blank_entry entries h
    (λ i l.
    let r = drop_each (λ k. entry_bytes (get_or entries k blank_entry)) 7 (λ k. length_entry _) 16 i rest l in
    ap entry_from r.1 ∙ entry_back (get_or entries i blank_entry) r.0)

subject_back : (x : Subject) (rest : List ℕ) → length x.closed ≡ 16 → length x.pool.entries ≡ 16 → subject_from (subject_bytes x ++ rest) ≡ x
unfolding subject_from subject_bytes
subject_back x rest h k =
    let marks = marks_bytes x.closed in
    let pool : List ℕ = x.pool.count ∷ entries_bytes x.pool.entries in
    let behind : (marks ++ pool) ++ rest ≡ marks ++ (pool ++ rest) = append_assoc marks pool rest in
    let past : drop 64 ((marks ++ pool) ++ rest) ≡ pool ++ rest = ap (drop 64) behind ∙ drop_at marks (pool ++ rest) 64 (length_marks x.closed) in
    let waited = short_back x.waited [] in
    let word = word_back x.word [] in
    let mask = short_back x.mask [] in
    let closed = ap marks_from behind ∙ marks_back x.closed (pool ++ rest) h in
    let count = sym (get_or-drop 64 ((marks ++ pool) ++ rest) 0 0) ∙ ap (λ (l : List ℕ). get_or l 0 0) past in
    let entries = ap entries_from (sym (drop-drop 1 64 ((marks ++ pool) ++ rest)) ∙ ap (drop 1) past) ∙ entries_back x.pool.entries rest k in
    λ i. record { mode = x.mode; state = x.state; waited = waited i; word = word i; mask = mask i; closed = closed i; pool = record { entries = entries i; count = count i } }

config_back : (c : Config) → Held c → config_from (config_bytes c) ≡ c
unfolding config_from config_bytes
config_back c h =
    let all =
    table_of (λ s. subject_from (drop (187 * s) (each_of (λ k. subject_bytes (at c k)) 16))) 16 no_one c.subjects h.subjects
    (λ s l.
    let r = drop_each (λ k. subject_bytes (at c k)) 187 (λ k. length_subject _) 16 s [] l in
    ap (λ (b : List ℕ). subject_from (drop (187 * s) b)) (sym (append-nil _)) ∙ ap subject_from r.1 ∙ subject_back (at c s) r.0 (h.marks s l) (h.entries s l)) in
    λ i. record { subjects = all i }

-- ---- its bytes are a configuration's

-- byte i of the k-th
pub each_byte : (f : ℕ → List ℕ) (size n k i : ℕ) → ((j : ℕ) → length (f j) ≡ size) → k < n → i < size → get_or (each_of f n) (size * k + i) 0 ≡ get_or (f k) i 0
each_byte f size n k i each l h =
    let r = drop_each f size each n k [] l in
    sym (get_or-drop (size * k) (each_of f n) i 0)
    ∙ ap (λ (b : List ℕ). get_or (drop (size * k) b) i 0) (sym (append-nil _))
    ∙ ap (λ (b : List ℕ). get_or b i 0) r.1
    ∙ get_or-append (f k) r.0 0 i (omega (arith, each k))

-- the third byte of an entry
third : (y : Entry) → get_or (entry_bytes y) 2 0 ≡ cond y.message 1 0
unfolding entry_bytes
third y = refl

-- the byte of entry k that says whether it is a message
entry_flag : (x : Subject) (k : ℕ) → k < 16 → get_or (subject_bytes x) (77 + 7 * k) 0 ≡ cond (get_or x.pool.entries k blank_entry).message 1 0
unfolding subject_bytes entries_bytes
entry_flag x k l =
    let e : ℕ → List ℕ = λ j. entry_bytes (get_or x.pool.entries j blank_entry) in
    let marks = marks_bytes x.closed in
    let place : 77 + 7 * k ≡ 10 + (length marks + (1 + (7 * k + 2))) = omega (arith, length_marks x.closed) in
    ap (λ (j : ℕ). get_or (field_bytes x ++ (marks ++ (x.pool.count ∷ each_of e 16))) j 0) place
    ∙ get_or-append-add (field_bytes x) (marks ++ (x.pool.count ∷ each_of e 16)) (length marks + (1 + (7 * k + 2))) 0
    ∙ get_or-append-add marks (x.pool.count ∷ each_of e 16) (1 + (7 * k + 2)) 0
    ∙ get_or-append-add (x.pool.count ∷ []) (each_of e 16) (7 * k + 2) 0
    ∙ each_byte e 7 16 k 2 (λ j. length_entry _) l (omega arith)
    ∙ third (get_or x.pool.entries k blank_entry)

flag_right : (c : Config) (j : ℕ) → j < 256 → leb (get_or (config_bytes c) (flag_place j) 0) 1 ≡ true
unfolding config_bytes
flag_right c j l =
    ap (λ (b : ℕ). leb b 1)
    (each_byte (λ s. subject_bytes (at c s)) 187 16 (j / 16) (77 + 7 * (j % 16)) (λ s. length_subject _) (omega arith) (omega arith)
    ∙ entry_flag (at c (j / 16)) (j % 16) (omega arith))
    ∙ go (get_or (at c (j / 16)).pool.entries (j % 16) blank_entry).message
  where
    go : (b : Bool) → leb (cond b 1 0) 1 ≡ true
    go true = refl
    go false = refl

config_accepted : (c : Config) → is_config (config_bytes c) ≡ true
unfolding is_config flags_right
config_accepted c = and_true (le-leb config_size (length (config_bytes c)) (omega (arith, length_config c))) (all_by _ 256 (flag_right c))

-- ---- written as it was read

-- what is left of bytes are bytes
pub rest_bytes : (b : List ℕ) (p : ℕ) → AreBytes b → AreBytes (drop p b)
rest_bytes b p h i = rw (get_or-drop p b i 0) (h (p + i))

-- a number of two bytes, and one of four
two : (d : List ℕ) → 2 ≤ length d → take 2 d ≡ get_or d 0 0 ∷ get_or d 1 0 ∷ []
unfolding table_from
two d h = part_table 2 0 d 0 (omega arith)

pub short_parts : (d : List ℕ) → AreBytes d → (short_of d % 256 ≡ get_or d 0 0) × (short_of d / 256 ≡ get_or d 1 0)
short_parts d h = let a = h 0 in (omega arith, omega arith)

short_same : (d : List ℕ) → AreBytes d → 2 ≤ length d → two_bytes (short_of d) ≡ take 2 d
short_same d h l = let p = short_parts d h in (λ i. p.0 i ∷ p.1 i ∷ []) ∙ sym (two d l)

-- the two numbers of which one is made
halves : (x y : ℕ) → x < 65536 → ((x + 65536 * y) % 65536 ≡ x) × ((x + 65536 * y) / 65536 ≡ y)
halves x y h = (omega arith, omega arith)

word_same : (d : List ℕ) → AreBytes d → 4 ≤ length d → word_bytes (word_of d) ≡ take 4 d
word_same d h l =
    let small : short_of d < 65536 = omega (arith, h 0, h 1) in
    let both = halves (short_of d) (short_of (drop 2 d)) small in
    (λ i. two_bytes (both.0 i) ++ two_bytes (both.1 i))
    ∙ ap (λ (t : List ℕ). t ++ two_bytes (short_of (drop 2 d))) (short_same d h (omega arith))
    ∙ ap (λ (t : List ℕ). take 2 d ++ t) (short_same (drop 2 d) (rest_bytes d 2 h) (omega (arith, length-drop 2 d)))
    ∙ sym (take-add 2 2 d)

-- pieces of one size, one behind the other
pub pieces : (size n : ℕ) (b : List ℕ) → each_of (λ k. take size (drop (size * k) b)) n ≡ take (size * n) b
unfolding each_of
pieces size zero b = ap (λ (k : ℕ). take k b) (let e : 0 ≡ size * 0 = omega arith in e)
pieces size (suc n) b =
    let e : size * suc n ≡ size * n + size = omega arith in
    ap (λ (l : List ℕ). l ++ take size (drop (size * n) b)) (pieces size n b) ∙ sym (take-add (size * n) size b) ∙ ap (λ (k : ℕ). take k b) (sym e)

-- marks
marks_same : (b : List ℕ) → AreBytes b → 64 ≤ length b → marks_bytes (marks_from b) ≡ take 64 b
unfolding marks_bytes marks_from
marks_same b h l =
    each_same _ (λ i. take 4 (drop (4 * i) b)) 16
    (λ i k.
    ap word_bytes (table_at (λ j. word_of (drop (4 * j) b)) 16 i 0 k)
    ∙ word_same (drop (4 * i) b) (rest_bytes b (4 * i) h) (omega (arith, length-drop (4 * i) b)))
    ∙ pieces 4 16 b

-- an entry whose third byte is 0 or 1
pub three : (d : List ℕ) → 3 ≤ length d → take 3 d ≡ get_or d 0 0 ∷ get_or d 1 0 ∷ get_or d 2 0 ∷ []
unfolding table_from
three d h = part_table 3 0 d 0 (omega arith)

flag_same : (x : ℕ) → x ≤ 1 → cond (not (eqb x 0)) 1 0 ≡ x
flag_same zero h = refl
flag_same (suc zero) h = refl
flag_same (suc (suc x)) h = absurd (omega (arith, h))

entry_same : (d : List ℕ) → AreBytes d → 7 ≤ length d → get_or d 2 0 ≤ 1 → entry_bytes (entry_from d) ≡ take 7 d
unfolding entry_bytes entry_from
entry_same d h l f =
    let m = flag_same (get_or d 2 0) f in
    let w = word_same (drop 3 d) (rest_bytes d 3 h) (omega (arith, length-drop 3 d)) in
    (λ i. get_or d 0 0 ∷ get_or d 1 0 ∷ m i ∷ w i)
    ∙ ap (λ (t : List ℕ). t ++ take 4 (drop 3 d)) (sym (three d (omega arith)))
    ∙ sym (take-add 3 4 d)

entries_same : (b : List ℕ) → AreBytes b → 112 ≤ length b → ((i : ℕ) → i < 16 → get_or b (7 * i + 2) 0 ≤ 1) → entries_bytes (entries_from b) ≡ take 112 b
unfolding entries_bytes entries_from
entries_same b h l f =
    each_same _ (λ i. take 7 (drop (7 * i) b)) 16
    (λ i k.
    ap entry_bytes (table_at (λ j. entry_from (drop (7 * j) b)) 16 i blank_entry k)
    ∙ entry_same (drop (7 * i) b) (rest_bytes b (7 * i) h) (omega (arith, length-drop (7 * i) b)) (rw (get_or-drop (7 * i) b 2 0) (f i k)))
    ∙ pieces 7 16 b

-- the fields before the marks
fields_same : (b : List ℕ) → AreBytes b → 10 ≤ length b → field_bytes (subject_from b) ≡ take 10 b
unfolding subject_from
fields_same b h l =
    let waited = short_same (drop 2 b) (rest_bytes b 2 h) (omega (arith, length-drop 2 b)) in
    let word = word_same (drop 4 b) (rest_bytes b 4 h) (omega (arith, length-drop 4 b)) in
    let mask = short_same (drop 8 b) (rest_bytes b 8 h) (omega (arith, length-drop 8 b)) in
    let last = sym (take-add 4 2 (drop 4 b) ∙ ap (λ (r : List ℕ). take 4 (drop 4 b) ++ take 2 r) (drop-drop 4 4 b)) in
    let more = sym (take-add 2 6 (drop 2 b) ∙ ap (λ (r : List ℕ). take 2 (drop 2 b) ++ take 6 r) (drop-drop 2 2 b)) in
    (λ i. get_or b 0 0 ∷ get_or b 1 0 ∷ (waited i ++ (word i ++ mask i)))
    ∙ ap (λ (r : List ℕ). get_or b 0 0 ∷ get_or b 1 0 ∷ (take 2 (drop 2 b) ++ r)) last
    ∙ ap (λ (r : List ℕ). get_or b 0 0 ∷ get_or b 1 0 ∷ r) more
    ∙ ap (λ (t : List ℕ). t ++ take 8 (drop 2 b)) (sym (two b (omega arith)))
    ∙ sym (take-add 2 8 b)

-- one byte
one : (d : List ℕ) (p : ℕ) → p < length d → get_or d p 0 ∷ [] ≡ take 1 (drop p d)
unfolding table_from
one d p h = ap (λ (k : ℕ). get_or d k 0 ∷ []) (let e : p ≡ p + 0 = omega arith in e) ∙ sym (part_table 1 p d 0 (omega arith))

put_together : (b : List ℕ) {x y z : List ℕ} → field_bytes (subject_from b) ≡ x → marks_bytes (marks_from (drop 10 b)) ≡ y
    → get_or b 74 0 ∷ entries_bytes (entries_from (drop 75 b)) ≡ z → subject_bytes (subject_from b) ≡ x ++ (y ++ z)
unfolding subject_bytes subject_from
put_together b p q r = λ i. p i ++ (q i ++ r i)

-- a subject
subject_same : (b : List ℕ) → AreBytes b → 187 ≤ length b → ((i : ℕ) → i < 16 → get_or b (77 + 7 * i) 0 ≤ 1) → subject_bytes (subject_from b) ≡ take 187 b
subject_same b h l f =
    let n = length-drop 75 b in
    let flags : (i : ℕ) → i < 16 → get_or (drop 75 b) (7 * i + 2) 0 ≤ 1 = λ i k. rw (get_or-drop 75 b (7 * i + 2) 0, (let e : 75 + (7 * i + 2) ≡ 77 + 7 * i = omega arith in e)) (f i k) in
    let entries = entries_same (drop 75 b) (rest_bytes b 75 h) (omega (arith, n)) flags in
    let count = one b 74 (omega arith) in
    let pool : get_or b 74 0 ∷ entries_bytes (entries_from (drop 75 b)) ≡ take 113 (drop 74 b) =
    (λ i. count i ++ entries i) ∙ ap (λ (r : List ℕ). take 1 (drop 74 b) ++ take 112 r) (sym (drop-drop 1 74 b)) ∙ sym (take-add 1 112 (drop 74 b)) in
    let marks = marks_same (drop 10 b) (rest_bytes b 10 h) (omega (arith, length-drop 10 b)) in
    let behind : take 64 (drop 10 b) ++ take 113 (drop 74 b) ≡ take 177 (drop 10 b) =
    ap (λ (r : List ℕ). take 64 (drop 10 b) ++ take 113 r) (sym (drop-drop 64 10 b)) ∙ sym (take-add 64 113 (drop 10 b)) in
    put_together b (fields_same b h (omega arith)) marks pool
    ∙ ap (λ (r : List ℕ). take 10 b ++ r) behind
    ∙ sym (take-add 10 177 b)

-- a configuration
config_same : (b : List ℕ) → AreBytes b → is_config b ≡ true → config_bytes (config_from b) ≡ take config_size b
unfolding config_bytes config_from is_config flags_right
config_same b h ok =
    let both = and_both (leb config_size (length b)) (flags_right b) ok in
    let l = leb-true config_size (length b) both.left in
    each_same _ (λ s. take 187 (drop (187 * s) b)) 16
    (λ s k.
    ap subject_bytes (table_at (λ j. subject_from (drop (187 * j) b)) 16 s no_one k)
    ∙ subject_same (drop (187 * s) b) (rest_bytes b (187 * s) h) (omega (arith, length-drop (187 * s) b))
    (λ i m.
    let place : 187 * s + (77 + 7 * i) ≡ flag_place (16 * s + i) = omega arith in
    rw (get_or-drop (187 * s) b (77 + 7 * i) 0, place) (leb-true _ 1 (all_each _ 256 both.right (16 * s + i) (omega arith)))))
    ∙ pieces 187 16 b

-- so for every configuration in the machine
pub machine_back : (c : Config) (vs : List Val) → Is (row config.the_type) c vs → config_from (config_bytes c) ≡ c
machine_back c vs p = config_back c (machine_held c vs p)

pub written_is_read : WrittenIsRead
written_is_read = record { accepted = config_accepted; back = config_back; same = config_same }
