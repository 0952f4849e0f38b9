-- The records of a file that loads are those of its model: each is made again from what it says.
use mathlib.Core.Path.{◌≡◌, refl, sym, ap, ap₂, ◌∙◌}
use mathlib.Core.Bool.{Bool, true, false}
use mathlib.Core.List.{List, [], ◌∷◌, ◌++◌}
use Prim.Native.Nat.{ℕ, zero, suc, ◌+◌, ◌-◌, ◌*◌, ◌/◌, ◌%◌, ◌≤◌, ◌<◌}
use native.Mathlib.Numerals.{add-one}
use native.Mathlib.Omega.{arith}
use borrow.Author.Tests.{ltb-true, ltb-false, lt-ltb, ne_eqb}
use lib.Dec.{ltb, eqb}
use lib.ListN.{length, get_or, drop, replicate, length-drop, take-append-drop}
use Rattle.sets.specs.Below.{sum_below, table_from, table}
use Rattle.sets.specs.Groups.{place_in, lined}
use Rattle.sets.specs.Tests.{word_at, all_zero}
use Rattle.sets.proofs.Below.{table_at, table_of, part_table, sum_same, none_count}
use Rattle.sets.proofs.Bytes.{Bytes, byte_at, bytes_by}
use Rattle.sets.proofs.Groups.{lined_at, spot}
use Rattle.blocks.specs.Blocks.{blocks, kind_of, used_of, record_of, first_block, record_no, count_of}
use Rattle.blocks.proofs.BlockLaws.{record_from_bytes}
use Rattle.model.specs.Decoded.{subjects_in, limits_in, rows_in, subject_in, states_in, state_record_in, exits_in, stored_in, all_exits, model_of, owner_there}
use Rattle.blocks.specs.Made.{two_bytes}
use Rattle.model.specs.File.{header_record, subject_record, state_record, exit_record, limit_record, headers, state_records, exit_records, limit_records, records_of}
use Rattle.model.specs.Records.{blank_exit, stored_of, with_exits, exit_of, row_of, state_key}
use Rattle.model.specs.Valid.{no_subject, subject_at, stored_at, exit_no, state_at, exit_at, row_at, Held}
use Rattle.model.specs.declared.Exit.{Exit}
use Rattle.model.specs.declared.Model.{Model}
use Rattle.model.specs.declared.Subject.{Subject}
use Rattle.model.proofs.DecodedLaws.{states_at}
use Rattle.model.proofs.Facts.{GoodModel, states_of, rows_of, exits_of, has_state_lem, exit_is}
use Rattle.model.proofs.Lines.{length_headers, length_states, length_exits, length_limits}
use Rattle.sets.proofs.Pieces.{zero_at, count_is}
use Rattle.model_promises.specs.Loads.{AreBytes, Passes1, Passes3, Passes4}
use Rattle.model_promises.proofs.Back.{all_blank}
use Rattle.model_promises.proofs.Keys.{key_apart}
use Rattle.model_promises.proofs.Ordered.{less_sum}
use Rattle.model_promises.proofs.Shown.{Placed, in_there, rows_are, row_place, row_here, row_both, state_place, state_key_lem, exit_place, exit_key, exit_both, states_few, stored_at_lem, stored_exits, before_is}
use Rattle.model_promises.proofs.Stacked.{first_kind, later_kind, parts, some_block, subjects_header, header_names, header_rest, subjects_within, stands, here, record_at, twelve}

-- ---- a record is made again from what it says

-- two bytes are those of the word that they say
word_low : (a b : ℕ) → a < 256 → (a + 256 * b) % 256 ≡ a
word_low a b l = omega arith

word_high : (a b : ℕ) → a < 256 → (a + 256 * b) / 256 ≡ b
word_high a b l = omega arith

-- a record: twelve bytes
record Twelve (r : List ℕ) : Type 0 where
  long : length r ≡ 12
  bytes : Bytes r

-- a record is its first k bytes and what follows them, where that is zero
cut : (k : ℕ) (r : List ℕ) → k ≤ 12 → Twelve r → all_zero (drop k r) ≡ true → table (λ i. get_or r (0 + i) 0) k ++ replicate (12 - k) 0 ≡ r
cut k r l t z =
    let n = t.long in
    ap₂ (λ (a b : List ℕ). a ++ b) (sym (part_table k 0 r 0 (omega arith)))
    (all_blank (12 - k) 0 (drop k r) (length-drop k r ∙ omega arith) (λ i h. zero_at (drop k r) z i))
    ∙ take-append-drop k r

module _ (r : List ℕ) (t : Twelve r) where
  -- the first header
  header_again : all_zero (drop 3 r) ≡ true → get_or r 0 0 ∷ two_bytes (word_at r 1) ++ replicate 9 0 ≡ r
  unfolding table_from
  header_again z = rw (word_low (get_or r 1 0) (get_or r 2 0) (byte_at t.bytes 1), word_high (get_or r 1 0) (get_or r 2 0) (byte_at t.bytes 1)) (cut 3 r (omega arith) t z)

  -- the header of subject s
  subject_again : (s : ℕ) → get_or r 0 0 ≡ s → all_zero (drop 3 r) ≡ true → s ∷ get_or r 1 0 ∷ get_or r 2 0 ∷ replicate 9 0 ≡ r
  unfolding table_from
  subject_again s e z = rw (← e) (cut 3 r (omega arith) t z)

  -- state k of subject s, whatever its exits
  state_again : (s k first : ℕ) (es : List Exit) → k < 256 → state_key r ≡ k + 256 * s → state_record s k (with_exits (stored_of r first) es) ≡ r
  unfolding table_from with_exits stored_of
  state_again s k first es l e =
      let a = key_apart s k (get_or r 0 0) (get_or r 1 0) l (byte_at t.bytes 1) e in
      rw (
        ← a.0,
        ← a.1,
        word_low (get_or r 6 0) (get_or r 7 0) (byte_at t.bytes 6),
        word_high (get_or r 6 0) (get_or r 7 0) (byte_at t.bytes 6),
        word_low (get_or r 10 0) (get_or r 11 0) (byte_at t.bytes 10),
        word_high (get_or r 10 0) (get_or r 11 0) (byte_at t.bytes 10),
      )
      (table_of (λ i. get_or r i 0) 12 0 r t.long (λ i h. refl))

  -- exit x of that state
  exit_again : (s k x : ℕ) → k < 256 → state_key r ≡ k + 256 * s → get_or r 2 0 ≡ x → all_zero (drop 6 r) ≡ true → exit_record s k x (exit_of r) ≡ r
  unfolding table_from exit_of
  exit_again s k x l e f z =
      let a = key_apart s k (get_or r 0 0) (get_or r 1 0) l (byte_at t.bytes 1) e in
      rw (← a.0, ← a.1, ← f) (cut 6 r (omega arith) t z)

  -- a row of subject s
  limit_again : (s : ℕ) → get_or r 0 0 ≡ s → all_zero (drop 4 r) ≡ true → limit_record s (row_of r) ≡ r
  unfolding table_from row_of
  limit_again s e z = rw (← e) (cut 4 r (omega arith) t z)

-- ---- the records of each kind

-- the file has the records of the model, kind by kind and in order
pub record Made (file : List ℕ) (m : Model) : Type 0 where
  pub counts : (k : ℕ) → 1 ≤ k → k ≤ 4 → count_of file k ≡ length (records_of m k)
  pub records : (k j : ℕ) → 1 ≤ k → k ≤ 4 → j < count_of file k → record_no file k j ≡ get_or (records_of m k) j []

-- a line, told by what stands at each place; `mine` are the same counts
line_is : {A : Type 0} (count mine : ℕ → ℕ) (item : ℕ → ℕ → A) (n : ℕ) (f : ℕ → A) (d : A) → ((g : ℕ) → g < n → mine g ≡ count g)
    → ((g k : ℕ) → g < n → k < mine g → f (place_in mine g k) ≡ item g k) → (j : ℕ) → j < sum_below mine n → f j ≡ get_or (lined count item n) j d
line_is {A} count mine item n f d same each j h =
    let s = spot mine n j h in
    let group = s.group in
    let start = sum_same mine count s.g (λ i l. same i (omega arith)) in
    ap f (sym s.place) ∙ each s.g s.k s.group s.inside
    ∙ sym (lined_at count item n s.g s.k d s.group (rw (← (same s.g s.group)) s.inside))
    ∙ ap (λ (i : ℕ). get_or (lined count item n) i d) (ap (λ (i : ℕ). i + s.k) (sym start) ∙ s.place)

module _ (file : List ℕ) (bytes : AreBytes file) (p1 : Passes1 file) (p3 : Passes3 file) (p4 : Passes4 file) (pl : Placed file)
    (held : Held (model_of file)) (good : GoodModel (model_of file)) where
  abbrev m : Model
  m = model_of file

  abbrev n : ℕ
  n = subjects_in file

  -- how many subjects there are
  subjects_are : m.n ≡ n
  unfolding model_of
  subjects_are = refl

  few_subjects : n ≤ 16
  few_subjects = (subjects_within file p1 p3 p4).high

  -- a record of the file has twelve bytes
  a_twelve : (k j : ℕ) → j < count_of file k → Twelve (record_no file k j)
  a_twelve k j h =
      record { long = twelve file p1 p3 p4 k j h; bytes = record_from_bytes file (first_block file k) j (bytes_by file bytes) }

  -- ---- headers

  -- only block 0 is the header
  header_block : (b : ℕ) → b < blocks file → kind_of file b ≡ 1 → b ≡ 0
  header_block zero l e = refl
  header_block (suc b) l e = absurd (omega (arith, (later_kind b _ _ (parts file (suc b) (p3 (suc b) l)).kind).0.low))

  -- record j of kind 1 is its record j
  header_at : (j : ℕ) → j < count_of file 1 → (j < used_of file 0) × (record_no file 1 j ≡ record_of file 0 j)
  header_at j h =
      let s = stands file p1 p3 p4 1 j h in
      let z = header_block s.b s.there s.its_kind in
      let i : s.i ≡ j = omega (arith, s.place) in
      (rw (z, i) at s.inside, here file p1 p3 p4 1 j s ∙ rw (z, i))

  -- it has a record for the model and one for each subject
  count_headers : count_of file 1 ≡ suc n
  count_headers = go (ltb (suc n) (count_of file 1)) refl
    where
      used : used_of file 0 ≡ n + 1
      used = (subjects_header file p1 p3 p4).1

      some : n < count_of file 1
      some =
          let l = some_block file p1 p3 p4 in
          omega (arith, (record_at file p1 p3 p4 1 0 n l (first_kind _ _ (parts file 0 (p3 0 l)).kind) (omega (arith, used))).0)

      go : (t : Bool) → ltb (suc n) (count_of file 1) ≡ t → count_of file 1 ≡ suc n
      go true t = absurd (omega (arith, (header_at (suc n) (ltb-true (suc n) (count_of file 1) t)).0, used))
      go false t = omega (arith, ltb-false (suc n) (count_of file 1) t, some)

  -- each has twelve bytes
  header_twelve : (j : ℕ) → j ≤ n → Twelve (record_of file 0 j)
  header_twelve j l = let h : j < count_of file 1 = omega (arith, count_headers) in rw (header_at j h).1 at (a_twelve 1 j h)

  -- the first, and that of each subject, are made again
  header_made : header_record m.n m.start ≡ record_of file 0 0
  unfolding model_of
  header_made = header_again (record_of file 0 0) (header_twelve 0 (omega arith)) (header_rest file p1 p3 p4 0 (omega arith))

  subject_made : (s : ℕ) → s < n → subject_record s (subject_at m s) ≡ record_of file 0 (s + 1)
  unfolding model_of subject_in
  subject_made s l =
      rw (table_at (subject_in file) 16 s no_subject (omega (arith, few_subjects)), lt-ltb s n l)
      (subject_again (record_of file 0 (s + 1)) (header_twelve (s + 1) (omega arith)) s (header_names file p1 p3 p4 s l)
      (header_rest file p1 p3 p4 (s + 1) (omega arith)))

  -- so all headers are those of the model
  headers_made : (j : ℕ) → j < count_of file 1 → record_no file 1 j ≡ get_or (headers m) j []
  unfolding headers model_of
  headers_made zero h = (header_at 0 h).1 ∙ sym header_made
  headers_made (suc s) h =
      let l : s < n = omega (arith, count_headers) in
      (header_at (suc s) h).1 ∙ ap (record_of file 0) (sym (add-one s)) ∙ sym (subject_made s l)
      ∙ sym (table_at (λ s. subject_record s (subject_at m s)) n s [] l)

  -- ---- states

  -- the model has the states of each subject that the file says
  states_same : (s : ℕ) → s < 16 → states_in file s ≡ states_of m s
  unfolding model_of
  states_same s l = sym (states_at file m.subjects s no_subject refl l)

  -- what is kept of the state at place q is what its record says
  stored_there : (q : ℕ) → q < 512 → q % 32 < states_in file (q / 32) → stored_at m q ≡ stored_of (state_record_in file q) (sum_below (exits_in file) q % 65536)
  unfolding stored_in
  stored_there q l h = stored_at_lem file q l ∙ rw (lt-ltb (q % 32) (states_in file (q / 32)) h)

  -- so the record of a state is made again
  state_made : (s t : ℕ) → s < 16 → t < states_in file s → record_no file 2 (place_in (states_in file) s t) ≡ state_record s t (state_at m (s * 32 + t))
  state_made s t l h =
      let few = states_few file bytes p1 p3 p4 pl s in
      let a : (s * 32 + t) / 32 ≡ s = omega arith in
      let b : (s * 32 + t) % 32 ≡ t = omega arith in
      let kept = rw (a, b) at (stored_there (s * 32 + t) (omega arith) (rw (a, b) h)) in
      rw kept
      (sym (state_again (record_no file 2 (place_in (states_in file) s t)) (a_twelve 2 (place_in (states_in file) s t) (state_place file bytes p1 p3 p4 pl s t l h)) s t _ _ (omega arith)
      (state_key_lem file bytes p1 p3 p4 pl s t l h)))

  -- ---- exits

  -- the model has the exits of each state that the file says
  exits_same : (q : ℕ) → q < 512 → exits_in file q ≡ exits_of m q
  exits_same q l = sym (stored_exits file q l)

  -- there is room for all of them
  count_exits : count_of file 3 ≤ 1024
  count_exits = omega (arith, pl.exits, good.exits, sum_same (exits_in file) (exits_of m) 512 exits_same)

  -- exit j of the model is what record j says
  exit_says : (j : ℕ) → j < count_of file 3 → exit_no m.exits j ≡ exit_of (record_no file 3 j)
  unfolding model_of all_exits
  exit_says j h = in_there 1024 blank_exit (count_of file 3) (λ i. exit_of (record_no file 3 i)) j (omega (arith, count_exits)) h

  -- so the record of an exit is made again
  exit_made : (q x : ℕ) → q < 512 → x < exits_in file q → record_no file 3 (place_in (exits_in file) q x) ≡ exit_record (q / 32) (q % 32) x (exit_at (state_at m q) x)
  exit_made q x l h =
      let own : x < exits_of m q = rw (exits_same q l) at h in
      let few : x < 8 = omega (arith, (good.state q l).small.exits) in
      let has : q % 32 < states_in file (q / 32) = rw (states_same (q / 32) (omega arith)) (has_state_lem m good q x l own) in
      let there = exit_place file bytes p1 p3 p4 pl q x l h in
      let key = exit_key file bytes p1 p3 p4 pl q x l few h in
      let place : place_in (exits_of m) q x ≡ place_in (exits_in file) q x = ap (λ (i : ℕ). i + x) (before_is file q (omega arith)) in
      let says = exit_is m good q x l own ∙ ap (exit_no m.exits) place ∙ exit_says (place_in (exits_in file) q x) there in
      rw says
      (sym (exit_again (record_no file 3 (place_in (exits_in file) q x)) (a_twelve 3 (place_in (exits_in file) q x) there) (q / 32) (q % 32) x (omega arith) key.0 key.1
      (exit_both file bytes p1 p3 p4 pl q x l few h has).right))

  -- ---- limits

  abbrev owner : ℕ → ℕ
  owner j = get_or (record_no file 4 j) 0 0

  -- the owner of a limit record is there
  owner_there_lem : (j : ℕ) → j < count_of file 4 → owner j < n
  unfolding owner_there
  owner_there_lem j l = ltb-true (owner j) n (pl.owner j l)

  -- a subject that is not there has no rows
  no_rows : (s : ℕ) → n ≤ s → rows_in file s ≡ 0
  unfolding rows_in limits_in
  no_rows s g = rw (none_count (λ j. eqb (owner j) s) (count_of file 4) (λ j l. ne_eqb (owner j) s (λ e. omega (arith, owner_there_lem j l))))

  -- so each limit record is a row of one of the subjects
  count_limits : count_of file 4 ≡ sum_below (rows_in file) 16
  unfolding limits_in
  count_limits =
      sym (sum_same (rows_in file) (limits_in file) 16 (rows_are file bytes p1 p3 p4 pl)
      ∙ less_sum owner (count_of file 4) 16
      ∙ count_is (λ j. ltb (owner j) 16) (count_of file 4) (count_of file 4) (omega arith)
      (λ j l. lt-ltb (owner j) 16 (omega (arith, owner_there_lem j l, few_subjects)) ∙ sym (lt-ltb j (count_of file 4) l)))

  -- the model has the rows of each subject that the file says
  rows_same : (s : ℕ) → s < 16 → rows_in file s ≡ rows_of m s
  unfolding model_of subject_in
  rows_same s l = go (ltb s n) refl ∙ sym (ap (λ (x : Subject). x.rows) (table_at (subject_in file) 16 s no_subject l))
    where
      go : (b : Bool) → ltb s n ≡ b → rows_in file s ≡ (subject_in file s).rows
      go true e = rw e
      go false e = rw e (no_rows s (ltb-false s n e))

  -- the record of a row is made again
  limit_made : (s k : ℕ) → s < 16 → k < rows_in file s → record_no file 4 (place_in (rows_in file) s k) ≡ limit_record s (row_at (subject_at m s) k)
  unfolding model_of subject_in
  limit_made s k l h = rw (table_at (subject_in file) 16 s no_subject l) (go (ltb s n) refl)
    where
      go : (b : Bool) → ltb s n ≡ b → record_no file 4 (place_in (rows_in file) s k) ≡ limit_record s (row_at (subject_in file s) k)
      go true e =
          let at = row_place file bytes p1 p3 p4 pl s k l h in
          rw (e, row_here file bytes p1 p3 p4 pl s k h)
          (sym (limit_again (record_no file 4 (place_in (rows_in file) s k)) (a_twelve 4 (place_in (rows_in file) s k) at.0) s at.1
          (row_both file bytes p1 p3 p4 pl s k l h).right))
      go false e = absurd (omega (arith, no_rows s (ltb-false s n e)))

  -- ---- all of them

  -- the records of a kind stand in the model's order
  states_made : (j : ℕ) → j < count_of file 2 → record_no file 2 j ≡ get_or (state_records m) j []
  unfolding state_records
  states_made j h = line_is (states_of m) (states_in file) _ 16 (record_no file 2) [] states_same state_made j (rw pl.states at h)

  exits_made : (j : ℕ) → j < count_of file 3 → record_no file 3 j ≡ get_or (exit_records m) j []
  unfolding exit_records
  exits_made j h = line_is (exits_of m) (exits_in file) _ 512 (record_no file 3) [] exits_same exit_made j (rw pl.exits at h)

  limits_made : (j : ℕ) → j < count_of file 4 → record_no file 4 j ≡ get_or (limit_records m) j []
  unfolding limit_records
  limits_made j h = line_is (rows_of m) (rows_in file) _ 16 (record_no file 4) [] rows_same limit_made j (rw count_limits at h)

  pub made : Made file m
  unfolding records_of
  made = record { counts = counts; records = records }
    where
      counts : (k : ℕ) → 1 ≤ k → k ≤ 4 → count_of file k ≡ length (records_of m k)
      counts zero lo hi = absurd (omega arith)
      counts (suc zero) lo hi = count_headers ∙ ap suc (sym subjects_are) ∙ sym (length_headers m)
      counts (suc (suc zero)) lo hi = pl.states ∙ sum_same (states_in file) (states_of m) 16 states_same ∙ sym (length_states m)
      counts (suc (suc (suc zero))) lo hi = pl.exits ∙ sum_same (exits_in file) (exits_of m) 512 exits_same ∙ sym (length_exits m)
      counts (suc (suc (suc (suc zero)))) lo hi = count_limits ∙ sum_same (rows_in file) (rows_of m) 16 rows_same ∙ sym (length_limits m)
      counts (suc (suc (suc (suc (suc k))))) lo hi = absurd (omega arith)

      records : (k j : ℕ) → 1 ≤ k → k ≤ 4 → j < count_of file k → record_no file k j ≡ get_or (records_of m k) j []
      records zero j lo hi = absurd (omega arith)
      records (suc zero) j lo hi = headers_made j
      records (suc (suc zero)) j lo hi = states_made j
      records (suc (suc (suc zero))) j lo hi = exits_made j
      records (suc (suc (suc (suc zero)))) j lo hi = limits_made j
      records (suc (suc (suc (suc (suc k))))) j lo hi = absurd (omega arith)
