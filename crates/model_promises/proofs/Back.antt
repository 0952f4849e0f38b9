-- The file of a valid model is read back: each record is where the loader looks for it, and the model that they say is the model.
use mathlib.Core.Path.{◌≡◌, refl, sym, ap, ◌∙◌}
use mathlib.Core.Bool.{Bool, true, false, cond}
use mathlib.Core.List.{List, []}
use Prim.Native.Nat.{ℕ, suc, ◌+◌, ◌*◌, ◌/◌, ◌%◌, ◌≤◌, ◌<◌}
use native.Mathlib.Numerals.{add-one}
use native.Mathlib.Omega.{arith}
use borrow.Author.Tests.{ltb-true, ltb-false, lt-ltb, eq-eqb, le-leb}
use lib.Dec.{ltb, eqb}
use lib.ListN.{length, get_or, replicate, get_or-replicate, length-replicate}
use lib.Seq.{ext_get_or}
use Rattle.sets.specs.Below.{sum_below}
use Rattle.sets.specs.Groups.{place_in, in_places}
use Rattle.sets.proofs.Tests.{and_true}
use Rattle.sets.proofs.Below.{table_at, table_of, length_table, sum_same, sum_grows, sum_has, all_by}
use Rattle.sets.proofs.Groups.{lined_at, length_lined, Spot, spot, count_group}
use Rattle.blocks.specs.Blocks.{first_block, record_of, record_no, count_of}
use Rattle.model.specs.Records.{blank_exit, blank_row, blank_stored, stored_of, with_exits, exit_of, row_of, full_key}
use Rattle.model.specs.Decoded.{subjects_in, limits_in, rows_in, rows_from, subject_in, states_in, has_state, state_record_in, exits_in, stored_in, all_exits, model_of, state_named, exits_named, exits_named_in, owner_there, states_in_place, exits_in_place, limits_in_place, in_place}
use Rattle.model.specs.Valid.{subject_at, stored_at, exit_no, state_at, exit_at, row_at, no_subject, Held}
use Rattle.model.specs.File.{header_record, subject_record, state_record, exit_record, limit_record, headers, state_records, exit_records, limit_records, records_of}
use Rattle.model.specs.declared.Exit.{Exit}
use Rattle.model.specs.declared.Model.{Model}
use Rattle.model.specs.declared.Row.{Row}
use Rattle.model.specs.declared.Stored.{Stored}
use Rattle.model.specs.declared.Subject.{Subject}
use Rattle.model.proofs.Facts.{GoodModel, states_of, rows_of, exits_of, exit_is}
use Rattle.model.proofs.Lines.{length_states, length_exits, length_limits}
use Rattle.model.proofs.Packed.{Packed}

-- ---- a record says what it was made of

pub word_back : (x : ℕ) → x % 256 + 256 * (x / 256) ≡ x
word_back x = omega arith

-- what is kept of a state, whatever its exits
state_back : (s t : ℕ) (st : Stored) (es : List Exit) → stored_of (state_record s t (with_exits st es)) st.first ≡ st
unfolding stored_of with_exits
state_back s t st es = rw (word_back st.after, word_back st.receivers)

row_back : (s : ℕ) (w : Row) → row_of (limit_record s w) ≡ w
unfolding row_of
row_back s w = refl

-- a list of nothing but blanks
pub all_blank : {A : Type 0} (n : ℕ) (d : A) (l : List A) → length l ≡ n → ((i : ℕ) → i < n → get_or l i d ≡ d) → replicate n d ≡ l
all_blank n d l e h =
    let k = length-replicate n d in
    ext_get_or d (replicate n d) l (k ∙ sym e) (λ i a. let b : i < n = omega arith in get_or-replicate n i d d b ∙ sym (h i b))

module _ (m : Model) (held : Held m) (good : GoodModel m) (file : List ℕ) (pk : Packed (records_of m) file) where
  abbrev states : ℕ → ℕ
  states = states_of m

  abbrev rows : ℕ → ℕ
  rows = rows_of m

  abbrev exits : ℕ → ℕ
  exits = exits_of m

  -- ---- the records, found

  pub header_first : record_of file 0 0 ≡ header_record m.n m.start
  unfolding records_of headers
  header_first = pk.headers 0 (omega arith)

  pub header_then : (s : ℕ) → s < m.n → record_of file 0 (s + 1) ≡ subject_record s (subject_at m s)
  unfolding records_of headers
  header_then s l =
      rw add-one (pk.headers (suc s) (omega (arith, length_table (λ s. subject_record s (subject_at m s)) m.n))
      ∙ table_at (λ s. subject_record s (subject_at m s)) m.n s [] l)

  pub count_states : count_of file 2 ≡ sum_below states 16
  unfolding records_of
  count_states = pk.counts 2 (omega arith) (omega arith) ∙ length_states m

  count_exits : count_of file 3 ≡ sum_below exits 512
  unfolding records_of
  count_exits = pk.counts 3 (omega arith) (omega arith) ∙ length_exits m

  count_limits : count_of file 4 ≡ sum_below rows 16
  unfolding records_of
  count_limits = pk.counts 4 (omega arith) (omega arith) ∙ length_limits m

  pub state_record_lem : (s t : ℕ) → s < 16 → t < states s → record_no file 2 (place_in states s t) ≡ state_record s t (state_at m (s * 32 + t))
  unfolding records_of state_records
  state_record_lem s t ls lt =
      pk.records 2 (place_in states s t) (omega arith) (omega arith) (omega (arith, length_lined states (λ s t. state_record s t (state_at m (s * 32 + t))) 16, sum_has states s 16 ls))
      ∙ lined_at states (λ s t. state_record s t (state_at m (s * 32 + t))) 16 s t [] ls lt

  exit_record_lem : (p x : ℕ) → p < 512 → x < exits p → record_no file 3 (place_in exits p x) ≡ exit_record (p / 32) (p % 32) x (exit_at (state_at m p) x)
  unfolding records_of exit_records
  exit_record_lem p x lp lx =
      pk.records 3 (place_in exits p x) (omega arith) (omega arith) (omega (arith, length_lined exits (λ p x. exit_record (p / 32) (p % 32) x (exit_at (state_at m p) x)) 512, sum_has exits p 512 lp))
      ∙ lined_at exits (λ p x. exit_record (p / 32) (p % 32) x (exit_at (state_at m p) x)) 512 p x [] lp lx

  limit_record_lem : (s k : ℕ) → s < 16 → k < rows s → record_no file 4 (place_in rows s k) ≡ limit_record s (row_at (subject_at m s) k)
  unfolding records_of limit_records
  limit_record_lem s k ls lk =
      pk.records 4 (place_in rows s k) (omega arith) (omega arith) (omega (arith, length_lined rows (λ s k. limit_record s (row_at (subject_at m s) k)) 16, sum_has rows s 16 ls))
      ∙ lined_at rows (λ s k. limit_record s (row_at (subject_at m s) k)) 16 s k [] ls lk

  -- ---- subjects

  -- the owner of a limit record is the subject in whose group it stands
  limits_back : (s : ℕ) → s < 16 → limits_in file s ≡ rows s
  unfolding limits_in
  limits_back s l =
      rw count_limits
      (count_group _ rows s 16 (λ g k lg lk. ap (λ (r : List ℕ). eqb (get_or r 0 0) s) (limit_record_lem g k lg lk)) ∙ rw (lt-ltb s 16 l))

  rows_back : (s : ℕ) → s < 16 → rows_in file s ≡ rows s
  unfolding rows_in
  rows_back s l = let few = (good.subject s l).rows in omega (arith, limits_back s l)

  -- the rows of subject s
  row_list : (s : ℕ) → s < 16 → rows_from file (first_block file 4) (sum_below (rows_in file) s) (rows_in file s) ≡ (subject_at m s).row
  unfolding rows_from in_places
  row_list s l =
      rw (rows_back s l, sum_same (rows_in file) rows s (λ i k. rows_back i (omega arith)))
      (table_of _ 8 blank_row (subject_at m s).row (held.rows s l) (λ k lk. each k lk (ltb k (rows s)) refl))
    where
      each : (k : ℕ) → k < 8 → (b : Bool) → ltb k (rows s) ≡ b
          → cond (ltb k (rows s)) (row_of (record_no file 4 (place_in rows s k))) blank_row ≡ row_at (subject_at m s) k
      each k lk true e = rw (e, limit_record_lem s k l (ltb-true _ _ e)) (row_back s _)
      each k lk false e = rw e (sym ((good.subject s l).blank k lk (ltb-false _ _ e)))

  subject_back : (s : ℕ) → s < 16 → subject_in file s ≡ subject_at m s
  unfolding subject_in
  subject_back s l = go (ltb s m.n) refl
    where
      n_back : subjects_in file ≡ m.n
      n_back = ap (λ (r : List ℕ). get_or r 0 0) header_first

      go : (b : Bool) → ltb s m.n ≡ b → subject_in file s ≡ subject_at m s
      go true e = rw (n_back, e, header_then s (ltb-true _ _ e), row_list s l, rows_back s l)
      go false e =
          let g = good.subject s l in
          let z = g.gone (ltb-false _ _ e) in
          let none = z.2 in
          let w = all_blank 8 blank_row (subject_at m s).row (held.rows s l) (λ k lk. g.blank k lk (omega arith)) in
          rw (n_back, e) (λ i. record { states = sym z.0 i; initial = sym z.1 i; rows = sym z.2 i; row = w i })

  -- ---- states

  states_back : (s : ℕ) → s < 16 → states_in file s ≡ states s
  unfolding states_in
  states_back s l = ap (λ (x : Subject). x.states) (subject_back s l)

  starts_back : (s : ℕ) → s ≤ 16 → sum_below (states_in file) s ≡ sum_below states s
  starts_back s l = sum_same (states_in file) states s (λ i k. states_back i (omega arith))

  -- the record of the state at place p, where there is one
  state_there_lem : (p : ℕ) → p < 512 → p % 32 < states (p / 32) → state_record_in file p ≡ state_record (p / 32) (p % 32) (state_at m p)
  state_there_lem p l h =
      let q : p / 32 * 32 + p % 32 ≡ p = omega arith in
      rw (starts_back (p / 32) (omega arith))
      (state_record_lem (p / 32) (p % 32) (omega arith) h ∙ ap (λ (i : ℕ). state_record (p / 32) (p % 32) (state_at m i)) q)

  has_back : (p : ℕ) → p < 512 → has_state file p ≡ ltb (p % 32) (states (p / 32))
  has_back p l = ap (ltb (p % 32)) (states_back (p / 32) (omega arith))

  exits_back : (p : ℕ) → p < 512 → exits_in file p ≡ exits p
  unfolding exits_in
  exits_back p l = go (ltb (p % 32) (states (p / 32))) refl
    where
      go : (b : Bool) → ltb (p % 32) (states (p / 32)) ≡ b → exits_in file p ≡ exits p
      go true e = rw (has_back p l, e, state_there_lem p l (ltb-true _ _ e))
      go false e = rw (has_back p l, e) (sym ((good.state p l).empty (ltb-false _ _ e)).exits)

  exit_starts_back : (p : ℕ) → p ≤ 512 → sum_below (exits_in file) p ≡ sum_below exits p
  exit_starts_back p l = sum_same (exits_in file) exits p (λ i k. exits_back i (omega arith))

  -- where the exits of the state at place p begin
  first_back : (p : ℕ) → p < 512 → p % 32 < states (p / 32) → sum_below (exits_in file) p % 65536 ≡ (stored_at m p).first
  first_back p l h =
      let few = good.exits in
      rw (exit_starts_back p (omega arith), good.first p l h) (omega (arith, sum_grows exits p 512 (omega arith)))

  -- what is kept of the state at place p
  stored_back : (p : ℕ) → p < 512 → stored_in file p ≡ stored_at m p
  unfolding stored_in with_exits
  stored_back p l = go (ltb (p % 32) (states (p / 32))) refl
    where
      go : (b : Bool) → ltb (p % 32) (states (p / 32)) ≡ b → stored_in file p ≡ stored_at m p
      go true e =
          let h = ltb-true _ _ e in
          rw (has_back p l, e, state_there_lem p l h, first_back p l h) (state_back (p / 32) (p % 32) (stored_at m p) (state_at m p).exit)
      go false e =
          let z = (good.state p l).empty (ltb-false _ _ e) in
          let f = good.no_first p l (ltb-false _ _ e) in
          rw (has_back p l, e)
          (λ i. record {
            kind = sym z.kind i;
            exits = sym z.exits i;
            sender = sym z.sender i;
            typ = sym z.typ i;
            after = sym z.after i;
            timeout = sym z.timeout i;
            cancel = sym z.cancel i;
            receivers = sym z.receivers i;
            first = sym f i;
          })

  -- ---- exits

  -- exit j of the model
  abbrev exit_of_all : ℕ → Exit
  exit_of_all j = exit_no m.exits j

  -- the record of exit j
  exit_there : (j : ℕ) (s : Spot exits 512 j) → record_no file 3 j ≡ exit_record (s.g / 32) (s.g % 32) s.k (exit_of_all j)
  exit_there j s =
      ap (record_no file 3) (sym s.place) ∙ exit_record_lem s.g s.k s.group s.inside
      ∙ ap (exit_record (s.g / 32) (s.g % 32) s.k) (exit_is m good s.g s.k s.group s.inside ∙ ap exit_of_all s.place)

  -- the exits of the exit records are those of the model
  all_back : all_exits file ≡ m.exits
  unfolding all_exits in_places exit_of
  all_back =
      rw count_exits (table_of _ 1024 blank_exit m.exits held.exits (λ j lj. go j lj (ltb j (sum_below exits 512)) refl))
    where
      go : (j : ℕ) → j < 1024 → (b : Bool) → ltb j (sum_below exits 512) ≡ b
          → cond (ltb j (sum_below exits 512)) (exit_of (record_no file 3 j)) blank_exit ≡ exit_of_all j
      go j lj true e = rw (e, exit_there j (spot exits 512 j (ltb-true _ _ e)))
      go j lj false e = rw e (sym (good.no_more j (ltb-false _ _ e)))

  -- ---- all of it

  pub model_back : model_of file ≡ m
  unfolding model_of
  model_back =
      let a = ap (λ (r : List ℕ). get_or r 0 0) header_first in
      let b = ap (λ (r : List ℕ). get_or r 1 0 + 256 * get_or r 2 0) header_first ∙ word_back m.start in
      let c = table_of (subject_in file) 16 no_subject m.subjects held.subjects subject_back in
      let d = table_of (stored_in file) 512 blank_stored m.states held.states stored_back in
      λ i. record { n = a i; start = b i; subjects = c i; states = d i; exits = all_back i }

  -- ---- each record stands where the model has its thing

  states_named : (p : ℕ) → p < 512 → state_named file p ≡ true
  unfolding state_named
  states_named p l = go (ltb (p % 32) (states (p / 32))) refl
    where
      go : (b : Bool) → ltb (p % 32) (states (p / 32)) ≡ b → state_named file p ≡ true
      go true e = rw (has_back p l, e, state_there_lem p l (ltb-true _ _ e)) (eq-eqb (p % 32 + 256 * (p / 32)) (p % 32 + 256 * (p / 32)) refl)
      go false e = rw (has_back p l, e)

  exits_named_lem : (p : ℕ) → p < 512 → exits_named_in file p ≡ true
  unfolding exits_named_in exits_named
  exits_named_lem p l =
      rw (exits_back p l, exit_starts_back p (omega arith))
      (all_by _ (exits p) (λ x lx. eq-eqb _ _ (ap full_key (exit_record_lem p x l lx))))

  -- the owner of a limit record has rows, so it is one of the n
  owner_there_lem : (j : ℕ) → j < sum_below rows 16 → owner_there file j ≡ true
  unfolding owner_there
  owner_there_lem j l =
      let s = spot rows 16 j l in
      let own = ap (λ (r : List ℕ). get_or r 0 0) (ap (record_no file 4) (sym s.place) ∙ limit_record_lem s.g s.k s.group s.inside) in
      rw (own, ap (λ (r : List ℕ). get_or r 0 0) header_first) (lt-ltb _ _ (known s.g s.k s.group s.inside))
    where
      known : (g k : ℕ) → g < 16 → k < rows g → g < m.n
      known g k lg lk = go (ltb g m.n) refl
        where
          go : (b : Bool) → ltb g m.n ≡ b → g < m.n
          go true e = ltb-true _ _ e
          go false e = let z = ((good.subject g lg).gone (ltb-false _ _ e)).2 in absurd (omega arith)

  pub place_back : in_place file ≡ true
  unfolding in_place states_in_place exits_in_place limits_in_place
  place_back =
      and_true
      (and_true
      (and_true (all_by _ 512 states_named) (eq-eqb _ _ (count_states ∙ sym (starts_back 16 (omega arith)))))
      (and_true (all_by _ 512 exits_named_lem) (eq-eqb _ _ (count_exits ∙ sym (exit_starts_back 512 (omega arith))))))
      (and_true
      (all_by _ _ (λ j l. owner_there_lem j (rw count_limits at l)))
      (all_by _ 16 (λ s l. le-leb (limits_in file s) 8 (rw (limits_back s l) (good.subject s l).rows))))
