-- The records of a valid model: twelve bytes each, and few enough for a file.
use mathlib.Core.Path.{◌≡◌, refl, sym, ap, subst}
use mathlib.Core.Bool.{Bool, true, false}
use mathlib.Core.List.{List, [], ◌∷◌}
use Prim.Native.Nat.{ℕ, zero, suc, ◌+◌, ◌*◌, ◌/◌, ◌%◌, ◌≤◌, ◌<◌}
use native.Mathlib.Nat.{le_trans, le_of_eq}
use native.Mathlib.Omega.{arith}
use borrow.Author.Tests.{ltb-true, ltb-false}
use lib.Dec.{ltb, eqb}
use lib.ListN.{length, get_or, get_or-eq_default}
use Rattle.sets.proofs.Bytes.{Bytes, none, ◌&◌, byte_at, zero_bytes}
use Rattle.sets.specs.Below.{sum_below}
use Rattle.sets.specs.Groups.{lined}
use Rattle.sets.proofs.Tests.{choose}
use Rattle.sets.proofs.Below.{sum_bound, length_table, table_at}
use Rattle.sets.proofs.Groups.{length_lined, lined_at, spot}
use Rattle.sets.proofs.Pieces.{Each}
use Rattle.model.specs.Valid.{subject_at, state_at, exit_at, row_at, Held}
use Rattle.model.specs.File.{header_record, subject_record, state_record, exit_record, limit_record, headers, state_records, exit_records, limit_records, records_of, blocks_for, start_of}
use Rattle.model.specs.declared.Exit.{Exit}
use Rattle.model.specs.declared.Model.{Model}
use Rattle.model.specs.declared.Row.{Row}
use Rattle.model.specs.declared.State.{State}
use Rattle.model.specs.declared.Subject.{Subject}
use Rattle.model.proofs.Facts.{Small, GoodExit, GoodRow, GoodSubject, GoodModel, stored_after}
use Rattle.model.proofs.Packed.{Sound}

byte : (x : ℕ) {s : List ℕ} → x < 256 → Bytes s → Bytes (x ∷ s)
byte x h b = h & b

header_bytes : (m : Model) → m.n ≤ 16 → m.start < 65536 → Bytes (header_record m.n m.start)
header_bytes m n s = byte m.n (omega arith) (byte (m.start % 256) (omega arith) (byte (m.start / 256) (omega arith) (zero_bytes 9)))

subject_bytes_lem : (s n : ℕ) (sub : Subject) → s < 16 → GoodSubject n s sub → Bytes (subject_record s sub)
subject_bytes_lem s n sub l g =
    let a = g.states in
    let b = g.initial in
    byte s (omega arith) (byte sub.states (omega arith) (b & zero_bytes 9))

state_bytes_lem : (s t : ℕ) (st : State) → s < 16 → t < 32 → Small st → st.after < 65536 → Bytes (state_record s t st)
state_bytes_lem s t st ls lt g a =
    let x = g.exits in
    let r = g.receivers in
    byte s (omega arith) (byte t (omega arith) (g.kind & byte st.exits (omega arith) (g.sender & g.typ
    & byte (st.after % 256) (omega arith) (byte (st.after / 256) (omega arith) (g.timeout & g.cancel
    & byte (st.receivers % 256) (omega arith) (byte (st.receivers / 256) (omega arith) none))))))

exit_bytes_lem : (s t x kind : ℕ) (e : Exit) → s < 16 → t < 32 → x < 8 → GoodExit kind e → Bytes (exit_record s t x e)
exit_bytes_lem s t x kind e ls lt lx g = byte s (omega arith) (byte t (omega arith) (byte x (omega arith) (g.target & g.sender & g.typ & zero_bytes 6)))

limit_bytes : (s : ℕ) (w : Row) → s < 16 → GoodRow w → Bytes (limit_record s w)
limit_bytes s w ls g = byte s (omega arith) (g.sender & g.typ & g.limit & zero_bytes 8)

-- ---- the lines

-- what holds of every thing in a line holds at every place
pub lined_all : {A : Type 0} (P : A → Type 0) (count : ℕ → ℕ) (item : ℕ → ℕ → A) (n : ℕ) (d : A)
    → ((g k : ℕ) → g < n → k < count g → P (item g k)) → (j : ℕ) → j < length (lined count item n) → P (get_or (lined count item n) j d)
lined_all P count item n d h j l =
    let s = spot count n j (subst (λ (x : ℕ). j < x) (length_lined count item n) l) in
    subst (λ (i : ℕ). P (get_or (lined count item n) i d)) s.place
    (subst P (sym (lined_at count item n s.g s.k d s.group s.inside)) (h s.g s.k s.group s.inside))

-- all records of a list are bytes
abbrev AllBytes : List (List ℕ) → Type 0
AllBytes rs = (j : ℕ) → j < length rs → Bytes (get_or rs j [])

-- the records of any kind
by_kind : (m : Model) (P : List (List ℕ) → Type 0) → P (headers m) → P (state_records m) → P (exit_records m) → P (limit_records m) → P [] → (k : ℕ) → P (records_of m k)
unfolding records_of
by_kind m P h s e l z k =
    choose P (eqb k 1) (λ _. h) (λ _. choose P (eqb k 2) (λ _. s) (λ _. choose P (eqb k 3) (λ _. e) (λ _. choose P (eqb k 4) (λ _. l) (λ _. z))))

-- so many blocks are enough
enough : (c : ℕ) {x : ℕ} → x ≤ c * 42 → blocks_for x ≤ c
enough c h = omega arith

all_starts : (rs : ℕ → List (List ℕ)) (a b c d : ℕ) → rs 0 ≡ [] → blocks_for (length (rs 1)) ≤ a → blocks_for (length (rs 2)) ≤ b → blocks_for (length (rs 3)) ≤ c
    → blocks_for (length (rs 4)) ≤ d → start_of rs 5 ≤ a + b + c + d
unfolding start_of sum_below
all_starts rs a b c d z h1 h2 h3 h4 = rw z (omega arith)

module _ (m : Model) where
  -- how many records of each kind
  pub length_headers : length (headers m) ≡ suc m.n
  unfolding headers
  length_headers = ap suc (length_table _ m.n)

  pub length_states : length (state_records m) ≡ sum_below (λ s. (subject_at m s).states) 16
  unfolding state_records
  length_states = length_lined _ _ 16

  pub length_exits : length (exit_records m) ≡ sum_below (λ p. (state_at m p).exits) 512
  unfolding exit_records
  length_exits = length_lined _ _ 512

  pub length_limits : length (limit_records m) ≡ sum_below (λ s. (subject_at m s).rows) 16
  unfolding limit_records
  length_limits = length_lined _ _ 16

  -- each has twelve bytes
  headers_long : Each 12 (headers m)
  unfolding headers
  headers_long zero l = refl
  headers_long (suc j) l =
      let k = length_table (λ s. subject_record s (subject_at m s)) m.n in
      ap length (table_at (λ s. subject_record s (subject_at m s)) m.n j [] (omega arith))

  states_long : Each 12 (state_records m)
  unfolding state_records
  states_long = lined_all (λ r. length r ≡ 12) _ _ 16 [] (λ s t ls lt. refl)

  exits_long : Each 12 (exit_records m)
  unfolding exit_records
  exits_long = lined_all (λ r. length r ≡ 12) _ _ 512 [] (λ p x lp lx. refl)

  limits_long : Each 12 (limit_records m)
  unfolding limit_records
  limits_long = lined_all (λ r. length r ≡ 12) _ _ 16 [] (λ s k ls lk. refl)

  pub all_long : (k : ℕ) → Each 12 (records_of m k)
  all_long = by_kind m (Each 12) headers_long states_long exits_long limits_long (λ j l. absurd (omega arith))

module _ (m : Model) (good : GoodModel m) where
  -- 13 blocks of states, 25 of exits, 4 of limits and the header
  pub fits : start_of (records_of m) 5 ≤ 43
  unfolding records_of
  fits =
      let s = sum_bound (λ s. (subject_at m s).states) 32 16 (λ s l. (good.subject s l).states) in
      let w = sum_bound (λ s. (subject_at m s).rows) 8 16 (λ s l. (good.subject s l).rows) in
      all_starts (records_of m) 1 13 25 4 refl
      (enough 1 (le_trans (le_of_eq (length_headers m)) (omega (arith, good.high))))
      (enough 13 (le_trans (le_of_eq (length_states m)) (le_trans s (omega arith))))
      (enough 25 (le_trans (le_of_eq (length_exits m)) (le_trans good.exits (omega arith))))
      (enough 4 (le_trans (le_of_eq (length_limits m)) (le_trans w (omega arith))))

module _ (m : Model) (held : Held m) (good : GoodModel m) where
  headers_bytes : AllBytes (headers m)
  unfolding headers
  headers_bytes zero l = header_bytes m good.high good.start
  headers_bytes (suc j) l =
      let h = good.high in
      let k = length_table (λ s. subject_record s (subject_at m s)) m.n in
      let lt : j < m.n = omega arith in
      subst Bytes (sym (table_at (λ s. subject_record s (subject_at m s)) m.n j [] lt)) (subject_bytes_lem j m.n (subject_at m j) (omega arith) (good.subject j (omega arith)))

  states_bytes : AllBytes (state_records m)
  unfolding state_records
  states_bytes = lined_all Bytes _ _ 16 [] (λ s t ls lt.
      let g = good.subject s ls in
      let few = g.states in
      let p : s * 32 + t < 512 = omega arith in
      state_bytes_lem s t (state_at m (s * 32 + t)) ls (omega arith) (good.state (s * 32 + t) p).small (rw (stored_after m (s * 32 + t)) (held.afters (s * 32 + t) p)))

  exits_bytes : AllBytes (exit_records m)
  unfolding exit_records
  exits_bytes = lined_all Bytes _ _ 512 [] (λ p x lp lx.
      let g = good.state p lp in
      let few = g.small.exits in
      exit_bytes_lem (p / 32) (p % 32) x (state_at m p).kind (exit_at (state_at m p) x) (omega arith) (omega arith) (omega arith) (g.exit x lx))

  limits_bytes : AllBytes (limit_records m)
  unfolding limit_records
  limits_bytes = lined_all Bytes _ _ 16 [] (λ s k ls lk. limit_bytes s (row_at (subject_at m s) k) ls ((good.subject s ls).row k lk))

  each_bytes : (k : ℕ) → AllBytes (records_of m k)
  each_bytes = by_kind m AllBytes headers_bytes states_bytes exits_bytes limits_bytes (λ j l. absurd (omega arith))

  all_bytes : (k j : ℕ) → Bytes (get_or (records_of m k) j [])
  all_bytes k j = go (ltb j (length (records_of m k))) refl
    where
      go : (b : Bool) → ltb j (length (records_of m k)) ≡ b → Bytes (get_or (records_of m k) j [])
      go true e = each_bytes k j (ltb-true _ _ e)
      go false e = subst Bytes (sym (get_or-eq_default (records_of m k) [] {n = j} (ltb-false j (length (records_of m k)) e))) none

  pub sound : Sound (records_of m)
  unfolding records_of
  sound =
      record {
        none = refl;
        twelve = λ k j l. all_long m k j l;
        are_bytes = λ k j. byte_at (all_bytes k j);
        some_header = omega (arith, length_headers m);
        one_header = omega (arith, length_headers m, good.high);
        fit = fits m good;
      }
