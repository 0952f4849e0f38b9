-- Every record of the file of a valid model is right: in order, and its fields by the rules.
use mathlib.Core.Path.{◌≡◌, refl, sym, ap, ◌∙◌}
use mathlib.Core.Bool.{Bool, true, false, ◌||◌, cond}
use mathlib.Core.List.{List, []}
use Prim.Native.Nat.{ℕ, zero, suc, ◌+◌, ◌-◌, ◌*◌, ◌/◌, ◌%◌, ◌≤◌, ◌<◌}
use native.Mathlib.Omega.{arith}
use borrow.Author.Tests.{ltb-true, lt-ltb, eq-eqb, ne_eqb}
use lib.Dec.{eqb}
use lib.ListN.{length, get_or}
use Rattle.sets.specs.Below.{sum_below}
use Rattle.sets.specs.Groups.{place_in}
use Rattle.sets.proofs.Tests.{and_true, within_true}
use Rattle.sets.proofs.Below.{table_at, length_table, all_by, sum_has}
use Rattle.sets.proofs.Groups.{spot, line_ascends}
use Rattle.blocks.specs.Blocks.{blocks, used_of, record_of, record_no}
use Rattle.model.specs.Records.{blank_exits, state_of, stored_of, with_exits, exit_of, row_of, state_key, order_of}
use Rattle.model.specs.Rules.{shape_of, state_fits, exit_fits, row_fits}
use Rattle.model.specs.Stages.{record_before, own_kind, header_right, exit_right, limit_right, fields_right, record_right, records_right}
use Rattle.model.specs.Valid.{subject_at, state_at, exit_at, row_at, row_key, row_ascends, Held}
use Rattle.model.specs.File.{header_record, subject_record, state_record, exit_record, limit_record, headers, state_records, exit_records, limit_records, records_of}
use Rattle.model.specs.declared.Exit.{Exit}
use Rattle.model.specs.declared.Model.{Model}
use Rattle.model.specs.declared.Row.{Row}
use Rattle.model.specs.declared.State.{State}
use Rattle.model.specs.declared.Subject.{Subject}
use Rattle.model_promises.proofs.Back.{word_back, count_states, state_record_lem}
use Rattle.model.proofs.Facts.{GoodSubject, GoodModel, states_of, exits_of, has_state_lem}
use Rattle.model_promises.proofs.Keys.{kind_found, key_apart}
use Rattle.model.proofs.Lines.{length_headers, lined_all}
use Rattle.model.proofs.Packed.{Packed, Standing}
use Rattle.sets.proofs.Pieces.{zeros}

-- ---- fields

-- the exits of a state are no matter to the rule for its fields
state_fields : (s t : ℕ) (st : State) → state_fits st ≡ true → state_fits (state_of (state_record s t st) blank_exits) ≡ true
unfolding state_fits shape_of state_of with_exits stored_of
state_fields s t st h = rw (word_back st.after, word_back st.receivers) h

exit_fields : (kind s t x : ℕ) (e : Exit) → exit_fits kind e ≡ true → exit_right kind (exit_record s t x e) ≡ true
unfolding exit_right exit_of
exit_fields kind s t x e h = rw (h, zeros 6) (any (eqb kind 0))
  where
    any : (b : Bool) → (b || true) ≡ true
    any true = refl
    any false = refl

limit_fields : (s : ℕ) (w : Row) → row_fits w ≡ true → limit_right (limit_record s w) ≡ true
unfolding limit_right row_of
limit_fields s w h = rw h (zeros 8)

header_fields : (used : ℕ) (m : Model) → 1 ≤ m.n → m.n ≤ 16 → used ≡ suc m.n → header_right used 0 (header_record m.n m.start) ≡ true
unfolding header_right
header_fields used m l h e = and_true (and_true (within_true l h) (eq-eqb used (m.n + 1) (omega arith))) (zeros 9)

subject_fields : (used s n : ℕ) (sub : Subject) → s < n → GoodSubject n s sub → header_right used (suc s) (subject_record s sub) ≡ true
unfolding header_right
subject_fields used s n sub l g =
    rw (ne_eqb (suc s) 0 (λ e. omega arith)) (and_true (and_true (eq-eqb (s + 1) (suc s) (omega arith)) (within_true (g.some l) g.states)) (zeros 9))

-- ---- order

state_order : (s t : ℕ) (st : State) → order_of 2 (state_record s t st) ≡ t + 256 * s + 1
unfolding order_of
state_order s t st = refl

exit_order : (s t x : ℕ) (e : Exit) → order_of 3 (exit_record s t x e) ≡ x + 256 * (t + 256 * s) + 1
unfolding order_of
exit_order s t x e = refl

limit_order : (s : ℕ) (w : Row) → order_of 4 (limit_record s w) ≡ w.typ + 256 * (w.sender + 256 * s) + 1
unfolding order_of
limit_order s w = refl

none_order : (k : ℕ) → order_of k [] ≡ 0
unfolding order_of
none_order k = refl

-- a row that is not the first comes after the one before it
row_after : (sub : Subject) (k : ℕ) → row_ascends sub (suc k) ≡ true → row_key (row_at sub k) < row_key (row_at sub (suc k))
row_after sub k h =
    let z : suc k - 1 ≡ k = omega arith in
    ltb-true _ _ (rw (ne_eqb (suc k) 0 (λ e. omega arith), z) at h)

module _ (m : Model) (held : Held m) (good : GoodModel m) (file : List ℕ) (pk : Packed (records_of m) file) where
  own_kind_lem : (p x : ℕ) → p < 512 → x < exits_of m p → own_kind file (p % 32 + 256 * (p / 32)) ≡ (state_at m p).kind
  own_kind_lem p x l h =
      let q : p / 32 * 32 + p % 32 ≡ p = omega arith in
      let s : p / 32 < 16 = omega arith in
      let has = has_state_lem m good p x l h in
      let r = state_record_lem m held good file pk (p / 32) (p % 32) s has in
      rw (count_states m held good file pk)
      (kind_found file (p % 32 + 256 * (p / 32)) (sum_below (states_of m) 16) (place_in (states_of m) (p / 32) (p % 32))
      (omega (arith, sum_has (states_of m) (p / 32) 16 s)) (ap state_key r) one
      ∙ ap (λ (r : List ℕ). get_or r 2 0) r ∙ ap (λ (i : ℕ). (state_at m i).kind) q)
    where
      one : (i : ℕ) → i < sum_below (states_of m) 16 → state_key (record_no file 2 i) ≡ p % 32 + 256 * (p / 32) → i ≡ place_in (states_of m) (p / 32) (p % 32)
      one i li e =
          let a = spot (states_of m) 16 i li in
          let few = (good.subject a.g a.group).states in
          let inside = a.inside in
          let r = ap (λ (j : ℕ). state_key (record_no file 2 j)) a.place ∙ e in
          let k = sym (ap state_key (state_record_lem m held good file pk a.g a.k a.group a.inside)) ∙ r in
          let same = key_apart (p / 32) (p % 32) a.g a.k (omega arith) (omega arith) k in
          sym a.place ∙ rw (same.0, same.1)

  -- ---- the order of each kind

  pub states_ascend : (j : ℕ) → j < length (state_records m) → order_of 2 (cond (eqb j 0) [] (get_or (state_records m) (j - 1) [])) < order_of 2 (get_or (state_records m) j [])
  unfolding state_records
  states_ascend =
      line_ascends _ _ 16 (order_of 2) [] (none_order 2)
      (λ g k l h. rw (state_order g k (state_at m (g * 32 + k))) (omega arith))
      (λ g k l h. rw (state_order g k (state_at m (g * 32 + k)), state_order g (suc k) (state_at m (g * 32 + suc k))) (omega arith))
      (λ g k h l a b c d. let few = (good.subject g (omega arith)).states in rw (state_order g k (state_at m (g * 32 + k)), state_order h l (state_at m (h * 32 + l))) (omega arith))

  pub exits_ascend : (j : ℕ) → j < length (exit_records m) → order_of 3 (cond (eqb j 0) [] (get_or (exit_records m) (j - 1) [])) < order_of 3 (get_or (exit_records m) j [])
  unfolding exit_records
  exits_ascend =
      line_ascends _ _ 512 (order_of 3) [] (none_order 3)
      (λ g k l h. rw (exit_order (g / 32) (g % 32) k (exit_at (state_at m g) k)) (omega arith))
      (λ g k l h. rw (exit_order (g / 32) (g % 32) k (exit_at (state_at m g) k), exit_order (g / 32) (g % 32) (suc k) (exit_at (state_at m g) (suc k))) (omega arith))
      (λ g k h l a b c d.
      let few = (good.state g (omega arith)).small.exits in
      rw (exit_order (g / 32) (g % 32) k (exit_at (state_at m g) k), exit_order (h / 32) (h % 32) l (exit_at (state_at m h) l)) (omega arith))

  pub limits_ascend : (j : ℕ) → j < length (limit_records m) → order_of 4 (cond (eqb j 0) [] (get_or (limit_records m) (j - 1) [])) < order_of 4 (get_or (limit_records m) j [])
  unfolding limit_records
  limits_ascend =
      line_ascends _ _ 16 (order_of 4) [] (none_order 4)
      (λ g k l h. rw (limit_order g (row_at (subject_at m g) k)) (omega arith))
      (λ g k l h.
      let a = row_after (subject_at m g) k ((good.subject g l).ascends (suc k) h) in
      rw (limit_order g (row_at (subject_at m g) k), limit_order g (row_at (subject_at m g) (suc k))) (omega arith))
      (λ g k h l a b c d.
      let x = (good.subject g (omega arith)).row k c in
      let xs = x.sender in
      let xt = x.typ in
      rw (limit_order g (row_at (subject_at m g) k), limit_order h (row_at (subject_at m h) l)) (omega arith))

  -- ---- the fields of each kind

  states_fit : (j : ℕ) → j < length (state_records m) → fields_right file 2 (get_or (state_records m) j []) ≡ true
  unfolding state_records fields_right
  states_fit =
      lined_all (λ r. state_fits (state_of r blank_exits) ≡ true) _ _ 16 [] (λ s t ls lt.
      let few = (good.subject s ls).states in
      let p : s * 32 + t < 512 = omega arith in
      let a : (s * 32 + t) / 32 ≡ s = omega arith in
      let b : (s * 32 + t) % 32 ≡ t = omega arith in
      state_fields s t (state_at m (s * 32 + t)) ((good.state (s * 32 + t) p).fits (rw (a, b) lt)))

  exits_fit : (j : ℕ) → j < length (exit_records m) → fields_right file 3 (get_or (exit_records m) j []) ≡ true
  unfolding exit_records fields_right
  exits_fit =
      lined_all (λ r. exit_right (own_kind file (state_key r)) r ≡ true) _ _ 512 [] (λ p x lp lx.
      rw (own_kind_lem p x lp lx) (exit_fields (state_at m p).kind (p / 32) (p % 32) x (exit_at (state_at m p) x) ((good.state p lp).exit x lx).fits))

  limits_fit_lem : (j : ℕ) → j < length (limit_records m) → fields_right file 4 (get_or (limit_records m) j []) ≡ true
  unfolding limit_records fields_right
  limits_fit_lem =
      lined_all (λ r. limit_right r ≡ true) _ _ 16 [] (λ s k ls lk. limit_fields s (row_at (subject_at m s) k) ((good.subject s ls).row k lk).fits)

  headers_fit : (i : ℕ) → i < length (headers m) → header_right (used_of file 0) i (get_or (headers m) i []) ≡ true
  unfolding headers records_of
  headers_fit zero l = header_fields (used_of file 0) m good.low good.high (pk.header_count ∙ length_headers m)
  headers_fit (suc s) l =
      let h = good.high in
      let k = length_table (λ s. subject_record s (subject_at m s)) m.n in
      let ls : s < m.n = omega arith in
      rw (table_at (λ s. subject_record s (subject_at m s)) m.n s [] ls)
      (subject_fields (used_of file 0) s m.n (subject_at m s) ls (good.subject s (omega arith)))

  -- ---- every record

  -- a record after the header: in order, with its fields right
  later : (b i k : ℕ) (st : Standing (records_of m) file b i) → st.k ≡ k → 2 ≤ k
      → ((j : ℕ) → j < length (records_of m k) → order_of k (cond (eqb j 0) [] (get_or (records_of m k) (j - 1) [])) < order_of k (get_or (records_of m k) j []))
      → ((j : ℕ) → j < length (records_of m k) → fields_right file k (get_or (records_of m k) j []) ≡ true)
      → record_right file b i ≡ true
  unfolding record_right
  later b i k st e l asc fit =
      let kind = st.kind ∙ e in
      let below : st.j < length (records_of m k) = rw e at st.below in
      let before : record_before file b i ≡ cond (eqb st.j 0) [] (get_or (records_of m k) (st.j - 1) []) = rw e at (st.before (rw e l)) in
      let here : record_of file b i ≡ get_or (records_of m k) st.j [] = rw e at st.here in
      rw (kind, ne_eqb k 1 (λ q. omega arith), before, here) (and_true (lt-ltb _ _ (asc st.j below)) (fit st.j below))

  first : (b i : ℕ) (st : Standing (records_of m) file b i) → st.k ≡ 1 → record_right file b i ≡ true
  unfolding record_right records_of
  first b i st e =
      let h = st.header e in
      let kind = st.kind ∙ e in
      let below : st.j < length (headers m) = rw e at st.below in
      let here : record_of file b i ≡ get_or (headers m) st.j [] = rw e at st.here in
      rw (kind, here, h.0, h.1) (headers_fit i (rw h.1 at below))

  pub all_right : (b : ℕ) → b < blocks file → records_right file b ≡ true
  unfolding records_of
  all_right b l = all_by (record_right file b) (used_of file b) (λ i h. let st = pk.standing b i l h in go i st st.k refl st.low st.high)
    where
      go : (i : ℕ) (st : Standing (records_of m) file b i) (k : ℕ) → st.k ≡ k → 1 ≤ k → k ≤ 4 → record_right file b i ≡ true
      go i st zero e lo hi = absurd (omega arith)
      go i st (suc zero) e lo hi = first b i st e
      go i st (suc (suc zero)) e lo hi = later b i 2 st e (omega arith) states_ascend states_fit
      go i st (suc (suc (suc zero))) e lo hi = later b i 3 st e (omega arith) exits_ascend exits_fit
      go i st (suc (suc (suc (suc zero)))) e lo hi = later b i 4 st e (omega arith) limits_ascend limits_fit_lem
      go i st (suc (suc (suc (suc (suc k))))) e lo hi = absurd (omega arith)
