-- A file that passes stages 1, 3 and 4, and whose records stand in place: every rule that one record shows holds in its model.
use mathlib.Core.Path.{◌≡◌, refl, sym, ap, ◌∙◌}
use mathlib.Core.Bool.{Bool, true, false, ◌&&◌, ◌||◌}
use mathlib.Core.List.{List}
use Prim.Native.Nat.{ℕ, zero, suc, ◌+◌, ◌-◌, ◌*◌, ◌/◌, ◌%◌, ◌≤◌, ◌<◌}
use native.Mathlib.Omega.{arith}
use borrow.Author.Tests.{ltb-true, ltb-false, lt-ltb, le-ltb, leb-true, eqb-true, eq-eqb, ne_eqb}
use lib.Dec.{ltb, leb, eqb}
use lib.ListN.{get_or, drop, get_or-replicate, get_or-eq_default}
use Rattle.sets.proofs.Bytes.{byte_at, bytes_by}
use Rattle.sets.specs.Below.{all_below, sum_below}
use Rattle.sets.specs.Groups.{place_in, in_places}
use Rattle.sets.specs.Tests.{within, all_zero}
use Rattle.sets.proofs.Tests.{Within, within_is, Both, and_true, and_both, choose}
use Rattle.sets.proofs.Below.{all_each, table_at, sum_grows, sum_has, sum_same}
use Rattle.sets.proofs.Groups.{in_places_at, length_in_places, spot}
use Rattle.blocks.proofs.BlockLaws.{record_from_bytes}
use Rattle.blocks.specs.Blocks.{first_block, record_no, count_of}
use Rattle.model.proofs.BlankLaws.{none_by}
use Rattle.model.specs.Decoded.{subjects_in, limits_in, rows_in, rows_from, subject_in, states_in, has_state, state_record_in, exits_in, stored_in, all_exits, model_of, state_named, exits_named, exits_named_in, owner_there, states_in_place, exits_in_place, limits_in_place, in_place}
use Rattle.model.specs.Records.{blank_exit, blank_exits, blank_row, blank_stored, state_of, stored_of, with_exits, exit_of, row_of, state_key, full_key}
use Rattle.model.specs.Rules.{shape_of, state_fits, exit_fits, row_fits}
use Rattle.model.specs.Stages.{own_kind, exit_right, limit_right, fields_right}
use Rattle.model.specs.Valid.{no_subject, subject_at, stored_at, exits_from, unpacked, state_at, exit_at, row_at, is_blank_exit, is_blank_row, is_blank_state, row_key, row_ascends, is_blank_subject, exits_before, first_right, exits_in_all, none_after, no_more_exits}
use Rattle.model.specs.declared.Exit.{Exit}
use Rattle.model.specs.declared.Model.{Model}
use Rattle.model.specs.declared.Row.{Row}
use Rattle.model.specs.declared.State.{State}
use Rattle.model.specs.declared.Stored.{Stored}
use Rattle.model.specs.declared.Subject.{Subject}
use Rattle.model_promises.specs.Loads.{AreBytes, Passes1, Passes3, Passes4}
use Rattle.model_promises.proofs.Ordered.{own_place}
use Rattle.model_promises.proofs.Keys.{kind_found, key_apart}
use Rattle.model_promises.proofs.Stacked.{subjects_within, states_within, fields_right_lem, keys_climb}

-- ---- what one record shows

pub record ShownSubject (n s : ℕ) (sub : Subject) : Type 0 where
  pub states : s < n → Within 1 sub.states 32
  pub rows : sub.rows ≤ 8
  pub gone : n ≤ s → is_blank_subject sub ≡ true
  pub row : (k : ℕ) → k < sub.rows → row_fits (row_at sub k) ≡ true
  pub ascends : (k : ℕ) → k < sub.rows → row_ascends sub k ≡ true
  pub blank : (k : ℕ) → k < 8 → sub.rows ≤ k → is_blank_row (row_at sub k) ≡ true

pub record ShownState (states t : ℕ) (st : State) : Type 0 where
  pub fits : t < states → state_fits st ≡ true
  pub gone : states ≤ t → is_blank_state st ≡ true
  pub exit : (x : ℕ) → x < 8 → x < st.exits → exit_fits st.kind (exit_at st x) ≡ true
  pub blank : (x : ℕ) → x < 8 → st.exits ≤ x → is_blank_exit (exit_at st x) ≡ true

pub record Shown (m : Model) : Type 0 where
  pub subjects : Within 1 m.n 16
  pub subject : (s : ℕ) → s < 16 → ShownSubject m.n s (subject_at m s)
  pub state : (p : ℕ) → p < 512 → ShownState (subject_at m (p / 32)).states (p % 32) (state_at m p)
  pub first : (p : ℕ) → p < 512 → first_right (subject_at m (p / 32)).states (p % 32) (exits_before m p) (stored_at m p).first ≡ true
  pub no_more : no_more_exits m ≡ true

-- ---- a group in its places

module _ {A : Type 0} (size : ℕ) (blank : A) (count : ℕ) (nth : ℕ → A) (i : ℕ) (l : i < size) where
  pub in_there : i < count → get_or (in_places size blank count nth) i blank ≡ nth i
  in_there h = in_places_at size blank count nth i blank l ∙ rw (lt-ltb i count h)

  in_gone : count ≤ i → get_or (in_places size blank count nth) i blank ≡ blank
  in_gone h = in_places_at size blank count nth i blank l ∙ rw (le-ltb i count h)

-- ---- records in place

-- what in_place says, part by part
pub record Placed (file : List ℕ) : Type 0 where
  pub named : (p : ℕ) → p < 512 → state_named file p ≡ true
  pub states : count_of file 2 ≡ sum_below (states_in file) 16
  pub exits_named_lem : (p : ℕ) → p < 512 → exits_named_in file p ≡ true
  pub exits : count_of file 3 ≡ sum_below (exits_in file) 512
  pub owner : (j : ℕ) → j < count_of file 4 → owner_there file j ≡ true
  pub few : (s : ℕ) → s < 16 → limits_in file s ≤ 8

pub placed : (file : List ℕ) → in_place file ≡ true → Placed file
unfolding in_place states_in_place exits_in_place limits_in_place
placed file h =
    let c = and_both (states_in_place file && exits_in_place file) (limits_in_place file) h in
    let d = and_both (states_in_place file) (exits_in_place file) c.left in
    let s = and_both (all_below (state_named file) 512) (eqb (count_of file 2) (sum_below (states_in file) 16)) d.left in
    let x = and_both (all_below (exits_named_in file) 512) (eqb (count_of file 3) (sum_below (exits_in file) 512)) d.right in
    let l = and_both (all_below (owner_there file) (count_of file 4)) (all_below (λ s. leb (limits_in file s) 8) 16) c.right in
    record {
      named = all_each (state_named file) 512 s.left;
      states = eqb-true (count_of file 2) (sum_below (states_in file) 16) s.right;
      exits_named_lem = all_each (exits_named_in file) 512 x.left;
      exits = eqb-true (count_of file 3) (sum_below (exits_in file) 512) x.right;
      owner = all_each (owner_there file) (count_of file 4) l.left;
      few = λ s k. leb-true (limits_in file s) 8 (all_each (λ s. leb (limits_in file s) 8) 16 l.right s k);
    }

-- ---- what the fields of a record say

-- the exits of a state are no matter to the rule for its fields
any_exits : (r : List ℕ) (es : List Exit) → state_fits (state_of r blank_exits) ≡ true → state_fits (state_of r es) ≡ true
unfolding state_fits state_of with_exits
any_exits r es h = h

-- kind 0 has room for no number of exits
no_room : (exits : ℕ) → within (shape_of 0).least exits (shape_of 0).most ≡ true → ⊥
unfolding shape_of
no_room exits h = let w = within_is 1 exits 0 h in omega (arith, w.low, w.high)

kind_some : (st : State) → state_fits st ≡ true → st.kind ≡ 0 → ⊥
unfolding state_fits
kind_some st h e =
    let d = and_both _ _ h in
    let c = and_both _ _ d.left in
    let b = and_both _ _ c.left in
    let a = and_both (within (shape_of st.kind).least st.exits (shape_of st.kind).most) _ b.left in
    no_room st.exits (rw e at a.left)

row_right : (file r : List ℕ) → fields_right file 4 r ≡ true → Both (row_fits (row_of r)) (all_zero (drop 4 r))
unfolding fields_right limit_right
row_right file r h = and_both (row_fits (row_of r)) (all_zero (drop 4 r)) h

-- of one owner, sender and type ascend where all of the key does
row_after : (r t : List ℕ) → get_or r 0 0 ≡ get_or t 0 0 → full_key r < full_key t → ltb (row_key (row_of r)) (row_key (row_of t)) ≡ true
unfolding row_of
row_after r t e h = lt-ltb (get_or r 2 0 + 256 * get_or r 1 0) (get_or t 2 0 + 256 * get_or t 1 0) (omega arith)

state_right_lem : (file r : List ℕ) → fields_right file 2 r ≡ true → state_fits (state_of r blank_exits) ≡ true
unfolding fields_right
state_right_lem file r h = h

exit_right_lem : (file r : List ℕ) (kind : ℕ) → own_kind file (state_key r) ≡ kind → (kind ≡ 0 → ⊥) → fields_right file 3 r ≡ true
    → Both (exit_fits kind (exit_of r)) (all_zero (drop 6 r))
unfolding fields_right exit_right
exit_right_lem file r kind e some h = and_both (exit_fits kind (exit_of r)) (all_zero (drop 6 r)) (rw (e, ne_eqb kind 0 some) at h)

module _ (file : List ℕ) (bytes : AreBytes file) (p1 : Passes1 file) (p3 : Passes3 file) (p4 : Passes4 file) (pl : Placed file) where
  -- the bytes of a record
  a_byte : (k j i : ℕ) → get_or (record_no file k j) i 0 < 256
  a_byte k j = byte_at (record_from_bytes file (first_block file k) j (bytes_by file bytes))

  abbrev n : ℕ
  n = subjects_in file

  -- ---- rows

  abbrev owner : ℕ → ℕ
  owner j = get_or (record_no file 4 j) 0 0

  -- the limit records ascend, so their owners never fall
  owners_rise : (j : ℕ) → suc j < count_of file 4 → owner j ≤ owner (suc j)
  owners_rise j l =
      omega (arith, keys_climb file p1 p3 p4 4 j (omega arith) l, a_byte 4 j 1, a_byte 4 j 2, a_byte 4 (suc j) 1, a_byte 4 (suc j) 2)

  pub rows_are : (s : ℕ) → s < 16 → rows_in file s ≡ limits_in file s
  unfolding rows_in
  rows_are s l = omega (arith, pl.few s l)

  rows_few : (s : ℕ) → rows_in file s ≤ 8
  unfolding rows_in
  rows_few s = omega arith

  -- the number of the record of row k of subject s
  abbrev row_no : ℕ → ℕ → ℕ
  row_no s k = place_in (rows_in file) s k

  -- that record is there, and its owner is s
  pub row_place : (s k : ℕ) → s < 16 → k < rows_in file s → (row_no s k < count_of file 4) × (owner (row_no s k) ≡ s)
  unfolding limits_in
  row_place s k l h =
      rw (sum_same (rows_in file) (limits_in file) s (λ i m. rows_are i (omega arith)))
      (own_place owner (count_of file 4) owners_rise s k (rw (rows_are s l) at h))

  abbrev rows_at : ℕ → List Row
  rows_at s = rows_from file (first_block file 4) (sum_below (rows_in file) s) (rows_in file s)

  pub row_here : (s k : ℕ) → k < rows_in file s → get_or (rows_at s) k blank_row ≡ row_of (record_no file 4 (row_no s k))
  unfolding rows_from
  row_here s k h = in_there 8 blank_row (rows_in file s) _ k (omega (arith, rows_few s)) h

  row_gone : (s k : ℕ) → k < 8 → rows_in file s ≤ k → get_or (rows_at s) k blank_row ≡ blank_row
  unfolding rows_from
  row_gone s k l h = in_gone 8 blank_row (rows_in file s) _ k l h

  -- its fields are right, and what follows them is zero
  pub row_both : (s k : ℕ) → s < 16 → k < rows_in file s → Both (row_fits (row_of (record_no file 4 (row_no s k)))) (all_zero (drop 4 (record_no file 4 (row_no s k))))
  row_both s k l h = row_right file (record_no file 4 (row_no s k)) (fields_right_lem file p1 p3 p4 4 (row_no s k) (omega arith) (row_place s k l h).0)

  row_fits_lem : (s k : ℕ) → s < 16 → k < rows_in file s → row_fits (get_or (rows_at s) k blank_row) ≡ true
  row_fits_lem s k l h = rw (row_here s k h) (row_both s k l h).left

  row_climbs : (s k : ℕ) → s < 16 → k < rows_in file s
      → (eqb k 0 || ltb (row_key (get_or (rows_at s) (k - 1) blank_row)) (row_key (get_or (rows_at s) k blank_row))) ≡ true
  row_climbs s zero l h = refl
  row_climbs s (suc k) l h =
      let z : suc k - 1 ≡ k = omega arith in
      let a : k < rows_in file s = omega arith in
      let q : row_no s (suc k) ≡ suc (row_no s k) = omega arith in
      let x = row_place s k l a in
      let y = row_place s (suc k) l h in
      let c = keys_climb file p1 p3 p4 4 (row_no s k) (omega arith) (rw q at y.0) in
      rw (ne_eqb (suc k) 0 (λ e. omega arith), z, row_here s k a, row_here s (suc k) h)
      (row_after (record_no file 4 (row_no s k)) (record_no file 4 (row_no s (suc k))) (x.1 ∙ sym y.1) (rw q c))

  -- ---- subjects

  subject_shown : (s : ℕ) → s < 16 → ShownSubject n s (subject_in file s)
  unfolding subject_in
  subject_shown s l =
      choose (ShownSubject n s) (ltb s n)
      (λ e.
      let h = ltb-true s n e in
      record {
        states = λ _. states_within file p1 p3 p4 s h;
        rows = rows_few s;
        gone = λ g. absurd (omega arith);
        row = λ k m. row_fits_lem s k l m;
        ascends = λ k m. row_climbs s k l m;
        blank = λ k m g. rw (row_gone s k m g);
      })
      (λ e.
      let h = ltb-false s n e in
      record {
        states = λ g. absurd (omega arith);
        rows = omega arith;
        gone = λ _. refl;
        row = λ k m. absurd (omega arith);
        ascends = λ k m. absurd (omega arith);
        blank = λ k m g. rw (get_or-replicate 8 k blank_row blank_row m);
      })

  pub states_few : (s : ℕ) → states_in file s ≤ 32
  unfolding states_in subject_in
  states_few s =
      choose (λ (x : Subject). x.states ≤ 32) (ltb s n) (λ e. (states_within file p1 p3 p4 s (ltb-true s n e)).high) (λ e. omega arith)

  -- ---- states

  -- the number of the record of state t of subject s
  abbrev state_no : ℕ → ℕ → ℕ
  state_no s t = place_in (states_in file) s t

  pub state_place : (s t : ℕ) → s < 16 → t < states_in file s → state_no s t < count_of file 2
  state_place s t l h = omega (arith, pl.states, sum_has (states_in file) s 16 l)

  pub state_key_lem : (s t : ℕ) → s < 16 → t < states_in file s → state_key (record_no file 2 (state_no s t)) ≡ t + 256 * s
  unfolding state_named
  state_key_lem s t l h =
      let few = states_few s in
      let a : (s * 32 + t) / 32 ≡ s = omega arith in
      let b : (s * 32 + t) % 32 ≡ t = omega arith in
      eqb-true _ _ (rw (a, b, lt-ltb t (states_in file s) h) at (pl.named (s * 32 + t) (omega arith)))

  -- no other record has the key
  state_alone : (s t : ℕ) → s < 16 → t < states_in file s → (i : ℕ) → i < count_of file 2 → state_key (record_no file 2 i) ≡ t + 256 * s → i ≡ state_no s t
  state_alone s t l h i m e =
      let a = spot (states_in file) 16 i (rw pl.states at m) in
      let inside = a.inside in
      let few = states_few a.g in
      let own = states_few s in
      let k = sym (state_key_lem a.g a.k a.group a.inside) ∙ ap (λ (j : ℕ). state_key (record_no file 2 j)) a.place ∙ e in
      let same = key_apart s t a.g a.k (omega arith) (omega arith) k in
      sym a.place ∙ rw (same.0, same.1)

  -- so the kind of an exit's own state is that of the record in its place
  own_kind_lem : (s t : ℕ) → s < 16 → t < states_in file s → own_kind file (t + 256 * s) ≡ get_or (record_no file 2 (state_no s t)) 2 0
  own_kind_lem s t l h = kind_found file (t + 256 * s) (count_of file 2) (state_no s t) (state_place s t l h) (state_key_lem s t l h) (state_alone s t l h)

  state_fits_lem : (s t : ℕ) → s < 16 → t < states_in file s → (es : List Exit) → state_fits (state_of (record_no file 2 (state_no s t)) es) ≡ true
  state_fits_lem s t l h es =
      any_exits _ es (state_right_lem file (record_no file 2 (state_no s t)) (fields_right_lem file p1 p3 p4 2 (state_no s t) (omega arith) (state_place s t l h)))

  kind_not_zero : (s t : ℕ) → s < 16 → t < states_in file s → get_or (record_no file 2 (state_no s t)) 2 0 ≡ 0 → ⊥
  unfolding state_of with_exits stored_of
  kind_not_zero s t l h = kind_some (state_of (record_no file 2 (state_no s t)) blank_exits) (state_fits_lem s t l h blank_exits)

  -- ---- exits

  -- the number of the record of exit x of the state at place p
  abbrev exit_no : ℕ → ℕ → ℕ
  exit_no p x = place_in (exits_in file) p x

  pub exit_place : (p x : ℕ) → p < 512 → x < exits_in file p → exit_no p x < count_of file 3
  exit_place p x l h = omega (arith, pl.exits, sum_has (exits_in file) p 512 l)

  -- that record names the state at place p, and the exit
  pub exit_key : (p x : ℕ) → p < 512 → x < 8 → x < exits_in file p
      → (state_key (record_no file 3 (exit_no p x)) ≡ p % 32 + 256 * (p / 32)) × (get_or (record_no file 3 (exit_no p x)) 2 0 ≡ x)
  unfolding exits_named_in exits_named
  exit_key p x l m h =
      let e = eqb-true (full_key (record_no file 3 (exit_no p x))) (x + 256 * (p % 32 + 256 * (p / 32))) (all_each _ (exits_in file p) (pl.exits_named_lem p l) x h) in
      key_apart (p % 32 + 256 * (p / 32)) x (state_key (record_no file 3 (exit_no p x))) (get_or (record_no file 3 (exit_no p x)) 2 0)
      (omega arith) (a_byte 3 (exit_no p x) 2) e

  -- its fields are right, and what follows them is zero
  pub exit_both : (p x : ℕ) → p < 512 → x < 8 → x < exits_in file p → p % 32 < states_in file (p / 32)
      → Both (exit_fits (get_or (state_record_in file p) 2 0) (exit_of (record_no file 3 (exit_no p x)))) (all_zero (drop 6 (record_no file 3 (exit_no p x))))
  exit_both p x l m h has =
      let s : p / 32 < 16 = omega arith in
      exit_right_lem file (record_no file 3 (exit_no p x)) (get_or (state_record_in file p) 2 0)
      (ap (own_kind file) (exit_key p x l m h).0 ∙ own_kind_lem (p / 32) (p % 32) s has) (kind_not_zero (p / 32) (p % 32) s has)
      (fields_right_lem file p1 p3 p4 3 (exit_no p x) (omega arith) (exit_place p x l h))

  has_exit : (p : ℕ) {x : ℕ} → has_state file p ≡ true → x < get_or (state_record_in file p) 3 0 → x < exits_in file p
  unfolding exits_in
  has_exit p e h = rw e h

  -- ---- the exits as the model keeps them, where all fit

  module _ (fit : sum_below (exits_in file) 512 ≤ 1024) where
    -- where the exits of a state begin is small enough for its two bytes
    first_is : (p : ℕ) → p < 512 → sum_below (exits_in file) p % 65536 ≡ sum_below (exits_in file) p
    first_is p l = omega (arith, sum_grows (exits_in file) p 512 (omega arith))

    -- so each state says where its exits begin
    first_right_lem : (p : ℕ) → p < 512 → first_right (states_in file (p / 32)) (p % 32) (sum_below (exits_in file) p) (stored_in file p).first ≡ true
    unfolding first_right stored_in stored_of
    first_right_lem p l = go (has_state file p) refl
      where
        go : (b : Bool) → has_state file p ≡ b → first_right (states_in file (p / 32)) (p % 32) (sum_below (exits_in file) p) (stored_in file p).first ≡ true
        go true e = rw e (eq-eqb _ _ (first_is p l))
        go false e = rw e

    -- exit x of the state at place p is that of its record
    exit_says : (p x : ℕ) → p < 512 → x < exits_in file p
        → get_or (all_exits file) (sum_below (exits_in file) p % 65536 + x) blank_exit ≡ exit_of (record_no file 3 (exit_no p x))
    unfolding all_exits
    exit_says p x l h =
        let few = exit_place p x l h in
        rw (first_is p l) (in_there 1024 blank_exit (count_of file 3) (λ j. exit_of (record_no file 3 j)) (exit_no p x) (omega (arith, pl.exits)) few)

    -- the state at place p as the model shows it
    state_shown : (p : ℕ) → p < 512
        → ShownState (states_in file (p / 32)) (p % 32) (unpacked (all_exits file) (stored_in file p))
    unfolding stored_in stored_of with_exits state_of exits_from exit_of is_blank_state
    state_shown p l =
        choose (λ (st : Stored). ShownState (states_in file (p / 32)) (p % 32) (unpacked (all_exits file) st)) (has_state file p)
        (λ e.
        let h = ltb-true (p % 32) (states_in file (p / 32)) e in
        let exits = get_or (state_record_in file p) 3 0 in
        record {
          fits = λ _. state_fits_lem (p / 32) (p % 32) (omega arith) h _;
          gone = λ g. absurd (omega arith);
          exit = λ x m g.
              let i = has_exit p e g in
              rw (in_there 8 blank_exit exits _ x m g, exit_says p x l i) (exit_both p x l m i h).left;
          blank = λ x m g. rw (in_gone 8 blank_exit exits _ x m g);
        })
        (λ e.
        let h = ltb-false (p % 32) (states_in file (p / 32)) e in
        record {
          fits = λ g. absurd (omega arith);
          gone = λ _. refl;
          exit = λ x m g. absurd (omega arith);
          blank = λ x m g. rw (in_gone 8 blank_exit 0 _ x m (omega arith));
        })

-- ---- what the model of a file has at a place

module _ (file : List ℕ) where
  pub stored_at_lem : (p : ℕ) → p < 512 → stored_at (model_of file) p ≡ stored_in file p
  unfolding model_of
  stored_at_lem p l = table_at (stored_in file) 512 p blank_stored l

  -- as many exits as the state's record says
  pub stored_exits : (p : ℕ) → p < 512 → (state_at (model_of file) p).exits ≡ exits_in file p
  unfolding with_exits stored_in stored_of exits_in
  stored_exits p l = ap (λ (st : Stored). st.exits) (stored_at_lem p l) ∙ go (has_state file p) refl
    where
      go : (b : Bool) → has_state file p ≡ b → (stored_in file p).exits ≡ exits_in file p
      go true e = rw e
      go false e = rw e

  -- so the exits of the states before place p are those of the file
  pub before_is : (p : ℕ) → p ≤ 512 → exits_before (model_of file) p ≡ sum_below (exits_in file) p
  before_is p l = sum_same _ (exits_in file) p (λ q k. stored_exits q (omega arith))

  all_is : exits_in_all (model_of file) ≡ sum_below (exits_in file) 512
  unfolding exits_in_all
  all_is = before_is 512 (omega arith)

  -- past the last exit record the model has zeros
  none_after_lem : none_after (count_of file 3) (all_exits file) ≡ true
  unfolding all_exits
  none_after_lem = none_by _ (count_of file 3) (λ j g. go j g (ltb j 1024) refl)
    where
      go : (j : ℕ) → count_of file 3 ≤ j → (b : Bool) → ltb j 1024 ≡ b → get_or (all_exits file) j blank_exit ≡ blank_exit
      go j g true e = in_gone 1024 blank_exit (count_of file 3) (λ i. exit_of (record_no file 3 i)) j (ltb-true j 1024 e) g
      go j g false e =
          get_or-eq_default (all_exits file) blank_exit (omega (arith, ltb-false j 1024 e, length_in_places 1024 blank_exit (count_of file 3) (λ i. exit_of (record_no file 3 i))))

pub shown : (file : List ℕ) → AreBytes file → Passes1 file → Passes3 file → Passes4 file → in_place file ≡ true → exits_in_all (model_of file) ≤ 1024
    → Shown (model_of file)
unfolding model_of states_in no_more_exits
shown file bytes p1 p3 p4 e few =
    let pl = placed file e in
    let fit = rw (all_is file) at few in
    let all : exits_in_all (model_of file) ≡ count_of file 3 = all_is file ∙ sym pl.exits in
    record {
      subjects = subjects_within file p1 p3 p4;
      subject = λ s l. rw (table_at (subject_in file) 16 s no_subject l) (subject_shown file bytes p1 p3 p4 pl s l);
      state = λ p l. rw (table_at (subject_in file) 16 (p / 32) no_subject (omega arith), stored_at_lem file p l) (state_shown file bytes p1 p3 p4 pl fit p l);
      first = λ p l.
          rw (table_at (subject_in file) 16 (p / 32) no_subject (omega arith), stored_at_lem file p l, before_is file p (omega arith))
          (first_right_lem file bytes p1 p3 p4 pl fit p l);
      no_more = rw all (none_after_lem file);
    }
