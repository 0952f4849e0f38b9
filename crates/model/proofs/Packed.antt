-- A file made of records: it passes stages 1 to 3, and its records are found again where the loader looks for them.
use mathlib.Core.Path.{◌≡◌, refl, ap, ◌∙◌}
use mathlib.Core.Bool.{Bool, true, false, ◌||◌, not, cond}
use mathlib.Core.List.{List, []}
use Prim.Native.Nat.{ℕ, zero, suc, ◌+◌, ◌-◌, ◌*◌, ◌%◌, ◌≤◌, ◌<◌}
use native.Mathlib.Nat.{zero-add}
use native.Mathlib.Omega.{arith}
use borrow.Author.Tests.{ltb-true, ltb-false, lt-ltb, le-leb, eqb-false, eq-eqb, ne_eqb}
use lib.Dec.{ltb, eqb}
use lib.ListN.{length, get_or}
use Rattle.sets.proofs.Bytes.{byte_at}
use Rattle.sets.proofs.Tests.{and_true, within_true}
use Rattle.blocks.specs.Blocks.{blocks, block_of, kind_of, used_of, record_of, record_no, count_of, check_right, room_right}
use Rattle.model.specs.Stages.{length_right, kind_right, full_right, block_right, record_before}
use Rattle.model.specs.File.{start_of, file_with}
use Rattle.sets.proofs.Pieces.{length_part}
use Rattle.blocks.proofs.Made.{check_right_lem, room_right_lem}
use Rattle.model.proofs.Places.{Place, Twelve, start_none, start_more, start_grows, place, in_file, kind_below, kind_from, fits, length_file, blocks_are, no_block, block_is, kind_at, used_at, record_at, file_bytes, no_is, count_of_lem}

-- records that a file can hold, by kind: `rs k` are those of kind k
pub record Sound (rs : ℕ → List (List ℕ)) : Type 0 where
  pub none : rs 0 ≡ []
  pub twelve : (k j : ℕ) → j < length (rs k) → length (get_or (rs k) j []) ≡ 12
  pub are_bytes : (k j i : ℕ) → get_or (get_or (rs k) j []) i 0 < 256
  pub some_header : 0 < length (rs 1)
  pub one_header : length (rs 1) ≤ 42
  pub fit : start_of rs 5 ≤ 43

-- record i of block b is record j of kind k
pub record Standing (rs : ℕ → List (List ℕ)) (file : List ℕ) (b i : ℕ) : Type 0 where
  pub k : ℕ
  pub j : ℕ
  pub kind : kind_of file b ≡ k
  pub low : 1 ≤ k
  pub high : k ≤ 4
  pub below : j < length (rs k)
  pub here : record_of file b i ≡ get_or (rs k) j []
  pub before : 2 ≤ k → record_before file b i ≡ cond (eqb j 0) [] (get_or (rs k) (j - 1) [])
  pub header : k ≡ 1 → (b ≡ 0) × (j ≡ i)

pub record Packed (rs : ℕ → List (List ℕ)) (file : List ℕ) : Type 0 where
  pub are_bytes : (i : ℕ) → get_or file i 0 < 256
  pub length_right_lem : length_right file ≡ true
  pub checks : (b : ℕ) → b < blocks file → check_right (block_of file b) ≡ true
  pub blocks_right : (b : ℕ) → b < blocks file → block_right file b ≡ true
  pub header_count : used_of file 0 ≡ length (rs 1)
  pub headers : (i : ℕ) → i < length (rs 1) → record_of file 0 i ≡ get_or (rs 1) i []
  pub counts : (k : ℕ) → 1 ≤ k → k ≤ 4 → count_of file k ≡ length (rs k)
  pub records : (k j : ℕ) → 1 ≤ k → k ≤ 4 → j < length (rs k) → record_no file k j ≡ get_or (rs k) j []
  pub standing : (b i : ℕ) → b < blocks file → i < used_of file b → Standing rs file b i

module _ (rs : ℕ → List (List ℕ)) (s : Sound rs) where
  -- the records have twelve bytes each
  sized : Twelve rs
  sized = record { each = s.twelve }

  -- there are no records of kind 0
  start_one : start_of rs 1 ≡ 0
  start_one = omega (arith, start_none rs, start_more rs 0, ap length s.none)

  -- kind 1 has block 0 and no other
  start_two : start_of rs 2 ≡ 1
  start_two = omega (arith, start_one, start_more rs 1, s.some_header, s.one_header)

  -- no block is of kind 0
  kind_low : {b : ℕ} (p : Place rs 5 b) → 1 ≤ p.k
  kind_low p = kind_from p 1 (omega (arith, start_one))

  -- ---- stages 1 to 3

  -- refusal 1: 1 to 43 whole blocks
  lengths : length_right (file_with rs) ≡ true
  unfolding length_right
  lengths =
      let l = length_file sized in
      let lo : 1 ≤ blocks (file_with rs) = omega (arith, start_two, start_grows rs 2 5 (omega arith)) in
      let hi : blocks (file_with rs) ≤ 43 = omega (arith, s.fit) in
      and_true (eq-eqb (length (file_with rs) % 512) 0 (omega arith)) (within_true lo hi)

  -- block 0 is the header; later kinds never fall
  kinds : {b : ℕ} → Place rs 5 b → kind_right b (kind_of (file_with rs) (b - 1)) (kind_of (file_with rs) b) ≡ true
  unfolding kind_right
  kinds {b = zero} p =
      rw (kind_at sized p) (eq-eqb p.k 1 (omega (arith, kind_low p, kind_below p 2 (omega (arith, start_two)))))
  kinds {b = suc b} p =
      let o = place rs 5 b (omega (arith, in_file p)) in
      let e : suc b - 1 ≡ b = omega arith in
      rw (e, kind_at sized p, kind_at sized o, ne_eqb (suc b) 0 (λ z. omega arith))
      (and_true (within_true (kind_from p 2 (omega (arith, start_two))) (omega (arith, p.below)))
      (le-leb _ _ (kind_from p o.k (omega (arith, o.at)))))

  -- past the blocks of a kind no block is of that kind
  past : (k b : ℕ) → 1 ≤ k → start_of rs (suc k) ≤ b → kind_of (file_with rs) b ≡ k → ⊥
  past k b low l e = go (ltb b (start_of rs 5)) refl
    where
      go : (t : Bool) → ltb b (start_of rs 5) ≡ t → ⊥
      go true t =
          let p = place rs 5 b (ltb-true _ _ t) in
          omega (arith, kind_at sized p, kind_from p (suc k) l)
      go false t = omega (arith, rw (no_block sized b (ltb-false _ _ t)) at e)

  -- a block that is not full is the last of its kind
  fulls : {b : ℕ} → Place rs 5 b → full_right (used_of (file_with rs) b) (kind_of (file_with rs) b) (kind_of (file_with rs) (b + 1)) ≡ true
  unfolding full_right
  fulls {b} p = go (eqb (used_of (file_with rs) b) 42) refl
    where
      go : (t : Bool) → eqb (used_of (file_with rs) b) 42 ≡ t → (t || not (eqb (kind_of (file_with rs) (b + 1)) (kind_of (file_with rs) b))) ≡ true
      go true t = refl
      go false t =
          let d = eqb-false (used_of (file_with rs) b) 42 t in
          let l : start_of rs (suc p.k) ≤ b + 1 = omega (arith, used_at sized p, start_more rs p.k, p.at) in
          rw (kind_at sized p, ne_eqb _ _ (past p.k (b + 1) (kind_low p) l))

  -- refusal 2: the check of a block is that of its bytes
  checks : {b : ℕ} → Place rs 5 b → check_right (block_of (file_with rs) b) ≡ true
  checks {b} p = rw (block_is sized p) (check_right_lem b p.k (fits sized p))

  -- number, count and unused room of a block
  rooms : {b : ℕ} → Place rs 5 b → room_right b (block_of (file_with rs) b) ≡ true
  rooms {b} p =
      rw (block_is sized p) (room_right_lem b p.k (fits sized p) (omega (arith, length_part 42 (rs p.k) p.q, p.inside)))

  -- refusal 3: all of a block
  block_right_lem : {b : ℕ} → Place rs 5 b → block_right (file_with rs) b ≡ true
  unfolding block_right
  block_right_lem p = and_true (and_true (rooms p) (kinds p)) (fulls p)

  -- ---- the records

  -- block 0 is block 0 of kind 1
  abbrev heads : Place rs 5 0
  heads = record { k = 1; q = 0; below = omega arith; at = omega (arith, start_one); inside = omega (arith, s.some_header) }

  -- it has all records of kind 1
  head_count : used_of (file_with rs) 0 ≡ length (rs 1)
  head_count = used_at sized heads ∙ omega (arith, s.one_header)

  head_at : (i : ℕ) → i < length (rs 1) → record_of (file_with rs) 0 i ≡ get_or (rs 1) i []
  head_at i l = rw zero-add at (record_at sized heads i (rw head_count l))

  -- before record i: record i - 1, or the last of the block before, where that has the same kind
  before_at : {b : ℕ} (p : Place rs 5 b) → 2 ≤ p.k → (i : ℕ) → i < used_of (file_with rs) b
      → record_before (file_with rs) b i ≡ cond (eqb (p.q * 42 + i) 0) [] (get_or (rs p.k) (p.q * 42 + i - 1) [])
  unfolding record_before
  before_at {b} p h (suc i) l =
      let e : p.q * 42 + suc i - 1 ≡ p.q * 42 + i = omega arith in
      let m : suc i - 1 ≡ i = omega arith in
      rw (lt-ltb 0 (suc i) (omega arith), ne_eqb (p.q * 42 + suc i) 0 (λ z. omega arith), e, m) (record_at sized p i (omega arith))
  before_at {b} p h zero l = go p.q refl
    where
      positive : 0 < start_of rs p.k
      positive = omega (arith, start_two, start_grows rs 2 p.k h)

      go : (q : ℕ) → p.q ≡ q
          → cond (eqb (kind_of (file_with rs) (b - 1)) (kind_of (file_with rs) b)) (record_of (file_with rs) (b - 1) 41) []
          ≡ cond (eqb (p.q * 42 + 0) 0) [] (get_or (rs p.k) (p.q * 42 + 0 - 1) [])
      go zero e =
          let o = place rs 5 (b - 1) (omega (arith, in_file p)) in
          let d : o.k < p.k = kind_below o p.k (omega (arith, p.at, positive)) in
          rw (kind_at sized p, kind_at sized o, ne_eqb o.k p.k (λ z. omega arith), e)
      go (suc q) e =
          let o : Place rs 5 (b - 1) = record { k = p.k; q = q; below = p.below; at = omega (arith, p.at); inside = omega (arith, p.inside) } in
          let m : p.q * 42 + 0 - 1 ≡ q * 42 + 41 = omega arith in
          rw (kind_at sized p, kind_at sized o, eq-eqb p.k p.k refl, ne_eqb (p.q * 42 + 0) 0 (λ z. omega arith), m)
          (record_at sized o 41 (omega (arith, used_at sized o, p.inside)))

  -- every record of the file is one of the given
  stands : (b i : ℕ) → b < start_of rs 5 → i < used_of (file_with rs) b → Standing rs (file_with rs) b i
  stands b i h l =
      let p = place rs 5 b h in
      record {
        k = p.k;
        j = p.q * 42 + i;
        kind = kind_at sized p;
        low = kind_low p;
        high = omega (arith, p.below);
        below = omega (arith, used_at sized p);
        here = record_at sized p i l;
        before = λ k. before_at p k i l;
        header = λ e. omega (arith, ap (start_of rs) e, ap (λ (x : ℕ). length (rs x)) e, start_one, s.one_header, p.at, p.inside);
      }

pub packed : (rs : ℕ → List (List ℕ)) → Sound rs → Packed rs (file_with rs)
packed rs s = record {
  are_bytes = byte_at (file_bytes (sized rs s) (omega (arith, s.fit)) s.are_bytes);
  length_right_lem = lengths rs s;
  checks = λ b l. checks rs s (place rs 5 b (rw (blocks_are (sized rs s)) at l));
  blocks_right = λ b l. block_right_lem rs s (place rs 5 b (rw (blocks_are (sized rs s)) at l));
  header_count = head_count rs s;
  headers = head_at rs s;
  counts = λ k l h. count_of_lem (sized rs s) k h;
  records = λ k j l h. no_is (sized rs s) k j h;
  standing = λ b i l. stands rs s b i (rw (blocks_are (sized rs s)) at l);
}
