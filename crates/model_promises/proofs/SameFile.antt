-- Two files of bytes that pass stages 1 to 4 and have the same records are one file: how many records of each kind there are tells
-- where the blocks of the kind stand and how many records each has.
use mathlib.Core.Path.{◌≡◌, refl, sym, ap, ◌∙◌}
use mathlib.Core.Logic.{⊎_elim}
use mathlib.Core.Bool.{Bool, true, false}
use mathlib.Core.List.{List}
use Prim.Native.Nat.{ℕ, zero, suc, ◌+◌, ◌-◌, ◌*◌, ◌/◌, ◌%◌, ◌≤◌, ◌<◌, min}
use native.Mathlib.Nat.{eq-or-lt_of_le}
use native.Mathlib.Omega.{arith}
use borrow.Author.Tests.{ltb-true, ltb-false, lt-ltb, le-ltb, eqb-true}
use lib.Dec.{ltb, eqb}
use lib.ListN.{length, get_or, drop}
use lib.Seq.{get_or-take, get_or-drop, ext_get_or}
use Rattle.sets.specs.Below.{sum_below}
use Rattle.sets.proofs.Below.{none_count, count_bound}
use Rattle.sets.proofs.Bytes.{byte_at, bytes_by, take_bytes, drop_bytes}
use Rattle.sets.proofs.Tests.{Within, and_both}
use Rattle.blocks.specs.Blocks.{blocks, block_of, kind_of, used_of, record_of, first_block, count_of, record_no}
use Rattle.blocks.proofs.BlockLaws.{block_here, block_length}
use Rattle.model.specs.File.{blocks_for}
use Rattle.model.specs.Stages.{length_right}
use Rattle.sets.proofs.Pieces.{count_is}
use Rattle.model_promises.specs.Loads.{AreBytes}
use Rattle.model_promises.proofs.Loads.{Passed}
use Rattle.model_promises.proofs.Ordered.{count_less, less_more, less_first}
use Rattle.model_promises.proofs.Stacked.{Stacked, of_kind, from_first, among, stand, first_kind, later_kind, parts, stacked, record_at}
use Rattle.model_promises.proofs.Told.{Whole, same_block}

-- ---- where the blocks of a kind stand, and how full they are

module _ {kind used : ℕ → ℕ} {n : ℕ} (s : Stacked kind used n) (k : ℕ) where
  -- how many records of kind k there are
  abbrev total : ℕ
  total = sum_below (of_kind kind used k) n

  -- the first block of kind k, and the first past them
  abbrev from : ℕ
  from = count_less kind n k

  abbrev past : ℕ
  past = count_less kind n (suc k)

  -- a block of the kind stands before those of the next
  below_past : (b : ℕ) → b < n → kind b ≡ k → b < past
  below_past b h e = ltb-true b past (sym (less_first kind n s.rises (suc k) b h) ∙ lt-ltb (kind b) (suc k) (omega arith))

  -- and a block that stands between is of the kind
  from_kind : (b : ℕ) → from ≤ b → b < past → kind b ≡ k
  from_kind b l m =
      let h : b < n = omega (arith, count_bound (λ i. ltb (kind i) (suc k)) n) in
      let lo = ltb-false (kind b) k (less_first kind n s.rises k b h ∙ le-ltb b from l) in
      let hi = ltb-true (kind b) (suc k) (less_first kind n s.rises (suc k) b h ∙ lt-ltb b past m) in
      omega arith

  -- it has 42 records, or all that are left
  used_is : (b : ℕ) → b < n → kind b ≡ k → used b ≡ min 42 (total - (b - from) * 42)
  used_is b h e = go (ltb (used b) 42) refl (ltb ((b - from) * 42 + used b) total) refl
    where
      go : (t : Bool) → ltb (used b) 42 ≡ t → (u : Bool) → ltb ((b - from) * 42 + used b) total ≡ u → used b ≡ min 42 (total - (b - from) * 42)
      go true t true u =
          let l = ltb-true (used b) 42 t in
          let a = stand s k ((b - from) * 42 + used b) (ltb-true ((b - from) * 42 + used b) total u) in
          let same : a.b ≡ b = omega (arith, a.place, a.start, a.inside, s.few a.b a.there, from_first s k b h e) in
          absurd (omega (arith, a.place, a.inside, ap used same))
      go true t false u = omega (arith, ltb-false ((b - from) * 42 + used b) total u, among s k b h e, s.few b h)
      go false t u f = omega (arith, ltb-false (used b) 42 t, among s k b h e, s.few b h)

  -- the blocks of the kind have room for its records
  room_enough : total ≤ (past - from) * 42
  room_enough = go (ltb 0 total) refl
    where
      go : (t : Bool) → ltb 0 total ≡ t → total ≤ (past - from) * 42
      go true t =
          let l = ltb-true 0 total t in
          let a = stand s k (total - 1) (omega arith) in
          omega (arith, a.place, a.inside, a.start, s.few a.b a.there, below_past a.b a.there a.its_kind)
      go false t = omega (arith, ltb-false 0 total t)

  -- the last of them is needed
  last_needed : from < past → (past - 1 - from) * 42 < total
  last_needed l =
      let h : past - 1 < n = omega (arith, count_bound (λ i. ltb (kind i) (suc k)) n) in
      omega (arith, among s k (past - 1) h (from_kind (past - 1) (omega arith) (omega arith)), s.some (past - 1) h)

  -- so that many blocks are of the kind
  next_is : past ≡ from + blocks_for total
  next_is =
      let grows : from ≤ past = omega (arith, less_more kind n k) in
      ⊎_elim (λ (e : from ≡ past). omega (arith, room_enough)) (λ (l : from < past). omega (arith, room_enough, last_needed l)) (eq-or-lt_of_le grows)

-- ---- one file

module _ (file : List ℕ) (p : Passed file) where
  -- its blocks are stacked
  stack : Stacked (kind_of file) (used_of file) (blocks file)
  stack = stacked file p.one p.three p.four

  -- the file is whole blocks
  whole_blocks : length file ≡ blocks file * 512
  unfolding length_right
  whole_blocks = omega (arith, eqb-true (length file % 512) 0 (and_both (eqb (length file % 512) 0) _ p.one).left)

  -- each byte stands in one of them
  byte_is : (i : ℕ) → i < length file → get_or file i 0 ≡ get_or (block_of file (i / 512)) (i % 512) 0
  byte_is i l =
      let e : i / 512 * 512 + i % 512 ≡ i = omega arith in
      rw (block_here file (i / 512) (omega (arith, whole_blocks)))
      (sym (get_or-take 512 (drop (i / 512 * 512) file) (i % 512) 0 (omega arith)
      ∙ get_or-drop (i / 512 * 512) file (i % 512) 0 ∙ ap (λ (j : ℕ). get_or file j 0) e))

  -- each of them passes stages 2 and 3
  whole : AreBytes file → (b : ℕ) → b < blocks file → Whole b (block_of file b)
  whole bytes b l =
      record {
        long = block_length file b l;
        bytes = rw (block_here file b l) (byte_at (take_bytes 512 (drop_bytes (b * 512) (bytes_by file bytes))));
        check = p.two b l;
        room = (parts file b (p.three b l)).room;
      }

  -- the kinds are 1 to 4
  kind_within : (b : ℕ) → b < blocks file → Within 1 (kind_of file b) 4
  kind_within zero l = let e = first_kind _ _ (parts file 0 (p.three 0 l)).kind in record { low = omega arith; high = omega arith }
  kind_within (suc b) l =
      let w = (later_kind b _ _ (parts file (suc b) (p.three (suc b) l)).kind).0 in
      record { low = omega (arith, w.low); high = w.high }

  -- where the blocks of the kinds start: kind 1 at block 0, each next one behind the blocks of the one before, and the last end the file
  first_one : first_block file 1 ≡ 0
  unfolding first_block
  first_one = none_count _ (blocks file) (λ b l. le-ltb (kind_of file b) 1 (kind_within b l).low)

  first_more : (k : ℕ) → first_block file (suc k) ≡ first_block file k + blocks_for (count_of file k)
  unfolding first_block count_of
  first_more k = next_is stack k

  first_end : first_block file 5 ≡ blocks file
  unfolding first_block
  first_end = count_is _ (blocks file) (blocks file) (omega arith) (λ b l. lt-ltb (kind_of file b) 5 (omega (arith, (kind_within b l).high)) ∙ sym (lt-ltb b (blocks file) l))

  -- what tells the kind of a block
  kind_first : (k b : ℕ) → b < blocks file → ltb (kind_of file b) k ≡ ltb b (first_block file k)
  unfolding first_block
  kind_first k b l = less_first (kind_of file) (blocks file) stack.rises k b l

  -- how many records it has
  used_at : (k b : ℕ) → b < blocks file → kind_of file b ≡ k → used_of file b ≡ min 42 (count_of file k - (b - first_block file k) * 42)
  unfolding first_block count_of
  used_at k b l e = used_is stack k b l e

-- ---- two files

-- as many records of each kind, and the same
pub record SameRecords (f g : List ℕ) : Type 0 where
  pub counts : (k : ℕ) → 1 ≤ k → k ≤ 4 → count_of f k ≡ count_of g k
  pub records : (k j : ℕ) → 1 ≤ k → k ≤ 4 → j < count_of f k → record_no f k j ≡ record_no g k j

module _ (f g : List ℕ) (p : Passed f) (q : Passed g) (same : SameRecords f g) where
  -- the blocks of each kind start at the same place
  same_first : (k : ℕ) → k ≤ 4 → first_block f (suc k) ≡ first_block g (suc k)
  same_first zero h = first_one f p ∙ sym (first_one g q)
  same_first (suc k) h =
      rw (first_more f p (suc k), first_more g q (suc k), same_first k (omega arith), same.counts (suc k) (omega arith) h)

  same_start : (k : ℕ) → Within 1 k 5 → first_block f k ≡ first_block g k
  same_start zero w = absurd (omega (arith, w.low))
  same_start (suc k) w = same_first k (omega (arith, w.high))

  -- there are as many blocks
  same_blocks : blocks f ≡ blocks g
  same_blocks = sym (first_end f p) ∙ same_first 4 (omega arith) ∙ first_end g q

  module _ (b : ℕ) (l : b < blocks f) where
    abbrev k : ℕ
    k = kind_of f b

    low : 1 ≤ k
    low = (kind_within f p b l).low

    high : k ≤ 4
    high = (kind_within f p b l).high

    start : first_block f k ≡ first_block g k
    start = same_start k (record { low = low; high = omega (arith, high) })

    there : b < blocks g
    there = rw (← same_blocks) l

    -- a block has the same kind, as many records, and the same ones
    same_test : (v : ℕ) → first_block f v ≡ first_block g v → ltb (kind_of g b) v ≡ ltb k v
    same_test v e = kind_first g q v b there ∙ ap (ltb b) (sym e) ∙ sym (kind_first f p v b l)

    same_kind : kind_of g b ≡ k
    same_kind =
        let lo = ltb-false (kind_of g b) k (same_test k start ∙ le-ltb k k (omega arith)) in
        let hi = ltb-true (kind_of g b) (suc k) (same_test (suc k) (same_first k high) ∙ lt-ltb k (suc k) (omega arith)) in
        omega arith

    same_used : used_of f b ≡ used_of g b
    same_used =
        used_at f p k b l refl ∙ rw (same.counts k low high, start) (sym (used_at g q k b there same_kind))

    same_record : (i : ℕ) → i < used_of f b → record_of f b i ≡ record_of g b i
    same_record i h =
        let x = record_at f p.one p.three p.four k b i l refl h in
        let y = record_at g q.one q.three q.four k b i there same_kind (rw same_used at h) in
        sym x.1 ∙ same.records k _ low high x.0 ∙ rw start y.1

    -- so it is the same block
    same_part : AreBytes f → AreBytes g → block_of f b ≡ block_of g b
    unfolding record_of
    same_part bf bg =
        same_block b (block_of f b) (block_of g b) (whole f p bf b l) (whole g q bg b there) (sym same_kind) same_used same_record

  -- so the files are one
  pub same_file : AreBytes f → AreBytes g → f ≡ g
  same_file bf bg =
      let e = same_blocks in
      let long = whole_blocks f p in
      ext_get_or 0 f g (omega (arith, whole_blocks g q))
      (λ i h. byte_is f p i h ∙ ap (λ (block : List ℕ). get_or block (i % 512) 0) (same_part (i / 512) (omega arith) bf bg)
      ∙ sym (byte_is g q i (omega (arith, whole_blocks g q))))
