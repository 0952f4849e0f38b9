-- Where the records stand in a file made of records: block b is block q of kind k, and has the records of that kind from q times 42 on.
use mathlib.Core.Path.{◌≡◌, refl, sym, ap, ◌∙◌}
use mathlib.Core.Bool.{Bool, true, false, not, cond}
use mathlib.Core.List.{List, [], ◌++◌, append-nil}
use Prim.Native.Nat.{ℕ, zero, suc, ◌+◌, ◌-◌, ◌*◌, ◌/◌, ◌%◌, ◌≤◌, ◌<◌, min}
use native.Mathlib.Omega.{arith}
use borrow.Author.Tests.{ltb-true, ltb-false, lt-ltb, le-ltb, eq-eqb, ne_eqb}
use lib.Dec.{ltb, eqb}
use lib.ListN.{length, get_or}
use Rattle.sets.proofs.Bytes.{Bytes, bytes_by}
use Rattle.sets.specs.Below.{sum_below, table}
use Rattle.sets.proofs.Below.{sum_grows, length_table, table_at}
use Rattle.blocks.specs.Blocks.{blocks, block_of, kind_of, used_of, record_of, first_block, count_of, record_from, record_no}
use Rattle.sets.specs.Stores.{joined, each_of}
use Rattle.blocks.specs.Made.{block_with}
use Rattle.sets.proofs.Stores.{each_add, each_same, length_each}
use Rattle.model.specs.inner.Lines.{kind_blocks}
use Rattle.model.specs.File.{blocks_for, start_of, kind_at_block, records_at_block, file_with}
use Rattle.sets.proofs.Pieces.{part, length_part, part_at, Each, length_joined, piece_at, joined_bytes, joined_table, sum_is, count_is, leb_not}
use Rattle.blocks.proofs.Made.{Fits, length_block, kind_in_lem, used_in_lem, record_in_lem, block_bytes_lem}

-- ---- kinds and their blocks

-- block b is block q of kind k, one of the first n kinds
pub record Place (rs : ℕ → List (List ℕ)) (n b : ℕ) : Type 0 where
  pub k : ℕ
  pub q : ℕ
  pub below : k < n
  pub at : b ≡ start_of rs k + q
  pub inside : q * 42 < length (rs k)

module _ (rs : ℕ → List (List ℕ)) where
  -- where the kinds start: kind 0 at block 0, each next one behind the blocks of the one before
  pub start_none : start_of rs 0 ≡ 0
  unfolding start_of sum_below
  start_none = refl

  pub start_more : (k : ℕ) → start_of rs (suc k) ≡ start_of rs k + blocks_for (length (rs k))
  unfolding start_of sum_below
  start_more k = refl

  pub start_grows : (m n : ℕ) → m ≤ n → start_of rs m ≤ start_of rs n
  unfolding start_of
  start_grows m n l = sum_grows _ m n l

  -- every block of the first n kinds has a place
  pub place : (n b : ℕ) → b < start_of rs n → Place rs n b
  place zero b l = absurd (omega (arith, start_none))
  place (suc n) b l = go (λ h. place n b h) (ltb b (start_of rs n)) refl
    where
      go : (b < start_of rs n → Place rs n b) → (t : Bool) → ltb b (start_of rs n) ≡ t → Place rs (suc n) b
      go ih true e =
          let p = ih (ltb-true b (start_of rs n) e) in
          record { k = p.k; q = p.q; below = omega (arith, p.below); at = p.at; inside = p.inside }
      go ih false e =
          let h = ltb-false b (start_of rs n) e in
          record { k = n; q = b - start_of rs n; below = omega arith; at = omega arith; inside = omega (arith, start_more n) }

-- the blocks of the kinds before k stand before those of kind k
ordered : {rs : ℕ → List (List ℕ)} {n b : ℕ} (p : Place rs n b) (k : ℕ) → ltb b (start_of rs k) ≡ ltb p.k k
ordered {rs} {b = b} p k = go (ltb p.k k) refl
  where
    go : (t : Bool) → ltb p.k k ≡ t → ltb b (start_of rs k) ≡ t
    go true e =
        lt-ltb b (start_of rs k) (omega (arith, start_more rs p.k, start_grows rs (suc p.k) k (ltb-true _ _ e), p.at, p.inside))
    go false e = le-ltb b (start_of rs k) (omega (arith, start_grows rs k p.k (ltb-false _ _ e), p.at))

-- a block of the first n kinds is before the first of kind n
pub in_file : {rs : ℕ → List (List ℕ)} {n b : ℕ} → Place rs n b → b < start_of rs n
in_file p = ltb-true _ _ (ordered p _ ∙ lt-ltb _ _ p.below)

module _ {rs : ℕ → List (List ℕ)} {n b : ℕ} (p : Place rs n b) (k : ℕ) where
  -- the kind of a block, told by where the kinds start
  pub kind_below : b < start_of rs k → p.k < k
  kind_below l = ltb-true _ _ (sym (ordered p k) ∙ lt-ltb _ _ l)

  pub kind_from : start_of rs k ≤ b → k ≤ p.k
  kind_from l = ltb-false _ _ (sym (ordered p k) ∙ le-ltb _ _ l)

-- the file gives block b the kind of its place
kind_is : {rs : ℕ → List (List ℕ)} {b : ℕ} (p : Place rs 5 b) → kind_at_block rs b ≡ p.k
unfolding kind_at_block
kind_is {rs} {b} p =
    count_is _ p.k 5 (omega (arith, p.below))
    (λ j l. leb_not (start_of rs (suc j)) b ∙ ap not (ordered p (suc j)) ∙ sym (leb_not (suc j) p.k))

-- ---- the file

-- every record has twelve bytes
pub record Twelve (rs : ℕ → List (List ℕ)) : Type 0 where
  pub each : (k : ℕ) → Each 12 (rs k)

module _ {rs : ℕ → List (List ℕ)} (t : Twelve rs) where
  -- block b as it is made
  pub made : ℕ → List ℕ
  made b = block_with b (kind_at_block rs b) (records_at_block rs b)

  -- by its place: the records from q times 42 on
  made_is : {b : ℕ} (p : Place rs 5 b) → made b ≡ block_with b p.k (part 42 (rs p.k) p.q)
  unfolding made records_at_block
  made_is {b} p =
      let e : b - start_of rs p.k ≡ p.q = omega (arith, p.at) in
      rw (kind_is p, e)

  -- a block can hold them
  parts_fit : (k q : ℕ) → Fits (part 42 (rs k) q)
  parts_fit k q =
      let e = length_part 42 (rs k) q in
      record { few = omega arith; twelve = λ i h. rw (part_at 42 (rs k) q [] i h) (t.each k _ (omega arith)) }

  pub fits : {b : ℕ} (p : Place rs 5 b) → Fits (part 42 (rs p.k) p.q)
  fits p = parts_fit p.k p.q

  -- every block has 512 bytes
  made_long : (b : ℕ) → length (made b) ≡ 512
  unfolding made records_at_block
  made_long b =
      let k = kind_at_block rs b in
      length_block b k (parts_fit k (b - start_of rs k))

  -- the blocks of one more kind
  pub kind_more : (k : ℕ) → k ≤ 4 → each_of made (start_of rs (suc k)) ≡ each_of made (start_of rs k) ++ kind_blocks rs k
  unfolding kind_blocks
  kind_more k h =
      ap (each_of made) (start_more rs k)
      ∙ each_add made (start_of rs k) (blocks_for (length (rs k)))
      ∙ ap (λ (x : List ℕ). each_of made (start_of rs k) ++ x)
      (each_same _ _ (blocks_for (length (rs k))) (λ q l. made_is (record { k = k; q = q; below = omega arith; at = refl; inside = omega arith })))

  pub length_made : (n : ℕ) → length (each_of made n) ≡ 512 * n
  length_made = length_each made 512 made_long

  -- the blocks of the file
  all_made : List (List ℕ)
  all_made = table made (start_of rs 5)

  made_at : (b : ℕ) → b < start_of rs 5 → get_or all_made b [] ≡ made b
  unfolding all_made
  made_at b l = table_at made (start_of rs 5) b [] l

  how_many : length all_made ≡ start_of rs 5
  unfolding all_made
  how_many = length_table made (start_of rs 5)

  each_made : Each 512 all_made
  each_made b l =
      let p = place rs 5 b (omega (arith, how_many)) in
      rw (made_at b (omega (arith, how_many)), made_is p) (length_block b p.k (fits p))

  file_is : file_with rs ≡ joined all_made
  unfolding file_with all_made made
  file_is = refl

  pub file_each : file_with rs ≡ each_of made (start_of rs 5)
  unfolding all_made
  file_each = file_is ∙ joined_table made (start_of rs 5)

  -- the file has that many blocks
  pub length_file : length (file_with rs) ≡ start_of rs 5 * 512
  length_file = rw (file_is, length_joined 512 all_made each_made, how_many)

  pub blocks_are : blocks (file_with rs) ≡ start_of rs 5
  blocks_are = omega (arith, length_file)

  -- past the end there is none
  pub no_block : (b : ℕ) → start_of rs 5 ≤ b → block_of (file_with rs) b ≡ []
  unfolding block_of
  no_block b l = rw (blocks_are, le-ltb b (start_of rs 5) l)

  -- block b is read as it was made
  pub block_is : {b : ℕ} (p : Place rs 5 b) → block_of (file_with rs) b ≡ block_with b p.k (part 42 (rs p.k) p.q)
  unfolding block_of
  block_is {b} p =
      let l = in_file p in
      rw (blocks_are, lt-ltb b (start_of rs 5) l, file_is, ← append-nil (joined all_made))
      (piece_at 512 all_made [] each_made b (omega (arith, how_many)) ∙ made_at b l ∙ made_is p)

  -- kind and record count of a block are those of its place
  pub kind_at : {b : ℕ} (p : Place rs 5 b) → kind_of (file_with rs) b ≡ p.k
  kind_at {b} p = rw (block_is p) (kind_in_lem b p.k (fits p))

  pub used_at : {b : ℕ} (p : Place rs 5 b) → used_of (file_with rs) b ≡ min 42 (length (rs p.k) - p.q * 42)
  used_at {b} p = rw (block_is p, used_in_lem b p.k (fits p)) (length_part 42 (rs p.k) p.q)

  -- record i of block q of a kind is record q times 42 + i of that kind
  pub record_at : {b : ℕ} (p : Place rs 5 b) (i : ℕ) → i < used_of (file_with rs) b
      → record_of (file_with rs) b i ≡ get_or (rs p.k) (p.q * 42 + i) []
  unfolding record_of
  record_at {b} p i l =
      let h : i < length (part 42 (rs p.k) p.q) = omega (arith, used_at p, length_part 42 (rs p.k) p.q) in
      rw (block_is p, record_in_lem b p.k (fits p) i h) (part_at 42 (rs p.k) p.q [] i h)

  -- the file is bytes where the records are
  pub file_bytes : start_of rs 5 ≤ 65536 → ((k j i : ℕ) → get_or (get_or (rs k) j []) i 0 < 256) → Bytes (file_with rs)
  file_bytes small bytes = rw file_is (joined_bytes all_made go)
    where
      go : (b : ℕ) → b < length all_made → Bytes (get_or all_made b [])
      go b h =
          let l : b < start_of rs 5 = omega (arith, how_many) in
          let p = place rs 5 b l in
          rw (made_at b l, made_is p)
          (block_bytes_lem b p.k (fits p) (omega arith) (omega (arith, p.below))
          (λ i h. rw (part_at 42 (rs p.k) p.q [] i h) (bytes_by _ (bytes p.k (p.q * 42 + i)))))

  -- ---- the records of one kind

  -- the first block of kind k is where it was put
  first_is : (k : ℕ) → k ≤ 5 → first_block (file_with rs) k ≡ start_of rs k
  unfolding first_block
  first_is k h =
      rw blocks_are
      (count_is _ (start_of rs k) (start_of rs 5) (start_grows rs k 5 h)
      (λ b l. let p = place rs 5 b l in ap (λ (x : ℕ). ltb x k) (kind_at p) ∙ sym (ordered p k)))

  -- record j of kind k is found
  pub no_is : (k j : ℕ) → k ≤ 4 → j < length (rs k) → record_no (file_with rs) k j ≡ get_or (rs k) j []
  unfolding record_from
  no_is k j h l =
      let p : Place rs 5 (start_of rs k + j / 42) = record { k = k; q = j / 42; below = omega arith; at = refl; inside = omega arith } in
      let e : j / 42 * 42 + j % 42 ≡ j = omega arith in
      rw (first_is k (omega arith), record_at p (j % 42) (omega (arith, used_at p)), e)

  -- how many records of kind k stand in the first b blocks
  abbrev up_to : ℕ → ℕ → ℕ
  up_to k b = min (length (rs k)) ((b - start_of rs k) * 42)

  -- each block adds its own
  count_step : (k : ℕ) {b : ℕ} (p : Place rs 5 b)
      → up_to k b + cond (eqb (kind_of (file_with rs) b) k) (used_of (file_with rs) b) 0 ≡ up_to k (suc b)
  count_step k {b} p = rw (kind_at p, used_at p) (go (ltb b (start_of rs k)) refl (ltb b (start_of rs (suc k))) refl)
    where
      go : (t : Bool) → ltb b (start_of rs k) ≡ t → (u : Bool) → ltb b (start_of rs (suc k)) ≡ u
          → up_to k b + cond (eqb p.k k) (min 42 (length (rs p.k) - p.q * 42)) 0 ≡ up_to k (suc b)
      go true t u f =
          let l = ltb-true b (start_of rs k) t in
          rw (ne_eqb p.k k (λ e. omega (arith, kind_below p k l))) (omega arith)
      go false t false u =
          let l = ltb-false b (start_of rs (suc k)) u in
          rw (ne_eqb p.k k (λ e. omega (arith, kind_from p (suc k) l))) (omega (arith, start_more rs k))
      go false t true u =
          let e : p.k ≡ k = omega (arith, kind_from p k (ltb-false _ _ t), kind_below p (suc k) (ltb-true _ _ u)) in
          let m : b ≡ start_of rs k + p.q = p.at ∙ rw e in
          rw (eq-eqb p.k k e, e) (omega arith)

  -- all records of kind k are counted
  pub count_of_lem : (k : ℕ) → k ≤ 4 → count_of (file_with rs) k ≡ length (rs k)
  unfolding count_of
  count_of_lem k h =
      rw blocks_are
      (sum_is _ (up_to k) (start_of rs 5) (omega arith) (λ b l. count_step k (place rs 5 b l))
      ∙ omega (arith, start_more rs k, start_grows rs (suc k) 5 (omega arith)))
