-- A block made of records: each part is read back as it was put in.
use Rattle.std.proofs.Common.{◌≡◌, ℕ, suc, ◌+◌, ◌-◌, ◌*◌, ◌/◌, ◌%◌, ◌^◌, ◌<◌, ◌≤◌, true, List, [], ◌∷◌, length, get_or, drop, replicate, refl, append_assoc, arith, length-append, take_at, get_or-append-add, drop_at, lt-ltb, eq-eqb}
use mathlib.Core.List.{foldl}
use lib.ListN.{length-replicate}
use Rattle.sets.proofs.Bytes.{Bytes, none, ◌&◌, append_bytes, zero_bytes}
use Rattle.sets.proofs.Tests.{and_true, within_true}
use Rattle.blocks.specs.Checks.{step_of, check_of}
use Rattle.blocks.specs.Blocks.{number_in, kind_in, used_in, body_in, record_in, check_right, room_right}
use Rattle.sets.specs.Stores.{joined}
use Rattle.blocks.specs.Made.{four_bytes, body_with, block_with}
use Rattle.sets.proofs.Pieces.{Each, length_joined, piece_at, joined_bytes, zeros}

-- ---- the check

-- the check is a number of four bytes
steps_below : (s : List ℕ) (c : ℕ) → c < 2 ^ 32 → foldl step_of c s < 2 ^ 32
steps_below [] c h = h
steps_below (x ∷ s) c h = steps_below s (step_of c x) (omega arith)

check_below : (s : List ℕ) → check_of s < 2 ^ 32
unfolding check_of
check_below s = steps_below s 1 (omega arith)

-- a number of four bytes is read back
four_back : (x : ℕ) → x < 2 ^ 32 → x % 256 + 256 * (x / 256 % 256) + 65536 * (x / 65536 % 256) + 16777216 * (x / 16777216) ≡ x
four_back x h = omega arith

four_bytes_lem : (x : ℕ) → x < 2 ^ 32 → Bytes (four_bytes x)
four_bytes_lem x h =
    let a : x % 256 < 256 = omega arith in
    let b : x / 256 % 256 < 256 = omega arith in
    let c : x / 65536 % 256 < 256 = omega arith in
    let d : x / 16777216 < 256 = omega arith in
    a & b & c & d & none

-- ---- the parts of a block

-- what stands past the first four
past_four : {A : Type 0} (w x y z : A) (s : List A) (n : ℕ) → drop (4 + n) (w ∷ x ∷ y ∷ z ∷ s) ≡ drop n s
past_four w x y z s n = rw (let e : 4 + n ≡ suc (suc (suc (suc n))) = omega arith in e)

-- records that a block can hold
pub record Fits (r : List (List ℕ)) : Type 0 where
  pub few : length r ≤ 42
  pub twelve : Each 12 r

module _ (b k : ℕ) {r : List (List ℕ)} (f : Fits r) where
  -- 508 bytes and the check: 512
  length_body : length (body_with b k r) ≡ 508
  unfolding body_with
  length_body =
      let n = length-replicate {A = ℕ} (504 - 12 * length r) 0 in
      omega (arith, length-append (joined r) (replicate (504 - 12 * length r) 0), length_joined 12 r f.twelve)

  pub length_block : length (block_with b k r) ≡ 512
  unfolding block_with
  length_block = omega (arith, length-append (body_with b k r) (four_bytes (check_of (body_with b k r))), length_body)

  -- kind, record count, number and body are read back
  pub kind_in_lem : kind_in (block_with b k r) ≡ k
  unfolding block_with body_with
  kind_in_lem = refl

  pub used_in_lem : used_in (block_with b k r) ≡ length r
  unfolding block_with body_with
  used_in_lem = refl

  number_in_lem : number_in (block_with b k r) ≡ b
  unfolding block_with body_with
  number_in_lem = omega arith

  body_in_lem : body_in (block_with b k r) ≡ body_with b k r
  unfolding block_with
  body_in_lem = take_at _ _ 508 length_body

  -- the last four bytes are the check
  check_byte : (i : ℕ) → get_or (block_with b k r) (508 + i) 0 ≡ get_or (four_bytes (check_of (body_with b k r))) i 0
  unfolding block_with
  check_byte i = rw (← length_body) (get_or-append-add (body_with b k r) _ i 0)

  pub check_right_lem : check_right (block_with b k r) ≡ true
  unfolding check_right
  check_right_lem =
      rw (check_byte 0, check_byte 1, check_byte 2, check_byte 3, body_in_lem) (eq-eqb _ _ (four_back _ (check_below (body_with b k r))))

  -- record i is read back
  pub record_in_lem : (i : ℕ) → i < length r → record_in (block_with b k r) i ≡ get_or r i []
  unfolding record_in block_with body_with
  record_in_lem i l =
      rw (lt-ltb i (length r) l, lt-ltb i 42 (omega arith), past_four, append_assoc (joined r)) (piece_at 12 r _ f.twelve i l)

  -- past the records all is zero
  room_zero : drop (4 + 12 * length r) (body_with b k r) ≡ replicate (504 - 12 * length r) 0
  unfolding body_with
  room_zero = rw past_four (drop_at (joined r) _ (12 * length r) (omega (arith, length_joined 12 r f.twelve)))

  -- number, count and unused room are right
  pub room_right_lem : 0 < length r → room_right b (block_with b k r) ≡ true
  unfolding room_right
  room_right_lem some =
      rw (used_in_lem, body_in_lem, room_zero) (and_true (and_true (eq-eqb _ _ number_in_lem) (within_true some f.few)) (zeros (504 - 12 * length r)))

  -- a block of bytes, where its records are bytes
  pub block_bytes_lem : b < 65536 → k < 256 → ((i : ℕ) → i < length r → Bytes (get_or r i [])) → Bytes (block_with b k r)
  unfolding block_with body_with
  block_bytes_lem small kind bytes =
      let lo : b % 256 < 256 = omega arith in
      let hi : b / 256 < 256 = omega arith in
      let used : length r < 256 = omega arith in
      append_bytes (lo & hi & kind & used & append_bytes (joined_bytes r bytes) (zero_bytes (504 - 12 * length r)))
      (four_bytes_lem _ (check_below (body_with b k r)))
