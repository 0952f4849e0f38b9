-- What tells a block: two blocks of bytes that pass stages 2 and 3 and have one number, one kind and the same records are one block.
use mathlib.Core.Path.{◌≡◌, refl, sym, ap, ◌∙◌}
use mathlib.Core.Bool.{Bool, true, false, ◌&&◌}
use mathlib.Core.List.{List}
use Prim.Native.Nat.{ℕ, zero, suc, ◌+◌, ◌-◌, ◌*◌, ◌/◌, ◌%◌, ◌≤◌, ◌<◌}
use native.Mathlib.Omega.{arith}
use borrow.Author.Tests.{ltb-true, ltb-false, eqb-true}
use lib.Dec.{ltb, eqb}
use lib.ListN.{length, get_or, take, drop, length-take}
use lib.Seq.{get_or-take, get_or-drop, ext_get_or}
use Rattle.sets.specs.Tests.{within, all_zero}
use Rattle.sets.proofs.Tests.{Within, within_is, and_both}
use Rattle.sets.proofs.Pieces.{zero_at}
use Rattle.blocks.specs.Blocks.{number_in, kind_in, used_in, body_in, check_in, record_in, check_right, room_right}
use Rattle.blocks.specs.Checks.{check_of}
use Rattle.blocks.proofs.BlockLaws.{record_here}
use Rattle.model_promises.proofs.Keys.{key_apart}

-- ---- what stages 2 and 3 say of a block alone

-- its number, how many records it has, and that the room past them is zero
pub record Room (b : ℕ) (block : List ℕ) : Type 0 where
  pub number : number_in block ≡ b
  pub used : Within 1 (used_in block) 42
  pub zeros : (i : ℕ) → 4 + 12 * used_in block ≤ i → i < 508 → get_or block i 0 ≡ 0

pub room : (b : ℕ) (block : List ℕ) → room_right b block ≡ true → Room b block
unfolding room_right
room b block h =
    let d = and_both (eqb (number_in block) b && within 1 (used_in block) 42) (all_zero (drop (4 + 12 * used_in block) (body_in block))) h in
    let c = and_both (eqb (number_in block) b) (within 1 (used_in block) 42) d.left in
    record {
      number = eqb-true (number_in block) b c.left;
      used = within_is 1 (used_in block) 42 c.right;
      zeros = λ i l m.
          let e : 4 + 12 * used_in block + (i - (4 + 12 * used_in block)) ≡ i = omega arith in
          sym (get_or-take 508 block i 0 m) ∙ ap (λ (k : ℕ). get_or (body_in block) k 0) (sym e)
          ∙ sym (get_or-drop (4 + 12 * used_in block) (body_in block) (i - (4 + 12 * used_in block)) 0)
          ∙ zero_at _ d.right (i - (4 + 12 * used_in block));
    }

-- the check is that of its bytes
check_is : (block : List ℕ) → check_right block ≡ true → check_in block ≡ check_of (body_in block)
unfolding check_right
check_is block h = eqb-true (check_in block) (check_of (body_in block)) h

-- a byte of a record is a byte of its block
record_byte : (block : List ℕ) (i k : ℕ) → i < used_in block → i < 42 → k < 12 → get_or (record_in block i) k 0 ≡ get_or block (4 + i * 12 + k) 0
record_byte block i k l m n = rw (record_here block i l m) (get_or-take 12 (drop (4 + i * 12) block) k 0 n ∙ get_or-drop (4 + i * 12) block k 0)

-- ---- two blocks

-- numbers of four bytes that are equal have equal bytes
four_apart : (a b c d w x y z : ℕ) → a < 256 → b < 256 → c < 256 → w < 256 → x < 256 → y < 256
    → a + 256 * b + 65536 * c + 16777216 * d ≡ w + 256 * x + 65536 * y + 16777216 * z → (a ≡ w) × (b ≡ x) × (c ≡ y) × (d ≡ z)
four_apart a b c d w x y z la lb lc lw lx ly e = (omega arith, omega arith, omega arith, omega arith)

-- a block of bytes with number b that passes stages 2 and 3
pub record Whole (b : ℕ) (block : List ℕ) : Type 0 where
  pub long : length block ≡ 512
  pub bytes : (i : ℕ) → get_or block i 0 < 256
  pub check : check_right block ≡ true
  pub room : Room b block

-- two such with one kind and the same records
module _ (b : ℕ) (s t : List ℕ) (x : Whole b s) (y : Whole b t) (kind : kind_in s ≡ kind_in t) (used : used_in s ≡ used_in t)
    (records : (i : ℕ) → i < used_in s → record_in s i ≡ record_in t i) where
  -- their records and the room past them
  past_four : (i : ℕ) → 4 ≤ i → i < 508 → get_or s i 0 ≡ get_or t i 0
  past_four i l h = go (ltb i (4 + 12 * used_in s)) refl
    where
      go : (c : Bool) → ltb i (4 + 12 * used_in s) ≡ c → get_or s i 0 ≡ get_or t i 0
      go true e =
          let m = ltb-true i (4 + 12 * used_in s) e in
          let q : (i - 4) / 12 < used_in s = omega arith in
          let r : (i - 4) / 12 < 42 = omega (arith, x.room.used.high) in
          let k : (i - 4) % 12 < 12 = omega arith in
          let p : 4 + (i - 4) / 12 * 12 + (i - 4) % 12 ≡ i = omega arith in
          rw (← p) (sym (record_byte s ((i - 4) / 12) ((i - 4) % 12) q r k)
          ∙ ap (λ (w : List ℕ). get_or w ((i - 4) % 12) 0) (records ((i - 4) / 12) q)
          ∙ record_byte t ((i - 4) / 12) ((i - 4) % 12) (rw used at q) r k)
      go false e =
          let m = ltb-false i (4 + 12 * used_in s) e in
          x.room.zeros i m h ∙ sym (y.room.zeros i (rw used at m) h)

  -- the bytes of their number
  number_apart : (get_or s 1 0 ≡ get_or t 1 0) × (get_or s 0 0 ≡ get_or t 0 0)
  number_apart = key_apart (get_or t 1 0) (get_or t 0 0) (get_or s 1 0) (get_or s 0 0) (y.bytes 0) (x.bytes 0) (x.room.number ∙ sym y.room.number)

  -- all bytes before the check
  body_byte : (i : ℕ) → i < 508 → get_or s i 0 ≡ get_or t i 0
  body_byte zero h = number_apart.1
  body_byte (suc zero) h = number_apart.0
  body_byte (suc (suc zero)) h = kind
  body_byte (suc (suc (suc zero))) h = used
  body_byte (suc (suc (suc (suc i)))) h = past_four (suc (suc (suc (suc i)))) (omega arith) h

  same_body : body_in s ≡ body_in t
  same_body =
      let p = length-take 508 s in
      let q = length-take 508 t in
      ext_get_or 0 (take 508 s) (take 508 t) (omega (arith, x.long, y.long))
      (λ i l. let h : i < 508 = omega arith in get_or-take 508 s i 0 h ∙ body_byte i h ∙ sym (get_or-take 508 t i 0 h))

  -- so the check, and its bytes
  same_check : (get_or s 508 0 ≡ get_or t 508 0) × (get_or s 509 0 ≡ get_or t 509 0) × (get_or s 510 0 ≡ get_or t 510 0) × (get_or s 511 0 ≡ get_or t 511 0)
  same_check =
      four_apart _ _ _ _ _ _ _ _ (x.bytes 508) (x.bytes 509) (x.bytes 510) (y.bytes 508) (y.bytes 509) (y.bytes 510)
      (check_is s x.check ∙ ap check_of same_body ∙ sym (check_is t y.check))

  -- so the blocks are one
  pub same_block : s ≡ t
  same_block = ext_get_or 0 s t (x.long ∙ sym y.long) (λ i l. go i (omega (arith, x.long)) (ltb i 508) refl)
    where
      last : (k : ℕ) → k < 4 → get_or s (508 + k) 0 ≡ get_or t (508 + k) 0
      last zero h = same_check.0
      last (suc zero) h = same_check.1
      last (suc (suc zero)) h = same_check.2
      last (suc (suc (suc zero))) h = same_check.3
      last (suc (suc (suc (suc k)))) h = absurd (omega arith)

      go : (i : ℕ) → i < 512 → (c : Bool) → ltb i 508 ≡ c → get_or s i 0 ≡ get_or t i 0
      go i h true e = body_byte i (ltb-true i 508 e)
      go i h false e = let p : 508 + (i - 508) ≡ i = omega (arith, ltb-false i 508 e) in rw (← p) (last (i - 508) (omega (arith, ltb-false i 508 e)))
