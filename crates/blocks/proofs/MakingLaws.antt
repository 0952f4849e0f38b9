-- A block is closed in three stores: number, kind and count before its records; zeros behind them; the check at its end.
use Rattle.std.proofs.Common.{◌≡◌, ℕ, ◌+◌, ◌-◌, ◌*◌, ◌<◌, ◌≤◌, List, [], ◌∷◌, ◌++◌, length, take, drop, replicate, sym, refl, ap, ◌∙◌, arith, length-append, length-drop, length-take-le, le-ltb, lt-ltb, le-leb}
use borrow.Author.Tests.{lt-leb}
use lib.ListN.{length-replicate}
use mathlib.Core.List.{append_assoc}
use lib.Seq.{sets-eq, drop-drop}
use borrow.Rule.Slice.PartMut.{put_mid}
use Rattle.sets.specs.Stores.{joined, stored}
use Rattle.sets.proofs.Pieces.{Each, length_joined}
use Rattle.sets.proofs.Stores.{length_stored, behind_stored, read_stored, stored_there, stored_over, stored_more}
use Rattle.blocks.specs.Blocks.{blocks}
use Rattle.blocks.specs.Checks.{check_of}
use Rattle.blocks.specs.Made.{two_bytes, four_bytes, body_of, checked, body_with, block_with, with_record, records_in, sealed}

-- a part of a buffer that has become these bytes
pub part_stored : (old : List ℕ) (p k : ℕ) (now bytes : List ℕ) → now ≡ bytes → k ≡ length bytes → p + length bytes ≤ length old
    → put_mid p k old now ≡ stored old p bytes
unfolding stored
part_stored old p k now bytes e n h =
    rw (e, n)
    (ap (λ (t : List ℕ). take p old ++ (bytes ++ t)) (drop-drop (length bytes) p old)
    ∙ sym (append_assoc (take p old) bytes (drop (p + length bytes) old))
    ∙ sym (sets-eq bytes old p h))

-- what a block is closed with has 508 bytes
length_body : (b kind used : ℕ) (bytes : List ℕ) → used ≤ 42 → length bytes ≡ 12 * used → length (body_of b kind used bytes) ≡ 508
length_body b kind used bytes few long =
    omega (arith, length-append bytes (replicate (504 - 12 * used) 0), length-replicate {A = ℕ} (504 - 12 * used) 0)

module _ (b kind used : ℕ) (old : List ℕ) (few : used ≤ 42) (whole : b * 512 + 512 ≤ length old) where
  abbrev records : List ℕ
  records = records_in old b used

  abbrev body : List ℕ
  body = body_of b kind used records

  long : length records ≡ 12 * used
  long = length-take-le (12 * used) (drop (b * 512 + 4) old) (omega (arith, length-drop (b * 512 + 4) old))

  -- the records stand behind the head
  headed : (now : List ℕ) → now ≡ stored old (b * 512) (two_bytes b ++ kind ∷ used ∷ []) → now ≡ stored old (b * 512) (two_bytes b ++ kind ∷ used ∷ records)
  headed now e =
      let same : drop (b * 512 + 4) now ≡ drop (b * 512 + 4) old =
      ap (drop (b * 512 + 4)) e ∙ behind_stored (two_bytes b ++ kind ∷ used ∷ []) old (b * 512) (b * 512 + 4) (omega arith) in
      let n : length now ≡ length old = ap length e ∙ length_stored old (b * 512) _ in
      let there = stored_there now (b * 512 + 4) (12 * used) (omega arith) in
      stored_more old now now (two_bytes b ++ kind ∷ used ∷ []) records (b * 512) (b * 512 + 4) e
      (there ∙ ap (λ (l : List ℕ). stored now (b * 512 + 4) (take (12 * used) l)) same) refl

  pub seals : (one two next : List ℕ) → one ≡ stored old (b * 512) (two_bytes b ++ kind ∷ used ∷ [])
      → two ≡ stored one (b * 512 + 4 + 12 * used) (replicate (504 - 12 * used) 0)
      → next ≡ stored two (b * 512 + 508) (four_bytes (check_of (take 508 (drop (b * 512) two))))
      → next ≡ stored old (b * 512) (checked body)
  seals one two next e f g =
      let all : two ≡ stored old (b * 512) body =
      stored_more old one two (two_bytes b ++ kind ∷ used ∷ records) (replicate (504 - 12 * used) 0) (b * 512) (b * 512 + 4 + 12 * used) (headed one e) f (omega (arith, long)) in
      let size = length_body b kind used records few long in
      let read : take 508 (drop (b * 512) two) ≡ body =
      ap (λ (l : List ℕ). take 508 (drop (b * 512) l)) all
      ∙ ap (λ (k : ℕ). take k (drop (b * 512) (stored old (b * 512) body))) (sym size)
      ∙ read_stored old (b * 512) body (omega arith) in
      stored_more old two next body (four_bytes (check_of body)) (b * 512) (b * 512 + 508) all
      (g ∙ ap (λ (l : List ℕ). stored two (b * 512 + 508) (four_bytes (check_of l))) read) (ap (λ (k : ℕ). b * 512 + k) (sym size))

-- ---- where a record has its place

module _ (old : List ℕ) (b i : ℕ) (r : List ℕ) where
  pub record_there : b < blocks old → i < 42 → stored old (b * 512 + (4 + i * 12)) r ≡ with_record old b i r
  unfolding with_record
  record_there l h = rw (lt-ltb b (blocks old) l, lt-ltb i 42 h)

-- ---- where a block is closed, and where not

module _ (old : List ℕ) (b kind used : ℕ) where
  pub seal_there : b < blocks old → b < 65536 → used ≤ 42 → stored old (b * 512) (checked (body_of b kind used (records_in old b used))) ≡ sealed old b kind used
  unfolding sealed
  seal_there l h f = rw (lt-ltb b (blocks old) l, lt-ltb b 65536 h, le-leb used 42 f)

  pub seal_past : blocks old ≤ b → old ≡ sealed old b kind used
  unfolding sealed
  seal_past l = rw (le-ltb b (blocks old) l)

  pub seal_far : b < blocks old → 65536 ≤ b → old ≡ sealed old b kind used
  unfolding sealed
  seal_far l h = rw (lt-ltb b (blocks old) l, le-ltb b 65536 h)

  pub seal_many : b < blocks old → b < 65536 → 42 < used → old ≡ sealed old b kind used
  unfolding sealed
  seal_many l h f = rw (lt-ltb b (blocks old) l, lt-ltb b 65536 h, lt-leb used 42 f)

-- a block into which records were put, and which is closed, is the block made of them
pub seal_made : (base now : List ℕ) (b kind : ℕ) (rs : List (List ℕ)) → length rs ≤ 42 → Each 12 rs → b * 512 + 512 ≤ length base → b < 65536
    → now ≡ stored base (b * 512 + 4) (joined rs) → sealed now b kind (length rs) ≡ stored base (b * 512) (block_with b kind rs)
unfolding block_with body_with
seal_made base now b kind rs few twelve whole small e =
    let size = length_joined 12 rs twelve in
    let n : length now ≡ length base = ap length e ∙ length_stored base (b * 512 + 4) (joined rs) in
    let read : records_in now b (length rs) ≡ joined rs =
    ap (λ (k : ℕ). take k (drop (b * 512 + 4) now)) (let h : 12 * length rs ≡ length (joined rs) = omega (arith, size) in h)
    ∙ ap (λ (l : List ℕ). take (length (joined rs)) (drop (b * 512 + 4) l)) e
    ∙ read_stored base (b * 512 + 4) (joined rs) (omega (arith, size)) in
    let block : List ℕ = checked (body_of b kind (length rs) (joined rs)) in
    let long : length block ≡ 512 = omega (arith, length-append (body_of b kind (length rs) (joined rs)) (four_bytes (check_of (body_of b kind (length rs) (joined rs)))), length_body b kind (length rs) (joined rs) few (omega (arith, size))) in
    sym (seal_there now b kind (length rs) (omega arith) small few)
    ∙ ap (λ (r : List ℕ). stored now (b * 512) (checked (body_of b kind (length rs) r))) read
    ∙ ap (λ (l : List ℕ). stored l (b * 512) block) e
    ∙ stored_over base (joined rs) block (b * 512 + 4) (b * 512) (omega arith) (omega (arith, size)) (omega arith)
