use Rattle.std.specs.Prelude.{Ok}
use mathlib.Core.Path.{◌≡◌, sym, ap, ◌∙◌}
use mathlib.Core.Bool.{Bool, true}
use mathlib.Core.List.{List}
use Prim.Native.Nat.{ℕ, ◌*◌, ◌≤◌}
use native.Mathlib.Omega.{arith}
use lib.ListN.{length}
use Rattle.model.specs.File.{records_of, start_of, file_of}
use Rattle.model.specs.Valid.{valid}
use Rattle.model.specs.inner.Lines.{HasRoom}
use Rattle.model.specs.declared.Model.{Model}
use Rattle.model.proofs.Facts.{model_good}
use Rattle.model.proofs.Lines.{fits}
use Rattle.model.proofs.FileLaws.{file_length, four_kinds, not_valid, too_short, whole}
use Rattle.model.proofs.writing.write.Goals as goal

-- the test of the code says that the model is valid, and that of the length that there is room
is_valid : (m : Model) {right : Bool} → right ≡ valid m → right ≡ true → valid m ≡ true
is_valid m e t = sym e ∙ t

room_for : (m : Model) (old : List ℕ) (blocks : ℕ) {right : Bool} → right ≡ valid m → right ≡ true → blocks ≡ start_of (records_of m) 5 → 512 * blocks ≤ length old → HasRoom m old
room_for m old blocks e t is enough = (sym e ∙ t, omega (arith, is, enough))

-- a buffer that keeps its length has room as before
same_room : (m : Model) (old now : List ℕ) → HasRoom m old → length now ≡ length old → HasRoom m now
same_room m old now has e = (has.0, omega (arith, has.1, e))

pub returns-then-not-is_valid : goal.returns-then-not-is_valid
returns-then-not-is_valid c =
    let none = not_valid c.args.m c.args.buffer.now (sym c.is_valid.ensures ∙ c.if-not-is_valid.true) in
    record { answer = none.0; buffer = none.1 }

pub overflow_mul-bytes : goal.overflow_mul-bytes
overflow_mul-bytes c =
    let ok = is_valid _ c.is_valid.ensures c.if-not-is_valid.false in
    omega (arith, c.block_count-bytes.ensures, fits _ (model_good _ ok))

pub returns-then-buffer-bytes : goal.returns-then-buffer-bytes
returns-then-buffer-bytes c =
    let ok = is_valid _ c.is_valid.ensures c.if-not-is_valid.false in
    let m = c.args.m in
    let short = too_short m c.args.buffer.now ok (omega (arith, file_length m, c.block_count-bytes.ensures, c.if-buffer-bytes.true)) in
    record { answer = short.0; buffer = short.1 }

pub write_header-states-requires : goal.write_header-states-requires
write_header-states-requires c = room_for c.args.m c.args.buffer.now _ c.is_valid.ensures c.if-not-is_valid.false c.block_count-bytes.ensures (omega (arith, c.if-buffer-bytes.false))

pub write_states-exits-requires : goal.write_states-exits-requires
write_states-exits-requires c =
    let has = room_for c.args.m c.args.buffer.now _ c.is_valid.ensures c.if-not-is_valid.false c.block_count-bytes.ensures (omega (arith, c.if-buffer-bytes.false)) in
    (same_room _ _ _ has c.write_header-states.auto.buffer, c.write_header-states.ensures.block)

pub write_exits-limits-requires : goal.write_exits-limits-requires
write_exits-limits-requires c =
    let has = room_for c.args.m c.args.buffer.now _ c.is_valid.ensures c.if-not-is_valid.false c.block_count-bytes.ensures (omega (arith, c.if-buffer-bytes.false)) in
    (same_room _ _ _ has (c.write_states-exits.auto.buffer ∙ c.write_header-states.auto.buffer), c.write_states-exits.ensures.block)

pub write_limits-requires : goal.write_limits-requires
write_limits-requires c =
    let has = room_for c.args.m c.args.buffer.now _ c.is_valid.ensures c.if-not-is_valid.false c.block_count-bytes.ensures (omega (arith, c.if-buffer-bytes.false)) in
    (same_room _ _ _ has (c.write_exits-limits.auto.buffer ∙ c.write_states-exits.auto.buffer ∙ c.write_header-states.auto.buffer), c.write_exits-limits.ensures.block)

pub returns : goal.returns
returns c =
    let has = room_for c.args.m c.args.buffer.now _ c.is_valid.ensures c.if-not-is_valid.false c.block_count-bytes.ensures (omega (arith, c.if-buffer-bytes.false)) in
    let m = c.args.m in
    let old = c.args.buffer.now in
    let fits_in : length (file_of m) ≤ length old = omega (arith, file_length m, has.1) in
    let bytes = whole m old has.0 fits_in in
    let length_is : 512 * c.block_count-bytes.result ≡ length (file_of m) = omega (arith, file_length m, c.block_count-bytes.ensures) in record {
      answer = ap Ok length_is ∙ bytes.0;
      buffer = four_kinds m old _ _ _ _ fits_in c.write_header-states.ensures.buffer c.write_states-exits.ensures.buffer c.write_exits-limits.ensures.buffer c.write_limits.ensures ∙ bytes.1;
    }
