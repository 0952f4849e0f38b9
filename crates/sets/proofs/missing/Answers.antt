use mathlib.Core.Path.{sym, ap, ◌∙◌}
use Prim.Native.Nat.{◌-◌, ◌^◌, ◌<◌}
use native.Mathlib.Omega.{arith}
use lib.Bits.{bit_and, and_le_l}
use lib.Count.{ones-le}
use lib.ListN.{length}
use Rattle.sets.proofs.Masks.{ones_members, members_minus}
use Rattle.sets.proofs.missing.Goals as goal

pub overflow_cast-result : goal.overflow_cast-result
overflow_cast-result c =
    let small : bit_and c.args.receivers (65535 - c.args.placed) < 2 ^ 16 = (omega (arith, and_le_l c.args.receivers (65535 - c.args.placed), c.ranges.receivers.fits)) in
    let l = ones-le 16 _ (small) in
    omega arith

pub returns : goal.returns
returns c =
    let small : bit_and c.args.receivers (65535 - c.args.placed) < 2 ^ 16 = (omega (arith, and_le_l c.args.receivers (65535 - c.args.placed), c.ranges.receivers.fits)) in
    sym (ones_members 16 _ (small)) ∙ ap length (members_minus 16 c.args.receivers c.args.placed c.ranges.placed.fits)
