use native.Mathlib.Omega.{arith}
use lib.Count.{trailing_of_zero}
use Rattle.sets.proofs.Masks.{Least, least, shl_one}
use Rattle.sets.proofs.part.Goals as goal

pub returns-then-mask-eq0 : goal.returns-then-mask-eq0
returns-then-mask-eq0 c = rw (c.if-mask-eq0.true, trailing_of_zero 16)

pub overflow_cast-result : goal.overflow_cast-result
overflow_cast-result c =
    let law : Least 16 c.args.mask = (least 16 _ (omega arith) c.ranges.mask.fits) in
    let l = law in
    omega arith

pub overflow_cast-result-2 : goal.overflow_cast-result-2
overflow_cast-result-2 c =
    let law : Least 16 c.args.mask = (least 16 _ (omega arith) c.ranges.mask.fits) in
    let l = law in
    omega arith

pub overflow_shl-result : goal.overflow_shl-result
overflow_shl-result c =
    let law : Least 16 c.args.mask = (least 16 _ (omega arith) c.ranges.mask.fits) in
    (law).below

pub overflow_sub-result : goal.overflow_sub-result
overflow_sub-result c =
    let law : Least 16 c.args.mask = (least 16 _ (omega arith) c.ranges.mask.fits) in
    let l = law in
    let e = shl_one 16 _ l.below in
    omega arith

pub returns : goal.returns
returns c =
    let law : Least 16 c.args.mask = (least 16 _ (omega arith) c.ranges.mask.fits) in
    rw (shl_one 16 _ (law).below)
