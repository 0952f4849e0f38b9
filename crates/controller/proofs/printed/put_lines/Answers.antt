use native.Mathlib.Omega.{arith}
use Rattle.controller.proofs.PrintedLaws.{lines_start, lines_room, lines_turn, lines_few}
use Rattle.controller.proofs.printed.put_lines.Goals as goal

pub loop-i-init : goal.loop-i-init
loop-i-init c = lines_start _ _ _ _

pub put_line-p-requires : goal.put_line-p-requires
put_line-p-requires c =
    let l = c.loop-i in
    lines_room _ _ _ c.args.out.now l.i l.p l.out l.invariant (omega (arith, c.loop-i-test.true, c.requires.tape_in_bounds_2)) (omega (arith, c.loop-i-test.true, c.requires.tape_in_bounds_2))

pub loop-i-preserved : goal.loop-i-preserved
loop-i-preserved c =
    let l = c.loop-i in
    lines_turn _ _ _ c.args.out.now l.i l.p l.out l.invariant (omega (arith, c.loop-i-test.true, c.requires.tape_in_bounds_2)) _ _ _ c.shown_of-shown.ensures c.put_line-p.ensures.place c.put_line-p.ensures.text

pub returns-clause-fits : goal.returns-clause-fits
returns-clause-fits c =
    let l = c.loop-i in
    omega (arith, lines_few _ _ _ c.args.out.now l.i l.p l.out l.invariant (omega (arith, l.auto.i-end, c.requires.tape_in_bounds_2)), l.auto.i-end)
