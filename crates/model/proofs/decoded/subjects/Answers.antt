use Rattle.std.proofs.Common.{◌≤◌, sym, ◌∙◌, arith, rules}
use Rattle.sets.proofs.Below.{sum_start, sum_turn, fill_start, fill_turn, fill_end}
use Rattle.model.proofs.DecodedLaws.{rows_few}
use Rattle.model.proofs.decoded.subjects.Goals as goal
use Rattle.model.proofs.decoded.subjects.Goals.{After-rows_in-rows}

-- the rows of the subjects so far
few : (r : After-rows_in-rows) → r.loop-s.place ≤ 128
few r = omega (arith, rows_few r.args.file.now r.loop-s.s)

pub loop-s-init : goal.loop-s-init
loop-s-init c = (sym (sum_start _), rw c.blank_subject-subjects.ensures (fill_start _ _ _))

pub subject_in-requires : goal.subject_in-requires
subject_in-requires c =
    let limits = c.of-limits.ensures in
    let place = few (goal.at.subject_in-requires c).After-rows_in-rows in
    (search rules, c.rows_in-rows.ensures, rw limits c.loop-s.invariant.0, omega (arith, place))

pub overflow_add-place : goal.overflow_add-place
overflow_add-place c = omega (arith, few (goal.at.overflow_add-place c).After-rows_in-rows)

pub loop-s-preserved : goal.loop-s-preserved
loop-s-preserved c =
    let inv = c.loop-s.invariant in
    let limits = c.of-limits.ensures in
    (sum_turn _ _ _ _ inv.0 (rw limits at c.rows_in-rows.ensures), rw inv.1 (fill_turn _ _ _ _ _ c.loop-s-test.true (rw limits at c.subject_in.ensures)))

pub returns : goal.returns
returns c = c.loop-s.invariant.1 ∙ fill_end _ _ _ _ c.loop-s.auto.s-end c.loop-s-test.false
