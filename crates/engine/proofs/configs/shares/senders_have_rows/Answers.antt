use Rattle.std.proofs.Common.{sym, ◌∙◌}
use Rattle.sets.proofs.Below.{all_start, all_more, all_stop, all_end}
use Rattle.engine.proofs.configs.shares.senders_have_rows.Goals as goal
use Rattle.engine.proofs.configs.shares.senders_have_rows.Goals.{else-can_send-via-then-can_send+else-not-has_row, else-can_send-via-else-can_send}

pub loop-s-init : goal.loop-s-init
loop-s-init c = all_start _

pub returns-then-not-has_row : goal.returns-then-not-has_row
returns-then-not-has_row c =
    sym (all_stop _ _ _ c.loop-s-test.true (rw (sym c.can_send.ensures ∙ c.if-can_send.true, sym c.has_row.ensures ∙ c.if-not-has_row.true)))

pub loop-s-preserved : goal.loop-s-preserved
loop-s-preserved c =
    all_more _ _ c.loop-s.invariant
    (elim c.else-can_send.branch [
      | else-can_send-via-then-can_send+else-not-has_row w ↦ rw (sym c.can_send.ensures ∙ w.if-can_send.true, sym w.has_row.ensures ∙ w.if-not-has_row.false)
      | else-can_send-via-else-can_send w ↦ rw (sym c.can_send.ensures ∙ w.if-can_send.false)
    ])

pub returns : goal.returns
returns c = sym (all_end _ _ _ c.loop-s.auto.s-end c.loop-s-test.false c.loop-s.invariant)
