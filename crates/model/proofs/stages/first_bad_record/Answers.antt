use Rattle.std.proofs.Common.{refl, sym, ◌∙◌}
use Rattle.sets.proofs.Below.{all_start, all_more, all_stop, all_end, first_start, first_more, first_found, first_end}
use Rattle.model.proofs.stages.first_bad_record.Goals as goal

pub search-init : goal.search-init
search-init c = (first_start _, refl)

pub loop-i-init : goal.loop-i-init
loop-i-init c = (all_start _, c.search.invariant.1)

pub loop-i-preserved : goal.loop-i-preserved
loop-i-preserved c =
    let inv = c.loop-i.invariant in
    (all_more _ _ inv.0 (sym c.record_right.ensures ∙ c.if-not-record_right.false), inv.1)

pub search-preserved : goal.search-preserved
search-preserved c =
    let used = rw c.block.ensures at c.byte-i-end.ensures in
    let inner = c.loop-i.invariant in
    (first_more _ _ c.search.invariant.0 (rw (← used) (all_end _ _ _ c.loop-i.auto.i-end c.loop-i-test.false inner.0)), inner.1)

pub returns-after-search : goal.returns-after-search
returns-after-search c =
    let inv = c.search.invariant in
    inv.1 ∙ sym (first_end _ _ _ c.search.auto.b-end c.search-test.false inv.0)

pub returns-then-not-record_right : goal.returns-then-not-record_right
returns-then-not-record_right c =
    let used = rw c.block.ensures at c.byte-i-end.ensures in
    let bad = all_stop _ _ _ c.loop-i-test.true (sym c.record_right.ensures ∙ c.if-not-record_right.true) in
    sym (first_found _ _ _ c.search.invariant.0 (rw (← used) bad) c.search-test.true)
