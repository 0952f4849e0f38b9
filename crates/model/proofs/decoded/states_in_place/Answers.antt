use Rattle.std.proofs.Common.{◌≡◌, ◌+◌, ◌*◌, eqb, sym, ap₂, arith}
use Rattle.sets.proofs.Below.{all_start, all_more, all_stop, all_end, sum_start, sum_turn, sum_end}
use Rattle.model.specs.Decoded.{states_in_place}
use Rattle.model.proofs.DecodedLaws.{starts_few, states_at, named_here, named_other, named_past}
use Rattle.model.proofs.decoded.states_in_place.Goals.{else-t-own-via-then-t-own+else-state_key-t, else-t-own-via-else-t-own}
use Rattle.model.proofs.decoded.states_in_place.Goals as goal

pub loop-s-init : goal.loop-s-init
loop-s-init c = (sym (sum_start _), all_start _)

pub overflow_add-start : goal.overflow_add-start
overflow_add-start c = omega (arith, c.loop-s.invariant.0, starts_few c.args.file.now c.type_inv.file c.loop-s.s)

pub returns-then-state_key-t : goal.returns-then-state_key-t
unfolding states_in_place
returns-then-state_key-t c =
    let own = states_at _ _ _ _ c.requires c.loop-s-test.true in
    let key = rw (c.get.ensures, c.of-records.ensures) at c.state_key.ensures in
    rw (all_stop _ (c.loop-s.s * 32 + c.loop-t.t) 512 (omega arith) (named_other _ _ _ _ _ c.loop-t-test.true own c.loop-s.invariant.0 _ key c.if-t-own.true c.if-state_key-t.true))

pub loop-t-preserved : goal.loop-t-preserved
loop-t-preserved c =
    let next : c.loop-s.s * 32 + (c.loop-t.t + 1) ≡ c.loop-s.s * 32 + c.loop-t.t + 1 = omega arith in
    let own = states_at _ _ _ _ c.requires c.loop-s-test.true in
    rw next
    (all_more _ _ c.loop-t.invariant
    (elim c.else-t-own.branch [
      | else-t-own-via-then-t-own+else-state_key-t w ↦ named_here _ _ _ _ _ c.loop-t-test.true own c.loop-s.invariant.0 _ (rw (w.get.ensures, c.of-records.ensures) at w.state_key.ensures) w.if-t-own.true w.if-state_key-t.false
      | else-t-own-via-else-t-own w ↦ named_past _ _ _ _ _ c.loop-t-test.true own c.loop-s.invariant.0 w.if-t-own.false
    ]))

pub overflow_add-start-in-loop-s : goal.overflow_add-start-in-loop-s
overflow_add-start-in-loop-s c = omega (arith, c.loop-s.invariant.0, starts_few c.args.file.now c.type_inv.file c.loop-s.s)

pub loop-s-preserved : goal.loop-s-preserved
loop-s-preserved c =
    let next : (c.loop-s.s + 1) * 32 ≡ c.loop-s.s * 32 + c.loop-t.t = omega arith in
    (sum_turn _ _ _ _ c.loop-s.invariant.0 (states_at _ _ _ _ c.requires c.loop-s-test.true), rw next c.loop-t.invariant)

pub returns : goal.returns
unfolding states_in_place
returns c =
    let inv = c.loop-s.invariant in
    rw (all_end _ (c.loop-s.s * 32) 512 (omega arith) (omega arith) inv.1)
    (ap₂ eqb (rw c.of-records.ensures at c.of-records.result.count_is) (sum_end _ _ _ _ (omega arith) (omega arith) inv.0))
