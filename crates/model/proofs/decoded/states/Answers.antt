use Rattle.std.proofs.Common.{◌≡◌, ◌+◌, ◌*◌, sym, ap, ◌∙◌, arith}
use Rattle.sets.proofs.Below.{sum_start, sum_turn, fill_start, fill_turn, fill_end}
use Rattle.model.specs.declared.Stored.{Stored}
use Rattle.model.proofs.DecodedLaws.{starts_few, places_few, states_at, exits_are, state_is}
use Rattle.model.proofs.decoded.states.Goals as goal

pub loop-s-init : goal.loop-s-init
loop-s-init c = (sym (sum_start _), sym (sum_start _), rw c.blank_stored-states.ensures (fill_start _ _ _))

pub overflow_add-start : goal.overflow_add-start
overflow_add-start c = omega (arith, c.loop-s.invariant.0, starts_few c.args.file.now c.type_inv.file c.loop-s.s)

pub overflow_add-place : goal.overflow_add-place
overflow_add-place c = omega (arith, c.loop-t.invariant.0, places_few c.args.file.now c.type_inv.file (c.loop-s.s * 32 + c.loop-t.t))

pub loop-t-preserved : goal.loop-t-preserved
loop-t-preserved c =
    let next : c.loop-s.s * 32 + (c.loop-t.t + 1) ≡ c.loop-s.s * 32 + c.loop-t.t + 1 = omega arith in
    let inv = c.loop-t.invariant in
    let own = states_at _ _ _ _ c.requires c.loop-s-test.true in
    let now = rw c.of-records.ensures at c.state_or_none-st.ensures in
    let is = now ∙ state_is _ _ _ _ _ c.loop-t-test.true own c.loop-s.invariant.0 _ inv.0 in
    (rw next (sum_turn _ _ _ _ inv.0 (ap (λ (s : Stored). s.exits) is ∙ exits_are _ _)), rw (next, inv.1) (fill_turn _ _ _ _ _ (omega arith) is))

pub overflow_add-start-in-loop-s : goal.overflow_add-start-in-loop-s
overflow_add-start-in-loop-s c = omega (arith, c.loop-s.invariant.0, starts_few c.args.file.now c.type_inv.file c.loop-s.s)

pub loop-s-preserved : goal.loop-s-preserved
loop-s-preserved c =
    let next : (c.loop-s.s + 1) * 32 ≡ c.loop-s.s * 32 + c.loop-t.t = omega arith in
    (sum_turn _ _ _ _ c.loop-s.invariant.0 (states_at _ _ _ _ c.requires c.loop-s-test.true), rw next c.loop-t.invariant.0, rw next c.loop-t.invariant.1)

pub returns : goal.returns
returns c = c.loop-s.invariant.2 ∙ fill_end _ _ _ _ (omega arith) (omega arith)
