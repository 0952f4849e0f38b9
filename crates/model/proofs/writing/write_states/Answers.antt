use mathlib.Core.Path.{refl, ◌∙◌}
use native.Mathlib.Omega.{arith}
use Rattle.model.proofs.Facts.{states_of, model_good}
use Rattle.model.proofs.KindLaws.{ready_for, states_lined, state_item, items_start, item_put, item_there, group_end, items_there, items_end}
use Rattle.model.proofs.writing.write_states.Goals as goal

pub loop-s-init : goal.loop-s-init
loop-s-init c = (refl, items_start _ 2 _ _ _ c.requires.1)

pub loop-t-init : goal.loop-t-init
loop-t-init c = (refl, λ old ready lay. lay)

pub bounds-m-s : goal.bounds-m-s
bounds-m-s c =
    let few = ((model_good _ c.requires.0.0).subject _ c.loop-s-test.true).states in
    omega (arith, c.loop-t-test.true, c.loop-s-test.true)

pub put-line-requires : goal.put-line-requires
put-line-requires c =
    let ready = ready_for c.args.m.now 2 c.args.buffer.now (omega arith) c.requires.0 in
    let m = c.args.m.now in
    item_there ready (states_of m) _ 16 (states_lined m) _ _ _ _ c.loop-s-test.true c.loop-t.auto.t-end (c.loop-t.invariant.1 _ ready c.loop-s.invariant.1)

pub loop-t-preserved : goal.loop-t-preserved
loop-t-preserved c =
    let ready = ready_for c.args.m.now 2 c.args.buffer.now (omega arith) c.requires.0 in
    let m = c.args.m.now in
    let t = c.loop-t-test.true in (
      c.put-line.auto.buffer ∙ c.loop-t.invariant.0,
      λ old ready lay. item_put ready (states_of m) _ 16 (states_lined m) _ _ _ _ _ _ _ c.loop-s-test.true t (c.state_record.ensures ∙ state_item m _ _ _) c.put-line.ensures.buffer c.put-line.ensures.line (c.loop-t.invariant.1 old ready lay),
    )

pub loop-s-preserved : goal.loop-s-preserved
loop-s-preserved c =
    let ready = ready_for c.args.m.now 2 c.args.buffer.now (omega arith) c.requires.0 in
    let inner = c.loop-t.invariant in
    let m = c.args.m.now in
    let inv = c.loop-s.invariant in
    (inner.0 ∙ inv.0, group_end ready (states_of m) _ 16 (states_lined m) _ _ _ _ c.loop-t.auto.t-end c.loop-t-test.false (inner.1 _ ready inv.1))

pub end-requires : goal.end-requires
end-requires c =
    let ready = ready_for c.args.m.now 2 c.args.buffer.now (omega arith) c.requires.0 in
    let m = c.args.m.now in
    let inv = c.loop-s.invariant in
    items_there ready (states_of m) _ 16 (states_lined m) _ _ _ c.loop-s.auto.s-end c.loop-s-test.false inv.1

pub returns : goal.returns
returns c =
    let ready = ready_for c.args.m.now 2 c.args.buffer.now (omega arith) c.requires.0 in
    let m = c.args.m.now in
    let inv = c.loop-s.invariant in
    let done = items_end ready (states_of m) _ 16 (states_lined m) _ _ _ _ _ c.loop-s.auto.s-end c.loop-s-test.false inv.1 c.end.ensures.buffer c.end.ensures.block in
    record { buffer = done.0; block = done.1 }
