use mathlib.Core.Path.{refl, ap, ◌∙◌}
use native.Mathlib.Omega.{arith}
use Rattle.model.specs.File.{exit_record}
use Rattle.model.proofs.Facts.{model_good}
use Rattle.model.proofs.KindLaws.{ready_for, exits_lined, exits_kept, exit_item, exits_few, items_start, item_put, item_there, group_end, items_there, items_end}
use Rattle.model.proofs.writing.write_exits.Goals as goal

pub loop-p-init : goal.loop-p-init
loop-p-init c = (refl, items_start _ 3 _ _ _ c.requires.1)

pub loop-x-init : goal.loop-x-init
loop-x-init c = (refl, λ old ready lay. lay)

pub overflow_cast-x : goal.overflow_cast-x
overflow_cast-x c =
    let good = model_good _ c.requires.0.0 in
    omega (arith, exits_few _ good _ c.loop-p-test.true, c.loop-x-test.true)

pub put-line-requires : goal.put-line-requires
put-line-requires c =
    let ready = ready_for c.args.m.now 3 c.args.buffer.now (omega arith) c.requires.0 in
    let m = c.args.m.now in
    item_there ready (exits_kept m) _ 512 (exits_lined m) _ _ _ _ c.loop-p-test.true c.loop-x.auto.x-end (c.loop-x.invariant.1 _ ready c.loop-p.invariant.1)

pub loop-x-preserved : goal.loop-x-preserved
loop-x-preserved c =
    let ready = ready_for c.args.m.now 3 c.args.buffer.now (omega arith) c.requires.0 in
    let m = c.args.m.now in
    let t = c.loop-x-test.true in
    let good = model_good m c.requires.0.0 in (
      c.put-line.auto.buffer ∙ c.loop-x.invariant.0,
      λ old ready lay. item_put ready (exits_kept m) _ 512 (exits_lined m) _ _ _ _ _ _ _ c.loop-p-test.true t (c.exit_record.ensures ∙ ap (exit_record _ _ _) (c.exit_no-e.ensures ∙ exit_item m good _ _ c.loop-p-test.true t)) c.put-line.ensures.buffer c.put-line.ensures.line (c.loop-x.invariant.1 old ready lay),
    )

pub loop-p-preserved : goal.loop-p-preserved
loop-p-preserved c =
    let ready = ready_for c.args.m.now 3 c.args.buffer.now (omega arith) c.requires.0 in
    let inner = c.loop-x.invariant in
    let m = c.args.m.now in
    let inv = c.loop-p.invariant in
    (inner.0 ∙ inv.0, group_end ready (exits_kept m) _ 512 (exits_lined m) _ _ _ _ c.loop-x.auto.x-end c.loop-x-test.false (inner.1 _ ready inv.1))

pub end-requires : goal.end-requires
end-requires c =
    let ready = ready_for c.args.m.now 3 c.args.buffer.now (omega arith) c.requires.0 in
    let m = c.args.m.now in
    let inv = c.loop-p.invariant in
    items_there ready (exits_kept m) _ 512 (exits_lined m) _ _ _ c.loop-p.auto.p-end c.loop-p-test.false inv.1

pub returns : goal.returns
returns c =
    let ready = ready_for c.args.m.now 3 c.args.buffer.now (omega arith) c.requires.0 in
    let m = c.args.m.now in
    let inv = c.loop-p.invariant in
    let done = items_end ready (exits_kept m) _ 512 (exits_lined m) _ _ _ _ _ c.loop-p.auto.p-end c.loop-p-test.false inv.1 c.end.ensures.buffer c.end.ensures.block in
    record { buffer = done.0; block = done.1 }
