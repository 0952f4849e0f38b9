use mathlib.Core.Path.{◌≡◌, refl, ap, ◌∙◌}
use mathlib.Core.Bool.{true}
use Prim.Native.Nat.{ℕ, ◌≤◌, ◌<◌}
use lib.ListN.{length-take}
use lib.Seq.{get_or-take}
use Rattle.model.specs.File.{limit_record}
use Rattle.model.specs.Valid.{subject_at, valid}
use Rattle.model.specs.declared.Model.{Model}
use native.Mathlib.Omega.{arith}
use Rattle.model.proofs.Facts.{rows_of, model_good}
use Rattle.model.proofs.KindLaws.{ready_for, limits_lined, items_start, item_put, item_there, group_end, items_there, items_end}
use Rattle.model.proofs.writing.write_limits.Goals as goal

pub loop-s-init : goal.loop-s-init
loop-s-init c = (refl, items_start _ 4 _ _ _ c.requires.1)

-- a subject has at most eight rows
few : (m : Model) (s : ℕ) → valid m ≡ true → s < 16 → rows_of m s ≤ 8
few m s ok l = ((model_good m ok).subject s l).rows

pub shared_ref_as_front-row-items : goal.shared_ref_as_front-row-items
shared_ref_as_front-row-items c = few _ _ c.requires.0.0 c.loop-s-test.true

pub loop-row-init : goal.loop-row-init
loop-row-init c = (refl, λ old ready lay. lay)

pub put-line-requires : goal.put-line-requires
put-line-requires c =
    let ready = ready_for c.args.m.now 4 c.args.buffer.now (omega arith) c.requires.0 in
    let m = c.args.m.now in
    let some = length-take (rows_of m c.loop-s.s) (subject_at m c.loop-s.s).row in
    item_there ready (rows_of m) _ 16 (limits_lined m) _ _ _ _ c.loop-s-test.true (omega (arith, some, c.loop-row.auto.row-index-end)) (c.loop-row.invariant.1 _ ready c.loop-s.invariant.1)

pub loop-row-preserved : goal.loop-row-preserved
loop-row-preserved c =
    let ready = ready_for c.args.m.now 4 c.args.buffer.now (omega arith) c.requires.0 in
    let m = c.args.m.now in
    let some = length-take (rows_of m c.loop-s.s) (subject_at m c.loop-s.s).row in
    let t : c.loop-row.row-index < rows_of m c.loop-s.s = omega (arith, some, c.loop-row-test.true) in (
      c.put-line.auto.buffer ∙ c.loop-row.invariant.0,
      λ old ready lay. item_put ready (rows_of m) _ 16 (limits_lined m) _ _ _ _ _ _ _ c.loop-s-test.true t (c.limit_record.ensures ∙ ap (limit_record _) (get_or-take _ _ _ _ t)) c.put-line.ensures.buffer c.put-line.ensures.line (c.loop-row.invariant.1 old ready lay),
    )

pub loop-s-preserved : goal.loop-s-preserved
loop-s-preserved c =
    let ready = ready_for c.args.m.now 4 c.args.buffer.now (omega arith) c.requires.0 in
    let inner = c.loop-row.invariant in
    let m = c.args.m.now in
    let inv = c.loop-s.invariant in
    let some = length-take (rows_of m c.loop-s.s) (subject_at m c.loop-s.s).row in
    let all = few _ _ c.requires.0.0 c.loop-s-test.true in
    (inner.0 ∙ inv.0, group_end ready (rows_of m) _ 16 (limits_lined m) _ _ _ _ (omega (arith, some, c.loop-row.auto.row-index-end)) (omega (arith, some, all, c.loop-row-test.false)) (inner.1 _ ready inv.1))

pub end-requires : goal.end-requires
end-requires c =
    let ready = ready_for c.args.m.now 4 c.args.buffer.now (omega arith) c.requires.0 in
    let m = c.args.m.now in
    let inv = c.loop-s.invariant in
    items_there ready (rows_of m) _ 16 (limits_lined m) _ _ _ c.loop-s.auto.s-end c.loop-s-test.false inv.1

pub returns : goal.returns
returns c =
    let ready = ready_for c.args.m.now 4 c.args.buffer.now (omega arith) c.requires.0 in
    let m = c.args.m.now in
    let inv = c.loop-s.invariant in
    (items_end ready (rows_of m) _ 16 (limits_lined m) _ _ _ _ _ c.loop-s.auto.s-end c.loop-s-test.false inv.1 c.end.ensures.buffer c.end.ensures.block).0
