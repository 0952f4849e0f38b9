use Rattle.std.proofs.Common.{refl, ◌<◌, sym, ap, ◌∙◌, arith, length, get_or, take_all, List}
use Rattle.std.specs.Prelude.{filter_map}
use Rattle.std.specs.List.{enumerate_from}
use Rattle.engine.specs.declared.Entry.{Entry}
use Rattle.engine.specs.pools.Sizes.{most_entries}
use Rattle.engine.specs.pools.Entries.{blank_entry}
use Rattle.engine.specs.pools.Pools.{held, pooled}
use Rattle.engine.proofs.pools.PoolLaws.{pool_is, empty_pool, store_is, left_turn, given_one}
use Rattle.engine.proofs.pools.changes.rebuilt.Goals as goal
use Rattle.engine.proofs.pools.changes.rebuilt.Goals.{in-Some, in_default}

pub loop-j-init : goal.loop-j-init
loop-j-init g c =
    let e = empty_pool most_entries {q = record { entries = c.default.result.entries; count = 0 }} (c.default.ensures.0, refl) in
    (omega arith, λ gives k. e)

pub overflow_add-count : goal.overflow_add-count
overflow_add-count g c = omega (arith, c.loop-j.invariant.0, c.loop-j-test.true, c.held-e-items.ensures.few)

pub loop-j-preserved : goal.loop-j-preserved
loop-j-preserved g c =
    let p = c.args.p.now in
    let j = c.loop-j.j in
    let inv = c.loop-j.invariant in
    let items = c.held-e-items.ensures in
    let l = c.loop-j-test.true in
    let inside : j < length (held p) = omega (arith, ap length items.entries, l) in
    let here = ap (λ (es : List Entry). get_or es j blank_entry) items.entries in
    elim c.match-f.branch [
      | in-Some w ↦ (
        rw w.count-is (omega (arith, inv.0)),
        λ gives k.
            pool_is w.entries-is w.count-is
            ∙ store_is most_entries _ _ (inv.1 gives k) _ _ refl (omega (arith, inv.0, items.few, l))
            ∙ given_one most_entries gives p (record { entries = c.loop-j.entries; count = c.loop-j.count }) j inside _ here w.in-Some.x (sym w.in-Some.is ∙ k _ _ _ c.f.ensures) (inv.1 gives k),
      )
      | in_default w ↦ (
        rw w.count-is (omega (arith, inv.0)),
        λ gives k. pool_is w.entries-is w.count-is ∙ left_turn most_entries gives p (record { entries = c.loop-j.entries; count = c.loop-j.count }) j inside _ here (sym w.in_default.is ∙ k _ _ _ c.f.ensures) (inv.1 gives k),
      )
    ]

pub returns : goal.returns
returns g c = λ gives k.
    c.loop-j.invariant.1 gives k
    ∙ ap (λ (es : List Entry). pooled most_entries (filter_map gives (enumerate_from 0 es))) (take_all c.loop-j.j (held c.args.p.now) (omega (arith, ap length c.held-e-items.ensures.entries, c.loop-j-test.false)))
