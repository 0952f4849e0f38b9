use Rattle.std.proofs.Common.{eqb, sym, ap₂, ◌∙◌, arith}
use Rattle.sets.proofs.Below.{all_start, all_more, all_stop, all_end, sum_start, sum_turn, sum_end}
use Rattle.model.specs.Decoded.{exits_in_place}
use Rattle.model.proofs.DecodedLaws.{places_few, exits_at, exits_named_is}
use Rattle.model.proofs.decoded.exits_in_place.Goals as goal

pub loop-p-init : goal.loop-p-init
loop-p-init c = (sym (sum_start _), all_start _)

pub exits_named-requires : goal.exits_named-requires
exits_named-requires c = omega (arith, c.loop-p.invariant.0, places_few c.args.file.now c.type_inv.file c.loop-p.p)

pub returns-then-not-exits_named : goal.returns-then-not-exits_named
unfolding exits_in_place
returns-then-not-exits_named c =
    let is = exits_named_is _ _ _ _ (exits_at _ _ _ _ c.requires c.loop-p-test.true) c.loop-p.invariant.0 in
    let named = rw c.of-exits.ensures at c.exits_named.ensures in
    rw (all_stop _ _ _ c.loop-p-test.true (sym (named ∙ is) ∙ c.if-not-exits_named.true))

pub overflow_add-place : goal.overflow_add-place
overflow_add-place c = omega (arith, c.loop-p.invariant.0, places_few c.args.file.now c.type_inv.file c.loop-p.p)

pub loop-p-preserved : goal.loop-p-preserved
loop-p-preserved c =
    let inv = c.loop-p.invariant in
    let exits = exits_at _ _ _ _ c.requires c.loop-p-test.true in
    let named = rw c.of-exits.ensures at c.exits_named.ensures in
    (sum_turn _ _ _ _ inv.0 exits, all_more _ _ inv.1 (sym (named ∙ exits_named_is _ _ _ _ exits inv.0) ∙ c.if-not-exits_named.false))

pub returns : goal.returns
unfolding exits_in_place
returns c =
    let inv = c.loop-p.invariant in
    rw (all_end _ _ 512 (omega arith) (omega arith) inv.1)
    (ap₂ eqb (rw c.of-exits.ensures at c.of-exits.result.count_is) (sum_end _ _ _ 512 (omega arith) (omega arith) inv.0))
