use mathlib.Core.Path.{◌≡◌, ap, ◌∙◌}
use Prim.Native.Nat.{◌*◌}
use native.Mathlib.Numerals.{add-one}
use native.Mathlib.Omega.{arith}
use borrow.Author.Rules.{rules}
use Rattle.engine.specs.Tapes.{commands, bytes_at, config_after}
use Rattle.exported.specs.Calls.{eight_of}
use Rattle.exported.proofs.ByteLaws.{eight_rest}
use Rattle.exported.proofs.walk.Goals as goal

pub loop-i-init : goal.loop-i-init
unfolding config_after
loop-i-init c = search rules

pub loop-i-preserved : goal.loop-i-preserved
unfolding config_after
loop-i-preserved c =
    let tape = c.args.tape.now in
    let less = c.loop-i-test.true in
    let eight : c.eight_of.result ≡ bytes_at tape c.loop-i.i = c.eight_of.ensures ∙ ap eight_of c.rest.ensures ∙ eight_rest (8 * c.loop-i.i) tape (omega arith) in
    rw (c.step_coded.ensures, eight, c.loop-i.invariant, add-one)

pub returns : goal.returns
returns c =
    let all : c.loop-i.i ≡ commands c.args.tape.now = omega (arith, c.loop-i.auto.i-end, c.loop-i-test.false) in
    rw (c.loop-i.invariant, all)
