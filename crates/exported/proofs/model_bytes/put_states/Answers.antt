use mathlib.Core.Path.{refl, ap}
use native.Mathlib.Omega.{arith}
use Rattle.exported.specs.Bytes.{state_bytes}
use Rattle.exported.specs.Sizes.{length_state}
use Rattle.sets.proofs.Stores.{stored_same, each_start, each_turn, each_end}
use Rattle.exported.proofs.model_bytes.put_states.Goals as goal

pub loop-i-init : goal.loop-i-init
loop-i-init c = each_start _ 34 (λ k. length_state _) _ _

pub put_state-requires : goal.put_state-requires
put_state-requires c = omega (arith, c.loop-i.auto.room, c.requires, c.loop-i-test.true)

pub loop-i-preserved : goal.loop-i-preserved
loop-i-preserved c =
    each_turn _ 34 (λ k. length_state _) _ _ _ _ _ _ refl c.loop-i.invariant (stored_same _ _ _ _ _ c.put_state.ensures (ap state_bytes c.unpack-st.ensures))

pub returns : goal.returns
returns c = each_end _ _ _ _ _ 512 c.loop-i.auto.i-end c.loop-i-test.false c.loop-i.invariant
