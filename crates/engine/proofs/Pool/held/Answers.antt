use Rattle.std.proofs.Common.{arith, ◌≡◌, length}
use lib.ListN.{length-take}
use Rattle.sets.proofs.Arrays.{length_mapped}
use Rattle.engine.specs.pools.Pools.{held}
use Rattle.engine.proofs.pools.PoolLaws.{take_within}
use Rattle.engine.proofs.Pool.held.Goals as goal

pub returns : goal.returns
unfolding held
returns c =
    let es = c.args.self.now.entries in
    let n : length es ≡ 16 = search length_mapped in
    record {
      entries = take_within c.args.self.now.count _ _ es c.min.ensures (omega arith);
      few = omega (arith, n, length-take c.min.result es);
    }
