use native.Mathlib.Omega.{arith}
use lib.ListN.{length}
use Rattle.engine.specs.configs.Subjects.{at}
use Rattle.exported.specs.Bytes.{subject_bytes, config_bytes}
use Rattle.sets.proofs.Stores.{each_end}
use Rattle.exported.proofs.config_bytes.put_config.Goals as goal

pub returns : goal.returns
unfolding config_bytes
returns c =
    each_end (λ s. subject_bytes (at c.args.c.now s)) c.args.room.now c.put_all.new.room 0 (length c.args.c.now.subjects) 16 (omega arith) (omega arith) c.put_all.ensures
