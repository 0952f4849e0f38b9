-- Where a command leads.
use Rattle.std.specs.Prelude.{ℕ}
use Rattle.model.specs.Valid.{exit_at}
use Rattle.model.specs.declared.State.{State}
use Rattle.engine.specs.commands.Runs.{run_exit}
use Rattle.engine.specs.declared.Command.{Command}
use Rattle.engine.specs.declared.Command.TheVariants.{Do, Reserve, Deliver, Take, Run, Expire, Cancel, Tick}
use Rattle.engine.specs.declared.Subject.{Subject}

-- where the command leads from here; Reserve and Tick lead nowhere
unfoldable pub target_of : State → Subject → Command → ℕ
target_of here x (Do s e w) = (exit_at here e).target
target_of here x (Reserve s) = 0
target_of here x (Deliver s) = (exit_at here 0).target
target_of here x (Take s e) = (exit_at here e).target
target_of here x (Run s) = (exit_at here (run_exit here x)).target
target_of here x (Expire s) = here.timeout
target_of here x (Cancel s) = here.cancel
target_of here x Tick = 0
