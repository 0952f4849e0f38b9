-- The demands on a shared pool and on ends, of any calls and tapes: where they lead, commands lead.
use mathlib.Core.Path.{◌≡◌, sym, ap, ◌∙◌}
use mathlib.Core.List.{List, ◌++◌}
use Prim.Native.Nat.{ℕ}
use Rattle.model.specs.declared.Model.{Model}
use Rattle.engine.specs.configs.Fresh.{fresh_of}
use Rattle.engine.specs.declared.Command.{Command}
use Rattle.engine.specs.declared.Config.{Config}
use Rattle.engine_promises.specs.Runs.{run_from, commands_of, Call}
use Rattle.engine_promises.proofs.TapeRuns.{run_append, tapes_are_runs}
use Rattle.demands.specs.Ends.{ImproperHoldsMessageOnTapes}
use Rattle.demands.specs.Shares.{at_last, on_tape, WithinLimitsOnTapes, GetsExactlyOnTapes, NeverCrowdedOutOnTapes}
use Rattle.demands.proofs.Limits.{within_limits, gets_exactly}
use Rattle.demands.proofs.Chatter.{never_crowded_out}
use Rattle.demands.proofs.Ends.{improper_holds_message}

-- the commands that lead there
tape_last : (m : Model) (calls : List Call) (tape : List ℕ) (i : ℕ) → (ks : List Command) × (on_tape m calls tape i ≡ at_last m ks)
tape_last m calls tape i =
    let first = tapes_are_runs.calls m (fresh_of m).config calls in (
      first.0 ++ commands_of tape i,
      tapes_are_runs.tape m _ tape i
          ∙ ap (λ (c : Config). run_from m c (commands_of tape i)) first.1
          ∙ sym (run_append m (fresh_of m).config first.0 (commands_of tape i)),
    )

pub within_limits_on_tapes : WithinLimitsOnTapes
within_limits_on_tapes m owner calls tape i shares =
    let last = tape_last m calls tape i in
    rw last.1 (within_limits m owner last.0 shares)

pub gets_exactly_on_tapes : GetsExactlyOnTapes
gets_exactly_on_tapes m owner calls tape i shares =
    let last = tape_last m calls tape i in
    rw last.1 (gets_exactly m owner last.0 shares)

pub never_crowded_out_on_tapes : NeverCrowdedOutOnTapes
never_crowded_out_on_tapes m owner healthy probe calls tape i chatter j shares other apart o =
    let last = tape_last m calls tape i in
    rw (tapes_are_runs.tape m (on_tape m calls tape i) chatter j, last.1)
    (never_crowded_out m owner healthy probe last.0 (commands_of chatter j) shares other apart o)

pub improper_holds_message_on_tapes : ImproperHoldsMessageOnTapes
improper_holds_message_on_tapes m calls tape i v =
    let last = tape_last m calls tape i in
    rw last.1 (improper_holds_message m last.0 v)
