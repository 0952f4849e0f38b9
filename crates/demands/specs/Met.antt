-- No promise is empty: what the theorems ask for is met by model P or by the small orchard.
use Rattle.std.specs.Prelude.{◌≡◌, true, List, [], ◌∷◌, ◌++◌, ℕ, ◌<◌}
use Rattle.sets.specs.Lists.{all_of}
use Rattle.model.specs.Valid.{subject_at, valid}
use Rattle.model.specs.Valid as models
use Rattle.model_promises.specs.Samples.{model_p}
use Rattle.engine.specs.pools.Sizes.{most_entries}
use Rattle.engine.specs.configs.Answers.{refusal_of, is_yes}
use Rattle.engine.specs.configs.Fresh.{fresh_of}
use Rattle.engine.specs.configs.Shares.{share_of}
use Rattle.engine.specs.configs.Subjects.{ended_improperly, at, here_of}
use Rattle.engine.specs.commands.Codes.{bytes_of}
use Rattle.engine.specs.Tapes.{ran}
use Rattle.engine.specs.declared.Command.{Command}
use Rattle.engine.specs.declared.Command.TheVariants.{Do, Reserve, Deliver, Take, Run, Expire, Cancel, Tick}
use Rattle.engine_promises.specs.Runs.{commands_of}
use Rattle.demands.specs.Due.{step_refusal, CanBeDelivered, TimeIsOver, InSend}
use Rattle.demands.specs.Ends.{WaitsAt}
use Rattle.demands.specs.Marked.{input}
use Rattle.demands.specs.Orchard.{orchard}
use Rattle.demands.specs.Shares.{at_last, Asks, MayHave, of_probe}

-- the valve has the first probe's reading
abbrev pub sent : List Command
sent = Reserve 0 ∷ Deliver 0 ∷ []

-- the first probe has its place, and its time is over
abbrev pub due : List Command
due = Reserve 0 ∷ Tick ∷ Tick ∷ []

-- its time is over without a place
abbrev pub late : List Command
late = Tick ∷ Tick ∷ []

-- subject 1 of model P ends with a message left, or with a reservation only
abbrev pub ends_with_message : List Command
ends_with_message = Do 0 0 35 ∷ Reserve 0 ∷ Deliver 0 ∷ Tick ∷ Tick ∷ Tick ∷ Expire 1 ∷ []

abbrev pub ends_with_reservation : List Command
ends_with_reservation = Do 0 0 35 ∷ Reserve 0 ∷ Tick ∷ Tick ∷ Tick ∷ Expire 1 ∷ []

-- after some commands the valve is in a state of this kind, and Run is accepted
pub record RunsIn (kind : ℕ) (before : List Command) : Type 0 where
  pub here : (here_of orchard (at_last orchard before) 1).kind ≡ kind
  pub accepted : step_refusal orchard (at_last orchard before) (Run 1) ≡ 0

pub record HypothesesMet : Type 0 where
  -- models that are valid and that the machine can hold
  pub valid_p : valid model_p ≡ true
  pub valid_orchard : valid orchard ≡ true
  pub held_p : models.Held model_p
  pub held_orchard : models.Held orchard
  -- pools that are shared out, with rows
  pub shared_p : is_yes (share_of most_entries model_p 1) ≡ true
  pub shared_orchard : is_yes (share_of most_entries orchard 1) ≡ true
  pub row_there : 1 < (subject_at orchard 1).rows
  -- a sender that asks and may have a place, one that asks and may not, and a healthy one beside a chattering one
  pub asks : Asks orchard (at_last orchard []) 1 0
  pub may : MayHave orchard (at_last orchard []) 1 0
  pub asks_in_vain : Asks orchard (at_last orchard sent) 1 0
  pub may_not : ¬ MayHave orchard (at_last orchard sent) 1 0
  pub healthy_asks : Asks orchard (at_last orchard []) 1 2
  pub chatters : all_of (of_probe 0) sent ≡ true
  -- a tape that is run, and one of chatter
  pub runs_tape : refusal_of (ran model_p (fresh_of model_p).config input 28).answer ≡ 0
  pub chatters_on_tape : all_of (of_probe 0) (commands_of (bytes_of (Reserve 0) ++ bytes_of (Deliver 0)) 2) ≡ true
  -- a send that can be delivered and whose time is over, and one whose time is over alone
  pub in_send : InSend orchard (at_last orchard due) 0
  pub can_be_delivered : CanBeDelivered orchard (at_last orchard due) 0
  pub time_is_over : TimeIsOver orchard (at_last orchard due) 0
  pub late_in_send : InSend orchard (at_last orchard late) 0
  pub late_over : TimeIsOver orchard (at_last orchard late) 0
  pub late_cannot : ¬ CanBeDelivered orchard (at_last orchard late) 0
  -- a subject that ended improperly, and one that ended properly and is waited for, with a Deliver that is accepted
  pub ended_improper : (at (at_last model_p ends_with_message) 1).mode ≡ ended_improperly
  pub waited_for : WaitsAt (at_last model_p ends_with_reservation) 1 0 0
  pub wakes : step_refusal model_p (at_last model_p ends_with_reservation) (Deliver 0) ≡ 0
  -- each command is accepted after some commands from a fresh start: Run in the orchard, in each of its kinds of states
  pub does : step_refusal model_p (at_last model_p []) (Do 0 0 35) ≡ 0
  pub reserves : step_refusal model_p (at_last model_p (Do 0 0 35 ∷ [])) (Reserve 0) ≡ 0
  pub delivers : step_refusal model_p (at_last model_p (Do 0 0 35 ∷ Reserve 0 ∷ [])) (Deliver 0) ≡ 0
  pub takes : step_refusal model_p (at_last model_p (Do 0 0 35 ∷ Reserve 0 ∷ Deliver 0 ∷ [])) (Take 1 0) ≡ 0
  pub closes : RunsIn 4 (Cancel 1 ∷ [])
  pub asks_empty : RunsIn 6 (Cancel 1 ∷ Run 1 ∷ [])
  pub opens : RunsIn 5 (Cancel 1 ∷ Run 1 ∷ Run 1 ∷ [])
  pub expires : step_refusal model_p (at_last model_p (Tick ∷ Tick ∷ Tick ∷ [])) (Expire 1) ≡ 0
  pub cancels : step_refusal model_p (at_last model_p (Do 0 0 35 ∷ Reserve 0 ∷ [])) (Cancel 0) ≡ 0
  pub ticks : step_refusal model_p (at_last model_p []) Tick ≡ 0
