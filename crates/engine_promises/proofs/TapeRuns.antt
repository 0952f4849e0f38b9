-- A tape is a run of its commands.
use mathlib.Core.Path.{◌≡◌, refl, sym, ap, ◌∙◌}
use mathlib.Core.Bool.{Bool, true, false, not, cond}
use mathlib.Core.List.{List, [], ◌∷◌, ◌++◌}
use Prim.Native.Nat.{ℕ, zero, suc, ◌/◌}
use native.Mathlib.Omega.{arith}
use lib.Dec.{ltb}
use Rattle.sets.proofs.Tests.{choose}
use Rattle.model.specs.Valid.{valid}
use Rattle.model.specs.declared.Model.{Model}
use Rattle.engine.specs.configs.Answers.{refusal_of, refused, done}
use Rattle.engine.specs.configs.Valid.{config_valid}
use Rattle.engine.specs.declared.Config.{Config}
use Rattle.engine.specs.declared.Stepped.{Stepped}
use Rattle.engine.specs.commands.Codes.{is_code, code_in, command_in}
use Rattle.engine.specs.commands.Rules.{guarded}
use Rattle.engine.specs.Steps.{stepped, coded_as, coded_step}
use Rattle.engine.specs.Tapes.{commands, bytes_at, config_after, ran}
use Rattle.engine.specs.declared.Command.{Command}
use Rattle.engine_promises.specs.Runs.{run_from, commands_in, commands_of, Call, step, step_coded, run, leads_to, after_calls, TapesAreRuns}

-- commands in two parts
pub run_append : (m : Model) (c : Config) (ks js : List Command) → run_from m c (ks ++ js) ≡ run_from m (run_from m c ks) js
unfolding run_from
run_append m c [] js = refl
run_append m c (k ∷ ks) js = run_append m (stepped m c k).config ks js

module _ (m : Model) (c : Config) (b : List ℕ) where
  -- with a right code it is a step by its command
  coded_right : is_code (code_in b) ≡ true → coded_step m c b ≡ stepped m c (command_in b)
  unfolding stepped coded_as guarded
  coded_right h = rw h

  -- with another it is refused, by 8 or 9
  coded_wrong : is_code (code_in b) ≡ false → (coded_step m c b).config ≡ c
  unfolding coded_as guarded
  coded_wrong h = rw h (choose (λ (r : Stepped). r.config ≡ c) (not (valid m)) (λ _. refl) (λ _. refl))

  coded_run : (coded_step m c b).config ≡ run_from m c (commands_in b)
  unfolding run_from commands_in
  coded_run = go (is_code (code_in b)) refl
    where
      go : (t : Bool) → is_code (code_in b) ≡ t → (coded_step m c b).config ≡ run_from m c (cond t (command_in b ∷ []) [])
      go true e = ap (λ (r : Stepped). r.config) (coded_right e)
      go false e = coded_wrong e

module _ (m : Model) (c : Config) (tape : List ℕ) where
  tape_run : (i : ℕ) → config_after m c tape i ≡ run_from m c (commands_of tape i)
  unfolding config_after commands_of run_from
  tape_run zero = refl
  tape_run (suc i) =
      ap (λ (d : Config). (coded_step m d (bytes_at tape i)).config) (tape_run i)
      ∙ coded_run m (run_from m c (commands_of tape i)) (bytes_at tape i)
      ∙ sym (run_append m c (commands_of tape i) (commands_in (bytes_at tape i)))

  -- a refused `run` leads nowhere, an accepted one to the end of the tape
  run_leads : (P : Stepped → Type 0) (room : ℕ) → ((number : ℕ) → P (refused c (suc number))) → P (done (config_after m c tape (commands tape))) → P (ran m c tape room)
  unfolding ran guarded
  run_leads P room none all =
      choose P (not (valid m)) (λ _. none 7)
      (λ _. choose P (not (config_valid m c)) (λ _. none 9) (λ _. choose P (ltb (room / 4) (commands tape)) (λ _. none 5) (λ _. all)))

  run_whole : (room : ℕ) → refusal_of (ran m c tape room).answer ≡ 0 → (ran m c tape room).config ≡ run_from m c (commands_of tape (commands tape))
  run_whole room =
      run_leads (λ (r : Stepped). refusal_of r.answer ≡ 0 → r.config ≡ run_from m c (commands_of tape (commands tape))) room
      (λ number h. absurd (omega (arith, h)))
      (λ _. tape_run (commands tape))

  run_some : (room : ℕ) → (ks : List Command) × ((ran m c tape room).config ≡ run_from m c ks)
  unfolding run_from
  run_some room =
      run_leads (λ (r : Stepped). (ks : List Command) × (r.config ≡ run_from m c ks)) room (λ _. ([], refl)) (commands_of tape (commands tape), tape_run (commands tape))

-- ---- calls

call_run : (m : Model) (c : Config) (call : Call) → (ks : List Command) × (leads_to m c call ≡ run_from m c ks)
unfolding leads_to run_from
call_run m c (step k) = (k ∷ [], refl)
call_run m c (step_coded b) = (commands_in b, coded_run m c b)
call_run m c (run tape room) = run_some m c tape room

calls_run : (m : Model) (c : Config) (calls : List Call) → (ks : List Command) × (after_calls m c calls ≡ run_from m c ks)
unfolding after_calls run_from
calls_run m c [] = ([], refl)
calls_run m c (call ∷ rest) =
    let first = call_run m c call in
    let next = calls_run m (leads_to m c call) rest in (
      first.0 ++ next.0,
      next.1 ∙ ap (λ (d : Config). run_from m d next.0) first.1 ∙ sym (run_append m c first.0 next.0),
    )

pub tapes_are_runs : TapesAreRuns
tapes_are_runs = record { coded = coded_run; tape = tape_run; whole = run_whole; calls = calls_run }
