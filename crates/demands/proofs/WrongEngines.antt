-- No engine that meets the contract of a step is one of the wrong engines.
use mathlib.Core.Path.{◌≡◌, refl, sym, ap, ◌∙◌}
use mathlib.Core.Bool.{true, false, not, ◌&&◌}
use mathlib.Core.List.{List, [], ◌∷◌}
use native.Mathlib.Omega.{arith}
use lib.Dec.{eqb}
use Rattle.sets.specs.Lists.{all_of}
use Rattle.sets.specs.Masks.{bit}
use Rattle.sets.proofs.Tests.{not_both}
use Rattle.model.specs.Valid.{valid}
use Rattle.model.specs.Valid as models
use Rattle.model.specs.declared.Model.{Model}
use Rattle.model_promises.specs.Samples.{model_p}
use Rattle.model_promises.proofs.Worked.{p_held, p_valid}
use Rattle.engine.specs.declared.Pool.{Pool}
use Rattle.engine.specs.configs.Answers.{refusal_of}
use Rattle.engine.specs.configs.Subjects.{at, here_of, Held}
use Rattle.engine.specs.configs.Valid.{config_valid}
use Rattle.engine.specs.declared.Config.{Config}
use Rattle.engine.specs.declared.Stepped.{Stepped}
use Rattle.engine.specs.commands.Codes.{names, subject_of}
use Rattle.engine.specs.Steps.{stepped}
use Rattle.engine.specs.declared.Command.{Command}
use Rattle.engine.specs.declared.Command.TheVariants.{Do, Reserve, Deliver, Take}
use Rattle.engine_promises.specs.Runs.{run_from}
use Rattle.engine_promises.proofs.Always.{step_keeps, step_held}
use Rattle.engine_promises.proofs.Steps.{reserve_answers}
use Rattle.demands.specs.Due.{step_refusal}
use Rattle.demands.specs.Engines.{Engine, Meets, ShutOut, RefusesAll, Constant, Untouched, run_by, PlacesAllAtOnce, FakesLaterOnes, InventsMissing, WrongEnginesShutOut}
use Rattle.demands.specs.Met.{sent}
use Rattle.demands.specs.Orchard.{orchard}
use Rattle.demands.specs.Shares.{at_last}
use Rattle.demands.proofs.Along.{last_held, last_valid}
use Rattle.demands.proofs.Computing.{computing, at_last_lem, at_next, refusal_next}
use Rattle.demands.proofs.SampleModels.{orchard_held, orchard_valid}

-- ---- what some commands do

-- a fresh model P accepts Do 0 0 35
p_does : step_refusal model_p (at_last model_p []) (Do 0 0 35) ≡ 0
unfolding computing
p_does = refusal_next model_p p_valid [] (Do 0 0 35) refl

-- and refuses Do 2 0 35: that subject is not there
p_refuses : step_refusal model_p (at_last model_p []) (Do 2 0 35) ≡ 11
unfolding computing
p_refuses = refusal_next model_p p_valid [] (Do 2 0 35) refl

-- subject 0 starts in state 0
p_state_before : (at (at_last model_p []) 0).state ≡ 0
unfolding computing
p_state_before = at_last_lem model_p p_valid (λ c. (at c 0).state ≡ 0) [] refl

-- and Do 0 0 35 leads it to state 1
p_state_after : (at (stepped model_p (at_last model_p []) (Do 0 0 35)).config 0).state ≡ 1
unfolding computing
p_state_after = at_next model_p p_valid (λ x. (at x.config 0).state ≡ 1) [] (Do 0 0 35) refl

-- the valve has the first probe's reading, and the probe may reserve again
again_accepted : step_refusal orchard (at_last orchard sent) (Reserve 0) ≡ 0
unfolding computing
again_accepted = refusal_next orchard orchard_valid sent (Reserve 0) refl

-- its send names the valve
again_named : bit (here_of orchard (at_last orchard sent) 0).receivers 1 ≡ true
unfolding computing
again_named = at_last_lem orchard orchard_valid (λ c. bit (here_of orchard c 0).receivers 1 ≡ true) sent refl

-- but the valve is full for it
again_not_placed : bit (at (stepped orchard (at_last orchard sent) (Reserve 0)).config 0).mask 1 ≡ false
unfolding computing
again_not_placed = at_next orchard orchard_valid (λ x. bit (at x.config 0).mask 1 ≡ false) sent (Reserve 0) refl

-- after that the valve takes the reading
abbrev cleared : List Command
cleared = Reserve 0 ∷ Deliver 0 ∷ Reserve 0 ∷ Take 1 0 ∷ []

-- then its pool is empty
cleared_empty : (at (at_last orchard cleared) 1).pool.count ≡ 0
unfolding computing
cleared_empty = at_last_lem orchard orchard_valid (λ c. (at c 1).pool.count ≡ 0) cleared refl

-- and has a place for the next
cleared_placed : (at (stepped orchard (at_last orchard cleared) (Reserve 0)).config 1).pool.count ≡ 1
unfolding computing
cleared_placed = at_next orchard orchard_valid (λ x. (at x.config 1).pool.count ≡ 1) cleared (Reserve 0) refl

-- ---- configurations that the machine can hold

-- the fresh start of model P
start_held : Held (at_last model_p [])
start_held = last_held model_p p_valid []

-- the orchard where the valve has the first probe's reading
sent_held : Held (at_last orchard sent)
sent_held = last_held orchard orchard_valid sent

-- ---- an engine that meets the contract

module _ (f : Engine) (meets : Meets f) where
  -- there it does what a step does, in model P
  on_p : (k : Command) → f model_p (at_last model_p []) k ≡ stepped model_p (at_last model_p []) k
  on_p k = meets model_p (at_last model_p []) k p_held start_held

  -- and in the orchard
  on_orchard : (k : Command) → f orchard (at_last orchard sent) k ≡ stepped orchard (at_last orchard sent) k
  on_orchard k = meets orchard (at_last orchard sent) k orchard_held sent_held

  -- its runs are the runs of the step
  runs_so : (m : Model) → models.Held m → valid m ≡ true → (c : Config) (ks : List Command) → Held c → config_valid m c ≡ true → run_by f m c ks ≡ run_from m c ks
  unfolding run_by run_from
  runs_so m hm v c [] h g = refl
  runs_so m hm v c (k ∷ ks) h g =
      rw (meets m c k hm h) (runs_so m hm v (stepped m c k).config ks (step_held m c k v h g) (step_keeps m c k v h g))

-- ---- each kind

-- model P accepts Do 0 0 35
refuses_all_lem : ShutOut RefusesAll
refuses_all_lem f meets bad =
    bad model_p (at_last model_p []) (Do 0 0 35) p_held start_held
    (ap (λ (x : Stepped). refusal_of x.answer) (on_p f meets (Do 0 0 35)) ∙ p_does)

-- and refuses Do 2 0 35
constant_one : ShutOut Constant
constant_one f meets bad =
    omega (arith, p_does, p_refuses, ap (λ (x : Stepped). refusal_of x.answer) (result (Do 0 0 35) ∙ sym (result (Do 2 0 35))))
  where
    result : (k : Command) → stepped model_p (at_last model_p []) k ≡ bad.result
    result k = sym (on_p f meets k) ∙ bad.always model_p (at_last model_p []) k p_held start_held

-- Do 0 0 35 changes the state of subject 0
leaves_untouched : ShutOut Untouched
leaves_untouched f meets bad =
    let back = bad model_p (at_last model_p []) (Do 0 0 35) p_held start_held in
    let same = ap (λ (x : Stepped). x.config) (sym (on_p f meets (Do 0 0 35))) ∙ back in
    omega (arith, p_state_before, p_state_after, ap (λ (c : Config). (at c 0).state) same)

-- the valve is full for the probe that asks again
places_all : ShutOut PlacesAllAtOnce
places_all f meets bad =
    let same = on_orchard f meets (Reserve 0) in
    let accepted = ap (λ (x : Stepped). refusal_of x.answer) same ∙ again_accepted in
    let placed = bad orchard (at_last orchard sent) 0 orchard_held sent_held accepted 1 again_named in
    not_both placed (ap (λ (x : Stepped). bit (at x.config 0).mask 1) same ∙ again_not_placed)

-- the valve is not the probe
by_another : all_of (λ k. names k && not (eqb (subject_of k) 0)) (Take 1 0 ∷ []) ≡ true
unfolding all_of
by_another = refl

-- the probe asks in vain, and the valve takes the reading
run_to_cleared : (f : Engine) → Meets f → run_by f orchard (f orchard (at_last orchard sent) (Reserve 0)).config (Take 1 0 ∷ []) ≡ at_last orchard cleared
unfolding run_by run_from
run_to_cleared f meets =
    runs_so f meets orchard orchard_held orchard_valid (at_last orchard sent) (Reserve 0 ∷ Take 1 0 ∷ []) sent_held
    (last_valid orchard orchard_valid sent)

-- then the valve has a place for the next
fakes_later : ShutOut FakesLaterOnes
fakes_later f meets bad =
    let stays = bad orchard (at_last orchard sent) 0 (Take 1 0 ∷ []) orchard_held sent_held by_another 1 in
    let next = meets orchard (at_last orchard cleared) (Reserve 0) orchard_held (last_held orchard orchard_valid cleared) in
    let same = rw (run_to_cleared f meets, next) at stays in
    omega (arith, cleared_empty, cleared_placed, ap (λ (p : Pool). p.count) same)

-- the number in the answer is the ones in its masks
invents_missing_lem : ShutOut InventsMissing
invents_missing_lem f meets bad =
    let same = ap (λ (x : Stepped). x.answer) (sym (meets bad.m bad.c (Reserve bad.s) bad.held_model bad.held_config)) in
    bad.invented
    (reserve_answers bad.m bad.c bad.s bad.held_config bad.placed bad.improper bad.closed bad.full bad.missing (same ∙ bad.answers)
    ).still_missing_ones

-- each kind of wrong engine is shut out
pub wrong_engines_shut_out : WrongEnginesShutOut
wrong_engines_shut_out =
    record {
      refuses_all = refuses_all_lem;
      constant = constant_one;
      untouched = leaves_untouched;
      places_all_at_once = places_all;
      fakes_later_ones = fakes_later;
      invents_missing = invents_missing_lem;
    }
