-- No promise is empty: what the theorems ask for computes on model P and on the small orchard.
use mathlib.Core.Path.{◌≡◌, refl}
use mathlib.Core.List.{List, [], ◌∷◌}
use Prim.Native.Nat.{ℕ}
use borrow.Author.Tests.{eqb-false, ltb-true, lt-ltb, leb-true}
use Rattle.sets.proofs.Tests.{not_both}
use Rattle.model.specs.Rules.{any}
use Rattle.model_promises.specs.Samples.{model_p}
use Rattle.model_promises.proofs.Worked.{p_held, p_valid}
use Rattle.engine.specs.configs.Answers.{refusal_of}
use Rattle.engine.specs.configs.Fresh.{fresh_config}
use Rattle.engine.specs.configs.Subjects.{ended_improperly, at, here_of}
use Rattle.engine.specs.Steps.{acted}
use Rattle.engine.specs.declared.Command.{Command}
use Rattle.engine.specs.declared.Command.TheVariants.{Do, Reserve, Deliver, Take, Run, Expire, Cancel, Tick}
use Rattle.demands.specs.Due.{CanBeDelivered, TimeIsOver, InSend}
use Rattle.demands.specs.Ends.{WaitsAt}
use Rattle.demands.specs.Met.{sent, due, late, ends_with_message, ends_with_reservation, RunsIn, HypothesesMet}
use Rattle.demands.specs.Orchard.{orchard}
use Rattle.demands.specs.Shares.{at_last, Asks, MayHave}
use Rattle.demands.proofs.Along.{last_valid}
use Rattle.demands.proofs.Computing.{acted_from, computing, at_last_lem, refusal_next}
use Rattle.demands.proofs.SampleModels.{orchard_held, orchard_valid}
use Rattle.demands.proofs.Timeouts.{due_together}

-- a probe with its place, two ticks later
in_send_lem : InSend orchard (at_last orchard due) 0
unfolding computing
in_send_lem = at_last_lem orchard orchard_valid (λ c. InSend orchard c 0) due (record { there = ltb-true _ _ refl; runs = refl; sends = refl })

-- a Run of the valve
runs_in : (kind : ℕ) (ks : List Command) → (here_of orchard (acted_from orchard (fresh_config orchard) ks) 1).kind ≡ kind
    → refusal_of (acted orchard (acted_from orchard (fresh_config orchard) ks) (Run 1)).answer ≡ 0
    → RunsIn kind ks
runs_in kind ks here fine =
    record { here = at_last_lem orchard orchard_valid (λ c. (here_of orchard c 1).kind ≡ kind) ks here; accepted = refusal_next orchard orchard_valid ks (Run 1) fine }

-- each hypothesis is met somewhere
pub hypotheses_met : HypothesesMet
unfolding computing
hypotheses_met =
    record {
      valid_p = p_valid;
      valid_orchard = orchard_valid;
      held_p = p_held;
      held_orchard = orchard_held;
      shared_p = refl;
      shared_orchard = refl;
      row_there = ltb-true _ _ refl;
      asks = at_last_lem orchard orchard_valid (λ c. Asks orchard c 1 0) [] (record { there = ltb-true _ _ refl; runs = refl; sends = refl; named = refl; no_place = refl });
      may = at_last_lem orchard orchard_valid (λ c. MayHave orchard c 1 0) [] (record { proper = eqb-false _ ended_improperly refl; not_closed = refl; below = ltb-true _ _ refl });
      asks_in_vain = at_last_lem orchard orchard_valid (λ c. Asks orchard c 1 0) sent (record { there = ltb-true _ _ refl; runs = refl; sends = refl; named = refl; no_place = refl });
      may_not = at_last_lem orchard orchard_valid (λ c. ¬ MayHave orchard c 1 0) sent (λ y. not_both (lt-ltb _ _ y.below) refl);
      healthy_asks = at_last_lem orchard orchard_valid (λ c. Asks orchard c 1 2) [] (record { there = ltb-true _ _ refl; runs = refl; sends = refl; named = refl; no_place = refl });
      chatters = refl;
      runs_tape = refl;
      chatters_on_tape = refl;
      in_send = in_send_lem;
      can_be_delivered = (due_together orchard (at_last orchard due) 0 orchard_valid (last_valid orchard orchard_valid due) in_send_lem).delivers.0 (refusal_next orchard orchard_valid due (Deliver 0) refl);
      time_is_over = at_last_lem orchard orchard_valid (λ c. TimeIsOver orchard c 0) due (record { target = eqb-false _ any refl; late = leb-true _ _ refl });
      late_in_send = at_last_lem orchard orchard_valid (λ c. InSend orchard c 0) late (record { there = ltb-true _ _ refl; runs = refl; sends = refl });
      late_over = at_last_lem orchard orchard_valid (λ c. TimeIsOver orchard c 0) late (record { target = eqb-false _ any refl; late = leb-true _ _ refl });
      late_cannot = at_last_lem orchard orchard_valid (λ c. ¬ CanBeDelivered orchard c 0) late (λ d. not_both (d.placed 1 refl) refl);
      ended_improper = at_last_lem model_p p_valid (λ c. (at c 1).mode ≡ ended_improperly) ends_with_message refl;
      waited_for = at_last_lem model_p p_valid (λ c. WaitsAt c 1 0 0) ends_with_reservation (record { proper = refl; there = ltb-true _ _ refl; reserved = refl });
      wakes = refusal_next model_p p_valid ends_with_reservation (Deliver 0) refl;
      does = refusal_next model_p p_valid [] (Do 0 0 35) refl;
      reserves = refusal_next model_p p_valid (Do 0 0 35 ∷ []) (Reserve 0) refl;
      delivers = refusal_next model_p p_valid (Do 0 0 35 ∷ Reserve 0 ∷ []) (Deliver 0) refl;
      takes = refusal_next model_p p_valid (Do 0 0 35 ∷ Reserve 0 ∷ Deliver 0 ∷ []) (Take 1 0) refl;
      closes = runs_in 4 (Cancel 1 ∷ []) refl refl;
      asks_empty = runs_in 6 (Cancel 1 ∷ Run 1 ∷ []) refl refl;
      opens = runs_in 5 (Cancel 1 ∷ Run 1 ∷ Run 1 ∷ []) refl refl;
      expires = refusal_next model_p p_valid (Tick ∷ Tick ∷ Tick ∷ []) (Expire 1) refl;
      cancels = refusal_next model_p p_valid (Do 0 0 35 ∷ Reserve 0 ∷ []) (Cancel 0) refl;
      ticks = refusal_next model_p p_valid [] Tick refl;
    }
