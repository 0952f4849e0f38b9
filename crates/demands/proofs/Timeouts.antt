-- A timeout and a delivery due together: the rules that are left for Deliver and Expire in a send, and what their tests say.
use mathlib.Core.Path.{◌≡◌, refl, ap}
use mathlib.Core.Logic.{◌↔◌}
use mathlib.Core.Bool.{Bool, true, false, ◌&&◌, not}
use Prim.Native.Nat.{ℕ, ◌≤◌, ◌<◌}
use native.Mathlib.Omega.{arith}
use borrow.Author.Tests.{ltb-true, ltb-false, lt-leb, le-ltb, eq-eqb, ne_eqb, eqb-true, eqb-false, not-true, not-false}
use lib.Dec.{eqb, ltb}
use Rattle.sets.specs.Below.{all_below}
use Rattle.sets.specs.Masks.{bit}
use Rattle.sets.proofs.Below.{none_some, none_each}
use Rattle.sets.proofs.Masks.{none_other, other_none}
use Rattle.sets.proofs.Tests.{not_both, and_true, and_both, is_false}
use Rattle.model.specs.Rules.{none}
use Rattle.model.specs.Sizes.{most_subjects}
use Rattle.model.specs.Valid.{valid}
use Rattle.model.specs.declared.Model.{Model}
use Rattle.engine.specs.configs.Subjects.{ended_improperly, is_send, at, here_of}
use Rattle.engine.specs.configs.Valid.{subject_right, places_right, config_valid}
use Rattle.engine.specs.declared.Config.{Config}
use Rattle.engine.proofs.Cited.{state_there_lem, n_high, subject_there, state_right_lem}
use Rattle.engine.specs.commands.Rules.{place_missing, some_improper, can_deliver, guarded}
use Rattle.engine.specs.declared.Command.TheVariants.{Deliver, Expire}
use Rattle.engine_promises.proofs.Refusals.{effect_fine, step_is, accepted_tells}
use Rattle.engine_promises.proofs.Steps.{deliver_or_expire}
use Rattle.demands.specs.Due.{step_refusal, CanBeDelivered, TimeIsOver, InSend, DueTogether}

-- there is a target, and the wait is not too short
over_exact : (m : Model) (c : Config) (s : ℕ)
    → TimeIsOver m c s ↔ ((eqb (here_of m c s).timeout none ≡ false) × (ltb (at c s).waited (here_of m c s).after ≡ false))
over_exact m c s = (
  λ o. (ne_eqb (here_of m c s).timeout none o.target, le-ltb (at c s).waited (here_of m c s).after o.late),
  λ t.
      record { target = eqb-false (here_of m c s).timeout none t.0; late = ltb-false (at c s).waited (here_of m c s).after t.1 },
)

module _ (m : Model) (c : Config) (s : ℕ) (v : valid m ≡ true) (g : config_valid m c ≡ true) (i : InSend m c s) where
  -- a receiver is a subject that the machine can hold
  receiver_below : (r : ℕ) → bit (here_of m c s).receivers r ≡ true → r < most_subjects
  unfolding config_valid
  receiver_below r e = go (ltb r most_subjects) refl
    where
      right : (k : ℕ) → m.n ≤ k → bit (here_of m c s).receivers k ≡ false
      right =
          (state_right_lem m v s i.there (at c s).state
          (state_there_lem m c s (subject_there m v s i.there) i.there (and_both (all_below (subject_right m c) most_subjects) (places_right m c) g).left)
          ).receivers

      go : (b : Bool) → ltb r most_subjects ≡ b → r < most_subjects
      go true t = ltb-true r most_subjects t
      go false t = not_both e (right r (omega (arith, ltb-false r most_subjects t, n_high m v)))

  -- no place is missing and no receiver has ended improperly
  can_exact : CanBeDelivered m c s ↔ ((place_missing (here_of m c s) (at c s) ≡ false) × (some_improper (here_of m c s) c ≡ false))
  unfolding place_missing some_improper
  can_exact = (
    λ d. (
      ap not (eq-eqb _ 0 (other_none most_subjects (here_of m c s).receivers (at c s).mask (λ r _. d.placed r))),
      none_some (λ r. bit (here_of m c s).receivers r && eqb (at c r).mode ended_improperly) most_subjects
          (λ r _. is_false _ (λ b. let both = and_both _ _ b in d.proper r both.left (eqb-true (at c r).mode ended_improperly both.right))),
    ),
    λ t.
        record {
          placed = λ r e. none_other most_subjects (here_of m c s).receivers (at c s).mask (eqb-true _ 0 (not-false _ t.0)) r (receiver_below r e) e;
          proper = λ r e q.
              not_both (and_true e (eq-eqb (at c r).mode ended_improperly q))
              (none_each (λ r. bit (here_of m c s).receivers r && eqb (at c r).mode ended_improperly) most_subjects t.1 r (receiver_below r e));
        },
  )

  -- the test of rule 20 says so
  can_test : CanBeDelivered m c s ↔ (can_deliver (here_of m c s) (at c s) (some_improper (here_of m c s) c) ≡ true)
  unfolding can_deliver
  can_test = (
    λ d. let t = can_exact.0 d in rw (eq-eqb (here_of m c s).kind 2 i.sends, t.0, t.1),
    λ h. let ready = not (place_missing (here_of m c s) (at c s)) && not (some_improper (here_of m c s) c) in
        let t = and_both (not (place_missing (here_of m c s) (at c s))) (not (some_improper (here_of m c s) c)) (and_both (is_send (here_of m c s).kind) ready h).right in
        can_exact.1 (not-true _ t.left, not-true _ t.right),
  )

  -- 16 and 17 are left for Deliver
  deliver_exact : (step_refusal m c (Deliver s) ≡ 0) ↔ ((place_missing (here_of m c s) (at c s) ≡ false) × (some_improper (here_of m c s) c ≡ false))
  unfolding guarded
  deliver_exact = (
    λ h. let a = accepted_tells m c (Deliver s) h in (a.none 3, a.none 4),
    λ t. rw (step_is m c (Deliver s), v, g, lt-leb m.n s i.there, i.runs, eq-eqb (here_of m c s).kind 2 i.sends, t.0, t.1) (effect_fine m c (Deliver s)),
  )

  -- 18, 19 and 20 are left for Expire
  expire_exact : (step_refusal m c (Expire s) ≡ 0) ↔ (TimeIsOver m c s × (can_deliver (here_of m c s) (at c s) (some_improper (here_of m c s) c) ≡ false))
  unfolding guarded
  expire_exact = (
    λ h. let a = accepted_tells m c (Expire s) h in ((over_exact m c s).1 (a.none 2, a.none 3), a.none 4),
    λ t. let o = (over_exact m c s).0 t.0 in
        rw (step_is m c (Expire s), v, g, lt-leb m.n s i.there, i.runs, o.0, o.1, t.1) (effect_fine m c (Expire s)),
  )

  -- Deliver goes first
  expire_waits : TimeIsOver m c s → can_deliver (here_of m c s) (at c s) (some_improper (here_of m c s) c) ≡ true → step_refusal m c (Expire s) ≡ 20
  unfolding guarded
  expire_waits o d =
      let t = (over_exact m c s).0 o in
      rw (step_is m c (Expire s), v, g, lt-leb m.n s i.there, i.runs, t.0, t.1, d)

-- Deliver where the send can be delivered, Expire where it cannot and the time is over, never both
pub due_together : DueTogether
due_together m c s v g i =
    let can = can_test m c s v g i in
    let delivers = deliver_exact m c s v g i in
    let expires = expire_exact m c s v g i in
    let ready = can_exact m c s v g i in
    record {
      delivers = (λ h. ready.1 (delivers.0 h), λ d. delivers.1 (ready.0 d));
      expires = (
        λ h. let t = expires.0 h in (t.0, λ d. not_both (can.0 d) t.1),
        λ t. expires.1 (t.0, is_false _ (λ e. t.1 (can.1 e))),
      );
      both_due = λ o d. (delivers.1 (ready.0 d), expire_waits m c s v g i o (can.0 d));
      never_both = λ d e. deliver_or_expire m c s e d;
    }
