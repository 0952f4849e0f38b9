-- A step that does f to every subject and then has subject s enter a state: what stands where afterwards.
use mathlib.Core.Path.{◌≡◌, refl, ap, ◌∙◌}
use mathlib.Core.Logic.{◌≢◌}
use mathlib.Core.Bool.{Bool, true, false, ◌||◌}
use Prim.Native.Nat.{ℕ, ◌<◌}
use native.Mathlib.Omega.{arith}
use borrow.Author.Tests.{eqb-true, eqb-false}
use lib.Dec.{eqb}
use lib.ListN.{length}
use Rattle.sets.proofs.Tests.{choose}
use Rattle.sets.proofs.Below.{length_table}
use Rattle.model.specs.Sizes.{most_subjects}
use Rattle.engine.specs.pools.Sizes.{most_entries}
use Rattle.engine.specs.pools.Pools.{delivered_in}
use Rattle.engine.specs.configs.Subjects.{asleep, ended_properly, at, each_subject, entered, Held}
use Rattle.engine.specs.declared.Config.{Config}
use Rattle.engine.specs.declared.Subject.{Subject}
use Rattle.engine.proofs.configs.ValidLaws.{at_put_same, at_put_other, at_each, each_put, HeldSubject, held_put, held_each}
use Rattle.engine.specs.configs.Subjects.{enters}
use Rattle.engine.specs.commands.Deliver.{started, delivered_as}
use Rattle.engine.proofs.KeptOne.{held_enter}

module _ (f : ℕ → Subject → Subject) (c : Config) (s t : ℕ) (end : Bool) where
  each_length : length (each_subject f c).subjects ≡ most_subjects
  unfolding each_subject
  each_length = length_table (λ r. f r (at c r)) most_subjects

  -- any other than s is changed by f
  pub sweep_other : (r : ℕ) → r < most_subjects → r ≢ s → at (enters (each_subject f c) s t end) r ≡ f r (at c r)
  sweep_other r l d = at_put_other (each_subject f c) s _ r d ∙ at_each f c r l

  module _ (here : s < most_subjects) where
    -- what holds of s, changed by f and entered, and of the others, changed by f
    pub sweep_each : (P : ℕ → Subject → Type 0) → P s (entered t end (f s (at c s))) → (r : ℕ) → r < most_subjects → (r ≢ s → P r (f r (at c r)))
        → P r (at (enters (each_subject f c) s t end) r)
    sweep_each P h r l k =
        each_put
        P
        (each_subject f c)
        s
        (entered t end (at (each_subject f c) s))
        (omega (arith, each_length))
        (rw (at_each f c s here) h)
        r
        (λ d. rw (at_each f c r l) (k d))

    -- s has mask 0
    pub sweep_mask : (at (enters (each_subject f c) s t end) s).mask ≡ 0
    unfolding entered
    sweep_mask = ap (λ (x : Subject). x.mask) (at_put_same (each_subject f c) s _ (omega (arith, each_length)))

    pub sweep_held : ((r : ℕ) → r < most_subjects → HeldSubject (f r (at c r))) → Held (enters (each_subject f c) s t end)
    sweep_held h =
        held_put
        (each_subject f c)
        s
        (entered t end (at (each_subject f c) s))
        here
        (held_each f c h)
        (rw (at_each f c s here) (held_enter t end (f s (at c s)) (h s here).marks (h s here).entries))

  -- entering leaves the pool
  pub sweep_pool : (r : ℕ) → r < most_subjects → (at (enters (each_subject f c) s t end) r).pool ≡ (f r (at c r)).pool
  unfolding entered
  sweep_pool r l = go (eqb r s) refl
    where
      go : (b : Bool) → eqb r s ≡ b → (at (enters (each_subject f c) s t end) r).pool ≡ (f r (at c r)).pool
      go true e =
          let same = eqb-true r s e in
          sweep_each (omega arith) (λ k x. x.pool ≡ (f k (at c k)).pool) refl r l (λ _. refl)
      go false e = ap (λ (x : Subject). x.pool) (sweep_other r l (eqb-false r s e))

-- ---- the pool as s delivers

-- starting leaves the pool
started_pool : (initial : ℕ) (x : Subject) → (started initial x).pool ≡ x.pool
unfolding started
started_pool initial x =
    choose (λ (y : Subject). y.pool ≡ x.pool) (eqb x.mode asleep || eqb x.mode ended_properly) (λ _. refl) (λ _. refl)

-- receiver or not
pub delivered_pool : (receives : Bool) (initial s w : ℕ) (x : Subject) → (delivered_as receives initial s w x).pool ≡ delivered_in most_entries s w x.pool
unfolding delivered_as
delivered_pool receives initial s w x =
    choose (λ (y : Subject). y.pool ≡ delivered_in most_entries s w x.pool) receives (λ _. started_pool initial _) (λ _. refl)
