-- What the engine's run of a tape gives where it is not refused: a valid model, a valid configuration, a buffer with room.
use mathlib.Core.Path.{◌≡◌, refl, ◌∙◌}
use mathlib.Core.Bool.{Bool, true, false, cond}
use mathlib.Core.List.{List}
use Prim.Native.Nat.{ℕ, zero, suc, ◌+◌, ◌*◌, ◌/◌, ◌%◌, ◌≤◌, ◌<◌}
use native.Mathlib.Omega.{arith}
use borrow.Author.Tests.{lt-ltb, le-ltb}
use lib.Dec.{ltb}
use lib.ListN.{length, get_or}
use Rattle.sets.proofs.Below.{table_at}
use Rattle.model.specs.Valid.{valid}
use Rattle.model.specs.declared.Model.{Model}
use Rattle.engine.specs.configs.Answers.{done}
use Rattle.engine.specs.configs.Fresh.{fresh_of}
use Rattle.engine.specs.configs.Subjects.{Held}
use Rattle.engine.specs.configs.Valid.{config_valid, fault_of}
use Rattle.engine.specs.declared.Config.{Config}
use Rattle.engine.proofs.Cited.{fresh_valid}
use Rattle.engine.specs.commands.Codes.{code_in, command_in}
use Rattle.engine.specs.commands.Rules.{first_number, guarded}
use Rattle.engine.specs.Tapes.{commands, bytes_at, config_after, line_at, number_of, ran, written}
use Rattle.engine.proofs.Kept.{coded_keeps}

module _ (m : Model) (c : Config) (tape old : List ℕ) (v : valid m ≡ true) (g : config_valid m c ≡ true) (room : 4 * commands tape ≤ length old) where
  -- the answer
  pub ran_done : ran m c tape (length old) ≡ done (config_after m c tape (commands tape))
  unfolding ran guarded
  ran_done = rw (v, g, le-ltb (length old / 4) (commands tape) (omega arith))

  -- the numbers in the buffer
  pub written_at : (i j : ℕ) → i < commands tape → j < 4 → get_or (written m c tape old) (4 * i + j) 0 ≡ number_of (line_at m c tape i) j
  unfolding written first_number
  written_at i j h l =
      let number : ℕ → ℕ = λ k. cond (ltb k (4 * commands tape)) (number_of (line_at m c tape (k / 4)) (k % 4)) (get_or old k 0) in
      let a : (4 * i + j) / 4 ≡ i = omega arith in
      let b : (4 * i + j) % 4 ≡ j = omega arith in
      let short = le-ltb (length old / 4) (commands tape) (omega arith) in
      let below = lt-ltb (4 * i + j) (4 * commands tape) (omega arith) in
      rw (v, g, short) (table_at {A = ℕ} number (length old) (4 * i + j) 0 (omega arith) ∙ (rw (below, a, b)))

-- ---- a valid configuration stays valid

fault_none : (m : Model) (c : Config) → valid m ≡ true → config_valid m c ≡ true → fault_of m c ≡ 0
unfolding fault_of
fault_none m c v g = rw (v, g)

none_valid : (m : Model) (c : Config) → valid m ≡ true → fault_of m c ≡ 0 → config_valid m c ≡ true
unfolding fault_of
none_valid m c v e = go (config_valid m c) (rw v at e)
  where
    go : (b : Bool) → ◌≡◌ {A = ℕ} (cond b 0 10) 0 → b ≡ true
    go true h = refl
    go false h = absurd (omega arith)

module _ (m : Model) (c : Config) (tape : List ℕ) where
  after_keeps : Held c → (i : ℕ) → Held (config_after m c tape i) × (fault_of m (config_after m c tape i) ≡ fault_of m c)
  unfolding config_after
  after_keeps h zero = (h, refl)
  after_keeps h (suc i) =
      let before = after_keeps h i in
      let step = coded_keeps m (config_after m c tape i) (code_in (bytes_at tape i)) (command_in (bytes_at tape i)) before.0 in
      (step.0, step.1 ∙ before.1)

  pub after_valid : Held c → valid m ≡ true → config_valid m c ≡ true → (i : ℕ) → config_valid m (config_after m c tape i) ≡ true
  after_valid h v g i = none_valid m (config_after m c tape i) v ((after_keeps h i).1 ∙ fault_none m c v g)

-- and it is valid at the start
pub fresh_right : (m : Model) → valid m ≡ true → config_valid m (fresh_of m).config ≡ true
unfolding fresh_of
fresh_right m v = rw v (fresh_valid m v)
