-- What an accepted command does to a pool.
use Rattle.std.specs.Prelude.{Option, Some, None}
use mathlib.Core.Path.{◌≡◌, refl}
use mathlib.Core.Bool.{Bool, true, false, not}
use mathlib.Core.List.{List, [], ◌∷◌, ◌++◌, map}
use Prim.Native.Nat.{ℕ, ◌<◌}
use native.Mathlib.Omega.{arith}
use borrow.Author.Tests.{eqb-true, eqb-false, not-false}
use lib.Dec.{eqb}
use lib.ListN.{length}
use Rattle.sets.specs.Lists.{passing, without}
use Rattle.sets.specs.Masks.{bit}
use Rattle.sets.proofs.Tests.{choose}
use Rattle.model.specs.Rules.{any}
use Rattle.model.specs.Sizes.{most_subjects}
use Rattle.model.specs.declared.Model.{Model}
use Rattle.engine.specs.pools.Sizes.{most_entries}
use Rattle.engine.specs.pools.Entries.{reservation, reserved_by, delivered}
use Rattle.engine.specs.pools.Pools.{held}
use Rattle.engine.specs.declared.Entry.{Entry}
use Rattle.engine.proofs.Cited.{held_taken, subject_there, at_put_same, at_put_other, at_each, each_put}
use Rattle.engine.specs.configs.Answers.{refusal_of}
use Rattle.engine.specs.configs.Subjects.{running, is_send, at, here_of, put, entered, Held}
use Rattle.engine.specs.configs.Valid.{type_of}
use Rattle.engine.specs.declared.Config.{Config}
use Rattle.engine.specs.declared.Subject.{Subject}
use Rattle.engine.specs.commands.Codes.{names, subject_of}
use Rattle.engine.specs.commands.Take.{wanted_at, taking_at, taking}
use Rattle.engine.specs.commands.Doing.{doing}
use Rattle.engine.specs.commands.Runs.{running_on}
use Rattle.engine.specs.commands.Tick.{ticked, ticking}
use Rattle.engine.specs.commands.Reserve.{rounds, reserving}
use Rattle.engine.specs.Steps.{effect, ends_at, stepped}
use Rattle.engine.specs.declared.Command.{Command}
use Rattle.engine.specs.declared.Command.TheVariants.{Do, Reserve, Deliver, Take, Run, Expire, Cancel, Tick}
use Rattle.engine.proofs.KeptOne.{pool_marking}
use Rattle.engine_promises.proofs.Places.{placed_only, pool_placed, pool_other}
use Rattle.engine_promises.proofs.Pools.{held_delivering, leaving_withdraws}
use Rattle.engine_promises.proofs.Refusals.{effect_of, Accepted, accepted_tells}

-- P holds of the pool of r after whatever a command may do to it that names s
pub record Moved (m : Model) (c : Config) (s r : ℕ) (P : List Entry → Type 0) : Type 0 where
  pub placed : s < m.n → is_send (here_of m c s).kind ≡ true → bit (here_of m c s).receivers r ≡ true → P (held (at c r).pool ++ (reservation s (type_of (here_of m c s)) ∷ []))
  pub sent : refusal_of (stepped m c (Deliver s)).answer ≡ 0 → (word : ℕ) → P (map (delivered s word) (held (at c r).pool))
  pub taken : r ≡ s → (i : ℕ) → P (without i (held (at c r).pool))
  pub withdrawn : P (passing (λ e. not (reserved_by s any e)) (held (at c r).pool))

-- so does a tick
ticked_pool : (x : Subject) → (ticked x).pool ≡ x.pool
unfolding ticked
ticked_pool x = choose (λ (y : Subject). y.pool ≡ x.pool) (eqb x.mode running) (λ _. refl) (λ _. refl)

module _ (m : Model) (c : Config) (h : Held c) (r : ℕ) (l : r < most_subjects) (P : List Entry → Type 0) where
  -- the subject of an accepted command is in the array
  in_array : (k : Command) → Accepted m c k → subject_of k < length c.subjects
  in_array k a = let j = subject_there m a.model (subject_of k) a.there in omega (arith, h.subjects)

  -- a subject that is put with the pool it had
  put_same : (s : ℕ) (x : Subject) → s < length c.subjects → x.pool ≡ (at c s).pool → P (held (at c r).pool) → P (held (at (put c s x) r).pool)
  put_same s x j e p = rw (each_put (λ k y. y.pool ≡ (at c k).pool) c s x j e r (λ _. refl)) p

  -- only the pool of s loses an entry, where there is one to take
  taking_moves : (s e : ℕ) (end : Bool) (f : Option ℕ) → s < length c.subjects → P (held (at c r).pool) → Moved m c s r P → P (held (at (taking_at f (here_of m c s) end c s e) r).pool)
  unfolding taking_at entered
  taking_moves s e end (Some i) j same p = go (eqb r s) refl
    where
      go : (b : Bool) → eqb r s ≡ b → P (held (at (taking_at (Some i) (here_of m c s) end c s e) r).pool)
      go true q =
          let e = eqb-true r s q in
          rw (e, at_put_same c s _ j, held_taken most_entries (at c s).pool i) (rw e at (p.taken e i))
      go false q = rw (at_put_other c s _ r (eqb-false r s q)) same
  taking_moves s e end None j same p = same

  -- after an accepted command
  pub pool_moved : (k : Command) → refusal_of (stepped m c k).answer ≡ 0 → P (held (at c r).pool)
      → (names k ≡ true → Moved m c (subject_of k) r P) → P (held (at (effect_of m c k).config r).pool)
  unfolding effect doing taking running_on entered ticking
  pool_moved (Do s e w) fine same p = put_same s _ (in_array (Do s e w) (accepted_tells m c (Do s e w) fine)) refl same
  pool_moved (Reserve s) fine same p = go (bit (rounds m.subjects (here_of m c s) c s).places.placed r) refl
    where
      told : Accepted m c (Reserve s)
      told = accepted_tells m c (Reserve s) fine

      go : (b : Bool) → bit (rounds m.subjects (here_of m c s) c s).places.placed r ≡ b
          → P (held (at (reserving m.subjects (here_of m c s) c s).config r).pool)
      go true e =
          rw (pool_placed m.subjects (here_of m c s) c s h (subject_there m told.model s told.there) r l e)
          ((p refl).placed told.there (not-false _ (told.none 2)) (placed_only m.subjects (here_of m c s) c s r l e).receiver)
      go false e = rw (pool_other m.subjects (here_of m c s) c s h (subject_there m told.model s told.there) r l e) same
  pool_moved (Deliver s) fine same p = rw (held_delivering m.subjects (here_of m c s) (ends_at m c (Deliver s)) c s r l) ((p refl).sent fine (at c s).word)
  pool_moved (Take s e) fine same p =
      taking_moves s e (ends_at m c (Take s e)) (wanted_at (here_of m c s) e (at c s)) (in_array (Take s e) (accepted_tells m c (Take s e) fine)) same (p refl)
  pool_moved (Run s) fine same p =
      put_same s _ (in_array (Run s) (accepted_tells m c (Run s) fine)) (pool_marking m.n (here_of m c s) (at c s)) same
  pool_moved (Expire s) fine same p = rw (leaving_withdraws (here_of m c s).timeout (ends_at m c (Expire s)) c s r l) (p refl).withdrawn
  pool_moved (Cancel s) fine same p = rw (leaving_withdraws (here_of m c s).cancel (ends_at m c (Cancel s)) c s r l) (p refl).withdrawn
  pool_moved Tick fine same p = rw (at_each (λ _ x. ticked x) c r l, ticked_pool (at c r)) same
