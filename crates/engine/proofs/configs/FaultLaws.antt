-- What is read of a model to decide validity: the state at state % 32 tells the same as the state in which a subject is.
use mathlib.Core.Path.{◌≡◌, refl, sym, ap, ◌∙◌}
use mathlib.Core.Bool.{Bool, true, false, ◌||◌, ◌&&◌, cond}
use mathlib.Core.List.{List}
use Prim.Native.Nat.{ℕ, ◌+◌, ◌*◌, ◌%◌, ◌≤◌, ◌<◌}
use native.Mathlib.Omega.{arith}
use borrow.Author.Tests.{eqb-true, eqb-false, ltb-true, ltb-false, lt-ltb}
use lib.Dec.{eqb, ltb}
use lib.ListN.{length, get_or, set}
use lib.Seq.{get_or-set_same, get_or-set_other}
use Rattle.sets.specs.Below.{all_below}
use Rattle.sets.proofs.Below.{all_same, all_each, table_at}
use Rattle.model.specs.Sizes.{most_subjects}
use Rattle.model.specs.Valid.{state_at, subject_at, valid}
use Rattle.model.specs.declared.Model.{Model}
use Rattle.model.specs.declared.State.{State}
use Rattle.engine.specs.configs.Subjects.{at, here_of}
use Rattle.engine.specs.configs.Valid.{subject_valid, is_nobody, subject_right, place_right, places_right, type_of, config_valid, fault_of}
use Rattle.engine.specs.inner.Reads.{read_here, masks_of, places_of}
use Rattle.engine.specs.declared.Config.{Config}
use Rattle.engine.specs.declared.Pool.{Pool}
use Rattle.engine.proofs.configs.ModelFacts.{subject_there}
use Rattle.engine.proofs.configs.IndexFacts.{few_states, state_gone, state_there_lem}

-- where a list has f at the places below s, with f s stored at s it has f below the next
pub noted_turn : (f : ℕ → ℕ) (l : List ℕ) (s x : ℕ) → s < length l → ((k : ℕ) → k < s → get_or l k 0 ≡ f k) → x ≡ f s
    → (k : ℕ) → k < s + 1 → get_or (set l s x) k 0 ≡ f k
noted_turn f l s x h p e k l1 = go (eqb s k) refl
  where
    go : (b : Bool) → eqb s k ≡ b → get_or (set l s x) k 0 ≡ f k
    go true t = let same = eqb-true s k t in rw (← same) (get_or-set_same l s x 0 h ∙ e)
    go false t = let other = eqb-false s k t in get_or-set_other l s k x 0 (λ z. other (sym z)) ∙ p k (omega arith)

module _ (m : Model) (c : Config) (v : valid m ≡ true) where
  -- where the state of subject s is there, what is read is the state in which it is
  here_read : (s : ℕ) → s < most_subjects → (at c s).state < (subject_at m s).states → read_here m c s ≡ here_of m c s
  here_read s l h =
      let small : (at c s).state % 32 ≡ (at c s).state = omega (arith, few_states m s v l) in
      ap (λ (t : ℕ). state_at m (s * 32 + t)) small

  -- a subject is valid by what is read exactly when it is valid: in a state that is not there it is not, whatever is read
  pub subject_read : (s : ℕ) → s < most_subjects
      → subject_valid m.n (subject_at m s) (read_here m c s) (at c s) ≡ subject_valid m.n (subject_at m s) (here_of m c s) (at c s)
  subject_read s l = go (ltb (at c s).state (subject_at m s).states) refl
    where
      go : (b : Bool) → ltb (at c s).state (subject_at m s).states ≡ b
          → subject_valid m.n (subject_at m s) (read_here m c s) (at c s) ≡ subject_valid m.n (subject_at m s) (here_of m c s) (at c s)
      go true e = ap (λ (st : State). subject_valid m.n (subject_at m s) st (at c s)) (here_read s l (ltb-true _ _ e))
      go false e = state_gone _ _ _ _ (ltb-false _ _ e) ∙ sym (state_gone _ _ _ _ (ltb-false _ _ e))

  -- where those below n are right, the others decide
  pub subjects_rest : all_below (subject_right m c) m.n ≡ true
      → all_below (λ k. ltb k m.n || is_nobody (at c k)) most_subjects ≡ all_below (subject_right m c) most_subjects
  unfolding subject_right
  subjects_rest h = all_same (λ k. ltb k m.n || is_nobody (at c k)) (subject_right m c) most_subjects (λ k l. go k (ltb k m.n) refl)
    where
      go : (k : ℕ) (b : Bool) → ltb k m.n ≡ b → (ltb k m.n || is_nobody (at c k)) ≡ subject_right m c k
      go k true e = rw e (sym (rw e at (all_each (subject_right m c) m.n h k (ltb-true _ _ e))))
      go k false e = rw e

  -- where every subject is right, the types that are read judge the pools alike
  pub places_read : all_below (subject_right m c) most_subjects ≡ true → (types : List ℕ)
      → ((s : ℕ) → s < m.n → get_or types s 0 ≡ type_of (read_here m c s))
      → places_of m.n types c ≡ places_right m c
  unfolding places_of places_right
  places_read h types is = all_same _ _ m.n (λ r _. all_same _ _ m.n (same r))
    where
      same : (r s : ℕ) → s < m.n
          → place_right s (at c s).mask (get_or types s 0) r (at c r).pool ≡ place_right s (at c s).mask (type_of (here_of m c s)) r (at c r).pool
      same r s l =
          let k = subject_there m v s l in
          ap (λ (t : ℕ). place_right s (at c s).mask t r (at c r).pool) (is s l ∙ ap type_of (here_read s k (state_there_lem m c s k l h)))

  -- a turn: subject s is right exactly when it is valid by what is read
  pub subject_step : (s : ℕ) → s < m.n → subject_right m c s ≡ subject_valid m.n (subject_at m s) (read_here m c s) (at c s)
  unfolding subject_right
  subject_step s l = rw (lt-ltb s m.n l) (sym (subject_read s (subject_there m v s l)))

  -- where those below n are right and their types are noted, the others and the places decide
  pub config_told : (types : List ℕ) → all_below (subject_right m c) m.n ≡ true → ((s : ℕ) → s < m.n → get_or types s 0 ≡ type_of (read_here m c s))
      → config_valid m c ≡ (all_below (λ k. ltb k m.n || is_nobody (at c k)) most_subjects && places_of m.n types c)
  unfolding config_valid
  config_told types below noted = go (all_below (λ k. ltb k m.n || is_nobody (at c k)) most_subjects) refl
    where
      go : (b : Bool) → all_below (λ k. ltb k m.n || is_nobody (at c k)) most_subjects ≡ b → config_valid m c ≡ (b && places_of m.n types c)
      go true e =
          let all = sym (subjects_rest below) ∙ e in
          rw (all, places_read all types noted)
      go false e = rw (sym (subjects_rest below) ∙ e)

-- the masks as they are gathered judge a pool as those of the subjects
pub masks_read : (n : ℕ) (types : List ℕ) (c : Config) (r : ℕ) (p : Pool) → n ≤ most_subjects
    → all_below (λ s. place_right s (get_or (masks_of c) s 0) (get_or types s 0) r p) n ≡ all_below (λ s. place_right s (at c s).mask (get_or types s 0) r p) n
masks_read n types c r p h =
    all_same _ _ n
    (λ s l. ap (λ (mask : ℕ). place_right s mask (get_or types s 0) r p) (table_at (λ i. (at c i).mask) most_subjects s 0 (omega arith)))
