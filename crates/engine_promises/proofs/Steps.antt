-- What an accepted Take, Deliver, Expire, Cancel or Reserve does.
use Rattle.std.specs.Prelude.{Option, Some, None}
use mathlib.Core.Path.{◌≡◌, refl, sym, ap, ◌∙◌}
use mathlib.Core.Bool.{Bool, true, false, not}
use Prim.Native.Nat.{ℕ, zero, suc, ◌^◌, ◌≤◌, ◌<◌}
use native.Mathlib.Nat.{pow-suc}
use native.Mathlib.Omega.{arith}
use borrow.Author.Tests.{not-false}
use lib.ListN.{length}
use Rattle.sets.specs.Below.{all_below}
use Rattle.sets.specs.Masks.{bit, others}
use Rattle.sets.proofs.Tests.{not_both, and_true, and_both}
use Rattle.sets.proofs.Lists.{find_is}
use Rattle.sets.proofs.Masks.{bits_none, mask_below}
use Rattle.model.specs.Sizes.{most_subjects}
use Rattle.model.specs.Valid.{subject_at, exit_at, valid}
use Rattle.model.specs.declared.Model.{Model}
use Rattle.model.specs.declared.State.{State}
use Rattle.engine.specs.pools.Sizes.{most_entries}
use Rattle.engine.specs.pools.Entries.{blank_entry, is_message}
use Rattle.engine.specs.pools.Pools.{held, first_message, taken_at}
use Rattle.engine.specs.declared.Pool.{Pool}
use Rattle.engine.proofs.Cited.{held_taken, state_there_lem, n_high, subject_there, state_right_lem, at_put_same}
use Rattle.engine.specs.configs.Answers.{refusal_of}
use Rattle.engine.specs.configs.Subjects.{is_send, at, here_of, with_word, with_pool, entered, Held}
use Rattle.engine.specs.configs.Valid.{type_of, subject_right, places_right, config_valid}
use Rattle.engine.specs.declared.Answer.TheVariants.{Reserved}
use Rattle.engine.specs.declared.Config.{Config}
use Rattle.engine.specs.declared.Stepped.{Stepped}
use Rattle.engine.specs.commands.Take.{wanted_at, taking_at, taking}
use Rattle.engine.specs.commands.Leave.{leaving}
use Rattle.engine.specs.commands.Reserve.{rounds, reserving}
use Rattle.engine.specs.commands.Rules.{is_nothing, no_message, some_improper, can_deliver}
use Rattle.engine.specs.Steps.{effect, ends_at, stepped}
use Rattle.engine.specs.declared.Command.TheVariants.{Reserve, Deliver, Take, Expire, Cancel}
use Rattle.engine_promises.specs.Moves.{Handed, AtItsPlace, Withdrawn}
use Rattle.engine_promises.specs.Reserves.{FourMasks, PlacedAtEnd}
use Rattle.engine_promises.proofs.Places.{answer_is, reserve_masks, pool_placed, pool_other}
use Rattle.engine_promises.proofs.Pools.{delivered_at_its_place, leaving_withdraws, leaving_none, leaving_others}
use Rattle.engine_promises.proofs.Refusals.{Accepted, accepted_is, accepted_tells}

-- a subject of a valid configuration is in a state that exists
state_below : (m : Model) (c : Config) (s : ℕ) → valid m ≡ true → config_valid m c ≡ true → s < m.n → (at c s).state < (subject_at m s).states
unfolding config_valid
state_below m c s v g l =
    state_there_lem m c s (subject_there m v s l) l (and_both (all_below (subject_right m c) most_subjects) (places_right m c) g).left

-- ---- Take

-- the place that was found is that of the earliest message that matches
handed_at : (sender typ : ℕ) (p : Pool) (i : ℕ) → first_message sender typ (held p) ≡ Some i
    → Handed sender typ (held p) (taken_at most_entries p i).content (held (taken_at most_entries p i).pool)
unfolding first_message taken_at is_message
handed_at sender typ p i h =
    let f = find_is (is_message sender typ) (held p) blank_entry i h in
    let b = and_both _ _ f.here in
    record {
      place = i;
      there = f.below;
      message = b.left;
      matching = b.right;
      earliest = f.before;
      content = refl;
      others = held_taken most_entries p i;
    }

taking_hands : (here : State) (end : Bool) (c : Config) (s e : ℕ) → s < length c.subjects → is_nothing (wanted_at here e (at c s)) ≡ false
    → Handed (exit_at here e).sender (exit_at here e).typ (held (at c s).pool) (at (taking here end c s e) s).word (held (at (taking here end c s e) s).pool)
unfolding taking taking_at entered
taking_hands here end c s e l = go (wanted_at here e (at c s)) refl
  where
    go : (f : Option ℕ) → wanted_at here e (at c s) ≡ f → is_nothing f ≡ false
        → Handed (exit_at here e).sender (exit_at here e).typ (held (at c s).pool) (at (taking_at f here end c s e) s).word (held (at (taking_at f here end c s e) s).pool)
    go (Some i) q _ =
        rw (at_put_same c s (entered (exit_at here e).target end (with_word (taken_at most_entries (at c s).pool i).content (with_pool (taken_at most_entries (at c s).pool i).pool (at c s)))) l)
        (handed_at (exit_at here e).sender (exit_at here e).typ (at c s).pool i q)
    go None q n = not_both refl n

module _ (m : Model) (c : Config) (s e : ℕ) where
  pub take_hands : Held c → refusal_of (stepped m c (Take s e)).answer ≡ 0
      → Handed
      (exit_at (here_of m c s) e).sender
      (exit_at (here_of m c s) e).typ
      (held (at c s).pool)
      (at (stepped m c (Take s e)).config s).word
      (held (at (stepped m c (Take s e)).config s).pool)
  unfolding effect no_message
  take_hands h fine =
      let a = accepted_tells m c (Take s e) fine in
      let l = subject_there m a.model s a.there in
      rw (accepted_is m c (Take s e) fine)
      (taking_hands (here_of m c s) (ends_at m c (Take s e)) c s e (omega (arith, h.subjects)) (a.none 4))

-- ---- Deliver, Expire and Cancel

withdraws : (t : ℕ) (end : Bool) (c : Config) (s : ℕ) → Withdrawn s c (leaving t end c s)
withdraws t end c s =
    record {
      pools = leaving_withdraws t end c s;
      none = λ r typ l. leaving_none t end c s r l typ;
      others = leaving_others t end c s;
    }

module _ (m : Model) (c : Config) (s : ℕ) where
  pub deliver_places : refusal_of (stepped m c (Deliver s)).answer ≡ 0
      → (r : ℕ)
      → r < most_subjects
      → AtItsPlace s (at c s).word (held (at c r).pool) (held (at (stepped m c (Deliver s)).config r).pool)
  unfolding effect
  deliver_places fine r l =
      rw (accepted_is m c (Deliver s) fine) (delivered_at_its_place m.subjects (here_of m c s) (ends_at m c (Deliver s)) c s r l)

  pub expire_withdraws : refusal_of (stepped m c (Expire s)).answer ≡ 0 → Withdrawn s c (stepped m c (Expire s)).config
  unfolding effect
  expire_withdraws fine = rw (accepted_is m c (Expire s) fine) (withdraws (here_of m c s).timeout (ends_at m c (Expire s)) c s)

  pub cancel_withdraws : refusal_of (stepped m c (Cancel s)).answer ≡ 0 → Withdrawn s c (stepped m c (Cancel s)).config
  unfolding effect
  cancel_withdraws fine = rw (accepted_is m c (Cancel s) fine) (withdraws (here_of m c s).cancel (ends_at m c (Cancel s)) c s)

  -- where a send can be delivered it does not expire: never both are accepted
  pub deliver_or_expire : refusal_of (stepped m c (Expire s)).answer ≡ 0 → refusal_of (stepped m c (Deliver s)).answer ≡ 0 → ⊥
  unfolding can_deliver
  deliver_or_expire expires delivers =
      let a = accepted_tells m c (Expire s) expires in
      let b = accepted_tells m c (Deliver s) delivers in
      let sends = not-false (is_send (here_of m c s).kind) (b.none 2) in
      let can : can_deliver (here_of m c s) (at c s) (some_improper (here_of m c s) c) ≡ true =
      and_true sends (and_true (ap not (b.none 3)) (ap not (b.none 4))) in
      not_both can (a.none 4)

-- ---- Reserve

lt_two_pow : (k : ℕ) → k < 2 ^ k
lt_two_pow zero = omega arith
lt_two_pow (suc k) = omega (arith, lt_two_pow k, pow-suc 2 k)

-- a set without members from n up is below 2 ^ w for any w from n up
narrow : (w n mask : ℕ) → n ≤ w → ((k : ℕ) → n ≤ k → bit mask k ≡ false) → mask < 2 ^ w
narrow w n mask l f = mask_below w n mask l (bits_none mask n mask (lt_two_pow mask) (λ k g _. f k g))

receivers_narrow : (m : Model) (c : Config) (s : ℕ) → valid m ≡ true → config_valid m c ≡ true → s < m.n → (here_of m c s).receivers < 2 ^ most_subjects
receivers_narrow m c s v g l =
    narrow most_subjects m.n (here_of m c s).receivers (n_high m v) (state_right_lem m v s l (at c s).state (state_below m c s v g l)).receivers

module _ (m : Model) (c : Config) (s : ℕ) where
  -- an accepted Reserve answers with the masks of the round, and the number of receivers that miss a place after it
  pub reserve_answered : refusal_of (stepped m c (Reserve s)).answer ≡ 0
      → (stepped m c (Reserve s)).answer
      ≡ Reserved
      (rounds m.subjects (here_of m c s) c s).places.placed
      (rounds m.subjects (here_of m c s) c s).places.improper
      (rounds m.subjects (here_of m c s) c s).places.closed
      (rounds m.subjects (here_of m c s) c s).places.full
      (length (others most_subjects (here_of m c s).receivers (rounds m.subjects (here_of m c s) c s).places.mask))
  unfolding effect
  reserve_answered fine = ap (λ (x : Stepped). x.answer) (accepted_is m c (Reserve s) fine) ∙ answer_is m.subjects (here_of m c s) c s

  module _ (h : Held c) (placed improper closed full missing : ℕ)
      (is : (stepped m c (Reserve s)).answer ≡ Reserved placed improper closed full missing) where
    -- such an answer is no refusal
    fine : refusal_of (stepped m c (Reserve s)).answer ≡ 0
    fine = ap refusal_of is

    told : Accepted m c (Reserve s)
    told = accepted_tells m c (Reserve s) fine

    there : s < most_subjects
    there = subject_there m told.model s told.there

    step_reserves : stepped m c (Reserve s) ≡ reserving m.subjects (here_of m c s) c s
    unfolding effect
    step_reserves = accepted_is m c (Reserve s) fine

    answer_so : (reserving m.subjects (here_of m c s) c s).answer ≡ Reserved placed improper closed full missing
    answer_so = rw step_reserves at is

    pub reserve_answers : FourMasks (here_of m c s).receivers (at c s).mask (at (stepped m c (Reserve s)).config s).mask placed improper closed full missing
    reserve_answers =
        rw step_reserves
        (reserve_masks m.subjects (here_of m c s) c s h there (receivers_narrow m c s told.model told.config told.there) placed improper closed full missing answer_so)

    round_placed : (rounds m.subjects (here_of m c s) c s).places.placed ≡ placed
    round_placed = let q = sym (answer_is m.subjects (here_of m c s) c s) ∙ answer_so in cc

    pub reserve_places : PlacedAtEnd s (type_of (here_of m c s)) placed c (stepped m c (Reserve s)).config
    reserve_places =
        rw step_reserves
        (record {
          grown = λ r l b. pool_placed m.subjects (here_of m c s) c s h there r l (ap (λ (x : ℕ). bit x r) round_placed ∙ b);
          others = λ r l b. pool_other m.subjects (here_of m c s) c s h there r l (ap (λ (x : ℕ). bit x r) round_placed ∙ b);
        })
