-- What the answer to a Reserve says: the four masks, the number still missing, and which pools got a reservation.
use mathlib.Core.Path.{◌≡◌, refl, sym, ap, ◌∙◌}
use mathlib.Core.Logic.{◌≢◌}
use mathlib.Core.Bool.{Bool, true, false, ◌&&◌, ◌||◌, not, cond, and_assoc}
use mathlib.Core.List.{List, [], ◌∷◌, ◌++◌}
use Prim.Native.Nat.{ℕ, ◌+◌, ◌^◌, ◌≤◌, ◌<◌}
use native.Mathlib.Omega.{arith}
use borrow.Author.Tests.{eq-eqb, ne_eqb, ltb-false, not-true}
use lib.Count.{ones}
use lib.Dec.{ltb}
use lib.ListN.{length, get_or}
use Rattle.sets.specs.Below.{count_below}
use Rattle.sets.specs.Lists.{folded}
use Rattle.sets.specs.Masks.{bit, members, others}
use Rattle.sets.proofs.Tests.{and_true, and_both}
use Rattle.sets.proofs.Below.{sum_same, sum_plus}
use Rattle.sets.proofs.Masks.{bit_past, ones_members, length_members_count, length_others_count}
use Rattle.model.specs.Sizes.{most_subjects}
use Rattle.model.specs.Valid.{no_subject}
use Rattle.model.specs.declared.State.{State}
use Rattle.model.specs.declared.Subject as model_subject
use Rattle.engine.specs.pools.Sizes.{most_entries}
use Rattle.engine.specs.pools.Entries.{reservation}
use Rattle.engine.specs.pools.Pools.{held, appended}
use Rattle.engine.proofs.Cited.{held_appended}
use Rattle.engine.specs.configs.Subjects.{at, Held}
use Rattle.engine.specs.configs.Valid.{type_of}
use Rattle.engine.specs.declared.Answer.TheVariants.{Reserved}
use Rattle.engine.specs.declared.Config.{Config}
use Rattle.engine.specs.declared.Subject.{Subject}
use Rattle.engine.specs.commands.Reserve.{begun, rounds, answered, reserving}
use Rattle.engine.specs.declared.Reply.{Reply}
use Rattle.engine.specs.declared.Reply.TheVariants.{Placed, Improper, Closed, Full}
use Rattle.engine.proofs.RoundLaws.{is_reply, reply_is, is_reply_lem, mask_for, Narrow, placed_room, is_asked, reply_in, answers, round_after, noted_is, reserving_at}
use Rattle.engine_promises.specs.Reserves.{one, FourMasks, Answered}

-- ---- a number's one answer, where t is whether it is asked

at_most_one_lem : (t : Bool) (a : Reply) → one (t && is_reply Placed a) + one (t && is_reply Improper a) + one (t && is_reply Closed a) + one (t && is_reply Full a) ≤ 1
unfolding is_reply
at_most_one_lem true Placed = omega arith
at_most_one_lem true Improper = omega arith
at_most_one_lem true Closed = omega arith
at_most_one_lem true Full = omega arith
at_most_one_lem false a = omega arith

together_asked : (t : Bool) (a : Reply) → (t && is_reply Placed a || t && is_reply Improper a || t && is_reply Closed a || t && is_reply Full a) ≡ t
unfolding is_reply
together_asked true Placed = refl
together_asked true Improper = refl
together_asked true Closed = refl
together_asked true Full = refl
together_asked false a = refl

-- x whether it is a receiver, y whether it had a place
missing_one : (x y : Bool) (a : Reply)
    → one (x && not (y || (x && not y) && is_reply Placed a))
    ≡ one ((x && not y) && is_reply Improper a) + one ((x && not y) && is_reply Closed a) + one ((x && not y) && is_reply Full a)
unfolding is_reply
missing_one true true a = refl
missing_one true false Placed = refl
missing_one true false Improper = refl
missing_one true false Closed = refl
missing_one true false Full = refl
missing_one false y a = refl

no_length : {A : Type 0} (xs : List A) → length xs ≡ 0 → xs ≡ []
no_length [] h = refl
no_length (x ∷ xs) h = absurd (omega arith)

-- ---- the round

module _ (subjects : List model_subject.Subject) (here : State) (c : Config) (s : ℕ) where
  module _ (q : Reply) (r : ℕ) where
    answers_is : answers subjects here c s q r ≡ true → Answered subjects here c s q r
    unfolding answers is_asked reply_in
    answers_is h =
        let a = and_both (is_asked here (at c s).mask r) (is_reply q (reply_in subjects here c s r)) h in
        let b = and_both (bit here.receivers r) (not (bit (at c s).mask r)) a.left in
        record { receiver = b.left; no_place = not-true (bit (at c s).mask r) b.right; replies = reply_is q (reply_in subjects here c s r) a.right }

    is_answers : Answered subjects here c s q r → answers subjects here c s q r ≡ true
    unfolding answers is_asked reply_in
    is_answers h = and_true (and_true h.receiver (ap not h.no_place)) (is_reply_lem q (reply_in subjects here c s r) h.replies)

    -- the mask of an answer has the receivers without a place that give this answer
    noted_only : r < most_subjects → bit (mask_for q (rounds subjects here c s).places) r ≡ true → Answered subjects here c s q r
    noted_only l h = answers_is (sym (noted_is subjects here c s q r l) ∙ h)

    noted_all : r < most_subjects → Answered subjects here c s q r → bit (mask_for q (rounds subjects here c s).places) r ≡ true
    noted_all l h = noted_is subjects here c s q r l ∙ is_answers h

  -- who is placed: a receiver without a place whose reply, on the configuration before, is Placed
  pub placed_only : (r : ℕ) → r < most_subjects → bit (rounds subjects here c s).places.placed r ≡ true → Answered subjects here c s Placed r
  unfolding mask_for
  placed_only r l e = noted_only Placed r l e

  pub placed_all : (r : ℕ) → r < most_subjects → Answered subjects here c s Placed r → bit (rounds subjects here c s).places.placed r ≡ true
  unfolding mask_for
  placed_all r l a = noted_all Placed r l a

  -- ---- the four masks

  module _ (old : (at c s).mask < 2 ^ most_subjects) (wide : here.receivers < 2 ^ most_subjects) where
    receives : (k : ℕ) → (ltb k most_subjects && (bit here.receivers k && not (bit (at c s).mask k))) ≡ (bit here.receivers k && not (bit (at c s).mask k))
    receives k = go (ltb k most_subjects) refl
      where
        go : (b : Bool) → ltb k most_subjects ≡ b
            → (b && (bit here.receivers k && not (bit (at c s).mask k))) ≡ (bit here.receivers k && not (bit (at c s).mask k))
        go true e = refl
        go false e = rw (bit_past most_subjects here.receivers k wide (ltb-false k most_subjects e))

    bits : (q : Reply) (k : ℕ)
        → bit (mask_for q (rounds subjects here c s).places) k ≡ ((bit here.receivers k && not (bit (at c s).mask k)) && is_reply q (reply_in subjects here c s k))
    unfolding answers is_asked
    bits q k =
        (round_after subjects here c s).noted q k
        ∙ sym (and_assoc (ltb k most_subjects) (bit here.receivers k && not (bit (at c s).mask k)) (is_reply q (reply_in subjects here c s k)))
        ∙ ap (λ (b : Bool). b && is_reply q (reply_in subjects here c s k)) (receives k)

    -- the same for each, by its name
    placed_bits : (k : ℕ)
        → bit (rounds subjects here c s).places.placed k ≡ ((bit here.receivers k && not (bit (at c s).mask k)) && is_reply Placed (reply_in subjects here c s k))
    unfolding mask_for
    placed_bits k = bits Placed k

    improper_bits : (k : ℕ)
        → bit (rounds subjects here c s).places.improper k ≡ ((bit here.receivers k && not (bit (at c s).mask k)) && is_reply Improper (reply_in subjects here c s k))
    unfolding mask_for
    improper_bits k = bits Improper k

    closed_bits : (k : ℕ)
        → bit (rounds subjects here c s).places.closed k ≡ ((bit here.receivers k && not (bit (at c s).mask k)) && is_reply Closed (reply_in subjects here c s k))
    unfolding mask_for
    closed_bits k = bits Closed k

    full_bits : (k : ℕ)
        → bit (rounds subjects here c s).places.full k ≡ ((bit here.receivers k && not (bit (at c s).mask k)) && is_reply Full (reply_in subjects here c s k))
    unfolding mask_for
    full_bits k = bits Full k

    grown_bits : (k : ℕ) → bit (rounds subjects here c s).places.mask k ≡ (bit (at c s).mask k || bit (rounds subjects here c s).places.placed k)
    unfolding mask_for
    grown_bits k = (round_after subjects here c s).grown k

    missing_bits : (k : ℕ)
        → one (bit here.receivers k && not (bit (rounds subjects here c s).places.mask k))
        ≡ one (bit (rounds subjects here c s).places.improper k) + one (bit (rounds subjects here c s).places.closed k) + one (bit (rounds subjects here c s).places.full k)
    missing_bits k =
        rw (grown_bits k, placed_bits k, improper_bits k, closed_bits k, full_bits k)
        (missing_one (bit here.receivers k) (bit (at c s).mask k) (reply_in subjects here c s k))

    missing_members : length (others most_subjects here.receivers (rounds subjects here c s).places.mask)
        ≡ length (members most_subjects (rounds subjects here c s).places.improper)
        + length (members most_subjects (rounds subjects here c s).places.closed)
        + length (members most_subjects (rounds subjects here c s).places.full)
    unfolding count_below
    missing_members =
        let i : ℕ → ℕ = λ k. one (bit (rounds subjects here c s).places.improper k) in
        let d : ℕ → ℕ = λ k. one (bit (rounds subjects here c s).places.closed k) in
        let f : ℕ → ℕ = λ k. one (bit (rounds subjects here c s).places.full k) in
        length_others_count most_subjects here.receivers (rounds subjects here c s).places.mask
        ∙ sum_same _ (λ k. i k + d k + f k) most_subjects (λ k l. missing_bits k)
        ∙ omega (
          arith,
          sum_plus (λ k. i k + d k) f most_subjects,
          sum_plus i d most_subjects,
          length_members_count most_subjects (rounds subjects here c s).places.improper,
          length_members_count most_subjects (rounds subjects here c s).places.closed,
          length_members_count most_subjects (rounds subjects here c s).places.full,
        )

    narrow_masks : Narrow most_subjects (rounds subjects here c s).places
    narrow_masks = (round_after subjects here c s).narrow old

    missing_ones : length (others most_subjects here.receivers (rounds subjects here c s).places.mask)
        ≡ ones (rounds subjects here c s).places.improper + ones (rounds subjects here c s).places.closed + ones (rounds subjects here c s).places.full
    unfolding mask_for
    missing_ones =
        omega (
          arith,
          missing_members,
          ones_members most_subjects (rounds subjects here c s).places.improper (narrow_masks.noted Improper),
          ones_members most_subjects (rounds subjects here c s).places.closed (narrow_masks.noted Closed),
          ones_members most_subjects (rounds subjects here c s).places.full (narrow_masks.noted Full),
        )

    -- where nobody is asked, nothing happens
    none_asked : length (others most_subjects here.receivers (at c s).mask) ≡ 0 → rounds subjects here c s ≡ begun c (at c s).mask
    unfolding rounds folded
    none_asked h = rw (no_length (others most_subjects here.receivers (at c s).mask) h)

    four_masks : FourMasks here.receivers (at c s).mask
        (rounds subjects here c s).places.mask
        (rounds subjects here c s).places.placed
        (rounds subjects here c s).places.improper
        (rounds subjects here c s).places.closed
        (rounds subjects here c s).places.full
        (length (others most_subjects here.receivers (rounds subjects here c s).places.mask))
    four_masks =
        record {
          at_most_one = λ k.
              rw (placed_bits k, improper_bits k, closed_bits k, full_bits k)
              (at_most_one_lem (bit here.receivers k && not (bit (at c s).mask k)) (reply_in subjects here c s k));
          together = λ k.
              rw (placed_bits k, improper_bits k, closed_bits k, full_bits k)
              (together_asked (bit here.receivers k && not (bit (at c s).mask k)) (reply_in subjects here c s k));
          grown = grown_bits;
          still_missing = missing_members;
          still_missing_ones = missing_ones;
          none_missed = λ h. rw (none_asked h) (record { none_placed = refl; none_improper = refl; none_closed = refl; none_full = refl; none_missing = h });
        }

    -- the same of the answer
    answer_masks : (placed improper closed full missing : ℕ) → (reserving subjects here c s).answer ≡ Reserved placed improper closed full missing
        → FourMasks here.receivers (at c s).mask (rounds subjects here c s).places.mask placed improper closed full missing
    unfolding reserving answered
    answer_masks placed improper closed full missing h =
        let p : (rounds subjects here c s).places.placed ≡ placed = cc in
        let i : (rounds subjects here c s).places.improper ≡ improper = cc in
        let d : (rounds subjects here c s).places.closed ≡ closed = cc in
        let f : (rounds subjects here c s).places.full ≡ full = cc in
        let m : length (others most_subjects here.receivers (rounds subjects here c s).places.mask) ≡ missing = cc in
        rw (p, i, d, f, m) at four_masks

  -- the answer is never another
  pub answer_is : (reserving subjects here c s).answer
      ≡ Reserved
      (rounds subjects here c s).places.placed
      (rounds subjects here c s).places.improper
      (rounds subjects here c s).places.closed
      (rounds subjects here c s).places.full
      (length (others most_subjects here.receivers (rounds subjects here c s).places.mask))
  unfolding reserving answered
  answer_is = refl

  -- ---- the configuration

  module _ (h : Held c) (l : s < most_subjects) where
    -- the mask of the sender, and of others
    mask_after_lem : (at (reserving subjects here c s).config s).mask ≡ (rounds subjects here c s).places.mask
    mask_after_lem = ap (λ (x : Subject). x.mask) (reserving_at subjects here c s h.subjects l s l) ∙ rw (eq-eqb s s refl)

    -- the answer, told by the masks of the sender before and after
    pub reserve_masks : here.receivers < 2 ^ most_subjects → (placed improper closed full missing : ℕ)
        → (reserving subjects here c s).answer ≡ Reserved placed improper closed full missing
        → FourMasks here.receivers (at c s).mask (at (reserving subjects here c s).config s).mask placed improper closed full missing
    reserve_masks wide placed improper closed full missing e =
        rw mask_after_lem (answer_masks (h.masks s l) wide placed improper closed full missing e)

    module _ (r : ℕ) (j : r < most_subjects) where
      pub mask_other : r ≢ s → (at (reserving subjects here c s).config r).mask ≡ (at c r).mask
      mask_other d = ap (λ (x : Subject). x.mask) (reserving_at subjects here c s h.subjects l r j) ∙ rw (ne_eqb r s d)

      pool_is : (at (reserving subjects here c s).config r).pool
          ≡ cond (bit (rounds subjects here c s).places.placed r) (appended most_entries (at c r).pool (reservation s (type_of here))) (at c r).pool
      unfolding mask_for
      pool_is = rw (noted_is subjects here c s Placed r j) (ap (λ (x : Subject). x.pool) (reserving_at subjects here c s h.subjects l r j))

      -- who is placed has the reservation at the end of its pool
      pub pool_placed : bit (rounds subjects here c s).places.placed r ≡ true
          → held (at (reserving subjects here c s).config r).pool ≡ held (at c r).pool ++ (reservation s (type_of here) ∷ [])
      pool_placed e =
          let a = placed_only r j e in
          let room = placed_room (get_or subjects r no_subject) (at c r) s (type_of here) (is_reply_lem Placed _ a.replies) in
          ap held (pool_is ∙ rw e)
          ∙ held_appended most_entries (at c r).pool (reservation s (type_of here))

      -- every other pool stays
      pub pool_other : bit (rounds subjects here c s).places.placed r ≡ false → (at (reserving subjects here c s).config r).pool ≡ (at c r).pool
      pool_other e = pool_is ∙ rw e
