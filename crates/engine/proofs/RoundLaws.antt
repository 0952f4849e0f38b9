-- What a round of reserving leaves: each receiver without a place is asked once, on the configuration as it was before the round.
use mathlib.Core.Path.{◌≡◌, refl, sym, ap, subst, ◌∙◌}
use mathlib.Core.Bool.{Bool, true, false, ◌&&◌, ◌||◌, not, cond, or-false, and-true, and-false}
use mathlib.Core.List.{List}
use Prim.Native.Nat.{ℕ, ◌+◌, ◌-◌, ◌^◌, ◌≤◌, ◌<◌}
use native.Mathlib.Omega.{arith}
use borrow.Author.Tests.{eq-eqb, eqb-true, eqb-false, lt-ltb, le-ltb, ltb-true, ltb-false}
use lib.Bits.{bit_and}
use lib.Dec.{eqb, ltb}
use lib.ListN.{length, get_or, length-set}
use lib.Pow.{pow_pos}
use lib.Seq.{get_or-set_same, get_or-set_other}
use Rattle.sets.specs.Lists.{folded}
use Rattle.sets.specs.Masks.{bit, members}
use Rattle.sets.proofs.Tests.{not_both}
use Rattle.sets.proofs.Masks.{bit_with, bit_zero, with_lt, members_minus, turns_others}
use Rattle.model.specs.Sizes.{most_subjects}
use Rattle.model.specs.Valid.{no_subject}
use Rattle.model.specs.declared.State.{State}
use Rattle.model.specs.declared.Subject as model_subject
use Rattle.engine.specs.pools.Sizes.{most_entries}
use Rattle.engine.specs.pools.Entries.{reservation}
use Rattle.engine.specs.pools.Pools.{held, appended, Well}
use Rattle.engine.specs.pools.Rows.{has_room}
use Rattle.engine.specs.declared.Pool.{Pool}
use Rattle.engine.specs.configs.Subjects.{ended_improperly, no_one, at, put, with_mask, with_pool}
use Rattle.engine.specs.configs.Valid.{type_of}
use Rattle.engine.specs.declared.Config.{Config}
use Rattle.engine.specs.declared.Subject.{Subject}
use Rattle.engine.specs.commands.Reserve.{is_closed, reply_of, with_place, noted, turn_as, turn_of, begun, rounds, reserving, answered}
use Rattle.engine.specs.declared.Places.{Places}
use Rattle.engine.specs.declared.Reply.{Reply}
use Rattle.engine.specs.declared.Reply.TheVariants.{Placed, Improper, Closed, Full}
use Rattle.engine.specs.commands.Reserve.{Round}
use Rattle.engine.proofs.pools.AppendLaws.{place_free}
use Rattle.engine.proofs.pools.PoolLaws.{length_held}

-- ---- replies

code_of : Reply → ℕ
code_of Placed = 0
code_of Improper = 1
code_of Closed = 2
code_of Full = 3

-- the two replies are the same
unfoldable pub is_reply : Reply → Reply → Bool
unfolding code_of
is_reply a b = eqb (code_of a) (code_of b)

reply_as : ℕ → Reply
reply_as k = cond (eqb k 0) Placed (cond (eqb k 1) Improper (cond (eqb k 2) Closed Full))

as_code : (a : Reply) → reply_as (code_of a) ≡ a
unfolding code_of reply_as
as_code Placed = refl
as_code Improper = refl
as_code Closed = refl
as_code Full = refl

pub reply_is : (a b : Reply) → is_reply a b ≡ true → b ≡ a
unfolding is_reply
reply_is a b h = sym (as_code b) ∙ ap reply_as (sym (eqb-true (code_of a) (code_of b) h)) ∙ as_code a

pub is_reply_lem : (a b : Reply) → b ≡ a → is_reply a b ≡ true
unfolding is_reply
is_reply_lem a b e = eq-eqb (code_of a) (code_of b) (ap code_of (sym e))

-- the mask in which a reply is noted
unfoldable pub mask_for : Reply → Places → ℕ
mask_for Placed p = p.placed
mask_for Improper p = p.improper
mask_for Closed p = p.closed
mask_for Full p = p.full

-- all masks of sets of numbers below w
pub record Narrow (w : ℕ) (p : Places) : Type 0 where
  pub mask : p.mask < 2 ^ w
  pub noted : (q : Reply) → mask_for q p < 2 ^ w

noted_bit : (q a : Reply) (r k : ℕ) (p : Places) → bit (mask_for q (noted a r p)) k ≡ (bit (mask_for q p) k || (is_reply q a && eqb k r))
unfolding noted mask_for is_reply
noted_bit Placed Placed r k p = bit_with p.placed r k
noted_bit Placed Improper r k p = sym (or-false _)
noted_bit Placed Closed r k p = sym (or-false _)
noted_bit Placed Full r k p = sym (or-false _)
noted_bit Improper Placed r k p = sym (or-false _)
noted_bit Improper Improper r k p = bit_with p.improper r k
noted_bit Improper Closed r k p = sym (or-false _)
noted_bit Improper Full r k p = sym (or-false _)
noted_bit Closed Placed r k p = sym (or-false _)
noted_bit Closed Improper r k p = sym (or-false _)
noted_bit Closed Closed r k p = bit_with p.closed r k
noted_bit Closed Full r k p = sym (or-false _)
noted_bit Full Placed r k p = sym (or-false _)
noted_bit Full Improper r k p = sym (or-false _)
noted_bit Full Closed r k p = sym (or-false _)
noted_bit Full Full r k p = bit_with p.full r k

mask_bit : (a : Reply) (r k : ℕ) (p : Places) → bit (noted a r p).mask k ≡ (bit p.mask k || (is_reply Placed a && eqb k r))
unfolding noted is_reply
mask_bit Placed r k p = bit_with p.mask r k
mask_bit Improper r k p = sym (or-false _)
mask_bit Closed r k p = sym (or-false _)
mask_bit Full r k p = sym (or-false _)

noted_lt : (w : ℕ) (q a : Reply) (r : ℕ) (p : Places) → r < w → mask_for q p < 2 ^ w → mask_for q (noted a r p) < 2 ^ w
unfolding noted mask_for
noted_lt w Placed Placed r p l h = with_lt w _ r h l
noted_lt w Placed Improper r p l h = h
noted_lt w Placed Closed r p l h = h
noted_lt w Placed Full r p l h = h
noted_lt w Improper Placed r p l h = h
noted_lt w Improper Improper r p l h = with_lt w _ r h l
noted_lt w Improper Closed r p l h = h
noted_lt w Improper Full r p l h = h
noted_lt w Closed Placed r p l h = h
noted_lt w Closed Improper r p l h = h
noted_lt w Closed Closed r p l h = with_lt w _ r h l
noted_lt w Closed Full r p l h = h
noted_lt w Full Placed r p l h = h
noted_lt w Full Improper r p l h = h
noted_lt w Full Closed r p l h = h
noted_lt w Full Full r p l h = with_lt w _ r h l

mask_lt : (w : ℕ) (a : Reply) (r : ℕ) (p : Places) → r < w → p.mask < 2 ^ w → (noted a r p).mask < 2 ^ w
unfolding noted
mask_lt w Placed r p l h = with_lt w _ r h l
mask_lt w Improper r p l h = h
mask_lt w Closed r p l h = h
mask_lt w Full r p l h = h

narrow_noted : (w : ℕ) (a : Reply) (r : ℕ) (p : Places) → r < w → Narrow w p → Narrow w (noted a r p)
narrow_noted w a r p l h = record { mask = mask_lt w a r p l h.mask; noted = λ q. noted_lt w q a r p l (h.noted q) }

-- a subject with a reservation of the sender at the end of its pool
abbrev pub with_reservation : ℕ → ℕ → Subject → Subject
with_reservation sender typ x = with_pool (appended most_entries x.pool (reservation sender typ)) x

placed_is : (a : Reply) (s t : ℕ) (x : Subject) → with_place a s t x ≡ cond (is_reply Placed a) (with_reservation s t x) x
unfolding with_place is_reply
placed_is Placed s t x = refl
placed_is Improper s t x = refl
placed_is Closed s t x = refl
placed_is Full s t x = refl

-- who gives a place had room for it
pub placed_room : (own : model_subject.Subject) (x : Subject) (s t : ℕ) → is_reply Placed (reply_of own x s t) ≡ true → has_room most_entries own (held x.pool) s t ≡ true
unfolding reply_of is_reply
placed_room own x s t h = go (eqb x.mode ended_improperly) (is_closed x s t) (has_room most_entries own (held x.pool) s t) h
  where
    go : (a b d : Bool) → is_reply Placed (cond a Improper (cond b Closed (cond (not d) Full Placed))) ≡ true → d ≡ true
    go true b d e = not_both e refl
    go false true d e = not_both e refl
    go false false true e = refl
    go false false false e = not_both e refl

-- and so a place
pub placed_place : (own : model_subject.Subject) (x : Subject) (s t : ℕ) → Well most_entries x.pool → reply_of own x s t ≡ Placed
    → x.pool.count < most_entries
unfolding is_reply
placed_place own x s t w h =
    let room = placed_room own x s t (ap (is_reply Placed) h) in
    omega (arith, length_held most_entries x.pool w, place_free most_entries (held x.pool) s t own room)

-- ---- a turn

-- r is a receiver without a place
unfoldable pub is_asked : State → ℕ → ℕ → Bool
is_asked here mask r = bit here.receivers r && not (bit mask r)

-- what r answers to s
unfoldable pub reply_in : List model_subject.Subject → State → Config → ℕ → ℕ → Reply
reply_in subjects here c s r = reply_of (get_or subjects r no_subject) (at c r) s (type_of here)

-- r is asked, and answers q
unfoldable pub answers : List model_subject.Subject → State → Config → ℕ → Reply → ℕ → Bool
answers subjects here c s q r = is_asked here (at c s).mask r && is_reply q (reply_in subjects here c s r)

-- the number n itself, or below
ltb_more : (k n : ℕ) → ltb k (n + 1) ≡ (ltb k n || eqb k n)
ltb_more k n = go (eqb k n) refl
  where
    go : (b : Bool) → eqb k n ≡ b → ltb k (n + 1) ≡ (ltb k n || eqb k n)
    go true e =
        let q = eqb-true k n e in
        rw (e, lt-ltb k (n + 1) (omega arith), le-ltb k n (omega arith))
    go false e = rw (e, or-false (ltb k n)) (side (ltb k n) refl)
      where
        side : (b : Bool) → ltb k n ≡ b → ltb k (n + 1) ≡ ltb k n
        side true t = lt-ltb k (n + 1) (omega (arith, ltb-true k n t)) ∙ sym t
        side false t =
            let z = eqb-false k n e in
            le-ltb k (n + 1) (omega (arith, ltb-false k n t)) ∙ sym t

-- before the first turn nothing is noted
none_noted : (q : Reply) (c : Config) (mask : ℕ) → mask_for q (begun c mask).places ≡ 0
unfolding mask_for
none_noted Placed c mask = refl
none_noted Improper c mask = refl
none_noted Closed c mask = refl
none_noted Full c mask = refl

-- a turn's part in what is noted: x and y whether number k had its turn before and has it now, v whether its answer is the one of the mask
more_noted : (x y v w : Bool) → (y ≡ true → v ≡ w) → ((x && v) || (w && y)) ≡ ((x || y) && v)
more_noted true true v w f = rw (← (f refl)) (or_same v)
  where
    or_same : (b : Bool) → (b || (b && true)) ≡ b
    or_same true = refl
    or_same false = refl
more_noted true false v w f = rw and-false (or-false v)
more_noted false true v w f = rw (and-true w) (sym (f refl))
more_noted false false v w f = and-false w

or_shift : (a b d : Bool) → ((a || b) || d) ≡ (a || (b || d))
or_shift true b d = refl
or_shift false b d = refl

module _ (subjects : List model_subject.Subject) (here : State) (c : Config) (s : ℕ) where
  -- after the numbers below n had their turn
  pub record After (n : ℕ) (now : Round) : Type 0 where
    pub size : length now.config.subjects ≡ length c.subjects
    pub later : (r : ℕ) → n ≤ r → at now.config r ≡ at c r
    pub earlier : (r : ℕ) → r < n → r < length c.subjects
        → at now.config r ≡ cond (answers subjects here c s Placed r) (with_reservation s (type_of here) (at c r)) (at c r)
    pub noted : (q : Reply) (k : ℕ) → bit (mask_for q now.places) k ≡ (ltb k n && answers subjects here c s q k)
    pub grown : (k : ℕ) → bit now.places.mask k ≡ (bit (at c s).mask k || bit (mask_for Placed now.places) k)
    pub narrow : (at c s).mask < 2 ^ most_subjects → Narrow most_subjects now.places

  start : After 0 (begun c (at c s).mask)
  start =
      record {
        size = refl;
        later = λ r l. refl;
        earlier = λ r l _. absurd (omega arith);
        noted = λ q k. rw (none_noted q c (at c s).mask, bit_zero k, le-ltb k 0 (omega arith));
        grown = λ k. rw (none_noted Placed c (at c s).mask, bit_zero k, or-false (bit (at c s).mask k));
        narrow = λ h. record { mask = h; noted = λ q. rw (none_noted q c (at c s).mask) (pow_pos most_subjects) };
      }

  -- who is not asked has no answer; who is asked has one
  silent : (q : Reply) (r : ℕ) → is_asked here (at c s).mask r ≡ false → answers subjects here c s q r ≡ false
  unfolding answers
  silent q r e = rw e

  heard : (q : Reply) (r : ℕ) → is_asked here (at c s).mask r ≡ true → answers subjects here c s q r ≡ is_reply q (reply_in subjects here c s r)
  unfolding answers
  heard q r e = rw e

  module _ (n : ℕ) (now : Round) (h : After n now) where
    skip : is_asked here (at c s).mask n ≡ false → After (n + 1) now
    skip e =
        record {
          size = h.size;
          later = λ r l. h.later r (omega arith);
          earlier = λ r l k. go r l k (eqb r n) refl;
          noted = λ q k. h.noted q k ∙ sym (rw (ltb_more k n) (same_noted q k (eqb k n) refl));
          grown = h.grown;
          narrow = h.narrow;
        }
      where
        same_noted : (q : Reply) (k : ℕ) (b : Bool) → eqb k n ≡ b
            → ((ltb k n || eqb k n) && answers subjects here c s q k) ≡ (ltb k n && answers subjects here c s q k)
        same_noted q k true t = rw (eqb-true k n t, silent q n e, and-false (ltb n n), and-false (ltb n n || eqb n n))
        same_noted q k false t = rw (t, or-false (ltb k n))

        go : (r : ℕ) → r < n + 1 → r < length c.subjects → (b : Bool) → eqb r n ≡ b
            → at now.config r ≡ cond (answers subjects here c s Placed r) (with_reservation s (type_of here) (at c r)) (at c r)
        go r l k true t = rw (eqb-true r n t, silent Placed n e) (h.later n (omega arith))
        go r l k false t = let ne = eqb-false r n t in h.earlier r (omega arith) k

    turned : n < most_subjects → is_asked here (at c s).mask n ≡ true → After (n + 1) (turn_as (reply_in subjects here c s n) s (type_of here) now n)
    unfolding turn_as
    turned l e =
        record {
          size = length-set now.config.subjects n _ ∙ h.size;
          later = λ r g. get_or-set_other now.config.subjects n r _ no_one (λ q. absurd (omega arith)) ∙ h.later r (omega arith);
          earlier = λ r g k. go r g k (eqb r n) refl;
          noted = λ q k.
              noted_bit q (reply_in subjects here c s n) n k now.places
              ∙ rw (h.noted q k, ltb_more k n)
              (more_noted (ltb k n) (eqb k n) (answers subjects here c s q k) (is_reply q (reply_in subjects here c s n)) (λ t. ap (answers subjects here c s q) (eqb-true k n t) ∙ heard q n e));
          grown = λ k.
              mask_bit (reply_in subjects here c s n) n k now.places
              ∙ ap (λ (b : Bool). b || (is_reply Placed (reply_in subjects here c s n) && eqb k n)) (h.grown k)
              ∙ or_shift (bit (at c s).mask k) (bit (mask_for Placed now.places) k) (is_reply Placed (reply_in subjects here c s n) && eqb k n)
              ∙ ap (λ (b : Bool). bit (at c s).mask k || b) (sym (noted_bit Placed (reply_in subjects here c s n) n k now.places));
          narrow = λ m. narrow_noted most_subjects (reply_in subjects here c s n) n now.places l (h.narrow m);
        }
      where
        go : (r : ℕ) → r < n + 1 → r < length c.subjects → (b : Bool) → eqb r n ≡ b
            → at (put now.config n (with_place (reply_in subjects here c s n) s (type_of here) (at now.config n))) r
            ≡ cond (answers subjects here c s Placed r) (with_reservation s (type_of here) (at c r)) (at c r)
        go r g k true t =
            let q = eqb-true r n t in
            rw (q, heard Placed n e)
            (get_or-set_same now.config.subjects n _ no_one (omega (arith, h.size))
            ∙ placed_is (reply_in subjects here c s n) s (type_of here) (at now.config n)
            ∙ ap (λ (x : Subject). cond (is_reply Placed (reply_in subjects here c s n)) (with_reservation s (type_of here) x) x) (h.later n (omega arith)))
        go r g k false t =
            let ne = eqb-false r n t in
            get_or-set_other now.config.subjects n r _ no_one ne ∙ h.earlier r (omega arith) k

    turn_is : turn_of subjects s (type_of here) now n ≡ turn_as (reply_in subjects here c s n) s (type_of here) now n
    unfolding turn_of reply_in
    turn_is = ap (λ (x : Subject). turn_as (reply_of (get_or subjects n no_subject) x s (type_of here)) s (type_of here) now n) (h.later n (omega arith))

  -- the turns are those of the receivers that are not in the mask
  pub turns_all : (at c s).mask < 2 ^ most_subjects
      → folded (turn_of subjects s (type_of here)) (begun c (at c s).mask) (members most_subjects (bit_and here.receivers (2 ^ most_subjects - 1 - (at c s).mask)))
      ≡ rounds subjects here c s
  unfolding rounds
  turns_all h = rw (members_minus most_subjects here.receivers (at c s).mask h)

  -- after the round
  pub round_after : After most_subjects (rounds subjects here c s)
  unfolding rounds is_asked
  round_after =
      turns_others
      (turn_of subjects s (type_of here))
      most_subjects
      here.receivers
      (at c s).mask
      After
      (begun c (at c s).mask)
      start
      (λ n now l e h. subst (After (n + 1)) (sym (turn_is n now h)) (turned n now h l e))
      (λ n now l e h. skip n now h e)

  -- who answered what, of the numbers below the width
  pub noted_is : (q : Reply) (k : ℕ) → k < most_subjects → bit (mask_for q (rounds subjects here c s).places) k ≡ answers subjects here c s q k
  noted_is q k l = rw (lt-ltb k most_subjects l) at (round_after.noted q k)

  module _ (h : length c.subjects ≡ most_subjects) where
    pub size_reserving : length (reserving subjects here c s).config.subjects ≡ most_subjects
    unfolding reserving answered
    size_reserving = length-set (rounds subjects here c s).config.subjects s _ ∙ round_after.size ∙ h

    -- what becomes of subject r
    pub reserving_at : s < most_subjects → (r : ℕ) → r < most_subjects
        → at (reserving subjects here c s).config r
        ≡ with_mask (cond (eqb r s) (rounds subjects here c s).places.mask (at c r).mask)
        (with_pool (cond (answers subjects here c s Placed r) (appended most_entries (at c r).pool (reservation s (type_of here))) (at c r).pool) (at c r))
    unfolding reserving answered
    reserving_at ls r l = go (eqb r s) refl
      where
        now : Config
        now = (rounds subjects here c s).config

        pooled : (b : Bool) (p : Pool) (x : Subject) → cond b (with_pool p x) x ≡ with_pool (cond b p x.pool) x
        pooled true p x = refl
        pooled false p x = refl

        is : (k : ℕ) → k < most_subjects
            → at now k ≡ with_pool (cond (answers subjects here c s Placed k) (appended most_entries (at c k).pool (reservation s (type_of here))) (at c k).pool) (at c k)
        is k g = round_after.earlier k g (omega (arith, h)) ∙ pooled (answers subjects here c s Placed k) _ (at c k)

        go : (b : Bool) → eqb r s ≡ b
            → at (put now s (with_mask (rounds subjects here c s).places.mask (at now s))) r
            ≡ with_mask (cond (eqb r s) (rounds subjects here c s).places.mask (at c r).mask)
            (with_pool (cond (answers subjects here c s Placed r) (appended most_entries (at c r).pool (reservation s (type_of here))) (at c r).pool) (at c r))
        go true e =
            rw (e, eqb-true r s e)
            (get_or-set_same now.subjects s _ no_one (omega (arith, round_after.size, h))
            ∙ ap (with_mask (rounds subjects here c s).places.mask) (is s ls))
        go false e = rw e (get_or-set_other now.subjects s r _ no_one (eqb-false r s e) ∙ is r l)
