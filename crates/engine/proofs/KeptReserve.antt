-- Reserving keeps a good configuration good.
use mathlib.Core.Path.{◌≡◌, refl, sym, ap, subst, ◌∙◌}
use mathlib.Core.Bool.{Bool, true, false, ◌&&◌, ◌||◌, not, cond, and-true, and-false, or-true}
use Prim.Native.Nat.{ℕ, ◌+◌, ◌^◌, ◌≤◌, ◌<◌}
use native.Mathlib.Omega.{arith}
use borrow.Author.Tests.{eq-eqb, ne_eqb, eqb-true, eqb-false, not-true}
use lib.Dec.{eqb}
use lib.ListN.{length}
use Rattle.sets.specs.Lists.{all_of}
use Rattle.sets.specs.Masks.{bit}
use Rattle.sets.proofs.Tests.{not_both, and_both, choose, is_false}
use Rattle.model.specs.Rules.{any}
use Rattle.model.specs.Sizes.{most_subjects}
use Rattle.model.specs.Valid.{subject_at, valid}
use Rattle.model.specs.declared.Model.{Model}
use Rattle.model.specs.declared.State.{State}
use Rattle.engine.specs.pools.Entries.{reservation, fits}
use Rattle.engine.specs.pools.Sizes.{most_entries}
use Rattle.engine.specs.pools.Pools.{held, appended, has_message, reservations, Well}
use Rattle.engine.specs.pools.Rows.{rows_kept, has_room}
use Rattle.engine.specs.pools.Valid.{entry_valid}
use Rattle.engine.specs.declared.Pool.{Pool}
use Rattle.engine.proofs.pools.AppendLaws.{length_appended, held_appended, well_appended, message_appended, valid_reserved, count_reserved, place_free, rows_reserved}
use Rattle.engine.specs.configs.Subjects.{running, ended_improperly, nobody, at, state_of, here_of, with_mask, with_pool, Held}
use Rattle.engine.specs.configs.Valid.{type_of, fields_right, marks_right}
use Rattle.engine.specs.declared.Config.{Config}
use Rattle.engine.specs.declared.Subject.{Subject}
use Rattle.engine.proofs.configs.Good.{GoodSubject, GoodConfig}
use Rattle.engine.proofs.configs.ModelFacts.{n_high, RightState, state_right_lem}
use Rattle.engine.proofs.configs.ValidLaws.{fields_read, fields_by, HeldSubject, held_by}
use Rattle.engine.specs.commands.Reserve.{rounds, reserving}
use Rattle.engine.specs.declared.Reply.TheVariants.{Placed}
use Rattle.engine.proofs.RoundLaws.{is_reply, placed_room, is_asked, reply_in, answers, round_after, noted_is, size_reserving, reserving_at}

-- the pool of subject r, in this mode, is good
record GoodPool (m : Model) (r mode : ℕ) (p : Pool) : Type 0 where
  well : Well most_entries p
  entries : all_of (entry_valid m.n) (held p) ≡ true
  rows : rows_kept (subject_at m r) (held p) ≡ true
  message : mode ≡ ended_improperly → has_message (held p) ≡ true

-- two bits that are never both set
one_of : (a b : Bool) → (b ≡ true → a ≡ false) → ◌≡◌ {A = ℕ} (cond a 1 0 + cond b 1 0) (cond (a || b) 1 0)
one_of true true f = not_both refl (f refl)
one_of true false f = refl
one_of false true f = refl
one_of false false f = refl

fits_itself : (t : ℕ) → fits t t ≡ true
fits_itself t = rw (eq-eqb t t refl, or-true (eqb t any))

-- the configuration after the step; the pool and the mask of subject r in it
abbrev reserved : Model → Config → ℕ → Config
reserved m c s = (reserving m.subjects (here_of m c s) c s).config

abbrev gives : Model → Config → ℕ → ℕ → Bool
gives m c s r = answers m.subjects (here_of m c s) c s Placed r

abbrev pool_after : Model → Config → ℕ → ℕ → Pool
pool_after m c s r = cond (gives m c s r) (appended most_entries (at c r).pool (reservation s (type_of (here_of m c s)))) (at c r).pool

abbrev mask_after : Model → Config → ℕ → ℕ → ℕ
mask_after m c s r = cond (eqb r s) (rounds m.subjects (here_of m c s) c s).places.mask (at c r).mask

module _ (m : Model) (c : Config) (s : ℕ) where
  -- a receiver that gives s a place
  record Giver (r : ℕ) : Type 0 where
    receiver : bit (here_of m c s).receivers r ≡ true
    free : bit (at c s).mask r ≡ false
    room : has_room most_entries (subject_at m r) (held (at c r).pool) s (type_of (here_of m c s)) ≡ true

  giver : (r : ℕ) → gives m c s r ≡ true → Giver r
  unfolding answers is_asked reply_in
  giver r h =
      let a = and_both (is_asked (here_of m c s) (at c s).mask r) (is_reply Placed (reply_in m.subjects (here_of m c s) c s r)) h in
      let b = and_both (bit (here_of m c s).receivers r) (not (bit (at c s).mask r)) a.left in
      record {
        receiver = b.left;
        free = not-true (bit (at c s).mask r) b.right;
        room = placed_room (subject_at m r) (at c r) s (type_of (here_of m c s)) a.right;
      }

  module _ (v : valid m ≡ true) (k : Held c) (g : GoodConfig m c) (l : s < m.n) (runs : (at c s).mode ≡ running) (send : (here_of m c s).kind ≡ 2) where
    few : m.n ≤ most_subjects
    few = n_high m v

    right : RightState m.n (subject_at m s).states (here_of m c s)
    right = state_right_lem m v s l (at c s).state (fields_read (subject_at m s) (here_of m c s) (at c s) (g.subject s l).fields).state

    is : (r : ℕ) → r < most_subjects → at (reserved m c s) r ≡ with_mask (mask_after m c s r) (with_pool (pool_after m c s r) (at c r))
    is r j = reserving_at m.subjects (here_of m c s) c s k.subjects (omega (arith, few)) r j

    -- ---- the mask of the sender

    grown : (r : ℕ) → r < most_subjects → bit (rounds m.subjects (here_of m c s) c s).places.mask r ≡ (bit (at c s).mask r || gives m c s r)
    grown r j =
        (round_after m.subjects (here_of m c s) c s).grown r
        ∙ ap (λ (b : Bool). bit (at c s).mask r || b) (noted_is m.subjects (here_of m c s) c s Placed r j)

    mask_fits : (r : ℕ) → r < most_subjects → mask_after m c s r < 2 ^ most_subjects
    mask_fits r j =
        choose
        (λ (w : ℕ). w < 2 ^ most_subjects)
        (eqb r s)
        (λ _. ((round_after m.subjects (here_of m c s) c s).narrow (k.masks s (omega (arith, few)))).mask)
        (λ _. k.masks r j)

    fields_sender : fields_right (subject_at m s) (here_of m c s) (with_mask (rounds m.subjects (here_of m c s) c s).places.mask (at c s)) ≡ true
    fields_sender =
        let f = fields_read (subject_at m s) (here_of m c s) (at c s) (g.subject s l).fields in
        fields_by
        (subject_at m s)
        (here_of m c s)
        (with_mask (rounds m.subjects (here_of m c s) c s).places.mask (at c s))
        (record {
          mode = f.mode;
          state = f.state;
          runs = f.runs;
          proper = f.proper;
          improper = f.improper;
          initial = f.initial;
          word = f.word;
          waited = f.waited;
          sender = λ _. runs;
          sends = λ _. eq-eqb (here_of m c s).kind 2 send;
          receivers = λ r j e. side r j (f.receivers r j) (bit (at c s).mask r) refl (sym (grown r j) ∙ e);
        })
      where
        side : (r : ℕ) → r < most_subjects → (bit (at c s).mask r ≡ true → bit (here_of m c s).receivers r ≡ true) → (b : Bool) → bit (at c s).mask r ≡ b
            → (bit (at c s).mask r || gives m c s r) ≡ true → bit (here_of m c s).receivers r ≡ true
        side r j f true e h = f e
        side r j f false e h = (giver r (rw e at h)).receiver

    -- the pool plays no part in the fields
    fields_kept : (r : ℕ) → r < m.n → (p : Pool) → fields_right (subject_at m r) (state_of m r (at c r).state) (with_mask (mask_after m c s r) (with_pool p (at c r))) ≡ true
    unfolding fields_right
    fields_kept r j p = go (eqb r s) refl
      where
        go : (b : Bool) → eqb r s ≡ b → fields_right (subject_at m r) (state_of m r (at c r).state) (with_mask (mask_after m c s r) (with_pool p (at c r))) ≡ true
        go true e = rw (eqb-true r s e, eq-eqb s s refl) fields_sender
        go false e = rw e (g.subject r j).fields

    -- ---- the pools

    pool_good : (r : ℕ) → r < m.n → GoodPool m r (at c r).mode (pool_after m c s r)
    pool_good r j =
        choose
        (GoodPool m r (at c r).mode)
        (gives m c s r)
        (λ e. let room = (giver r e).room in
        let es = held (at c r).pool in
        let t = type_of (here_of m c s) in
        let free = place_free most_entries es s t (subject_at m r) room in
        let long = held_appended most_entries (at c r).pool (reservation s t) in
        record {
          well = well_appended most_entries (at c r).pool (reservation s t) free;
          entries = rw long (valid_reserved es s t m.n l (right.sends send) x.entries);
          rows = rw long (rows_reserved most_entries es s t (subject_at m r) room x.rows);
          message = λ e. rw long (message_appended es (reservation s t) (x.message e));
        })
        (λ _. record { well = x.well; entries = x.entries; rows = x.rows; message = x.message })
      where
        x : GoodSubject m r (at c r)
        x = g.subject r j

    pool_long : (r : ℕ) → r < most_subjects → length (pool_after m c s r).entries ≡ most_entries
    pool_long r j =
        choose
        (λ (p : Pool). length p.entries ≡ most_entries)
        (gives m c s r)
        (λ e. length_appended most_entries (at c r).pool (reservation s (type_of (here_of m c s))) (place_free most_entries (held (at c r).pool) s (type_of (here_of m c s)) (subject_at m r) (giver r e).room))
        (λ _. k.entries r j)

    -- how many reservations there are
    count_after : (r : ℕ) → r < most_subjects → (q t : ℕ)
        → reservations q t (held (pool_after m c s r))
        ≡ reservations q t (held (at c r).pool) + cond (gives m c s r && (eqb s q && fits t (type_of (here_of m c s)))) 1 0
    count_after r j q t = go (gives m c s r) refl
      where
        go : (b : Bool) → gives m c s r ≡ b
            → reservations q t (held (pool_after m c s r))
            ≡ reservations q t (held (at c r).pool) + cond (gives m c s r && (eqb s q && fits t (type_of (here_of m c s)))) 1 0
        go true e =
            rw (e, held_appended most_entries (at c r).pool (reservation s (type_of (here_of m c s))))
            (count_reserved (held (at c r).pool) s (type_of (here_of m c s)) q t)
        go false e = rw e (omega arith)

    -- of the sender: one more where it has a new place
    count_sender : (r : ℕ) → r < m.n → (t : ℕ) → fits t (type_of (here_of m c s)) ≡ true → reservations s t (held (at c r).pool) ≡ cond (bit (at c s).mask r) 1 0
        → reservations s t (held (pool_after m c s r)) ≡ cond (bit (mask_after m c s s) r) 1 0
    count_sender r j t f h =
        count_after r (omega (arith, few)) s t
        ∙ rw (h, f, eq-eqb s s refl, and-true (gives m c s r), grown r (omega (arith, few)))
        (one_of (bit (at c s).mask r) (gives m c s r) (λ e. (giver r e).free))

    -- of others: as many as before
    count_other : (r q t : ℕ) → r < most_subjects → eqb q s ≡ false → reservations q t (held (pool_after m c s r)) ≡ reservations q t (held (at c r).pool)
    count_other r q t j e =
        count_after r j q t
        ∙ rw (ne_eqb s q (λ h. eqb-false q s e (sym h)), and-false (gives m c s r)) (omega arith)

    -- ---- all of it

    -- the state of a subject does not change
    here_kept : (q : ℕ) → q < most_subjects → here_of m (reserved m c s) q ≡ here_of m c q
    here_kept q j = ap (λ (x : Subject). state_of m q x.state) (is q j)

    counted_right : (r q t : ℕ) → r < m.n → q < m.n → (q ≡ s → fits t (type_of (here_of m c s)) ≡ true)
        → reservations q t (held (at c r).pool) ≡ cond (bit (at c q).mask r) 1 0
        → reservations q t (held (at (reserved m c s) r).pool) ≡ cond (bit (at (reserved m c s) q).mask r) 1 0
    counted_right r q t j i f h =
        rw (is r (omega (arith, few)), is q (omega (arith, few))) (go (eqb q s) refl)
      where
        go : (b : Bool) → eqb q s ≡ b → reservations q t (held (pool_after m c s r)) ≡ cond (bit (mask_after m c s q) r) 1 0
        go true e =
            let z = eqb-true q s e in
            subst
            (λ (x : ℕ). reservations x t (held (pool_after m c s r)) ≡ cond (bit (mask_after m c s x) r) 1 0)
            (sym z)
            (count_sender r j t (f z) (subst (λ (x : ℕ). reservations x t (held (at c r).pool) ≡ cond (bit (at c x).mask r) 1 0) z h))
        go false e = count_other r q t (omega (arith, few)) e ∙ h ∙ rw e

    subject_kept : (r : ℕ) → r < m.n → GoodSubject m r (with_mask (mask_after m c s r) (with_pool (pool_after m c s r) (at c r)))
    unfolding marks_right
    subject_kept r j =
        let p = pool_good r j in
        record {
          fields = fields_kept r j (pool_after m c s r);
          marks = (g.subject r j).marks;
          well = p.well;
          entries = p.entries;
          rows = p.rows;
          message = p.message;
        }

    -- who is not there is no receiver
    absent_kept : (r : ℕ) → m.n ≤ r → r < most_subjects → at (reserved m c s) r ≡ nobody
    absent_kept r i j =
        let none : gives m c s r ≡ false = is_false (gives m c s r) (λ e. not_both (giver r e).receiver (right.receivers r i)) in
        is r j ∙ rw (none, ne_eqb r s (λ e. absurd (omega arith))) (g.absent r i j)

    good_after : GoodConfig m (reserved m c s)
    good_after =
        record {
          subject = λ r j. subst (GoodSubject m r) (sym (is r (omega (arith, few)))) (subject_kept r j);
          absent = absent_kept;
          one = λ r q j i. counted_right r q any j i (λ _. refl) (g.one r q j i);
          typed = λ r q j i.
              subst
              (λ (st : State). reservations q (type_of st) (held (at (reserved m c s) r).pool) ≡ cond (bit (at (reserved m c s) q).mask r) 1 0)
              (sym (here_kept q (omega (arith, few))))
              (counted_right r q (type_of (here_of m c q)) j i (λ e. rw e (fits_itself (type_of (here_of m c s)))) (g.typed r q j i));
        }

    held_after : Held (reserved m c s)
    held_after =
        held_by
        (reserved m c s)
        (size_reserving m.subjects (here_of m c s) c s k.subjects)
        (λ r j. subst HeldSubject (sym (is r j)) (record { marks = k.marks r j; entries = pool_long r j; mask = mask_fits r j }))

module _ (m : Model) (v : valid m ≡ true) (c : Config) (k : Held c) (g : GoodConfig m c) (s : ℕ) (l : s < m.n) (runs : (at c s).mode ≡ running) (here : State) (is : here ≡ here_of m c s) (send : here.kind ≡ 2) where
  sends : (here_of m c s).kind ≡ 2
  sends = ap (λ (st : State). st.kind) (sym is) ∙ send

  pub kept_reserve : GoodConfig m (reserving m.subjects here c s).config
  kept_reserve = subst (λ (st : State). GoodConfig m (reserving m.subjects st c s).config) (sym is) (good_after m c s v k g l runs sends)

  pub held_reserve : Held (reserving m.subjects here c s).config
  held_reserve = subst (λ (st : State). Held (reserving m.subjects st c s).config) (sym is) (held_after m c s v k g l runs sends)
