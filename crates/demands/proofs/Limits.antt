-- A pool that is shared out: no sender holds more than its limit, and a sender that reserves gets a place exactly when the
-- owner has not ended improperly, the queue is open and its own entries are below its limit.
use mathlib.Core.Path.{◌≡◌, refl, sym, ap, ◌∙◌}
use mathlib.Core.Logic.{◌↔◌, ◌≢◌}
use mathlib.Core.Bool.{Bool, true, false, ◌&&◌, ◌||◌, not, cond, and-true as and-end}
use mathlib.Core.List.{List}
use Prim.Native.Nat.{ℕ, ◌≤◌, ◌<◌}
use native.Mathlib.Omega.{arith}
use borrow.Author.Tests.{lt-leb, lt-ltb, ltb-true, leb-true, eq-eqb, ne_eqb, eqb-true, eqb-false}
use lib.Dec.{eqb, ltb}
use lib.ListN.{length, get_or}
use Rattle.sets.specs.Below.{all_below}
use Rattle.sets.specs.Lists.{all_of}
use Rattle.sets.specs.Masks.{bit}
use Rattle.sets.proofs.Tests.{and_true, and_both, not_both, is_false}
use Rattle.sets.proofs.Below.{all_each, all_by}
use Rattle.sets.proofs.Lists.{all_of_at, all_of_by, all_of_weaker, counted_same, none_counted}
use Rattle.model.specs.Rules.{any}
use Rattle.model.specs.Sizes.{most_subjects, most_rows}
use Rattle.model.specs.Valid.{subject_at, row_at}
use Rattle.model.specs.declared.Model.{Model}
use Rattle.model.specs.declared.Subject.{Subject}
use Rattle.engine.specs.pools.Sizes.{most_entries}
use Rattle.engine.specs.pools.Entries.{blank_entry, matches}
use Rattle.engine.specs.pools.Pools.{held}
use Rattle.engine.specs.pools.Rows.{row_count, row_kept, row_has_room, rows_kept, has_room}
use Rattle.engine.specs.pools.Valid.{content_right, sender_there, type_there, entry_valid}
use Rattle.engine.specs.declared.Entry.{Entry}
use Rattle.engine.specs.configs.Answers.{refusal_of, is_yes}
use Rattle.engine.specs.configs.Shares.{has_row, share_of}
use Rattle.engine.specs.configs.Subjects.{running, ended_improperly, at, here_of, Held}
use Rattle.engine.specs.configs.Valid.{type_of, config_valid}
use Rattle.engine.specs.declared.Config.{Config}
use Rattle.engine.specs.declared.Stepped.{Stepped}
use Rattle.engine.specs.declared.Subject as config_subject
use Rattle.engine.proofs.Cited.{GoodSubject, GoodConfig, few_rows, subject_there, config_good, if_true, true_if}
use Rattle.engine.specs.commands.Reserve.{is_closed, reply_of, rounds, reserving}
use Rattle.engine.specs.commands.Rules.{guarded}
use Rattle.engine.specs.Steps.{effect, acts, acted, stepped}
use Rattle.engine.specs.declared.Command.TheVariants.{Reserve}
use Rattle.engine.specs.declared.Reply.TheVariants.{Placed, Improper, Closed, Full}
use Rattle.engine.proofs.RoundLaws.{is_reply, is_reply_lem}
use Rattle.engine_promises.specs.Reserves.{PlacedAtEnd}
use Rattle.engine_promises.proofs.Places.{answer_is, placed_only, placed_all}
use Rattle.engine_promises.proofs.Steps.{reserve_answered, reserve_places}
use Rattle.demands.specs.Shares.{RowFor, holds, limit_of, at_last, LimitsKept, WithinLimits, Asks, MayHave, placed_in, Gets, GetsNone, GetsExactly}
use Rattle.demands.proofs.Counting.{fewer}
use Rattle.demands.proofs.YesNo.{row_of_lem, has_row_lem, sends_of, yes_valid, yes_there, yes_shared, limit_is_the_rows}
use Rattle.demands.proofs.Along.{last_held, last_valid, step_acts}
use Rattle.demands.proofs.Senders.{count_of, from_sender, FromSenders, here_sends, only_senders}

-- which of two numbers comes first plays no part
eqb_turn : (a b : ℕ) → eqb a b ≡ eqb b a
eqb_turn a b = go (eqb a b) refl
  where
    go : (t : Bool) → eqb a b ≡ t → eqb a b ≡ eqb b a
    go true e = e ∙ sym (eq-eqb b a (sym (eqb-true a b e)))
    go false e = e ∙ sym (ne_eqb b a (λ q. eqb-false a b e (sym q)))

-- each entry is from a sender that has a row
abbrev FromRows : Subject → List Entry → Type 0
FromRows own es = all_of (λ (e : Entry). has_row own e.sender) es ≡ true

-- ---- the rows of a pool that is shared out

module _ (m : Model) (owner : ℕ) (shares : is_yes (share_of most_entries m owner) ≡ true) where
  -- a test of every place for a row tells of each row
  of_row : (f : ℕ → Bool) → all_below (λ k. not (ltb k (subject_at m owner).rows) || f k) most_rows ≡ true → (k : ℕ) → k < (subject_at m owner).rows → f k ≡ true
  of_row f h k l =
      let few = few_rows m owner (yes_valid m owner shares) (yes_there m owner shares) in
      let all = all_each (λ k. not (ltb k (subject_at m owner).rows) || f k) most_rows h k (omega (arith, l, few)) in
      if_true (ltb k (subject_at m owner).rows) (f k) all (lt-ltb k (subject_at m owner).rows l)

  -- an entry matches the row of s exactly when it is from s
  row_matches : (s : ℕ) (r : RowFor (subject_at m owner) s) (e : Entry)
      → matches (row_at (subject_at m owner) r.row).sender (row_at (subject_at m owner) r.row).typ e ≡ eqb e.sender s
  unfolding matches
  row_matches s r e =
      let w = row_at (subject_at m owner) r.row in
      rw ((yes_shared m owner shares).all_types r.row r.there, ne_eqb w.sender any ((yes_shared m owner shares).one_sender r.row r.there))
      (and-end (eqb w.sender e.sender) ∙ eqb_turn w.sender e.sender ∙ ap (eqb e.sender) r.sender)

  -- the limit of s is that of its row
  limit_of_lem : (s : ℕ) (r : RowFor (subject_at m owner) s) → limit_of (subject_at m owner) s ≡ (row_at (subject_at m owner) r.row).limit
  limit_of_lem s r = ap (limit_of (subject_at m owner)) (sym r.sender) ∙ limit_is_the_rows m owner r.row shares r.there

  module _ (es : List Entry) where
    -- the row of s counts the entries of s
    row_counts : (s : ℕ) (r : RowFor (subject_at m owner) s) → row_count (row_at (subject_at m owner) r.row) es ≡ count_of s es
    unfolding row_count
    row_counts s r = counted_same _ _ es (row_matches s r)

    -- who can send to the owner has a row
    from_rows : all_of (entry_valid m.n) es ≡ true → FromSenders m owner es → FromRows (subject_at m owner) es
    unfolding entry_valid
    from_rows fine senders =
        all_of_by (λ (e : Entry). has_row (subject_at m owner) e.sender) es blank_entry each
      where
        each : (i : ℕ) → i < length es → has_row (subject_at m owner) (get_or es i blank_entry).sender ≡ true
        each i l =
            let e = get_or es i blank_entry in
            let a = and_both (content_right e) (sender_there m.n e && type_there e) (all_of_at (entry_valid m.n) es blank_entry fine i l) in
            let b = and_both (sender_there m.n e) (type_there e) a.right in
            let can = all_of_at (from_sender m owner) es blank_entry senders i l in
            has_row_lem (subject_at m owner) e.sender ((yes_shared m owner shares).row_for_each e.sender (ltb-true e.sender m.n b.left) (sends_of m owner e.sender can))

    module _ (kept : rows_kept (subject_at m owner) es ≡ true) (rows : FromRows (subject_at m owner) es) where
      -- a row is not overfull
      row_keeps : (s : ℕ) (r : RowFor (subject_at m owner) s) → count_of s es ≤ (row_at (subject_at m owner) r.row).limit
      unfolding rows_kept row_kept
      row_keeps s r =
          rw (← (row_counts s r)) (leb-true _ _ (of_row (λ k. row_kept es (row_at (subject_at m owner) k)) kept r.row r.there))

      -- no sender has more entries than its limit, which is 0 for one without a row
      count_within : (s : ℕ) → count_of s es ≤ limit_of (subject_at m owner) s
      count_within s = go (has_row (subject_at m owner) s) refl
        where
          other : has_row (subject_at m owner) s ≡ false → (e : Entry) → has_row (subject_at m owner) e.sender ≡ true → not (eqb e.sender s) ≡ true
          other none e h = ap not (ne_eqb e.sender s (λ q. not_both h (ap (has_row (subject_at m owner)) q ∙ none)))

          go : (b : Bool) → has_row (subject_at m owner) s ≡ b → count_of s es ≤ limit_of (subject_at m owner) s
          go true e = let r = row_of_lem (subject_at m owner) s e in omega (arith, row_keeps s r, limit_of_lem s r)
          go false e = omega (arith, none_counted (λ (x : Entry). eqb x.sender s) es (all_of_weaker _ _ es (other e) rows))

      -- a sender below its limit leaves a place free
      free_below : (s : ℕ) → RowFor (subject_at m owner) s → count_of s es < limit_of (subject_at m owner) s → length es < most_entries
      unfolding has_row
      free_below s r l =
          let own = subject_at m owner in
          let all =
          fewer
          (λ k. (row_at own k).sender)
          own.rows
          (yes_shared m owner shares).none_twice
          (λ (e : Entry). e.sender)
          (λ k. (row_at own k).limit)
          es
          rows
          (λ k g. row_keeps (row_at own k).sender (record { row = k; there = g; sender = refl }))
          r.row
          r.there
          (rw r.sender (omega (arith, l, limit_of_lem s r))) in
          omega (arith, all, (yes_shared m owner shares).limits_fit)

    module _ (s typ : ℕ) where
      -- only the row of the sender can refuse it room
      row_room : (k : ℕ) → k < (subject_at m owner).rows
          → row_has_room s typ es (row_at (subject_at m owner) k)
          ≡ (not (eqb (row_at (subject_at m owner) k).sender s) || ltb (row_count (row_at (subject_at m owner) k) es) (row_at (subject_at m owner) k).limit)
      unfolding row_has_room
      row_room k l =
          let w = row_at (subject_at m owner) k in
          rw ((yes_shared m owner shares).all_types k l, ne_eqb w.sender any ((yes_shared m owner shares).one_sender k l), and-end (eqb w.sender s))

      -- below its limit, in a pool with a free place, there is room
      room_below : length es < most_entries → count_of s es < limit_of (subject_at m owner) s → has_room most_entries (subject_at m owner) es s typ ≡ true
      unfolding has_room
      room_below free l =
          let own = subject_at m owner in
          and_true
          (lt-ltb (length es) most_entries free)
          (all_by (λ k. not (ltb k own.rows) || row_has_room s typ es (row_at own k)) most_rows (λ k _. true_if (ltb k own.rows) (row_has_room s typ es (row_at own k)) (λ t. each k (ltb-true k own.rows t))))
        where
          each : (k : ℕ) → k < (subject_at m owner).rows → row_has_room s typ es (row_at (subject_at m owner) k) ≡ true
          each k g =
              let w = row_at (subject_at m owner) k in
              row_room k g
              ∙ true_if (eqb w.sender s) (ltb (row_count w es) w.limit) (λ e.
              let r : RowFor (subject_at m owner) s = record { row = k; there = g; sender = eqb-true w.sender s e } in
              lt-ltb (row_count w es) w.limit (omega (arith, l, row_counts s r, limit_of_lem s r)))

      -- where there is room for a sender that has a row, it is below its limit
      below_room : RowFor (subject_at m owner) s → has_room most_entries (subject_at m owner) es s typ ≡ true → count_of s es < limit_of (subject_at m owner) s
      unfolding has_room
      below_room r h =
          let own = subject_at m owner in
          let w = row_at own r.row in
          let each = (and_both (ltb (length es) most_entries) _ h).right in
          let one = of_row (λ k. row_has_room s typ es (row_at own k)) each r.row r.there in
          let room = if_true (eqb w.sender s) (ltb (row_count w es) w.limit) (sym (row_room r.row r.there) ∙ one) (eq-eqb w.sender s r.sender) in
          omega (arith, ltb-true (row_count w es) w.limit room, row_counts s r, limit_of_lem s r)

    -- there is room for a sender that has a row exactly when its own entries are below its limit
    room_exactly : rows_kept (subject_at m owner) es ≡ true → FromRows (subject_at m owner) es → (s typ : ℕ) → RowFor (subject_at m owner) s
        → has_room most_entries (subject_at m owner) es s typ ≡ ltb (count_of s es) (limit_of (subject_at m owner) s)
    room_exactly kept rows s typ r = go (ltb (count_of s es) (limit_of (subject_at m owner) s)) refl
      where
        go : (b : Bool) → ltb (count_of s es) (limit_of (subject_at m owner) s) ≡ b
            → has_room most_entries (subject_at m owner) es s typ ≡ ltb (count_of s es) (limit_of (subject_at m owner) s)
        go true e = let l = ltb-true _ _ e in room_below s typ (free_below kept rows s r l) l ∙ sym e
        go false e = is_false (has_room most_entries (subject_at m owner) es s typ) (λ h. not_both (lt-ltb _ _ (below_room s typ r h)) e) ∙ sym e

-- ---- replies and refusals

-- what it takes to be placed
record PlacedBy (own : Subject) (x : config_subject.Subject) (s t : ℕ) : Type 0 where
  proper : x.mode ≢ ended_improperly
  not_closed : is_closed x s t ≡ false
  room : has_room most_entries own (held x.pool) s t ≡ true

module _ (own : Subject) (x : config_subject.Subject) (s t : ℕ) where
  -- who is placed had all of it
  places_only : reply_of own x s t ≡ Placed → PlacedBy own x s t
  unfolding reply_of is_reply
  places_only h = go (eqb x.mode ended_improperly) refl (is_closed x s t) refl (has_room most_entries own (held x.pool) s t) refl (is_reply_lem Placed (reply_of own x s t) h)
    where
      go : (a : Bool) → eqb x.mode ended_improperly ≡ a → (b : Bool) → is_closed x s t ≡ b → (d : Bool) → has_room most_entries own (held x.pool) s t ≡ d
          → is_reply Placed (cond a Improper (cond b Closed (cond (not d) Full Placed))) ≡ true
          → PlacedBy own x s t
      go true p b q d r e = not_both e refl
      go false p true q d r e = not_both e refl
      go false p false q true r e = record { proper = eqb-false x.mode ended_improperly p; not_closed = q; room = r }
      go false p false q false r e = not_both e refl

  -- who has all of it is placed
  places_where : PlacedBy own x s t → reply_of own x s t ≡ Placed
  unfolding reply_of
  places_where h = rw (ne_eqb x.mode ended_improperly h.proper, h.not_closed, h.room)

-- a Reserve by who runs in a send is accepted
reserve_acts : (m : Model) (c : Config) (s : ℕ) → s < m.n → (at c s).mode ≡ running → (here_of m c s).kind ≡ 2 → acted m c (Reserve s) ≡ reserving m.subjects (here_of m c s) c s
unfolding acted acts effect guarded
reserve_acts m c s l runs sends =
    rw (lt-leb m.n s l, eq-eqb (at c s).mode running runs, eq-eqb (here_of m c s).kind 2 sends)

-- ---- a valid configuration whose entries are from senders

module _ (m : Model) (owner : ℕ) (shares : is_yes (share_of most_entries m owner) ≡ true) (c : Config) (k : Held c) (g : config_valid m c ≡ true)
    (senders : FromSenders m owner (held (at c owner).pool)) where
  -- what the configuration is, as records
  good : GoodConfig m c
  good = config_good m c (yes_valid m owner shares) k g

  -- and the owner there
  pool : GoodSubject m owner (at c owner)
  pool = good.subject owner (yes_there m owner shares)

  -- every entry of its pool is from a sender that has a row
  rows_all : FromRows (subject_at m owner) (held (at c owner).pool)
  rows_all = from_rows m owner shares (held (at c owner).pool) pool.entries senders

  -- no sender holds more than its limit there
  holds_within : LimitsKept m owner c
  unfolding holds
  holds_within s = count_within m owner shares (held (at c owner).pool) pool.rows rows_all s

  -- ---- a sender that asks

  module _ (s : ℕ) (asks : Asks m c owner s) where
    -- the owner has a place in the array
    low : owner < most_subjects
    low = subject_there m (yes_valid m owner shares) owner (yes_there m owner shares)

    -- the owner has a row for it
    own_row : RowFor (subject_at m owner) s
    own_row =
        (yes_shared m owner shares).row_for_each s asks.there (here_sends m (yes_valid m owner shares) owner c k g s asks.there asks.sends asks.named)

    -- its Reserve is carried out
    reserves : stepped m c (Reserve s) ≡ reserving m.subjects (here_of m c s) c s
    reserves = step_acts m (yes_valid m owner shares) c (Reserve s) g ∙ reserve_acts m c s asks.there asks.runs asks.sends

    -- and accepted
    accepted : refusal_of (stepped m c (Reserve s)).answer ≡ 0
    accepted = ap (λ (x : Stepped). refusal_of x.answer) reserves ∙ ap refusal_of (answer_is m.subjects (here_of m c s) c s)

    -- the mask of those placed now is that of the round
    placed_is : placed_in (stepped m c (Reserve s)).answer ≡ (rounds m.subjects (here_of m c s) c s).places.placed
    placed_is = ap placed_in (reserve_answered m c s accepted)

    -- the pools of those placed have one more entry
    pools_after : PlacedAtEnd s (type_of (here_of m c s)) (rounds m.subjects (here_of m c s) c s).places.placed c (stepped m c (Reserve s)).config
    pools_after = reserve_places m c s k _ _ _ _ _ (reserve_answered m c s accepted)

    -- the owner has room for it exactly when it is below its limit
    room_is : has_room most_entries (subject_at m owner) (held (at c owner).pool) s (type_of (here_of m c s)) ≡ ltb (holds c owner s) (limit_of (subject_at m owner) s)
    unfolding holds
    room_is = room_exactly m owner shares (held (at c owner).pool) pool.rows rows_all s (type_of (here_of m c s)) own_row

    -- who is placed may have the place
    placed_may : bit (placed_in (stepped m c (Reserve s)).answer) owner ≡ true → MayHave m c owner s
    placed_may h =
        let a = placed_only m.subjects (here_of m c s) c s owner low (rw placed_is at h) in
        let p = places_only (subject_at m owner) (at c owner) s (type_of (here_of m c s)) a.replies in
        record { proper = p.proper; not_closed = p.not_closed; below = ltb-true _ _ (sym room_is ∙ p.room) }

    -- who may have a place is placed
    may_placed : MayHave m c owner s → bit (placed_in (stepped m c (Reserve s)).answer) owner ≡ true
    may_placed h =
        rw placed_is
        (placed_all m.subjects (here_of m c s) c s owner low (record {
          receiver = asks.named;
          no_place = asks.no_place;
          replies = places_where (subject_at m owner) (at c owner) s (type_of (here_of m c s)) (record {
            proper = h.proper;
            not_closed = h.not_closed;
            room = room_is ∙ lt-ltb _ _ h.below;
          });
        }))

    -- it gets a place exactly when it may have one, and otherwise its owner's pool stays
    gets_where : (Gets m c owner s ↔ MayHave m c owner s) × (¬ MayHave m c owner s → GetsNone m c owner s)
    gets_where = (
      (
        λ h. placed_may h.placed,
        λ h. record { placed = may_placed h; at_the_end = pools_after.grown owner low (rw placed_is at (may_placed h)) },
      ),
      λ h. let none = is_false (bit (placed_in (stepped m c (Reserve s)).answer) owner) (λ e. h (placed_may e)) in
          record { not_placed = none; stays = pools_after.others owner low (rw placed_is at none) },
    )

-- ---- after any commands from a fresh start

-- no sender ever holds more than its limit
pub within_limits : WithinLimits
within_limits m owner ks shares =
    let v = yes_valid m owner shares in
    holds_within m owner shares (at_last m ks) (last_held m v ks) (last_valid m v ks) (only_senders m ks owner v (yes_there m owner shares))

-- a sender that asks gets a place exactly when it may have one
pub gets_exactly : GetsExactly
gets_exactly m owner ks shares =
    let v = yes_valid m owner shares in
    gets_where m owner shares (at_last m ks) (last_held m v ks) (last_valid m v ks) (only_senders m ks owner v (yes_there m owner shares))
