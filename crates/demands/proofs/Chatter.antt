-- A chattering probe never takes a place from a healthy sender: what the commands of one subject leave of the others.
use Rattle.std.specs.Prelude.{Option, Some, None}
use mathlib.Core.Path.{◌≡◌, refl, sym, ap, ◌∙◌}
use mathlib.Core.Logic.{◌≢◌, ◌↔◌}
use mathlib.Core.Bool.{Bool, true, false, ◌&&◌, ◌||◌, not}
use mathlib.Core.List.{List, [], ◌∷◌, ◌++◌, map}
use Prim.Native.Nat.{ℕ, ◌<◌}
use native.Mathlib.Omega.{arith}
use borrow.Author.Tests.{ne_eqb, eqb-true}
use lib.Dec.{eqb}
use lib.ListN.{get_or}
use Rattle.sets.specs.Lists.{all_of, passing, counted}
use Rattle.sets.specs.Masks.{bit}
use Rattle.sets.proofs.Tests.{not_both, and_false, choose}
use Rattle.sets.proofs.Lists.{counted_append, counted_map, counted_passing, counted_same}
use Rattle.model.specs.Rules.{any}
use Rattle.model.specs.Sizes.{most_subjects}
use Rattle.model.specs.Valid.{no_subject, exit_at, valid}
use Rattle.model.specs.declared.Model.{Model}
use Rattle.engine.specs.pools.Sizes.{most_entries}
use Rattle.engine.specs.pools.Entries.{fits, reservation, reserved_by, delivered}
use Rattle.engine.specs.pools.Pools.{held, delivered_in}
use Rattle.engine.specs.declared.Entry.{Entry}
use Rattle.engine.specs.declared.Pool.{Pool}
use Rattle.engine.specs.configs.Answers.{refusal_of, is_yes}
use Rattle.engine.specs.configs.Fresh.{fresh_of}
use Rattle.engine.specs.configs.Shares.{share_of}
use Rattle.engine.specs.configs.Subjects.{asleep, running, ended_properly, ended_improperly, at, here_of, put, with_pool, Held}
use Rattle.engine.specs.configs.Valid.{type_of, config_valid}
use Rattle.engine.specs.declared.Config.{Config}
use Rattle.engine.specs.declared.Subject.{Subject}
use Rattle.engine.proofs.Cited.{subject_there, at_put_other, at_each}
use Rattle.engine.specs.commands.Codes.{names, subject_of}
use Rattle.engine.specs.commands.Deliver.{started, delivered_as, delivered_to, delivering}
use Rattle.engine.specs.commands.Take.{wanted_at, taking_at, taking}
use Rattle.engine.specs.commands.Doing.{doing}
use Rattle.engine.specs.commands.Runs.{running_on}
use Rattle.engine.specs.commands.Tick.{ticked, ticking}
use Rattle.engine.specs.commands.Reserve.{is_closed}
use Rattle.engine.specs.Steps.{effect, ends_at, stepped}
use Rattle.engine.specs.declared.Command.{Command}
use Rattle.engine.specs.declared.Command.TheVariants.{Do, Reserve, Deliver, Take, Run, Expire, Cancel, Tick}
use Rattle.engine.proofs.RoundLaws.{reserving_at}
use Rattle.engine.proofs.SweepLaws.{sweep_other}
use Rattle.engine_promises.specs.Moves.{OnlyPool}
use Rattle.engine_promises.specs.Runs.{run_from}
use Rattle.engine_promises.proofs.Places.{mask_other}
use Rattle.engine_promises.proofs.Pools.{leaving_others}
use Rattle.engine_promises.proofs.Refusals.{effect_of, accepted_tells}
use Rattle.engine_promises.proofs.TapeRuns.{run_append}
use Rattle.demands.specs.Shares.{holds, at_last, Asks, MayHave, Gets, of_probe, NeverCrowdedOut}
use Rattle.demands.proofs.YesNo.{yes_valid, yes_there}
use Rattle.demands.proofs.Along.{along, last_held, last_valid}
use Rattle.demands.proofs.PoolMoves.{Moved, pool_moved}
use Rattle.demands.proofs.Senders.{delivered_sender, count_of}
use Rattle.demands.proofs.Limits.{gets_exactly}

-- ---- what the command of another leaves of a subject

-- x has become y: its marks stay, it has ended improperly exactly if it had, and running it keeps mode, state and mask
pub record LeftAlone (x y : Subject) : Type 0 where
  pub closed : y.closed ≡ x.closed
  pub improper : (y.mode ≡ ended_improperly) ↔ (x.mode ≡ ended_improperly)
  pub mode : x.mode ≡ running → y.mode ≡ x.mode
  pub state : x.mode ≡ running → y.state ≡ x.state
  pub mask : x.mode ≡ running → y.mask ≡ x.mask

-- nothing but wait, word and pool has changed
alone_by : (x y : Subject) → y.closed ≡ x.closed → y.mode ≡ x.mode → y.state ≡ x.state → y.mask ≡ x.mask → LeftAlone x y
alone_by x y a b d e =
    record {
      closed = a;
      improper = (λ q. sym b ∙ q, λ q. b ∙ q);
      mode = λ _. b;
      state = λ _. d;
      mask = λ _. e;
    }

-- nothing at all
alone_same : (x y : Subject) → y ≡ x → LeftAlone x y
alone_same x y e =
    alone_by
    x
    y
    (ap (λ (z : Subject). z.closed) e)
    (ap (λ (z : Subject). z.mode) e)
    (ap (λ (z : Subject). z.state) e)
    (ap (λ (z : Subject). z.mask) e)

-- with another pool
alone_pool : (x y : Subject) → OnlyPool x y → LeftAlone x y
alone_pool x y o = alone_by x y o.closed o.mode o.state o.mask

-- who starts was asleep or had ended properly
alone_started : (initial : ℕ) (p : Pool) (x : Subject) → LeftAlone x (started initial (with_pool p x))
unfolding started
alone_started initial p x =
    choose
    (LeftAlone x)
    (eqb x.mode asleep || eqb x.mode ended_properly)
    (λ h. record {
      closed = refl;
      improper = (λ q. absurd (omega arith), λ q. not_both (rw q at h) refl);
      mode = λ q. not_both (rw q at h) refl;
      state = λ q. not_both (rw q at h) refl;
      mask = λ q. not_both (rw q at h) refl;
    })
    (λ _. alone_by x (with_pool p x) refl refl refl refl)

-- a receiver of a message, and who is none
alone_delivered : (receives : Bool) (initial s word : ℕ) (x : Subject) → LeftAlone x (delivered_as receives initial s word x)
unfolding delivered_as
alone_delivered receives initial s word x =
    choose
    (LeftAlone x)
    receives
    (λ _. alone_started initial (delivered_in most_entries s word x.pool) x)
    (λ _. alone_by x (with_pool (delivered_in most_entries s word x.pool) x) refl refl refl refl)

-- a tick changes the wait alone
alone_ticked : (x : Subject) → LeftAlone x (ticked x)
unfolding ticked
alone_ticked x = choose (LeftAlone x) (eqb x.mode running) (λ _. alone_by x _ refl refl refl refl) (λ _. alone_by x x refl refl refl refl)

module _ (m : Model) (c : Config) (h : Held c) (r : ℕ) (l : r < most_subjects) where
  -- another is put
  alone_put : (s : ℕ) (x : Subject) → r ≢ s → LeftAlone (at c r) (at (put c s x) r)
  alone_put s x d = alone_same (at c r) _ (at_put_other c s x r d)

  -- another takes
  alone_taking : (s e : ℕ) (end : Bool) (f : Option ℕ) → r ≢ s → LeftAlone (at c r) (at (taking_at f (here_of m c s) end c s e) r)
  unfolding taking_at
  alone_taking s e end (Some i) d = alone_put s _ d
  alone_taking s e end None d = alone_same (at c r) (at c r) refl

  -- an accepted command that names no r
  pub left_alone : (k : Command) → refusal_of (stepped m c k).answer ≡ 0 → (names k ≡ true → r ≢ subject_of k) → LeftAlone (at c r) (at (effect_of m c k).config r)
  unfolding effect doing taking running_on delivering ticking
  left_alone (Do s e w) fine d = alone_put s _ (d refl)
  left_alone (Reserve s) fine d =
      let a = accepted_tells m c (Reserve s) fine in
      let j = subject_there m a.model s a.there in
      let e = reserving_at m.subjects (here_of m c s) c s h.subjects j r l in
      alone_by
      (at c r)
      _
      (ap (λ (x : Subject). x.closed) e)
      (ap (λ (x : Subject). x.mode) e)
      (ap (λ (x : Subject). x.state) e)
      (mask_other m.subjects (here_of m c s) c s h j r l (d refl))
  left_alone (Deliver s) fine d =
      rw (sweep_other (delivered_to m.subjects (here_of m c s) s (at c s).word) c s (exit_at (here_of m c s) 0).target (ends_at m c (Deliver s)) r l (d refl))
      (alone_delivered (bit (here_of m c s).receivers r) (get_or m.subjects r no_subject).initial s (at c s).word (at c r))
  left_alone (Take s e) fine d = alone_taking s e (ends_at m c (Take s e)) (wanted_at (here_of m c s) e (at c s)) (d refl)
  left_alone (Run s) fine d = alone_put s _ (d refl)
  left_alone (Expire s) fine d = alone_pool (at c r) _ (leaving_others (here_of m c s).timeout (ends_at m c (Expire s)) c s r l (d refl))
  left_alone (Cancel s) fine d = alone_pool (at c r) _ (leaving_others (here_of m c s).cancel (ends_at m c (Cancel s)) c s r l (d refl))
  left_alone Tick fine d = rw (at_each (λ _ x. ticked x) c r l) (alone_ticked (at c r))

-- ---- and of the entries of a sender

module _ (s healthy : ℕ) (ne : s ≢ healthy) where
  -- an entry of the healthy sender
  abbrev of_healthy : Entry → Bool
  of_healthy e = eqb e.sender healthy

  -- a reservation of another is none of its entries
  count_placed : (typ : ℕ) (es : List Entry) → count_of healthy (es ++ (reservation s typ ∷ [])) ≡ count_of healthy es
  unfolding counted
  count_placed typ es = counted_append of_healthy es (reservation s typ ∷ []) ∙ rw (ne_eqb s healthy ne) (omega arith)

  -- delivering leaves the senders
  count_sent : (word : ℕ) (es : List Entry) → count_of healthy (map (delivered s word) es) ≡ count_of healthy es
  count_sent word es =
      counted_map (delivered s word) of_healthy es
      ∙ counted_same _ of_healthy es (λ e. ap (λ (k : ℕ). eqb k healthy) (delivered_sender s word e))

  -- another withdraws none of them
  not_withdrawn : (e : Entry) → (not (reserved_by s any e) && of_healthy e) ≡ of_healthy e
  unfolding reserved_by
  not_withdrawn e = go (of_healthy e) refl
    where
      go : (b : Bool) → of_healthy e ≡ b → (not (not e.message && (eqb e.sender s && fits any e.typ)) && of_healthy e) ≡ of_healthy e
      go true q =
          let same = eqb-true e.sender healthy q in
          rw (same, ne_eqb healthy s (λ p. ne (sym p)), and_false (not e.message) false refl)
      go false q = and_false (not (not e.message && (eqb e.sender s && fits any e.typ))) (of_healthy e) q ∙ sym q

  -- so they stay as many
  count_withdrawn : (es : List Entry) → count_of healthy (passing (λ e. not (reserved_by s any e)) es) ≡ count_of healthy es
  count_withdrawn es = counted_passing of_healthy _ es ∙ counted_same _ of_healthy es not_withdrawn

-- ---- along the chatter

-- what a healthy sender's place at the owner depends on is in d as in c
record AsBefore (owner healthy : ℕ) (c d : Config) : Type 0 where
  mode : (at d healthy).mode ≡ (at c healthy).mode
  state : (at d healthy).state ≡ (at c healthy).state
  mask : (at d healthy).mask ≡ (at c healthy).mask
  closed : (at d owner).closed ≡ (at c owner).closed
  improper : ((at d owner).mode ≡ ended_improperly) ↔ ((at c owner).mode ≡ ended_improperly)
  has : holds d owner healthy ≡ holds c owner healthy

-- of one configuration
same_before : (owner healthy : ℕ) (c : Config) → AsBefore owner healthy c c
same_before owner healthy c =
    record { mode = refl; state = refl; mask = refl; closed = refl; improper = (λ q. q, λ q. q); has = refl }

-- and the other way round
turned_round : (owner healthy : ℕ) (c d : Config) → AsBefore owner healthy c d → AsBefore owner healthy d c
turned_round owner healthy c d b =
    record {
      mode = sym b.mode;
      state = sym b.state;
      mask = sym b.mask;
      closed = sym b.closed;
      improper = (b.improper.1, b.improper.0);
      has = sym b.has;
    }

module _ (m : Model) (owner healthy : ℕ) (c d : Config) (b : AsBefore owner healthy c d) where
  -- who asks in c asks in d
  asks_so : Asks m c owner healthy → Asks m d owner healthy
  asks_so a =
      record {
        there = a.there;
        runs = b.mode ∙ a.runs;
        sends = rw b.state a.sends;
        named = rw b.state a.named;
        no_place = rw b.mask a.no_place;
      }

  -- who may have a place in c may have it in d
  may_so : MayHave m c owner healthy → MayHave m d owner healthy
  unfolding is_closed
  may_so a =
      record {
        proper = λ q. a.proper (b.improper.0 q);
        not_closed = rw (b.closed, b.state) a.not_closed;
        below = rw b.has a.below;
      }

-- a command of the probe names the probe
of_probe_lem : (probe : ℕ) (k : Command) → of_probe probe k ≡ true → names k ≡ true → subject_of k ≡ probe
of_probe_lem probe k o n = eqb-true (subject_of k) probe (rw n at o)

module _ (m : Model) (owner healthy probe : ℕ) (other : probe ≢ healthy) (apart : probe ≢ owner) (lo : owner < most_subjects) (lh : healthy < most_subjects) where
  -- a command of the probe keeps the number of entries of the healthy one
  holds_kept : (c : Config) (k : Command) → Held c → of_probe probe k ≡ true → refusal_of (stepped m c k).answer ≡ 0
      → holds (effect_of m c k).config owner healthy ≡ holds c owner healthy
  unfolding holds
  holds_kept c k h o fine =
      pool_moved m c h owner lo (λ es. count_of healthy es ≡ holds c owner healthy) k fine refl moved
    where
      moved : names k ≡ true → Moved m c (subject_of k) owner (λ es. count_of healthy es ≡ holds c owner healthy)
      moved n =
          let s = of_probe_lem probe k o n in
          let ne : subject_of k ≢ healthy = λ q. other (sym s ∙ q) in
          record {
            placed = λ _ _ _. count_placed (subject_of k) healthy ne (type_of (here_of m c (subject_of k))) (held (at c owner).pool);
            sent = λ _ word. count_sent (subject_of k) healthy ne word (held (at c owner).pool);
            taken = λ q _. absurd (apart (sym (q ∙ s)));
            withdrawn = count_withdrawn (subject_of k) healthy ne (held (at c owner).pool);
          }

  -- and all the rest, from c, where the healthy one runs
  command_before : (c d : Config) (k : Command) → (at c healthy).mode ≡ running → Held d → of_probe probe k ≡ true
      → refusal_of (stepped m d k).answer ≡ 0 → AsBefore owner healthy c d → AsBefore owner healthy c (effect_of m d k).config
  command_before c d k runs h o fine b =
      let x = left_alone m d h healthy lh k fine (λ n q. other (sym (q ∙ of_probe_lem probe k o n))) in
      let y = left_alone m d h owner lo k fine (λ n q. apart (sym (q ∙ of_probe_lem probe k o n))) in
      let now : (at d healthy).mode ≡ running = b.mode ∙ runs in
      record {
        mode = x.mode now ∙ b.mode;
        state = x.state now ∙ b.state;
        mask = x.mask now ∙ b.mask;
        closed = y.closed ∙ b.closed;
        improper = (λ q. b.improper.0 (y.improper.0 q), λ q. y.improper.1 (b.improper.1 q));
        has = holds_kept d k h o fine ∙ b.has;
      }

module _ (m : Model) (c : Config) (owner healthy probe : ℕ) (chatter : List Command) (v : valid m ≡ true) (h : Held c) (g : config_valid m c ≡ true)
    (there : owner < m.n) (other : probe ≢ healthy) (apart : probe ≢ owner) (o : all_of (of_probe probe) chatter ≡ true) (a : Asks m c owner healthy) where
  -- the chatter leaves all of it
  as_before : AsBefore owner healthy c (run_from m c chatter)
  as_before =
      let lo = subject_there m v owner there in
      let lh = subject_there m v healthy a.there in
      along
      m
      v
      (of_probe probe)
      (AsBefore owner healthy c)
      (λ d k hd _ ok fine b. command_before m owner healthy probe other apart lo lh c d k a.runs hd ok fine b)
      c
      chatter
      h
      g
      o
      (same_before owner healthy c)

  -- the healthy one asks still
  still_asks : Asks m (run_from m c chatter) owner healthy
  still_asks = asks_so m owner healthy c (run_from m c chatter) as_before a

  -- and may have a place exactly when it might before
  may_as_before : MayHave m (run_from m c chatter) owner healthy ↔ MayHave m c owner healthy
  may_as_before = (
    may_so m owner healthy (run_from m c chatter) c (turned_round owner healthy c (run_from m c chatter) as_before),
    may_so m owner healthy c (run_from m c chatter) as_before,
  )

-- ---- never crowded out

-- what a sender gets after the commands is what it may have, and so after more commands
gets_after : (m : Model) (owner s : ℕ) (ks more : List Command) → is_yes (share_of most_entries m owner) ≡ true → Asks m (run_from m (at_last m ks) more) owner s
    → Gets m (run_from m (at_last m ks) more) owner s ↔ MayHave m (run_from m (at_last m ks) more) owner s
gets_after m owner s ks more shares a =
    let e = run_append m (fresh_of m).config ks more in
    rw (← e) (gets_exactly m owner (ks ++ more) shares s (rw e a)).0

-- a healthy sender that asks for a place asks for it still after all the chatter, and gets it then exactly when it would have
-- got it before
pub never_crowded_out : NeverCrowdedOut
never_crowded_out m owner healthy probe ks chatter shares other apart o a =
    let v = yes_valid m owner shares in
    let h = last_held m v ks in
    let g = last_valid m v ks in
    let there = yes_there m owner shares in
    let still = still_asks m (at_last m ks) owner healthy probe chatter v h g there other apart o a in
    let may = may_as_before m (at_last m ks) owner healthy probe chatter v h g there other apart o a in
    let later = gets_after m owner healthy ks chatter shares still in
    let now = (gets_exactly m owner ks shares healthy a).0 in
    (still, (λ q. now.1 (may.0 (later.0 q)), λ q. later.1 (may.1 (now.0 q))))
