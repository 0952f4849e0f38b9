-- Ends: what validity says of who ended improperly, what commands leave of it, and who is started by a Deliver.
use mathlib.Core.Path.{◌≡◌, refl, sym, ap, ◌∙◌}
use mathlib.Core.Logic.{◌≢◌}
use mathlib.Core.Bool.{Bool, true, false, ◌&&◌, not}
use mathlib.Core.List.{List, [], ◌∷◌, ◌++◌, map, append-nil}
use Prim.Native.Nat.{ℕ, ◌≤◌, ◌<◌}
use native.Mathlib.Omega.{arith}
use borrow.Author.Tests.{eq-eqb, eqb-true, ltb-true, ltb-false, not-true, not-false}
use lib.Dec.{eqb, ltb}
use lib.ListN.{get_or-eq_default}
use Rattle.sets.specs.Lists.{passing}
use Rattle.sets.specs.Masks.{bit}
use Rattle.sets.proofs.Below.{none_each}
use Rattle.sets.proofs.Lists.{all_of_at, all_of_each, counted_none, passing_append, passing_same_where, passing_twice}
use Rattle.sets.proofs.Tests.{not_both, and_true, and_false, is_false}
use Rattle.model.specs.Rules.{any}
use Rattle.model.specs.Sizes.{most_subjects}
use Rattle.model.specs.Valid.{subject_at, exit_at, valid}
use Rattle.model.specs.declared.Model.{Model}
use Rattle.engine.specs.pools.Sizes.{most_entries}
use Rattle.engine.specs.pools.Entries.{blank_entry, reservation, reserved_by, delivered}
use Rattle.engine.specs.pools.Pools.{held, reservations}
use Rattle.engine.specs.declared.Entry.{Entry}
use Rattle.engine.specs.configs.Answers.{refusal_of}
use Rattle.engine.specs.configs.Subjects.{asleep, running, ended_properly, ended_improperly, nobody, no_one, at, here_of, Held}
use Rattle.engine.specs.configs.Valid.{config_valid}
use Rattle.engine.specs.declared.Config.{Config}
use Rattle.engine.specs.declared.Stepped.{Stepped}
use Rattle.engine.specs.declared.Subject.{Subject}
use Rattle.engine.specs.commands.Codes.{names, subject_of}
use Rattle.engine.specs.commands.Deliver.{started, delivered_as, delivered_to, delivering}
use Rattle.engine.specs.commands.Rules.{some_improper}
use Rattle.engine.specs.Steps.{effect, ends_at, stepped}
use Rattle.engine.specs.declared.Command.{Command}
use Rattle.engine.specs.declared.Command.TheVariants.{Do, Reserve, Deliver, Take, Run, Expire, Cancel, Tick}
use Rattle.engine.proofs.Cited.{GoodConfig, config_good, delivered_same, held_delivered, subject_there}
use Rattle.engine.proofs.KeptOne.{fields_here}
use Rattle.engine.proofs.SweepLaws.{sweep_other}
use Rattle.engine_promises.proofs.Refusals.{effect_of, Accepted, accepted_is, accepted_tells}
use Rattle.engine_promises.proofs.Steps.{deliver_places}
use Rattle.demands.specs.Ends.{HoldsMessage, ImproperHoldsMessage, messages_of, StillImproper, NoMessageTaken, WaitsAt, DeliverWakes}
use Rattle.demands.specs.Shares.{at_last}
use Rattle.demands.proofs.Along.{along, last_held, last_valid}
use Rattle.demands.proofs.Chatter.{left_alone}
use Rattle.demands.proofs.PoolMoves.{pool_moved}

-- ---- who is awake is there

nobody_sleeps : nobody.mode ≡ asleep
unfolding nobody
nobody_sleeps = refl

module _ (m : Model) (v : valid m ≡ true) (c : Config) (h : Held c) (g : config_valid m c ≡ true) where
  good : GoodConfig m c
  good = config_good m c v h g

  -- a subject that is not there sleeps
  gone_sleeps : (s : ℕ) → m.n ≤ s → (at c s).mode ≡ asleep
  gone_sleeps s p = go (ltb s most_subjects) refl
    where
      go : (b : Bool) → ltb s most_subjects ≡ b → (at c s).mode ≡ asleep
      go true e = ap (λ (x : Subject). x.mode) (good.absent s p (ltb-true s most_subjects e)) ∙ nobody_sleeps
      go false e = ap (λ (x : Subject). x.mode) (get_or-eq_default c.subjects no_one {n = s} (omega (arith, h.subjects, ltb-false s most_subjects e)))

  awake_there : (s : ℕ) → (at c s).mode ≢ asleep → s < m.n
  awake_there s d = go (ltb s m.n) refl
    where
      go : (b : Bool) → ltb s m.n ≡ b → s < m.n
      go true e = ltb-true s m.n e
      go false e = absurd (d (gone_sleeps s (ltb-false s m.n e)))

  -- ---- a message is left

  holds_message : HoldsMessage c
  holds_message s e = (good.subject s (awake_there s (λ q. omega arith))).message e

pub improper_holds_message : ImproperHoldsMessage
improper_holds_message m ks v = holds_message m v (at_last m ks) (last_held m v ks) (last_valid m v ks)

-- ---- and stays there

-- the subject that an accepted command names runs
acts_runs : (m : Model) (c : Config) (k : Command) → refusal_of (stepped m c k).answer ≡ 0 → names k ≡ true → (at c (subject_of k)).mode ≡ running
acts_runs m c k fine = go k (accepted_tells m c k fine)
  where
    said : {x : ℕ} → not (eqb x running) ≡ false → x ≡ running
    said e = eqb-true _ running (not-false _ e)

    go : (k : Command) → Accepted m c k → names k ≡ true → (at c (subject_of k)).mode ≡ running
    go (Do s e w) a n = said (a.none 1)
    go (Reserve s) a n = said (a.none 1)
    go (Deliver s) a n = said (a.none 1)
    go (Take s e) a n = said (a.none 1)
    go (Run s) a n = said (a.none 1)
    go (Expire s) a n = said (a.none 1)
    go (Cancel s) a n = said (a.none 1)
    go Tick a n = not_both n refl

-- a reservation more is no message more
messages_placed : (s t : ℕ) (es : List Entry) → passing (λ e. e.message) (es ++ (reservation s t ∷ [])) ≡ passing (λ e. e.message) es
unfolding passing
messages_placed s t es = passing_append (λ e. e.message) es (reservation s t ∷ []) ∙ append-nil _

-- reservations less are no message less
messages_withdrawn : (s : ℕ) (es : List Entry) → passing (λ e. e.message) (passing (λ e. not (reserved_by s any e)) es) ≡ passing (λ e. e.message) es
unfolding reserved_by
messages_withdrawn s es =
    passing_twice (λ e. not (reserved_by s any e)) (λ e. e.message) es
    ∙ passing_same_where (λ _. true) _ (λ e. e.message) es (all_of_each _ es (λ _. refl)) (λ e _. go e.message _)
  where
    go : (b d : Bool) → (not (not b && d) && b) ≡ b
    go true d = refl
    go false d = and_false (not d) false refl

module _ (m : Model) (c : Config) (h : Held c) (r s : ℕ) where
  -- who ended improperly has no reservation of a sender whose Deliver is accepted
  none_delivered : refusal_of (stepped m c (Deliver s)).answer ≡ 0 → (at c r).mode ≡ ended_improperly → reservations s any (held (at c r).pool) ≡ 0
  unfolding some_improper
  none_delivered fine e =
      let a = accepted_tells m c (Deliver s) fine in
      let g = config_good m c a.model h a.config in
      let lr = awake_there m a.model c h a.config r (λ q. omega arith) in
      let j = subject_there m a.model r lr in
      let no-receiver : bit (here_of m c s).receivers r ≡ false =
      is_false _ (λ b. not_both (and_true b (eq-eqb (at c r).mode ended_improperly e)) (none_each (λ k. bit (here_of m c s).receivers k && eqb (at c k).mode ended_improperly) most_subjects (a.none 4) r j)) in
      let no_place_lem : bit (at c s).mask r ≡ false =
      is_false _ (λ b. not_both ((fields_here m a.model c g s a.there).receivers r j b) no-receiver) in
      g.one r s lr a.there ∙ rw no_place_lem

  -- so its pool stays as it is
  delivered_stays : refusal_of (stepped m c (Deliver s)).answer ≡ 0 → (at c r).mode ≡ ended_improperly
      → (word : ℕ) → map (delivered s word) (held (at c r).pool) ≡ held (at c r).pool
  delivered_stays fine e word =
      let a = accepted_tells m c (Deliver s) fine in
      let g = config_good m c a.model h a.config in
      let lr = awake_there m a.model c h a.config r (λ q. omega arith) in
      sym (held_delivered most_entries s (at c r).pool word)
      ∙ ap held (delivered_same most_entries (at c r).pool (g.subject r lr).well s (none_delivered fine e) word)

module _ (m : Model) (v : valid m ≡ true) (x : Subject) (r : ℕ) where
  -- an accepted command leaves it
  still_kept : (c : Config) (k : Command) → Held c → config_valid m c ≡ true → refusal_of (stepped m c k).answer ≡ 0
      → StillImproper x (at c r) → StillImproper x (at (effect_of m c k).config r)
  still_kept c k h g fine q =
      record {
        improper = (left_alone m c h r l k fine apart).improper.1 q.improper;
        messages = pool_moved m c h r l (λ es. passing (λ e. e.message) es ≡ messages_of x) k fine q.messages (λ n. record {
          placed = λ _ _ _. messages_placed (subject_of k) _ (held (at c r).pool) ∙ q.messages;
          sent = λ sends word. ap (passing (λ e. e.message)) (delivered_stays m c h r (subject_of k) sends q.improper word) ∙ q.messages;
          taken = λ same i. absurd (apart n same);
          withdrawn = messages_withdrawn (subject_of k) (held (at c r).pool) ∙ q.messages;
        });
      }
    where
      l : r < most_subjects
      l = subject_there m v r (awake_there m v c h g r (λ e. let z = q.improper in omega arith))

      apart : names k ≡ true → r ≢ subject_of k
      apart n e =
          let runs = acts_runs m c k fine n in
          let ended : (at c (subject_of k)).mode ≡ ended_improperly = ap (λ (s : ℕ). (at c s).mode) (sym e) ∙ q.improper in
          omega arith

pub no_message_taken : NoMessageTaken
no_message_taken m ks more s v e =
    along
    m
    v
    (λ _. true)
    (λ c. StillImproper (at (at_last m ks) s) (at c s))
    (λ c k h g _ fine q. still_kept m v (at (at_last m ks) s) s c k h g fine q)
    (at_last m ks)
    more
    (last_held m v ks)
    (last_valid m v ks)
    (all_of_each (λ _. true) more (λ _. refl))
    (record { improper = e; messages = refl })

-- ---- reservations only

-- a receiver that ended properly starts
record Starts (initial : ℕ) (x : Subject) : Type 0 where
  runs : x.mode ≡ running
  state : x.state ≡ initial
  word : x.word ≡ 0

proper_starts : (receives : Bool) (initial s word : ℕ) (x : Subject) → receives ≡ true → x.mode ≡ ended_properly
    → Starts initial (delivered_as receives initial s word x)
unfolding delivered_as started
proper_starts receives initial s word x e p = rw (e, p) (record { runs = refl; state = refl; word = refl })

-- a reservation of s that is there has its receiver in the mask of s
in_mask : (m : Model) (c : Config) → GoodConfig m c → (r s i : ℕ) → r < m.n → s < m.n → WaitsAt c r s i → bit (at c s).mask r ≡ true
unfolding reservations
in_mask m c g r s i lr ls w = go (bit (at c s).mask r) refl
  where
    go : (b : Bool) → bit (at c s).mask r ≡ b → bit (at c s).mask r ≡ true
    go true e = e
    go false e =
        let none = counted_none (reserved_by s any) (held (at c r).pool) (g.one r s lr ls ∙ rw e) in
        not_both w.reserved (not-true _ (all_of_at _ (held (at c r).pool) blank_entry none i w.there))

pub deliver_wakes : DeliverWakes
unfolding effect delivering
deliver_wakes m c r s i h w fine =
    let a = accepted_tells m c (Deliver s) fine in
    let g = config_good m c a.model h a.config in
    let proper = w.proper in
    let lr = awake_there m a.model c h a.config r (λ q. omega arith) in
    let j = subject_there m a.model r lr in
    let runs = acts_runs m c (Deliver s) fine refl in
    let apart : r ≢ s = λ q. let same : (at c s).mode ≡ ended_properly = ap (λ (k : ℕ). (at c k).mode) (sym q) ∙ proper in omega arith in
    let receives = (fields_here m a.model c g s a.there).receivers r j (in_mask m c g r s i lr a.there w) in
    let started = proper_starts (bit (here_of m c s).receivers r) (subject_at m r).initial s (at c s).word (at c r) receives proper in
    let is = ap (λ (x : Stepped). at x.config r) (accepted_is m c (Deliver s) fine)
    ∙ sweep_other (delivered_to m.subjects (here_of m c s) s (at c s).word) c s (exit_at (here_of m c s) 0).target (ends_at m c (Deliver s)) r j apart in
    record {
      runs = ap (λ (x : Subject). x.mode) is ∙ started.runs;
      initial = ap (λ (x : Subject). x.state) is ∙ started.state;
      word = ap (λ (x : Subject). x.word) is ∙ started.word;
      message = (deliver_places m c s fine r j).message i w.there w.reserved;
    }
