-- Deliver, Expire and Cancel change every pool: a good configuration stays good, and held.
use mathlib.Core.Path.{◌≡◌, refl, sym, ap, ◌∙◌}
use mathlib.Core.Logic.{◌≢◌, ◌⊎◌, inl, inr, ⊎_elim}
use mathlib.Core.Bool.{Bool, true, false, ◌||◌, not, cond}
use mathlib.Core.List.{List, [], map}
use Prim.Native.Nat.{ℕ, ◌≤◌, ◌<◌}
use native.Mathlib.Omega.{arith}
use borrow.Author.Tests.{eqb-true, eqb-false}
use lib.Dec.{eqb}
use lib.ListN.{get_or}
use lib.Pow.{pow_pos}
use Rattle.sets.specs.Lists.{all_of, passing}
use Rattle.sets.specs.Masks.{bit}
use Rattle.sets.proofs.Tests.{not_both, choose}
use Rattle.sets.proofs.Masks.{bit_zero}
use Rattle.model.specs.Rules.{any, none}
use Rattle.model.specs.Sizes.{most_subjects}
use Rattle.model.specs.Valid.{no_subject, subject_at, exit_at, valid}
use Rattle.model.specs.declared.Model.{Model}
use Rattle.model.specs.declared.State.{State}
use Rattle.model.specs.declared.Subject as model_subject
use Rattle.engine.specs.pools.Sizes.{most_entries}
use Rattle.engine.specs.pools.Entries.{reserved_by, delivered}
use Rattle.engine.specs.pools.Pools.{held, pooled, has_message, reservations, delivered_in, withdrawn_from, Well}
use Rattle.engine.specs.pools.Rows.{rows_kept}
use Rattle.engine.specs.pools.Valid.{entry_valid}
use Rattle.engine.specs.declared.Entry.{Entry}
use Rattle.engine.specs.declared.Pool.{Pool}
use Rattle.engine.proofs.pools.EntryLaws.{message_delivered, message_withdrawn, delivered_others, delivered_none, delivered_all_valid, delivered_rows, delivered_places, delivered_empty, withdrawn_others, withdrawn_none, withdrawn_all_valid, withdrawn_rows, withdrawn_places, withdrawn_empty}
use Rattle.engine.proofs.pools.PoolLaws.{held_delivered, held_withdrawn, well_delivered, well_withdrawn}
use Rattle.engine.specs.configs.Subjects.{asleep, running, ended_properly, ended_improperly, is_end, at, state_of, here_of, each_subject, with_pool, entered, nobody, Held}
use Rattle.engine.specs.configs.Valid.{marks_right, fields_right, type_of}
use Rattle.engine.specs.declared.Config.{Config}
use Rattle.engine.specs.declared.Subject.{Subject}
use Rattle.engine.proofs.configs.Good.{GoodSubject, GoodConfig}
use Rattle.engine.proofs.configs.ModelFacts.{RightState, subject_there, initial_there_lem, initial_runs}
use Rattle.engine.proofs.configs.ValidLaws.{HeldSubject, held_at, fields_read, fields_by}
use Rattle.engine.specs.configs.Subjects.{enters}
use Rattle.engine.specs.commands.Deliver.{started, delivered_as, delivered_to, delivering}
use Rattle.engine.specs.commands.Leave.{withdrawing, leaving}
use Rattle.engine.proofs.KeptOne.{idle_none, good_stock, good_enter, right_here}
use Rattle.engine.proofs.SweepLaws.{sweep_other, sweep_each, sweep_mask, sweep_pool, sweep_held, delivered_pool}

-- ---- one subject

good_pool : (m : Model) (s : ℕ) (p : Pool) (x : Subject) → GoodSubject m s x → Well most_entries p → all_of (entry_valid m.n) (held p) ≡ true
    → rows_kept (subject_at m s) (held p) ≡ true → (x.mode ≡ ended_improperly → has_message (held p) ≡ true) → GoodSubject m s (with_pool p x)
unfolding fields_right marks_right
good_pool m s p x h w e r k = record { fields = h.fields; marks = h.marks; well = w; entries = e; rows = r; message = k }

module _ (m : Model) (r s : ℕ) (x : Subject) (h : GoodSubject m r x) where
  good_withdrawn : GoodSubject m r (with_pool (withdrawn_from most_entries s x.pool) x)
  good_withdrawn =
      good_pool
      m
      r
      (withdrawn_from most_entries s x.pool)
      x
      h
      (well_withdrawn most_entries s x.pool h.well)
      (rw (held_withdrawn most_entries s x.pool) (withdrawn_all_valid s (held x.pool) m.n h.entries))
      (rw (held_withdrawn most_entries s x.pool) (withdrawn_rows (subject_at m r) s (held x.pool) h.rows))
      (λ e. rw (held_withdrawn most_entries s x.pool) (message_withdrawn (held x.pool) (h.message e) s))

  good_delivered : (w : ℕ) → GoodSubject m r (with_pool (delivered_in most_entries s w x.pool) x)
  good_delivered w =
      good_pool
      m
      r
      (delivered_in most_entries s w x.pool)
      x
      h
      (well_delivered most_entries s x.pool w h.well)
      (rw (held_delivered most_entries s x.pool w) (delivered_all_valid s w (held x.pool) m.n h.entries))
      (rw (held_delivered most_entries s x.pool w) (delivered_rows (subject_at m r) s (held x.pool) h.rows w))
      (λ e. rw (held_delivered most_entries s x.pool w) (message_delivered (held x.pool) (h.message e) s w))

-- who is not running has mask 0
still_mask : (m : Model) (r : ℕ) (x : Subject) → GoodSubject m r x → x.mode ≢ running → x.mask ≡ 0
still_mask m r x h d = go (eqb x.mask 0) refl
  where
    go : (b : Bool) → eqb x.mask 0 ≡ b → x.mask ≡ 0
    go true e = eqb-true x.mask 0 e
    go false e = absurd (d ((fields_read (subject_at m r) (state_of m r x.state) x h.fields).sender (eqb-false x.mask 0 e)))

-- asleep or ended properly
abbrev rests : Subject → Bool
rests x = eqb x.mode asleep || eqb x.mode ended_properly

rests_still : (x : Subject) → rests x ≡ true → x.mode ≢ running
rests_still x h e = let z : ◌≡◌ {A = Bool} false true = rw e at h in not_both z refl

module _ (m : Model) (v : valid m ≡ true) (r : ℕ) (l : r < m.n) (x : Subject) (h : GoodSubject m r x) where
  good_started : GoodSubject m r (started (subject_at m r).initial x)
  unfolding started marks_right
  good_started =
      choose
      (GoodSubject m r)
      (rests x)
      (λ _. record {
        fields = fields_by (subject_at m r) (state_of m r (subject_at m r).initial) _ (record {
          mode = omega arith;
          state = initial_there_lem m v r l;
          runs = λ _. initial_runs m v r l;
          proper = λ e. absurd (omega arith);
          improper = λ e. absurd (omega arith);
          initial = λ e. absurd (omega arith);
          word = λ e. absurd (omega arith);
          waited = λ _. refl;
          sender = λ d. absurd (d refl);
          sends = λ d. absurd (d refl);
          receivers = λ k _ e. not_both e (bit_zero k);
        });
        marks = h.marks;
        well = h.well;
        entries = h.entries;
        rows = h.rows;
        message = λ e. absurd (omega arith);
      })
      (λ _. h)

-- a receiver that starts had mask 0
module _ (initial : ℕ) (x : Subject) where
  started_runs : x.mode ≡ running → started initial x ≡ x
  unfolding started
  started_runs e = choose (λ (y : Subject). y ≡ x) (rests x) (λ b. absurd (rests_still x b e)) (λ _. refl)

  started_held : HeldSubject x → HeldSubject (started initial x)
  unfolding started
  started_held h =
      choose HeldSubject (rests x) (λ _. record { marks = h.marks; entries = h.entries; mask = pow_pos most_subjects }) (λ _. h)

  module _ (h : x.mode ≢ running → x.mask ≡ 0) where
    started_mask : (started initial x).mask ≡ x.mask
    unfolding started
    started_mask = choose (λ (y : Subject). y.mask ≡ x.mask) (rests x) (λ b. sym (h (rests_still x b))) (λ _. refl)

    started_state : ((started initial x).state ≡ x.state) ⊎ (x.mask ≡ 0)
    unfolding started
    started_state =
        choose (λ (y : Subject). (y.state ≡ x.state) ⊎ (x.mask ≡ 0)) (rests x) (λ b. inr (h (rests_still x b))) (λ _. inl refl)

-- the same, receiver or not
module _ (receives : Bool) (initial s w : ℕ) (x : Subject) where
  given_runs : x.mode ≡ running → delivered_as receives initial s w x ≡ with_pool (delivered_in most_entries s w x.pool) x
  unfolding delivered_as
  given_runs e =
      choose
      (λ (y : Subject). y ≡ with_pool (delivered_in most_entries s w x.pool) x)
      receives
      (λ _. started_runs initial (with_pool (delivered_in most_entries s w x.pool) x) e)
      (λ _. refl)

  given_held : HeldSubject x → HeldSubject (delivered_as receives initial s w x)
  unfolding delivered_as
  given_held h =
      let y : HeldSubject (with_pool (delivered_in most_entries s w x.pool) x) =
      record { marks = h.marks; entries = delivered_places most_entries s x.pool h.entries w; mask = h.mask } in
      choose HeldSubject receives (λ _. started_held initial (with_pool (delivered_in most_entries s w x.pool) x) y) (λ _. y)

  module _ (h : x.mode ≢ running → x.mask ≡ 0) where
    given_mask : (delivered_as receives initial s w x).mask ≡ x.mask
    unfolding delivered_as
    given_mask =
        choose
        (λ (y : Subject). y.mask ≡ x.mask)
        receives
        (λ _. started_mask initial (with_pool (delivered_in most_entries s w x.pool) x) h)
        (λ _. refl)

    given_state : ((delivered_as receives initial s w x).state ≡ x.state) ⊎ (x.mask ≡ 0)
    unfolding delivered_as
    given_state =
        choose
        (λ (y : Subject). (y.state ≡ x.state) ⊎ (x.mask ≡ 0))
        receives
        (λ _. started_state initial (with_pool (delivered_in most_entries s w x.pool) x) h)
        (λ _. inl refl)

good_given : (m : Model) (v : valid m ≡ true) (r : ℕ) → r < m.n → (receives : Bool) (s w : ℕ) (x : Subject) → GoodSubject m r x
    → GoodSubject m r (delivered_as receives (subject_at m r).initial s w x)
unfolding delivered_as
good_given m v r l receives s w x h =
    choose
    (GoodSubject m r)
    receives
    (λ _. good_started m v r l (with_pool (delivered_in most_entries s w x.pool) x) (good_delivered m r s x h w))
    (λ _. good_delivered m r s x h w)

-- ---- a subject that is not there stays so

nobody_pool : (p : Pool) → p ≡ pooled most_entries [] → with_pool p nobody ≡ nobody
unfolding nobody
nobody_pool p e = ap (λ (q : Pool). with_pool q nobody) e

nobody_withdrawn : (s : ℕ) → with_pool (withdrawn_from most_entries s nobody.pool) nobody ≡ nobody
unfolding nobody
nobody_withdrawn s = nobody_pool (withdrawn_from most_entries s (pooled most_entries [])) (withdrawn_empty most_entries s)

nobody_given : (initial s w : ℕ) → delivered_as false initial s w nobody ≡ nobody
unfolding nobody delivered_as
nobody_given initial s w = nobody_pool (delivered_in most_entries s w (pooled most_entries [])) (delivered_empty most_entries s w)

-- ---- a step that changes every subject by f, and its pool by g, and then has s enter a state

-- s runs; each subject stays good, its mask as it was, its state too if the mask is not 0; no reservation of s is left, and
-- those of others are as they were
record Sweeps (m : Model) (c : Config) (s : ℕ) (f : ℕ → Subject → Subject) (g : List Entry → List Entry) : Type 0 where
  runs : (f s (at c s)).mode ≡ running
  good : (r : ℕ) → r < m.n → GoodSubject m r (f r (at c r))
  gone : (r : ℕ) → m.n ≤ r → f r nobody ≡ nobody
  mask : (r : ℕ) → r < m.n → (f r (at c r)).mask ≡ (at c r).mask
  state : (r : ℕ) → r < m.n → ((f r (at c r)).state ≡ (at c r).state) ⊎ ((at c r).mask ≡ 0)
  pool : (r : ℕ) → held (f r (at c r)).pool ≡ g (held (at c r).pool)
  others : (q t : ℕ) (es : List Entry) → q ≢ s → reservations q t (g es) ≡ reservations q t es
  none : (t : ℕ) (es : List Entry) → reservations s t (g es) ≡ 0

module _ (m : Model) (v : valid m ≡ true) (c : Config) (h : GoodConfig m c) (s : ℕ) (l : s < m.n) (f : ℕ → Subject → Subject)
    (g : List Entry → List Entry) (w : Sweeps m c s f g) (t : ℕ) (end : Bool) where
  -- the configuration afterwards
  abbrev after : Config
  after = enters (each_subject f c) s t end

  there : (r : ℕ) → r < m.n → r < most_subjects
  there r lr = subject_there m v r lr

  module _ (r q : ℕ) (lr : r < m.n) (lq : q < m.n) where
    pools : (typ : ℕ) → reservations q typ (held (at after r).pool) ≡ reservations q typ (g (held (at c r).pool))
    pools typ = ap (λ (p : Pool). reservations q typ (held p)) (sweep_pool f c s t end r (there r lr)) ∙ ap (reservations q typ) (w.pool r)

    -- in the mask of q exactly where q has a place, if that is so of the other senders
    places : (typ : ℕ) → (q ≢ s → reservations q typ (held (at c r).pool) ≡ cond (bit (at c q).mask r) 1 0)
        → reservations q typ (held (at after r).pool) ≡ cond (bit (at after q).mask r) 1 0
    places typ before = pools typ ∙ go (eqb q s) refl
      where
        go : (b : Bool) → eqb q s ≡ b → reservations q typ (g (held (at c r).pool)) ≡ cond (bit (at after q).mask r) 1 0
        go true e = rw (eqb-true q s e, sweep_mask f c s t end (there s l), bit_zero r) (w.none typ (held (at c r).pool))
        go false e =
            let ne = eqb-false q s e in
            rw (sweep_other f c s t end q (there q lq) ne, w.mask q lq) (w.others q typ (held (at c r).pool) ne ∙ before ne)

    typed_before : q ≢ s → reservations q (type_of (here_of m after q)) (held (at c r).pool) ≡ cond (bit (at c q).mask r) 1 0
    typed_before ne =
        rw (sweep_other f c s t end q (there q lq) ne)
        (⊎_elim
        (λ (e : (f q (at c q)).state ≡ (at c q).state). rw e (h.typed r q lr lq))
        (λ (e : (at c q).mask ≡ 0). idle_none m c h q lq e r _ lr ∙ rw (e, bit_zero r))
        (w.state q lq))

  good_own : t < (subject_at m s).states → end ≡ is_end (state_of m s t).kind → GoodSubject m s (entered t end (f s (at c s)))
  good_own lt e = rw e (good_enter m s t (f s (at c s)) (good_stock m s (f s (at c s)) (w.good s l)) w.runs lt)

  kept_sweep : t < (subject_at m s).states → end ≡ is_end (state_of m s t).kind → GoodConfig m after
  kept_sweep lt e =
      record {
        subject = λ r lr. sweep_each f c s t end (there s l) (GoodSubject m) (good_own lt e) r (there r lr) (λ _. w.good r lr);
        absent = λ r n j. sweep_other f c s t end r j (λ q. omega arith) ∙ ap (f r) (h.absent r n j) ∙ w.gone r n;
        one = λ r q lr lq. places r q lr lq any (λ _. h.one r q lr lq);
        typed = λ r q lr lq. places r q lr lq (type_of (here_of m after q)) (typed_before r q lr lq);
      }

-- ---- the steps

-- what Expire and Cancel of s do to each
abbrev withdraws : ℕ → ℕ → Subject → Subject
withdraws s r x = with_pool (withdrawn_from most_entries s x.pool) x

module _ (m : Model) (v : valid m ≡ true) (c : Config) (g : GoodConfig m c) (s : ℕ) (l : s < m.n) (runs : (at c s).mode ≡ running) where
  -- Expire and Cancel

  leave_sweeps : Sweeps m c s (withdraws s) (passing (λ e. not (reserved_by s any e)))
  leave_sweeps =
      record {
        runs = runs;
        good = λ r lr. good_withdrawn m r s (at c r) (g.subject r lr);
        gone = λ r _. nobody_withdrawn s;
        mask = λ r lr. refl;
        state = λ r lr. inl refl;
        pool = λ r. held_withdrawn most_entries s (at c r).pool;
        others = λ q t es ne. withdrawn_others s es q t ne;
        none = λ t es. withdrawn_none s es t;
      }

  pub kept_leave : (t : ℕ) (end : Bool) → t < (subject_at m s).states → end ≡ is_end (state_of m s t).kind → GoodConfig m (leaving t end c s)
  unfolding leaving withdrawing
  kept_leave t end lt e = kept_sweep m v c g s l (withdraws s) (passing (λ e. not (reserved_by s any e))) leave_sweeps t end lt e

  -- Deliver

  module _ (here : State) (is : here ≡ here_of m c s) where
    right : RightState m.n (subject_at m s).states here
    right = rw is (right_here m v c g s l)

    still : (r : ℕ) → r < m.n → (at c r).mode ≢ running → (at c r).mask ≡ 0
    still r lr = still_mask m r (at c r) (g.subject r lr)

    deliver_sweeps : Sweeps m c s (delivered_to m.subjects here s (at c s).word) (map (delivered s (at c s).word))
    deliver_sweeps =
        let w = (at c s).word in
        record {
          runs = ap (λ (x : Subject). x.mode) (given_runs (bit here.receivers s) (subject_at m s).initial s w (at c s) runs) ∙ runs;
          good = λ r lr. good_given m v r lr (bit here.receivers r) s w (at c r) (g.subject r lr);
          gone = λ r n. rw (right.receivers r n) (nobody_given (subject_at m r).initial s w);
          mask = λ r lr. given_mask (bit here.receivers r) (subject_at m r).initial s w (at c r) (still r lr);
          state = λ r lr. given_state (bit here.receivers r) (subject_at m r).initial s w (at c r) (still r lr);
          pool = λ r. ap held (delivered_pool (bit here.receivers r) (subject_at m r).initial s w (at c r)) ∙ held_delivered most_entries s (at c r).pool w;
          others = λ q t es ne. delivered_others s w es q t ne;
          none = λ t es. delivered_none s w es t;
        }

    pub kept_deliver : here.kind ≡ 2 → (end : Bool) → end ≡ is_end (state_of m s (exit_at here 0).target).kind
        → GoodConfig m (delivering m.subjects here end c s)
    unfolding delivering
    kept_deliver kind end e =
        let x = right.send kind in
        kept_sweep
        m
        v
        c
        g
        s
        l
        (delivered_to m.subjects here s (at c s).word)
        (map (delivered s (at c s).word))
        deliver_sweeps
        (exit_at here 0).target
        end
        (right.target 0 (omega arith))
        e

    -- a target that is not 'none' is a state
    some_target : (t : ℕ) → (t ≡ none) ⊎ (t < (subject_at m s).states) → t ≢ none → t < (subject_at m s).states
    some_target t h d = ⊎_elim (λ (e : t ≡ none). absurd (d e)) (λ (j : t < (subject_at m s).states). j) h

    pub kept_expire : here.timeout ≢ none → (end : Bool) → end ≡ is_end (state_of m s here.timeout).kind → GoodConfig m (leaving here.timeout end c s)
    kept_expire d end e = kept_leave here.timeout end (some_target here.timeout right.timeout d) e

    pub kept_cancel : here.cancel ≢ none → (end : Bool) → end ≡ is_end (state_of m s here.cancel).kind → GoodConfig m (leaving here.cancel end c s)
    kept_cancel d end e = kept_leave here.cancel end (some_target here.cancel right.cancel d) e

-- ---- what the machine can hold

module _ (c : Config) (k : Held c) (s : ℕ) (l : s < most_subjects) where
  pub held_leave : (t : ℕ) (end : Bool) → Held (leaving t end c s)
  unfolding leaving withdrawing
  held_leave t end =
      sweep_held
      (withdraws s)
      c
      s
      t
      end
      l
      (λ r j. let h = held_at c k r j in record { marks = h.marks; entries = withdrawn_places most_entries s (at c r).pool h.entries; mask = h.mask })

  pub held_deliver : (subjects : List model_subject.Subject) (here : State) (end : Bool) → Held (delivering subjects here end c s)
  unfolding delivering
  held_deliver subjects here end =
      sweep_held
      (delivered_to subjects here s (at c s).word)
      c
      s
      (exit_at here 0).target
      end
      l
      (λ r j. given_held (bit here.receivers r) (get_or subjects r no_subject).initial s (at c s).word (at c r) (held_at c k r j))
