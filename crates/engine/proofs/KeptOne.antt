-- Steps that change one subject's own fields keep a configuration good: Do, Take, Run and Tick.
use Rattle.std.specs.Prelude.{Some}
use mathlib.Core.Path.{◌≡◌, refl, sym, ap, ◌∙◌}
use mathlib.Core.Bool.{Bool, true, false, ◌&&◌, cond}
use mathlib.Core.List.{List, append-nil}
use Prim.Native.Nat.{ℕ, suc, ◌+◌, ◌≤◌, ◌<◌, min}
use native.Mathlib.Omega.{arith}
use borrow.Author.Tests.{le-ltb, ne_eqb, ltb-true, ltb-false, eqb-true, eqb-false}
use lib.Dec.{eqb, ltb}
use lib.ListN.{length, get_or, drop_of_length-le}
use lib.Pow.{pow_pos}
use lib.Seq.{take_all}
use Rattle.sets.specs.Lists.{all_of, counted, without}
use Rattle.sets.specs.Masks.{bit}
use Rattle.sets.specs.Tests.{within}
use Rattle.sets.proofs.Tests.{not_both, and_both, within_is, within_true, choose}
use Rattle.sets.proofs.Below.{length_table, table_at}
use Rattle.sets.proofs.Lists.{all_of_without, counted_without, find_is}
use Rattle.sets.proofs.Masks.{bit_zero}
use Rattle.model.specs.Rules.{any}
use Rattle.model.specs.Sizes.{most_subjects}
use Rattle.model.specs.Valid.{subject_at, exit_at, valid}
use Rattle.model.specs.declared.Model.{Model}
use Rattle.model.specs.declared.State.{State}
use Rattle.model.specs.declared.Subject as model_subject
use Rattle.engine.specs.pools.Entries.{blank_entry, matches, is_message, reserved_by}
use Rattle.engine.specs.pools.Sizes.{most_entries}
use Rattle.engine.specs.pools.Pools.{held, has_message, reservations, first_message, taken_at, Well}
use Rattle.engine.specs.pools.Rows.{rows_kept}
use Rattle.engine.specs.pools.Valid.{entry_valid}
use Rattle.engine.specs.declared.Entry.{Entry}
use Rattle.engine.specs.declared.Pool.{Pool}
use Rattle.engine.proofs.pools.PoolLaws.{well_full, held_taken, well_taken}
use Rattle.engine.proofs.pools.EntryLaws.{reservations_any, rows_fewer}
use Rattle.engine.specs.configs.Subjects.{running, ended_properly, ended_improperly, is_send, is_end, at, state_of, here_of, put, each_subject, with_word, with_waited, with_pool, entered, nobody, Held}
use Rattle.engine.specs.configs.Valid.{marks_right, fields_right, type_of}
use Rattle.engine.specs.declared.Config.{Config}
use Rattle.engine.specs.declared.Subject.{Subject}
use Rattle.engine.proofs.configs.Good.{GoodSubject, GoodConfig}
use Rattle.engine.proofs.configs.ModelFacts.{RightState, subject_there, state_right_lem}
use Rattle.engine.proofs.configs.ValidLaws.{at_put_other, at_each, each_put, HeldSubject, held_at, held_put, held_each, GoodFields, fields_read, fields_by, marks_read, marks_by}
use Rattle.engine.specs.commands.Runs.{run_exit, mark_at, with_marks, marking, running_on}
use Rattle.engine.specs.commands.Doing.{doing}
use Rattle.engine.specs.commands.Take.{wanted_at, taking_at}
use Rattle.engine.specs.commands.Tick.{ticked, ticking}

-- ---- reservations

-- a sender with no place has no reservation of any type anywhere
pub idle_none : (m : Model) (c : Config) → GoodConfig m c → (q : ℕ) → q < m.n → (at c q).mask ≡ 0
    → (r t : ℕ) → r < m.n → reservations q t (held (at c r).pool) ≡ 0
idle_none m c g q l z r t lr =
    let e : reservations q any (held (at c r).pool) ≡ 0 = g.one r q lr l ∙ rw (z, bit_zero r) in
    omega (arith, reservations_any q t (held (at c r).pool))

-- ---- one subject is changed, and no place

module _ (m : Model) (v : valid m ≡ true) (c : Config) (k : Held c) (g : GoodConfig m c) (s : ℕ) (l : s < m.n) where
  size : s < length c.subjects
  size = omega (arith, k.subjects, subject_there m v s l)

  pub put_idle : (x : Subject) → (at c s).mask ≡ 0 → x.mask ≡ 0 → GoodSubject m s x
      → ((q t : ℕ) → reservations q t (held x.pool) ≡ reservations q t (held (at c s).pool))
      → GoodConfig m (put c s x)
  put_idle x z zx gx same =
      record {
        subject = λ r lr. each_put (GoodSubject m) c s x size gx r (λ _. g.subject r lr);
        absent = λ r gr lr. at_put_other c s x r (λ e. omega arith) ∙ g.absent r gr lr;
        one = λ r q lr lq. pools r q any ∙ g.one r q lr lq ∙ ap (λ (w : ℕ). cond (bit w r) 1 0) (sym (masks q));
        typed = λ r q lr lq. each_put (λ p y. reservations p (type_of (state_of m p y.state)) (held (at (put c s x) r).pool) ≡ cond (bit y.mask r) 1 0) c s x size (own r lr) q (λ _. pools r q (type_of (here_of m c q)) ∙ g.typed r q lr lq);
      }
    where
      pools : (r q t : ℕ) → reservations q t (held (at (put c s x) r).pool) ≡ reservations q t (held (at c r).pool)
      pools r q t = each_put (λ p y. reservations q t (held y.pool) ≡ reservations q t (held (at c p).pool)) c s x size (same q t) r (λ _. refl)

      masks : (q : ℕ) → (at (put c s x) q).mask ≡ (at c q).mask
      masks q = each_put (λ p y. y.mask ≡ (at c p).mask) c s x size (zx ∙ sym z) q (λ _. refl)

      own : (r : ℕ) → r < m.n → reservations s (type_of (state_of m s x.state)) (held (at (put c s x) r).pool) ≡ cond (bit x.mask r) 1 0
      own r lr = pools r s (type_of (state_of m s x.state)) ∙ idle_none m c g s l z r (type_of (state_of m s x.state)) lr ∙ rw (zx, bit_zero r)

-- ---- what a subject has beside its fields: marks and pool

pub record GoodStock (m : Model) (s : ℕ) (x : Subject) : Type 0 where
  pub marks : marks_right m.n x ≡ true
  pub well : Well most_entries x.pool
  pub entries : all_of (entry_valid m.n) (held x.pool) ≡ true
  pub rows : rows_kept (subject_at m s) (held x.pool) ≡ true

pub good_stock : (m : Model) (s : ℕ) (x : Subject) → GoodSubject m s x → GoodStock m s x
good_stock m s x g = record { marks = g.marks; well = g.well; entries = g.entries; rows = g.rows }

-- with the same marks and the same pool
pub stock_same : (m : Model) (s : ℕ) (x y : Subject) → GoodStock m s x → y.closed ≡ x.closed → y.pool ≡ x.pool → GoodStock m s y
stock_same m s x y g a b =
    record {
      marks = marks_by m.n y (λ i h l. ap (λ (d : List ℕ). get_or d i 0) a ∙ marks_read m.n x g.marks i h l);
      well = rw b g.well;
      entries = rw b g.entries;
      rows = rw b g.rows;
    }

-- ---- one entry is taken out

without_past : (i : ℕ) (es : List Entry) → length es ≤ i → without i es ≡ es
unfolding without
without_past i es h = rw (take_all i es h, drop_of_length-le es {i = suc i} (omega arith), append-nil)

without_counted : (f : Entry → Bool) (i : ℕ) (es : List Entry) → counted f (without i es) ≤ counted f es
without_counted f i es = go (ltb i (length es)) refl
  where
    go : (b : Bool) → ltb i (length es) ≡ b → counted f (without i es) ≤ counted f es
    go true e = omega (arith, counted_without f i es blank_entry (ltb-true i (length es) e))
    go false e = rw (without_past i es (ltb-false i (length es) e)) (omega arith)

-- what was a message is no reservation
without_message : (q t a b i : ℕ) (es : List Entry) → i < length es → is_message a b (get_or es i blank_entry) ≡ true
    → reservations q t (without i es) ≡ reservations q t es
unfolding reservations reserved_by is_message
without_message q t a b i es l h =
    let e = get_or es i blank_entry in
    let x = and_both e.message (matches a b e) h in
    omega (arith, rw x.left at (counted_without (reserved_by q t) i es blank_entry l))

pub stock_taken : (m : Model) (s : ℕ) (x : Subject) (i : ℕ) → GoodStock m s x → GoodStock m s (with_pool (taken_at most_entries x.pool i).pool x)
stock_taken m s x i g =
    record {
      marks = marks_by m.n (with_pool (taken_at most_entries x.pool i).pool x) (marks_read m.n x g.marks);
      well = well_taken most_entries x.pool i g.well;
      entries = rw (held_taken most_entries x.pool i) (all_of_without (entry_valid m.n) i (held x.pool) g.entries);
      rows =
          rw (held_taken most_entries x.pool i)
          (rows_fewer (subject_at m s) (held x.pool) (without i (held x.pool)) (λ a b. without_counted (matches a b) i (held x.pool)) g.rows);
    }

-- ---- marks

module _ (n : ℕ) (here : State) (x : Subject) where
  mode_marking : (marking n here x).mode ≡ x.mode
  unfolding marking with_marks
  mode_marking = choose (λ (y : Subject). y.mode ≡ x.mode) (eqb here.kind 6) (λ _. refl) (λ _. refl)

  pub pool_marking : (marking n here x).pool ≡ x.pool
  unfolding marking with_marks
  pool_marking = choose (λ (y : Subject). y.pool ≡ x.pool) (eqb here.kind 6) (λ _. refl) (λ _. refl)

  closed_marking : length x.closed ≡ most_subjects → length (marking n here x).closed ≡ most_subjects
  unfolding marking with_marks
  closed_marking h =
      choose
      (λ (y : Subject). length y.closed ≡ most_subjects)
      (eqb here.kind 6)
      (λ _. h)
      (λ _. length_table (λ i. mark_at n here i (get_or x.closed i 0)) most_subjects)

  marks_marking : marks_right n x ≡ true → marks_right n (marking n here x) ≡ true
  unfolding marking with_marks mark_at
  marks_marking h =
      choose
      (λ (y : Subject). marks_right n y ≡ true)
      (eqb here.kind 6)
      (λ _. h)
      (λ _. marks_by n (with_marks n here x) (λ i g l. table_at (λ j. mark_at n here j (get_or x.closed j 0)) most_subjects i 0 l
      ∙ rw (le-ltb i n g) (marks_read n x h i g l)))

stock_marking : (m : Model) (s : ℕ) (here : State) (x : Subject) → GoodStock m s x → GoodStock m s (marking m.n here x)
stock_marking m s here x g =
    record {
      marks = marks_marking m.n here x g.marks;
      well = rw (pool_marking m.n here x) g.well;
      entries = rw (pool_marking m.n here x) g.entries;
      rows = rw (pool_marking m.n here x) g.rows;
    }

pub run_exit_lem : (here : State) (x : Subject) → within 4 here.kind 6 ≡ true → (within 4 here.kind 5 ≡ true → here.exits ≡ 1)
    → (here.kind ≡ 6 → here.exits ≡ 2) → run_exit here x < here.exits
unfolding run_exit
run_exit_lem here x h mark ask = go (eqb here.kind 6) refl
  where
    go : (b : Bool) → eqb here.kind 6 ≡ b → run_exit here x < here.exits
    go true e =
        let two = ask (eqb-true here.kind 6 e) in
        choose (λ (n : ℕ). n < here.exits) (eqb here.kind 6 && _) (λ _. omega arith) (λ _. omega arith)
    go false e =
        let w = within_is 4 here.kind 6 h in
        let d = eqb-false here.kind 6 e in
        let low = w.low in
        let high = w.high in
        let one = mark (within_true low (omega arith)) in
        rw e (omega arith)

-- ---- entering a state

module _ (own : model_subject.Subject) (here : State) (t : ℕ) (x : Subject) where
  pub fields_enter : (end : Bool) → is_end here.kind ≡ end → x.mode ≡ running → t < own.states → GoodFields own here (entered t end x)
  unfolding entered
  fields_enter true e r l =
      let left = has_message (held x.pool) in
      let ended : (2 ≤ cond left ended_improperly ended_properly) × (cond left ended_improperly ended_properly ≤ 3) =
      choose (λ (n : ℕ). (2 ≤ n) × (n ≤ 3)) left (λ _. (omega arith, omega arith)) (λ _. (omega arith, omega arith)) in
      let low = ended.0 in
      record {
        mode = ended.1;
        state = l;
        runs = λ a. absurd (omega arith);
        proper = λ _. e;
        improper = λ _. e;
        initial = λ a. absurd (omega arith);
        word = λ a. absurd (omega arith);
        waited = λ _. refl;
        sender = λ d. absurd (d refl);
        sends = λ d. absurd (d refl);
        receivers = λ q _ a. not_both a (bit_zero q);
      }
  fields_enter false e r l =
      record {
        mode = omega arith;
        state = l;
        runs = λ _. e;
        proper = λ a. absurd (omega arith);
        improper = λ a. absurd (omega arith);
        initial = λ a. absurd (omega arith);
        word = λ a. absurd (omega arith);
        waited = λ _. refl;
        sender = λ d. absurd (d refl);
        sends = λ d. absurd (d refl);
        receivers = λ q _ a. not_both a (bit_zero q);
      }

-- who was running has ended improperly only where a message is left
message_enter : (t : ℕ) (end : Bool) (x : Subject) → x.mode ≡ running → (entered t end x).mode ≡ ended_improperly → has_message (held x.pool) ≡ true
unfolding entered
message_enter t true x r e = go (has_message (held x.pool)) refl e
  where
    go : (b : Bool) → has_message (held x.pool) ≡ b → cond b ended_improperly ended_properly ≡ ended_improperly → has_message (held x.pool) ≡ true
    go true h k = h
    go false h k = absurd (omega arith)
message_enter t false x r e = absurd (omega arith)

module _ (m : Model) (s t : ℕ) (x : Subject) where
  pub good_enter : GoodStock m s x → x.mode ≡ running → t < (subject_at m s).states → GoodSubject m s (entered t (is_end (state_of m s t).kind) x)
  unfolding entered
  good_enter g r l =
      let y = stock_same m s x (entered t (is_end (state_of m s t).kind) x) g refl refl in
      record {
        fields = fields_by (subject_at m s) (state_of m s t) (entered t (is_end (state_of m s t).kind) x) (fields_enter (subject_at m s) (state_of m s t) t x (is_end (state_of m s t).kind) refl r l);
        marks = y.marks;
        well = y.well;
        entries = y.entries;
        rows = y.rows;
        message = message_enter t (is_end (state_of m s t).kind) x r;
      }

module _ (t : ℕ) (end : Bool) (x : Subject) where
  pub mask_enter : (entered t end x).mask ≡ 0
  unfolding entered
  mask_enter = refl

  pub pool_enter : (entered t end x).pool ≡ x.pool
  unfolding entered
  pool_enter = refl

  pub held_enter : length x.closed ≡ most_subjects → length x.pool.entries ≡ most_entries → HeldSubject (entered t end x)
  unfolding entered
  held_enter a b = record { marks = a; entries = b; mask = pow_pos most_subjects }

-- ---- a running subject that is not in a send enters a state

-- who is not in a send has no place
pub idle_mask : (own : model_subject.Subject) (here : State) (x : Subject) → GoodFields own here x → is_send here.kind ≡ false → x.mask ≡ 0
idle_mask own here x g e = go (eqb x.mask 0) refl
  where
    go : (b : Bool) → eqb x.mask 0 ≡ b → x.mask ≡ 0
    go true h = eqb-true x.mask 0 h
    go false h = not_both (g.sends (eqb-false x.mask 0 h)) e

module _ (m : Model) (v : valid m ≡ true) (c : Config) (g : GoodConfig m c) (s : ℕ) (l : s < m.n) where
  pub fields_here : GoodFields (subject_at m s) (here_of m c s) (at c s)
  fields_here = fields_read (subject_at m s) (here_of m c s) (at c s) (g.subject s l).fields

  pub right_here : RightState m.n (subject_at m s).states (here_of m c s)
  right_here = state_right_lem m v s l (at c s).state fields_here.state

  pub stock_here : GoodStock m s (at c s)
  stock_here = good_stock m s (at c s) (g.subject s l)

module _ (m : Model) (v : valid m ≡ true) (c : Config) (k : Held c) (g : GoodConfig m c) (s : ℕ) (l : s < m.n)
    (here : State) (is : here ≡ here_of m c s) (runs : (at c s).mode ≡ running) where
  right : RightState m.n (subject_at m s).states here
  right = rw is (right_here m v c g s l)

  stock : GoodStock m s (at c s)
  stock = stock_here m v c g s l

  pub kept_enter : is_send here.kind ≡ false → (x : Subject) → GoodStock m s x → x.mode ≡ running
      → ((q t : ℕ) → reservations q t (held x.pool) ≡ reservations q t (held (at c s).pool))
      → (t : ℕ) → t < (subject_at m s).states → (end : Bool) → end ≡ is_end (state_of m s t).kind → GoodConfig m (put c s (entered t end x))
  kept_enter n x gx rx same t lt end e =
      let z = idle_mask (subject_at m s) (here_of m c s) (at c s) (fields_here m v c g s l) (rw (← is) n) in
      rw e (put_idle m v c k g s l (entered t (is_end (state_of m s t).kind) x) z (mask_enter t (is_end (state_of m s t).kind) x) (good_enter m s t x gx rx lt) (λ q u. rw (pool_enter t (is_end (state_of m s t).kind) x) (same q u)))

  -- ---- Do

  pub kept_do : here.kind ≡ 1 → (e w : ℕ) → e < here.exits → (end : Bool) → end ≡ is_end (state_of m s (exit_at here e).target).kind
      → GoodConfig m (doing here end c s e w)
  unfolding doing
  kept_do kind e w le end is-end =
      kept_enter
      (rw kind)
      (with_word w (at c s))
      (stock_same m s (at c s) (with_word w (at c s)) stock refl refl)
      runs
      (λ q t. refl)
      (exit_at here e).target
      (right.target e le)
      end
      is-end

  -- ---- Take

  -- what was taken out was a message: no reservation is gone
  taken_same : (e i : ℕ) → wanted_at here e (at c s) ≡ Some i → (q t : ℕ)
      → reservations q t (held (taken_at most_entries (at c s).pool i).pool) ≡ reservations q t (held (at c s).pool)
  unfolding first_message
  taken_same e i h q t =
      let f = find_is (is_message (exit_at here e).sender (exit_at here e).typ) (held (at c s).pool) blank_entry i h in
      ap (reservations q t) (held_taken most_entries (at c s).pool i)
      ∙ without_message q t (exit_at here e).sender (exit_at here e).typ i (held (at c s).pool) f.below f.here

  pub kept_take : here.kind ≡ 3 → (e i : ℕ) → e < here.exits → wanted_at here e (at c s) ≡ Some i → (end : Bool)
      → end ≡ is_end (state_of m s (exit_at here e).target).kind → GoodConfig m (taking_at (Some i) here end c s e)
  unfolding taking_at
  kept_take kind e i le h end is-end =
      kept_enter
      (rw kind)
      (with_word (taken_at most_entries (at c s).pool i).content (with_pool (taken_at most_entries (at c s).pool i).pool (at c s)))
      (stock_same m s (with_pool (taken_at most_entries (at c s).pool i).pool (at c s)) _ (stock_taken m s (at c s) i stock) refl refl)
      runs
      (taken_same e i h)
      (exit_at here e).target
      (right.target e le)
      end
      is-end

  -- ---- Run

  run_there : within 4 here.kind 6 ≡ true → run_exit here (at c s) < here.exits
  run_there h = run_exit_lem here (at c s) h right.mark right.ask

  pub kept_run : within 4 here.kind 6 ≡ true → (end : Bool) → end ≡ is_end (state_of m s (exit_at here (run_exit here (at c s))).target).kind
      → GoodConfig m (running_on m.n here end c s)
  unfolding running_on
  kept_run h end is-end =
      let w = within_is 4 here.kind 6 h in
      kept_enter
      (ne_eqb here.kind 2 (λ a. omega (arith, w.low)))
      (marking m.n here (at c s))
      (stock_marking m s here (at c s) stock)
      (mode_marking m.n here (at c s) ∙ runs)
      (λ q t. ap (λ (p : Pool). reservations q t (held p)) (pool_marking m.n here (at c s)))
      (exit_at here (run_exit here (at c s))).target
      (right.target (run_exit here (at c s)) (run_there h))
      end
      is-end

-- ---- Tick

pub ticked_cases : (P : Subject → Type 0) (x : Subject) → (x.mode ≡ running → (w : ℕ) → P (with_waited w x)) → P x → P (ticked x)
unfolding ticked
ticked_cases P x f h = choose P (eqb x.mode running) (λ e. f (eqb-true x.mode running e) (min (x.waited + 1) 65535)) (λ _. h)

-- each subject is changed, none in its state, mask or pool
module _ (m : Model) (v : valid m ≡ true) (c : Config) (g : GoodConfig m c) (f : ℕ → Subject → Subject) where
  pub each_idle : ((r : ℕ) (x : Subject) → (f r x).state ≡ x.state) → ((r : ℕ) (x : Subject) → (f r x).mask ≡ x.mask)
      → ((r : ℕ) (x : Subject) → (f r x).pool ≡ x.pool) → ((r : ℕ) → r < m.n → GoodSubject m r (at c r) → GoodSubject m r (f r (at c r)))
      → ((r : ℕ) → f r nobody ≡ nobody) → GoodConfig m (each_subject f c)
  each_idle states masks pools subjects gone =
      record {
        subject = λ r l. rw (at_each f c r (subject_there m v r l)) (subjects r l (g.subject r l));
        absent = λ r h l. at_each f c r l ∙ ap (f r) (g.absent r h l) ∙ gone r;
        one = λ r q lr lq. rw (at_each f c r (subject_there m v r lr), at_each f c q (subject_there m v q lq), pools r (at c r), masks q (at c q)) (g.one r q lr lq);
        typed = λ r q lr lq. rw (at_each f c r (subject_there m v r lr), at_each f c q (subject_there m v q lq), pools r (at c r), masks q (at c q), states q (at c q)) (g.typed r q lr lq);
      }

module _ (x : Subject) where
  tick_state : (ticked x).state ≡ x.state
  tick_state = ticked_cases (λ y. y.state ≡ x.state) x (λ _ _. refl) refl

  tick_mask : (ticked x).mask ≡ x.mask
  tick_mask = ticked_cases (λ y. y.mask ≡ x.mask) x (λ _ _. refl) refl

  tick_pool : (ticked x).pool ≡ x.pool
  tick_pool = ticked_cases (λ y. y.pool ≡ x.pool) x (λ _ _. refl) refl

  tick_mode : (ticked x).mode ≡ x.mode
  tick_mode = ticked_cases (λ y. y.mode ≡ x.mode) x (λ _ _. refl) refl

  tick_closed : (ticked x).closed ≡ x.closed
  tick_closed = ticked_cases (λ y. y.closed ≡ x.closed) x (λ _ _. refl) refl

  tick_fields : (own : model_subject.Subject) (here : State) → GoodFields own here x → GoodFields own here (ticked x)
  tick_fields own here g =
      ticked_cases (GoodFields own here) x (λ e w. record {
        mode = g.mode;
        state = g.state;
        runs = g.runs;
        proper = g.proper;
        improper = g.improper;
        initial = g.initial;
        word = g.word;
        waited = λ d. absurd (d e);
        sender = g.sender;
        sends = g.sends;
        receivers = g.receivers;
      }) g

tick_good : (m : Model) (s : ℕ) (x : Subject) → GoodSubject m s x → GoodSubject m s (ticked x)
tick_good m s x g =
    let y = stock_same m s x (ticked x) (good_stock m s x g) (tick_closed x) (tick_pool x) in
    record {
      fields =
          ap (λ (t : ℕ). fields_right (subject_at m s) (state_of m s t) (ticked x)) (tick_state x)
          ∙ fields_by
          (subject_at m s)
          (state_of m s x.state)
          (ticked x)
          (tick_fields x (subject_at m s) (state_of m s x.state) (fields_read (subject_at m s) (state_of m s x.state) x g.fields));
      marks = y.marks;
      well = y.well;
      entries = y.entries;
      rows = y.rows;
      message = λ e. rw (tick_pool x) (g.message (sym (tick_mode x) ∙ e));
    }

tick_nobody : ticked nobody ≡ nobody
unfolding ticked nobody
tick_nobody = refl

pub kept_tick : (m : Model) → valid m ≡ true → (c : Config) → GoodConfig m c → GoodConfig m (ticking c)
unfolding ticking
kept_tick m v c g =
    each_idle m v c g (λ r x. ticked x) (λ r. tick_state) (λ r. tick_mask) (λ r. tick_pool) (λ r l h. tick_good m r (at c r) h) (λ r. tick_nobody)

-- ---- what the machine can hold

module _ (c : Config) (k : Held c) where
  pub held_tick : Held (ticking c)
  unfolding ticking
  held_tick = held_each (λ r x. ticked x) c (λ r l. go (at c r) (held_at c k r l))
    where
      go : (x : Subject) → HeldSubject x → HeldSubject (ticked x)
      go x h =
          record {
            marks = rw (tick_closed x) h.marks;
            entries = rw (tick_pool x) h.entries;
            mask = rw (tick_mask x) h.mask;
          }

  module _ (s : ℕ) (l : s < most_subjects) (here : State) (end : Bool) where
    pub held_do : (e w : ℕ) → Held (doing here end c s e w)
    unfolding doing
    held_do e w =
        let h = held_at c k s l in
        held_put
        c
        s
        (entered (exit_at here e).target end (with_word w (at c s)))
        l
        k
        (held_enter (exit_at here e).target end (with_word w (at c s)) h.marks h.entries)

    pub held_take : Well most_entries (at c s).pool → (e i : ℕ) → Held (taking_at (Some i) here end c s e)
    unfolding taking_at
    held_take w e i =
        let x = with_word (taken_at most_entries (at c s).pool i).content (with_pool (taken_at most_entries (at c s).pool i).pool (at c s)) in
        held_put
        c
        s
        (entered (exit_at here e).target end x)
        l
        k
        (held_enter (exit_at here e).target end x (held_at c k s l).marks (well_full most_entries (taken_at most_entries (at c s).pool i).pool (well_taken most_entries (at c s).pool i w)))

    pub held_run : (n : ℕ) → Held (running_on n here end c s)
    unfolding running_on
    held_run n =
        let h = held_at c k s l in
        let x = marking n here (at c s) in
        held_put
        c
        s
        (entered (exit_at here (run_exit here (at c s))).target end x)
        l
        k
        (held_enter (exit_at here (run_exit here (at c s))).target end x (closed_marking n here (at c s) h.marks) (rw (pool_marking n here (at c s)) h.entries))
