-- Laws of configurations: looking up what was put, what validity tells and what makes it, and the fresh start.
use mathlib.Core.Path.{◌≡◌, refl, sym, ap, ◌∙◌}
use mathlib.Core.Logic.{◌≢◌, ◌⊎◌, inl, inr, ⊎_elim}
use mathlib.Core.Bool.{Bool, true, false, ◌&&◌, ◌||◌, not, cond}
use mathlib.Core.List.{[]}
use Prim.Native.Nat.{ℕ, ◌+◌, ◌^◌, ◌≤◌, ◌<◌}
use native.Mathlib.Omega.{arith}
use borrow.Author.Tests.{lt-ltb, le-ltb, le-leb, eq-eqb, ne_eqb, ltb-true, ltb-false, leb-true, eqb-true, eqb-false, not-true}
use lib.Dec.{eqb, ltb}
use lib.ListN.{length, get_or, replicate, length-set, length-replicate, get_or-replicate}
use lib.Pow.{pow_pos}
use lib.Seq.{ext_get_or, get_or-set_same, get_or-set_other}
use Rattle.sets.specs.Below.{all_below}
use Rattle.sets.specs.Lists.{all_of, counted}
use Rattle.sets.specs.Masks.{bit, others}
use Rattle.sets.proofs.Tests.{not_both, and_true, and_both, or_other, choose}
use Rattle.sets.proofs.Below.{all_each, all_by, length_table, table_at}
use Rattle.sets.proofs.Masks.{bit_zero, none_other, other_none}
use Rattle.model.specs.Rules.{any}
use Rattle.model.specs.Sizes.{most_subjects, most_rows}
use Rattle.model.specs.Valid.{subject_at, row_at, valid}
use Rattle.model.specs.declared.Model.{Model}
use Rattle.model.specs.declared.State.{State}
use Rattle.model.specs.declared.Subject as model_subject
use Rattle.engine.specs.pools.Sizes.{most_entries}
use Rattle.engine.specs.pools.Pools.{held, has_message, reservations}
use Rattle.engine.specs.pools.Rows.{rows_kept, row_kept, row_count}
use Rattle.engine.specs.pools.Valid.{entry_valid, pool_valid, is_blank_pool}
use Rattle.engine.specs.declared.Pool.{Pool}
use Rattle.engine.proofs.pools.PoolLaws.{held_pooled, pooled_places, well_pooled, pooled_held, well_short, well_of, entries_valid, rows_kept_lem, valid_by, blank_is, blank_pooled}
use Rattle.engine.specs.configs.Fresh.{starting, fresh_subject, fresh_config}
use Rattle.engine.specs.configs.Subjects.{asleep, running, ended_properly, ended_improperly, is_send, is_end, no_one, at, state_of, here_of, put, each_subject, nobody, Held}
use Rattle.engine.specs.configs.Valid.{mode_right, pool_right, marks_right, state_there, end_right, sleep_right, wait_right, mask_right, improper_right, fields_right, subject_valid, is_nobody, subject_right, type_of, place_right, places_right, config_valid}
use Rattle.engine.specs.declared.Config.{Config}
use Rattle.engine.specs.declared.Subject.{Subject}
use Rattle.engine.proofs.configs.Good.{GoodSubject, GoodConfig}
use Rattle.engine.proofs.configs.ModelFacts.{subject_there, initial_there_lem, initial_runs}

-- ---- looking up what was put

pub at_put_same : (c : Config) (s : ℕ) (x : Subject) → s < length c.subjects → at (put c s x) s ≡ x
at_put_same c s x l = get_or-set_same c.subjects s x no_one l

pub at_put_other : (c : Config) (s : ℕ) (x : Subject) (r : ℕ) → r ≢ s → at (put c s x) r ≡ at c r
at_put_other c s x r d = get_or-set_other c.subjects s r x no_one d

pub at_each : (f : ℕ → Subject → Subject) (c : Config) (r : ℕ) → r < most_subjects → at (each_subject f c) r ≡ f r (at c r)
unfolding each_subject
at_each f c r l = table_at (λ k. f k (at c k)) most_subjects r no_one l

-- of every subject: the one that was put, and the others as they were
pub each_put : (P : ℕ → Subject → Type 0) (c : Config) (s : ℕ) (x : Subject) → s < length c.subjects → P s x → (r : ℕ) → (r ≢ s → P r (at c r))
    → P r (at (put c s x) r)
each_put P c s x l h r k = go (eqb r s) refl
  where
    go : (b : Bool) → eqb r s ≡ b → P r (at (put c s x) r)
    go true e = rw (eqb-true r s e, at_put_same c s x l) h
    go false e = rw (at_put_other c s x r (eqb-false r s e)) (k (eqb-false r s e))

-- ---- what the machine can hold

pub record HeldSubject (x : Subject) : Type 0 where
  pub marks : length x.closed ≡ most_subjects
  pub entries : length x.pool.entries ≡ most_entries
  pub mask : x.mask < 2 ^ most_subjects

pub held_at : (c : Config) → Held c → (s : ℕ) → s < most_subjects → HeldSubject (at c s)
held_at c h s l = record { marks = h.marks s l; entries = h.entries s l; mask = h.masks s l }

pub held_by : (c : Config) → length c.subjects ≡ most_subjects → ((s : ℕ) → s < most_subjects → HeldSubject (at c s)) → Held c
held_by c h f = record { subjects = h; marks = λ s l. (f s l).marks; entries = λ s l. (f s l).entries; masks = λ s l. (f s l).mask }

pub held_put : (c : Config) (s : ℕ) (x : Subject) → s < most_subjects → Held c → HeldSubject x → Held (put c s x)
held_put c s x l h k =
    held_by
    (put c s x)
    (length-set c.subjects s x ∙ h.subjects)
    (λ r j. each_put (λ _ y. HeldSubject y) c s x (omega (arith, h.subjects)) k r (λ _. held_at c h r j))

pub held_each : (f : ℕ → Subject → Subject) (c : Config) → ((r : ℕ) → r < most_subjects → HeldSubject (f r (at c r))) → Held (each_subject f c)
unfolding each_subject
held_each f c k =
    held_by
    (each_subject f c)
    (length_table (λ r. f r (at c r)) most_subjects)
    (λ r l. rw (at_each f c r l) (k r l))

-- ---- tests that are implications

-- what is implied by what holds, holds
pub if_true : (a b : Bool) → (not a || b) ≡ true → a ≡ true → b ≡ true
if_true true b h e = h
if_true false b h e = not_both e refl

-- an implication holds where the one follows from the other
pub true_if : (a b : Bool) → (a ≡ true → b ≡ true) → (not a || b) ≡ true
true_if true b f = f refl
true_if false b f = refl

true_or : (a b : Bool) → (a ≡ false → b ≡ true) → (a || b) ≡ true
true_or true b f = refl
true_or false b f = f refl

either_or : (a b : Bool) → (a || b) ≡ true → (a ≡ true) ⊎ (b ≡ true)
either_or true b h = inl refl
either_or false b h = inr h

-- ---- the fields of a subject

pub record GoodFields (own : model_subject.Subject) (here : State) (x : Subject) : Type 0 where
  pub mode : x.mode ≤ 3
  pub state : x.state < own.states
  pub runs : x.mode ≡ running → is_end here.kind ≡ false
  pub proper : x.mode ≡ ended_properly → is_end here.kind ≡ true
  pub improper : x.mode ≡ ended_improperly → is_end here.kind ≡ true
  pub initial : x.mode ≡ asleep → x.state ≡ own.initial
  pub word : x.mode ≡ asleep → x.word ≡ 0
  pub waited : x.mode ≢ running → x.waited ≡ 0
  pub sender : x.mask ≢ 0 → x.mode ≡ running
  pub sends : x.mask ≢ 0 → is_send here.kind ≡ true
  pub receivers : (r : ℕ) → r < most_subjects → bit x.mask r ≡ true → bit here.receivers r ≡ true

module _ (own : model_subject.Subject) (here : State) (x : Subject) where
  pub fields_read : fields_right own here x ≡ true → GoodFields own here x
  unfolding fields_right
  fields_read h =
      let a = and_both ((mode_right x && state_there own x) && (end_right here x && sleep_right own x)) (wait_right x && mask_right here x) h in
      let b = and_both (mode_right x && state_there own x) (end_right here x && sleep_right own x) a.left in
      let p = and_both (mode_right x) (state_there own x) b.left in
      let q = and_both (end_right here x) (sleep_right own x) b.right in
      let w = and_both (wait_right x) (mask_right here x) a.right in
      let e =
      and_both
      (not (eqb x.mode running) || not (is_end here.kind))
      (not (eqb x.mode ended_properly || eqb x.mode ended_improperly) || is_end here.kind)
      q.left in
      let m =
      and_both
      (eqb x.mask 0 || (eqb x.mode running && is_send here.kind))
      (eqb (length (others most_subjects x.mask here.receivers)) 0)
      w.right in
      let sleeps = if_true (eqb x.mode asleep) (eqb x.state own.initial && eqb x.word 0) q.right in
      let sending : x.mask ≢ 0 → (eqb x.mode running && is_send here.kind) ≡ true =
      λ d. or_other (eqb x.mask 0) (eqb x.mode running && is_send here.kind) m.left (ne_eqb x.mask 0 d) in
      let ended : (eqb x.mode ended_properly || eqb x.mode ended_improperly) ≡ true → is_end here.kind ≡ true =
      if_true (eqb x.mode ended_properly || eqb x.mode ended_improperly) (is_end here.kind) e.right in
      record {
        mode = leb-true x.mode 3 p.left;
        state = ltb-true x.state own.states p.right;
        runs = λ k. not-true (is_end here.kind) (if_true (eqb x.mode running) (not (is_end here.kind)) e.left (eq-eqb x.mode running k));
        proper = λ k. ended (rw k);
        improper = λ k. ended (rw k);
        initial = λ k. eqb-true x.state own.initial (and_both (eqb x.state own.initial) (eqb x.word 0) (sleeps (eq-eqb x.mode asleep k))).left;
        word = λ k. eqb-true x.word 0 (and_both (eqb x.state own.initial) (eqb x.word 0) (sleeps (eq-eqb x.mode asleep k))).right;
        waited = λ k. eqb-true x.waited 0 (or_other (eqb x.mode running) (eqb x.waited 0) w.left (ne_eqb x.mode running k));
        sender = λ d. eqb-true x.mode running (and_both (eqb x.mode running) (is_send here.kind) (sending d)).left;
        sends = λ d. (and_both (eqb x.mode running) (is_send here.kind) (sending d)).right;
        receivers = none_other most_subjects x.mask here.receivers (eqb-true _ 0 m.right);
      }

  pub fields_by : GoodFields own here x → fields_right own here x ≡ true
  unfolding fields_right
  fields_by g =
      and_true
      (and_true
      (and_true (le-leb x.mode 3 g.mode) (lt-ltb x.state own.states g.state))
      (and_true
      (and_true
      (true_if (eqb x.mode running) (not (is_end here.kind)) (λ e. ap not (g.runs (eqb-true x.mode running e))))
      (true_if (eqb x.mode ended_properly || eqb x.mode ended_improperly) (is_end here.kind) (λ e. ⊎_elim
      (λ (k : eqb x.mode ended_properly ≡ true). g.proper (eqb-true x.mode ended_properly k))
      (λ (k : eqb x.mode ended_improperly ≡ true). g.improper (eqb-true x.mode ended_improperly k))
      (either_or (eqb x.mode ended_properly) (eqb x.mode ended_improperly) e))))
      (true_if (eqb x.mode asleep) (eqb x.state own.initial && eqb x.word 0) (λ e. and_true
      (eq-eqb x.state own.initial (g.initial (eqb-true x.mode asleep e)))
      (eq-eqb x.word 0 (g.word (eqb-true x.mode asleep e)))))))
      (and_true
      (true_or (eqb x.mode running) (eqb x.waited 0) (λ e. eq-eqb x.waited 0 (g.waited (eqb-false x.mode running e))))
      (and_true
      (true_or (eqb x.mask 0) (eqb x.mode running && is_send here.kind) (λ e. and_true
      (eq-eqb x.mode running (g.sender (eqb-false x.mask 0 e)))
      (g.sends (eqb-false x.mask 0 e))))
      (eq-eqb _ 0 (other_none most_subjects x.mask here.receivers g.receivers))))

-- ---- the marks

pub marks_read : (n : ℕ) (x : Subject) → marks_right n x ≡ true → (i : ℕ) → n ≤ i → i < most_subjects → get_or x.closed i 0 ≡ 0
unfolding marks_right
marks_read n x h i g l =
    eqb-true
    (get_or x.closed i 0)
    0
    (or_other (ltb i n) (eqb (get_or x.closed i 0) 0) (all_each (λ k. ltb k n || eqb (get_or x.closed k 0) 0) most_subjects h i l) (le-ltb i n g))

pub marks_by : (n : ℕ) (x : Subject) → ((i : ℕ) → n ≤ i → i < most_subjects → get_or x.closed i 0 ≡ 0) → marks_right n x ≡ true
unfolding marks_right
marks_by n x f =
    all_by
    (λ k. ltb k n || eqb (get_or x.closed k 0) 0)
    most_subjects
    (λ i l. true_or (ltb i n) (eqb (get_or x.closed i 0) 0) (λ e. eq-eqb (get_or x.closed i 0) 0 (f i (ltb-false i n e) l)))

-- ---- a subject that is not there

pub nobody_is : (x : Subject) → HeldSubject x → is_nobody x ≡ true → x ≡ nobody
unfolding is_nobody nobody
nobody_is x g h =
    let a =
    and_both
    ((eqb x.mode 0 && eqb x.state 0) && (eqb x.waited 0 && eqb x.word 0))
    (eqb x.mask 0 && (marks_right 0 x && is_blank_pool most_entries x.pool))
    h in
    let b = and_both (eqb x.mode 0 && eqb x.state 0) (eqb x.waited 0 && eqb x.word 0) a.left in
    let p = and_both (eqb x.mode 0) (eqb x.state 0) b.left in
    let q = and_both (eqb x.waited 0) (eqb x.word 0) b.right in
    let r = and_both (eqb x.mask 0) (marks_right 0 x && is_blank_pool most_entries x.pool) a.right in
    let t = and_both (marks_right 0 x) (is_blank_pool most_entries x.pool) r.right in
    let mode = eqb-true x.mode 0 p.left in
    let state = eqb-true x.state 0 p.right in
    let waited = eqb-true x.waited 0 q.left in
    let word = eqb-true x.word 0 q.right in
    let mask = eqb-true x.mask 0 r.left in
    let closed : x.closed ≡ replicate most_subjects 0 =
    ext_get_or 0 x.closed (replicate most_subjects 0) g.marks (λ i l. marks_read 0 x t.left i (omega arith) (omega (arith, g.marks))
    ∙ sym (get_or-replicate most_subjects i 0 0 (omega (arith, g.marks)))) in
    let pool = blank_is most_entries x.pool g.entries t.right in
    λ i. record { mode = mode i; state = state i; waited = waited i; word = word i; mask = mask i; closed = closed i; pool = pool i }

pub is_nobody_lem : is_nobody nobody ≡ true
unfolding is_nobody nobody
is_nobody_lem = and_true refl (and_true refl (and_true (marks_by 0 nobody (λ i g l. get_or-replicate most_subjects i 0 0 l)) (blank_pooled most_entries)))

-- ---- a subject that is there

module _ (m : Model) (s : ℕ) (x : Subject) where
  pub subject_good : HeldSubject x → subject_valid m.n (subject_at m s) (state_of m s x.state) x ≡ true → GoodSubject m s x
  unfolding subject_valid
  subject_good g h =
      let a = and_both (fields_right (subject_at m s) (state_of m s x.state) x) (marks_right m.n x && (pool_right m.n (subject_at m s) x && improper_right x)) h in
      let b = and_both (marks_right m.n x) (pool_right m.n (subject_at m s) x && improper_right x) a.right in
      let p = and_both (pool_right m.n (subject_at m s) x) (improper_right x) b.right in
      record {
        fields = a.left;
        marks = b.left;
        well = well_of most_entries m.n (subject_at m s) x.pool g.entries p.left;
        entries = entries_valid most_entries m.n (subject_at m s) x.pool g.entries p.left;
        rows = rows_kept_lem most_entries m.n (subject_at m s) x.pool p.left;
        message = λ e. if_true (eqb x.mode ended_improperly) (has_message (held x.pool)) p.right (eq-eqb x.mode ended_improperly e);
      }

  pub good_subject : GoodSubject m s x → subject_valid m.n (subject_at m s) (state_of m s x.state) x ≡ true
  unfolding subject_valid
  good_subject g =
      and_true
      g.fields
      (and_true
      g.marks
      (and_true
      (ap (pool_valid most_entries m.n (subject_at m s)) (sym (pooled_held most_entries x.pool g.well))
      ∙ valid_by most_entries m.n (subject_at m s) (held x.pool) (well_short most_entries x.pool g.well) g.entries g.rows)
      (true_if (eqb x.mode ended_improperly) (has_message (held x.pool)) (λ e. g.message (eqb-true x.mode ended_improperly e)))))

-- ---- all of it

module _ (s mask typ r : ℕ) (p : Pool) where
  place_read : place_right s mask typ r p ≡ true
      → (reservations s any (held p) ≡ cond (bit mask r) 1 0) × (reservations s typ (held p) ≡ cond (bit mask r) 1 0)
  unfolding place_right
  place_read h =
      let b = and_both (eqb (reservations s any (held p)) (cond (bit mask r) 1 0)) (eqb (reservations s typ (held p)) (cond (bit mask r) 1 0)) h in
      (eqb-true _ _ b.left, eqb-true _ _ b.right)

  place_by : reservations s any (held p) ≡ cond (bit mask r) 1 0 → reservations s typ (held p) ≡ cond (bit mask r) 1 0 → place_right s mask typ r p ≡ true
  unfolding place_right
  place_by a b = and_true (eq-eqb _ _ a) (eq-eqb _ _ b)

module _ (m : Model) (c : Config) (v : valid m ≡ true) (k : Held c) where
  pub config_good : config_valid m c ≡ true → GoodConfig m c
  unfolding config_valid subject_right places_right
  config_good h =
      let a = and_both (all_below (subject_right m c) most_subjects) (places_right m c) h in
      let each : (s : ℕ) → s < most_subjects → subject_right m c s ≡ true = all_each (subject_right m c) most_subjects a.left in
      let place : ℕ → ℕ → Bool = λ r s. place_right s (at c s).mask (type_of (here_of m c s)) r (at c r).pool in
      let places : (r s : ℕ) → r < m.n → s < m.n → place_right s (at c s).mask (type_of (here_of m c s)) r (at c r).pool ≡ true =
      λ r s lr ls. all_each (place r) m.n (all_each (λ i. all_below (place i) m.n) m.n a.right r lr) s ls in
      record {
        subject = λ s l. subject_good m s (at c s) (held_at c k s (subject_there m v s l)) (rw (lt-ltb s m.n l) at (each s (subject_there m v s l)));
        absent = λ s g l. nobody_is (at c s) (held_at c k s l) (rw (le-ltb s m.n g) at (each s l));
        one = λ r s lr ls. (place_read s (at c s).mask (type_of (here_of m c s)) r (at c r).pool (places r s lr ls)).0;
        typed = λ r s lr ls. (place_read s (at c s).mask (type_of (here_of m c s)) r (at c r).pool (places r s lr ls)).1;
      }

  pub good_config : GoodConfig m c → config_valid m c ≡ true
  unfolding config_valid subject_right places_right
  good_config g =
      and_true
      (all_by (subject_right m c) most_subjects (λ s l. choose
      (λ (b : Bool). b ≡ true)
      (ltb s m.n)
      (λ e. good_subject m s (at c s) (g.subject s (ltb-true s m.n e)))
      (λ e. ap is_nobody (g.absent s (ltb-false s m.n e) l) ∙ is_nobody_lem)))
      (all_by (λ r. all_below (place r) m.n) m.n (λ r lr. all_by (place r) m.n (λ s ls. place_by s (at c s).mask (type_of (here_of m c s)) r (at c r).pool (g.one r s lr ls) (g.typed r s lr ls))))
    where
      place : ℕ → ℕ → Bool
      place r s = place_right s (at c s).mask (type_of (here_of m c s)) r (at c r).pool

-- ---- the fresh start

rows_empty : (own : model_subject.Subject) → rows_kept own [] ≡ true
unfolding rows_kept row_kept row_count counted
rows_empty own =
    all_by
    (λ k. not (ltb k own.rows) || row_kept [] (row_at own k))
    most_rows
    (λ k l. true_if (ltb k own.rows) (row_kept [] (row_at own k)) (λ e. le-leb 0 (row_at own k).limit (omega arith)))

none_empty : (s t : ℕ) → reservations s t [] ≡ 0
unfolding reservations counted
none_empty s t = refl

all_empty : (n : ℕ) → all_of (entry_valid n) [] ≡ true
unfolding all_of
all_empty n = refl

-- subject s, asleep or running in its initial state
module _ (mode initial : ℕ) where
  start_held : HeldSubject (starting mode initial)
  unfolding starting
  start_held = record { marks = length-replicate {A = ℕ} most_subjects 0; entries = pooled_places most_entries [] (omega arith); mask = pow_pos most_subjects }

  start_none : held (starting mode initial).pool ≡ []
  unfolding starting
  start_none = held_pooled most_entries []

  start_mask : (starting mode initial).mask ≡ 0
  unfolding starting
  start_mask = refl

nobody_held : HeldSubject nobody
unfolding nobody
nobody_held = record { marks = length-replicate {A = ℕ} most_subjects 0; entries = pooled_places most_entries [] (omega arith); mask = pow_pos most_subjects }

start_good : (m : Model) → valid m ≡ true → (s : ℕ) → s < m.n → (mode : ℕ) → (mode ≡ running) ⊎ (mode ≡ asleep)
    → GoodSubject m s (starting mode (subject_at m s).initial)
unfolding starting
start_good m v s l mode h =
    record {
      fields =
          fields_by (subject_at m s) (state_of m s (subject_at m s).initial) (starting mode (subject_at m s).initial) (record {
            mode = few h;
            state = initial_there_lem m v s l;
            runs = λ _. initial_runs m v s l;
            proper = λ e. absurd (other 0 h e);
            improper = λ e. absurd (other 1 h e);
            initial = λ _. refl;
            word = λ _. refl;
            waited = λ _. refl;
            sender = λ d. absurd (d refl);
            sends = λ d. absurd (d refl);
            receivers = λ r _ e. not_both e (bit_zero r);
          });
      marks = marks_by m.n (starting mode (subject_at m s).initial) (λ i g k. get_or-replicate most_subjects i 0 0 k);
      well = well_pooled most_entries [] (omega arith);
      entries = ap (all_of (entry_valid m.n)) (held_pooled most_entries []) ∙ all_empty m.n;
      rows = ap (rows_kept (subject_at m s)) (held_pooled most_entries []) ∙ rows_empty (subject_at m s);
      message = λ e. absurd (other 1 h e);
    }
  where
    few : (mode ≡ running) ⊎ (mode ≡ asleep) → mode ≤ 3
    few (inl e) = omega arith
    few (inr e) = omega arith

    other : (k : ℕ) → (mode ≡ running) ⊎ (mode ≡ asleep) → mode ≡ 2 + k → ⊥
    other k (inl a) e = omega arith
    other k (inr a) e = omega arith

module _ (m : Model) where
  fresh_at : (s : ℕ) → s < most_subjects → at (fresh_config m) s ≡ fresh_subject m s
  unfolding fresh_config
  fresh_at s l = table_at (fresh_subject m) most_subjects s no_one l

  pub fresh_held : Held (fresh_config m)
  unfolding fresh_config fresh_subject
  fresh_held =
      held_by
      (fresh_config m)
      (length_table (fresh_subject m) most_subjects)
      (λ s l. rw (fresh_at s l) (choose HeldSubject (ltb s m.n) (λ _. start_held (cond (bit m.start s) running asleep) (subject_at m s).initial) (λ _. nobody_held)))

  -- how subject s starts
  pub fresh_there : (s : ℕ) → s < most_subjects → s < m.n → at (fresh_config m) s ≡ starting (cond (bit m.start s) running asleep) (subject_at m s).initial
  unfolding fresh_subject
  fresh_there s k l = fresh_at s k ∙ rw (lt-ltb s m.n l)

  pub fresh_gone : (s : ℕ) → s < most_subjects → m.n ≤ s → at (fresh_config m) s ≡ nobody
  unfolding fresh_subject
  fresh_gone s k g = fresh_at s k ∙ rw (le-ltb s m.n g)

  module _ (v : valid m ≡ true) where
    fresh_none : (r q t : ℕ) → r < m.n → reservations q t (held (at (fresh_config m) r).pool) ≡ 0
    fresh_none r q t l =
        rw (fresh_there r (subject_there m v r l) l, start_none (cond (bit m.start r) running asleep) (subject_at m r).initial)
        (none_empty q t)

    fresh_mask : (r s : ℕ) → s < m.n → ◌≡◌ {A = ℕ} (cond (bit (at (fresh_config m) s).mask r) 1 0) 0
    fresh_mask r s l =
        rw (fresh_there s (subject_there m v s l) l, start_mask (cond (bit m.start s) running asleep) (subject_at m s).initial, bit_zero r)

    pub fresh_good : GoodConfig m (fresh_config m)
    fresh_good =
        record {
          subject = λ s l. rw (fresh_there s (subject_there m v s l) l) (start_good m v s l (cond (bit m.start s) running asleep) (which (bit m.start s)));
          absent = λ s g l. fresh_gone s l g;
          one = λ r s lr ls. fresh_none r s any lr ∙ sym (fresh_mask r s ls);
          typed = λ r s lr ls. fresh_none r s (type_of (here_of m (fresh_config m) s)) lr ∙ sym (fresh_mask r s ls);
        }
      where
        which : (b : Bool) → (cond b running asleep ≡ running) ⊎ (cond b running asleep ≡ asleep)
        which true = inl refl
        which false = inr refl

    pub fresh_valid : config_valid m (fresh_config m) ≡ true
    fresh_valid = good_config m (fresh_config m) v fresh_held fresh_good
