-- What the steps need of a valid model: of subject s, and of its state t.
use mathlib.Core.Path.{◌≡◌, refl}
use mathlib.Core.Logic.{◌⊎◌, inl, inr}
use mathlib.Core.Bool.{Bool, true, false, ◌&&◌, ◌||◌, not}
use Prim.Native.Nat.{ℕ, ◌+◌, ◌*◌, ◌/◌, ◌%◌, ◌≤◌, ◌<◌}
use native.Mathlib.Omega.{arith}
use borrow.Author.Tests.{lt-ltb, ltb-true, eqb-true, ne_eqb, not-true}
use lib.Dec.{eqb, leb, ltb}
use Rattle.sets.specs.Below.{all_below}
use Rattle.sets.specs.Masks.{bit}
use Rattle.sets.specs.Tests.{within, same, none_from}
use Rattle.sets.proofs.Tests.{Both, and_both, within_is}
use Rattle.sets.proofs.Below.{all_each}
use Rattle.sets.proofs.Masks.{none_bits}
use Rattle.model.specs.Records.{with_exits}
use Rattle.model.specs.Rules.{any, none, is_type, shape_of, names_fit, state_fits, exit_fits, there_or_any, there_or_none, state_reaches, exit_reaches}
use Rattle.model.specs.Sizes.{most_subjects, most_states, state_places, most_exits, types}
use Rattle.model.specs.Valid.{subject_at, exit_at, exit_valid, row_valid, state_own, state_valid, subject_own, subject_valid, subject_right, state_right, start_right, exits_in_all, no_more_exits, valid}
use Rattle.model.specs.declared.Model.{Model}
use Rattle.model.specs.declared.State.{State}
use Rattle.model.specs.declared.Subject.{Subject}
use Rattle.model_promises.proofs.Facts.{model_good}
use Rattle.engine.specs.configs.Subjects.{is_end, state_of}

-- a state of a subject with `states` states, in a model of n subjects
pub record RightState (n states : ℕ) (st : State) : Type 0 where
  pub target : (x : ℕ) → x < st.exits → (exit_at st x).target < states
  pub timeout : (st.timeout ≡ none) ⊎ (st.timeout < states)
  pub cancel : (st.cancel ≡ none) ⊎ (st.cancel < states)
  pub receivers : (r : ℕ) → n ≤ r → bit st.receivers r ≡ false
  pub send : st.kind ≡ 2 → st.exits ≡ 1
  pub sends : st.kind ≡ 2 → (exit_at st 0).typ < types
  pub mark : within 4 st.kind 5 ≡ true → st.exits ≡ 1
  pub ask : st.kind ≡ 6 → st.exits ≡ 2

pub n_high : (m : Model) → valid m ≡ true → m.n ≤ most_subjects
n_high m h = (model_good m h).high

pub n_low : (m : Model) → valid m ≡ true → 1 ≤ m.n
n_low m h = (model_good m h).low

-- every subject and every state is right
record Tested (m : Model) : Type 0 where
  subjects : (s : ℕ) → s < most_subjects → subject_right m s ≡ true
  states : (p : ℕ) → p < state_places → state_right m p ≡ true

tested : (m : Model) → valid m ≡ true → Tested m
unfolding valid
tested m h =
    let all = (within 1 m.n 16 && start_right m.n m.start) && all_below (subject_right m) 16 && all_below (state_right m) 512 in
    let e = and_both all (leb (exits_in_all m) 1024) (and_both (all && leb (exits_in_all m) 1024) (no_more_exits m) h).left in
    let t = and_both ((within 1 m.n 16 && start_right m.n m.start) && all_below (subject_right m) 16) (all_below (state_right m) 512) e.left in
    let b = and_both (within 1 m.n 16 && start_right m.n m.start) (all_below (subject_right m) 16) t.left in
    record { subjects = all_each (subject_right m) 16 b.right; states = all_each (state_right m) 512 t.right }

-- ---- a state

there_or : (n x : ℕ) → there_or_none n x ≡ true → (x ≡ none) ⊎ (x < n)
there_or n x h = go (ltb x n) refl h
  where
    go : (b : Bool) → ltb x n ≡ b → (b || eqb x none) ≡ true → (x ≡ none) ⊎ (x < n)
    go true e k = inr (ltb-true x n e)
    go false e k = inl (eqb-true x none k)

-- the exits of each kind
module _ (st : State) (h : state_fits st ≡ true) where
  exits_fit : within (shape_of st.kind).least st.exits (shape_of st.kind).most ≡ true
  unfolding state_fits
  exits_fit =
      let w = within (shape_of st.kind).least st.exits (shape_of st.kind).most in
      let n = names_fit (shape_of st.kind).filters st.sender st.typ in
      let a = (shape_of st.kind).waits || (eqb st.timeout none && eqb st.cancel none) in
      let b = same (eqb st.after 0) (eqb st.timeout none) in
      let c = same (eqb st.receivers 0) (not (shape_of st.kind).sends) in
      (and_both w n (and_both (w && n) a (and_both (w && n && a) b (and_both (w && n && a && b) c h).left).left).left).left

  exact : (k : ℕ) → (shape_of st.kind).least ≡ k → (shape_of st.kind).most ≡ k → st.exits ≡ k
  exact k a b = let w = within_is (shape_of st.kind).least st.exits (shape_of st.kind).most exits_fit in omega (arith, w.low, w.high)

  send_exits : st.kind ≡ 2 → st.exits ≡ 1
  unfolding shape_of
  send_exits e = exact 1 (rw e) (rw e)

  ask_exits : st.kind ≡ 6 → st.exits ≡ 2
  unfolding shape_of
  ask_exits e = exact 2 (rw e) (rw e)

  mark_exits : within 4 st.kind 5 ≡ true → st.exits ≡ 1
  unfolding shape_of
  mark_exits e =
      let w = within_is 4 st.kind 5 e in
      let low = w.low in
      let high = w.high in
      let a = ne_eqb st.kind 1 (λ q. omega arith) in
      let b = ne_eqb st.kind 2 (λ q. omega arith) in
      let c = ne_eqb st.kind 3 (λ q. omega arith) in
      exact 1 (rw (a, b, c, e)) (rw (a, b, c, e))

record Reached (n states : ℕ) (st : State) : Type 0 where
  timeout : (st.timeout ≡ none) ⊎ (st.timeout < states)
  cancel : (st.cancel ≡ none) ⊎ (st.cancel < states)
  receivers : none_from n st.receivers ≡ true

reached : (n states : ℕ) (st : State) → state_reaches n states st ≡ true → Reached n states st
unfolding state_reaches
reached n states st h =
    let a = there_or_none states st.timeout in
    let b = there_or_none states st.cancel in
    let c = there_or_any n st.sender in
    let x = and_both (a && b && c) (none_from n st.receivers) h in
    let y = and_both (a && b) c x.left in
    let z = and_both a b y.left in
    record {
      timeout = there_or states st.timeout z.left;
      cancel = there_or states st.cancel z.right;
      receivers = x.right;
    }

-- an exit that the state has
module _ (n states : ℕ) (st : State) (x : ℕ) (l : x < st.exits) (h : exit_valid n states st x ≡ true) where
  exit_both : Both (exit_fits st.kind (exit_at st x)) (exit_reaches n states (exit_at st x))
  unfolding exit_valid
  exit_both = and_both (exit_fits st.kind (exit_at st x)) (exit_reaches n states (exit_at st x)) (rw (lt-ltb x st.exits l) at h)

  exit_target : (exit_at st x).target < states
  unfolding exit_reaches
  exit_target =
      ltb-true
      (exit_at st x).target
      states
      (and_both (ltb (exit_at st x).target states) (there_or_any n (exit_at st x).sender) exit_both.right).left

  exit_typ : st.kind ≡ 2 → (exit_at st x).typ < types
  unfolding exit_fits
  exit_typ e =
      ltb-true
      (exit_at st x).typ
      types
      (and_both (eqb (exit_at st x).sender any) (is_type (exit_at st x).typ) (rw e at exit_both.left)).right

right_state : (n states t : ℕ) (st : State) → t < states → st.exits ≤ most_exits → state_valid n states t st ≡ true → RightState n states st
unfolding state_valid state_own
right_state n states t st l few h =
    let b = and_both (state_own n states t st) (all_below (exit_valid n states st) most_exits) h in
    let o = and_both (state_fits st) (state_reaches n states st) (rw (lt-ltb t states l) at b.left) in
    let r = reached n states st o.right in
    let each : (x : ℕ) → x < most_exits → exit_valid n states st x ≡ true = all_each (exit_valid n states st) most_exits b.right in
    record {
      target = λ x k. exit_target n states st x k (each x (omega arith));
      timeout = r.timeout;
      cancel = r.cancel;
      receivers = λ k g. none_bits n st.receivers k r.receivers g;
      send = send_exits st o.left;
      sends = λ e. let k = send_exits st o.left e in exit_typ n states st 0 (omega arith) (each 0 (omega arith)) e;
      mark = mark_exits st o.left;
      ask = ask_exits st o.left;
    }

-- ---- a subject

record RightOwn (sub : Subject) (kind : ℕ) : Type 0 where
  few : sub.states ≤ most_states
  initial : sub.initial < sub.states
  runs : is_end kind ≡ false

right_own : (n s : ℕ) (sub : Subject) (kind : ℕ) → s < n → subject_valid n s sub kind ≡ true → RightOwn sub kind
unfolding subject_valid subject_own
right_own n s sub kind l h =
    let o = and_both (subject_own n s sub kind) (all_below (row_valid n sub) 8) h in
    let d = and_both (within 1 sub.states 32 && ltb sub.initial sub.states && not (eqb kind 7)) (leb sub.rows 8) (rw (lt-ltb s n l) at o.left) in
    let c = and_both (within 1 sub.states 32 && ltb sub.initial sub.states) (not (eqb kind 7)) d.left in
    let b = and_both (within 1 sub.states 32) (ltb sub.initial sub.states) c.left in
    record {
      few = (within_is 1 sub.states 32 b.left).high;
      initial = ltb-true sub.initial sub.states b.right;
      runs = not-true (eqb kind 7) c.right;
    }

-- ---- by number

module _ (m : Model) (h : valid m ≡ true) (s : ℕ) (l : s < m.n) where
  pub subject_there : s < most_subjects
  subject_there = omega (arith, n_high m h)

  own : RightOwn (subject_at m s) (state_of m s (subject_at m s).initial).kind
  unfolding subject_right with_exits
  own = right_own m.n s (subject_at m s) (state_of m s (subject_at m s).initial).kind l ((tested m h).subjects s subject_there)

  pub states_few : (subject_at m s).states ≤ most_states
  states_few = own.few

  pub initial_there_lem : (subject_at m s).initial < (subject_at m s).states
  initial_there_lem = own.initial

  pub initial_runs : is_end (state_of m s (subject_at m s).initial).kind ≡ false
  initial_runs = own.runs

  pub state_right_lem : (t : ℕ) → t < (subject_at m s).states → RightState m.n (subject_at m s).states (state_of m s t)
  unfolding state_right
  state_right_lem t k =
      let few = own.few in
      let p : s * 32 + t < 512 = omega (arith, subject_there) in
      let q : (s * 32 + t) / 32 ≡ s = omega arith in
      let r : (s * 32 + t) % 32 ≡ t = omega arith in
      right_state
      m.n
      (subject_at m s).states
      t
      (state_of m s t)
      k
      ((model_good m h).state (s * 32 + t) p).small.exits
      (and_both _ _ (rw (q, r) at ((tested m h).states (s * 32 + t) p))).left
