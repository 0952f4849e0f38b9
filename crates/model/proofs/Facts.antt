-- What validity tells of each part of a model: bounds for every number, and blank room where a thing is not there.
use mathlib.Core.Path.{◌≡◌, refl, ◌∙◌}
use mathlib.Core.Logic.{◌⊎◌, inl, inr, ⊎_elim}
use mathlib.Core.Bool.{Bool, true, false, ◌&&◌, ◌||◌, not, cond}
use Prim.Native.Nat.{ℕ, ◌/◌, ◌%◌, ◌≤◌, ◌<◌}
use native.Mathlib.Nat.{le_trans}
use native.Mathlib.Omega.{arith}
use borrow.Author.Tests.{ltb-true, ltb-false, leb-true, eqb-true, lt-ltb, le-ltb}
use lib.Dec.{ltb, leb, eqb}
use Rattle.sets.specs.Below.{all_below, sum_below}
use Rattle.sets.specs.Groups.{place_in}
use Rattle.sets.specs.Tests.{within, none_from}
use Rattle.sets.proofs.Tests.{and_both, within_is, choose}
use Rattle.sets.proofs.Below.{all_each}
use Rattle.sets.proofs.Groups.{in_places_at}
use Rattle.sets.proofs.Masks.{mask_below}
use Rattle.model.proofs.BlankLaws.{none_at}
use Rattle.model.specs.Records.{blank_exit, blank_row, with_exits}
use Rattle.model.specs.Rules.{any, is_type, type_or_any, Shape, shape_of, names_fit, state_fits, exit_fits, row_fits, there_or_any, state_reaches, exit_reaches, row_reaches}
use Rattle.model.specs.Valid.{subject_at, stored_at, exit_no, exits_from, state_at, exit_at, row_at, is_blank_state, exit_valid, state_own, state_valid, row_ascends, row_valid, subject_own, subject_valid, subject_right, first_right, state_right, start_right, exits_in_all, no_more_exits, valid}
use Rattle.model.specs.declared.Exit.{Exit}
use Rattle.model.specs.declared.Model.{Model}
use Rattle.model.specs.declared.Row.{Row}
use Rattle.model.specs.declared.State.{State}
use Rattle.model.specs.declared.Subject.{Subject}

-- ---- small tests

or_either : (a b : Bool) → (a || b) ≡ true → (a ≡ true) ⊎ (b ≡ true)
or_either true b h = inl refl
or_either false b h = inr h

there_small : (n x : ℕ) → n ≤ 255 → there_or_any n x ≡ true → x < 256
there_small n x l h =
    ⊎_elim (λ (t : ltb x n ≡ true). omega (arith, ltb-true)) (λ (t : eqb x any ≡ true). omega (arith, eqb-true)) (or_either (ltb x n) (eqb x any) h)

type_small : (t : ℕ) → type_or_any t ≡ true → t < 256
type_small t h = there_small 32 t (omega arith) h

-- ---- a state's own fields

-- the numbers of a state fit their bytes
pub record Small (st : State) : Type 0 where
  pub kind : st.kind < 256
  pub exits : st.exits ≤ 8
  pub sender : st.sender < 256
  pub typ : st.typ < 256
  pub timeout : st.timeout < 256
  pub cancel : st.cancel < 256
  pub receivers : st.receivers < 65536

-- a kind with room for some exits is 1 to 7, and the room is at most 8
shape_small : (kind exits : ℕ) → within (shape_of kind).least exits (shape_of kind).most ≡ true → (kind < 256) × (exits ≤ 8)
unfolding shape_of
shape_small kind exits =
    choose P (eqb kind 1) (λ e h. (omega (arith, eqb-true), up 1 8 (omega arith) h))
    (λ _. choose P (eqb kind 2) (λ e h. (omega (arith, eqb-true), up 1 1 (omega arith) h))
    (λ _. choose P (eqb kind 3) (λ e h. (omega (arith, eqb-true), up 1 8 (omega arith) h))
    (λ _. choose P (within 4 kind 5) (λ e h. (omega (arith, (within_is 4 kind 5 e).high), up 1 1 (omega arith) h))
    (λ _. choose P (eqb kind 6) (λ e h. (omega (arith, eqb-true), up 2 2 (omega arith) h))
    (λ _. choose P (eqb kind 7) (λ e h. (omega (arith, eqb-true), up 0 0 (omega arith) h))
    (λ _ h. let w = within_is 1 exits 0 h in absurd (omega (arith, w.low, w.high))))))))
  where
    P : Shape → Type 0
    P sh = within sh.least exits sh.most ≡ true → (kind < 256) × (exits ≤ 8)

    up : (lo hi : ℕ) → hi ≤ 8 → within lo exits hi ≡ true → exits ≤ 8
    up lo hi l h = omega (arith, (within_is lo exits hi h).high)

names_small : (f : Bool) (sender typ : ℕ) → names_fit f sender typ ≡ true → typ < 256
unfolding names_fit
names_small true sender typ h = type_small typ h
names_small false sender typ h = omega (arith, eqb-true typ any (and_both (eqb sender any) (eqb typ any) h).right)

-- a state whose fields are right, and whose things exist, has small numbers
state_small : (n states : ℕ) (st : State) → n ≤ 16 → states ≤ 32 → state_fits st ≡ true → state_reaches n states st ≡ true → Small st
unfolding state_fits state_reaches
state_small n states st ln ls f r =
    let f4 = and_both _ _ f in
    let f3 = and_both _ _ f4.left in
    let f2 = and_both _ _ f3.left in
    let f1 = and_both _ _ f2.left in
    let k = shape_small st.kind st.exits f1.left in
    let r3 = and_both _ _ r in
    let r2 = and_both _ _ r3.left in
    let r1 = and_both _ _ r2.left in
    record {
      kind = k.0;
      exits = k.1;
      sender = there_small n st.sender (omega arith) r2.right;
      typ = names_small _ _ _ f1.right;
      timeout = there_small states st.timeout (omega arith) r1.left;
      cancel = there_small states st.cancel (omega arith) r1.right;
      receivers = mask_below 16 n st.receivers ln r3.right;
    }

-- an unused state: every number is 0
pub record Empty (st : State) : Type 0 where
  pub kind : st.kind ≡ 0
  pub exits : st.exits ≡ 0
  pub sender : st.sender ≡ 0
  pub typ : st.typ ≡ 0
  pub after : st.after ≡ 0
  pub timeout : st.timeout ≡ 0
  pub cancel : st.cancel ≡ 0
  pub receivers : st.receivers ≡ 0

state_empty : (st : State) → is_blank_state st ≡ true → Empty st
unfolding is_blank_state
state_empty st h =
    let b = and_both _ _ h in
    let x3 = and_both _ _ b.left in
    let x2 = and_both _ _ x3.left in
    let x1 = and_both _ _ x2.left in
    let y3 = and_both _ _ b.right in
    let y2 = and_both _ _ y3.left in
    let y1 = and_both _ _ y2.left in
    record {
      kind = eqb-true _ _ x1.left;
      exits = eqb-true _ _ x1.right;
      sender = eqb-true _ _ x2.right;
      typ = eqb-true _ _ x3.right;
      after = eqb-true _ _ y1.left;
      timeout = eqb-true _ _ y1.right;
      cancel = eqb-true _ _ y2.right;
      receivers = eqb-true _ _ y3.right;
    }

-- ---- exits and rows

-- three numbers that are tested for zero
three_zeros : (a b c : ℕ) → (eqb a 0 && eqb b 0 && eqb c 0) ≡ true → (a ≡ 0) × (b ≡ 0) × (c ≡ 0)
three_zeros a b c h =
    let r = and_both (eqb a 0 && eqb b 0) (eqb c 0) h in
    let l = and_both (eqb a 0) (eqb b 0) r.left in
    (eqb-true a 0 l.left, eqb-true b 0 l.right, eqb-true c 0 r.right)

exit_blank : (e : Exit) → (eqb e.target 0 && eqb e.sender 0 && eqb e.typ 0) ≡ true → e ≡ blank_exit
exit_blank e h = let z = three_zeros e.target e.sender e.typ h in λ i. record { target = z.0 i; sender = z.1 i; typ = z.2 i }

row_blank : (w : Row) → (eqb w.sender 0 && eqb w.typ 0 && eqb w.limit 0) ≡ true → w ≡ blank_row
row_blank w h = let z = three_zeros w.sender w.typ w.limit h in λ i. record { sender = z.0 i; typ = z.1 i; limit = z.2 i }

-- an exit that a state has: its fields are right, and its numbers fit their bytes
pub record GoodExit (kind : ℕ) (e : Exit) : Type 0 where
  pub fits : exit_fits kind e ≡ true
  pub target : e.target < 256
  pub sender : e.sender < 256
  pub typ : e.typ < 256

exit_type : (kind : ℕ) (e : Exit) → exit_fits kind e ≡ true → e.typ < 256
unfolding exit_fits
exit_type kind e =
    choose P (eqb kind 3) (λ _ h. omega (arith, ltb-true e.typ 32 (and_both (not (eqb e.sender any)) (is_type e.typ) h).right))
    (λ _. choose P (eqb kind 2) (λ _ h. omega (arith, ltb-true e.typ 32 (and_both (eqb e.sender any) (is_type e.typ) h).right))
    (λ _ h. omega (arith, eqb-true e.typ any (and_both (eqb e.sender any) (eqb e.typ any) h).right)))
  where
    P : Bool → Type 0
    P b = b ≡ true → e.typ < 256

exit_good : (n states kind : ℕ) (e : Exit) → n ≤ 16 → states ≤ 32 → exit_fits kind e ≡ true → exit_reaches n states e ≡ true → GoodExit kind e
unfolding exit_reaches
exit_good n states kind e ln ls f r =
    let b = and_both (ltb e.target states) (there_or_any n e.sender) r in
    record {
      fits = f;
      target = omega (arith, ltb-true e.target states b.left);
      sender = there_small n e.sender (omega arith) b.right;
      typ = exit_type kind e f;
    }

-- a row that a subject has
pub record GoodRow (w : Row) : Type 0 where
  pub fits : row_fits w ≡ true
  pub sender : w.sender < 256
  pub typ : w.typ < 256
  pub limit : w.limit < 256

row_good : (n : ℕ) (w : Row) → n ≤ 16 → row_fits w ≡ true → row_reaches n w ≡ true → GoodRow w
unfolding row_fits row_reaches
row_good n w ln f r =
    let b = and_both (within 1 w.limit 16) (type_or_any w.typ) f in
    record {
      fits = f;
      sender = there_small n w.sender (omega arith) r;
      typ = type_small w.typ b.right;
      limit = omega (arith, (within_is 1 w.limit 16 b.left).high);
    }

-- ---- the parts of a valid model

-- subject s of n
pub record GoodSubject (n s : ℕ) (sub : Subject) : Type 0 where
  pub states : sub.states ≤ 32
  pub initial : sub.initial < 256
  pub rows : sub.rows ≤ 8
  pub some : s < n → 1 ≤ sub.states
  pub gone : n ≤ s → (sub.states ≡ 0) × (sub.initial ≡ 0) × (sub.rows ≡ 0)
  pub row : (k : ℕ) → k < sub.rows → GoodRow (row_at sub k)
  pub ascends : (k : ℕ) → k < sub.rows → row_ascends sub k ≡ true
  pub blank : (k : ℕ) → k < 8 → sub.rows ≤ k → row_at sub k ≡ blank_row

-- the state with number t of a subject with so many states
pub record GoodState (states t : ℕ) (st : State) : Type 0 where
  pub small : Small st
  pub fits : t < states → state_fits st ≡ true
  pub empty : states ≤ t → Empty st
  pub exit : (x : ℕ) → x < st.exits → GoodExit st.kind (exit_at st x)
  pub blank : (x : ℕ) → x < 8 → st.exits ≤ x → exit_at st x ≡ blank_exit

pub record GoodModel (m : Model) : Type 0 where
  pub low : 1 ≤ m.n
  pub high : m.n ≤ 16
  pub start : m.start < 65536
  pub subject : (s : ℕ) → s < 16 → GoodSubject m.n s (subject_at m s)
  pub state : (p : ℕ) → p < 512 → GoodState (subject_at m (p / 32)).states (p % 32) (state_at m p)
  pub exits : sum_below (λ p. (state_at m p).exits) 512 ≤ 1024
  pub first : (p : ℕ) → p < 512 → p % 32 < (subject_at m (p / 32)).states → (stored_at m p).first ≡ sum_below (λ q. (state_at m q).exits) p
  pub no_first : (p : ℕ) → p < 512 → (subject_at m (p / 32)).states ≤ p % 32 → (stored_at m p).first ≡ 0
  pub no_more : (j : ℕ) → sum_below (λ p. (state_at m p).exits) 512 ≤ j → exit_no m.exits j ≡ blank_exit

row_right : (n : ℕ) (sub : Subject) (k : ℕ) → n ≤ 16 → row_valid n sub k ≡ true → k < sub.rows → GoodRow (row_at sub k) × (row_ascends sub k ≡ true)
unfolding row_valid
row_right n sub k ln h l =
    let b = and_both _ _ (rw (lt-ltb k sub.rows l) at h) in
    let a = and_both _ _ b.left in
    (row_good n (row_at sub k) ln a.left a.right, b.right)

row_left : (n : ℕ) (sub : Subject) (k : ℕ) → row_valid n sub k ≡ true → sub.rows ≤ k → row_at sub k ≡ blank_row
unfolding row_valid
row_left n sub k h l = row_blank (row_at sub k) (rw (le-ltb k sub.rows l) at h)

-- the numbers of subject s of n
record Own (n s : ℕ) (sub : Subject) : Type 0 where
  states : sub.states ≤ 32
  initial : sub.initial < 256
  rows : sub.rows ≤ 8
  some : s < n → 1 ≤ sub.states
  gone : n ≤ s → (sub.states ≡ 0) × (sub.initial ≡ 0) × (sub.rows ≡ 0)

subject_own_lem : (n s : ℕ) (sub : Subject) (kind : ℕ) → subject_own n s sub kind ≡ true → Own n s sub
unfolding subject_own
subject_own_lem n s sub kind h = go (ltb s n) refl
  where
    go : (b : Bool) → ltb s n ≡ b → Own n s sub
    go true e =
        let l = ltb-true s n e in
        let d = and_both (within 1 sub.states 32 && ltb sub.initial sub.states && not (eqb kind 7)) (leb sub.rows 8) (rw e at h) in
        let c = and_both (within 1 sub.states 32 && ltb sub.initial sub.states) (not (eqb kind 7)) d.left in
        let b = and_both (within 1 sub.states 32) (ltb sub.initial sub.states) c.left in
        let w = within_is 1 sub.states 32 b.left in
        let i = ltb-true sub.initial sub.states b.right in
        record {
          states = w.high;
          initial = omega (arith, w.high);
          rows = leb-true sub.rows 8 d.right;
          some = λ _. w.low;
          gone = λ g. absurd (omega arith);
        }
    go false e =
        let z = three_zeros sub.states sub.initial sub.rows (rw e at h) in
        let p = z.0 in
        let q = z.1 in
        let r = z.2 in
        record {
          states = omega arith;
          initial = omega arith;
          rows = omega arith;
          some = λ l. absurd (omega (arith, ltb-false s n e));
          gone = λ g. (p, q, r);
        }

subject_good : (n s : ℕ) (sub : Subject) (kind : ℕ) → n ≤ 16 → subject_valid n s sub kind ≡ true → GoodSubject n s sub
unfolding subject_valid
subject_good n s sub kind ln h =
    let b = and_both (subject_own n s sub kind) (all_below (row_valid n sub) 8) h in
    let o = subject_own_lem n s sub kind b.left in
    let few = o.rows in
    let each : (k : ℕ) → k < 8 → row_valid n sub k ≡ true = all_each (row_valid n sub) 8 b.right in
    record {
      states = o.states;
      initial = o.initial;
      rows = o.rows;
      some = o.some;
      gone = o.gone;
      row = λ k l. (row_right n sub k ln (each k (le_trans l few)) l).0;
      ascends = λ k l. (row_right n sub k ln (each k (le_trans l few)) l).1;
      blank = λ k l g. row_left n sub k (each k l) g;
    }

exit_right_lem : (n states : ℕ) (st : State) (x : ℕ) → n ≤ 16 → states ≤ 32 → exit_valid n states st x ≡ true → x < st.exits → GoodExit st.kind (exit_at st x)
unfolding exit_valid
exit_right_lem n states st x ln ls h l =
    let b = and_both (exit_fits st.kind (exit_at st x)) (exit_reaches n states (exit_at st x)) (rw (lt-ltb x st.exits l) at h) in
    exit_good n states st.kind (exit_at st x) ln ls b.left b.right

exit_left : (n states : ℕ) (st : State) (x : ℕ) → exit_valid n states st x ≡ true → st.exits ≤ x → exit_at st x ≡ blank_exit
unfolding exit_valid
exit_left n states st x h l = exit_blank (exit_at st x) (rw (le-ltb x st.exits l) at h)

-- the fields of the state with number t
record OwnState (states t : ℕ) (st : State) : Type 0 where
  small : Small st
  fits : t < states → state_fits st ≡ true
  empty : states ≤ t → Empty st

empty_small : (st : State) → Empty st → Small st
empty_small st e =
    let k = e.kind in
    let x = e.exits in
    let s = e.sender in
    let t = e.typ in
    let o = e.timeout in
    let c = e.cancel in
    let r = e.receivers in
    record {
      kind = omega arith;
      exits = omega arith;
      sender = omega arith;
      typ = omega arith;
      timeout = omega arith;
      cancel = omega arith;
      receivers = omega arith;
    }

state_own_lem : (n states t : ℕ) (st : State) → n ≤ 16 → states ≤ 32 → state_own n states t st ≡ true → OwnState states t st
unfolding state_own
state_own_lem n states t st ln ls h = go (ltb t states) refl
  where
    go : (b : Bool) → ltb t states ≡ b → OwnState states t st
    go true e =
        let l = ltb-true t states e in
        let b = and_both (state_fits st) (state_reaches n states st) (rw e at h) in
        record { small = state_small n states st ln ls b.left b.right; fits = λ _. b.left; empty = λ g. absurd (omega arith) }
    go false e =
        let z = state_empty st (rw e at h) in
        record { small = empty_small st z; fits = λ l. absurd (omega (arith, ltb-false t states e)); empty = λ g. z }

state_good : (n states t : ℕ) (st : State) → n ≤ 16 → states ≤ 32 → state_valid n states t st ≡ true → GoodState states t st
unfolding state_valid
state_good n states t st ln ls h =
    let b = and_both (state_own n states t st) (all_below (exit_valid n states st) 8) h in
    let o = state_own_lem n states t st ln ls b.left in
    let few = o.small.exits in
    let each : (x : ℕ) → x < 8 → exit_valid n states st x ≡ true = all_each (exit_valid n states st) 8 b.right in
    record {
      small = o.small;
      fits = o.fits;
      empty = o.empty;
      exit = λ x l. exit_right_lem n states st x ln ls (each x (le_trans l few)) l;
      blank = λ x l g. exit_left n states st x (each x l) g;
    }

-- the state at place p, and where its exits begin
state_right_lem : (m : Model) (p : ℕ) → m.n ≤ 16 → (subject_at m (p / 32)).states ≤ 32 → state_right m p ≡ true
    → GoodState (subject_at m (p / 32)).states (p % 32) (state_at m p)
    × ((stored_at m p).first ≡ cond (ltb (p % 32) (subject_at m (p / 32)).states) (sum_below (λ q. (state_at m q).exits) p) 0)
unfolding state_right first_right
state_right_lem m p ln ls h = let b = and_both _ _ h in (state_good _ _ _ _ ln ls b.left, eqb-true _ _ b.right)

-- past the last exit there is no exit
no_exit_lem : (m : Model) → no_more_exits m ≡ true → (j : ℕ) → exits_in_all m ≤ j → exit_no m.exits j ≡ blank_exit
unfolding no_more_exits
no_exit_lem m h j l = none_at m.exits (exits_in_all m) j h l

pub model_good : (m : Model) → valid m ≡ true → GoodModel m
unfolding valid subject_right exits_in_all
model_good m h =
    let more = and_both _ _ h in
    let e = and_both _ _ more.left in
    let t = and_both _ _ e.left in
    let s = and_both _ _ t.left in
    let a = and_both (within 1 m.n 16) (start_right m.n m.start) s.left in
    let w = within_is 1 m.n 16 a.left in
    let ln = w.high in
    let start = and_both (not (eqb m.start 0)) (none_from m.n m.start) a.right in
    let subject : (k : ℕ) → k < 16 → GoodSubject m.n k (subject_at m k) = λ k l. subject_good _ _ _ _ ln (all_each _ 16 s.right k l) in
    let few : (p : ℕ) → p < 512 → (subject_at m (p / 32)).states ≤ 32 = λ p l. (subject (p / 32) (omega arith)).states in
    record {
      low = w.low;
      high = w.high;
      start = mask_below 16 m.n m.start ln start.right;
      subject = subject;
      state = λ p l. (state_right_lem m p ln (few p l) (all_each _ 512 t.right p l)).0;
      exits = leb-true _ 1024 e.right;
      first = λ p l h. rw (lt-ltb _ _ h) at (state_right_lem m p ln (few p l) (all_each _ 512 t.right p l)).1;
      no_first = λ p l h. rw (le-ltb _ _ h) at (state_right_lem m p ln (few p l) (all_each _ 512 t.right p l)).1;
      no_more = no_exit_lem m more.right;
    }

-- ---- how many of each there are

abbrev pub states_of : Model → ℕ → ℕ
states_of m s = (subject_at m s).states

abbrev pub rows_of : Model → ℕ → ℕ
rows_of m s = (subject_at m s).rows

abbrev pub exits_of : Model → ℕ → ℕ
exits_of m p = (state_at m p).exits

-- ---- a state and what a model keeps of it

-- a state has the duration that is kept of it
pub stored_after : (m : Model) (p : ℕ) → (state_at m p).after ≡ (stored_at m p).after
unfolding with_exits
stored_after m p = refl

-- a state that has an exit is one that its subject has
pub has_state_lem : (m : Model) → GoodModel m → (p x : ℕ) → p < 512 → x < (state_at m p).exits → p % 32 < (subject_at m (p / 32)).states
has_state_lem m good p x l h = go (ltb (p % 32) (subject_at m (p / 32)).states) refl
  where
    go : (b : Bool) → ltb (p % 32) (subject_at m (p / 32)).states ≡ b → p % 32 < (subject_at m (p / 32)).states
    go true e = ltb-true _ _ e
    go false e = let z = ((good.state p l).empty (ltb-false _ _ e)).exits in absurd (omega arith)

-- exit x of the state at place p, among those of all states
pub exit_is : (m : Model) → GoodModel m → (p x : ℕ) → p < 512 → x < (state_at m p).exits
    → exit_at (state_at m p) x ≡ exit_no m.exits (place_in (exits_of m) p x)
unfolding with_exits exits_from
exit_is m good p x l h =
    let few = (good.state p l).small.exits in
    in_places_at 8 blank_exit (stored_at m p).exits _ x blank_exit (omega arith)
    ∙ rw (lt-ltb x (stored_at m p).exits h, good.first p l (has_state_lem m good p x l h))
