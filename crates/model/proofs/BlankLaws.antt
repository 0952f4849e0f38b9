-- The places of a model: where a subject has a state, and where there is nothing but zeros.
use mathlib.Core.Path.{◌≡◌, refl, sym, ap, ◌∙◌}
use mathlib.Core.Bool.{Bool, true, false, ◌&&◌, not, cond}
use mathlib.Core.List.{List, [], ◌∷◌}
use Prim.Native.Nat.{ℕ, zero, suc, ◌+◌, ◌*◌, ◌/◌, ◌%◌, ◌≤◌, ◌<◌}
use native.Mathlib.Nat.{mul-le-mul_right, not-suc-le-zero, le_of_suc-le-suc}
use native.Mathlib.Omega.{arith}
use borrow.Author.Tests.{eqb-true, eqb-false, eq-eqb, ne_eqb, ltb-true, ltb-false, lt-ltb, le-ltb}
use lib.Bits.{bit_or, or_add_and, and_le_l, and_le_r}
use lib.Dec.{eqb, leb, ltb}
use lib.ListN.{length, get_or}
use Rattle.sets.specs.Below.{all_below, sum_below}
use Rattle.sets.specs.Tests.{within}
use Rattle.sets.proofs.Tests.{not_both, and_both, and_true, and_false, is_false, within_is, choose}
use Rattle.sets.proofs.Below.{all_stop, all_each, all_by, sum_more}
use Rattle.sets.proofs.Groups.{in_places_at}
use Rattle.model.specs.Records.{blank_exit, with_exits}
use Rattle.model.specs.Rules.{state_fits, state_reaches, exit_fits, exit_reaches}
use Rattle.model.specs.Valid.{subject_at, stored_at, exit_no, exits_from, unpacked, state_at, exit_at, is_blank_exit, is_blank_row, is_blank_state, is_blank_stored, exit_valid, state_own, state_valid, stored_valid, row_valid, subject_fits, is_blank_subject, subject_own, subject_valid, kind_at, subject_right, exits_before, first_right, state_right, start_right, exits_in_all, none_after, no_more_exits, valid}
use Rattle.model.specs.declared.Exit.{Exit}
use Rattle.model.specs.declared.Model.{Model}
use Rattle.model.specs.declared.Row.{Row}
use Rattle.model.specs.declared.State.{State}
use Rattle.model.specs.declared.Stored.{Stored}
use Rattle.model.specs.declared.Subject.{Subject}

-- two numbers are 0 exactly when their bits together are
pub or_none : (a b : ℕ) → eqb (bit_or a b) 0 ≡ (eqb a 0 && eqb b 0)
or_none a b = go (eqb a 0) refl (eqb b 0) refl
  where
    go : (x : Bool) → eqb a 0 ≡ x → (y : Bool) → eqb b 0 ≡ y → eqb (bit_or a b) 0 ≡ (eqb a 0 && eqb b 0)
    go true e true f = rw (e, f) (eq-eqb (bit_or a b) 0 (omega (arith, eqb-true a 0 e, eqb-true b 0 f, or_add_and a b)))
    go true e false f = rw (e, f) (ne_eqb (bit_or a b) 0 (λ (z : bit_or a b ≡ 0). eqb-false b 0 f (omega (arith, eqb-true a 0 e, or_add_and a b, and_le_l a b))))
    go false e y f = rw e (ne_eqb (bit_or a b) 0 (λ (z : bit_or a b ≡ 0). eqb-false a 0 e (omega (arith, or_add_and a b, and_le_r a b))))

-- a sum is 0 exactly when its parts are
sum_none : (a k b : ℕ) → ltb 0 k ≡ true → eqb (a + k * b) 0 ≡ (eqb a 0 && eqb b 0)
sum_none a k b p = go (eqb a 0) refl (eqb b 0) refl
  where
    more : 1 * b ≤ k * b
    more = mul-le-mul_right b (ltb-true 0 k p)

    go : (x : Bool) → eqb a 0 ≡ x → (y : Bool) → eqb b 0 ≡ y → eqb (a + k * b) 0 ≡ (eqb a 0 && eqb b 0)
    go true e true f =
        let z : b ≡ 0 = eqb-true b 0 f in
        rw (e, f) (eq-eqb (a + k * b) 0 (rw z (omega (arith, eqb-true a 0 e))))
    go true e false f = rw (e, f) (ne_eqb (a + k * b) 0 (λ (z : a + k * b ≡ 0). eqb-false b 0 f (omega (arith, more))))
    go false e y f = rw e (ne_eqb (a + k * b) 0 (λ (z : a + k * b ≡ 0). eqb-false a 0 e (omega arith)))

pub and_assoc : (a b c : Bool) → (a && (b && c)) ≡ ((a && b) && c)
and_assoc true b c = refl
and_assoc false b c = refl

pub and_rest : (a b : Bool) → b ≡ true → (a && b) ≡ a
and_rest true b h = h
and_rest false b h = refl

-- what is kept of a state, as one number
pub blank_is : (st : Stored)
    → eqb (bit_or (st.kind + 256 * st.exits + 65536 * st.sender + 16777216 * st.typ + 4294967296 * st.after + 281474976710656 * st.timeout + 72057594037927936 * st.cancel) (st.receivers + 65536 * st.first)) 0
    ≡ is_blank_stored st
unfolding is_blank_stored is_blank_state with_exits
blank_is st = simp (or_none, sum_none, and_assoc)

-- a row, as one number
pub blank_row_is : (w : Row) → eqb (w.sender + 256 * w.typ + 65536 * w.limit) 0 ≡ is_blank_row w
blank_row_is w = simp sum_none

-- ---- the exits of a state

module _ (exits : List Exit) (st : Stored) where
  abbrev state : State
  state = unpacked exits st

  -- exit x, of eight
  exit_of_lem : (x : ℕ) → x < 8 → exit_at state x ≡ cond (ltb x st.exits) (exit_no exits (st.first + x)) blank_exit
  unfolding with_exits exits_from
  exit_of_lem x l = in_places_at 8 blank_exit st.exits (λ i. exit_no exits (st.first + i)) x blank_exit l

  -- one that the state has
  pub has_exit : (n states x : ℕ) → x < 8 → x < st.exits
      → exit_valid n states state x ≡ (exit_fits st.kind (exit_no exits (st.first + x)) && exit_reaches n states (exit_no exits (st.first + x)))
  unfolding exit_valid with_exits
  has_exit n states x l h = rw (lt-ltb x st.exits h) (rw (exit_of_lem x l, lt-ltb x st.exits h))

  -- one that it has not is blank
  pub no_exit_lem : (n states x : ℕ) → x < 8 → st.exits ≤ x → exit_valid n states state x ≡ true
  unfolding exit_valid with_exits
  no_exit_lem n states x l h = rw (le-ltb x st.exits h) (rw (exit_of_lem x l, le-ltb x st.exits h))

blank_exits_lem : (st : Stored) → is_blank_state (with_exits st []) ≡ true → st.exits ≡ 0
unfolding is_blank_state with_exits
blank_exits_lem st h =
    let a = eqb st.kind 0 && eqb st.exits 0 in
    let b = a && eqb st.sender 0 in
    let l = (and_both (b && eqb st.typ 0) (eqb st.after 0 && eqb st.timeout 0 && eqb st.cancel 0 && eqb st.receivers 0) h).left in
    eqb-true st.exits 0
    (and_both (eqb st.kind 0) (eqb st.exits 0) (and_both a (eqb st.sender 0) (and_both b (eqb st.typ 0) l).left).left).right

and_swap : (a b c : Bool) → ((a && b) && c) ≡ ((a && c) && b)
and_swap false b c = refl
and_swap true false false = refl
and_swap true false true = refl
and_swap true true false = refl
and_swap true true true = refl

-- the exits of a state are no matter to whether it is blank
any_exits : (st : Stored) (es : List Exit) → is_blank_state (with_exits st es) ≡ is_blank_state (with_exits st [])
unfolding is_blank_state with_exits
any_exits st es = refl

module _ (exits : List Exit) (n states t before : ℕ) (st : Stored) where
  -- a state that a subject has
  there_is : t < states
      → stored_valid exits n states before st ≡ (state_valid n states t (unpacked exits st) && first_right states t before st.first)
  unfolding stored_valid state_valid state_own first_right
  there_is l =
      let st' = unpacked exits st in
      rw (lt-ltb t states l) (and_swap (state_fits st' && state_reaches n states st') (eqb st.first before) (all_below (exit_valid n states st') 8))

  -- past a subject's states a place is right exactly when it is blank
  empty_is : states ≤ t → is_blank_stored st ≡ (state_valid n states t (unpacked exits st) && first_right states t before st.first)
  unfolding is_blank_stored state_valid state_own first_right
  empty_is l = rw (le-ltb t states l) (go (is_blank_state (with_exits st [])) refl)
    where
      none : is_blank_state (with_exits st []) ≡ true → all_below (exit_valid n states (unpacked exits st)) 8 ≡ true
      none h = let e = blank_exits_lem st h in all_by _ 8 (λ x k. no_exit_lem exits st n states x k (omega arith))

      go : (b : Bool) → is_blank_state (with_exits st []) ≡ b
          → (is_blank_state (with_exits st []) && eqb st.first 0)
          ≡ ((is_blank_state (unpacked exits st) && all_below (exit_valid n states (unpacked exits st)) 8) && eqb st.first 0)
      go false e = rw (any_exits st (exits_from exits st), e)
      go true e = rw (any_exits st (exits_from exits st), e, none e)

-- the kind of the initial state matters only where there is such a state
kind_free : (n s : ℕ) (sub : Subject) (a b : ℕ) → 32 ≤ sub.initial → subject_valid n s sub a ≡ subject_valid n s sub b
unfolding subject_valid subject_own
kind_free n s sub a b l = go (ltb s n) refl
  where
    off : (k : ℕ) → subject_fits sub k ≡ false
    off k = is_false (subject_fits sub k) (λ (h : subject_fits sub k ≡ true).
        let a = within 1 sub.states 32 && ltb sub.initial sub.states in
        let f = and_both (within 1 sub.states 32) (ltb sub.initial sub.states)
        (and_both a (not (eqb k 7)) (and_both (a && not (eqb k 7)) (leb sub.rows 8) h).left).left in
        omega (arith, ltb-true sub.initial sub.states f.right, (within_is 1 sub.states 32 f.left).high))

    go : (t : Bool) → ltb s n ≡ t
        → (cond (ltb s n) (subject_fits sub a) (is_blank_subject sub) && all_below (row_valid n sub) 8) ≡ (cond (ltb s n) (subject_fits sub b) (is_blank_subject sub) && all_below (row_valid n sub) 8)
    go true e = rw (e, off a, off b)
    go false e = rw e

-- the kind of the initial state, read at a place that is always there
pub kind_seen : (m : Model) (s : ℕ)
    → subject_valid m.n s (subject_at m s) (kind_at m.states (s * 32 + (subject_at m s).initial % 32)) ≡ subject_right m s
unfolding subject_right
kind_seen m s = go (ltb (subject_at m s).initial 32) refl
  where
    go : (b : Bool) → ltb (subject_at m s).initial 32 ≡ b
        → subject_valid m.n s (subject_at m s) (kind_at m.states (s * 32 + (subject_at m s).initial % 32))
        ≡ subject_valid m.n s (subject_at m s) (kind_at m.states (s * 32 + (subject_at m s).initial))
    go true e =
        let i : (subject_at m s).initial % 32 ≡ (subject_at m s).initial = omega (arith, ltb-true (subject_at m s).initial 32 e) in
        rw i
    go false e = kind_free m.n s (subject_at m s) _ _ (ltb-false (subject_at m s).initial 32 e)

-- ---- nothing but zeros from a place on

pub none_turn : (l : List Exit) (j : ℕ) → j < length l → none_after j l ≡ (is_blank_exit (get_or l j blank_exit) && none_after (j + 1) l)
unfolding none_after
none_turn [] j h = absurd (not-suc-le-zero h)
none_turn (b ∷ bs) zero h = refl
none_turn (b ∷ bs) (suc j) h = let e : suc j + 1 ≡ suc (j + 1) = omega arith in rw e (none_turn bs j (le_of_suc-le-suc h))

pub none_end : (l : List Exit) (j : ℕ) → length l ≤ j → none_after j l ≡ true
unfolding none_after
none_end [] j h = refl
none_end (b ∷ bs) zero h = absurd (not-suc-le-zero h)
none_end (b ∷ bs) (suc j) h = none_end bs j (le_of_suc-le-suc h)

-- an exit of nothing but zeros
blank_exit_lem : (e : Exit) → is_blank_exit e ≡ true → e ≡ blank_exit
blank_exit_lem e h =
    let b = and_both _ _ h in
    let a = and_both _ _ b.left in
    let target = eqb-true e.target 0 a.left in
    let sender = eqb-true e.sender 0 a.right in
    let typ = eqb-true e.typ 0 b.right in
    λ i. record { target = target i; sender = sender i; typ = typ i }

pub none_at : (l : List Exit) (k j : ℕ) → none_after k l ≡ true → k ≤ j → get_or l j blank_exit ≡ blank_exit
unfolding none_after
none_at [] k j h g = refl
none_at (e ∷ es) zero zero h g = blank_exit_lem e (and_both (is_blank_exit e) (none_after zero es) h).left
none_at (e ∷ es) zero (suc j) h g = none_at es zero j (and_both (is_blank_exit e) (none_after zero es) h).right (omega arith)
none_at (e ∷ es) (suc k) zero h g = absurd (not-suc-le-zero g)
none_at (e ∷ es) (suc k) (suc j) h g = none_at es k j h (le_of_suc-le-suc g)

pub none_by : (l : List Exit) (k : ℕ) → ((j : ℕ) → k ≤ j → get_or l j blank_exit ≡ blank_exit) → none_after k l ≡ true
unfolding none_after
none_by [] k h = refl
none_by (e ∷ es) zero h = and_true (ap is_blank_exit (h zero (omega arith))) (none_by es zero (λ j g. h (suc j) (omega arith)))
none_by (e ∷ es) (suc k) h = none_by es k (λ j g. h (suc j) (omega arith))

-- ---- the places of subject s

-- at most 32 of them have a state
pub few_states : (n s : ℕ) (sub : Subject) (kind : ℕ) → subject_valid n s sub kind ≡ true → sub.states ≤ 32
unfolding subject_valid subject_own
few_states n s sub kind h =
    choose (λ b. b ≡ true → sub.states ≤ 32) (ltb s n) {x = subject_fits sub kind} {y = is_blank_subject sub} (λ e. there) (λ e. blank) (and_both _ (all_below (row_valid n sub) 8) h).left
  where
    there : subject_fits sub kind ≡ true → sub.states ≤ 32
    there f =
        let a = within 1 sub.states 32 && ltb sub.initial sub.states in
        (within_is 1 sub.states 32
        (and_both (within 1 sub.states 32) (ltb sub.initial sub.states)
        (and_both a (not (eqb kind 7)) (and_both (a && not (eqb kind 7)) (leb sub.rows 8) f).left).left).left).high

    blank : is_blank_subject sub ≡ true → sub.states ≤ 32
    blank f =
        let e = eqb-true sub.states 0 (and_both (eqb sub.states 0) (eqb sub.initial 0) (and_both (eqb sub.states 0 && eqb sub.initial 0) (eqb sub.rows 0) f).left).left in
        omega (arith, e)

place_is : (m : Model) (s t : ℕ) → t < 32
    → state_right m (s * 32 + t)
    ≡ (state_valid m.n (subject_at m s).states t (state_at m (s * 32 + t)) && first_right (subject_at m s).states t (exits_before m (s * 32 + t)) (stored_at m (s * 32 + t)).first)
unfolding state_right
place_is m s t l =
    let a : (s * 32 + t) / 32 ≡ s = omega arith in
    let b : (s * 32 + t) % 32 ≡ t = omega arith in
    rw (a, b)

pub there_right : (m : Model) (s t : ℕ) → t < 32 → t < (subject_at m s).states
    → stored_valid m.exits m.n (subject_at m s).states (exits_before m (s * 32 + t)) (stored_at m (s * 32 + t)) ≡ state_right m (s * 32 + t)
there_right m s t l k = there_is m.exits m.n (subject_at m s).states t _ (stored_at m (s * 32 + t)) k ∙ sym (place_is m s t l)

gone_right : (m : Model) (s t : ℕ) → t < 32 → (subject_at m s).states ≤ t → is_blank_stored (stored_at m (s * 32 + t)) ≡ state_right m (s * 32 + t)
gone_right m s t l k = empty_is m.exits m.n (subject_at m s).states t _ (stored_at m (s * 32 + t)) k ∙ sym (place_is m s t l)

-- one more place, after a
pub next : (p : ℕ → Bool) (a t : ℕ) → all_below p (a + (t + 1)) ≡ (all_below p (a + t) && p (a + t))
unfolding all_below
next p a t =
    let e : a + (t + 1) ≡ suc (a + t) = omega arith in
    rw e

pub next_sum : (f : ℕ → ℕ) (a t x : ℕ) → x ≡ sum_below f (a + t) → x + f (a + t) ≡ sum_below f (a + (t + 1))
next_sum f a t x h =
    let e : a + (t + 1) ≡ a + t + 1 = omega arith in
    rw (e, sum_more f (a + t), h)

-- one more place that has no state
pub blank_turn : (m : Model) (s t own w : ℕ) → t < 32 → (subject_at m s).states ≤ t
    → all_below (state_right m) (s * 32 + t) ≡ eqb own 0
    → eqb w 0 ≡ is_blank_stored (stored_at m (s * 32 + t))
    → all_below (state_right m) (s * 32 + (t + 1)) ≡ eqb (bit_or own w) 0
blank_turn m s t own w l g h p =
    rw (next (state_right m) (s * 32) t, h, ← gone_right m s t l g, ← p, or_none own w)

-- its exits count nothing
pub blank_sum : (m : Model) (s t exits : ℕ) → t < 32 → (subject_at m s).states ≤ t
    → (all_below (state_right m) (s * 32 + t) ≡ true → exits ≡ exits_before m (s * 32 + t))
    → all_below (state_right m) (s * 32 + (t + 1)) ≡ true → exits ≡ exits_before m (s * 32 + (t + 1))
unfolding is_blank_stored with_exits
blank_sum m s t exits l g f h =
    let b = and_both (all_below (state_right m) (s * 32 + t)) (state_right m (s * 32 + t)) (sym (next (state_right m) (s * 32) t) ∙ h) in
    let st = stored_at m (s * 32 + t) in
    let none = blank_exits_lem st (and_both (is_blank_state (with_exits st [])) (eqb st.first 0) (gone_right m s t l g ∙ b.right)).left in
    let k = next_sum (λ q. (state_at m q).exits) (s * 32) t exits (f b.left) in
    omega (arith, k, none)

-- ---- a model with a fault

pub no_subject_lem : (m : Model) (s : ℕ) → s < 16 → subject_right m s ≡ false → valid m ≡ false
unfolding valid
no_subject_lem m s l e =
    rw (and_false (within 1 m.n 16 && start_right m.n m.start) (all_below (subject_right m) 16) (all_stop (subject_right m) s 16 l e))

pub no_places_lem : (m : Model) (p : ℕ) → p ≤ 512 → all_below (state_right m) p ≡ false → valid m ≡ false
unfolding valid
no_places_lem m p l e =
    rw (and_false ((within 1 m.n 16 && start_right m.n m.start) && all_below (subject_right m) 16) (all_below (state_right m) 512) off)
  where
    off : all_below (state_right m) 512 ≡ false
    off = is_false (all_below (state_right m) 512) (λ (h : all_below (state_right m) 512 ≡ true).
        not_both (all_by (state_right m) p (λ i k. all_each (state_right m) 512 h i (omega arith))) e)

pub no_place_lem : (m : Model) (p : ℕ) → p < 512 → state_right m p ≡ false → valid m ≡ false
no_place_lem m p l e = no_places_lem m 512 (omega arith) (all_stop (state_right m) p 512 l e)

-- ---- a model with none

pub all_right : (m : Model) (exits : ℕ) → (within 1 m.n 16 && start_right m.n m.start) ≡ true
    → all_below (subject_right m) 16 ≡ true → all_below (state_right m) 512 ≡ true → exits ≡ exits_before m 512
    → (leb exits 1024 && none_after exits m.exits) ≡ valid m
unfolding valid exits_in_all no_more_exits
all_right m exits h a b e = rw (h, a, b, ← e)
