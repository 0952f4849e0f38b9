use Prim.Native.Nat.{ℕ, ◌+◌, ◌*◌, ◌≤◌, ◌<◌}
use mathlib.Core.Path.{◌≡◌, sym, ap, subst, ◌∙◌}
use mathlib.Core.Bool.{Bool, true, false, ◌&&◌}
use native.Mathlib.Nat.{add-zero}
use native.Mathlib.Omega.{arith}
use borrow.Author.Tests.{eq-eqb, ne_eqb}
use Rattle.sets.specs.Below.{all_below}
use Rattle.sets.specs.Tests.{within}
use Rattle.sets.proofs.Arrays.{each_holds}
use Rattle.sets.proofs.Below.{all_start, all_more, all_end, sum_start, sum_bound}
use Rattle.sets.proofs.Tests.{and_true}
use Rattle.model.specs.Records.{blank_stored, with_exits}
use Rattle.model.specs.Valid.{subject_at, stored_at, state_at, stored_valid, start_right, subject_valid, state_right, exits_before, valid}
use Rattle.model.specs.declared.Model.{Model}
use mathlib.Core.List.{List, [], ◌∷◌}
use mir.Val.{Val}
use denote.Array.{each}
use denote.Shadow.{shadow}
use Rattle.model.specs.declared.Stored.{Stored}
use Rattle.model.specs.contracts.Stored as stored
use Rattle.model.proofs.BlankLaws.{kind_seen, few_states, there_right, next, next_sum, blank_turn, blank_sum, no_subject_lem, no_place_lem, no_places_lem, all_right}
use Rattle.model.proofs.valid.is_valid.Goals as goal

abbrev head : Model → Bool
head m = within 1 m.n 16 && start_right m.n m.start

no_head : (m : Model) → head m ≡ false → valid m ≡ false
unfolding valid
no_head m e = rw e

-- no state has more exits than a byte can say
exits_small : (m : Model) (us : List Val) → shadow (each Stored (stored.the_row).own_val m.states us) → (i : ℕ) → (state_at m i).exits ≤ 255
unfolding with_exits
exits_small m us h i = each_holds (λ st. st.exits ≤ 255) (stored.the_row).own_val blank_stored (omega arith) (λ x u (p : shadow ((stored.the_row).own_val x (u ∷ []))). omega (arith, p.1.1.1.0.1)) m.states us h i

-- a subject that is right has at most 32 states
few : (m : Model) (s kind : ℕ) {b : Bool} → b ≡ subject_valid m.n s (subject_at m s) kind → b ≡ true → (subject_at m s).states ≤ 32
few m s kind e f = few_states m.n s (subject_at m s) kind (sym e ∙ f)

-- a state is right where what is kept of it is
state_is : (m : Model) (s t exits : ℕ) {b : Bool} → t < 32 → t < (subject_at m s).states → exits ≡ exits_before m (s * 32 + t)
    → b ≡ stored_valid m.exits m.n (subject_at m s).states exits (stored_at m (s * 32 + t)) → state_right m (s * 32 + t) ≡ b
state_is m s t exits l h e f =
    sym (there_right m s t l h) ∙ ap (λ (k : ℕ). stored_valid m.exits m.n (subject_at m s).states k (stored_at m (s * 32 + t))) (sym e) ∙ sym f

-- ---- n and the start mask

pub returns-then-not-head_right : goal.returns-then-not-head_right
returns-then-not-head_right c = sym (no_head _ (sym c.head_right.ensures ∙ c.if-not-head_right.true))

-- ---- the subjects

pub loop-s-init : goal.loop-s-init
loop-s-init c = (all_start _, all_start _, sym (sum_start _))

pub returns-then-not-subject_valid : goal.returns-then-not-subject_valid
returns-then-not-subject_valid c =
    sym (no_subject_lem c.args.m c.loop-s.s c.loop-s-test.true (sym (kind_seen c.args.m c.loop-s.s) ∙ sym c.subject_valid.ensures ∙ c.if-not-subject_valid.true))

-- ---- its states

pub loop-t-init : goal.loop-t-init
loop-t-init c =
    let inv = c.loop-s.invariant in
    (rw add-zero inv.1, rw add-zero inv.2)

pub overflow_add-st : goal.overflow_add-st
overflow_add-st c = omega (arith, few c.args.m c.loop-s.s _ c.subject_valid.ensures c.if-not-subject_valid.false, c.loop-t-test.true, c.loop-s-test.true)

pub offset_bounds-m-s-in-loop-t : goal.offset_bounds-m-s-in-loop-t
offset_bounds-m-s-in-loop-t c = omega (arith, few c.args.m c.loop-s.s _ c.subject_valid.ensures c.if-not-subject_valid.false, c.loop-t-test.true, c.loop-s-test.true)

pub bounds-m-s-in-loop-t : goal.bounds-m-s-in-loop-t
bounds-m-s-in-loop-t c = omega (arith, few c.args.m c.loop-s.s _ c.subject_valid.ensures c.if-not-subject_valid.false, c.loop-t-test.true, c.loop-s-test.true)

pub returns-then-not-stored_valid : goal.returns-then-not-stored_valid
returns-then-not-stored_valid c =
    let m = c.args.m in
    let s = c.loop-s.s in
    let l = c.loop-t-test.true in
    let most = few m s _ c.subject_valid.ensures c.if-not-subject_valid.false in
    let is = state_is m s c.loop-t.t _ (omega (arith, l, most)) l c.loop-t.invariant.1 c.stored_valid.ensures in
    sym (no_place_lem m (s * 32 + c.loop-t.t) (omega (arith, l, most, c.loop-s-test.true)) (is ∙ c.if-not-stored_valid.true))

pub overflow_cast-exits : goal.overflow_cast-exits
unfolding with_exits
overflow_cast-exits c =
    let small = exits_small c.args.m _ c.well_formed.0.1.1.1.1.1.0.1.1 in
    omega (arith, small (c.loop-s.s * 32 + c.loop-t.t))

pub overflow_add-exits : goal.overflow_add-exits
unfolding with_exits
overflow_add-exits c =
    let m = c.args.m in
    let at = c.loop-s.s * 32 + c.loop-t.t in
    let there = few m c.loop-s.s _ c.subject_valid.ensures c.if-not-subject_valid.false in
    let small = exits_small m _ c.well_formed.0.1.1.1.1.1.0.1.1 in
    omega (arith, c.loop-t.invariant.1, there, c.loop-t-test.true, c.loop-s-test.true, small at, sum_bound (λ q. (state_at m q).exits) 255 at (λ i l. small i))

pub loop-t-preserved : goal.loop-t-preserved
unfolding with_exits
loop-t-preserved c =
    let m = c.args.m in
    let s = c.loop-s.s in
    let t = c.loop-t.t in
    let l = c.loop-t-test.true in
    let inv = c.loop-t.invariant in
    let most = few m s _ c.subject_valid.ensures c.if-not-subject_valid.false in
    let is = state_is m s t _ (omega (arith, l, most)) l inv.1 c.stored_valid.ensures in
    (next (state_right m) (s * 32) t ∙ and_true inv.0 (is ∙ c.if-not-stored_valid.false), next_sum (λ q. (state_at m q).exits) (s * 32) t _ inv.1)

-- ---- its places without a state

pub loop-t-2-init : goal.loop-t-2-init
loop-t-2-init c =
    let m = c.args.m in
    let s = c.loop-s.s in
    let at = c.loop-t in
    let last : at.t ≡ (subject_at m s).states = omega (arith, at.auto.t-end, c.loop-t-test.false) in
    (subst (λ (k : ℕ). all_below (state_right m) (s * 32 + k) ≡ true) last at.invariant.0, λ h. at.invariant.1 ∙ ap (λ (k : ℕ). exits_before m (s * 32 + k)) last)

pub loop-t-2-preserved : goal.loop-t-2-preserved
loop-t-2-preserved c =
    let m = c.args.m in
    let s = c.loop-s.s in
    let at = c.loop-t-2 in
    let l = c.loop-t-2-test.true in
    let past = at.auto.t in
    (blank_turn m s at.t at.own _ l past at.invariant.0 c.bits-own.ensures, blank_sum m s at.t _ l past at.invariant.1)

pub returns-then-own-ne0 : goal.returns-then-own-ne0
returns-then-own-ne0 c =
    let at = c.loop-t-2 in
    sym (no_places_lem c.args.m (c.loop-s.s * 32 + at.t) (omega (arith, c.loop-s-test.true, at.auto.t-end (few c.args.m c.loop-s.s _ c.subject_valid.ensures c.if-not-subject_valid.false))) (at.invariant.0 ∙ ne_eqb _ 0 c.if-own-ne0.true))

pub loop-s-preserved : goal.loop-s-preserved
loop-s-preserved c =
    let m = c.args.m in
    let s = c.loop-s.s in
    let at = c.loop-t-2 in
    let most = few m s _ c.subject_valid.ensures c.if-not-subject_valid.false in
    let e : s * 32 + at.t ≡ (s + 1) * 32 = omega (arith, at.auto.t-end most, c.loop-t-2-test.false) in
    let all : all_below (state_right m) (s * 32 + at.t) ≡ true = at.invariant.0 ∙ eq-eqb _ 0 c.if-own-ne0.false in (
      all_more _ _ c.loop-s.invariant.0 (sym (kind_seen m s) ∙ sym c.subject_valid.ensures ∙ c.if-not-subject_valid.false),
      subst (λ (k : ℕ). all_below (state_right m) k ≡ true) e all,
      at.invariant.1 all ∙ ap (exits_before m) e,
    )

-- ---- the exits

pub returns : goal.returns
returns c =
    let m = c.args.m in
    let at = c.loop-s in
    let inv = at.invariant in
    let last : at.s * 32 ≡ 512 = omega (arith, at.auto.s-end, c.loop-s-test.false) in
    c.no_more.ensures
    ∙ all_right m _ (sym c.head_right.ensures ∙ c.if-not-head_right.false)
    (all_end _ _ _ at.auto.s-end c.loop-s-test.false inv.0)
    (subst (λ (k : ℕ). all_below (state_right m) k ≡ true) last inv.1)
    (inv.2 ∙ ap (exits_before m) last)
