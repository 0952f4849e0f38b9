-- The rules for a state, grouped by what its kind leaves to ask.
use mathlib.Core.Path.{◌≡◌, refl, sym, ap, ◌∙◌}
use mathlib.Core.Logic.{◌⊎◌, ⊎_elim}
use mathlib.Core.Bool.{Bool, true, false, ◌&&◌, ◌||◌, not}
use Prim.Native.Nat.{ℕ, ◌≤◌, ◌<◌}
use native.Mathlib.Omega.{arith}
use borrow.Author.Tests.{eqb-true, eqb-false, eq-eqb, ne_eqb, le-leb, lt-leb, ltb-false}
use lib.Dec.{eqb, ltb}
use Rattle.model.specs.Sizes.{most_exits}
use Rattle.sets.specs.Tests.{within, same, none_from}
use Rattle.sets.proofs.Tests.{and_true, is_false, within_true, within_is}
use Rattle.sets.proofs.Masks.{none_past}
use Rattle.model.specs.Rules.{any, none, Shape, shape_of, names_fit, state_fits, there_or_any, there_or_none, state_reaches, state_fits_in}
use Rattle.model.specs.declared.State.{State}
use Rattle.model.proofs.BlankLaws.{and_rest}

-- ---- the same tests in another order

regroup : (w f v s r a t n : Bool)
    → (w && ((t && f) && ((v && (s && a)) && (r && n)))) ≡ (((((w && f) && v) && s) && r) && ((a && t) && n))
regroup false f v s r a t n = refl
regroup true false v s r a false n = refl
regroup true false v s r a true n = refl
regroup true true false s r a false n = refl
regroup true true false s r a true n = refl
regroup true true true false r a false n = refl
regroup true true true false r a true n = refl
regroup true true true true false false false n = refl
regroup true true true true false false true n = refl
regroup true true true true false true false n = refl
regroup true true true true false true true n = refl
regroup true true true true true false false n = refl
regroup true true true true true false true n = refl
regroup true true true true true true false n = refl
regroup true true true true true true true n = refl

-- of a state with such a shape: exits, names, targets and receivers, each as its kind asks
right : (n states : ℕ) (st : State) (sh : Shape) → shape_of st.kind ≡ sh
    → {exits names waits sends : Bool}
    → exits ≡ within sh.least st.exits sh.most
    → names ≡ (there_or_any n st.sender && names_fit sh.filters st.sender st.typ)
    → waits ≡ ((sh.waits || (eqb st.timeout none && eqb st.cancel none)) && (same (eqb st.after 0) (eqb st.timeout none) && (there_or_none states st.timeout && there_or_none states st.cancel)))
    → sends ≡ (same (eqb st.receivers 0) (not sh.sends) && none_from n st.receivers)
    → (exits && (names && (waits && sends))) ≡ state_fits_in n states st
unfolding state_fits state_reaches
right n states st sh e w g y x =
    rw (w, g, y, x, e)
    (regroup (within sh.least st.exits sh.most) (names_fit sh.filters st.sender st.typ) (sh.waits || (eqb st.timeout none && eqb st.cancel none)) (same (eqb st.after 0) (eqb st.timeout none)) (same (eqb st.receivers 0) (not sh.sends)) (there_or_none states st.timeout && there_or_none states st.cancel) (there_or_any n st.sender) (none_from n st.receivers))

-- ---- what each of them asks

exact : (k x : ℕ) → eqb x k ≡ within k x k
exact k x = go (eqb x k) refl
  where
    go : (b : Bool) → eqb x k ≡ b → eqb x k ≡ within k x k
    go true e = let q = eqb-true x k e in e ∙ sym (within_true {lo = k} {x = x} {hi = k} (omega arith) (omega arith))
    go false e =
        e ∙ sym (is_false (within k x k) (λ (h : within k x k ≡ true). let w = within_is k x k h in eqb-false x k e (omega (arith, w.low, w.high))))

-- no number of exits is right
no_room : (x : ℕ) → false ≡ within 1 x 0
no_room x = sym (is_false (within 1 x 0) (λ (h : within 1 x 0 ≡ true). let w = within_is 1 x 0 h in omega (arith, w.low, w.high)))

-- a state without sender and type
no_names : (n : ℕ) (st : State) → names_fit false st.sender st.typ ≡ (there_or_any n st.sender && names_fit false st.sender st.typ)
unfolding names_fit
no_names n st = go (ltb st.sender n) (eqb st.sender any) (eqb st.typ any)
  where
    go : (below sender typ : Bool) → (sender && typ) ≡ ((below || sender) && (sender && typ))
    go true sender typ = refl
    go false true typ = refl
    go false false typ = refl

-- a state without timeout and cancel
no_targets : (states : ℕ) (st : State)
    → (eqb st.after 0 && (eqb st.timeout none && eqb st.cancel none))
    ≡ ((eqb st.timeout none && eqb st.cancel none) && (same (eqb st.after 0) (eqb st.timeout none) && (there_or_none states st.timeout && there_or_none states st.cancel)))
no_targets states st = go (eqb st.after 0) (eqb st.timeout none) (eqb st.cancel none) (ltb st.timeout states) (ltb st.cancel states)
  where
    go : (after timeout cancel a b : Bool)
        → (after && (timeout && cancel)) ≡ ((timeout && cancel) && (same after timeout && ((a || timeout) && (b || cancel))))
    go false false cancel a b = refl
    go true false cancel a b = refl
    go false true false a b = refl
    go true true false a b = refl
    go false true true a b = refl
    go true true true false false = refl
    go true true true false true = refl
    go true true true true false = refl
    go true true true true true = refl

-- no receivers, and some
no_receivers : (n mask : ℕ) → eqb mask 0 ≡ (same (eqb mask 0) true && none_from n mask)
no_receivers n mask = go (eqb mask 0) refl
  where
    go : (b : Bool) → eqb mask 0 ≡ b → eqb mask 0 ≡ (same (eqb mask 0) true && none_from n mask)
    go true e = let z = eqb-true mask 0 e in rw e (sym (rw z (none_past 0 n 0 (omega arith) (omega arith))))
    go false e = rw e

receivers : (n mask : ℕ) → (not (eqb mask 0) && none_from n mask) ≡ (same (eqb mask 0) false && none_from n mask)
receivers n mask = go (eqb mask 0)
  where
    go : (none : Bool) → (not none && none_from n mask) ≡ (same none false && none_from n mask)
    go true = refl
    go false = refl

-- ---- what is left to ask, by kind

module _ (n states : ℕ) (st : State) where
  -- a state that may wait, and one that never does
  abbrev may_wait : Bool
  may_wait = same (eqb st.after 0) (eqb st.timeout none) && (there_or_none states st.timeout && there_or_none states st.cancel)

  abbrev never_wait : Bool
  never_wait = eqb st.after 0 && (eqb st.timeout none && eqb st.cancel none)

  -- names nobody, or somebody who is there
  abbrev nobody : Bool
  nobody = names_fit false st.sender st.typ

  abbrev somebody : Bool
  somebody = there_or_any n st.sender && names_fit true st.sender st.typ

  pub asks_1 : (st.kind ≡ 1) ⊎ (st.kind ≡ 3) → (within 1 st.exits most_exits && (nobody && (may_wait && eqb st.receivers 0))) ≡ state_fits_in n states st
  unfolding shape_of
  asks_1 k = right n states st (shape_of 1) (⊎_elim (λ h. ap shape_of h) (λ h. ap shape_of h) k) refl (no_names n st) refl (no_receivers n st.receivers)

  pub asks_2 : st.kind ≡ 2 → (eqb st.exits 1 && (nobody && (may_wait && (not (eqb st.receivers 0) && none_from n st.receivers)))) ≡ state_fits_in n states st
  unfolding shape_of
  asks_2 k = right n states st (shape_of 2) (ap shape_of k) (exact 1 st.exits) (no_names n st) refl (receivers n st.receivers)

  pub asks_4 : 4 ≤ st.kind → st.kind ≤ 5 → (eqb st.exits 1 && (somebody && (never_wait && eqb st.receivers 0))) ≡ state_fits_in n states st
  unfolding shape_of
  asks_4 lo hi =
      let kind = st.kind in
      let e : shape_of kind ≡ shape_of 4 = simp (ne_eqb kind 1 (grind arith), ne_eqb kind 2 (omega arith), ne_eqb kind 3 (grind arith), le-leb 4 kind (grind arith), le-leb kind 5 (omega arith)) in
      right n states st (shape_of 4) e (exact 1 st.exits) refl (no_targets states st) (no_receivers n st.receivers)

  pub asks_6 : st.kind ≡ 6 → (eqb st.exits 2 && (somebody && (never_wait && eqb st.receivers 0))) ≡ state_fits_in n states st
  unfolding shape_of
  asks_6 k = right n states st (shape_of 6) (ap shape_of k) (exact 2 st.exits) refl (no_targets states st) (no_receivers n st.receivers)

  pub asks_7 : st.kind ≡ 7 → (eqb st.exits 0 && (nobody && (never_wait && eqb st.receivers 0))) ≡ state_fits_in n states st
  unfolding shape_of
  asks_7 k = right n states st (shape_of 7) (ap shape_of k) (exact 0 st.exits) (no_names n st) (no_targets states st) (no_receivers n st.receivers)

  -- no other kind has room for exits
  pub asks_none : (st.kind ≡ 0) ⊎ (7 < st.kind) → false ≡ state_fits_in n states st
  unfolding shape_of
  asks_none k =
      let kind = st.kind in
      let e : shape_of kind ≡ shape_of 0 =
      ⊎_elim
      (λ (z : kind ≡ 0). ap shape_of z)
      (λ (h : 7 < kind). simp (ne_eqb kind 1 (omega arith), ne_eqb kind 2 (omega arith), ne_eqb kind 3 (omega arith), le-leb 4 kind (omega arith), lt-leb kind 5 (omega arith), ne_eqb kind 6 (omega arith), ne_eqb kind 7 (omega arith)))
      k in
      right n states st (shape_of 0) e (no_room st.exits) refl refl refl

-- ---- whatever a byte names is there, of 255

there : (x : ℕ) → x < 256 → there_or_any 255 x ≡ true
there x l = go (ltb x 255) refl
  where
    go : (b : Bool) → ltb x 255 ≡ b → there_or_any 255 x ≡ true
    go true e = rw e
    go false e = rw e (eq-eqb x 255 (omega (arith, ltb-false x 255 e)))

reaches_all : (st : State) → st.sender < 256 → st.timeout < 256 → st.cancel < 256 → st.receivers < 65536 → state_reaches 255 255 st ≡ true
unfolding state_reaches
reaches_all st s t c r =
    and_true (and_true (and_true (there st.timeout t) (there st.cancel c)) (there st.sender s)) (none_past 16 255 st.receivers (omega arith) r)

pub largest : (st : State) → st.sender < 256 → st.timeout < 256 → st.cancel < 256 → st.receivers < 65536
    → state_fits_in any any st ≡ state_fits st
largest st s t c r = and_rest (state_fits st) (state_reaches 255 255 st) (reaches_all st s t c r)
