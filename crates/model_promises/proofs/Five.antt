-- Refusal 5 is given for what it lists and for nothing else: where stages 1 to 4 pass, no rule that one record shows is left to break.
use mathlib.Core.Path.{◌≡◌, refl, ap, ◌∙◌}
use mathlib.Core.Bool.{Bool, true, false, ◌&&◌, not, cond}
use Prim.Native.Nat.{ℕ, zero, suc, ◌+◌, ◌*◌, ◌/◌, ◌<◌}
use borrow.Author.Tests.{ltb-true, ltb-false, le-leb, leb-true}
use lib.Dec.{ltb, leb, eqb}
use Rattle.sets.specs.Below.{all_below}
use Rattle.sets.proofs.Tests.{within_true}
use Rattle.sets.proofs.Below.{all_same}
use Rattle.model.specs.Decoded.{model_of, in_place}
use Rattle.model.specs.Loading.{across_right}
use Rattle.model.specs.Rules.{state_reaches, exit_reaches, row_reaches}
use Rattle.model.specs.Valid.{subject_at, state_at, exit_at, row_at, exit_valid, state_own, state_valid, row_valid, subject_own, subject_valid, kind_at, subject_right, state_right, start_right, exits_in_all, valid}
use Rattle.model.proofs.BlankLaws.{and_assoc, and_rest}
use Rattle.model.specs.declared.Model.{Model}
use Rattle.model.specs.declared.State.{State}
use Rattle.model.specs.declared.Subject.{Subject}
use Rattle.model_promises.specs.Across.{initial_there, rows_there, state_there, row_five}
use Rattle.model_promises.specs.Promises.{OnlyFive}
use Rattle.model_promises.proofs.Shown.{Shown, ShownSubject, ShownState, shown}

-- ---- tests

and_none : (a : Bool) → (a && false) ≡ false
and_none true = refl
and_none false = refl

all_and : (p q : ℕ → Bool) (n : ℕ) → all_below (λ i. p i && q i) n ≡ (all_below p n && all_below q n)
unfolding all_below
all_and p q zero = refl
all_and p q (suc n) = rw (all_and p q n) (swap (all_below p n) (all_below q n) (p n) (q n))
  where
    swap : (a b c d : Bool) → (a && b && (c && d)) ≡ (a && c && (b && d))
    swap true true c d = refl
    swap true false true d = refl
    swap true false false d = refl
    swap false b c d = refl

-- ---- each rule that one record shows holds: what is left of a test is what asks for more

module _ {n s : ℕ} {sub : Subject} (g : ShownSubject n s sub) where
  own_left : (kind : ℕ) → subject_own n s sub kind ≡ cond (ltb s n) (ltb sub.initial sub.states && not (eqb kind 7)) true
  unfolding subject_own
  own_left kind = go (ltb s n) refl
    where
      go : (b : Bool) → ltb s n ≡ b → subject_own n s sub kind ≡ cond (ltb s n) (ltb sub.initial sub.states && not (eqb kind 7)) true
      go true e =
          let w = g.states (ltb-true s n e) in
          rw (e, within_true w.low w.high) (and_rest _ _ (le-leb sub.rows 8 g.rows))
      go false e = rw e (g.gone (ltb-false s n e))

  row_left : (k : ℕ) → k < 8 → row_valid n sub k ≡ cond (ltb k sub.rows) (row_reaches n (row_at sub k)) true
  unfolding row_valid
  row_left k l = go (ltb k sub.rows) refl
    where
      go : (b : Bool) → ltb k sub.rows ≡ b → row_valid n sub k ≡ cond (ltb k sub.rows) (row_reaches n (row_at sub k)) true
      go true e = let h = ltb-true k sub.rows e in rw (e, g.row k h) (and_rest _ _ (g.ascends k h))
      go false e = rw e (g.blank k l (ltb-false k sub.rows e))

module _ {states t : ℕ} {st : State} (g : ShownState states t st) (n : ℕ) where
  state_left : state_own n states t st ≡ cond (ltb t states) (state_reaches n states st) true
  unfolding state_own
  state_left = go (ltb t states) refl
    where
      go : (b : Bool) → ltb t states ≡ b → state_own n states t st ≡ cond (ltb t states) (state_reaches n states st) true
      go true e = rw (e, g.fits (ltb-true t states e))
      go false e = rw e (g.gone (ltb-false t states e))

  exit_left : (x : ℕ) → x < 8 → exit_valid n states st x ≡ cond (ltb x st.exits) (exit_reaches n states (exit_at st x)) true
  unfolding exit_valid
  exit_left x l = go (ltb x st.exits) refl
    where
      go : (b : Bool) → ltb x st.exits ≡ b → exit_valid n states st x ≡ cond (ltb x st.exits) (exit_reaches n states (exit_at st x)) true
      go true e = rw (e, g.exit x l (ltb-true x st.exits e))
      go false e = rw e (g.blank x l (ltb-false x st.exits e))

module _ (m : Model) (g : Shown m) where
  subject_left : (s : ℕ) → s < 16 → subject_right m s ≡ (initial_there m s && rows_there m s)
  unfolding subject_right subject_valid initial_there rows_there
  subject_left s l =
      let a = own_left (g.subject s l) (kind_at m.states (s * 32 + (subject_at m s).initial)) in
      let b = all_same (row_valid m.n (subject_at m s)) _ 8 (row_left (g.subject s l)) in
      ap (λ (x : Bool). x && all_below (row_valid m.n (subject_at m s)) 8) a ∙ ap (λ (x : Bool). initial_there m s && x) b

  state_right_left : (p : ℕ) → p < 512 → state_right m p ≡ state_there m p
  unfolding state_right state_valid state_there
  state_right_left p l =
      let n = m.n in
      let states = (subject_at m (p / 32)).states in
      let h = g.state p l in
      rw (state_left h n, all_same (exit_valid n states (state_at m p)) _ 8 (exit_left h n)) (and_rest _ _ (g.first p l))

  valid_left : valid m ≡ (start_right m.n m.start && all_below (initial_there m) 16 && all_below (rows_there m) 16 && all_below (state_there m) 512 && leb (exits_in_all m) 1024)
  unfolding valid
  valid_left =
      let w = g.subjects in
      let a = all_same (subject_right m) (λ s. initial_there m s && rows_there m s) 16 subject_left ∙ all_and (initial_there m) (rows_there m) 16 in
      let b = all_same (state_right m) (state_there m) 512 state_right_left in
      rw (within_true w.low w.high, a, b)
      (and_rest _ _ g.no_more
      ∙ ap (λ (x : Bool). x && all_below (state_there m) 512 && leb (exits_in_all m) 1024)
      (and_assoc (start_right m.n m.start) (all_below (initial_there m) 16) (all_below (rows_there m) 16)))

-- more exits than there is room for: not valid
too_many : (m : Model) → leb (exits_in_all m) 1024 ≡ false → valid m ≡ false
unfolding valid
too_many m h = rw (h, and_none)

pub only_five : OnlyFive
unfolding row_five
only_five file bytes p1 p3 p4 = go (in_place file) refl (leb (exits_in_all (model_of file)) 1024) refl
  where
    go : (a : Bool) → in_place file ≡ a → (b : Bool) → leb (exits_in_all (model_of file)) 1024 ≡ b → across_right file ≡ row_five file
    go true e true f = rw e (valid_left (model_of file) (shown file bytes p1 p3 p4 e (leb-true (exits_in_all (model_of file)) 1024 f)))
    go true e false f = rw (e, too_many (model_of file) f, f, and_none)
    go false e b f = rw e
