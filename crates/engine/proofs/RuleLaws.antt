-- Laws of the rules of a step: the first rule that holds refuses, by its number; and which rules each command has.
use mathlib.Core.Path.{◌≡◌, refl, sym, ap, subst, ◌∙◌}
use mathlib.Core.Logic.{◌↔◌}
use mathlib.Core.Bool.{Bool, true, false, ◌&&◌, cond}
use mathlib.Core.List.{List, [], ◌∷◌, ◌++◌}
use Prim.Native.Nat.{ℕ, zero, suc, ◌≤◌, ◌<◌, suc-le-suc}
use native.Mathlib.Nat.{not-suc-le-zero, le_of_suc-le-suc}
use native.Mathlib.Omega.{arith}
use borrow.Author.Tests.{leb-false, le-leb, lt-ltb, ltb-true, ne_eqb}
use lib.Dec.{eqb, ltb}
use lib.ListN.{length}
use Rattle.sets.specs.Lists.{all_of, is_one_of}
use Rattle.sets.specs.Masks.{bit}
use Rattle.sets.proofs.Below.{none_some}
use Rattle.sets.proofs.Lists.{all_of_weaker, one_here, one_more}
use Rattle.sets.proofs.Masks.{bit_zero}
use Rattle.sets.proofs.Tests.{and_both, choose}
use Rattle.model.specs.Sizes.{most_subjects}
use Rattle.model.specs.declared.State.{State}
use Rattle.model.specs.declared.Subject as model_subject
use Rattle.engine.specs.configs.Answers.{refusal_of, refused}
use Rattle.engine.specs.configs.Subjects.{ended_improperly, at}
use Rattle.engine.specs.commands.Codes.{subject_of}
use Rattle.engine.specs.commands.Exact.{holds_at, number_at, FirstRule, NoRule}
use Rattle.engine.specs.commands.Reserve.{answered, reserving}
use Rattle.engine.specs.commands.Rules.{some_improper, rules_for, first_number, guarded}
use Rattle.engine.specs.Steps.{effect}
use Rattle.engine.specs.inner.Spine.{parts_of, asks_of, improper_among}
use Rattle.engine.specs.declared.Command.{Command}
use Rattle.engine.specs.declared.Command.TheVariants.{Do, Reserve, Deliver, Take, Run, Expire, Cancel, Tick}
use Rattle.engine.specs.declared.Config.{Config}
use Rattle.engine.specs.declared.Stepped.{Stepped}
use Rattle.engine.specs.declared.Subject.{Subject}

-- ---- any rules

pub guarded_append : (c : Config) (these those : List (Bool × ℕ)) (next : Stepped) → guarded c (these ++ those) next ≡ guarded c these (guarded c those next)
unfolding guarded
guarded_append c [] those next = refl
guarded_append c (rule ∷ rest) those next = ap (cond rule.0 (refused c rule.1)) (guarded_append c rest those next)

-- what holds of the configuration before and of what comes next, holds after
pub guarded_keeps : (P : Config → Type 0) (c : Config) (list : List (Bool × ℕ)) (next : Stepped) → P c → P next.config → P (guarded c list next).config
unfolding guarded
guarded_keeps P c [] next now then = then
guarded_keeps P c (rule ∷ rest) next now then =
    choose (λ (r : Stepped). P r.config) rule.0 (λ _. now) (λ _. guarded_keeps P c rest next now then)

-- before what is accepted, the refusal is the number of the first that holds
pub guarded_refusal : (c : Config) (list : List (Bool × ℕ)) (next : Stepped) → refusal_of next.answer ≡ 0
    → refusal_of (guarded c list next).answer ≡ first_number list
unfolding guarded first_number
guarded_refusal c [] next accepted = accepted
guarded_refusal c (rule ∷ rest) next accepted = go rule.0 (guarded_refusal c rest next accepted)
  where
    go : (b : Bool) → refusal_of (guarded c rest next).answer ≡ first_number rest
        → refusal_of (cond b (refused c rule.1) (guarded c rest next)).answer ≡ cond b rule.1 (first_number rest)
    go true h = refl
    go false h = h

-- where each has one of these numbers, that is 0 or one of them
pub number_in_lem : (ks : List ℕ) (list : List (Bool × ℕ)) → all_of (λ (rule : Bool × ℕ). is_one_of ks rule.1) list ≡ true
    → is_one_of (0 ∷ ks) (first_number list) ≡ true
unfolding first_number all_of
number_in_lem ks [] all = one_here 0 ks
number_in_lem ks (rule ∷ rest) all =
    let b = and_both (is_one_of ks rule.1) (all_of (λ (r : Bool × ℕ). is_one_of ks r.1) rest) all in
    choose (λ (n : ℕ). is_one_of (0 ∷ ks) n ≡ true) rule.0 (λ _. one_more 0 ks rule.1 b.left) (λ _. number_in_lem ks rest b.right)

-- every number is more than the one before it, the first more than k
unfoldable pub ascends : ℕ → List (Bool × ℕ) → Bool
ascends k [] = true
ascends k (rule ∷ rest) = ltb k rule.1 && ascends rule.1 rest

-- the first that holds refuses, with its number
pub first_refuses : (c : Config) (list : List (Bool × ℕ)) (next : Stepped) (i : ℕ) → FirstRule list i → guarded c list next ≡ refused c (number_at list i)
unfolding guarded
first_refuses c [] next i f = absurd (not-suc-le-zero f.below)
first_refuses c (rule ∷ rest) next zero f = rw f.holds
first_refuses c (rule ∷ rest) next (suc i) f =
    rw (f.before zero (omega arith))
    (first_refuses c rest next i (record { below = le_of_suc-le-suc f.below; holds = f.holds; before = λ j l. f.before (suc j) (suc-le-suc l) }))

-- where none holds, what comes next
pub none_refuses : (c : Config) (list : List (Bool × ℕ)) (next : Stepped) → NoRule list → guarded c list next ≡ next
unfolding guarded
none_refuses c [] next f = refl
none_refuses c (rule ∷ rest) next f =
    rw (f.none zero (omega arith)) (none_refuses c rest next (record { none = λ j l. f.none (suc j) (suc-le-suc l) }))

first_here : (rule : Bool × ℕ) (rest : List (Bool × ℕ)) → rule.0 ≡ true → FirstRule (rule ∷ rest) zero
first_here rule rest h = record { below = omega arith; holds = h; before = λ j l. absurd (not-suc-le-zero l) }

first_after : (rule : Bool × ℕ) (rest : List (Bool × ℕ)) (i : ℕ) → rule.0 ≡ false → FirstRule rest i → FirstRule (rule ∷ rest) (suc i)
first_after rule rest i h f = record { below = suc-le-suc f.below; holds = f.holds; before = earlier }
  where
    earlier : (j : ℕ) → j < suc i → holds_at (rule ∷ rest) j ≡ false
    earlier zero l = h
    earlier (suc j) l = f.before j (le_of_suc-le-suc l)

ascends_first : (k : ℕ) (rule : Bool × ℕ) (rest : List (Bool × ℕ)) → ascends k (rule ∷ rest) ≡ true → k < rule.1
unfolding ascends
ascends_first k rule rest up = ltb-true k rule.1 (and_both (ltb k rule.1) (ascends rule.1 rest) up).left

ascends_rest : (k : ℕ) (rule : Bool × ℕ) (rest : List (Bool × ℕ)) → ascends k (rule ∷ rest) ≡ true → ascends rule.1 rest ≡ true
unfolding ascends
ascends_rest k rule rest up = (and_both (ltb k rule.1) (ascends rule.1 rest) up).right

-- where one holds its number is more than k
pub number_above : (k : ℕ) (list : List (Bool × ℕ)) → ascends k list ≡ true → (first_number list ≡ 0 → ⊥) → k < first_number list
unfolding first_number
number_above k [] up some = absurd (some refl)
number_above k (rule ∷ rest) up some =
    let l = ascends_first k rule rest up in
    choose (λ (n : ℕ). (n ≡ 0 → ⊥) → k < n) rule.0 (λ _ _. l)
    (λ _ more. omega (arith, l, number_above rule.1 rest (ascends_rest k rule rest up) more))
    some

-- all of them are more than k
ascends_at : (k : ℕ) (list : List (Bool × ℕ)) → ascends k list ≡ true → (i : ℕ) → i < length list → k < number_at list i
ascends_at k [] up i l = absurd (not-suc-le-zero l)
ascends_at k (rule ∷ rest) up zero l = ascends_first k rule rest up
ascends_at k (rule ∷ rest) up (suc i) l =
    omega (arith, ascends_first k rule rest up, ascends_at rule.1 rest (ascends_rest k rule rest up) i (le_of_suc-le-suc l))

-- so no two rules have the same number
one_rule :
    (k : ℕ) (list : List (Bool × ℕ))
    → ascends k list ≡ true
    → (i j : ℕ)
    → i < length list
    → j < length list
    → number_at list i ≡ number_at list j
    → i ≡ j
one_rule k [] up i j l m e = absurd (not-suc-le-zero l)
one_rule k (rule ∷ rest) up zero zero l m e = refl
one_rule k (rule ∷ rest) up zero (suc j) l m e =
    absurd (omega (arith, ascends_at rule.1 rest (ascends_rest k rule rest up) j (le_of_suc-le-suc m)))
one_rule k (rule ∷ rest) up (suc i) zero l m e =
    absurd (omega (arith, ascends_at rule.1 rest (ascends_rest k rule rest up) i (le_of_suc-le-suc l)))
one_rule k (rule ∷ rest) up (suc i) (suc j) l m e =
    ap suc (one_rule rule.1 rest (ascends_rest k rule rest up) i j (le_of_suc-le-suc l) (le_of_suc-le-suc m) e)

-- a refusal with number k is by the first rule that holds, whose number is k
pub record RefusedBy (list : List (Bool × ℕ)) (k : ℕ) : Type 0 where
  pub rule : ℕ
  pub first : FirstRule list rule
  pub number : number_at list rule ≡ k

-- where what comes next is accepted, it is a rule that refuses
refused_by :
    (c : Config) (list : List (Bool × ℕ)) (next : Stepped) (k : ℕ)
    → refusal_of next.answer ≡ 0
    → (k ≡ 0 → ⊥)
    → refusal_of (guarded c list next).answer ≡ k
    → RefusedBy list k
unfolding guarded
refused_by c [] next k accepted some h = absurd (some (sym h ∙ accepted))
refused_by c (rule ∷ rest) next k accepted some h = go rule.0 refl h (λ q. refused_by c rest next k accepted some q)
  where
    go :
        (b : Bool)
        → rule.0 ≡ b
        → refusal_of (cond b (refused c rule.1) (guarded c rest next)).answer ≡ k
        → (refusal_of (guarded c rest next).answer ≡ k → RefusedBy rest k)
        → RefusedBy (rule ∷ rest) k
    go true e q f = record { rule = zero; first = first_here rule rest e; number = q }
    go false e q f =
        let r = f q in
        record { rule = suc r.rule; first = first_after rule rest r.rule e r.first; number = r.number }

-- where the numbers ascend from above k, and so none is 0, the number of the first that holds tells the step
number_from :
    (c : Config) (k : ℕ) (list : List (Bool × ℕ)) (next : Stepped)
    → ascends k list ≡ true
    → guarded c list next ≡ cond (eqb (first_number list) 0) next (refused c (first_number list))
unfolding guarded first_number
number_from c k [] next up = refl
number_from c k (rule ∷ rest) next up =
    go rule.0 (ascends_first k rule rest up) (number_from c rule.1 rest next (ascends_rest k rule rest up))
  where
    go :
        (b : Bool)
        → k < rule.1
        → guarded c rest next ≡ cond (eqb (first_number rest) 0) next (refused c (first_number rest))
        → cond b (refused c rule.1) (guarded c rest next)
        ≡ cond (eqb (cond b rule.1 (first_number rest)) 0) next (refused c (cond b rule.1 (first_number rest)))
    go true l f = rw (ne_eqb rule.1 0 (λ z. absurd (omega (arith, z))))
    go false l f = f

pub guarded_number :
    (c : Config) (list : List (Bool × ℕ)) (next : Stepped)
    → ascends 0 list ≡ true
    → guarded c list next ≡ cond (eqb (first_number list) 0) next (refused c (first_number list))
guarded_number c list next up = number_from c 0 list next up

-- and where that is 0, no rule holds
none_from_lem : (k : ℕ) (list : List (Bool × ℕ)) → ascends k list ≡ true → first_number list ≡ 0 → (j : ℕ) → holds_at list j ≡ false
unfolding first_number
none_from_lem k [] up h j = refl
none_from_lem k (rule ∷ rest) up h j =
    go rule.0 refl h (ascends_first k rule rest up) (none_from_lem rule.1 rest (ascends_rest k rule rest up)) j
  where
    go :
        (b : Bool)
        → rule.0 ≡ b
        → cond b rule.1 (first_number rest) ≡ 0
        → k < rule.1
        → (first_number rest ≡ 0 → (j : ℕ) → holds_at rest j ≡ false)
        → (j : ℕ)
        → holds_at (rule ∷ rest) j ≡ false
    go true e q l f j = absurd (omega (arith, q))
    go false e q l f zero = e
    go false e q l f (suc j) = f q j

pub number_none : (list : List (Bool × ℕ)) → ascends 0 list ≡ true → first_number list ≡ 0 → NoRule list
number_none list up h = record { none = λ j l. none_from_lem 0 list up h j }

-- past the last rule none holds either
pub none_holds : (list : List (Bool × ℕ)) → NoRule list → (j : ℕ) → holds_at list j ≡ false
none_holds [] f j = refl
none_holds (rule ∷ rest) f zero = f.none zero (omega arith)
none_holds (rule ∷ rest) f (suc j) = none_holds rest (record { none = λ i l. f.none (suc i) (suc-le-suc l) }) j

-- Before what is accepted: by the number a reader knows which rule held first.
module _ (c : Config) (list : List (Bool × ℕ)) (next : Stepped) (accepted : refusal_of next.answer ≡ 0) where
  refusal_is : (i : ℕ) → FirstRule list i → refusal_of (guarded c list next).answer ≡ number_at list i
  refusal_is i f = ap (λ (r : Stepped). refusal_of r.answer) (first_refuses c list next i f)

  -- the refusal is k, not 0, exactly where the first rule that holds has the number k
  pub refusal_number : (k : ℕ) → (k ≡ 0 → ⊥) → (refusal_of (guarded c list next).answer ≡ k) ↔ RefusedBy list k
  refusal_number k some = (refused_by c list next k accepted some, λ r. refusal_is r.rule r.first ∙ r.number)

  -- where the numbers ascend from above 0, it is that of rule i exactly where rule i is the first that holds
  pub refusal_exact :
      ascends 0 list ≡ true
      → (i : ℕ)
      → i < length list
      → (refusal_of (guarded c list next).answer ≡ number_at list i) ↔ FirstRule list i
  refusal_exact up i l = (back, refusal_is i)
    where
      back : refusal_of (guarded c list next).answer ≡ number_at list i → FirstRule list i
      back h =
          let positive = ascends_at 0 list up i l in
          let r = refused_by c list next (number_at list i) accepted (λ z. absurd (omega (arith, z))) h in
          subst (FirstRule list) (one_rule 0 list up r.rule i r.first.below l r.number) r.first

  -- and it is 0 exactly where no rule holds
  pub accepted_exact : ascends 0 list ≡ true → (refusal_of (guarded c list next).answer ≡ 0) ↔ NoRule list
  accepted_exact up = (
    λ h. number_none list up (sym (guarded_refusal c list next accepted) ∙ h),
    λ f. ap (λ (r : Stepped). refusal_of r.answer) (none_refuses c list next f) ∙ accepted,
  )

-- an effect is accepted
pub effect_accepted :
    (n : ℕ) (subjects : List model_subject.Subject) (here : State) (end : Bool) (c : Config) (k : Command)
    → refusal_of (effect n subjects here end c k).answer ≡ 0
unfolding effect reserving answered
effect_accepted n subjects here end c (Do s e w) = refl
effect_accepted n subjects here end c (Reserve s) = refl
effect_accepted n subjects here end c (Deliver s) = refl
effect_accepted n subjects here end c (Take s e) = refl
effect_accepted n subjects here end c (Run s) = refl
effect_accepted n subjects here end c (Expire s) = refl
effect_accepted n subjects here end c (Cancel s) = refl
effect_accepted n subjects here end c Tick = refl

-- ---- the rules of each command

-- their numbers ascend, from above 10
pub rules_ascend : (n : ℕ) (here : State) (x : Subject) (improper : Bool) (k : Command) → ascends 10 (rules_for n here x improper k) ≡ true
unfolding ascends
rules_ascend n here x improper (Do s e w) = refl
rules_ascend n here x improper (Reserve s) = refl
rules_ascend n here x improper (Deliver s) = refl
rules_ascend n here x improper (Take s e) = refl
rules_ascend n here x improper (Run s) = refl
rules_ascend n here x improper (Expire s) = refl
rules_ascend n here x improper (Cancel s) = refl
rules_ascend n here x improper Tick = refl

-- 11 to 20
abbrev pub own_numbers : List ℕ
own_numbers = 11 ∷ 12 ∷ 13 ∷ 14 ∷ 15 ∷ 16 ∷ 17 ∷ 18 ∷ 19 ∷ 20 ∷ []

-- each of them has one of these numbers, whatever stands in front
pub own_numbers_lem : (front : List ℕ) (n : ℕ) (here : State) (x : Subject) (improper : Bool) (k : Command)
    → all_of (λ (rule : Bool × ℕ). is_one_of (front ++ own_numbers) rule.1) (rules_for n here x improper k) ≡ true
unfolding is_one_of all_of
own_numbers_lem [] n here x improper (Do s e w) = refl
own_numbers_lem [] n here x improper (Reserve s) = refl
own_numbers_lem [] n here x improper (Deliver s) = refl
own_numbers_lem [] n here x improper (Take s e) = refl
own_numbers_lem [] n here x improper (Run s) = refl
own_numbers_lem [] n here x improper (Expire s) = refl
own_numbers_lem [] n here x improper (Cancel s) = refl
own_numbers_lem [] n here x improper Tick = refl
own_numbers_lem (j ∷ front) n here x improper k =
    all_of_weaker _ _ (rules_for n here x improper k) (λ rule. one_more j (front ++ own_numbers) rule.1) (own_numbers_lem front n here x improper k)

-- a list that ascends from above k does so from above a smaller number
pub ascends_from : (j k : ℕ) (list : List (Bool × ℕ)) → j ≤ k → ascends k list ≡ true → ascends j list ≡ true
unfolding ascends
ascends_from j k [] l up = refl
ascends_from j k (rule ∷ rest) l up =
    rw (lt-ltb j rule.1 (omega (arith, ascends_first k rule rest up)), ascends_rest k rule rest up)

-- a subject that is not there is refused with 11, whatever else is read
pub number_absent : (n : ℕ) (here : State) (x : Subject) (improper : Bool) (k : Command) → 1 ≤ n → n ≤ subject_of k
    → first_number (rules_for n here x improper k) ≡ 11
unfolding first_number
number_absent n here x improper (Do s e w) l h = rw (le-leb n s h)
number_absent n here x improper (Reserve s) l h = rw (le-leb n s h)
number_absent n here x improper (Deliver s) l h = rw (le-leb n s h)
number_absent n here x improper (Take s e) l h = rw (le-leb n s h)
number_absent n here x improper (Run s) l h = rw (le-leb n s h)
number_absent n here x improper (Expire s) l h = rw (le-leb n s h)
number_absent n here x improper (Cancel s) l h = rw (le-leb n s h)
number_absent n here x improper Tick l h = absurd (omega (arith, l, h))

-- where no rule holds the subject is there
pub subject_below : (n : ℕ) (here : State) (x : Subject) (improper : Bool) (k : Command) → 1 ≤ n → NoRule (rules_for n here x improper k) → subject_of k < n
subject_below n here x improper (Do s e w) l h = leb-false n s (h.none 0 (omega arith))
subject_below n here x improper (Reserve s) l h = leb-false n s (h.none 0 (omega arith))
subject_below n here x improper (Deliver s) l h = leb-false n s (h.none 0 (omega arith))
subject_below n here x improper (Take s e) l h = leb-false n s (h.none 0 (omega arith))
subject_below n here x improper (Run s) l h = leb-false n s (h.none 0 (omega arith))
subject_below n here x improper (Expire s) l h = leb-false n s (h.none 0 (omega arith))
subject_below n here x improper (Cancel s) l h = leb-false n s (h.none 0 (omega arith))
subject_below n here x improper Tick l h = l

-- whether a receiver ended improperly is read only where it is asked
pub improper_read : (n : ℕ) (here : State) (x : Subject) (c : Config) (k : Command)
    → rules_for n here x (improper_among (asks_of here k) c) k ≡ rules_for n here x (some_improper here c) k
unfolding improper_among parts_of some_improper
improper_read n here x c (Do s e w) = refl
improper_read n here x c (Reserve s) = refl
improper_read n here x c (Deliver s) = refl
improper_read n here x c (Take s e) = refl
improper_read n here x c (Run s) = refl
improper_read n here x c (Expire s) = refl
improper_read n here x c (Cancel s) = refl
improper_read n here x c Tick = refl

-- of no one
pub improper_none : (c : Config) → improper_among 0 c ≡ false
unfolding improper_among
improper_none c = none_some (λ r. bit 0 r && eqb (at c r).mode ended_improperly) most_subjects (λ r _. rw (bit_zero r))
