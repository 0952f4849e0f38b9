-- Laws of the calls: what the loader's verdict says of the model, and by which number a call is refused.
use Rattle.std.specs.Prelude.{Ok, Err, is_err}
use mathlib.Core.Path.{◌≡◌, refl, sym, ap, ◌∙◌}
use mathlib.Core.Logic.{◌≢◌}
use mathlib.Core.Bool.{Bool, true, false, ◌&&◌, not, cond}
use mathlib.Core.List.{List, [], ◌∷◌}
use Prim.Native.Nat.{ℕ, ◌/◌, ◌≤◌, ◌<◌}
use native.Mathlib.Omega.{arith}
use borrow.Author.Tests.{eqb-true, eq-eqb, ne_eqb, leb-true, ltb-false, lt-ltb, le-ltb}
use lib.Dec.{eqb, leb, ltb}
use lib.ListN.{length}
use Rattle.sets.proofs.Tests.{not_both, and_both}
use Rattle.blocks.specs.Verdicts as verdicts
use Rattle.blocks.specs.Verdicts.{Verdict, no_fault}
use Rattle.blocks.specs.declared.Fault.TheVariants.{Length, Check, Block, Record, Across}
use Rattle.model.specs.Loading.{loaded, empty_model}
use Rattle.model.specs.Valid.{valid}
use Rattle.model.specs.declared.Loaded.{Loaded}
use Rattle.model.specs.declared.Model.{Model}
use Rattle.model_promises.proofs.Loads.{loads_valid, refused_empty}
use Rattle.engine.specs.configs.Answers.{refusal_of}
use Rattle.engine.specs.configs.Fresh.{fresh_of}
use Rattle.engine.specs.configs.Subjects.{here_of}
use Rattle.engine.specs.configs.Valid.{config_valid}
use Rattle.engine.specs.declared.Config.{Config}
use Rattle.engine.specs.declared.Stepped.{Stepped}
use Rattle.engine.specs.commands.Codes.{subject_of, is_code, code_in, command_in}
use Rattle.engine.specs.commands.Exact.{coded_rules}
use Rattle.engine.specs.commands.Rules.{rules_for, rules, first_number}
use Rattle.engine.specs.declared.Command.{Command}
use Rattle.engine.specs.declared.Subject.{Subject}
use Rattle.model.specs.declared.State.{State}
use Rattle.engine.specs.Steps.{coded_step}
use Rattle.engine.specs.Tapes.{commands, config_after, written}
use Rattle.engine.proofs.RuleLaws.{guarded_refusal, number_above, rules_ascend}
use Rattle.engine.proofs.TapeLaws.{ran_refusal, refused_unwritten}
use Rattle.engine_promises.proofs.Refusals.{effect_of, effect_fine, coded_is}
use Rattle.sets.specs.Stores.{onto, stored}
use Rattle.exported.specs.Bytes.{config_size, config_bytes, config_from, flags_right, is_config, model_size, model_bytes}
use Rattle.exported.specs.Calls.{unless_refused, model_in, eight_of, loader_number, load_refusals, load_room, fresh_refusals, fresh_room, step_in, step_refusals, answer_bytes, step_room, step_values, run_in, run_refusals, run_room, run_lines, walk_refusals, walk_room}
use Rattle.sets.proofs.Stores.{stored_same, stored_onto}
use Rattle.exported.specs.Sizes.{length_config, length_model}

-- ---- loading

-- only the good verdict has the number 0
good_number : (v : Verdict) → verdicts.refusal_of v ≡ 0 → v ≡ no_fault
good_number (Ok done) h = refl
good_number (Err Length) h = absurd (omega (arith, h))
good_number (Err (Check b)) h = absurd (omega (arith, h))
good_number (Err (Block b)) h = absurd (omega (arith, h))
good_number (Err (Record b)) h = absurd (omega (arith, h))
good_number (Err Across) h = absurd (omega (arith, h))

-- the empty model is not valid
empty_not : valid empty_model ≡ false
unfolding valid empty_model
empty_not = refl

-- a model that loads is valid
pub good_valid : (file : List ℕ) → verdicts.refusal_of (loaded file).verdict ≡ 0 → valid (model_in file) ≡ true
good_valid file h =
    let v = good_number (loaded file).verdict h in
    loads_valid file (model_in file) (λ i. record { model = model_in file; verdict = v i })

-- and one that does not is not
pub refused_not : (file : List ℕ) → verdicts.refusal_of (loaded file).verdict ≢ 0 → valid (model_in file) ≡ false
refused_not file h = ap valid (refused_empty file (λ good. h (ap verdicts.refusal_of good))) ∙ empty_not

-- the verdict is good exactly where the model is valid
pub valid_is : (file : List ℕ) → eqb (verdicts.refusal_of (loaded file).verdict) 0 ≡ valid (model_in file)
valid_is file = go (eqb (verdicts.refusal_of (loaded file).verdict) 0) refl
  where
    go : (b : Bool) → eqb (verdicts.refusal_of (loaded file).verdict) 0 ≡ b → eqb (verdicts.refusal_of (loaded file).verdict) 0 ≡ valid (model_in file)
    go true e = e ∙ sym (good_valid file (eqb-true _ 0 e))
    go false e = e ∙ sym (refused_not file (λ h. not_both (eq-eqb _ _ h) e))

-- the loader refuses exactly where the model is not valid
verdict_err : (v : Verdict) → is_err v ≡ not (eqb (verdicts.refusal_of v) 0)
verdict_err (Ok done) = refl
verdict_err (Err Length) = refl
verdict_err (Err (Check b)) = refl
verdict_err (Err (Block b)) = refl
verdict_err (Err (Record b)) = refl
verdict_err (Err Across) = refl

pub err_is : (file : List ℕ) → is_err (loaded file).verdict ≡ not (valid (model_in file))
err_is file = verdict_err (loaded file).verdict ∙ ap not (valid_is file)

-- what the loader's verdict says, in the words of the code
pub said_of : (file : List ℕ) (l : Loaded) (r b : Bool) → l ≡ loaded file → r ≡ is_err l.verdict → r ≡ b → is_err (loaded file).verdict ≡ b
said_of file l r b e f h = ap (λ (x : Loaded). is_err x.verdict) (sym e) ∙ sym f ∙ h

-- ---- refusals

-- 8, 9 and 10 come first: one of them is given
pub first_stop : (v code right : Bool) (rest : List (Bool × ℕ)) → first_number ((not v, 8) ∷ (not code, 9) ∷ (not right, 10) ∷ []) ≢ 0
    → first_number ((not v, 8) ∷ (not code, 9) ∷ (not right, 10) ∷ []) ≡ first_number ((not v, 8) ∷ (not code, 9) ∷ (not right, 10) ∷ rest)
unfolding first_number
first_stop false code right rest h = refl
first_stop true false right rest h = refl
first_stop true true false rest h = refl
first_stop true true true rest h = absurd (h refl)

-- or none
pub record Passed (v code right : Bool) : Type 0 where
  pub model : v ≡ true
  pub command : code ≡ true
  pub config : right ≡ true

pub first_go : (v code right : Bool) → first_number ((not v, 8) ∷ (not code, 9) ∷ (not right, 10) ∷ []) ≡ 0 → Passed v code right
unfolding first_number
first_go false code right h = absurd (omega (arith, h))
first_go true false right h = absurd (omega (arith, h))
first_go true true false h = absurd (omega (arith, h))
first_go true true true h = record { model = refl; command = refl; config = refl }

-- then the others are judged
pub first_rest : (v code right : Bool) (rest : List (Bool × ℕ)) → Passed v code right
    → first_number ((not v, 8) ∷ (not code, 9) ∷ (not right, 10) ∷ rest) ≡ first_number rest
unfolding first_number
first_rest v code right rest p = rw (p.model, p.command, p.config)

-- a rule that never holds in the place of 9
no_nine : (v right : Bool) (rest : List (Bool × ℕ))
    → first_number ((not v, 8) ∷ (not true, 9) ∷ (not right, 10) ∷ rest) ≡ first_number ((not v, 8) ∷ (not right, 10) ∷ rest)
unfolding first_number
no_nine v right rest = refl

-- the first rule holds
pub number_here : (b : Bool) (k : ℕ) (rest : List (Bool × ℕ)) → b ≡ true → first_number ((b, k) ∷ rest) ≡ k
unfolding first_number
number_here b k rest h = rw h

-- the first rule does not hold
pub number_after : (b : Bool) (k : ℕ) (rest : List (Bool × ℕ)) → b ≡ false → first_number ((b, k) ∷ rest) ≡ first_number rest
unfolding first_number
number_after b k rest h = rw h

-- no rule is left
pub number_none : first_number [] ≡ 0
unfolding first_number
number_none = refl

-- a number is given where it is not 0
pub number_last : (n : ℕ) → n ≡ first_number ((not (eqb n 0), n) ∷ [])
unfolding first_number
number_last n = go (eqb n 0) refl
  where
    go : (b : Bool) → eqb n 0 ≡ b → n ≡ cond (not b) n 0
    go true e = eqb-true n 0 e
    go false e = refl

-- a refused call leaves a buffer as it was
pub buffer_kept : (rules : List (Bool × ℕ)) (k : ℕ) (old new : List ℕ) → first_number rules ≡ k → k ≢ 0 → old ≡ unless_refused rules old new
unfolding unless_refused
buffer_kept rules k old new e h = rw (e, ne_eqb k 0 h)

-- an accepted one puts what is new there
pub buffer_new : (rules : List (Bool × ℕ)) (old new : List ℕ) → first_number rules ≡ 0 → new ≡ unless_refused rules old new
unfolding unless_refused
buffer_new rules old new e = rw e

pub buffer_onto : (rules : List (Bool × ℕ)) (old bytes now : List ℕ) → first_number rules ≡ 0 → length bytes ≤ length old → now ≡ stored old 0 bytes
    → now ≡ unless_refused rules old (onto bytes old)
buffer_onto rules old bytes now e h p = p ∙ stored_onto old bytes h ∙ buffer_new rules old (onto bytes old) e

-- ---- load

module _ (file room : List ℕ) (n : ℕ) (number : n ≡ loader_number file) where
  loader : not (eqb n 0) ≡ not (eqb (loader_number file) 0)
  loader = ap (λ (k : ℕ). not (eqb k 0)) number

  pub load_refused_lem : n ≢ 0 → (n ≡ first_number (load_refusals file room)) × (room ≡ load_room file room)
  load_refused_lem h =
      let e = number_here _ (loader_number file) ((ltb (length room) model_size, 6) ∷ []) (sym loader ∙ ap not (ne_eqb n 0 h)) in
      (number ∙ sym e, buffer_kept _ _ room _ e (λ z. h (number ∙ z)))

  passed : n ≡ 0 → first_number (load_refusals file room) ≡ first_number ((ltb (length room) model_size, 6) ∷ [])
  passed h = number_after _ _ _ (sym loader ∙ ap not (eq-eqb n 0 h))

  pub load_short : n ≡ 0 → length room < model_size → (6 ≡ first_number (load_refusals file room)) × (room ≡ load_room file room)
  load_short h l =
      let e = passed h ∙ number_here _ 6 [] (lt-ltb _ _ l) in
      (sym e, buffer_kept _ 6 room _ e (λ z. absurd (omega (arith, z))))

  pub load_done : n ≡ 0 → model_size ≤ length room → (m : Model) (now : List ℕ) → m ≡ model_in file → now ≡ stored room 0 (model_bytes m)
      → (0 ≡ first_number (load_refusals file room)) × (now ≡ load_room file room)
  load_done h l m now k p =
      let e = passed h ∙ number_after _ 6 [] (le-ltb _ _ l) ∙ number_none in
      (sym e, buffer_onto _ room (model_bytes (model_in file)) now e (omega (arith, length_model (model_in file))) (stored_same room now _ _ 0 p (ap model_bytes k)))

-- ---- fresh

module _ (file config : List ℕ) where
  pub fresh_refused_lem : is_err (loaded file).verdict ≡ true → (8 ≡ first_number (fresh_refusals file config)) × (config ≡ fresh_room file config)
  fresh_refused_lem h =
      let e = number_here _ 8 ((ltb (length config) config_size, 6) ∷ []) (sym (err_is file) ∙ h) in
      (sym e, buffer_kept _ 8 config _ e (λ z. absurd (omega (arith, z))))

  fine : is_err (loaded file).verdict ≡ false → first_number (fresh_refusals file config) ≡ first_number ((ltb (length config) config_size, 6) ∷ [])
  fine h = number_after _ 8 _ (sym (err_is file) ∙ h)

  pub fresh_short : is_err (loaded file).verdict ≡ false → length config < config_size → (6 ≡ first_number (fresh_refusals file config)) × (config ≡ fresh_room file config)
  fresh_short h l =
      let e = fine h ∙ number_here _ 6 [] (lt-ltb _ _ l) in
      (sym e, buffer_kept _ 6 config _ e (λ z. absurd (omega (arith, z))))

  pub fresh_done : is_err (loaded file).verdict ≡ false → config_size ≤ length config → (s : Stepped) (now : List ℕ) → s ≡ fresh_of (model_in file)
      → now ≡ stored config 0 (config_bytes s.config) → (0 ≡ first_number (fresh_refusals file config)) × (now ≡ fresh_room file config)
  fresh_done h l s now k p =
      let e = fine h ∙ number_after _ 6 [] (le-ltb _ _ l) ∙ number_none in
      (sym e, buffer_onto _ config (config_bytes (fresh_of (model_in file)).config) now e (omega (arith, length_config (fresh_of (model_in file)).config)) (stored_same config now _ _ 0 p (ap (λ (x : Stepped). config_bytes x.config) k)))

-- a file that loads, and a buffer that is too short: 6, and the buffer stays
pub short_number : (file config : List ℕ) → is_err (loaded file).verdict ≡ false → length config < config_size → 6 ≡ first_number (fresh_refusals file config)
short_number file config h l = (fresh_short file config h l).0

pub short_stays : (file config : List ℕ) → is_err (loaded file).verdict ≡ false → length config < config_size → config ≡ fresh_room file config
short_stays file config h l = (fresh_short file config h l).1

-- ---- 8, 9 and 10

module _ (refused code right : Bool) where
  -- the refusals that are judged first, by what the loader says
  abbrev pub first_rules : List (Bool × ℕ)
  first_rules = (refused, 8) ∷ (not code, 9) ∷ (not right, 10) ∷ []

  pub ready_8 : refused ≡ true → (8 ≡ first_number first_rules) × ◌≢◌ {A = ℕ} 8 0
  ready_8 h = (sym (number_here _ 8 _ h), λ z. absurd (omega (arith, z)))

  pub ready_9 : refused ≡ false → code ≡ false → (9 ≡ first_number first_rules) × ◌≢◌ {A = ℕ} 9 0
  ready_9 h k = (sym (number_after _ 8 _ h ∙ number_here _ 9 _ (ap not k)), λ z. absurd (omega (arith, z)))

  pub ready_10 : refused ≡ false → code ≡ true → right ≡ false → (10 ≡ first_number first_rules) × ◌≢◌ {A = ℕ} 10 0
  ready_10 h k r = (
    sym (number_after _ 8 _ h ∙ number_after _ 9 _ (ap not k) ∙ number_here _ 10 [] (ap not r)),
    λ z. absurd (omega (arith, z)),
  )

  pub ready_none : refused ≡ false → code ≡ true → right ≡ true → first_number first_rules ≡ 0
  ready_none h k r = number_after _ 8 _ h ∙ number_after _ 9 _ (ap not k) ∙ number_after _ 10 [] (ap not r) ∙ number_none

-- the same refusals, by what is valid
pub ready_rules : (file : List ℕ) (l : Loaded) (code right : Bool) → l ≡ loaded file
    → first_number (first_rules (is_err l.verdict) code right) ≡ first_number (first_rules (not (valid (model_in file))) code right)
ready_rules file l code right e = ap (λ (x : Bool). first_number (first_rules x code right)) (ap (λ (x : Loaded). is_err x.verdict) e ∙ err_is file)

-- the model of a file that was loaded
pub model_read : (file : List ℕ) (l : Loaded) → l ≡ loaded file → l.model ≡ model_in file
model_read file l e = ap (λ (x : Loaded). x.model) e

-- a configuration's bytes are long enough
pub config_room : (config : List ℕ) → is_config config ≡ true → config_size ≤ length config
unfolding is_config
config_room config h = leb-true config_size (length config) (and_both (leb config_size (length config)) (flags_right config) h).left

-- ---- step

-- the refusal of a step is the number of the first of its rules that holds
pub coded_number : (m : Model) (c : Config) (b : List ℕ) → refusal_of (coded_step m c b).answer ≡ first_number (coded_rules m c b)
coded_number m c b =
    let k = command_in b in
    ap (λ (r : Stepped). refusal_of r.answer) (coded_is m c b) ∙ guarded_refusal c (coded_rules m c b) (effect_of m c k) (effect_fine m c k)

-- no rule of a command has the number 10
not_ten : (n : ℕ) (here : State) (x : Subject) (improper : Bool) (k : Command) → first_number (rules_for n here x improper k) ≢ 10
not_ten n here x improper k e = omega (arith, e, number_above 10 _ (rules_ascend n here x improper k) (λ z. absurd (omega (arith, e, z))))

last_is : (v short : Bool) (f n : ℕ) → n ≡ cond (not v) 10 f → f ≢ 10
    → first_number ((eqb n 10, 10) ∷ (short, 6) ∷ (not (eqb n 0), n) ∷ []) ≡ cond (not v) 10 (cond short 6 f)
unfolding first_number
last_is false short f n e h = rw e
last_is true short f n e h = rw (e, ne_eqb f 10 h) (ap (λ (k : ℕ). cond short 6 k) (go (eqb f 0) refl))
  where
    go : (t : Bool) → eqb f 0 ≡ t → cond (not t) f 0 ≡ f
    go true q = sym (eqb-true f 0 q)
    go false q = refl

-- 10, 6, and 11 to 20, by the refusal of the step
step_rest : (m : Model) (c : Config) (b : List ℕ) (short : Bool) (n : ℕ) → valid m ≡ true → is_code (code_in b) ≡ true → n ≡ refusal_of (coded_step m c b).answer
    → first_number ((eqb n 10, 10) ∷ (short, 6) ∷ (not (eqb n 0), n) ∷ [])
    ≡ first_number ((not (config_valid m c), 10) ∷ (short, 6) ∷ rules m.n (here_of m c (subject_of (command_in b))) c (command_in b))
unfolding first_number
step_rest m c b short n v k e =
    last_is (config_valid m c) short (first_number (rules m.n (here_of m c (subject_of (command_in b))) c (command_in b))) n (e ∙ coded_number m c b ∙ rw (v, k))
    (not_ten _ _ _ _ (command_in b))

module _ (file config command values : List ℕ) (n1 : ℕ)
    (first : n1 ≡ first_number ((not (valid (model_in file)), 8) ∷ (not (is_code (code_in (eight_of command))), 9) ∷ (not (is_config config), 10) ∷ [])) where
  abbrev StepGives : ℕ → List ℕ → List ℕ → Type 0
  StepGives r c v =
      (r ≡ first_number (step_refusals file config command values)) × ((c ≡ step_room file config command values) × (v ≡ step_values file config command values))

  pub step_first : n1 ≢ 0 → StepGives n1 config values
  step_first h =
      let rest : List (Bool × ℕ) = (not (config_valid (model_in file) (config_from config)), 10) ∷ (ltb (length values) 9, 6) ∷ rules (model_in file).n (here_of (model_in file) (config_from config) (subject_of (command_in (eight_of command)))) (config_from config) (command_in (eight_of command)) in
      let e : n1 ≡ first_number (step_refusals file config command values) = first ∙ first_stop (valid (model_in file)) (is_code (code_in (eight_of command))) (is_config config) rest (λ z. h (first ∙ z)) in
      (e, (buffer_kept _ n1 config _ (sym e) h, buffer_kept _ n1 values _ (sym e) h))

  pub step_passed : n1 ≡ 0 → Passed (valid (model_in file)) (is_code (code_in (eight_of command))) (is_config config)
  step_passed h = first_go _ _ _ (sym first ∙ h)

  module _ (n2 n : ℕ) (last : n2 ≡ first_number ((eqb n 10, 10) ∷ (ltb (length values) 9, 6) ∷ (not (eqb n 0), n) ∷ []))
      (said : n ≡ refusal_of (step_in file config command).answer) (none : n1 ≡ 0) where
    whole : n2 ≡ first_number (step_refusals file config command values)
    whole =
        let p = step_passed none in
        last
        ∙ step_rest (model_in file) (config_from config) (eight_of command) (ltb (length values) 9) n p.model p.command said
        ∙ sym (first_rest _ _ _ _ p)

    pub step_last : n2 ≢ 0 → StepGives n2 config values
    step_last h = (whole, (buffer_kept _ n2 config _ (sym whole) h, buffer_kept _ n2 values _ (sym whole) h))

    pub values_room : n2 ≡ 0 → 9 ≤ length values
    unfolding first_number
    values_room h = go (eqb n 10) (ltb (length values) 9) refl (sym last ∙ h)
      where
        go : (x y : Bool) → ltb (length values) 9 ≡ y → cond x 10 (cond y 6 (cond (not (eqb n 0)) n 0)) ≡ 0 → 9 ≤ length values
        go true y e q = absurd (omega (arith, q))
        go false true e q = absurd (omega (arith, q))
        go false false e q = ltb-false (length values) 9 e

    pub step_done : n2 ≡ 0 → (s : Stepped) (c v : List ℕ) → s ≡ step_in file config command → c ≡ stored config 0 (config_bytes s.config)
        → v ≡ stored values 0 (answer_bytes s.answer) → StepGives 0 c v
    step_done h s c v k p q =
        let e : first_number (step_refusals file config command values) ≡ 0 = sym whole ∙ h in
        let r = step_in file config command in (
          sym e,
          (
            buffer_onto _ config (config_bytes r.config) c e (omega (arith, length_config r.config, config_room config (step_passed none).config)) (stored_same config c _ _ 0 p (ap (λ (x : Stepped). config_bytes x.config) k)),
            buffer_onto _ values (answer_bytes r.answer) v e (values_room h) (stored_same values v _ _ 0 q (ap (λ (x : Stepped). answer_bytes x.answer) k)),
          ),
        )

-- ---- a whole tape

module _ (file config tape lines : List ℕ) (n1 : ℕ)
    (first : n1 ≡ first_number ((not (valid (model_in file)), 8) ∷ (not true, 9) ∷ (not (is_config config), 10) ∷ [])) where
  abbrev RunGives : ℕ → List ℕ → List ℕ → Type 0
  RunGives r c l =
      (r ≡ first_number (run_refusals file config tape lines)) × ((c ≡ run_room file config tape lines) × (l ≡ run_lines file config tape lines))

  -- what is judged after 8 and 10
  abbrev behind : List (Bool × ℕ)
  behind = (not (config_valid (model_in file) (config_from config)), 10) ∷ (ltb (length lines / 4) (commands tape), 6) ∷ []

  pub run_first : n1 ≢ 0 → RunGives n1 config lines
  run_first h =
      let e : n1 ≡ first_number (run_refusals file config tape lines) = first ∙ first_stop (valid (model_in file)) true (is_config config) behind (λ z. h (first ∙ z)) ∙ no_nine (valid (model_in file)) (is_config config) behind in
      (e, (buffer_kept _ n1 config _ (sym e) h, buffer_kept _ n1 lines _ (sym e) h))

  pub run_passed : n1 ≡ 0 → Passed (valid (model_in file)) true (is_config config)
  run_passed h = first_go _ _ _ (sym first ∙ h)

  module _ (n : ℕ) (s : Stepped) (ran-is : s ≡ run_in file config tape lines) (said : n ≡ refusal_of s.answer) (none : n1 ≡ 0)
      (l : List ℕ) (wrote : l ≡ written (model_in file) (config_from config) tape lines) where
    number : n ≡ refusal_of (run_in file config tape lines).answer
    number = said ∙ ap (λ (x : Stepped). refusal_of x.answer) ran-is

    entire : n ≡ first_number (run_refusals file config tape lines)
    entire =
        let p = run_passed none in
        number
        ∙ ran_refusal (model_in file) (config_from config) tape (length lines)
        ∙ number_after _ 8 behind (ap not p.model)
        ∙ sym (first_rest _ _ _ _ p)
        ∙ no_nine (valid (model_in file)) (is_config config) behind

    pub run_last : n ≢ 0 → RunGives n config l
    run_last h = (
      entire,
      (
        buffer_kept _ n config _ (sym entire) h,
        wrote
            ∙ refused_unwritten (model_in file) (config_from config) tape lines (λ z. h (number ∙ z))
            ∙ buffer_kept _ n lines _ (sym entire) h,
      ),
    )

    pub run_done : n ≡ 0 → (c : List ℕ) → c ≡ stored config 0 (config_bytes s.config) → RunGives 0 c l
    run_done h c p =
        let e : first_number (run_refusals file config tape lines) ≡ 0 = sym entire ∙ h in
        let r = run_in file config tape lines in (
          sym e,
          (
            buffer_onto _ config (config_bytes r.config) c e (omega (arith, length_config r.config, config_room config (run_passed none).config)) (stored_same config c _ _ 0 p (ap (λ (x : Stepped). config_bytes x.config) ran-is)),
            wrote ∙ buffer_new _ lines _ e,
          ),
        )

-- ---- a step for each command

module _ (file config tape : List ℕ) (n1 : ℕ)
    (first : n1 ≡ first_number ((not (valid (model_in file)), 8) ∷ (not true, 9) ∷ (not (is_config config), 10) ∷ [])) where
  abbrev WalkGives : ℕ → List ℕ → Type 0
  WalkGives r c = (r ≡ first_number (walk_refusals file config)) × (c ≡ walk_room file config tape)

  pub walk_first : n1 ≢ 0 → WalkGives n1 config
  walk_first h =
      let rest : List (Bool × ℕ) = (not (config_valid (model_in file) (config_from config)), 10) ∷ [] in
      let e : n1 ≡ first_number (walk_refusals file config) = first ∙ first_stop (valid (model_in file)) true (is_config config) rest (λ z. h (first ∙ z)) ∙ no_nine (valid (model_in file)) (is_config config) rest in
      (e, buffer_kept _ n1 config _ (sym e) h)

  pub walk_passed : n1 ≡ 0 → Passed (valid (model_in file)) true (is_config config)
  walk_passed h = first_go _ _ _ (sym first ∙ h)

  module _ (ok : Bool) (ok-is : ok ≡ (valid (model_in file) && config_valid (model_in file) (config_from config))) (none : n1 ≡ 0) where
    valid_config : ok ≡ config_valid (model_in file) (config_from config)
    valid_config = ok-is ∙ rw (walk_passed none).model

    left : first_number (walk_refusals file config) ≡ first_number ((not ok, 10) ∷ [])
    left =
        sym (no_nine (valid (model_in file)) (is_config config) ((not (config_valid (model_in file) (config_from config)), 10) ∷ []))
        ∙ first_rest _ _ _ _ (walk_passed none)
        ∙ rw valid_config

    pub walk_last : ok ≡ false → WalkGives 10 config
    walk_last h =
        let e = left ∙ number_here _ 10 [] (ap not h) in
        (sym e, buffer_kept _ 10 config _ e (λ z. absurd (omega (arith, z))))

    pub walk_done : ok ≡ true → (x : Config) (c : List ℕ) → x ≡ config_after (model_in file) (config_from config) tape (commands tape) → c ≡ stored config 0 (config_bytes x) → WalkGives 0 c
    walk_done h x c k p =
        let e = left ∙ number_after _ 10 [] (ap not h) ∙ number_none in
        let r = config_after (model_in file) (config_from config) tape (commands tape) in
        (sym e, buffer_onto _ config (config_bytes r) c e (omega (arith, length_config r, config_room config (walk_passed none).config)) (stored_same config c _ _ 0 p (ap config_bytes k)))
