-- Every exported call answers with one of its numbers, and refused it changes nothing.
use Rattle.std.specs.Prelude.{Ok, Err, Result}
use mathlib.Core.Path.{◌≡◌, refl, sym}
use mathlib.Core.Bool.{Bool, true, false, not}
use mathlib.Core.List.{List, [], ◌∷◌}
use Prim.Native.Nat.{ℕ, zero, suc, ◌/◌, ◌%◌, ◌<◌}
use native.Mathlib.Omega.{arith}
use lib.Dec.{eqb, ltb}
use lib.ListN.{length}
use Rattle.sets.specs.Lists.{all_of, is_one_of}
use Rattle.sets.proofs.Tests.{choose}
use Rattle.blocks.specs.Verdicts as verdicts
use Rattle.blocks.specs.Verdicts.{Verdict, no_fault}
use Rattle.blocks.specs.declared.Fault.TheVariants.{Length, Check, Block, Record, Across}
use Rattle.model.specs.Loading.{loaded}
use Rattle.model.specs.Valid.{valid}
use Rattle.model.specs.declared.Model.{Model}
use Rattle.engine.specs.pools.Sizes.{most_entries}
use Rattle.engine.specs.configs.Shares.{shared_out, share_of}
use Rattle.engine.specs.declared.NotAsked.{NotAsked}
use Rattle.engine.specs.commands.Codes.{command_in}
use Rattle.engine.specs.commands.Rules.{first_number}
use Rattle.engine.proofs.RuleLaws.{number_in_lem, own_numbers, own_numbers_lem}
use Rattle.exported.specs.Bytes.{model_size}
use Rattle.exported.specs.Calls.{model_in, eight_of, loader_number, load_refusals, fresh_refusals, step_refusals, run_refusals, walk_refusals, share_number}
use Rattle.exported.specs.Answers.{EveryExportedCallAnswers}
use Rattle.exported.proofs.CallLaws.{buffer_kept}
use Rattle.exported.proofs.LoadLaws.{load_place}
use Rattle.exported.proofs.WriteLaws.{write_answer, write_few, write_refused_lem}

-- every verdict has a number from 0 to 5
verdict_number : (v : Verdict) → verdicts.refusal_of v < 6
verdict_number (Ok done) = omega arith
verdict_number (Err Length) = omega arith
verdict_number (Err (Check b)) = omega arith
verdict_number (Err (Block b)) = omega arith
verdict_number (Err (Record b)) = omega arith
verdict_number (Err Across) = omega arith

below_7 : (n : ℕ) → n < 7 → is_one_of (0 ∷ 1 ∷ 2 ∷ 3 ∷ 4 ∷ 5 ∷ 6 ∷ []) n ≡ true
unfolding is_one_of
below_7 zero h = refl
below_7 (suc zero) h = refl
below_7 (suc (suc zero)) h = refl
below_7 (suc (suc (suc zero))) h = refl
below_7 (suc (suc (suc (suc zero)))) h = refl
below_7 (suc (suc (suc (suc (suc zero))))) h = refl
below_7 (suc (suc (suc (suc (suc (suc zero)))))) h = refl
below_7 (suc (suc (suc (suc (suc (suc (suc n))))))) h = absurd (omega (arith, h))

-- the number of a load: the refusal below 7, the block below 43
record LoadNumber (n : ℕ) : Type 0 where
  refusal : n % 256 < 7
  block : n / 256 < 43

loader_number_lem : (file : List ℕ) → LoadNumber (loader_number file)
loader_number_lem file =
    let v = verdict_number (loaded file).verdict in
    let p = load_place file in
    record { refusal = omega (arith, v, p); block = omega (arith, v, p) }

load_number : (file room : List ℕ) → LoadNumber (first_number (load_refusals file room))
unfolding first_number
load_number file room =
    choose LoadNumber (not (eqb (loader_number file) 0)) (λ _. loader_number_lem file)
    (λ _. choose LoadNumber (ltb (length room) model_size) (λ _. record { refusal = omega arith; block = omega arith }) (λ _. record { refusal = omega arith; block = omega arith }))

run_number : (file config tape lines : List ℕ) → is_one_of (0 ∷ 8 ∷ 10 ∷ 6 ∷ []) (first_number (run_refusals file config tape lines)) ≡ true
unfolding is_one_of all_of
run_number file config tape lines = number_in_lem (8 ∷ 10 ∷ 6 ∷ []) (run_refusals file config tape lines) refl

walk_number : (file config : List ℕ) → is_one_of (0 ∷ 8 ∷ 10 ∷ []) (first_number (walk_refusals file config)) ≡ true
unfolding is_one_of all_of
walk_number file config = number_in_lem (8 ∷ 10 ∷ []) (walk_refusals file config) refl

fresh_number : (file config : List ℕ) → is_one_of (0 ∷ 8 ∷ 6 ∷ []) (first_number (fresh_refusals file config)) ≡ true
unfolding is_one_of all_of
fresh_number file config = number_in_lem (8 ∷ 6 ∷ []) (fresh_refusals file config) refl

step_number : (file config command values : List ℕ)
    → is_one_of (0 ∷ 8 ∷ 9 ∷ 10 ∷ 6 ∷ own_numbers) (first_number (step_refusals file config command values)) ≡ true
unfolding is_one_of all_of
step_number file config command values =
    number_in_lem (8 ∷ 9 ∷ 10 ∷ 6 ∷ own_numbers) (step_refusals file config command values) (own_numbers_lem (8 ∷ 9 ∷ 10 ∷ 6 ∷ []) _ _ _ _ (command_in (eight_of command)))

shared_number : (m : Model) (owner : ℕ) → is_one_of (0 ∷ 1 ∷ 8 ∷ 11 ∷ []) (share_number (share_of most_entries m owner)) ≡ true
unfolding share_of is_one_of
shared_number m owner =
    let P : Result Bool NotAsked → Type 0 = λ x. is_one_of (0 ∷ 1 ∷ 8 ∷ 11 ∷ []) (share_number x) ≡ true in
    choose P (valid m) (λ _. choose P (ltb owner m.n) (λ _. yes (shared_out most_entries m owner)) (λ _. refl)) (λ _. refl)
  where
    yes : (b : Bool) → is_one_of (0 ∷ 1 ∷ 8 ∷ 11 ∷ []) (share_number (Ok b)) ≡ true
    yes true = refl
    yes false = refl

-- every exported call answers, for every input
pub every_exported_call_answers : EveryExportedCallAnswers
every_exported_call_answers =
    record {
      load = λ file room. below_7 _ (load_number file room).refusal;
      load_block = λ file room. (load_number file room).block;
      load_refused = λ file room h. sym (buffer_kept _ _ room _ refl h);
      write = write_answer;
      write_length = write_few;
      write_refused = write_refused_lem;
      fresh = fresh_number;
      fresh_refused = λ file config h. sym (buffer_kept _ _ config _ refl h);
      step = step_number;
      step_refused = λ file config command values h. (sym (buffer_kept _ _ config _ refl h), sym (buffer_kept _ _ values _ refl h));
      run = run_number;
      run_refused = λ file config tape lines h. (sym (buffer_kept _ _ config _ refl h), sym (buffer_kept _ _ lines _ refl h));
      walk = walk_number;
      walk_refused = λ file config tape h. sym (buffer_kept _ _ config _ refl h);
      shared = λ file owner. shared_number (model_in file) owner;
    }
