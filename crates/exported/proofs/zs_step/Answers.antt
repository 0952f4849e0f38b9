use mathlib.Core.Path.{◌≡◌, refl, sym, ap, ◌∙◌}
use mathlib.Core.Bool.{Bool, not}
use mathlib.Core.List.{List}
use Prim.Native.Nat.{ℕ}
use lib.ListN.{get_or}
use Rattle.sets.specs.Below.{table_from}
use Rattle.sets.specs.Tests.{within}
use Rattle.model.specs.Valid.{valid}
use Rattle.engine.specs.configs.Answers.{refusal_of}
use Rattle.engine.specs.declared.Stepped.{Stepped}
use Rattle.engine.specs.commands.Codes.{is_code, code_in}
use Rattle.engine.specs.commands.Rules.{first_number}
use Rattle.exported.specs.Bytes.{is_config}
use Rattle.exported.specs.Calls.{model_in, eight_of, step_in}
use Rattle.exported.proofs.CallLaws.{config_room, step_passed, step_first, step_last, step_done, values_room, first_rules, ready_rules, model_read}
use Rattle.exported.proofs.zs_step.Goals as goal
use Rattle.exported.proofs.zs_step.Goals.{After-last_refusal-number}

-- whether the command has one of the codes
code_is : (command : List ℕ) (first : ℕ) (code : Bool) → code ≡ within 1 first 8 → first ≡ get_or command 0 0 → code ≡ is_code (code_in (eight_of command))
unfolding table_from
code_is command first code e f = e ∙ ap (λ (x : ℕ). within 1 x 8) f

-- the step, and what it says
stepped : (r : After-last_refusal-number) → r.step_coded-done.result ≡ step_in r.args.file.now r.args.config.now r.args.command.now
stepped r = rw (r.step_coded-done.ensures, r.eight_of.ensures, model_read _ _ r.load-loaded.ensures, r.config_from-c.ensures)

says : (r : After-last_refusal-number) → r.refusal.result ≡ refusal_of (step_in r.args.file.now r.args.config.now r.args.command.now).answer
says r = r.refusal.ensures ∙ ap (λ (x : Stepped). refusal_of x.answer) (stepped r)

-- none of 8, 9 and 10
passed : (r : After-last_refusal-number) → first_number (first_rules (not (valid (model_in r.args.file.now))) (is_code (code_in (eight_of r.args.command.now))) (is_config r.args.config.now)) ≡ 0
passed r =
    sym (ready_rules r.args.file.now _ (is_code (code_in (eight_of r.args.command.now))) (is_config r.args.config.now) r.load-loaded.ensures)
    ∙ rw (code_is r.args.command.now _ _ r.is_within-code.ensures r.byte.ensures) at r.in_default.ensures.ok

pub returns-in-Err : goal.returns-in-Err
returns-in-Err c =
    let a = c.args in
    let e = rw (code_is a.command.now _ _ c.is_within-code.ensures c.byte.ensures) at c.in-Err.ensures.err in
    let rules = ready_rules a.file.now _ (is_code (code_in (eight_of a.command.now))) (is_config a.config.now) c.load-loaded.ensures in
    let done = step_first a.file.now a.config.now a.command.now a.values.now _ (e.0 ∙ rules) e.1 in
    record { result = done.0; config = done.1.0; values = done.1.1 }

pub returns-then-number-ne0 : goal.returns-then-number-ne0
returns-then-number-ne0 c =
    let a = c.args in
    let r = (goal.at.returns-then-number-ne0 c).After-last_refusal-number in
    let done = step_last a.file.now a.config.now a.command.now a.values.now _ refl _ _ c.last_refusal-number.ensures (says r) (passed r) c.if-number-ne0.true in
    record { result = done.0; config = done.1.0; values = done.1.1 }

pub put_config-requires : goal.put_config-requires
put_config-requires c =
    let a = c.args in
    let r = (goal.at.put_config-requires c).After-last_refusal-number in
    config_room _ (step_passed a.file.now a.config.now a.command.now a.values.now _ refl (passed r)).config

pub put_values-requires : goal.put_values-requires
put_values-requires c =
    let a = c.args in
    let r = (goal.at.put_values-requires c).After-last_refusal-number in
    values_room a.file.now a.config.now a.command.now a.values.now _ refl _ _ c.last_refusal-number.ensures (says r) (passed r) c.if-number-ne0.false

pub returns : goal.returns
returns c =
    let a = c.args in
    let r = (goal.at.returns c).After-last_refusal-number in
    let done = step_done a.file.now a.config.now a.command.now a.values.now _ refl _ _ c.last_refusal-number.ensures (says r) (passed r) c.if-number-ne0.false _ _ _ (stepped r) c.put_config.ensures c.put_values.ensures in
    record { result = done.0; config = done.1.0; values = done.1.1 }
