use mathlib.Core.Path.{◌≡◌, refl, sym, ◌∙◌}
use mathlib.Core.Bool.{true, not}
use Rattle.model.specs.Valid.{valid}
use Rattle.engine.specs.commands.Rules.{first_number}
use Rattle.engine.specs.Tapes.{written}
use Rattle.exported.specs.Bytes.{config_from, is_config}
use Rattle.exported.specs.Calls.{model_in, run_in}
use Rattle.exported.proofs.CallLaws.{config_room, run_passed, run_first, run_last, run_done, first_rules, ready_rules, model_read}
use Rattle.exported.proofs.zs_run.Goals as goal
use Rattle.exported.proofs.zs_run.Goals.{After-run-done}

-- the run, and the lines that it writes
ran : (r : After-run-done) → r.run-done.result ≡ run_in r.args.file.now r.args.config.now r.args.tape.now r.args.lines.now
ran r = rw (r.run-done.ensures.result, model_read _ _ r.load-loaded.ensures, r.config_from-c.ensures)

wrote : (r : After-run-done) → r.run-done.new.lines ≡ written (model_in r.args.file.now) (config_from r.args.config.now) r.args.tape.now r.args.lines.now
wrote r = rw (r.run-done.ensures.lines, model_read _ _ r.load-loaded.ensures, r.config_from-c.ensures)

-- none of 8, 9 and 10
passed : (r : After-run-done) → first_number (first_rules (not (valid (model_in r.args.file.now))) true (is_config r.args.config.now)) ≡ 0
passed r = sym (ready_rules r.args.file.now _ true (is_config r.args.config.now) r.load-loaded.ensures) ∙ r.in_default.ensures.ok

pub returns-in-Err : goal.returns-in-Err
returns-in-Err c =
    let a = c.args in
    let e = c.in-Err.ensures.err in
    let rules = ready_rules a.file.now _ true (is_config a.config.now) c.load-loaded.ensures in
    let done = run_first a.file.now a.config.now a.tape.now a.lines.now _ (e.0 ∙ rules) e.1 in
    record { result = done.0; config = done.1.0; lines = done.1.1 }

pub returns-then-number-ne0 : goal.returns-then-number-ne0
returns-then-number-ne0 c =
    let a = c.args in
    let r = (goal.at.returns-then-number-ne0 c).After-run-done in
    let done = run_last a.file.now a.config.now a.tape.now a.lines.now _ refl _ _ (ran r) c.refusal-number.ensures (passed r) _ (wrote r) c.if-number-ne0.true in
    record { result = done.0; config = done.1.0; lines = done.1.1 }

pub put_config-requires : goal.put_config-requires
put_config-requires c =
    let a = c.args in
    let r = (goal.at.put_config-requires c).After-run-done in
    config_room _ (run_passed a.file.now a.config.now a.tape.now a.lines.now _ refl (passed r)).config

pub returns : goal.returns
returns c =
    let a = c.args in
    let r = (goal.at.returns c).After-run-done in
    let done = run_done a.file.now a.config.now a.tape.now a.lines.now _ refl _ _ (ran r) c.refusal-number.ensures (passed r) _ (wrote r) c.if-number-ne0.false _ c.put_config.ensures in
    record { result = done.0; config = done.1.0; lines = done.1.1 }
