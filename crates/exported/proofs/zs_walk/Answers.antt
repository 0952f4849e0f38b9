use mathlib.Core.Path.{◌≡◌, refl, sym, ◌∙◌}
use mathlib.Core.Bool.{true, not, ◌&&◌}
use Rattle.model.specs.Valid.{valid}
use Rattle.engine.specs.configs.Valid.{config_valid}
use Rattle.engine.specs.commands.Rules.{first_number}
use Rattle.exported.specs.Bytes.{config_from, is_config}
use Rattle.exported.specs.Calls.{model_in}
use Rattle.exported.proofs.CallLaws.{config_room, walk_passed, walk_first, walk_last, walk_done, first_rules, ready_rules, model_read}
use Rattle.exported.proofs.zs_walk.Goals as goal
use Rattle.exported.proofs.zs_walk.Goals.{After-is_valid}

-- whether the model and the configuration that are read are valid
judged : (r : After-is_valid) → r.is_valid.result ≡ (valid (model_in r.args.file.now) && config_valid (model_in r.args.file.now) (config_from r.args.config.now))
judged r = rw (r.is_valid.ensures, model_read _ _ r.load-loaded.ensures, r.config_from-c.ensures)

-- none of 8, 9 and 10
passed : (r : After-is_valid) → first_number (first_rules (not (valid (model_in r.args.file.now))) true (is_config r.args.config.now)) ≡ 0
passed r = sym (ready_rules r.args.file.now _ true (is_config r.args.config.now) r.load-loaded.ensures) ∙ r.in_default.ensures.ok

pub returns-in-Err : goal.returns-in-Err
returns-in-Err c =
    let a = c.args in
    let e = c.in-Err.ensures.err in
    let rules = ready_rules a.file.now _ true (is_config a.config.now) c.load-loaded.ensures in
    let done = walk_first a.file.now a.config.now a.tape.now _ (e.0 ∙ rules) e.1 in
    record { result = done.0; config = done.1 }

pub returns-then-not-is_valid : goal.returns-then-not-is_valid
returns-then-not-is_valid c =
    let a = c.args in
    let r = (goal.at.returns-then-not-is_valid c).After-is_valid in
    let done = walk_last a.file.now a.config.now a.tape.now _ refl _ (judged r) (passed r) c.if-not-is_valid.true in
    record { result = done.0; config = done.1 }

pub put_config-requires : goal.put_config-requires
put_config-requires c =
    let a = c.args in
    let r = (goal.at.put_config-requires c).After-is_valid in
    config_room _ (walk_passed a.file.now a.config.now a.tape.now _ refl (passed r)).config

pub returns : goal.returns
returns c =
    let a = c.args in
    let r = (goal.at.returns c).After-is_valid in
    let done = walk_done a.file.now a.config.now a.tape.now _ refl _ (judged r) (passed r) c.if-not-is_valid.false _ _ (rw (c.walk.ensures, model_read _ _ c.load-loaded.ensures, c.config_from-c.ensures)) c.put_config.ensures in
    record { result = done.0; config = done.1 }
