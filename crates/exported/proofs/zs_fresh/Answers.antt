use mathlib.Core.Path.{ap, ◌∙◌}
use native.Mathlib.Omega.{arith}
use Rattle.model.specs.declared.Loaded.{Loaded}
use Rattle.engine.specs.configs.Fresh.{fresh_of}
use Rattle.exported.proofs.CallLaws.{said_of, fresh_refused_lem, fresh_done}
use Rattle.exported.proofs.zs_fresh.Goals as goal

pub returns-then-is_err : goal.returns-then-is_err
returns-then-is_err c =
    let done = fresh_refused_lem c.args.file.now c.args.config.now (said_of _ _ _ _ c.load-loaded.ensures c.is_err.ensures.value c.if-is_err.true) in
    record { result = done.0; config = done.1 }

pub returns : goal.returns
returns c =
    let done = fresh_done c.args.file.now c.args.config.now (said_of _ _ _ _ c.load-loaded.ensures c.is_err.ensures.value c.if-is_err.false) (omega arith) _ _ (c.fresh-start.ensures ∙ ap (λ (x : Loaded). fresh_of x.model) c.load-loaded.ensures) c.put_config.ensures in
    record { result = done.0; config = done.1 }
