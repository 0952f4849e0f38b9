use mathlib.Core.Path.{sym, ◌∙◌}
use Rattle.exported.proofs.CallLaws.{ready_8, ready_9, ready_10, ready_none}
use Rattle.exported.proofs.ready.Goals as goal

pub returns-then-is_err-clause-err : goal.returns-then-is_err-clause-err
returns-then-is_err-clause-err c = ready_8 _ _ _ (sym c.is_err.ensures.value ∙ c.if-is_err.true)

pub returns-then-not-code-clause-err : goal.returns-then-not-code-clause-err
returns-then-not-code-clause-err c = ready_9 _ _ _ (sym c.is_err.ensures.value ∙ c.if-is_err.false) c.if-not-code.true

pub returns-then-not-is_config-clause-err : goal.returns-then-not-is_config-clause-err
returns-then-not-is_config-clause-err c =
    ready_10 _ _ _ (sym c.is_err.ensures.value ∙ c.if-is_err.false) c.if-not-code.false (sym c.is_config.ensures ∙ c.if-not-is_config.true)

pub returns-clause-ok : goal.returns-clause-ok
returns-clause-ok c = ready_none _ _ _ (sym c.is_err.ensures.value ∙ c.if-is_err.false) c.if-not-code.false (sym c.is_config.ensures ∙ c.if-not-is_config.false)
