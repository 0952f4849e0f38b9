use mathlib.Core.Path.{sym, ◌∙◌}
use Rattle.engine.specs.configs.Fresh.{fresh_of}
use Rattle.engine.proofs.configs.Defaults.{default_config}
use Rattle.engine.proofs.configs.starts.fresh.Goals as goal

pub returns-then-not-is_valid : goal.returns-then-not-is_valid
unfolding fresh_of
returns-then-not-is_valid c = rw (sym c.is_valid.ensures ∙ c.if-not-is_valid.true, default_config c.default.ensures)

pub returns : goal.returns
unfolding fresh_of
returns c = rw (sym c.is_valid.ensures ∙ c.if-not-is_valid.false, c.fresh_config.ensures)
