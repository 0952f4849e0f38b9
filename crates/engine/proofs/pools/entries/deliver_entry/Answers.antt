use mathlib.Core.Path.{sym, ◌∙◌}
use Rattle.engine.specs.pools.Entries.{delivered}
use Rattle.engine.proofs.pools.entries.deliver_entry.Goals as goal

pub returns-then-reserved_by : goal.returns-then-reserved_by
unfolding delivered
returns-then-reserved_by c = rw (sym c.reserved_by.ensures ∙ c.if-reserved_by.true)

pub returns : goal.returns
unfolding delivered
returns c = rw (sym c.reserved_by.ensures ∙ c.if-reserved_by.false)
