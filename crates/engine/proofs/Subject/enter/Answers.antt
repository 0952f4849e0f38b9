use mathlib.Core.Path.{sym, ◌∙◌}
use Rattle.engine.specs.configs.Subjects.{entered}
use Rattle.engine.proofs.pools.EntryLaws.{message_empty}
use Rattle.engine.proofs.Subject.enter.Goals as goal
use Rattle.engine.proofs.Subject.enter.Goals.{else-self-ne0-via-then-self-ne0+else-has_message, else-self-ne0-via-else-self-ne0}

pub returns-then-has_message : goal.returns-then-has_message
unfolding entered
returns-then-has_message c = rw (c.if-end.true, sym c.has_message.ensures ∙ c.if-has_message.true)

pub returns-else-self-ne0 : goal.returns-else-self-ne0
unfolding entered
returns-else-self-ne0 c =
    elim c.else-self-ne0.branch [
      | else-self-ne0-via-then-self-ne0+else-has_message w ↦ rw (c.if-end.true, sym w.has_message.ensures ∙ w.if-has_message.false)
      | else-self-ne0-via-else-self-ne0 w ↦ rw (c.if-end.true, message_empty c.args.self.pool w.if-self-ne0.false)
    ]

pub returns-else-end : goal.returns-else-end
unfolding entered
returns-else-end c = rw c.if-end.false
