use mathlib.Core.Path.{sym, ◌∙◌}
use borrow.Author.Tests.{ne_eqb}
use Rattle.engine.specs.commands.Rules.{first_number}
use Rattle.exported.proofs.CallLaws.{number_after, number_last}
use Rattle.exported.proofs.last_refusal.Goals as goal

pub returns-then-number-eq10 : goal.returns-then-number-eq10
unfolding first_number
returns-then-number-eq10 c = rw c.if-number-eq10.true

pub returns-then-short : goal.returns-then-short
unfolding first_number
returns-then-short c = rw (ne_eqb _ _ c.if-number-eq10.false, c.if-short.true)

pub returns : goal.returns
returns c = number_last _ ∙ sym (number_after _ 10 _ (ne_eqb _ _ c.if-number-eq10.false) ∙ number_after _ 6 _ c.if-short.false)
