use mathlib.Core.Path.{ap, ◌∙◌}
use borrow.Author.Rules.{rules}
use Rattle.sets.proofs.Stores.{bytes_start, bytes_turn, bytes_end}
use Rattle.exported.specs.Bytes.{exit_from}
use Rattle.exported.proofs.Made.{exit_rest}
use Rattle.exported.proofs.model_from.put_exits.Goals as goal

pub loop-x-init : goal.loop-x-init
loop-x-init c = (search rules, bytes_start _ _ _)

pub loop-x-preserved : goal.loop-x-preserved
loop-x-preserved c =
    let inv = c.loop-x.invariant in
    (search rules, bytes_turn _ _ _ _ _ _ inv.1 (c.from_bytes.ensures ∙ ap exit_from c.rest.ensures ∙ exit_rest c.args.b.now c.loop-x.x))

pub returns : goal.returns
returns c =
    let inv = c.loop-x.invariant in
    rw (← c.byte-exits.ensures) (bytes_end _ _ _ _ _ _ c.loop-x.auto.x-end c.loop-x-test.false inv.1)
