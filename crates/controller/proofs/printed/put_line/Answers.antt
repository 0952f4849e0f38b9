use Rattle.std.proofs.Common.{rules}
use Rattle.controller.proofs.TextLaws.{row_start, number_room, number_turn, number_last}
use Rattle.controller.proofs.printed.put_line.Goals as goal

pub loop-x-init : goal.loop-x-init
loop-x-init c = row_start _ _ c.args.row

pub put-at-requires : goal.put-at-requires
put-at-requires c = number_room _ _ c.args.row _ _ _ c.loop-x.invariant (search rules) c.loop-x.auto.x-index-end c.requires

pub loop-x-preserved : goal.loop-x-preserved
loop-x-preserved c = number_turn _ _ c.args.row _ _ _ c.loop-x.invariant (search rules) c.loop-x.auto.x-index-end c.requires c.loop-x-test.true _ _ c.put-at.ensures.place c.put-at.ensures.text

pub put-requires : goal.put-requires
put-requires c = number_room _ _ c.args.row _ _ _ c.loop-x.invariant (search rules) c.loop-x.auto.x-index-end c.requires

pub returns-clause-place : goal.returns-clause-place
returns-clause-place c = (number_last _ _ c.args.row _ _ _ c.loop-x.invariant (search rules) c.loop-x.auto.x-index-end c.requires c.loop-x-test.false _ _ c.put.ensures.place c.put.ensures.text).place

pub returns-clause-text : goal.returns-clause-text
returns-clause-text c = (number_last _ _ c.args.row _ _ _ c.loop-x.invariant (search rules) c.loop-x.auto.x-index-end c.requires c.loop-x-test.false _ _ c.put.ensures.place c.put.ensures.text).text
