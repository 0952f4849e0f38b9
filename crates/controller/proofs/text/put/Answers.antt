use Rattle.std.proofs.Common.{rules, arith}
use Rattle.controller.proofs.TextLaws.{Spelled, spelled, put_place, put_text}
use Rattle.controller.proofs.text.put.Goals as goal
use Rattle.controller.proofs.text.put.Goals.{After-decimal-k}

-- the number is spelled out
digits : (r : After-decimal-k) → Spelled r.args.n r.decimal-k.result r.decimal-k.new.out
digits r = spelled _ _ _ (search rules) (search rules) r.decimal-k.ensures.len r.decimal-k.ensures.digits

pub returns-clause-place : goal.returns-clause-place
returns-clause-place c =
    let h = digits (goal.at.returns-clause-place c).After-decimal-k in
    put_place c.args.out.now c.args.p c.args.n _ _ h c.requires c.args.after

pub returns-clause-text : goal.returns-clause-text
returns-clause-text c =
    let h = digits (goal.at.returns-clause-text c).After-decimal-k in
    put_text c.args.out.now c.args.p c.args.n _ _ h c.requires c.args.after _ _ (omega arith) c.copy_from_slice.ensures.after
