use Rattle.std.proofs.Common.{rules, ◌≡◌, sym, ◌∙◌, ap, length}
use borrow.Author.Tests.{eq-eqb}
use Rattle.std.specs.List.{count_by}
use Rattle.sets.proofs.Chains.{counted_list}
use Rattle.engine.specs.pools.Entries.{matches}
use Rattle.engine.specs.pools.Pools.{held}
use Rattle.engine.proofs.pools.EntryLaws.{counted_any}
use Rattle.engine.proofs.pools.searches.count.Goals as goal

pub returns-then-typ : goal.returns-then-typ
returns-then-typ c =
    let a = c.args in
    ap length c.held.ensures.entries ∙ sym (counted_any a.sender a.typ (held a.p.now) (rw (eq-eqb _ _ c.if-sender.true, eq-eqb _ _ c.if-typ.true)))

pub returns : goal.returns
returns c =
    let found : c.count.result ≡ count_by (matches c.args.sender c.args.typ) (held c.args.p.now) = search rules in
    found ∙ sym (counted_list _ _)
