use Rattle.std.proofs.Common.{rules, ◌≡◌, sym, ◌∙◌}
use Rattle.std.specs.List.{count_by}
use Rattle.sets.proofs.Chains.{counted_list}
use Rattle.engine.specs.pools.Entries.{reserved_by}
use Rattle.engine.specs.pools.Pools.{held, reservations}
use Rattle.engine.proofs.pools.searches.reservations.Goals as goal

pub returns : goal.returns
unfolding reservations
returns c =
    let found : c.count.result ≡ count_by (reserved_by c.args.sender c.args.typ) (held c.args.p.now) = search rules in
    found ∙ sym (counted_list _ _)
