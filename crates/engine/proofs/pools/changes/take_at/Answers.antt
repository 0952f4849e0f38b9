use mathlib.Core.Path.{◌≡◌, ap, ◌∙◌}
use mathlib.Core.List.{List}
use native.Mathlib.Omega.{arith}
use lib.ListN.{get_or}
use Rattle.std.specs.Prelude.{Option, unwrap_or}
use Rattle.engine.specs.declared.Entry.{Entry}
use Rattle.engine.specs.pools.Entries.{blank_entry}
use Rattle.engine.specs.pools.Pools.{held, pooled, taken_at}
use Rattle.engine.specs.pools.Sizes.{most_entries}
use Rattle.std.proofs.Common.{rules, tests, cond, eqb}
use Rattle.std.specs.Prelude.{Some, None}
use Rattle.engine.proofs.pools.PoolLaws.{unwrapped, given_others}
use Rattle.engine.proofs.pools.changes.take_at.Goals as goal

pub returns : goal.returns
unfolding taken_at
returns c =
    let i = c.args.i in
    let content : c.unwrap_or_default.result ≡ get_or (held c.args.p) i blank_entry =
    unwrapped _ _ c.unwrap_or_default.ensures
    ∙ ap (λ (o : Option Entry). unwrap_or o blank_entry) c.copied.ensures
    ∙ c.get.ensures.lookup.4 (omega arith) blank_entry
    ∙ ap (λ (es : List Entry). get_or es i blank_entry) c.held.ensures.entries in
    let others =
    c.rebuilt.ensures (λ t. cond (eqb t.0 i) None (Some t.1)) (λ j e r k. search (rules, tests))
    ∙ ap (pooled most_entries) (given_others i (held c.args.p)) in
    rw (content, others)
