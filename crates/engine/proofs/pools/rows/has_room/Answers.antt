use Rattle.std.proofs.Common.{rules, ◌≡◌, sym, ◌∙◌, length}
use borrow.Author.Tests.{tests, lt-ltb, le-ltb}
use Rattle.std.proofs.lemmas.Iterator.{YieldsList-from_slice}
use Rattle.std.proofs.lemmas.Iterator.Search.{all_from_yields_List}
use Rattle.sets.proofs.Arrays.{length_mapped}
use Rattle.engine.specs.pools.Pools.{held}
use Rattle.engine.specs.pools.Rows.{row_has_room, has_room}
use Rattle.engine.proofs.pools.PoolLaws.{each_row_list, first_rows}
use Rattle.engine.proofs.pools.rows.has_room.Goals as goal

pub returns-then-held-lt-MOST_ENTRIES : goal.returns-then-held-lt-MOST_ENTRIES
unfolding has_room
returns-then-held-lt-MOST_ENTRIES c =
    let a = c.args in
    let n : length a.owner.row ≡ 8 = search length_mapped in
    let room = row_has_room a.sender a.typ (held a.p.now) in
    rw (← c.held.ensures.entries, lt-ltb _ _ c.if-held-lt-MOST_ENTRIES.true)
    (rw c.held.ensures.entries
    (all_from_yields_List room _ _ c.all.result c.all.ensures.ran (YieldsList-from_slice (first_rows a.owner) cc) (λ x b q k. search (rules, tests))
    ∙ sym (each_row_list room a.owner n)))

pub returns-else-held-lt-MOST_ENTRIES : goal.returns-else-held-lt-MOST_ENTRIES
unfolding has_room
returns-else-held-lt-MOST_ENTRIES c = rw (← c.held.ensures.entries, le-ltb _ _ c.if-held-lt-MOST_ENTRIES.false)
