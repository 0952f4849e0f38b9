use Rattle.std.proofs.Common.{rules, ◌≡◌, sym, ◌∙◌, length}
use borrow.Author.Tests.{tests}
use Rattle.std.proofs.lemmas.Iterator.{YieldsList-from_slice}
use Rattle.std.proofs.lemmas.Iterator.Search.{all_from_yields_List}
use Rattle.sets.proofs.Arrays.{length_mapped}
use Rattle.engine.specs.pools.Pools.{held}
use Rattle.engine.specs.pools.Rows.{row_kept, rows_kept}
use Rattle.engine.proofs.pools.PoolLaws.{each_row_list, first_rows}
use Rattle.engine.proofs.pools.rows.rows_kept.Goals as goal

pub returns : goal.returns
unfolding rows_kept
returns c =
    let a = c.args in
    let n : length a.owner.row ≡ 8 = search length_mapped in
    let kept = row_kept (held a.p.now) in
    all_from_yields_List kept _ _ c.all.result c.all.ensures.ran (YieldsList-from_slice (first_rows a.owner) cc) (λ x b q k. search (rules, tests))
    ∙ sym (each_row_list kept a.owner n)
