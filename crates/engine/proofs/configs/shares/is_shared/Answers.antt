use Rattle.std.proofs.Common.{◌≡◌, length, arith, ap, ◌≤◌, ◌&&◌, leb}
use Rattle.std.specs.List.{list_all, sum_by}
use Rattle.model.specs.declared.Subject.{Subject}
use Rattle.sets.proofs.Arrays.{length_mapped}
use Rattle.engine.proofs.configs.IndexFacts.{few_rows}
use Rattle.engine.specs.pools.Sizes.{most_entries}
use Rattle.engine.specs.configs.Shares.{row_names, shared_out}
use Rattle.engine.proofs.configs.ShareLaws.{none_again, all_rowed, shared_by}
use Rattle.engine.proofs.configs.shares.is_shared.Goals as goal
use Rattle.engine.proofs.configs.shares.is_shared.Goals.{After-rows_of-rows}

-- what is asked of the pool, over the rows that are read
told : (r : After-rows_of-rows) → let a = r.args in let xs = r.rows_of-rows.result.now in
    shared_out most_entries a.m a.owner ≡ (((list_all row_names xs && none_again xs) && leb (sum_by (λ w. w.limit) xs) most_entries) && all_rowed a.m a.owner xs)
told r =
    let a = r.args in
    let n : length a.own.row ≡ 8 = search length_mapped in
    let few : a.own.rows ≤ 8 = omega (arith, ap (λ (x : Subject). x.rows) r.requires.own_value, few_rows a.m a.owner r.requires.m_value r.requires.owner_lt_n) in
    shared_by a.m a.owner a.own _ r.requires.own_value n few r.rows_of-rows.ensures

pub returns-then-limits_fit : goal.returns-then-limits_fit
returns-then-limits_fit c = grind (arith, told (goal.at.returns-then-limits_fit c).After-rows_of-rows)

pub returns-else-limits_fit : goal.returns-else-limits_fit
returns-else-limits_fit c = grind (arith, told (goal.at.returns-else-limits_fit c).After-rows_of-rows)
