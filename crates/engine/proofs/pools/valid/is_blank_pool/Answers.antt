use Rattle.std.proofs.Common.{rules, refl, ◌≡◌, sym, ◌∙◌, length}
use borrow.Author.Tests.{tests, eq-eqb, ne_eqb}
use Rattle.std.proofs.lemmas.Iterator.{YieldsList-from_slice}
use Rattle.std.proofs.lemmas.Iterator.Search.{all_from_yields_List}
use Rattle.sets.proofs.Arrays.{length_mapped}
use Rattle.sets.proofs.Chains.{all_below_list}
use Rattle.engine.specs.pools.Entries.{blank_entry, is_blank_entry}
use Rattle.engine.specs.pools.Valid.{is_blank_pool}
use Rattle.engine.proofs.pools.valid.is_blank_pool.Goals as goal

pub returns-then-p-eq0 : goal.returns-then-p-eq0
unfolding is_blank_pool
returns-then-p-eq0 c =
    let es = c.args.p.now.entries in
    let n : length es ≡ 16 = search length_mapped in
    rw (eq-eqb _ _ c.if-p-eq0.true)
    (all_from_yields_List is_blank_entry _ _ c.all.result c.all.ensures.ran (YieldsList-from_slice es cc) (λ x b q k. search (rules, tests))
    ∙ sym (all_below_list is_blank_entry es blank_entry)
    ∙ rw n refl)

pub returns-else-p-eq0 : goal.returns-else-p-eq0
unfolding is_blank_pool
returns-else-p-eq0 c = rw (ne_eqb _ _ c.if-p-eq0.false)
