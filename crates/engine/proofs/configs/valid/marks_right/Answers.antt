use Rattle.std.proofs.Common.{rules, refl, ◌≡◌, sym, ◌∙◌, length, ℕ, ◌||◌, Bool}
use borrow.Author.Tests.{tests}
use lib.Dec.{eqb, ltb}
use Rattle.std.proofs.lemmas.Iterator.{YieldsList-from_slice}
use Rattle.std.proofs.lemmas.Iterator.Consumers.{YieldsList-from_enumerate}
use Rattle.std.proofs.lemmas.Iterator.Search.{all_from_yields_List}
use Rattle.sets.proofs.Arrays.{length_mapped}
use Rattle.engine.proofs.pools.PoolLaws.{numbered_list}
use Rattle.engine.specs.configs.Valid.{marks_right}
use Rattle.engine.proofs.configs.valid.marks_right.Goals as goal

pub returns : goal.returns
unfolding marks_right
returns c =
    let marks = c.args.x.now.closed in
    let n : length marks ≡ 16 = search length_mapped in
    let right : ℕ → ℕ → Bool = λ i mark. ltb i c.args.n || eqb mark 0 in
    all_from_yields_List (λ t. right t.0 t.1) _ _ c.all.result c.all.ensures.ran (YieldsList-from_enumerate (YieldsList-from_slice marks cc) cc) (λ x b q k. search (rules, tests))
    ∙ sym (numbered_list right marks 0)
    ∙ rw n refl
