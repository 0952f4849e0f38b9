use Rattle.std.proofs.Common.{rules, refl, ◌≡◌, sym, ◌∙◌, length, ℕ, ◌||◌, Bool}
use borrow.Author.Tests.{tests}
use lib.Dec.{ltb}
use Rattle.std.proofs.lemmas.Iterator.{YieldsList-from_slice}
use Rattle.std.proofs.lemmas.Iterator.Consumers.{YieldsList-from_enumerate}
use Rattle.std.proofs.lemmas.Iterator.Search.{all_from_yields_List}
use Rattle.sets.proofs.Arrays.{length_mapped}
use Rattle.engine.proofs.pools.PoolLaws.{numbered_list}
use Rattle.engine.specs.configs.Subjects.{no_one}
use Rattle.engine.specs.configs.Valid.{is_nobody}
use Rattle.engine.specs.declared.Subject.{Subject}
use Rattle.engine.proofs.configs.valid.rest_nobody.Goals as goal

pub returns : goal.returns
returns c =
    let xs = c.args.c.now.subjects in
    let n : length xs ≡ 16 = search length_mapped in
    let right : ℕ → Subject → Bool = λ s x. ltb s c.args.n || is_nobody x in
    all_from_yields_List (λ t. right t.0 t.1) _ _ c.all.result c.all.ensures.ran (YieldsList-from_enumerate (YieldsList-from_slice xs cc) cc) (λ x b q k. search (rules, tests))
    ∙ sym (numbered_list right xs no_one)
    ∙ rw n refl
