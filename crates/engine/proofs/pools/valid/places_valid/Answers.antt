use Rattle.std.proofs.Common.{rules, refl, ◌≡◌, sym, ◌∙◌, length, ℕ, cond}
use borrow.Author.Tests.{tests}
use lib.Dec.{ltb}
use Rattle.std.proofs.lemmas.Iterator.{YieldsList-from_slice}
use Rattle.std.proofs.lemmas.Iterator.Consumers.{YieldsList-from_enumerate}
use Rattle.std.proofs.lemmas.Iterator.Search.{all_from_yields_List}
use Rattle.sets.proofs.Arrays.{length_mapped}
use Rattle.engine.specs.declared.Entry.{Entry}
use Rattle.engine.specs.pools.Entries.{blank_entry, is_blank_entry}
use Rattle.engine.specs.pools.Valid.{entry_valid, place_valid}
use Rattle.engine.proofs.pools.PoolLaws.{numbered_list}
use Rattle.engine.proofs.pools.valid.places_valid.Goals as goal

pub returns : goal.returns
unfolding place_valid
returns c =
    let p = c.args.p.now in
    let n : length p.entries ≡ 16 = search length_mapped in
    let right : ℕ → Entry → _ = λ i e. cond (ltb i p.count) (entry_valid c.args.n e) (is_blank_entry e) in
    all_from_yields_List (λ t. right t.0 t.1) _ _ c.all.result c.all.ensures.ran (YieldsList-from_enumerate (YieldsList-from_slice p.entries cc) cc) (λ x b q k. search (rules, tests))
    ∙ sym (numbered_list right p.entries blank_entry)
    ∙ rw n refl
