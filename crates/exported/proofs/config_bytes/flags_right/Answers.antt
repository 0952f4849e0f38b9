use mathlib.Core.Path.{refl, sym, ◌∙◌}
use native.Mathlib.Omega.{arith}
use borrow.Author.Rules.{rules}
use borrow.Author.Tests.{tests}
use lib.Dec.{leb}
use lib.ListN.{get_or}
use Rattle.std.proofs.lemmas.Iterator.{YieldsList-from_range}
use Rattle.std.proofs.lemmas.Iterator.Search.{all_from_yields_List}
use Rattle.sets.proofs.Chains.{all_below_range}
use Rattle.exported.specs.Bytes.{flag_place, flags_right}
use Rattle.exported.proofs.config_bytes.flags_right.Goals as goal

pub returns : goal.returns
unfolding flags_right
returns c =
    let b = c.args.b.now in
    all_from_yields_List (λ j. leb (get_or b (flag_place j) 0) 1) _ _ c.all.result c.all.ensures.ran (YieldsList-from_range 0 256 256 refl (omega arith)) (λ x r q k. search (rules, tests))
    ∙ sym (all_below_range _ _)
