use mathlib.Core.Path.{refl, sym, ◌∙◌}
use native.Mathlib.Omega.{arith}
use borrow.Author.Rules.{rules}
use borrow.Author.Tests.{tests}
use Rattle.std.proofs.lemmas.Iterator.{YieldsList-from_range}
use Rattle.std.proofs.lemmas.Iterator.Search.{all_from_yields_List}
use Rattle.sets.proofs.Chains.{all_below_range}
use Rattle.exported.specs.Bytes.{state_in, is_state}
use Rattle.exported.proofs.model_from.states_right.Goals as goal

pub returns : goal.returns
returns c =
    let b = c.args.b.now in
    all_from_yields_List (λ p. is_state (state_in b p)) _ _ c.all.result c.all.ensures.ran (YieldsList-from_range 0 512 512 refl (omega arith)) (λ x r q k. search (rules, tests))
    ∙ sym (all_below_range _ _)
