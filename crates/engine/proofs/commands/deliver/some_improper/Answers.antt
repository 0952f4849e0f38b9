use mathlib.Core.Path.{refl, sym, ◌∙◌}
use mathlib.Core.Bool.{Bool, ◌&&◌}
use Prim.Native.Nat.{ℕ}
use borrow.Author.Rules.{rules}
use borrow.Author.Tests.{tests}
use lib.Dec.{eqb}
use Rattle.std.proofs.lemmas.Iterator.{YieldsList-from_range}
use Rattle.std.proofs.lemmas.Iterator.Search.{any_from_yields_List}
use Rattle.sets.specs.Masks.{bit}
use Rattle.sets.proofs.Chains.{some_below_range}
use Rattle.engine.specs.configs.Subjects.{ended_improperly, at}
use Rattle.engine.specs.declared.Config.{Config}
use Rattle.engine.specs.inner.Spine.{improper_among}
use Rattle.engine.proofs.RuleLaws.{improper_none}
use Rattle.engine.proofs.commands.deliver.some_improper.Goals as goal

-- r is in the mask and has ended improperly
abbrev test : ℕ → Config → ℕ → Bool
test mask c r = bit mask r && eqb (at c r).mode ended_improperly

pub returns-then-mask-ne0 : goal.returns-then-mask-ne0
unfolding improper_among
returns-then-mask-ne0 c =
    let a = c.args in
    any_from_yields_List (test a.mask a.c.now) _ _ c.any.result c.any.ensures.ran (YieldsList-from_range 0 16 16 refl refl) (λ x b q k. search (rules, tests))
    ∙ sym (some_below_range (test a.mask a.c.now) 16)

-- of no one none has
pub returns-else-mask-ne0 : goal.returns-else-mask-ne0
returns-else-mask-ne0 c = rw c.if-mask-ne0.false (sym (improper_none c.args.c.now))
