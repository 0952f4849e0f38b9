use Rattle.std.proofs.Common.{◌≡◌, refl, rules}
use Rattle.sets.proofs.Made.{made_table}
use Rattle.engine.specs.configs.Subjects.{at}
use Rattle.engine.proofs.configs.valid.masks_of.Goals as goal

pub returns : goal.returns
returns c =
    made_table _ (λ p. p.0.now ≡ c.args.c.now) (λ s. (at c.args.c.now s).mask) (λ p i y q w e. (let m = e.met in (search rules, search rules))) _ _ _ refl c.from_fn.ensures.items
