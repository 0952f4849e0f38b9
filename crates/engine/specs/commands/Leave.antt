-- Expire (subject) and Cancel (subject): own reservations are withdrawn, the timeout or cancel target is entered.
use Rattle.std.specs.Prelude.{Bool, ℕ}
use Rattle.engine.specs.pools.Sizes.{most_entries}
use Rattle.engine.specs.pools.Pools.{withdrawn_from}
use Rattle.engine.specs.configs.Subjects.{each_subject, with_pool, enters}
use Rattle.engine.specs.declared.Config.{Config}

-- own reservations are withdrawn from all pools, the order of the rest stays
unfoldable pub withdrawing : ℕ → Config → Config
withdrawing s c = each_subject (λ r x. with_pool (withdrawn_from most_entries s x.pool) x) c

-- then the target is entered
unfoldable pub leaving : ℕ → Bool → Config → ℕ → Config
leaving t end c s = enters (withdrawing s c) s t end
