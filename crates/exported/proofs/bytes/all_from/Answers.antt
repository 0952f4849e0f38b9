use mathlib.Core.Path.{◌≡◌, refl}
use Rattle.std.proofs.Common.{rules}
use Rattle.sets.proofs.Made.{made_table}
use Rattle.exported.proofs.bytes.all_from.Goals as goal

pub returns : goal.returns
returns g c =
    made_table _ (λ p. p.0.now ≡ c.args.b.now) _ (λ p i y q w e. let m = e.met in (search rules, search rules)) _ _ _ refl c.from_fn.ensures.items
