use Rattle.std.proofs.Common.{◌≡◌, ℕ, ◌+◌, cond, ltb, refl, rules}
use Rattle.sets.specs.Groups.{in_places}
use Rattle.sets.proofs.Made.{made_table}
use Rattle.blocks.specs.Blocks.{record_no}
use Rattle.model.specs.Records.{row_of, blank_row}
use Rattle.model.specs.Decoded.{rows_from}
use Rattle.model.proofs.decoded.rows_from.Goals as goal

pub returns : goal.returns
unfolding rows_from in_places
returns c =
    let a = c.args in
    let row = λ (k : ℕ). cond (ltb k a.rows) (row_of (record_no a.limits.now.file.now 4 (a.place + k))) blank_row in
    made_table _ (λ p. (p.0.now ≡ a.limits.now) × (p.1.now ≡ a.place) × (p.2.now ≡ a.rows)) row (λ p i y q w e. (let m = e.met in (search rules, (search rules, search rules, search rules)))) _ _ _ (refl, refl, refl) c.from_fn.ensures.items
