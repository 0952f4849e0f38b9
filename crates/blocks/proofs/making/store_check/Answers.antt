use Rattle.std.proofs.Common.{◌≡◌, ℕ, ◌+◌, ◌-◌, take, drop, ap, ◌∙◌, arith}
use Rattle.sets.specs.Stores.{stored}
use Rattle.blocks.specs.Checks.{check_of}
use Rattle.blocks.specs.Made.{four_bytes}
use Rattle.blocks.proofs.making.store_check.Goals as goal

pub returns : goal.returns
returns c =
    let old = c.args.buffer.now in
    let p = c.args.p in
    let n : p + 508 - p ≡ 508 = omega arith in
    let k : c.check-c.result ≡ check_of (take 508 (drop p old)) = c.check-c.ensures ∙ ap (λ (m : ℕ). check_of (take m (drop p old))) n in
    c.store.ensures ∙ (let e : c.to_le_bytes.result ≡ four_bytes (check_of (take 508 (drop p old))) = grind (arith, k, c.to_le_bytes.ensures) in ap (stored old (p + 508)) e)
