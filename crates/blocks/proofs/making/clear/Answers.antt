use Rattle.std.proofs.Common.{◌≡◌, ◌+◌, ◌-◌, ℕ, length, take, drop, replicate, rules, ap, ◌∙◌, arith, length-take, length-drop}
use lib.ListN.{length-replicate}
use Rattle.blocks.proofs.MakingLaws.{part_stored}
use Rattle.blocks.proofs.making.clear.Goals as goal

pub returns : goal.returns
returns c =
    let a = c.args in
    let n : length (take (a.p + a.count - a.p) (drop a.p a.buffer.now)) ≡ a.count =
    omega (arith, length-take (a.p + a.count - a.p) (drop a.p a.buffer.now), length-drop a.p a.buffer.now, c.requires) in
    let k : length (replicate {A = ℕ} a.count 0) ≡ a.count = length-replicate {A = ℕ} a.count 0 in
    part_stored _ _ _ _ (replicate a.count 0)
    (c.fill.ensures.after (λ y h. search rules) ∙ ap (λ (m : ℕ). replicate m 0) n)
    (omega (arith, k))
    (omega (arith, k, c.requires))
