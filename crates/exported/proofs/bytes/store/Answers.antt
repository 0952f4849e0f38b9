use mathlib.Core.Path.{◌≡◌, sym, ap, ◌∙◌}
use mathlib.Core.List.{List, ◌++◌, append_assoc}
use Prim.Native.Nat.{ℕ, ◌+◌, ◌-◌}
use native.Mathlib.Omega.{arith}
use lib.ListN.{length, take, drop}
use lib.Seq.{sets-eq, drop-drop}
use Rattle.sets.specs.Stores.{stored}
use Rattle.exported.proofs.bytes.store.Goals as goal

pub returns : goal.returns
unfolding stored
returns c =
    let a = c.args in
    let e : a.p + length a.bytes.now - a.p ≡ length a.bytes.now = omega arith in
    rw (e, c.copy_from_slice.ensures.after)
    (ap (λ (t : List ℕ). take a.p a.room.now ++ (a.bytes.now ++ t)) (drop-drop (length a.bytes.now) a.p a.room.now)
    ∙ sym (append_assoc (take a.p a.room.now) a.bytes.now (drop (a.p + length a.bytes.now) a.room.now))
    ∙ sym (sets-eq a.bytes.now a.room.now a.p c.requires))
