use mathlib.Core.Path.{refl, ap, ◌∙◌}
use mathlib.Core.Bool.{cond}
use mathlib.Core.List.{[], ◌∷◌}
use Prim.Native.Nat.{ℕ}
use Rattle.exported.specs.Bytes.{entry_bytes}
use Rattle.sets.proofs.Stores.{stored_same, stored_more}
use Rattle.exported.proofs.Made.{flag_byte}
use Rattle.exported.proofs.config_bytes.EntryBytes.put.Goals as goal

pub returns : goal.returns
unfolding entry_bytes
returns c =
    let e = c.args.self.now in
    let three = stored_same _ _ _ (e.sender ∷ e.typ ∷ cond e.message 1 0 ∷ []) _ c.store.ensures (ap (λ (m : ℕ). e.sender ∷ e.typ ∷ m ∷ []) (c.from.ensures ∙ flag_byte e.message)) in
    stored_more _ _ _ (e.sender ∷ e.typ ∷ cond e.message 1 0 ∷ []) _ _ _ three c.put.ensures refl
