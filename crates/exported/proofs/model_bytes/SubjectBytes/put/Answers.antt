use mathlib.Core.Path.{refl}
use mathlib.Core.List.{[], ◌∷◌}
use Prim.Native.Nat.{◌+◌}
use native.Mathlib.Omega.{arith}
use lib.ListN.{length}
use Rattle.model.specs.Valid.{row_at}
use Rattle.exported.specs.Bytes.{row_bytes, own_bytes}
use Rattle.sets.proofs.Stores.{stored_more, each_end}
use Rattle.exported.proofs.model_bytes.SubjectBytes.put.Goals as goal

pub returns : goal.returns
unfolding own_bytes
returns c =
    let a = c.args in
    let own = a.self.now in
    let rows = each_end (λ k. row_bytes (row_at own k)) c.store.new.room c.put_all.new.room (a.p + 3) (length own.row) 8 (omega arith) (omega arith) c.put_all.ensures in
    stored_more _ _ _ (own.states ∷ own.initial ∷ own.rows ∷ []) _ _ _ c.store.ensures rows refl
