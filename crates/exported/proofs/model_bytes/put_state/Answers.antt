use mathlib.Core.Path.{refl}
use mathlib.Core.List.{[], ◌∷◌}
use Prim.Native.Nat.{◌+◌}
use native.Mathlib.Omega.{arith}
use lib.ListN.{length}
use Rattle.blocks.specs.Made.{two_bytes}
use Rattle.model.specs.Valid.{exit_at}
use Rattle.exported.specs.Bytes.{exit_bytes, state_bytes}
use Rattle.sets.proofs.Stores.{stored_more, each_end}
use Rattle.exported.proofs.model_bytes.put_state.Goals as goal

pub returns : goal.returns
unfolding state_bytes
returns c =
    let a = c.args in
    let st = a.st.now in
    let exits = each_end (λ x. exit_bytes (exit_at st x)) c.put-2.new.room c.put_all.new.room (a.p + 10) (length st.exit) 8 (omega arith) (omega arith) c.put_all.ensures in
    let receivers = stored_more _ _ _ (two_bytes st.receivers) _ (a.p + 8) (a.p + 10) c.put-2.ensures exits (omega arith) in
    let targets = stored_more _ _ _ (st.timeout ∷ st.cancel ∷ []) _ (a.p + 6) (a.p + 8) c.store-2.ensures receivers (omega arith) in
    let after = stored_more _ _ _ (two_bytes st.after) _ (a.p + 4) (a.p + 6) c.put.ensures targets (omega arith) in
    stored_more _ _ _ (st.kind ∷ st.exits ∷ st.sender ∷ st.typ ∷ []) _ a.p (a.p + 4) c.store.ensures after refl
