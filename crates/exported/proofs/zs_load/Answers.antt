use mathlib.Core.Path.{ap}
use Prim.Native.Nat.{◌<◌}
use borrow.Author.Rules.{rules}
use Rattle.model.specs.declared.Loaded.{Loaded}
use Rattle.exported.proofs.LoadLaws.{place_few, loader_is}
use Rattle.exported.proofs.CallLaws.{load_refused_lem, load_short, load_done}
use Rattle.exported.proofs.zs_load.Goals as goal
use Rattle.exported.proofs.zs_load.Goals.{After-place}

-- a block is one of 43
few : (r : After-place) → r.place.result < 43
few r = place_few _ _ _ r.load-loaded.ensures r.place.ensures

pub overflow_cast-number-2 : goal.overflow_cast-number-2
overflow_cast-number-2 c =
    let place = few (goal.at.overflow_cast-number-2 c).After-place in
    search rules

pub overflow_mul-number : goal.overflow_mul-number
overflow_mul-number c =
    let place = few (goal.at.overflow_mul-number c).After-place in
    search rules

pub overflow_add-number : goal.overflow_add-number
overflow_add-number c =
    let place = few (goal.at.overflow_add-number c).After-place in
    search rules

pub returns-then-number-ne0 : goal.returns-then-number-ne0
returns-then-number-ne0 c =
    let done = load_refused_lem _ _ _ (loader_is _ _ _ _ c.load-loaded.ensures c.refusal.ensures c.place.ensures) c.if-number-ne0.true in
    record { result = done.0; room = done.1 }

pub returns-then-room-lt-MODEL : goal.returns-then-room-lt-MODEL
returns-then-room-lt-MODEL c =
    let done = load_short _ _ _ (loader_is _ _ _ _ c.load-loaded.ensures c.refusal.ensures c.place.ensures) c.if-number-ne0.false c.if-room-lt-MODEL.true in
    record { result = done.0; room = done.1 }

pub returns : goal.returns
returns c =
    let done = load_done _ _ _ (loader_is _ _ _ _ c.load-loaded.ensures c.refusal.ensures c.place.ensures) c.if-number-ne0.false c.if-room-lt-MODEL.false _ _ (ap (λ (x : Loaded). x.model) c.load-loaded.ensures) c.put_model.ensures in
    record { result = done.0; room = done.1 }
