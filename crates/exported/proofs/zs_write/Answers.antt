use Rattle.std.specs.Prelude.{Err}
use mathlib.Core.Path.{sym, ap, ◌∙◌}
use Prim.Native.Nat.{◌≤◌}
use native.Mathlib.Omega.{arith}
use Rattle.model.proofs.FileLaws.{few_bytes}
use Rattle.exported.proofs.WriteLaws.{number_of, no_model, write_gives}
use Rattle.exported.proofs.zs_write.Goals as goal
use Rattle.exported.proofs.zs_write.Goals.{In-Ok}

-- a file is at most 22,016 bytes long
few : (r : In-Ok) → r.in-Ok.length ≤ 22016
few r = few_bytes _ _ _ (sym r.write.ensures.answer ∙ r.in-Ok.is)

pub returns-then-not-is_model : goal.returns-then-not-is_model
returns-then-not-is_model c =
    let none = no_model c.args.model.now c.args.room.now (sym c.is_model.ensures ∙ c.if-not-is_model.true) in
    record { result = none.0; room = none.1 }

pub model_from-requires : goal.model_from-requires
model_from-requires c = sym c.is_model.ensures ∙ c.if-not-is_model.false

pub overflow_cast-result : goal.overflow_cast-result
overflow_cast-result c = omega (arith, few (goal.at.overflow_cast-result c).In-Ok)

pub overflow_mul-result : goal.overflow_mul-result
overflow_mul-result c = omega (arith, few (goal.at.overflow_mul-result c).In-Ok)

pub returns-in-Ok : goal.returns-in-Ok
returns-in-Ok c =
    let done = write_gives c.args.model.now c.args.room.now (sym c.is_model.ensures ∙ c.if-not-is_model.false) _ c.model_from.ensures _ c.write.ensures.answer _ c.write.ensures.buffer in
    record { result = sym (ap number_of c.in-Ok.is) ∙ done.0; room = done.1 }

pub returns-in-Err-NotValid : goal.returns-in-Err-NotValid
returns-in-Err-NotValid c =
    let done = write_gives c.args.model.now c.args.room.now (sym c.is_model.ensures ∙ c.if-not-is_model.false) _ c.model_from.ensures _ c.write.ensures.answer _ c.write.ensures.buffer in
    record { result = sym (ap number_of (c.in-Err-NotValid.is ∙ ap Err c.in-Err-NotValid.field-0-is)) ∙ done.0; room = done.1 }

pub returns-in-Err-TooShort : goal.returns-in-Err-TooShort
returns-in-Err-TooShort c =
    let done = write_gives c.args.model.now c.args.room.now (sym c.is_model.ensures ∙ c.if-not-is_model.false) _ c.model_from.ensures _ c.write.ensures.answer _ c.write.ensures.buffer in
    record { result = sym (ap number_of (c.in-Err-TooShort.is ∙ ap Err c.in-Err-TooShort.field-0-is)) ∙ done.0; room = done.1 }
