-- Every public call has one result: two results that its contract allows are equal. `Learnt` is the contract's ensures, as a caller has it.
use mathlib.Core.Path.{sym, ◌∙◌}
use Rattle.model_promises.specs.One.{OneResult, OneStore}
use Rattle.engine.proofs.refusal.Reads as refusal_call
use Rattle.engine.proofs.refusal.Kinds as refusal_call_kinds
use Rattle.engine.proofs.shared_out.Reads as shared_out_call
use Rattle.engine.proofs.shared_out.Kinds as shared_out_call_kinds
use Rattle.engine.proofs.fresh.Reads as fresh_call
use Rattle.engine.proofs.fresh.Kinds as fresh_call_kinds
use Rattle.engine.proofs.is_valid.Reads as is_valid_call
use Rattle.engine.proofs.is_valid.Kinds as is_valid_call_kinds
use Rattle.engine.proofs.step.Reads as step_call
use Rattle.engine.proofs.step.Kinds as step_call_kinds
use Rattle.engine.proofs.step_coded.Reads as step_coded_call
use Rattle.engine.proofs.step_coded.Kinds as step_coded_call_kinds
use Rattle.engine.proofs.run.Reads as run_call
use Rattle.engine.proofs.run.Kinds as run_call_kinds

pub refusal_one : OneResult 0 refusal_call_kinds.ps refusal_call_kinds.r refusal_call.Learnt
refusal_one κs a x y e p q = p ∙ sym q

pub shared_out_one : OneResult 0 shared_out_call_kinds.ps shared_out_call_kinds.r shared_out_call.Learnt
shared_out_one κs a x y e p q = p ∙ sym q

pub fresh_one : OneResult 0 fresh_call_kinds.ps fresh_call_kinds.r fresh_call.Learnt
fresh_one κs a x y e p q = p ∙ sym q

pub is_valid_one : OneResult 0 is_valid_call_kinds.ps is_valid_call_kinds.r is_valid_call.Learnt
is_valid_one κs a x y e p q = p ∙ sym q

pub step_one : OneResult 0 step_call_kinds.ps step_call_kinds.r step_call.Learnt
step_one κs a x y e p q = p ∙ sym q

pub step_coded_one : OneResult 0 step_coded_call_kinds.ps step_coded_call_kinds.r step_coded_call.Learnt
step_coded_one κs a x y e p q = p ∙ sym q

-- and what stands in the lent buffer at the end
pub run_one : OneStore 2 run_call_kinds.ps run_call_kinds.r (λ κs e. e.1.1.1.0.now) run_call.Learnt
run_one κs a x y e f p q = (p.0 ∙ sym q.0, p.1 ∙ sym q.1)
