-- Two results that a contract of these calls allows are equal, and so is what then stands in the lent buffers.
use mathlib.Core.Path.{◌≡◌, sym, ◌∙◌}
use borrow.Fn.Kinds.{Dens, res_t, ended_of}
use contract.Lifetimes.{Lfts}
use denote.Triple.Clauses.{AtExit}
use Rattle.model_promises.specs.One.{OneResult, OneStore}
use Rattle.exported.proofs.zs_load.Reads as load_call
use Rattle.exported.proofs.zs_load.Kinds as load_kinds
use Rattle.exported.proofs.zs_write.Reads as write_call
use Rattle.exported.proofs.zs_write.Kinds as write_kinds
use Rattle.exported.proofs.zs_fresh.Reads as fresh_call
use Rattle.exported.proofs.zs_fresh.Kinds as fresh_kinds
use Rattle.exported.proofs.zs_step.Reads as step_call
use Rattle.exported.proofs.zs_step.Kinds as step_kinds
use Rattle.exported.proofs.zs_run.Reads as run_call
use Rattle.exported.proofs.zs_run.Kinds as run_kinds
use Rattle.exported.proofs.zs_walk.Reads as walk_call
use Rattle.exported.proofs.zs_walk.Kinds as walk_kinds
use Rattle.exported.proofs.zs_shared.Reads as shared_call
use Rattle.exported.proofs.zs_shared.Kinds as shared_kinds

pub zs_load_one : OneStore 2 load_kinds.ps load_kinds.r (λ κs e. e.1.0.now) load_call.Learnt
zs_load_one κs a x y e f p q = (p.0 ∙ sym q.0, p.1 ∙ sym q.1)

pub zs_write_one : OneStore 2 write_kinds.ps write_kinds.r (λ κs e. e.1.0.now) write_call.Learnt
zs_write_one κs a x y e f p q = (p.0 ∙ sym q.0, p.1 ∙ sym q.1)

pub zs_fresh_one : OneStore 2 fresh_kinds.ps fresh_kinds.r (λ κs e. e.1.0.now) fresh_call.Learnt
zs_fresh_one κs a x y e f p q = (p.0 ∙ sym q.0, p.1 ∙ sym q.1)

pub zs_step_one : (κs : Lfts 4) (a : Dens κs step_kinds.ps) (x y : (res_t step_kinds.r κs).Denot) (e f : AtExit (ended_of 4 step_kinds.ps step_kinds.r) κs)
    → step_call.Learnt κs a x e → step_call.Learnt κs a y f → (x ≡ y) × (e.1.0.now ≡ f.1.0.now) × (e.1.1.1.0.now ≡ f.1.1.1.0.now)
zs_step_one κs a x y e f p q = (p.0 ∙ sym q.0, p.1.0 ∙ sym q.1.0, p.1.1 ∙ sym q.1.1)

pub zs_run_one : (κs : Lfts 4) (a : Dens κs run_kinds.ps) (x y : (res_t run_kinds.r κs).Denot) (e f : AtExit (ended_of 4 run_kinds.ps run_kinds.r) κs)
    → run_call.Learnt κs a x e → run_call.Learnt κs a y f → (x ≡ y) × (e.1.0.now ≡ f.1.0.now) × (e.1.1.1.0.now ≡ f.1.1.1.0.now)
zs_run_one κs a x y e f p q = (p.0 ∙ sym q.0, p.1.0 ∙ sym q.1.0, p.1.1 ∙ sym q.1.1)

pub zs_walk_one : OneStore 3 walk_kinds.ps walk_kinds.r (λ κs e. e.1.0.now) walk_call.Learnt
zs_walk_one κs a x y e f p q = (p.0 ∙ sym q.0, p.1 ∙ sym q.1)

pub zs_shared_one : OneResult 1 shared_kinds.ps shared_kinds.r shared_call.Learnt
zs_shared_one κs a x y e p q = p ∙ sym q
