use mathlib.Core.Path.{sym, ◌∙◌}
use native.Mathlib.Omega.{arith}
use borrow.Author.Tests.{lt-ltb, le-ltb}
use Rattle.engine.specs.configs.Shares.{share_of}
use Rattle.engine.proofs.configs.ModelFacts.{n_high}
use Rattle.engine.proofs.configs.shares.shared_out.Goals as goal

pub returns-then-not-is_valid : goal.returns-then-not-is_valid
unfolding share_of
returns-then-not-is_valid c = rw (sym c.is_valid.ensures ∙ c.if-not-is_valid.true)

pub returns-then-m-owner : goal.returns-then-m-owner
unfolding share_of
returns-then-m-owner c = rw (sym c.is_valid.ensures ∙ c.if-not-is_valid.false, le-ltb _ _ c.if-m-owner.true)

pub bounds-m-owner : goal.bounds-m-owner
bounds-m-owner c = omega (arith, c.if-m-owner.false, n_high c.args.m (sym c.is_valid.ensures ∙ c.if-not-is_valid.false))

pub returns : goal.returns
unfolding share_of
returns c = rw (sym c.is_valid.ensures ∙ c.if-not-is_valid.false, lt-ltb _ _ c.if-m-owner.false, c.is_shared.ensures)
