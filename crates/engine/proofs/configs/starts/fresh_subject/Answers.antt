use Prim.Native.Nat.{ℕ}
use mathlib.Core.Path.{ap}
use Rattle.engine.specs.configs.Subjects.{nobody}
use Rattle.engine.specs.configs.Fresh.{starting}
use Rattle.engine.specs.declared.Subject.{Subject}
use Rattle.engine.proofs.configs.Defaults.{default_nobody}
use Rattle.engine.proofs.configs.starts.fresh_subject.Goals as goal

-- the subject in a state, in this mode
abbrev started : ℕ → ℕ → Subject → Subject
started mode state x = record { mode = mode; state = state; waited = x.waited; word = x.word; mask = x.mask; closed = x.closed; pool = x.pool }

pub returns-then-not-there : goal.returns-then-not-there
returns-then-not-there c = rw (c.if-not-there.true) (default_nobody c.default.ensures)

pub returns-then-runs : goal.returns-then-runs
unfolding starting nobody
returns-then-runs c = rw (c.if-not-there.false, c.if-runs.true) (ap (started 1 c.args.initial) (default_nobody c.default-2.ensures))

pub returns-else-runs : goal.returns-else-runs
unfolding starting nobody
returns-else-runs c = rw (c.if-not-there.false, c.if-runs.false) (ap (λ (x : Subject). started x.mode c.args.initial x) (default_nobody c.default-2.ensures))
