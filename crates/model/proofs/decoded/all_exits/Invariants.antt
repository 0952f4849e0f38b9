use mathlib.Core.Path.{◌≡◌}
use mathlib.Core.Bool.{cond}
use mathlib.Core.List.{List}
use Prim.Native.Nat.{ℕ}
use lib.Dec.{ltb}
use Rattle.sets.specs.Below.{filled}
use Rattle.blocks.specs.Blocks.{count_of, record_no}
use Rattle.model.specs.Records.{blank_exit, exit_of}
use Rattle.model.specs.declared.Exit.{Exit}
use Rattle.model.proofs.decoded.all_exits.Given as goal

-- the exit of record j; blank from the last up
abbrev pub exit_or_none : List ℕ → ℕ → Exit
exit_or_none file j = cond (ltb j (count_of file 3)) (exit_of (record_no file 3 j)) blank_exit

abbrev pub invariant-loop-j : goal.invariant-loop-j
invariant-loop-j l = l.exits ≡ filled (exit_or_none l.file) blank_exit 1024 l.j
