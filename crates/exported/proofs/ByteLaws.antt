-- The eight bytes of a command.
use mathlib.Core.Path.{◌≡◌, sym, ◌∙◌}
use mathlib.Core.List.{List}
use Prim.Native.Nat.{ℕ, ◌+◌, ◌≤◌}
use lib.ListN.{length, take, drop}
use lib.Seq.{get_or-drop}
use Rattle.sets.proofs.Below.{table_same, part_table}
use Rattle.exported.specs.Calls.{eight_of}

-- the first eight bytes from place p on, where there are eight
pub eight_rest : (p : ℕ) (l : List ℕ) → p + 8 ≤ length l → eight_of (drop p l) ≡ take 8 (drop p l)
eight_rest p l h = table_same _ _ 8 (λ i k. get_or-drop p l i 0) ∙ sym (part_table 8 p l 0 h)
