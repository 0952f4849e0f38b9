-- The check of a run of bytes: it starts at 1, and each byte takes it to 33 times itself plus the byte, modulo 2^32.
use Rattle.std.specs.Prelude.{ℕ, ◌+◌, ◌*◌, ◌%◌, ◌^◌, List}
use mathlib.Core.List.{foldl}

abbrev pub step_of : ℕ → ℕ → ℕ
step_of c byte = (33 * c + byte) % 2 ^ 32

unfoldable pub check_of : List ℕ → ℕ
check_of bytes = foldl step_of 1 bytes
