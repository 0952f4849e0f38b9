use mathlib.Core.Path.{ap, ◌∙◌}
use mathlib.Core.Bool.{not}
use Prim.Native.Nat.{ℕ}
use lib.Dec.{eqb}
use Rattle.exported.specs.Bytes.{entry_from, word_of}
use Rattle.exported.proofs.config_bytes.EntryBytes.from_bytes.Goals as goal

pub returns : goal.returns
unfolding entry_from
returns c =
    let a = c.byte.ensures in
    let b = c.byte-2.ensures in
    let m = ap (λ (x : ℕ). not (eqb x 0)) c.byte-3.ensures in
    let w = c.from_bytes.ensures ∙ ap word_of c.rest.ensures in
    λ i. record { sender = a i; typ = b i; message = m i; content = w i }
