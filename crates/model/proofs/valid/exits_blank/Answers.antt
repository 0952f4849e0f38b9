use mathlib.Core.Path.{◌≡◌, sym, ap, ◌∙◌}
use mathlib.Core.Bool.{Bool, ◌&&◌}
use Prim.Native.Nat.{ℕ, ◌+◌}
use lib.Bits.{bit_or}
use lib.Dec.{eqb}
use lib.ListN.{get_or}
use Rattle.model.specs.Records.{blank_exit}
use Rattle.model.specs.Valid.{is_blank_exit, none_after}
use Rattle.model.specs.declared.Exit.{Exit}
use Rattle.model.proofs.BlankLaws.{or_none, none_turn, none_end, and_assoc, and_rest}
use Rattle.model.proofs.valid.exits_blank.Goals as goal

-- one exit more
one : (seen : ℕ) (e : Exit) (rest : Bool)
    → (eqb seen 0 && (is_blank_exit e && rest)) ≡ (eqb (bit_or seen (bit_or (bit_or e.target e.sender) e.typ)) 0 && rest)
one seen e rest = rw (or_none seen (bit_or (bit_or e.target e.sender) e.typ), or_none (bit_or e.target e.sender) e.typ, or_none e.target e.sender) (and_assoc (eqb seen 0) (is_blank_exit e) rest)

pub loop-e-preserved : goal.loop-e-preserved
loop-e-preserved c =
    let at = c.loop-e in
    let es = c.args.exits.now in
    at.invariant ∙ ap (λ (x : Bool). eqb at.seen 0 && x) (none_turn _ _ c.loop-e-test.true) ∙ one at.seen (get_or es at.e-index blank_exit) (none_after (at.e-index + 1) es)

pub returns : goal.returns
returns c = let at = c.loop-e in sym (at.invariant ∙ and_rest _ _ (none_end _ _ c.loop-e-test.false))
