-- Input that comes in pieces, cut anywhere, also inside a command.
use Rattle.std.specs.Prelude.{◌≡◌, cond, ℕ, ◌+◌, ◌*◌, ◌-◌, ◌%◌, eqb, length, take, drop}
use mathlib.Core.List.{List, [], ◌∷◌, ◌++◌, flatten}
use Rattle.model.specs.declared.Model.{Model}
use Rattle.engine.specs.declared.Config.{Config}
use Rattle.engine.specs.Tapes.{commands, config_after}
use Rattle.controller.specs.Printed.{printed}
use Rattle.controller.specs.declared.Serving.{Serving}

-- between two pieces: the configuration, the bytes held over (the front of a command), the number of the next line
pub record Place : Type 0 where
  pub config : Config
  pub held : List ℕ
  pub next : ℕ

-- before the first piece
abbrev pub start : Config → Place
start c = record { config = c; held = []; next = 1 }

-- a piece served: the text printed, and the place behind it
pub record Piece : Type 0 where
  pub text : List ℕ
  pub behind : Place

-- some bytes at once: the lines of the whole commands; what is left over behind these is held
unfoldable pub at_once : Model → Config → List ℕ → ℕ → Piece
at_once m c bytes next =
    record {
      text = printed m c bytes next;
      behind = record { config = config_after m c bytes (commands bytes); held = drop (8 * commands bytes) bytes; next = next + commands bytes };
    }

-- one piece: the bytes held over, and behind them those that were read
unfoldable pub piece : Model → Place → List ℕ → Piece
piece m p bytes = at_once m p.config (p.held ++ bytes) p.next

-- a piece, and what came behind it
abbrev pub joined : Piece → Piece → Piece
joined a b = record { text = a.text ++ b.text; behind = b.behind }

-- pieces one after the other
unfoldable pub pieces : Model → Place → List (List ℕ) → Piece
pieces m p [] = record { text = []; behind = p }
pieces m p (b ∷ bs) = joined (piece m p b) (pieces m (piece m p b).behind bs)

-- `cut` and a newline
abbrev pub cut : List ℕ
cut = 99 ∷ 117 ∷ 116 ∷ 10 ∷ []

-- what is printed at the end of the input, where so many bytes are held over
unfoldable pub ending : ℕ → List ℕ
ending held = cond (eqb held 0) [] cut

-- THEOREM (proofs/PrintedPieces.antt): however the input is cut into pieces, all is as at once
pub record PrintedPieces (m : Model) (c : Config) (bs : List (List ℕ)) : Type 0 where
  -- the text, the configuration behind it, the bytes held over and the number of the next line
  pub same : pieces m (start c) bs ≡ at_once m c (flatten bs) 1
  -- held over are the last bytes of the input, its length % 8
  pub held : (pieces m (start c) bs).behind.held ≡ drop (length (flatten bs) - length (flatten bs) % 8) (flatten bs)
  -- `cut` is printed exactly where that is not 0
  pub end : ending (length (pieces m (start c) bs).behind.held) ≡ cond (eqb (length (flatten bs) % 8) 0) [] cut

-- ---- in the program: the bytes held over stand at the front of one buffer, the text at the front of another

abbrev pub place_in : Serving → List ℕ → Place
place_in s room = record { config = s.config; held = take s.held room; next = s.next }

abbrev pub piece_in : Serving → List ℕ → List ℕ → Piece
piece_in s room out = record { text = take s.length out; behind = place_in s room }
