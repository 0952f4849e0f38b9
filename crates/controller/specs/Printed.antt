-- What the program prints of a tape: a line for each command, numbered from `first` on.
use Rattle.std.specs.Prelude.{List, [], ◌∷◌, ◌++◌, ℕ, zero, suc, ◌+◌, ◌*◌, length, get_or}
use Rattle.model.specs.declared.Model.{Model}
use Rattle.engine.specs.declared.Config.{Config}
use Rattle.engine.specs.commands.Codes.{code_in, shown_in}
use Rattle.engine.specs.Tapes.{commands, bytes_at, config_after, line_at}
use Rattle.engine.specs.declared.Line.{Line}
use Rattle.controller.specs.Text.{row_text}
use Rattle.controller.specs.declared.Served.{Served}

-- count, code, subject, refusal, and of the subject its state, word and entries
unfoldable pub line_text : ℕ → List ℕ → Line → List ℕ
line_text count bytes l = row_text (count ∷ code_in bytes ∷ shown_in bytes ∷ l.refusal ∷ l.state ∷ l.word ∷ l.entries ∷ [])

-- the lines of the first i commands
unfoldable pub lines_text : Model → Config → List ℕ → ℕ → ℕ → List ℕ
lines_text m c tape first zero = []
lines_text m c tape first (suc i) = lines_text m c tape first i ++ line_text (first + i) (bytes_at tape i) (line_at m c tape i)

-- of the whole tape
abbrev pub printed : Model → Config → List ℕ → ℕ → List ℕ
printed m c tape first = lines_text m c tape first (commands tape)

-- the same by a buffer that has four numbers for each command
unfoldable pub rows_text : List ℕ → List ℕ → ℕ → ℕ → List ℕ
rows_text tape numbers first zero = []
rows_text tape numbers first (suc i) =
    rows_text tape numbers first i
    ++ row_text
    ((first + i)
    ∷ code_in (bytes_at tape i)
    ∷ shown_in (bytes_at tape i)
    ∷ get_or numbers (4 * i) 0
    ∷ get_or numbers (4 * i + 1) 0
    ∷ get_or numbers (4 * i + 2) 0
    ∷ get_or numbers (4 * i + 3) 0
    ∷ [])

-- the configuration behind the tape, and how long the text is
abbrev pub served_of : Model → Config → List ℕ → ℕ → Served
served_of m c tape first = record { config = config_after m c tape (commands tape); length = length (printed m c tape first) }
