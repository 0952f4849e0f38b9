-- Laws of what is printed of a tape: the lines put one after the other, the numbers in the buffer, and a tape of two parts.
use mathlib.Core.Path.{◌≡◌, refl, sym, ap, ap₂, ◌∙◌}
use mathlib.Core.Bool.{true, cond}
use mathlib.Core.List.{List, [], ◌∷◌, ◌++◌, tail, append_assoc, append-nil}
use Prim.Native.Nat.{ℕ, zero, suc, ◌+◌, ◌*◌, ◌%◌, ◌≤◌, ◌<◌}
use native.Mathlib.Nat.{add-zero, add-suc, add_assoc}
use native.Mathlib.Numerals.{add-one}
use native.Mathlib.Omega.{arith}
use lib.Dec.{eqb}
use lib.ListN.{length, take, drop, get_or, length-append, length-drop}
use lib.Seq.{get_or-take, get_or-drop, drop-append-le, drop-append-add, take-append-le}
use Rattle.model.specs.Valid.{valid}
use Rattle.model.specs.declared.Model.{Model}
use Rattle.engine.specs.configs.Valid.{config_valid}
use Rattle.engine.specs.declared.Config.{Config}
use Rattle.engine.specs.declared.Stepped.{Stepped}
use Rattle.engine.specs.commands.Codes.{code_in, shown_in}
use Rattle.engine.specs.Steps.{coded_step}
use Rattle.engine.specs.Tapes.{commands, bytes_at, config_after, line_at, ran, written}
use Rattle.controller.specs.Text.{row_text, pasted}
use Rattle.controller.specs.Printed.{line_text, lines_text, printed, rows_text, served_of}
use Rattle.controller.specs.declared.Served.{Served}
use Rattle.controller.proofs.RunLaws.{ran_done, written_at}
use Rattle.std.proofs.Common.{subst}
use Rattle.controller.proofs.TextLaws.{length_row, TextPut, put_nothing, put_length, put_more}

-- ---- the lines of a buffer

-- the row of command i
abbrev pub row_at : List ℕ → ℕ → ℕ → ℕ → ℕ → List ℕ
row_at numbers first code shown i =
    (first + i)
    ∷ code
    ∷ shown
    ∷ get_or numbers (4 * i) 0
    ∷ get_or numbers (4 * i + 1) 0
    ∷ get_or numbers (4 * i + 2) 0
    ∷ get_or numbers (4 * i + 3) 0
    ∷ []

byte_at : (tape : List ℕ) (i j : ℕ) → j < 8 → get_or (bytes_at tape i) j 0 ≡ get_or tape (8 * i + j) 0
byte_at tape i j h = get_or-take 8 (drop (8 * i) tape) j 0 h ∙ get_or-drop (8 * i) tape j 0

code_at : (tape : List ℕ) (i : ℕ) → code_in (bytes_at tape i) ≡ get_or tape (8 * i) 0
code_at tape i = byte_at tape i 0 (omega arith) ∙ ap (λ (k : ℕ). get_or tape k 0) (add-zero (8 * i))

module _ (tape numbers : List ℕ) (first : ℕ) where
  pub length_rows : (i : ℕ) → length (rows_text tape numbers first i) ≤ 147 * i
  unfolding rows_text
  length_rows zero = omega arith
  length_rows (suc i) =
      let row = row_at numbers first (code_in (bytes_at tape i)) (shown_in (bytes_at tape i)) i in
      omega (arith, length-append (rows_text tape numbers first i) (row_text row), length_rows i, length_row (first + i) (tail row))

  rows_more : (i shown : ℕ) → shown ≡ cond (eqb (get_or tape (8 * i) 0) 8) 0 (get_or tape (8 * i + 1) 0)
      → rows_text tape numbers first (i + 1) ≡ rows_text tape numbers first i ++ row_text (row_at numbers first (get_or tape (8 * i) 0) shown i)
  unfolding rows_text
  rows_more i shown e = rw (add-one i, code_at tape i, byte_at tape i 1 (omega arith), e)

  module _ (old : List ℕ) where
    -- the lines of i commands are put
    abbrev pub LinesPut : ℕ → ℕ → List ℕ → Type 0
    LinesPut i p now = TextPut old 0 (rows_text tape numbers first i) p now

    pub lines_start : LinesPut 0 0 old
    unfolding rows_text
    lines_start = put_nothing old 0

    module _ (i p : ℕ) (now : List ℕ) (w : LinesPut i p now) (room : 147 * i ≤ length old) where
      pub lines_length : length now ≡ length old
      lines_length = put_length old 0 (rows_text tape numbers first i) p now w (omega (arith, length_rows i))

      pub lines_few : p ≤ 147 * i
      lines_few = omega (arith, w.place, length_rows i)

      -- room for one more
      pub lines_room : 147 * (i + 1) ≤ length old → p + 147 ≤ length now
      lines_room h = omega (arith, lines_length, lines_few)

      pub lines_turn : (shown q : ℕ) (next : List ℕ) → shown ≡ cond (eqb (get_or tape (8 * i) 0) 8) 0 (get_or tape (8 * i + 1) 0)
          → q ≡ p + length (row_text (row_at numbers first (get_or tape (8 * i) 0) shown i)) → next ≡ pasted now p (row_text (row_at numbers first (get_or tape (8 * i) 0) shown i))
          → LinesPut (i + 1) q next
      lines_turn shown q next e h t =
          let row = row_text (row_at numbers first (get_or tape (8 * i) 0) shown i) in
          subst (λ (l : List ℕ). TextPut old 0 l q next) (sym (rows_more i shown e))
          (put_more old 0 (rows_text tape numbers first i) p now w (omega (arith, length_rows i)) row q next h t)

-- ---- the numbers that the engine wrote

module _ (m : Model) (c : Config) (tape old : List ℕ) (v : valid m ≡ true) (g : config_valid m c ≡ true) (room : 4 * commands tape ≤ length old) where
  pub rows_lines : (first i : ℕ) → i ≤ commands tape → rows_text tape (written m c tape old) first i ≡ lines_text m c tape first i
  unfolding rows_text lines_text line_text
  rows_lines first zero h = refl
  rows_lines first (suc i) h =
      let z : get_or (written m c tape old) (4 * i) 0 ≡ (line_at m c tape i).refusal =
      ap (λ (k : ℕ). get_or (written m c tape old) k 0) (sym (add-zero (4 * i))) ∙ written_at m c tape old v g room i 0 (omega arith) (omega arith) in
      rw (
        rows_lines first i (omega arith),
        z,
        written_at m c tape old v g room i 1 (omega arith) (omega arith),
        written_at m c tape old v g room i 2 (omega arith) (omega arith),
        written_at m c tape old v g room i 3 (omega arith) (omega arith),
      )

  -- what is served, by what the engine answered and wrote
  module _ (first : ℕ) (numbers : List ℕ) (are : numbers ≡ written m c tape old) where
    rows_printed : rows_text tape numbers first (commands tape) ≡ printed m c tape first
    rows_printed = ap (λ (ns : List ℕ). rows_text tape ns first (commands tape)) are ∙ rows_lines first (commands tape) (omega arith)

    pub served_text : (was now : List ℕ) → now ≡ pasted was 0 (rows_text tape numbers first (commands tape)) → now ≡ pasted was 0 (printed m c tape first)
    served_text was now e = e ∙ ap (pasted was 0) rows_printed

    pub served_is : (r : Stepped) (n : ℕ) → r ≡ ran m c tape (length old) → n ≡ length (rows_text tape numbers first (commands tape))
        → ◌≡◌ {A = Served} (record { config = r.config; length = n }) (served_of m c tape first)
    served_is r n e h =
        let p : r.config ≡ config_after m c tape (commands tape) = ap (λ (x : Stepped). x.config) (e ∙ ran_done m c tape old v g room) in
        let q : n ≡ length (printed m c tape first) = h ∙ ap length rows_printed in
        λ i. record { config = p i; length = q i }

-- ---- a tape of two parts, the first of whole commands

module _ (t u : List ℕ) (whole : length t % 8 ≡ 0) where
  pub commands_parts : commands (t ++ u) ≡ commands t + commands u
  commands_parts = rw (length-append t u) (omega arith)

  bytes_first : (i : ℕ) → i < commands t → bytes_at (t ++ u) i ≡ bytes_at t i
  bytes_first i h =
      ap (take 8) (drop-append-le (8 * i) t u (omega arith))
      ∙ take-append-le 8 (drop (8 * i) t) u (omega (arith, length-drop (8 * i) t))

  bytes_second : (j : ℕ) → bytes_at (t ++ u) (commands t + j) ≡ bytes_at u j
  bytes_second j =
      let e : 8 * (commands t + j) ≡ length t + 8 * j = omega arith in
      ap (λ (k : ℕ). take 8 (drop k (t ++ u))) e ∙ ap (take 8) (drop-append-add t u (8 * j))

  module _ (m : Model) (c : Config) where
    after_first : (i : ℕ) → i ≤ commands t → config_after m c (t ++ u) i ≡ config_after m c t i
    unfolding config_after
    after_first zero h = refl
    after_first (suc i) h = ap₂ (λ (d : Config) (b : List ℕ). (coded_step m d b).config) (after_first i (omega arith)) (bytes_first i h)

    after_second : (j : ℕ) → config_after m c (t ++ u) (commands t + j) ≡ config_after m (config_after m c t (commands t)) u j
    unfolding config_after
    after_second zero = rw (add-zero (commands t)) (after_first (commands t) (omega arith))
    after_second (suc j) = rw (add-suc (commands t) j) (ap₂ (λ (d : Config) (b : List ℕ). (coded_step m d b).config) (after_second j) (bytes_second j))

    -- the parts one after the other lead to the same configuration ..
    pub after_parts : config_after m c (t ++ u) (commands (t ++ u)) ≡ config_after m (config_after m c t (commands t)) u (commands u)
    after_parts = rw commands_parts (after_second (commands u))

    line_first : (i : ℕ) → i < commands t → line_at m c (t ++ u) i ≡ line_at m c t i
    unfolding line_at
    line_first i h = rw (after_first i (omega arith), bytes_first i h)

    line_second : (j : ℕ) → line_at m c (t ++ u) (commands t + j) ≡ line_at m (config_after m c t (commands t)) u j
    unfolding line_at
    line_second j = rw (after_second j, bytes_second j)

    lines_first : (first i : ℕ) → i ≤ commands t → lines_text m c (t ++ u) first i ≡ lines_text m c t first i
    unfolding lines_text
    lines_first first zero h = refl
    lines_first first (suc i) h = rw (lines_first first i (omega arith), bytes_first i h, line_first i h)

    lines_second : (first j : ℕ) → lines_text m c (t ++ u) first (commands t + j) ≡ printed m c t first ++ lines_text m (config_after m c t (commands t)) u (first + commands t) j
    unfolding lines_text
    lines_second first zero =
        ap (lines_text m c (t ++ u) first) (add-zero (commands t))
        ∙ lines_first first (commands t) (omega arith)
        ∙ sym (append-nil (printed m c t first))
    lines_second first (suc j) =
        rw (add-suc (commands t) j, lines_second first j, bytes_second j, line_second j, ← (add_assoc first (commands t) j))
        (append_assoc (printed m c t first) (lines_text m (config_after m c t (commands t)) u (first + commands t) j) _)

    -- .. and print the same
    pub printed_parts : (first : ℕ) → printed m c (t ++ u) first ≡ printed m c t first ++ printed m (config_after m c t (commands t)) u (first + commands t)
    printed_parts first = ap (lines_text m c (t ++ u) first) commands_parts ∙ lines_second first (commands u)
