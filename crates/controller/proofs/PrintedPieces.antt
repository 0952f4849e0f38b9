-- However the input is cut into pieces, also inside a command, all is as at once.
use mathlib.Core.Path.{◌≡◌, sym, ap, ◌∙◌}
use mathlib.Core.Bool.{cond}
use mathlib.Core.List.{List, [], ◌∷◌, ◌++◌, append_assoc, append-nil, flatten}
use Prim.Native.Nat.{ℕ, ◌+◌, ◌*◌, ◌-◌, ◌/◌, ◌%◌, ◌<◌}
use native.Mathlib.Nat.{add-zero}
use native.Mathlib.Omega.{arith}
use lib.Dec.{eqb}
use lib.ListN.{length, take, drop, length-drop, take-append-drop}
use lib.Seq.{drop-append-add, length-take-le}
use Rattle.model.specs.declared.Model.{Model}
use Rattle.engine.specs.declared.Config.{Config}
use Rattle.engine.specs.Tapes.{commands, config_after}
use Rattle.controller.specs.Printed.{lines_text}
use Rattle.controller.specs.Pieces.{Place, Piece, start, at_once, piece, joined, pieces, cut, ending, PrintedPieces}
use Rattle.controller.proofs.PrintedLaws.{commands_parts, after_parts, printed_parts}

-- ---- at once

held_length : (m : Model) (c : Config) (bytes : List ℕ) (n : ℕ) → length (at_once m c bytes n).behind.held ≡ length bytes % 8
unfolding at_once
held_length m c bytes n = omega (arith, length-drop (8 * commands bytes) bytes)

-- less than a command: nothing is printed, all is held
short : (m : Model) (c : Config) (bytes : List ℕ) (n : ℕ) → length bytes < 8
    → at_once m c bytes n ≡ record { text = []; behind = record { config = c; held = bytes; next = n } }
unfolding at_once lines_text config_after
short m c bytes n h =
    let none : length bytes / 8 ≡ 0 = omega arith in
    rw (none, add-zero n)

-- whole commands, and what is behind them
whole : (m : Model) (c : Config) (t u : List ℕ) (n : ℕ) → length t % 8 ≡ 0
    → at_once m c (t ++ u) n ≡ joined (at_once m c t n) (at_once m (config_after m c t (commands t)) u (n + commands t))
unfolding at_once
whole m c t u n w =
    let place : 8 * commands (t ++ u) ≡ length t + 8 * commands u = omega (arith, commands_parts t u w) in
    let text = printed_parts t u w m c n in
    let config = after_parts t u w m c in
    let held : drop (8 * commands (t ++ u)) (t ++ u) ≡ drop (8 * commands u) u = ap (λ (k : ℕ). drop k (t ++ u)) place ∙ drop-append-add t u (8 * commands u) in
    let next : n + commands (t ++ u) ≡ n + commands t + commands u = omega (arith, commands_parts t u w) in
    λ i. record { text = text i; behind = record { config = config i; held = held i; next = next i } }

-- ---- cut anywhere

module _ (m : Model) (c : Config) (bytes : List ℕ) (n : ℕ) where
  -- the whole commands, and what is left over
  abbrev front : List ℕ
  front = take (8 * commands bytes) bytes

  abbrev rest : List ℕ
  rest = drop (8 * commands bytes) bytes

  front_length : length front ≡ 8 * commands bytes
  front_length = length-take-le (8 * commands bytes) bytes (omega arith)

  abbrev cut_place : Place
  cut_place = record { config = config_after m c front (commands front); held = rest; next = n + commands front }

  once_parts : at_once m c bytes n ≡ record { text = (at_once m c front n).text; behind = cut_place }
  once_parts =
      ap (λ (x : List ℕ). at_once m c x n) (sym (take-append-drop (8 * commands bytes) bytes))
      ∙ whole m c front rest n (omega (arith, front_length))
      ∙ ap (joined (at_once m c front n)) (short m (config_after m c front (commands front)) rest (n + commands front) (omega (arith, length-drop (8 * commands bytes) bytes)))
      ∙ ap (λ (x : List ℕ). record { text = x; behind = cut_place }) (append-nil (at_once m c front n).text)

  once_more : (more : List ℕ) → at_once m c (bytes ++ more) n ≡ joined (at_once m c bytes n) (piece m (at_once m c bytes n).behind more)
  unfolding piece
  once_more more =
      ap (λ (x : List ℕ). at_once m c x n) (ap (λ (x : List ℕ). x ++ more) (sym (take-append-drop (8 * commands bytes) bytes)) ∙ append_assoc front rest more)
      ∙ whole m c front (rest ++ more) n (omega (arith, front_length))
      ∙ ap (λ (x : Piece). joined x (piece m x.behind more)) (sym once_parts)

module _ (m : Model) where
  piece_more : (p : Place) (a b : List ℕ) → piece m p (a ++ b) ≡ joined (piece m p a) (piece m (piece m p a).behind b)
  unfolding piece
  piece_more p a b =
      ap (λ (x : List ℕ). at_once m p.config x p.next) (sym (append_assoc p.held a b))
      ∙ once_more m p.config (p.held ++ a) p.next b

  piece_none : (p : Place) → length p.held < 8 → piece m p [] ≡ record { text = []; behind = p }
  unfolding piece
  piece_none p h = ap (λ (x : List ℕ). at_once m p.config x p.next) (append-nil p.held) ∙ short m p.config p.held p.next h

  piece_held : (p : Place) (a : List ℕ) → length (piece m p a).behind.held < 8
  unfolding piece
  piece_held p a = omega (arith, held_length m p.config (p.held ++ a) p.next)

  pub pieces_at_once : (p : Place) (bs : List (List ℕ)) → length p.held < 8 → pieces m p bs ≡ piece m p (flatten bs)
  unfolding pieces flatten
  pieces_at_once p [] h = sym (piece_none p h)
  pieces_at_once p (b ∷ bs) h =
      ap (joined (piece m p b)) (pieces_at_once (piece m p b).behind bs (piece_held p b))
      ∙ sym (piece_more p b (flatten bs))

  -- THEOREM
  pub printed_pieces : (c : Config) (bs : List (List ℕ)) → PrintedPieces m c bs
  unfolding piece at_once ending
  printed_pieces c bs =
      let all = flatten bs in
      let same : pieces m (start c) bs ≡ at_once m c all 1 = pieces_at_once (start c) bs (omega arith) in
      let place : 8 * commands all ≡ length all - length all % 8 = omega arith in
      let count : length (pieces m (start c) bs).behind.held ≡ length all % 8 = ap (λ (x : Piece). length x.behind.held) same ∙ held_length m c all 1 in
      record {
        same = same;
        held = ap (λ (x : Piece). x.behind.held) same ∙ ap (λ (k : ℕ). drop k all) place;
        end = ap (λ (k : ℕ). cond (eqb k 0) [] cut) count;
      }
