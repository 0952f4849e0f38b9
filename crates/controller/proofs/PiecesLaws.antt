-- Laws of a piece of input in the program: bytes moved to the front, what is served of it, and the end of the input.
use mathlib.Core.Path.{◌≡◌, sym, ap, ap₂, ◌∙◌}
use mathlib.Core.Logic.{◌≢◌}
use mathlib.Core.List.{List, [], ◌++◌}
use Prim.Native.Nat.{ℕ, ◌+◌, ◌*◌, ◌-◌, ◌/◌, ◌≤◌}
use native.Mathlib.Nat.{zero-add}
use native.Mathlib.Omega.{arith}
use borrow.Author.Tests.{eq-eqb, ne_eqb}
use lib.ListN.{length, take, drop, length-drop}
use lib.Seq.{take-add, take_at, drop_at, take-append_seam, length-take-le}
use Rattle.std.specs.List.{copy_within}
use Rattle.model.specs.declared.Model.{Model}
use Rattle.engine.specs.Tapes.{commands, config_after}
use Rattle.controller.specs.Text.{pasted}
use Rattle.controller.specs.Printed.{printed, served_of}
use Rattle.controller.specs.Pieces.{Piece, at_once, piece, cut, ending, place_in, piece_in}
use Rattle.controller.specs.declared.Served.{Served}
use Rattle.controller.specs.declared.Serving.{Serving}

-- ---- at the front of a buffer

front_pasted : (old xs : List ℕ) → pasted old 0 xs ≡ xs ++ drop (length xs) old
unfolding pasted
front_pasted old xs = ap (λ (k : ℕ). xs ++ drop k old) (zero-add (length xs))

take_front : (old xs : List ℕ) → take (length xs) (pasted old 0 xs) ≡ xs
take_front old xs = ap (take (length xs)) (front_pasted old xs) ∙ take-append_seam xs (drop (length xs) old)

-- the bytes from one place up to another are moved there
pub moved_bytes : (old : List ℕ) (from to : ℕ) → from ≤ to → to ≤ length old → take (to - from) (copy_within old from to 0) ≡ drop from (take to old)
moved_bytes old from to low high =
    let n = to - from in
    let xs = take n (drop from old) in
    let e : from + n ≡ to = omega arith in
    take_at xs (drop (0 + n) old) n (length-take-le n (drop from old) (omega (arith, length-drop from old)))
    ∙ sym (ap (λ (k : ℕ). drop from (take k old)) (sym e) ∙ ap (drop from) (take-add from n old) ∙ drop_at (take from old) xs from (length-take-le from old (omega arith)))

-- ---- a piece in the program

-- by what was served and what was moved
pub piece_is : (m : Model) (at : Serving) (room room' out out' : List ℕ) (got held : ℕ) (s : Served) → at.held + got ≤ length room
    → s ≡ served_of m at.config (take (at.held + got) room) at.next
    → out' ≡ pasted out 0 (printed m at.config (take (at.held + got) room) at.next)
    → take held room' ≡ drop (8 * ((at.held + got) / 8)) (take (at.held + got) room)
    → piece_in (record { config = s.config; held = held; next = at.next + (at.held + got) / 8; length = s.length }) room' out'
    ≡ piece m (place_in at room) (take got (drop at.held room))
unfolding piece at_once
piece_is m at room room' out out' got held s fits is put kept =
    let tape = take (at.held + got) room in
    let n : (at.held + got) / 8 ≡ commands tape = omega (arith, length-take-le (at.held + got) room fits) in
    let text : take s.length out' ≡ printed m at.config tape at.next =
    ap₂ (λ (k : ℕ) (l : List ℕ). take k l) (ap (λ (x : Served). x.length) is) put ∙ take_front out (printed m at.config tape at.next) in
    let config : s.config ≡ config_after m at.config tape (commands tape) = ap (λ (x : Served). x.config) is in
    let rest : take held room' ≡ drop (8 * commands tape) tape = kept ∙ ap (λ (k : ℕ). drop (8 * k) tape) n in
    let next : at.next + (at.held + got) / 8 ≡ at.next + commands tape = ap (λ (k : ℕ). at.next + k) n in
    let here : ◌≡◌ {A = Piece} (piece_in (record { config = s.config; held = held; next = at.next + (at.held + got) / 8; length = s.length }) room' out') (at_once m at.config tape at.next) =
    λ i. record { text = text i; behind = record { config = config i; held = rest i; next = next i } } in
    here ∙ ap (λ (x : List ℕ). at_once m at.config x at.next) (take-add at.held got room)

-- ---- the end of the input

pub ending_none : (held : ℕ) → held ≡ 0 → [] ≡ ending held
unfolding ending
ending_none held e = rw (eq-eqb held 0 e)

pub ending_cut : (held : ℕ) → held ≢ 0 → cut ≡ ending held
unfolding ending
ending_cut held some = rw (ne_eqb held 0 some)
