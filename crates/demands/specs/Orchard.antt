-- A small orchard beside model P: two probes that send a reading of type 0 to a valve, again and again, and the
-- valve that takes it from each, again and again. A send times out after 2 ticks. Cancelled, the valve closes its queue, asks
-- whether its pool is empty, and opens the queue again if it is. The valve's pool has a row for each probe: any type, 1.
use Rattle.std.specs.Prelude.{◌∷◌, ◌++◌, ℕ, replicate}
use Rattle.model.specs.Records.{blank_exit, blank_row, blank_rows, blank_stored, blank_subject}
use Rattle.model.specs.Rules.{any, none}
use Rattle.model.specs.declared.Exit.{Exit}
use Rattle.model.specs.declared.Model.{Model}
use Rattle.model.specs.declared.Stored.{Stored}
use Rattle.model.specs.declared.Subject.{Subject}

-- a probe's only state, with its exit at `first`
abbrev pub sends : ℕ → Stored
sends first = record { kind = 2; exits = 1; sender = any; typ = any; after = 2; timeout = 0; cancel = none; receivers = 2; first = first }

-- the valve's first state, with its exits from `first` on
abbrev pub takes : ℕ → Stored
takes first = record { kind = 3; exits = 2; sender = any; typ = any; after = 0; timeout = none; cancel = 1; receivers = 0; first = first }

-- its others, of kind close, ask-empty or open, for every sender and type
abbrev pub for_all : ℕ → ℕ → ℕ → Stored
for_all kind exits first = record { kind = kind; exits = exits; sender = any; typ = any; after = 0; timeout = none; cancel = none; receivers = 0; first = first }

-- an exit to a state, of a receive with the sender and the type, of a send with the type
abbrev pub to : ℕ → ℕ → ℕ → Exit
to target sender typ = record { target = target; sender = sender; typ = typ }

abbrev pub probe : Subject
probe = record { states = 1; initial = 0; rows = 0; row = blank_rows }

abbrev pub valve : Subject
valve =
    record {
      states = 4;
      initial = 0;
      rows = 2;
      row = record { sender = 0; typ = any; limit = 1 } ∷ record { sender = 2; typ = any; limit = 1 } ∷ replicate 6 blank_row;
    }

-- subjects 0 and 2 are the probes, subject 1 is the valve; all start
unfoldable pub orchard : Model
orchard =
    record {
      n = 3;
      start = 7;
      subjects = probe ∷ valve ∷ probe ∷ replicate 13 blank_subject;
      states =
          sends 0 ∷ replicate 31 blank_stored
          ++ takes 1 ∷ for_all 4 1 3 ∷ for_all 6 2 4 ∷ for_all 5 1 6 ∷ replicate 28 blank_stored
          ++ sends 7 ∷ replicate 447 blank_stored;
      exits =
          to 0 any 0
          ∷ to 0 0 0
          ∷ to 0 2 0
          ∷ to 2 any any
          ∷ to 3 any any
          ∷ to 0 any any
          ∷ to 0 any any
          ∷ to 0 any 0
          ∷ replicate 1016 blank_exit;
    }
