-- The sizes of a model, each said once.
use Rattle.std.specs.Prelude.{ℕ}

-- bytes of a block, records of a block, and blocks of a file
abbrev pub block_bytes : ℕ
block_bytes = 512

abbrev pub most_records : ℕ
most_records = 42

abbrev pub most_blocks : ℕ
most_blocks = 43

abbrev pub most_subjects : ℕ
most_subjects = 16

-- of a subject
abbrev pub most_states : ℕ
most_states = 32

-- places for states: those of subject s from s * most_states on
abbrev pub state_places : ℕ
state_places = 512

-- of a state, and of all states together
abbrev pub most_exits : ℕ
most_exits = 8

abbrev pub most_exits_in_all : ℕ
most_exits_in_all = 1024

-- limit rows of a subject, and the highest limit
abbrev pub most_rows : ℕ
most_rows = 8

abbrev pub most_limit : ℕ
most_limit = 16

-- message types
abbrev pub types : ℕ
types = 32

-- keys of states: subject and state as one number
abbrev pub keys : ℕ
keys = 65536
