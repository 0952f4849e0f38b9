-- An entry: sender, type, content, and whether it is a message or a reservation.
use Rattle.std.specs.Prelude.{Bool, true, false, ◌&&◌, ◌||◌, not, cond, ℕ, eqb}
use Rattle.model.specs.Rules.{any}
use Rattle.engine.specs.declared.Entry.{Entry}

-- what stands in an unused place
abbrev pub blank_entry : Entry
blank_entry = record { sender = 0; typ = 0; message = false; content = 0 }

abbrev pub is_blank_entry : Entry → Bool
is_blank_entry e = (eqb e.sender 0 && eqb e.typ 0) && (not e.message && eqb e.content 0)

-- a place kept for a message to come
abbrev pub reservation : ℕ → ℕ → Entry
reservation sender typ = record { sender = sender; typ = typ; message = false; content = 0 }

-- the message that takes the place of a reservation
abbrev pub message_for : ℕ → Entry → Entry
message_for word e = record { sender = e.sender; typ = e.typ; message = true; content = word }

-- what is wanted, 255 for any, is what is there
abbrev pub fits : ℕ → ℕ → Bool
fits wanted there = eqb wanted any || eqb wanted there

-- the entry is from the sender and of the type, 255 for any
unfoldable pub matches : ℕ → ℕ → Entry → Bool
matches sender typ e = fits sender e.sender && fits typ e.typ

-- a message that matches
unfoldable pub is_message : ℕ → ℕ → Entry → Bool
is_message sender typ e = e.message && matches sender typ e

-- a reservation of the sender, of the type, 255 for any
unfoldable pub reserved_by : ℕ → ℕ → Entry → Bool
reserved_by sender typ e = not e.message && (eqb e.sender sender && fits typ e.typ)

-- a reservation of the sender becomes a message with the word; other entries stay
unfoldable pub delivered : ℕ → ℕ → Entry → Entry
delivered sender word e = cond (reserved_by sender any e) (message_for word e) e
