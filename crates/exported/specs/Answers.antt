-- Every exported call answers with one of its numbers, whatever it is given, and refused it changes no byte of any buffer. That
-- each call ends is what a proved contract without `requires` says.
use Rattle.std.specs.Prelude.{◌≡◌, ◌≢◌, true, List, [], ◌∷◌, ℕ, ◌/◌, ◌%◌, ◌≤◌, ◌<◌}
use Rattle.sets.specs.Lists.{is_one_of}
use Rattle.engine.specs.pools.Sizes.{most_entries}
use Rattle.engine.specs.configs.Shares.{share_of}
use Rattle.engine.specs.commands.Rules.{first_number}
use Rattle.exported.specs.Calls.{model_in, load_refusals, load_room, write_number, write_room, fresh_refusals, fresh_room, step_refusals, step_room, step_values, run_refusals, run_room, run_lines, walk_refusals, walk_room, share_number}

-- what each call answers, for every input
pub record EveryExportedCallAnswers : Type 0 where
  -- the refusal, and the block that it names
  pub load : (file room : List ℕ) → is_one_of (0 ∷ 1 ∷ 2 ∷ 3 ∷ 4 ∷ 5 ∷ 6 ∷ []) (first_number (load_refusals file room) % 256) ≡ true
  pub load_block : (file room : List ℕ) → first_number (load_refusals file room) / 256 < 43
  pub load_refused : (file room : List ℕ) → first_number (load_refusals file room) ≢ 0 → load_room file room ≡ room
  -- the refusal, or 256 times the length, which is at most that of 43 blocks
  pub write : (model room : List ℕ) → is_one_of (0 ∷ 8 ∷ 6 ∷ []) (write_number model room % 256) ≡ true
  pub write_length : (model room : List ℕ) → write_number model room / 256 ≤ 22016
  pub write_refused : (model room : List ℕ) → write_number model room % 256 ≢ 0 → (write_number model room / 256 ≡ 0) × (write_room model room ≡ room)
  pub fresh : (file config : List ℕ) → is_one_of (0 ∷ 8 ∷ 6 ∷ []) (first_number (fresh_refusals file config)) ≡ true
  pub fresh_refused : (file config : List ℕ) → first_number (fresh_refusals file config) ≢ 0 → fresh_room file config ≡ config
  pub step : (file config command values : List ℕ)
      → is_one_of (0 ∷ 8 ∷ 9 ∷ 10 ∷ 6 ∷ 11 ∷ 12 ∷ 13 ∷ 14 ∷ 15 ∷ 16 ∷ 17 ∷ 18 ∷ 19 ∷ 20 ∷ []) (first_number (step_refusals file config command values)) ≡ true
  pub step_refused : (file config command values : List ℕ) → first_number (step_refusals file config command values) ≢ 0
      → (step_room file config command values ≡ config) × (step_values file config command values ≡ values)
  pub run : (file config tape lines : List ℕ) → is_one_of (0 ∷ 8 ∷ 10 ∷ 6 ∷ []) (first_number (run_refusals file config tape lines)) ≡ true
  pub run_refused : (file config tape lines : List ℕ) → first_number (run_refusals file config tape lines) ≢ 0
      → (run_room file config tape lines ≡ config) × (run_lines file config tape lines ≡ lines)
  pub walk : (file config : List ℕ) → is_one_of (0 ∷ 8 ∷ 10 ∷ []) (first_number (walk_refusals file config)) ≡ true
  pub walk_refused : (file config tape : List ℕ) → first_number (walk_refusals file config) ≢ 0 → walk_room file config tape ≡ config
  -- no, yes, or a refusal; it has no buffer
  pub shared : (file : List ℕ) (owner : ℕ) → is_one_of (0 ∷ 1 ∷ 8 ∷ 11 ∷ []) (share_number (share_of most_entries (model_in file) owner)) ≡ true
