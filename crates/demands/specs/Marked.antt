-- The worked cases of docs/RULES.md: what the definitions compute, and what the rules say.
use Rattle.std.specs.Prelude.{◌≡◌, List, [], ◌∷◌, ◌++◌, map, ℕ, ◌+◌, length}
use Rattle.blocks.specs.Checks.{check_of}
use Rattle.model_promises.specs.Samples.{model_p}
use Rattle.engine.specs.pools.Pools.{held}
use Rattle.engine.specs.configs.Answers.{values_of}
use Rattle.engine.specs.configs.Fresh.{fresh_of}
use Rattle.engine.specs.configs.Subjects.{at}
use Rattle.engine.specs.declared.Config.{Config}
use Rattle.engine.specs.declared.Stepped.{Stepped}
use Rattle.engine.specs.commands.Codes.{code_in, shown_in}
use Rattle.engine.specs.Steps.{stepped}
use Rattle.engine.specs.Tapes.{bytes_at, line_at, number_of}
use Rattle.engine.specs.declared.Command.{Command}
use Rattle.engine.specs.declared.Command.TheVariants.{Do, Reserve, Deliver, Take, Run, Expire, Cancel, Tick}
use Rattle.engine.specs.declared.Line.{Line}
use Rattle.demands.specs.Due.{step_refusal}
use Rattle.demands.specs.Shares.{at_last}

-- model P after commands from its fresh start, what one more gives, and its refusal
abbrev pub after_p : List Command → Config
after_p ks = at_last model_p ks

abbrev pub next_p : List Command → Command → Stepped
next_p ks k = stepped model_p (after_p ks) k

abbrev pub refusal_p : List Command → Command → ℕ
refusal_p ks k = step_refusal model_p (after_p ks) k

-- Do(0,0,35), Reserve 0, Take(1,0), Deliver 0, Take(1,0), Tick, Do(0,0,9) in bytes
abbrev pub input : List ℕ
input =
    (1 ∷ 0 ∷ 0 ∷ 0 ∷ 35 ∷ 0 ∷ 0 ∷ 0 ∷ [])
    ++ (2 ∷ 0 ∷ 0 ∷ 0 ∷ 0 ∷ 0 ∷ 0 ∷ 0 ∷ [])
    ++ (4 ∷ 1 ∷ 0 ∷ 0 ∷ 0 ∷ 0 ∷ 0 ∷ 0 ∷ [])
    ++ (3 ∷ 0 ∷ 0 ∷ 0 ∷ 0 ∷ 0 ∷ 0 ∷ 0 ∷ [])
    ++ (4 ∷ 1 ∷ 0 ∷ 0 ∷ 0 ∷ 0 ∷ 0 ∷ 0 ∷ [])
    ++ (8 ∷ 0 ∷ 0 ∷ 0 ∷ 0 ∷ 0 ∷ 0 ∷ 0 ∷ [])
    ++ (1 ∷ 0 ∷ 0 ∷ 0 ∷ 9 ∷ 0 ∷ 0 ∷ 0 ∷ [])

-- the line of command i: count from 1, code, subject, refusal, state, word, pool
abbrev pub shown_as : ℕ → List ℕ → Line → List ℕ
shown_as i b l = (i + 1) ∷ code_in b ∷ shown_in b ∷ number_of l 0 ∷ number_of l 1 ∷ number_of l 2 ∷ number_of l 3 ∷ []

abbrev pub line_p : ℕ → List ℕ
line_p i = shown_as i (bytes_at input i) (line_at model_p (fresh_of model_p).config input i)

-- the first two commands
abbrev pub first_two : List Command
first_two = Do 0 0 35 ∷ Reserve 0 ∷ []

-- what is computed, and what it has to be
abbrev pub Case : Type 0
Case = List ℕ × List ℕ

unfoldable pub marked : List Case
marked =
    -- the three checks
    (check_of [] ∷ check_of (0 ∷ []) ∷ check_of (1 ∷ 2 ∷ []) ∷ [], 1 ∷ 33 ∷ 1124 ∷ [])
    -- lines 3, 4 and 5
    ∷ (line_p 2, 3 ∷ 4 ∷ 1 ∷ 15 ∷ 0 ∷ 0 ∷ 1 ∷ [])
    ∷ (line_p 3, 4 ∷ 3 ∷ 0 ∷ 0 ∷ 2 ∷ 35 ∷ 0 ∷ [])
    ∷ (line_p 4, 5 ∷ 4 ∷ 1 ∷ 0 ∷ 1 ∷ 35 ∷ 0 ∷ [])
    -- after the first two commands: Cancel 0 empties pool 1; Take then answers 15
    ∷ (refusal_p first_two (Cancel 0) ∷ length (held (at (after_p first_two) 1).pool) ∷ length (held (at (next_p first_two (Cancel 0)).config 1).pool) ∷ [], 0 ∷ 1 ∷ 0 ∷ [])
    ∷ (refusal_p (first_two ++ (Cancel 0 ∷ [])) (Take 1 0) ∷ [], 15 ∷ [])
    -- after the same two, Reserve again: masks 0, missing 0
    ∷ (refusal_p first_two (Reserve 0) ∷ values_of (next_p first_two (Reserve 0)).answer, 0 ∷ 0 ∷ 0 ∷ 0 ∷ 0 ∷ 0 ∷ [])
    -- Expire 1 after 2 ticks: 19; after 3: accepted, state 1
    ∷ (refusal_p (Tick ∷ Tick ∷ []) (Expire 1) ∷ [], 19 ∷ [])
    ∷ (refusal_p (Tick ∷ Tick ∷ Tick ∷ []) (Expire 1) ∷ (at (next_p (Tick ∷ Tick ∷ Tick ∷ []) (Expire 1)).config 1).state ∷ [], 0 ∷ 1 ∷ [])
    -- Expire 1 after 3 ticks with a reservation waiting: mode 2; then Deliver 0 is accepted
    ∷ ((at (next_p (first_two ++ (Tick ∷ Tick ∷ Tick ∷ [])) (Expire 1)).config 1).mode ∷ [], 2 ∷ [])
    ∷ (refusal_p (first_two ++ (Tick ∷ Tick ∷ Tick ∷ Expire 1 ∷ [])) (Deliver 0) ∷ [], 0 ∷ [])
    -- Deliver 0 after the first command alone: 16
    ∷ (refusal_p (Do 0 0 35 ∷ []) (Deliver 0) ∷ [], 16 ∷ [])
    -- subject 2: 11
    ∷ (refusal_p [] (Do 2 0 35) ∷ refusal_p [] (Reserve 2) ∷ refusal_p [] (Deliver 2) ∷ refusal_p [] (Take 2 0) ∷ refusal_p [] (Run 2) ∷ refusal_p [] (Expire 2) ∷ refusal_p [] (Cancel 2) ∷ [], 11 ∷ 11 ∷ 11 ∷ 11 ∷ 11 ∷ 11 ∷ 11 ∷ [])
    ∷ []

-- every case is as the rules say
abbrev pub AsThePaperSays : Type 0
AsThePaperSays = map (λ (k : Case). k.0) marked ≡ map (λ (k : Case). k.1) marked
