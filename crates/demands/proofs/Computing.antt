-- Computing a run of model P or of the orchard: one name that opens every definition it meets (a law that computes says
-- `unfolding computing`), and a shorter way to where it ends, without the test of the configuration at each step.
use mathlib.Core.Path.{◌≡◌, refl, ap, ◌∙◌}
use mathlib.Core.Bool.{true}
use mathlib.Core.List.{List, [], ◌∷◌}
use Prim.Native.Nat.{ℕ}
use Rattle.sets.specs.Below as below
use Rattle.sets.specs.Groups as groups
use Rattle.sets.specs.Lists as lists
use Rattle.sets.specs.Masks as masks
use Rattle.blocks.specs.Checks as checks
use Rattle.model.specs.Records as model_records
use Rattle.model.specs.Rules as model_rules
use Rattle.model.specs.Valid.{valid}
use Rattle.model.specs.Valid as model_valid
use Rattle.model.specs.declared.Model.{Model}
use Rattle.model_promises.specs.Samples as samples
use Rattle.engine.specs.pools.Entries as entries
use Rattle.engine.specs.pools.Pools as pools
use Rattle.engine.specs.pools.Rows as rows
use Rattle.engine.specs.pools.Valid as pool_valid_module
use Rattle.engine.specs.configs.Answers.{refusal_of}
use Rattle.engine.specs.configs.Fresh.{fresh_config}
use Rattle.engine.specs.configs.Fresh as fresh
use Rattle.engine.specs.configs.Shares as pool_shares
use Rattle.engine.specs.configs.Subjects.{Held}
use Rattle.engine.specs.configs.Subjects as subjects
use Rattle.engine.specs.configs.Valid.{config_valid}
use Rattle.engine.specs.configs.Valid as config_valid_module
use Rattle.engine.specs.declared.Config.{Config}
use Rattle.engine.specs.declared.Stepped.{Stepped}
use Rattle.engine.proofs.Cited.{fresh_held, fresh_valid}
use Rattle.engine.specs.commands.Codes as codes
use Rattle.engine.specs.commands.Deliver as deliver
use Rattle.engine.specs.commands.Doing as doing
use Rattle.engine.specs.commands.Leave as leave
use Rattle.engine.specs.commands.Reserve as reserve
use Rattle.engine.specs.commands.Rules as rules
use Rattle.engine.specs.commands.Runs as runs
use Rattle.engine.specs.commands.Take as take
use Rattle.engine.specs.commands.Tick as tick
use Rattle.engine.specs.commands.Turns as turns
use Rattle.engine.specs.Steps.{acted, stepped}
use Rattle.engine.specs.Steps as steps
use Rattle.engine.specs.Tapes as tapes
use Rattle.engine.specs.declared.Command.{Command}
use Rattle.engine_promises.specs.Runs.{run_from}
use Rattle.engine_promises.specs.Runs as promised
use Rattle.engine_promises.proofs.Always.{step_keeps, step_held}
use Rattle.demands.specs.Due.{step_refusal}
use Rattle.demands.specs.Orchard as orchards
use Rattle.demands.specs.Shares.{at_last}
use Rattle.demands.specs.Shares as shares
use Rattle.demands.proofs.Along.{fresh_is, last_valid, step_acts}

-- the configuration after a list of commands that all meet a valid one: no step asks whether it is
unfoldable pub acted_from : Model → Config → List Command → Config
acted_from m c [] = c
acted_from m c (k ∷ ks) = acted_from m (acted m c k).config ks

-- opens every definition that such a run meets
unfoldable pub computing : Unit {0}
unfolding
    below.all_below below.sum_below below.table_from
    groups.in_places
    lists.all_of lists.some_of lists.passing lists.counted lists.first_from lists.without lists.padded lists.folded
    masks.bit masks.with_bit masks.without_bit masks.members masks.others
    checks.check_of
    model_records.with_exits
    model_rules.shape_of model_rules.names_fit model_rules.state_fits model_rules.exit_fits model_rules.row_fits model_rules.state_reaches model_rules.exit_reaches model_rules.row_reaches
    model_valid.exits_from model_valid.is_blank_state model_valid.exit_valid model_valid.state_own model_valid.state_valid model_valid.row_valid model_valid.subject_own model_valid.subject_valid model_valid.subject_right model_valid.first_right model_valid.state_right model_valid.exits_in_all model_valid.none_after model_valid.no_more_exits model_valid.valid
    samples.model_p
    entries.matches entries.is_message entries.reserved_by entries.delivered
    pools.held pools.pooled pools.appended pools.first_message pools.has_message pools.taken_at pools.reservations pools.delivered_in pools.withdrawn_from
    rows.row_count rows.row_kept rows.row_has_room rows.rows_kept rows.has_room
    pool_valid_module.entry_valid pool_valid_module.place_valid pool_valid_module.pool_valid pool_valid_module.is_blank_pool
    fresh.starting fresh.fresh_subject fresh.fresh_config fresh.fresh_of
    pool_shares.rows_name pool_shares.none_twice pool_shares.has_row pool_shares.can_send pool_shares.senders_have_rows pool_shares.limits_fit pool_shares.shared_out pool_shares.share_of
    subjects.each_subject subjects.entered subjects.nobody
    config_valid_module.marks_right config_valid_module.fields_right config_valid_module.subject_valid config_valid_module.is_nobody config_valid_module.subject_right config_valid_module.place_right config_valid_module.places_right config_valid_module.config_valid
    codes.command_from codes.bytes_of
    deliver.started deliver.delivered_as deliver.delivering
    doing.doing
    leave.withdrawing leave.leaving
    runs.run_exit runs.mark_for runs.mark_at runs.with_marks runs.marking runs.running_on
    take.taking_at take.taking
    tick.ticked tick.ticking
    turns.target_of
    reserve.is_closed reserve.reply_of reserve.with_place reserve.noted reserve.turn_as reserve.turn_of reserve.rounds reserve.answered reserve.reserving
    rules.no_message rules.place_missing rules.some_improper rules.can_deliver rules.guarded
    steps.effect steps.acts steps.acted steps.stepped steps.coded_as
    tapes.config_after tapes.line_at tapes.ran
    promised.run_from promised.commands_in promised.commands_of acted_from
    orchards.orchard
    shares.holds shares.limit_of
computing = tt

module _ (m : Model) (v : valid m ≡ true) where
  -- from a valid configuration that is where a run ends
  run_acts : (c : Config) (ks : List Command) → Held c → config_valid m c ≡ true → run_from m c ks ≡ acted_from m c ks
  unfolding run_from acted_from
  run_acts c [] h g = refl
  run_acts c (k ∷ ks) h g =
      run_acts (stepped m c k).config ks (step_held m c k v h g) (step_keeps m c k v h g)
      ∙ ap (λ (x : Stepped). acted_from m x.config ks) (step_acts m v c k g)

  -- so from a fresh start
  last_acts : (ks : List Command) → at_last m ks ≡ acted_from m (fresh_config m) ks
  last_acts ks = rw (fresh_is m v) (run_acts (fresh_config m) ks (fresh_held m) (fresh_valid m v))

  -- what computes there holds after the commands
  pub at_last_lem : (P : Config → Type 0) (ks : List Command) → P (acted_from m (fresh_config m) ks) → P (at_last m ks)
  at_last_lem P ks p = rw (last_acts ks) p

  -- and after one more
  pub at_next : (P : Stepped → Type 0) (ks : List Command) (k : Command) → P (acted m (acted_from m (fresh_config m) ks) k) → P (stepped m (at_last m ks) k)
  at_next P ks k p = rw (step_acts m v (at_last m ks) k (last_valid m v ks), last_acts ks) p

  -- so the number of its refusal
  pub refusal_next : {n : ℕ} (ks : List Command) (k : Command) → refusal_of (acted m (acted_from m (fresh_config m) ks) k).answer ≡ n → step_refusal m (at_last m ks) k ≡ n
  refusal_next {n} ks k e = at_next (λ x. refusal_of x.answer ≡ n) ks k e
