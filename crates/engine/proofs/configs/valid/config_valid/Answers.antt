use mathlib.Core.Path.{refl, sym, ap, ◌∙◌}
use native.Mathlib.Omega.{arith}
use lib.ListN.{length-set}
use Rattle.sets.proofs.Below.{all_start, all_more, all_stop, all_end}
use Rattle.model.specs.Sizes.{most_subjects}
use Rattle.model.specs.Valid.{subject_at}
use Rattle.model.specs.declared.Exit.{Exit}
use Rattle.model.specs.declared.State.{State}
use Rattle.engine.specs.configs.Subjects.{at}
use Rattle.engine.specs.configs.Valid.{subject_valid, subject_right, type_of, config_valid}
use Rattle.engine.specs.inner.Reads.{read_here}
use Rattle.engine.proofs.configs.FaultLaws.{noted_turn, subject_step, config_told}
use Rattle.engine.proofs.configs.ModelFacts.{n_high, subject_there}
use Rattle.engine.proofs.configs.valid.config_valid.Goals as goal

pub loop-s-init : goal.loop-s-init
loop-s-init c = (n_high c.args.m.now c.requires, all_start _, refl, λ k l. absurd (omega (arith, l)))

pub returns-then-not-subject_valid : goal.returns-then-not-subject_valid
unfolding config_valid
returns-then-not-subject_valid c =
    let m = c.args.m.now in
    let d = c.args.c.now in
    let s = c.loop-s.s in
    let l = c.loop-s-test.true in
    let found = c.subject_valid.ensures ∙ ap (λ (st : State). subject_valid m.n (subject_at m s) st (at d s)) c.unpack-here.ensures in
    rw (all_stop (subject_right m d) s most_subjects (subject_there m c.requires s l) (subject_step m d c.requires s l ∙ sym found ∙ c.if-not-subject_valid.true))

pub loop-s-preserved : goal.loop-s-preserved
loop-s-preserved c =
    let m = c.args.m.now in
    let d = c.args.c.now in
    let s = c.loop-s.s in
    let l = c.loop-s-test.true in
    let found = c.subject_valid.ensures ∙ ap (λ (st : State). subject_valid m.n (subject_at m s) st (at d s)) c.unpack-here.ensures in
    let inv = c.loop-s.invariant in (
      inv.0,
      all_more _ _ inv.1 (subject_step m d c.requires s l ∙ sym found ∙ c.if-not-subject_valid.false),
      length-set c.loop-s.types s _ ∙ inv.2,
      noted_turn (λ k. type_of (read_here m d k)) c.loop-s.types s c.exit_at.result.typ (omega (arith, inv.0, inv.2, l)) inv.3
          (ap (λ (e : Exit). e.typ) c.exit_at.ensures ∙ ap type_of c.unpack-here.ensures),
    )

pub places_of-requires : goal.places_of-requires
places_of-requires c = c.loop-s.invariant.0

pub returns-then-rest_nobody : goal.returns-then-rest_nobody
returns-then-rest_nobody c =
    let inv = c.loop-s.invariant in
    let told = config_told c.args.m.now c.args.c.now c.requires c.loop-s.types (all_end _ _ _ c.loop-s.auto.s-end c.loop-s-test.false inv.1) (λ s l. inv.3 s (omega (arith, l, c.loop-s-test.false))) in
    rw (told, sym c.rest_nobody.ensures ∙ c.if-rest_nobody.true) c.places_of.ensures

pub returns-else-rest_nobody : goal.returns-else-rest_nobody
returns-else-rest_nobody c =
    let inv = c.loop-s.invariant in
    let told = config_told c.args.m.now c.args.c.now c.requires c.loop-s.types (all_end _ _ _ c.loop-s.auto.s-end c.loop-s-test.false inv.1) (λ s l. inv.3 s (omega (arith, l, c.loop-s-test.false))) in
    c.if-rest_nobody.false ∙ sym (told ∙ rw (sym c.rest_nobody.ensures ∙ c.if-rest_nobody.false))
