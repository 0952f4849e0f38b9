use Rattle.std.proofs.Common.{◌≡◌, ◌%◌, refl, rules, arith, cond, ltb, ap, ◌∙◌, ℕ}
use Rattle.sets.specs.Masks.{bit}
use Rattle.sets.proofs.Below.{table_same}
use Rattle.sets.proofs.Made.{made_table}
use Rattle.model.specs.Valid.{subject_at}
use Rattle.engine.specs.configs.Subjects.{nobody}
use Rattle.engine.specs.configs.Fresh.{starting, fresh_subject, fresh_config}
use Rattle.engine.specs.declared.Subject.{Subject}
use Rattle.engine.proofs.configs.starts.fresh_config.Goals as goal

pub returns : goal.returns
unfolding fresh_config fresh_subject
returns c =
    let m = c.args.m in
    let at_place : ℕ → ℕ → Subject = λ s k. cond (ltb s m.n) (starting (cond (bit m.start k) 1 0) (subject_at m s).initial) nobody in
    let made =
    made_table _ (λ p. (p.0.now ≡ m.n) × (p.1.now ≡ m.start) × (p.2.now ≡ m.subjects)) (λ s. at_place s (s % 256)) (λ p i y q w e. (let h = e.met in (search rules, (search rules, search rules, search rules)))) _ _ _ (refl, refl, refl) c.from_fn.ensures.items in
    let full = made ∙ table_same _ (λ s. at_place s s) 16 (λ s l. ap (at_place s) (omega (arith, l))) in
    λ i. record { subjects = full i }
