-- Every configuration in the machine has arrays of their length and masks of their width.
use mathlib.Core.Path.{◌≡◌}
use mathlib.Core.List.{List}
use native.Mathlib.Omega.{arith}
use lib.ListN.{length}
use mir.Val.{Val}
use denote.Laws.{Is}
use denote.Struct.Declared.{row}
use Rattle.sets.proofs.Arrays.{each_at}
use Rattle.engine.specs.configs.Subjects.{no_one, at, Held}
use Rattle.engine.specs.declared.Config.{Config}
use Rattle.engine.specs.declared.Subject.{Subject}
use Rattle.engine.specs.contracts.Config as config
use Rattle.engine.specs.contracts.Subject as subject
use Rattle.engine.proofs.configs.ValidLaws.{HeldSubject, held_by}

subject_held : (x : Subject) (vs : List Val) → Is (row subject.the_type) x vs → HeldSubject x
subject_held x vs p =
    let fields = p.1.1 in
    let closed = fields.0 in
    let mask = fields.1.1.1.1.0 in
    let pool = fields.1.1.1.1.1.1.0 in
    record {
      marks = closed.1.0.1;
      entries = pool.1.1.0.1.0.1;
      mask = mask.1;
    }

pub machine_held : (c : Config) (vs : List Val) → Is (row config.the_type) c vs → Held c
machine_held c vs p =
    let array = p.1.1.0 in
    let n : length c.subjects ≡ 16 = array.1.0.1 in
    held_by c n (λ s l. let q = each_at _ (subject.the_row).own_val c.subjects array.0 array.1.1 s no_one (omega arith) in subject_held (at c s) _ q.1)
