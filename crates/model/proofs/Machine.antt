-- Every model in the machine has arrays of their length and numbers of their width.
use mathlib.Core.Path.{◌≡◌}
use mathlib.Core.List.{List}
use Prim.Native.Nat.{◌<◌}
use native.Mathlib.Omega.{arith}
use lib.ListN.{length}
use mir.Val.{Val}
use denote.Laws.{Is}
use denote.Struct.Declared.{row}
use Rattle.sets.proofs.Arrays.{each_at}
use Rattle.model.specs.Records.{blank_stored}
use Rattle.model.specs.Valid.{no_subject, subject_at, stored_at, Held}
use Rattle.model.specs.declared.Model.{Model}
use Rattle.model.specs.declared.Stored.{Stored}
use Rattle.model.specs.declared.Subject.{Subject}
use Rattle.model.specs.contracts.Model as model
use Rattle.model.specs.contracts.Stored as stored
use Rattle.model.specs.contracts.Subject as subject

rows_held : (x : Subject) (vs : List Val) → Is (row subject.the_type) x vs → length x.row ≡ 8
rows_held x vs p = p.1.1.1.1.1.0.1.0.1

after_held : (x : Stored) (vs : List Val) → Is (row stored.the_type) x vs → x.after < 65536
after_held x vs p = p.1.1.1.1.1.1.0.1

pub machine_held : (m : Model) (vs : List Val) → Is (row model.the_type) m vs → Held m
machine_held m vs p =
    let subjects = p.1.1.1.1.0 in
    let states = p.1.1.1.1.1.0 in
    let exits = p.1.1.1.1.1.1 in
    let some : length m.subjects ≡ 16 = subjects.1.0.1 in
    let all : length m.states ≡ 512 = states.1.0.1 in
    record {
      subjects = some;
      states = all;
      rows = λ s l. let q = each_at _ (subject.the_row).own_val m.subjects subjects.0 subjects.1.1 s no_subject (omega arith) in rows_held (subject_at m s) _ q.1;
      exits = exits.0.1.0.1;
      afters = λ i l. let q = each_at _ (stored.the_row).own_val m.states states.0 states.1.1 i blank_stored (omega arith) in after_held (stored_at m i) _ q.1;
    }
