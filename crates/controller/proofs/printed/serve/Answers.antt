use mathlib.Core.Path.{ap}
use Rattle.engine.specs.Tapes.{commands}
use Rattle.engine.proofs.Machine.{machine_held}
use Rattle.controller.specs.declared.Served.{Served}
use Rattle.controller.proofs.RunLaws.{after_valid}
use Rattle.controller.proofs.PrintedLaws.{served_is, served_text}
use Rattle.controller.proofs.printed.serve.Goals as goal

pub returns-clause-served : goal.returns-clause-served
returns-clause-served c =
    let a = c.args in
    let q = c.requires in
    let r = c.run-ran in
    let l = c.put_lines-length in
    served_is a.m a.c a.tape.now a.numbers.now q.m_value q.c_value q.tape_in_bounds a.first r.new.lines r.ensures.lines r.result l.result r.ensures.result l.ensures.place

pub returns-clause-config : goal.returns-clause-config
returns-clause-config c =
    let a = c.args in
    let q = c.requires in
    let r = c.run-ran in
    let l = c.put_lines-length in
    let served = served_is a.m a.c a.tape.now a.numbers.now q.m_value q.c_value q.tape_in_bounds a.first r.new.lines r.ensures.lines r.result l.result r.ensures.result l.ensures.place in
    rw (ap (λ (x : Served). x.config) served) (after_valid a.m a.c a.tape.now (machine_held a.c _ c.well_formed.1.0) q.m_value q.c_value (commands a.tape.now))

pub returns-clause-text : goal.returns-clause-text
returns-clause-text c =
    let a = c.args in
    let q = c.requires in
    let r = c.run-ran in
    let l = c.put_lines-length in
    served_text a.m a.c a.tape.now a.numbers.now q.m_value q.c_value q.tape_in_bounds a.first r.new.lines r.ensures.lines a.out.now l.new.out l.ensures.text
