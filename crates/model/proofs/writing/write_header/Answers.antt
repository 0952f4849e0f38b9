use mathlib.Core.Path.{◌≡◌, refl, sym, ap, ◌∙◌}
use mathlib.Core.List.{List}
use Prim.Native.Nat.{ℕ, suc}
use native.Mathlib.Numerals.{add-one}
use native.Mathlib.Omega.{arith}
use Rattle.model.specs.File.{header_record}
use Rattle.model.specs.declared.Model.{Model}
use Rattle.model.specs.declared.writing.Line.{Line}
use Rattle.model.specs.inner.Lines.{next_of, put_on}
use Rattle.model.proofs.Facts.{model_good}
use Rattle.model.proofs.KindLaws.{Ready, Lay, ready_for, lay_start, lay_at, header_start, header_first, header_then, header_count, kind_put, kind_there, kind_end}
use Rattle.model.proofs.writing.write_header.Goals as goal

-- the first record is laid
begun : (m : Model) (old after : List ℕ) (next : Line) {r : List ℕ} → Ready m 1 old → r ≡ header_record m.n m.start
    → after ≡ put_on old (record { kind = 1; block = 0; used = 0 }) r → next ≡ next_of (record { kind = 1; block = 0; used = 0 }) → Lay m 1 old 1 next after
begun m old after next ready e f g =
    kind_put ready 0 (record { kind = 1; block = 0; used = 0 }) next old after _ (lay_start m 1 old 0 (sym (header_start m))) (omega (arith, header_count m)) (e ∙ header_first m) f g

pub loop-s-init : goal.loop-s-init
loop-s-init c = (refl, λ old ready lay. lay)

pub bounds-m-s : goal.bounds-m-s
bounds-m-s c = omega (arith, c.loop-s-test.true, (model_good _ c.requires.0).high)

pub put-line-requires-in-loop-s : goal.put-line-requires-in-loop-s
put-line-requires-in-loop-s c =
    let m = c.args.m.now in
    let ready = ready_for m 1 c.args.buffer.now (omega arith) c.requires in
    let laid = c.loop-s.invariant.1 _ ready (begun m _ _ _ ready c.header_record.ensures c.put-line.ensures.buffer c.put-line.ensures.line) in
    kind_there ready _ _ _ laid (omega (arith, header_count m, c.loop-s-test.true))

pub loop-s-preserved : goal.loop-s-preserved
loop-s-preserved c =
    let inv = c.loop-s.invariant in
    let m = c.args.m.now in
    let l = c.loop-s-test.true in (
      c.put-line-in-loop-s.auto.buffer ∙ inv.0,
      λ old room lay.
          lay_at room _ _ (ap suc (sym (add-one _)))
          (kind_put room _ _ _ _ _ _ (inv.1 old room lay) (omega (arith, header_count m, l)) (c.subject_record.ensures ∙ header_then m _ l) c.put-line-in-loop-s.ensures.buffer c.put-line-in-loop-s.ensures.line),
    )

pub end-requires : goal.end-requires
end-requires c =
    let m = c.args.m.now in
    let ready = ready_for m 1 c.args.buffer.now (omega arith) c.requires in
    let laid = c.loop-s.invariant.1 _ ready (begun m _ _ _ ready c.header_record.ensures c.put-line.ensures.buffer c.put-line.ensures.line) in
    kind_there ready (suc c.loop-s.s) _ _ laid (omega (arith, header_count m, c.loop-s.auto.s-end))

pub returns : goal.returns
returns c =
    let m = c.args.m.now in
    let ready = ready_for m 1 c.args.buffer.now (omega arith) c.requires in
    let laid = c.loop-s.invariant.1 _ ready (begun m _ _ _ ready c.header_record.ensures c.put-line.ensures.buffer c.put-line.ensures.line) in
    let all_laid = lay_at ready _ _ (omega (arith, header_count m, c.loop-s.auto.s-end, c.loop-s-test.false)) laid in
    let done = kind_end ready _ _ _ _ all_laid c.end.ensures.buffer c.end.ensures.block in
    record { buffer = done.0; block = done.1 }
