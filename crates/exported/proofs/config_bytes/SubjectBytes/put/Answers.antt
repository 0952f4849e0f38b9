use mathlib.Core.Path.{refl}
use mathlib.Core.List.{[], ◌∷◌}
use Prim.Native.Nat.{◌+◌}
use native.Mathlib.Omega.{arith}
use lib.ListN.{length, get_or, set}
use Rattle.blocks.specs.Made.{two_bytes}
use Rattle.engine.specs.pools.Entries.{blank_entry}
use Rattle.exported.specs.Bytes.{word_bytes, entry_bytes, marks_bytes, entries_bytes, subject_bytes}
use Rattle.exported.specs.Sizes.{length_marks}
use Rattle.sets.proofs.Stores.{chained, chained_from, chained_stored, stored_more, each_end}
use Rattle.exported.proofs.config_bytes.SubjectBytes.put.Goals as goal

pub returns : goal.returns
unfolding chained chained_from marks_bytes entries_bytes subject_bytes
returns c =
    let a = c.args in
    let x = a.self.now in
    let entries = each_end (λ i. entry_bytes (get_or x.pool.entries i blank_entry)) (set c.put_all.new.room (a.p + 74) x.pool.count) c.put_all-2.new.room (a.p + 75) (length x.pool.entries) 16 (omega arith) (omega arith) c.put_all-2.ensures in
    let count = stored_more _ _ _ (x.pool.count ∷ []) _ (a.p + 74) (a.p + 75) (chained_stored _ _ (_ ∷ [])) entries (omega arith) in
    let closed = each_end (λ i. word_bytes (get_or x.closed i 0)) c.put-3.new.room c.put_all.new.room (a.p + 10) (length x.closed) 16 (omega arith) (omega arith) c.put_all.ensures in
    let marks = stored_more _ _ _ (marks_bytes x.closed) _ (a.p + 10) (a.p + 74) closed count (omega (arith, length_marks x.closed)) in
    let mask = stored_more _ _ _ (two_bytes x.mask) _ (a.p + 8) (a.p + 10) c.put-3.ensures marks (omega arith) in
    let word = stored_more _ _ _ (word_bytes x.word) _ (a.p + 4) (a.p + 8) c.put-2.ensures mask (omega arith) in
    let waited = stored_more _ _ _ (two_bytes x.waited) _ (a.p + 2) (a.p + 4) c.put.ensures word (omega arith) in
    stored_more _ _ _ (x.mode ∷ x.state ∷ []) _ a.p (a.p + 2) c.store.ensures waited refl
