use Rattle.std.proofs.Common.{◌≡◌, ℕ, ◌≤◌, take}
use Rattle.std.specs.Prelude.{Option, filter_map}
use Rattle.std.specs.List.{enumerate_from}
use Rattle.engine.specs.declared.Entry.{Entry}
use Rattle.engine.specs.pools.Sizes.{most_entries}
use Rattle.engine.specs.pools.Pools.{held, pooled}
use Rattle.engine.proofs.pools.changes.rebuilt.Given as goal

abbrev pub invariant-loop-j : goal.invariant-loop-j
invariant-loop-j g l =
    (l.count ≤ l.j)
    × ((gives : ℕ × Entry → Option Entry) → ((i : ℕ) (e : Entry) (r : Option Entry) → goal.F-post g l.f i e r → r ≡ gives (i, e)) → record { entries = l.entries; count = l.count } ≡ pooled most_entries (filter_map gives (enumerate_from 0 (take l.j (held l.p)))))
