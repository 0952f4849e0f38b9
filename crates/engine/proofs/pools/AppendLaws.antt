-- Laws of a pool with one more entry at its end, above all a reservation for which there was room.
use mathlib.Core.Path.{◌≡◌, refl, ◌∙◌}
use mathlib.Core.Bool.{Bool, true, false, ◌&&◌, ◌||◌, not, cond}
use mathlib.Core.List.{List, [], ◌∷◌, ◌++◌}
use Prim.Native.Nat.{ℕ, ◌+◌, ◌≤◌, ◌<◌}
use native.Mathlib.Omega.{arith}
use borrow.Author.Tests.{lt-ltb, ltb-true, leb-true, le-leb}
use lib.Dec.{eqb, ltb}
use lib.ListN.{length, length-append}
use Rattle.sets.specs.Lists.{all_of, counted}
use Rattle.sets.proofs.Tests.{and_true, and_both}
use Rattle.sets.proofs.Below.{all_each, all_by}
use Rattle.sets.proofs.Lists.{all_of_append, some_of_append, counted_append}
use Rattle.model.specs.Sizes.{most_rows}
use Rattle.model.specs.Valid.{row_at}
use Rattle.model.specs.declared.Row.{Row}
use Rattle.model.specs.declared.Subject.{Subject}
use Rattle.engine.specs.pools.Entries.{reservation, fits, matches, reserved_by}
use Rattle.engine.specs.pools.Pools.{held, appended, has_message, reservations, Well}
use Rattle.engine.specs.pools.Rows.{row_count, row_kept, row_has_room, each_row, rows_kept, has_room}
use Rattle.engine.specs.pools.Valid.{entry_valid}
use Rattle.engine.specs.declared.Entry.{Entry}
use Rattle.engine.specs.declared.Pool.{Pool}
use Rattle.engine.proofs.pools.PoolLaws.{held_pooled, pooled_places, well_pooled}

-- ---- the pool

module _ (places : ℕ) (p : Pool) (e : Entry) where
  pub held_appended : held (appended places p e) ≡ held p ++ (e ∷ [])
  unfolding appended
  held_appended = held_pooled places (held p ++ (e ∷ []))

  longer : length (held p) < places → length (held p ++ (e ∷ [])) ≤ places
  longer l = omega (arith, length-append (held p) (e ∷ []))

  pub length_appended : length (held p) < places → length (appended places p e).entries ≡ places
  unfolding appended
  length_appended l = pooled_places places (held p ++ (e ∷ [])) (longer l)

  pub well_appended : length (held p) < places → Well places (appended places p e)
  unfolding appended
  well_appended l = well_pooled places (held p ++ (e ∷ [])) (longer l)

-- ---- its list

pub message_appended : (es : List Entry) (e : Entry) → has_message es ≡ true → has_message (es ++ (e ∷ [])) ≡ true
unfolding has_message
message_appended es e h = some_of_append _ es (e ∷ []) h

-- ---- its list, where the entry is a reservation

module _ (es : List Entry) (s t : ℕ) where
  pub valid_reserved : (n : ℕ) → s < n → t < 32 → all_of (entry_valid n) es ≡ true → all_of (entry_valid n) (es ++ (reservation s t ∷ [])) ≡ true
  unfolding all_of entry_valid
  valid_reserved n l k h =
      all_of_append (entry_valid n) es (reservation s t ∷ []) h (and_true (and_true refl (and_true (lt-ltb s n l) (lt-ltb t 32 k))) refl)

  pub count_reserved : (sender typ : ℕ)
      → reservations sender typ (es ++ (reservation s t ∷ [])) ≡ reservations sender typ es + cond (eqb s sender && fits typ t) 1 0
  unfolding reservations reserved_by counted
  count_reserved sender typ = counted_append (reserved_by sender typ) es (reservation s t ∷ []) ∙ omega arith

  row_reserved : (w : Row) → row_kept es w ≡ true → row_has_room s t es w ≡ true → row_kept (es ++ (reservation s t ∷ [])) w ≡ true
  unfolding row_kept row_has_room row_count matches counted
  row_reserved w h r =
      le-leb _ _ (more (fits w.sender s && fits w.typ t) r (counted_append (matches w.sender w.typ) es (reservation s t ∷ [])))
    where
      x : ℕ
      x = counted (matches w.sender w.typ) es

      more : (b : Bool) → (not b || ltb x w.limit) ≡ true → {y : ℕ} → y ≡ x + (cond b 1 0 + 0) → y ≤ w.limit
      more true k e = omega (arith, ltb-true x w.limit k)
      more false k e = omega (arith, leb-true x w.limit h)

-- where the owner has room for it
module _ (places : ℕ) (es : List Entry) (s t : ℕ) (owner : Subject) (room : has_room places owner es s t ≡ true) where
  pub place_free : length es < places
  unfolding has_room
  place_free = ltb-true (length es) places (and_both _ _ room).left

  rows_free : each_row (row_has_room s t es) owner ≡ true
  unfolding has_room
  rows_free = (and_both (ltb (length es) places) _ room).right

  pub rows_reserved : rows_kept owner es ≡ true → rows_kept owner (es ++ (reservation s t ∷ [])) ≡ true
  unfolding rows_kept
  rows_reserved h =
      all_by
      _
      most_rows
      (λ k l. go k (ltb k owner.rows) (all_each _ most_rows h k l) (all_each (λ i. not (ltb i owner.rows) || row_has_room s t es (row_at owner i)) most_rows rows_free k l))
    where
      go : (k : ℕ) (b : Bool) → (not b || row_kept es (row_at owner k)) ≡ true → (not b || row_has_room s t es (row_at owner k)) ≡ true
          → (not b || row_kept (es ++ (reservation s t ∷ [])) (row_at owner k)) ≡ true
      go k true a r = row_reserved es s t (row_at owner k) a r
      go k false a r = refl
