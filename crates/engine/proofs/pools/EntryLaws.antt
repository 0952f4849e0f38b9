-- Which entries match; and what delivering and withdrawing do to a list of entries: to the reservations of each sender, to the messages, to the rows and to validity.
use Rattle.std.specs.Prelude.{Some, None}
use mathlib.Core.Path.{◌≡◌, refl, sym, ap, ap₂, ◌∙◌}
use mathlib.Core.Logic.{◌≢◌}
use mathlib.Core.Bool.{Bool, true, false, ◌&&◌, ◌||◌, not, cond}
use mathlib.Core.List.{List, [], map}
use Prim.Native.Nat.{ℕ, ◌+◌, ◌*◌, ◌≤◌, ◌<◌}
use native.Mathlib.Nat.{le_trans}
use native.Mathlib.Omega.{arith}
use borrow.Author.Tests.{eq-eqb, ne_eqb, eqb-true, eqb-false, leb-true, le-leb}
use lib.Bits.{bit_or, or_add_and, or_lt, or_block, or_zero_r, and_mask}
use lib.Dec.{eqb, ltb, lit<}
use lib.ListN.{length, length-map}
use Rattle.sets.specs.Lists.{all_of, some_of, passing, counted}
use Rattle.sets.proofs.Tests.{and_true, and_both, and_false, not_both, is_false, choose}
use Rattle.sets.proofs.Below.{all_each, all_by}
use Rattle.sets.proofs.Lists.{some_of_by, none_some_of, some_of_map, some_of_passing, find_is, find_none, all_of_passing, all_of_weaker, all_of_map, all_of_each, counted_map, counted_same, counted_passing, counted_weaker, counted_bound, length_passing, passing_all, none_counted}
use Rattle.model.specs.Rules.{any}
use Rattle.model.specs.Sizes.{most_rows}
use Rattle.model.specs.Valid.{row_at}
use Rattle.model.specs.declared.Subject.{Subject}
use Rattle.engine.specs.pools.Entries.{blank_entry, fits, matches, is_message, reserved_by, delivered, message_for}
use Rattle.engine.specs.pools.Pools.{held, pooled, first_message, has_message, reservations, delivered_in, withdrawn_from}
use Rattle.engine.specs.pools.Rows.{row_count, row_kept, rows_kept}
use Rattle.engine.specs.pools.Valid.{content_right, sender_there, type_there, entry_valid}
use Rattle.engine.specs.declared.Entry.{Entry}
use Rattle.engine.specs.declared.Pool.{Pool}
use Rattle.engine.proofs.pools.PoolLaws.{held_fits, pooled_places, delivered_pooled, withdrawn_pooled}

-- ---- sender and type as one number of two bytes

-- a byte or all ones is all ones
or_ones : (a : ℕ) → a < 256 → bit_or a 255 ≡ 255
or_ones a h = omega (arith, or_add_and a 255, and_mask a 8)

-- the or of two numbers of two bytes: each byte by itself
or_bytes : (a b c d : ℕ) → a < 256 → c < 256 → bit_or (a + 256 * b) (c + 256 * d) ≡ bit_or a c + 256 * bit_or b d
or_bytes a b c d h l = ap₂ bit_or (turned a b) (turned c d) ∙ or_block 8 b d a c h l ∙ sym (turned (bit_or a c) (bit_or b d))
  where
    turned : (x y : ℕ) → x + 256 * y ≡ y * 256 + x
    turned x y = omega arith

-- they are equal exactly where both bytes are
eqb_bytes : (a b c d : ℕ) → a < 256 → c < 256 → eqb (a + 256 * b) (c + 256 * d) ≡ (eqb c a && eqb d b)
eqb_bytes a b c d h l = go (eqb c a) (eqb d b) refl refl
  where
    go : (x y : Bool) → eqb c a ≡ x → eqb d b ≡ y → eqb (a + 256 * b) (c + 256 * d) ≡ (x && y)
    go true true p q = eq-eqb (a + 256 * b) (c + 256 * d) (omega (arith, eqb-true c a p, eqb-true d b q))
    go true false p q = ne_eqb (a + 256 * b) (c + 256 * d) (λ e. eqb-false d b q (omega arith))
    go false y p q = ne_eqb (a + 256 * b) (c + 256 * d) (λ e. eqb-false c a p (omega arith))

-- what is wanted is what is there, with all ones where any is wanted
or_fits : (wanted there : ℕ) → there < 256 → eqb wanted (bit_or there (cond (eqb wanted any) 255 0)) ≡ fits wanted there
or_fits wanted there h = go (eqb wanted any) refl
  where
    go : (b : Bool) → eqb wanted any ≡ b → eqb wanted (bit_or there (cond b 255 0)) ≡ (b || eqb wanted there)
    go true e = eq-eqb _ _ (eqb-true wanted any e ∙ sym (or_ones there h))
    go false e = ap (eqb wanted) (or_zero_r there)

-- sender and type of an entry, looked at as one number
pub or_matches : (s t : ℕ) (e : Entry) → s < 256 → e.sender < 256 → e.typ < 256
    → eqb (bit_or (e.sender + 256 * e.typ) (cond (eqb s any) 255 0 + 256 * cond (eqb t any) 255 0)) (s + 256 * t) ≡ matches s t e
unfolding matches
or_matches s t e k h l =
    ap (λ (x : ℕ). eqb x (s + 256 * t)) (or_bytes e.sender e.typ (cond (eqb s any) 255 0) (cond (eqb t any) 255 0) h (ones_lt s))
    ∙ eqb_bytes (bit_or e.sender (cond (eqb s any) 255 0)) _ s t (or_lt 8 _ _ h (ones_lt s)) k
    ∙ ap₂ ◌&&◌ (or_fits s e.sender h) (or_fits t e.typ l)
  where
    ones_lt : (x : ℕ) → cond (eqb x any) 255 0 < 256
    ones_lt x = choose (λ (y : ℕ). y < 256) (eqb x any) (λ _. lit< tt) (λ _. lit< tt)

-- where any sender and any type will do, every entry matches
pub counted_any : (s t : ℕ) (es : List Entry) → (eqb s any && eqb t any) ≡ true → counted (matches s t) es ≡ length es
unfolding matches
counted_any s t es h =
    let b = and_both (eqb s any) (eqb t any) h in
    sym (length_passing (matches s t) es) ∙ ap length (passing_all (matches s t) es (all_of_each _ es (λ e. rw (b.left, b.right))))

-- ---- one entry

-- a reservation of s is of no other sender
pub reserved_other : (q s t : ℕ) (e : Entry) → q ≢ s → reserved_by s any e ≡ true → reserved_by q t e ≡ false
unfolding reserved_by
reserved_other q s t e ne h =
    let a = and_both (not e.message) (eqb e.sender s && fits any e.typ) h in
    let b = and_both (eqb e.sender s) (fits any e.typ) a.right in
    and_false (not e.message) _ (rw (eqb-true e.sender s b.left, ne_eqb s q (λ p. ne (sym p))))

-- a reservation of a type is one of any type
pub reserved_any : (s t : ℕ) (e : Entry) → reserved_by s t e ≡ true → reserved_by s any e ≡ true
unfolding reserved_by
reserved_any s t e h =
    let a = and_both (not e.message) (eqb e.sender s && fits t e.typ) h in
    let b = and_both (eqb e.sender s) (fits t e.typ) a.right in
    and_true a.left (and_true b.left refl)

-- a message is no reservation
message_free : (q t w : ℕ) (e : Entry) → reserved_by q t (message_for w e) ≡ false
unfolding reserved_by
message_free q t w e = refl

module _ (s w : ℕ) where
  -- delivering by s leaves the reservations of others
  pub delivered_other : (q t : ℕ) (e : Entry) → q ≢ s → reserved_by q t (delivered s w e) ≡ reserved_by q t e
  unfolding delivered
  delivered_other q t e ne =
      choose
      (λ (x : Entry). reserved_by q t x ≡ reserved_by q t e)
      (reserved_by s any e)
      (λ h. message_free q t w e ∙ sym (reserved_other q s t e ne h))
      (λ _. refl)

  -- and none of s
  pub delivered_own : (t : ℕ) (e : Entry) → reserved_by s t (delivered s w e) ≡ false
  unfolding delivered
  delivered_own t e =
      choose
      (λ (x : Entry). reserved_by s t x ≡ false)
      (reserved_by s any e)
      (λ _. message_free s t w e)
      (λ h. is_false (reserved_by s t e) (λ k. not_both (reserved_any s t e k) h))

  -- sender and type stay
  pub delivered_matches : (a b : ℕ) (e : Entry) → matches a b (delivered s w e) ≡ matches a b e
  unfolding delivered matches
  delivered_matches a b e = choose (λ (x : Entry). matches a b x ≡ matches a b e) (reserved_by s any e) (λ _. refl) (λ _. refl)

  pub delivered_valid : (n : ℕ) (e : Entry) → entry_valid n e ≡ true → entry_valid n (delivered s w e) ≡ true
  unfolding delivered entry_valid
  delivered_valid n e h =
      choose
      (λ (x : Entry). entry_valid n x ≡ true)
      (reserved_by s any e)
      (λ _. (and_both (content_right e) (sender_there n e && type_there e) h).right)
      (λ _. h)

-- no more reservations of a type than of any type
pub reservations_any : (s t : ℕ) (es : List Entry) → reservations s t es ≤ reservations s any es
unfolding reservations
reservations_any s t es = counted_weaker (reserved_by s t) (reserved_by s any) es (reserved_any s t)

-- ---- the list of a pool after s has delivered

module _ (s w : ℕ) (es : List Entry) where
  pub delivered_length : length (map (delivered s w) es) ≡ length es
  delivered_length = length-map es (delivered s w)

  pub delivered_others : (q t : ℕ) → q ≢ s → reservations q t (map (delivered s w) es) ≡ reservations q t es
  unfolding reservations
  delivered_others q t ne =
      counted_map (delivered s w) (reserved_by q t) es ∙ counted_same _ (reserved_by q t) es (λ e. delivered_other s w q t e ne)

  pub delivered_none : (t : ℕ) → reservations s t (map (delivered s w) es) ≡ 0
  unfolding reservations
  delivered_none t =
      counted_map (delivered s w) (reserved_by s t) es
      ∙ none_counted (λ e. reserved_by s t (delivered s w e)) es (all_of_each _ es (λ e. ap not (delivered_own s w t e)))

  pub delivered_counts : (a b : ℕ) → counted (matches a b) (map (delivered s w) es) ≡ counted (matches a b) es
  delivered_counts a b =
      counted_map (delivered s w) (matches a b) es ∙ counted_same _ (matches a b) es (delivered_matches s w a b)

  pub delivered_all_valid : (n : ℕ) → all_of (entry_valid n) es ≡ true → all_of (entry_valid n) (map (delivered s w) es) ≡ true
  delivered_all_valid n h =
      all_of_map (delivered s w) (entry_valid n) es (all_of_weaker (entry_valid n) _ es (delivered_valid s w n) h)

-- ---- the list of a pool after s has withdrawn its reservations

module _ (s : ℕ) (es : List Entry) where
  pub withdrawn_length : length (passing (λ e. not (reserved_by s any e)) es) ≤ length es
  withdrawn_length =
      let f : Entry → Bool = λ e. not (reserved_by s any e) in
      omega (arith, length_passing f es, counted_bound f es)

  pub withdrawn_others : (q t : ℕ) → q ≢ s → reservations q t (passing (λ e. not (reserved_by s any e)) es) ≡ reservations q t es
  unfolding reservations
  withdrawn_others q t ne =
      counted_passing (reserved_by q t) (λ e. not (reserved_by s any e)) es ∙ counted_same _ (reserved_by q t) es (λ e. go e (reserved_by s any e) refl)
    where
      go : (e : Entry) (b : Bool) → reserved_by s any e ≡ b → (not (reserved_by s any e) && reserved_by q t e) ≡ reserved_by q t e
      go e true h = rw h (sym (reserved_other q s t e ne h))
      go e false h = rw h

  pub withdrawn_none : (t : ℕ) → reservations s t (passing (λ e. not (reserved_by s any e)) es) ≡ 0
  unfolding reservations
  withdrawn_none t =
      counted_passing (reserved_by s t) (λ e. not (reserved_by s any e)) es
      ∙ none_counted (λ e. not (reserved_by s any e) && reserved_by s t e) es (all_of_each _ es (λ e. ap not (go e (reserved_by s t e) refl)))
    where
      go : (e : Entry) (b : Bool) → reserved_by s t e ≡ b → (not (reserved_by s any e) && reserved_by s t e) ≡ false
      go e true h = rw (reserved_any s t e h)
      go e false h = and_false (not (reserved_by s any e)) (reserved_by s t e) h

  pub withdrawn_counts : (a b : ℕ) → counted (matches a b) (passing (λ e. not (reserved_by s any e)) es) ≤ counted (matches a b) es
  withdrawn_counts a b =
      let f : Entry → Bool = λ e. not (reserved_by s any e) in
      rw (counted_passing (matches a b) f es)
      (counted_weaker _ (matches a b) es (λ e h. (and_both (not (reserved_by s any e)) (matches a b e) h).right))

  pub withdrawn_all_valid : (n : ℕ) → all_of (entry_valid n) es ≡ true → all_of (entry_valid n) (passing (λ e. not (reserved_by s any e)) es) ≡ true
  withdrawn_all_valid n h = all_of_passing (entry_valid n) (λ e. not (reserved_by s any e)) es h

-- ---- whether a message is there

any_message : (e : Entry) → is_message any any e ≡ e.message
unfolding is_message matches
any_message e = go e.message
  where
    go : (b : Bool) → (b && true) ≡ b
    go true = refl
    go false = refl

-- none in an empty pool
pub message_empty : (p : Pool) → p.count ≡ 0 → has_message (held p) ≡ false
unfolding held has_message some_of
message_empty p e = rw e

module _ (es : List Entry) where
  -- exactly where the search for any finds one
  pub message_found : (i : ℕ) → first_message any any es ≡ Some i → has_message es ≡ true
  unfolding first_message has_message
  message_found i h =
      let f = find_is (is_message any any) es blank_entry i h in
      some_of_by _ es blank_entry i f.below (sym (any_message _) ∙ f.here)

  pub message_none : first_message any any es ≡ None → has_message es ≡ false
  unfolding first_message has_message
  message_none h =
      none_some_of _ es (all_of_weaker _ _ es (λ e k. ap not (sym (any_message e)) ∙ k) (find_none (is_message any any) es h))

  -- delivering and withdrawing take none away
  module _ (h : has_message es ≡ true) (s : ℕ) where
    pub message_delivered : (w : ℕ) → has_message (map (delivered s w) es) ≡ true
    unfolding has_message delivered
    message_delivered w =
        some_of_map
        (delivered s w)
        _
        es
        (λ e k. choose (λ (x : Entry). x.message ≡ true) (reserved_by s any e) (λ _. refl) (λ _. k))
        h

    pub message_withdrawn : has_message (passing (λ e. not (reserved_by s any e)) es) ≡ true
    unfolding has_message reserved_by
    message_withdrawn = some_of_passing _ _ es (λ e k. rw k) h

-- ---- rows

-- where no row counts more than before, every row is kept
pub rows_fewer : (owner : Subject) (es fs : List Entry) → ((a b : ℕ) → counted (matches a b) fs ≤ counted (matches a b) es)
    → rows_kept owner es ≡ true → rows_kept owner fs ≡ true
unfolding rows_kept row_kept row_count
rows_fewer owner es fs less h =
    all_by
    (λ k. not (ltb k owner.rows) || row_kept fs (row_at owner k))
    most_rows
    (λ k l. go k (not (ltb k owner.rows)) (all_each (λ k. not (ltb k owner.rows) || row_kept es (row_at owner k)) most_rows h k l))
  where
    go : (k : ℕ) (b : Bool) → (b || row_kept es (row_at owner k)) ≡ true → (b || row_kept fs (row_at owner k)) ≡ true
    go k true e = refl
    go k false e = le-leb _ _ (le_trans (less (row_at owner k).sender (row_at owner k).typ) (leb-true _ _ e))

module _ (owner : Subject) (s : ℕ) (es : List Entry) (h : rows_kept owner es ≡ true) where
  pub delivered_rows : (w : ℕ) → rows_kept owner (map (delivered s w) es) ≡ true
  delivered_rows w = rows_fewer owner es (map (delivered s w) es) (λ a b. omega (arith, delivered_counts s w es a b)) h

  pub withdrawn_rows : rows_kept owner (passing (λ e. not (reserved_by s any e)) es) ≡ true
  withdrawn_rows = rows_fewer owner es (passing (λ e. not (reserved_by s any e)) es) (withdrawn_counts s es) h

-- ---- pools

module _ (places : ℕ) where
  -- the places of a pool stay
  module _ (s : ℕ) (p : Pool) (h : length p.entries ≡ places) where
    pub delivered_places : (w : ℕ) → length (delivered_in places s w p).entries ≡ places
    unfolding delivered_in
    delivered_places w =
        pooled_places places (map (delivered s w) (held p)) (omega (arith, delivered_length s w (held p), held_fits p))

    pub withdrawn_places : length (withdrawn_from places s p).entries ≡ places
    unfolding withdrawn_from
    withdrawn_places =
        pooled_places places (passing (λ e. not (reserved_by s any e)) (held p)) (omega (arith, withdrawn_length s (held p), held_fits p))

  -- nothing is delivered in an empty pool, nor withdrawn from it
  pub delivered_empty : (s w : ℕ) → delivered_in places s w (pooled places []) ≡ pooled places []
  delivered_empty s w = delivered_pooled places s w []

  pub withdrawn_empty : (s : ℕ) → withdrawn_from places s (pooled places []) ≡ pooled places []
  unfolding passing
  withdrawn_empty s = withdrawn_pooled places s []
