-- Sweeps over the subjects that leave some as they are.
use mathlib.Core.Path.{◌≡◌, refl, sym, ap, ◌∙◌}
use mathlib.Core.Bool.{Bool, true, false, ◌&&◌, not, cond, and-true, and-false}
use mathlib.Core.List.{List}
use Prim.Native.Nat.{ℕ, ◌+◌, ◌^◌, ◌<◌}
use native.Mathlib.Omega.{arith}
use borrow.Author.Tests.{eqb-true, eqb-false, not-true}
use lib.Dec.{eqb}
use lib.ListN.{length, get_or, set, length-set}
use lib.Seq.{set-get_or, get_or-set_same, get_or-set_other}
use Rattle.sets.specs.Below.{table, changed}
use Rattle.sets.specs.Masks.{bit, parted}
use Rattle.sets.specs.declared.Parts.{Parts}
use Rattle.sets.proofs.Tests.{and_both}
use Rattle.sets.proofs.Below.{table_of, table_same, changed_turn}
use Rattle.sets.proofs.Masks.{Least, bit_zero}
use Rattle.model.specs.Rules.{any}
use Rattle.engine.specs.pools.Sizes.{most_entries}
use Rattle.engine.specs.pools.Pools.{held, reservations, withdrawn_from, Well}
use Rattle.engine.specs.configs.Subjects.{with_pool}
use Rattle.engine.specs.declared.Pool.{Pool}
use Rattle.engine.specs.declared.Subject.{Subject}
use Rattle.engine.specs.commands.Deliver.{delivered_as}
use Rattle.engine.proofs.pools.PoolLaws.{delivered_same, withdrawn_same}

-- a turn that changes nothing, where nothing is to change
pub changed_still : {A : Type 0} (f : ℕ → A → A) (d : A) (l : List A) (n i : ℕ) (now : List A) (e : A) → i < n
    → now ≡ changed f d l n i → f i (get_or now i e) ≡ get_or now i e → now ≡ changed f d l n (i + 1)
changed_still f d l n i now e h p q = sym (set-get_or now i e) ∙ changed_turn f d l n i now (get_or now i e) e h p (sym q)

-- ---- a loop that changes the members of a mask, from the lowest on

module _ {A : Type 0} (f : ℕ → A → A) (d : A) (n : ℕ) where
  -- n places of the list, of which those in the mask are changed
  unfoldable pub changed_in : List A → ℕ → List A
  changed_in l mask = table (λ k. cond (bit mask k) (f k (get_or l k d)) (get_or l k d)) n

  -- of none nothing is changed
  pub changed_none : (l : List A) → length l ≡ n → changed_in l 0 ≡ l
  unfolding changed_in
  changed_none l e = table_of _ n d l e (λ k _. rw (bit_zero k))

  -- the list as it has become, and the members that are left: these are as they were, and with them changed it is what it is to be
  pub record Left (l : List A) (mask : ℕ) (now : List A) (left : ℕ) : Type 0 where
    pub small : left < 2 ^ n
    pub size : length now ≡ n
    pub comes : changed_in now left ≡ changed_in l mask
    pub same : (k : ℕ) → bit left k ≡ true → get_or now k d ≡ get_or l k d

  -- before the first turn
  pub left_all : (l : List A) (mask : ℕ) → mask < 2 ^ n → length l ≡ n → Left l mask l mask
  left_all l mask h e = record { small = h; size = e; comes = refl; same = λ _ _. refl }

  -- the others are those that are not the lowest
  rest_bits : (left : ℕ) (p : Parts) → Least n left → p ≡ parted n left → (k : ℕ) → bit p.rest k ≡ (bit left k && not (eqb k p.first))
  rest_bits left p low is k = rw is (low.rest_bit k)

  -- the lowest member is changed, the others follow
  lowest_changed : (now : List A) (left : ℕ) (p : Parts) (x : A) → length now ≡ n → Least n left → p ≡ parted n left
      → x ≡ f p.first (get_or now p.first d) → changed_in (set now p.first x) p.rest ≡ changed_in now left
  unfolding changed_in
  lowest_changed now left p x e low is q = table_same _ _ n (λ k _. at k (eqb k p.first) refl)
    where
      below : p.first < length now
      below = rw (is, e) low.below

      holds : bit left p.first ≡ true
      holds = rw is low.holds

      at : (k : ℕ) (b : Bool) → eqb k p.first ≡ b
          → cond (bit p.rest k) (f k (get_or (set now p.first x) k d)) (get_or (set now p.first x) k d)
          ≡ cond (bit left k) (f k (get_or now k d)) (get_or now k d)
      at k true t = rw (rest_bits left p low is k, t, and-false (bit left k), eqb-true k p.first t, get_or-set_same now p.first x d below, holds) q
      at k false t = rw (rest_bits left p low is k, t, and-true (bit left k), get_or-set_other now p.first k x d (eqb-false k p.first t))

  -- a turn
  pub left_turn : (l : List A) (mask : ℕ) (now : List A) (left : ℕ) (p : Parts) (x : A) → Left l mask now left → Least n left → p ≡ parted n left
      → x ≡ f p.first (get_or now p.first d) → Left l mask (set now p.first x) p.rest
  left_turn l mask now left p x h low is q =
      record {
        small = rw is (omega (arith, low.less, h.small));
        size = length-set now p.first x ∙ h.size;
        comes = lowest_changed now left p x h.size low is q ∙ h.comes;
        same = λ k b. let t = and_both (bit left k) (not (eqb k p.first)) (sym (rest_bits left p low is k) ∙ b) in
            get_or-set_other now p.first k x d (eqb-false k p.first (not-true _ t.right)) ∙ h.same k t.left;
      }

  -- none is left: where the mask has all that g changes, g is done to each
  pub left_none : (l : List A) (mask : ℕ) (now : List A) (left : ℕ) (g : ℕ → A → A) → Left l mask now left → left ≡ 0
      → ((k : ℕ) → k < n → cond (bit mask k) (f k (get_or l k d)) (get_or l k d) ≡ g k (get_or l k d)) → now ≡ table (λ k. g k (get_or l k d)) n
  unfolding changed_in
  left_none l mask now left g h z same = sym (table_of _ n d now h.size (λ i _. rw (z, bit_zero i))) ∙ h.comes ∙ table_same _ _ n same

-- ---- a pool that stores its list stays where there is no reservation of s

module _ (s : ℕ) (x : Subject) (well : Well most_entries x.pool) where
  withdrawn_still : reservations s any (held x.pool) ≡ 0 → with_pool (withdrawn_from most_entries s x.pool) x ≡ x
  withdrawn_still h = ap (λ (p : Pool). with_pool p x) (withdrawn_same most_entries x.pool well s h)

  delivered_still : (initial w : ℕ) → reservations s any (held x.pool) ≡ 0 → delivered_as false initial s w x ≡ x
  unfolding delivered_as
  delivered_still initial w h = ap (λ (p : Pool). with_pool p x) (delivered_same most_entries x.pool well s h w)

  -- so it need not be looked at
  pub withdrawn_in : (looked : Bool) → (looked ≡ false → reservations s any (held x.pool) ≡ 0)
      → cond looked (with_pool (withdrawn_from most_entries s x.pool) x) x ≡ with_pool (withdrawn_from most_entries s x.pool) x
  withdrawn_in true h = refl
  withdrawn_in false h = sym (withdrawn_still (h refl))

  pub delivered_in_lem : (receives : Bool) (initial w : ℕ) → (receives ≡ false → reservations s any (held x.pool) ≡ 0)
      → cond receives (delivered_as true initial s w x) x ≡ delivered_as receives initial s w x
  delivered_in_lem true initial w h = refl
  delivered_in_lem false initial w h = sym (delivered_still initial w (h refl))
