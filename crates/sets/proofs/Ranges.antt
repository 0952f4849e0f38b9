-- What `all` and `find` over the numbers 0, 1, .. n - 1 give, where the closure computes a test of the number.
use Rattle.std.proofs.Common.{◌≡◌, ℕ, List, Bool, true, false, not, Option, sym, ◌∙◌, arith}
use Rattle.std.proofs.iter.Yields.{nat_range_steps}
use Rattle.std.proofs.lemmas.Iterator.{YieldsList-from_range}
use Rattle.std.proofs.lemmas.Iterator.Adapters.{option_map_id}
use Rattle.std.proofs.lemmas.Iterator.Search.{all_from_yields_List, find_from_yields_List}
use Rattle.std.specs.Bool.{⊤}
use Rattle.std.specs.Fn.{Called, CalledAt}
use Rattle.std.specs.Iterator.{YieldsThen}
use Rattle.std.specs.List.{FoldsTo}
use Rattle.std.specs.Option.{MatchOption}
use Rattle.std.specs.declared.ops.Range.{Range}
use denote.Param.Members.{Mut}
use denote.Ref.{Bor}
use Rattle.sets.specs.Below.{all_below, first_not}
use Rattle.sets.proofs.Chains.{all_below_range, first_not_range}

module _ {F : Type 0} (p : ℕ → Bool) (n : ℕ) (s u : Range ℕ) (f : F) (start : s ≡ record { start = 0; end = n }) where
  pub all_over : {g : Mut F (ℕ × Unit {0}) Bool} (r : Bool)
      → (xs : List ℕ) × (o : Option ℕ) × (j : F) × YieldsThen nat_range_steps s xs o u × FoldsTo (λ p x q. Called g p (x, tt) true q) f xs j × MatchOption o (r ≡ true) (λ x. (r ≡ false) × ((h : F) × Called g j (x, tt) false h))
      → ((x : ℕ) (b : Bool) (q : F) → Called g f (x, tt) b q → (q ≡ f) × (b ≡ p x))
      → r ≡ all_below p n
  all_over r ran call = all_from_yields_List p u f r ran (YieldsList-from_range 0 n n start (omega arith)) call ∙ sym (all_below_range p n)

  pub first_over : {g : Mut F (Bor ℕ × Unit {0}) Bool} (r : Option ℕ)
      → (xs : List ℕ) × (j : F) × YieldsThen nat_range_steps s xs r u × FoldsTo (λ p x q. CalledAt g p x false q) f xs j × MatchOption r ⊤ (λ x. (h : F) × CalledAt g j x true h)
      → ((x : ℕ) (b : Bool) (q : F) → CalledAt g f x b q → (q ≡ f) × (b ≡ not (p x)))
      → r ≡ first_not p n
  first_over r ran call =
      sym (option_map_id r)
      ∙ find_from_yields_List (λ (k : ℕ). not (p k)) u f r ran (YieldsList-from_range 0 n n start (omega arith)) call
      ∙ sym (first_not_range p n)
