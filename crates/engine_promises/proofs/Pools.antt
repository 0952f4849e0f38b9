-- What Deliver, Expire and Cancel do to the reservations of their subject, pool by pool.
use mathlib.Core.Path.{◌≡◌, refl, ap, ◌∙◌}
use mathlib.Core.Logic.{◌≢◌}
use mathlib.Core.Bool.{Bool, not}
use mathlib.Core.List.{List, [], ◌∷◌, map}
use Prim.Native.Nat.{ℕ, zero, suc, ◌<◌}
use native.Mathlib.Nat.{not-suc-le-zero, le_of_suc-le-suc}
use lib.ListN.{length, get_or}
use Rattle.sets.specs.Lists.{passing}
use Rattle.sets.specs.Masks.{bit}
use Rattle.model.specs.Rules.{any}
use Rattle.model.specs.Sizes.{most_subjects}
use Rattle.model.specs.Valid.{no_subject, exit_at}
use Rattle.model.specs.declared.State.{State}
use Rattle.model.specs.declared.Subject as model_subject
use Rattle.engine.specs.pools.Sizes.{most_entries}
use Rattle.engine.specs.pools.Entries.{blank_entry, reserved_by, delivered}
use Rattle.engine.specs.pools.Pools.{held, reservations, withdrawn_from}
use Rattle.engine.specs.declared.Entry.{Entry}
use Rattle.engine.specs.declared.Pool.{Pool}
use Rattle.engine.proofs.Cited.{delivered_length, withdrawn_none, held_delivered, held_withdrawn}
use Rattle.engine.specs.configs.Subjects.{at, with_pool}
use Rattle.engine.specs.declared.Config.{Config}
use Rattle.engine.specs.declared.Subject.{Subject}
use Rattle.engine.specs.commands.Deliver.{delivered_to, delivering}
use Rattle.engine.specs.commands.Leave.{withdrawing, leaving}
use Rattle.engine.proofs.SweepLaws.{sweep_other, sweep_pool, delivered_pool}
use Rattle.engine_promises.specs.Moves.{AtItsPlace, OnlyPool}

-- ---- Deliver

map_at : {A B : Type 0} (g : A → B) (xs : List A) (i : ℕ) (d : A) (e : B) → i < length xs → get_or (map g xs) i e ≡ g (get_or xs i d)
map_at g [] i d e l = absurd (not-suc-le-zero l)
map_at g (x ∷ xs) zero d e l = refl
map_at g (x ∷ xs) (suc i) d e l = map_at g xs i d e (le_of_suc-le-suc l)

places_kept : (s w : ℕ) (es : List Entry) → AtItsPlace s w es (map (delivered s w) es)
unfolding delivered
places_kept s w es =
    record {
      as_many = delivered_length s w es;
      message = λ i l h. map_at (delivered s w) es i blank_entry blank_entry l ∙ rw h;
      unchanged = λ i l h. map_at (delivered s w) es i blank_entry blank_entry l ∙ rw h;
    }

module _ (subjects : List model_subject.Subject) (here : State) (end : Bool) (c : Config) (s r : ℕ) (l : r < most_subjects) where
  -- the list of the pool of r, also where r is s
  pub held_delivering : held (at (delivering subjects here end c s) r).pool ≡ map (delivered s (at c s).word) (held (at c r).pool)
  unfolding delivering
  held_delivering =
      ap
      held
      (sweep_pool (delivered_to subjects here s (at c s).word) c s (exit_at here 0).target end r l
      ∙ delivered_pool (bit here.receivers r) (get_or subjects r no_subject).initial s (at c s).word (at c r))
      ∙ held_delivered most_entries s (at c r).pool (at c s).word

  pub delivered_at_its_place : AtItsPlace s (at c s).word (held (at c r).pool) (held (at (delivering subjects here end c s) r).pool)
  delivered_at_its_place = rw held_delivering (places_kept s (at c s).word (held (at c r).pool))

-- ---- Expire and Cancel

only_pool : (p : Pool) (x y : Subject) → y ≡ with_pool p x → OnlyPool x y
only_pool p x y e =
    record {
      mode = ap (λ (z : Subject). z.mode) e;
      state = ap (λ (z : Subject). z.state) e;
      waited = ap (λ (z : Subject). z.waited) e;
      word = ap (λ (z : Subject). z.word) e;
      mask = ap (λ (z : Subject). z.mask) e;
      closed = ap (λ (z : Subject). z.closed) e;
    }

module _ (t : ℕ) (end : Bool) (c : Config) (s r : ℕ) (l : r < most_subjects) where
  -- the order of the others stays
  pub leaving_withdraws : held (at (leaving t end c s) r).pool ≡ passing (λ e. not (reserved_by s any e)) (held (at c r).pool)
  unfolding leaving withdrawing
  leaving_withdraws =
      ap held (sweep_pool (λ _ x. with_pool (withdrawn_from most_entries s x.pool) x) c s t end r l) ∙ held_withdrawn most_entries s (at c r).pool

  -- so no pool has a reservation of s
  pub leaving_none : (typ : ℕ) → reservations s typ (held (at (leaving t end c s) r).pool) ≡ 0
  leaving_none typ = rw leaving_withdraws (withdrawn_none s (held (at c r).pool) typ)

  pub leaving_others : r ≢ s → OnlyPool (at c r) (at (leaving t end c s) r)
  unfolding leaving withdrawing
  leaving_others ne =
      only_pool (withdrawn_from most_entries s (at c r).pool) (at c r) _ (sweep_other (λ _ x. with_pool (withdrawn_from most_entries s x.pool) x) c s t end r l ne)
