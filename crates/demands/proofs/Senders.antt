-- The entries of a pool by their senders: who has an entry in a pool can send there.
use mathlib.Core.Path.{◌≡◌, refl, ap, ◌∙◌}
use mathlib.Core.Bool.{Bool, true, false}
use mathlib.Core.List.{List, [], ◌∷◌}
use Prim.Native.Nat.{ℕ, ◌<◌}
use borrow.Author.Tests.{ltb-true, ltb-false, eqb-true}
use lib.Dec.{eqb, ltb}
use Rattle.sets.specs.Lists.{all_of, counted}
use Rattle.sets.specs.Masks.{bit}
use Rattle.sets.proofs.Tests.{and_true, choose}
use Rattle.sets.proofs.Lists.{all_of_append, all_of_each, all_of_map, all_of_passing, all_of_weaker, all_of_without}
use Rattle.model.specs.Rules.{any}
use Rattle.model.specs.Sizes.{most_subjects}
use Rattle.model.specs.Valid.{valid}
use Rattle.model.specs.declared.Model.{Model}
use Rattle.engine.specs.pools.Sizes.{most_entries}
use Rattle.engine.specs.pools.Entries.{reserved_by, delivered}
use Rattle.engine.specs.pools.Pools.{held}
use Rattle.engine.specs.declared.Entry.{Entry}
use Rattle.engine.proofs.Cited.{held_pooled, subject_there, fresh_held, fresh_valid, fresh_there, fresh_gone, config_good}
use Rattle.engine.specs.configs.Fresh.{starting, fresh_config}
use Rattle.engine.specs.configs.Shares.{can_send}
use Rattle.engine.specs.configs.Subjects.{at, here_of, nobody, Held}
use Rattle.engine.specs.configs.Valid.{config_valid}
use Rattle.engine.specs.declared.Config.{Config}
use Rattle.engine.specs.declared.Subject.{Subject}
use Rattle.engine.specs.commands.Codes.{subject_of}
use Rattle.engine.specs.declared.Command.{Command}
use Rattle.engine.proofs.KeptOne.{fields_here}
use Rattle.demands.specs.Shares.{SendsTo, at_last}
use Rattle.demands.proofs.Along.{fresh_is, along}
use Rattle.demands.proofs.PoolMoves.{Moved, pool_moved}
use Rattle.demands.proofs.YesNo.{can_send_lem}

-- a fresh pool is empty
fresh_empty : (m : Model) (r : ℕ) → r < most_subjects → held (at (fresh_config m) r).pool ≡ []
unfolding starting nobody
fresh_empty m r l = go (ltb r m.n) refl
  where
    go : (b : Bool) → ltb r m.n ≡ b → held (at (fresh_config m) r).pool ≡ []
    go true e = ap (λ (x : Subject). held x.pool) (fresh_there m r l (ltb-true r m.n e)) ∙ held_pooled most_entries []
    go false e = ap (λ (x : Subject). held x.pool) (fresh_gone m r l (ltb-false r m.n e)) ∙ held_pooled most_entries []

-- delivering leaves the sender
pub delivered_sender : (s word : ℕ) (e : Entry) → (delivered s word e).sender ≡ e.sender
unfolding delivered
delivered_sender s word e = choose (λ (x : Entry). x.sender ≡ e.sender) (reserved_by s any e) (λ _. refl) (λ _. refl)

-- how many entries are from sender s
abbrev pub count_of : ℕ → List Entry → ℕ
count_of s es = counted (λ (e : Entry). eqb e.sender s) es

-- the sender of an entry can send to the owner
abbrev pub from_sender : Model → ℕ → Entry → Bool
from_sender m owner e = can_send m owner e.sender

-- so of each entry
abbrev pub FromSenders : Model → ℕ → List Entry → Type 0
FromSenders m owner es = all_of (from_sender m owner) es ≡ true

-- of no entry
from_none : (m : Model) (owner : ℕ) → FromSenders m owner []
unfolding all_of
from_none m owner = refl

-- of one
from_one : (m : Model) (owner : ℕ) (e : Entry) → from_sender m owner e ≡ true → FromSenders m owner (e ∷ [])
unfolding all_of
from_one m owner e h = and_true h refl

module _ (m : Model) (v : valid m ≡ true) (owner : ℕ) (c : Config) (h : Held c) (g : config_valid m c ≡ true) where
  -- who is in a send state that names the owner sends to it
  pub here_sends : (s : ℕ) → s < m.n → (here_of m c s).kind ≡ 2 → bit (here_of m c s).receivers owner ≡ true → SendsTo m owner s
  here_sends s j sends named =
      record { state = (at c s).state; there = (fields_here m v c (config_good m c v h g) s j).state; send = sends; named = named }

  -- whatever a command does to the pool of the owner, its entries are from senders
  moved : (s : ℕ) → FromSenders m owner (held (at c owner).pool) → Moved m c s owner (FromSenders m owner)
  moved s p =
      record {
        placed = λ j sends named.
            all_of_append (from_sender m owner) (held (at c owner).pool) _ p
            (from_one m owner _ (can_send_lem m owner s (here_sends s j (eqb-true (here_of m c s).kind 2 sends) named)));
        sent = λ _ word.
            all_of_map (delivered s word) (from_sender m owner) (held (at c owner).pool)
            (all_of_weaker (from_sender m owner) _ (held (at c owner).pool) (λ e q. ap (can_send m owner) (delivered_sender s word e) ∙ q) p);
        taken = λ _ i. all_of_without (from_sender m owner) i (held (at c owner).pool) p;
        withdrawn = all_of_passing (from_sender m owner) _ (held (at c owner).pool) p;
      }

-- after any commands from a fresh start every entry of a pool comes from a subject that can send there
pub only_senders : (m : Model) (ks : List Command) (owner : ℕ) → valid m ≡ true → owner < m.n → FromSenders m owner (held (at (at_last m ks) owner).pool)
only_senders m ks owner v there =
    let l = subject_there m v owner there in
    rw (fresh_is m v)
    (along
    m
    v
    (λ _. true)
    (λ c. FromSenders m owner (held (at c owner).pool))
    (λ c k h g _ fine p. pool_moved m c h owner l (FromSenders m owner) k fine p (λ _. moved m v owner c h g (subject_of k) p))
    (fresh_config m)
    ks
    (fresh_held m)
    (fresh_valid m v)
    (all_of_each (λ _. true) ks (λ _. refl))
    (rw (fresh_empty m owner l) (from_none m owner)))
