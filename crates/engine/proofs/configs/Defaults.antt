-- What stands in a place by default: nobody.
use mathlib.Core.Path.{◌≡◌, refl, sym, ap, ◌∙◌}
use mathlib.Core.List.{List, []}
use Prim.Native.Nat.{ℕ}
use native.Mathlib.Omega.{arith}
use lib.ListN.{length, get_or, replicate, length-replicate}
use lib.Seq.{ext_get_or}
use Rattle.std.proofs.lemmas.List.{get_or-replicate}
use Rattle.std.specs.Array.{AllOfLen}
use Rattle.engine.specs.pools.Sizes.{most_entries}
use Rattle.engine.specs.configs.Subjects.{nobody, zero_config}
use Rattle.engine.specs.declared.Config.{Config}
use Rattle.engine.specs.declared.Subject.{Subject}
use Rattle.engine.proofs.pools.PoolLaws.{IsBlank, empty_pool, pointwise_blank, blank_by_eq}
use lib.Pointwise.{pointwise}
use Rattle.std.proofs.Math.Bool.{and-false}
use lib.Dec.{eqb}
use mathlib.Core.Bool.{Bool, true, false, ◌&&◌}
use borrow.Author.Tests.{le-ltb}
use Rattle.sets.specs.Below.{all_below}
use Rattle.sets.proofs.Below.{all_same}
use Rattle.sets.proofs.Chains.{all_below_list}
use Rattle.engine.specs.declared.Entry.{Entry}
use Rattle.engine.specs.pools.Entries.{blank_entry, is_blank_entry}
use Rattle.engine.specs.pools.Pools.{pooled}
use Rattle.engine.specs.pools.Valid.{is_blank_pool}
use Rattle.engine.specs.configs.Valid.{marks_right, is_nobody}

replicated : {A : Type 0} {P : A → Type 0} (z : A) → ((x : A) → P x → x ≡ z) → (xs : List A) (n : ℕ) → AllOfLen P xs n → xs ≡ replicate n z
replicated z f xs n h =
    ext_get_or z xs (replicate n z) (h.long ∙ sym (length-replicate n z))
    (λ i l. f _ (h.at i z (omega (arith, h.long))) ∙ sym (get_or-replicate n i z z (omega (arith, h.long))))

abbrev pub IsNobody : Subject → Type 0
IsNobody x =
    AllOfLen (λ k. k ≡ 0) x.closed 16
    × ((x.mode ≡ 0)
    × ((x.state ≡ 0)
    × ((x.waited ≡ 0)
    × ((x.mask ≡ 0)
    × ((x.word ≡ 0)
    × (AllOfLen IsBlank x.pool.entries 16 × (x.pool.count ≡ 0)))))))

pub default_nobody : {x : Subject} → IsNobody x → x ≡ nobody
unfolding nobody
default_nobody {x} h =
    let closed = replicated 0 (λ k e. e) x.closed 16 h.0 in
    let pool = empty_pool most_entries h.1.1.1.1.1.1 in
    λ i. record { closed = closed i; mode = h.1.0 i; state = h.1.1.0 i; waited = h.1.1.1.0 i; mask = h.1.1.1.1.0 i; word = h.1.1.1.1.1.0 i; pool = pool i }

pub default_config : {c : Config} → AllOfLen IsNobody c.subjects 16 → c ≡ zero_config
unfolding zero_config
default_config {c} h =
    let each = replicated nobody (λ x e. default_nobody e) c.subjects 16 h in
    λ i. record { subjects = each i }

-- ---- equality with nobody

in_turn : (a m s w d k b : Bool) → (a && (m && (s && (w && (d && (k && b)))))) ≡ (((m && s) && (w && d)) && (k && (a && b)))
in_turn a true true true true true b = refl
in_turn a true true true true false b = and-false a
in_turn a true true true false k b = and-false a
in_turn a true true false d k b = and-false a
in_turn a true false w d k b = and-false a
in_turn a false s w d k b = and-false a

no_marks : (x : Subject) → length x.closed ≡ 16 → pointwise eqb x.closed (replicate 16 0) ≡ marks_right 0 x
unfolding marks_right
no_marks x n =
    ap (λ (i : ℕ). pointwise eqb x.closed (replicate i 0)) (sym n)
    ∙ pointwise_blank eqb (λ k. eqb k 0) 0 (λ k. refl) x.closed
    ∙ sym (all_below_list (λ k. eqb k 0) x.closed 0)
    ∙ ap (all_below (λ i. eqb (get_or x.closed i 0) 0)) n
    ∙ all_same _ _ 16 (λ i l. rw (le-ltb i 0 (omega arith)) refl)

pub nobody_by_eq : (same : Entry → Entry → Bool) → ((e : Entry) → same e blank_entry ≡ is_blank_entry e) → (x y : Subject)
    → length x.closed ≡ 16 → length x.pool.entries ≡ 16 → y ≡ nobody
    → (pointwise eqb x.closed y.closed
    && (eqb x.mode y.mode
    && (eqb x.state y.state
    && (eqb x.waited y.waited
    && (eqb x.word y.word && (eqb x.mask y.mask && (pointwise same x.pool.entries y.pool.entries && eqb x.pool.count y.pool.count)))))))
    ≡ is_nobody x
unfolding is_nobody nobody
nobody_by_eq same k x y n m e =
    rw e
    (ap
    (λ (b : Bool). pointwise eqb x.closed (replicate 16 0) && (eqb x.mode 0 && (eqb x.state 0 && (eqb x.waited 0 && (eqb x.word 0 && (eqb x.mask 0 && b))))))
    (blank_by_eq most_entries same k x.pool (pooled most_entries []) m refl)
    ∙ ap
    (λ (a : Bool). a && (eqb x.mode 0 && (eqb x.state 0 && (eqb x.waited 0 && (eqb x.word 0 && (eqb x.mask 0 && is_blank_pool most_entries x.pool))))))
    (no_marks x n)
    ∙ in_turn (marks_right 0 x) (eqb x.mode 0) (eqb x.state 0) (eqb x.waited 0) (eqb x.word 0) (eqb x.mask 0) (is_blank_pool most_entries x.pool))
