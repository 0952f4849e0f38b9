-- Laws of the records of a kind as they are written: after j of them the full blocks stand, and behind them the records of the
-- block that is not closed yet.
use mathlib.Core.Path.{◌≡◌, refl, sym, ap, ◌∙◌}
use mathlib.Core.Bool.{Bool, true, false}
use mathlib.Core.List.{List, [], ◌∷◌, ◌++◌}
use Prim.Native.Nat.{ℕ, suc, ◌+◌, ◌*◌, ◌≤◌, ◌<◌}
use native.Mathlib.Omega.{arith}
use borrow.Author.Tests.{eqb-true, eqb-false, eq-eqb, ne_eqb}
use lib.Dec.{eqb}
use lib.ListN.{length, get_or, take, drop, length-take, length-drop}
use lib.Seq.{take_all, take-suc, get_or-drop, get_or-take, length-take-le}
use Rattle.sets.specs.Stores.{joined, each_of, stored}
use Rattle.sets.proofs.Stores.{length_stored, stored_none, stored_more, length_each}
use Rattle.sets.proofs.Pieces.{part, length_part, Each, length_joined, joined_more}
use Rattle.blocks.specs.Made.{block_with, with_record, sealed}
use Rattle.blocks.proofs.Made.{length_block}
use Rattle.blocks.proofs.MakingLaws.{record_there, seal_made}
use Rattle.model.specs.File.{blocks_for}
use Rattle.model.specs.inner.Lines.{next_of, put_on, end_of, end_on}
use Rattle.model.specs.declared.writing.Line.{Line}

-- the records of a kind, which begin in block `first`, have room in a buffer
pub record Room (first : ℕ) (rs : List (List ℕ)) (old : List ℕ) : Type 0 where
  pub twelve : Each 12 rs
  pub whole : (first + blocks_for (length rs)) * 512 ≤ length old
  pub few : first + blocks_for (length rs) ≤ 65535

-- block q of the kind
abbrev pub block_no : ℕ → ℕ → List (List ℕ) → ℕ → List ℕ
block_no first k rs q = block_with (first + q) k (part 42 rs q)

-- the buffer with q full blocks, and with i records of the block behind them
abbrev full : ℕ → ℕ → List (List ℕ) → List ℕ → ℕ → List ℕ
full first k rs old q = stored old (first * 512) (each_of (block_no first k rs) q)

abbrev begun : ℕ → ℕ → List (List ℕ) → List ℕ → ℕ → ℕ → List ℕ
begun first k rs old q i = stored (full first k rs old q) ((first + q) * 512 + 4) (joined (take i (drop (q * 42) rs)))

-- j records are written
pub record Laid (first k : ℕ) (rs : List (List ℕ)) (old : List ℕ) (j : ℕ) (line : Line) (now : List ℕ) : Type 0 where
  pub q : ℕ
  pub i : ℕ
  pub at : q * 42 + i ≡ j
  pub below : i < 42
  pub kind : line.kind ≡ k
  pub block : line.block ≡ first + q
  pub used : line.used ≡ i
  pub bytes : now ≡ begun first k rs old q i

-- nothing is written yet
pub laid_start : (first k : ℕ) (rs : List (List ℕ)) (old : List ℕ) → Laid first k rs old 0 (record { kind = k; block = first; used = 0 }) old
unfolding each_of joined
laid_start first k rs old =
    record {
      q = 0;
      i = 0;
      at = refl;
      below = omega arith;
      kind = refl;
      block = omega arith;
      used = refl;
      bytes = stored_none old (first * 512) ∙ stored_none (stored old (first * 512) []) ((first + 0) * 512 + 4);
    }

-- the line and the buffer after one more record, and at the end, by whether the block is full or empty
pub next_full : (line : Line) → line.used ≡ 41 → next_of line ≡ record { kind = line.kind; block = line.block + 1; used = 0 }
unfolding next_of
next_full line e = rw (eq-eqb line.used 41 e)

pub next_open : (line : Line) → (line.used ≡ 41 → ⊥) → next_of line ≡ record { kind = line.kind; block = line.block; used = line.used + 1 }
unfolding next_of
next_open line e = rw (ne_eqb line.used 41 e)

pub put_full : (old : List ℕ) (line : Line) (r : List ℕ) → line.used ≡ 41
    → put_on old line r ≡ sealed (with_record old line.block line.used r) line.block line.kind 42
unfolding put_on
put_full old line r e = rw (eq-eqb line.used 41 e)

pub put_open : (old : List ℕ) (line : Line) (r : List ℕ) → (line.used ≡ 41 → ⊥) → put_on old line r ≡ with_record old line.block line.used r
unfolding put_on
put_open old line r e = rw (ne_eqb line.used 41 e)

pub end_empty : (old : List ℕ) (line : Line) → line.used ≡ 0 → (end_of line ≡ line.block) × (end_on old line ≡ old)
unfolding end_of end_on
end_empty old line e = (rw (eq-eqb line.used 0 e), rw (eq-eqb line.used 0 e))

pub end_open : (old : List ℕ) (line : Line) → (line.used ≡ 0 → ⊥) → (end_of line ≡ line.block + 1) × (end_on old line ≡ sealed old line.block line.kind line.used)
unfolding end_of end_on
end_open old line e = (rw (ne_eqb line.used 0 e), rw (ne_eqb line.used 0 e))

module _ (first k : ℕ) (rs : List (List ℕ)) (old : List ℕ) (room : Room first rs old) where
  -- the records of a block, and of a part of it, are twelve bytes each
  some_twelve : (q i : ℕ) → Each 12 (take i (drop (q * 42) rs))
  some_twelve q i n l =
      let e = length-take i (drop (q * 42) rs) in
      let d = length-drop (q * 42) rs in
      let a : n < i = omega arith in
      rw (get_or-take i (drop (q * 42) rs) n [] a, get_or-drop (q * 42) rs n []) (room.twelve (q * 42 + n) (omega arith))

  block_long : (q : ℕ) → length (block_no first k rs q) ≡ 512
  block_long q = length_block (first + q) k (record { few = omega (arith, length_part 42 rs q); twelve = some_twelve q 42 })

  -- the buffer keeps its length
  full_length : (q : ℕ) → length (full first k rs old q) ≡ length old
  full_length q = length_stored old (first * 512) _

  begun_length : (q i : ℕ) → length (begun first k rs old q i) ≡ length old
  begun_length q i = length_stored (full first k rs old q) _ _ ∙ full_length q

  -- one record more in a block
  one_more : (q i : ℕ) (now r : List ℕ) → i < 42 → q * 42 + i < length rs → r ≡ get_or rs (q * 42 + i) [] → now ≡ begun first k rs old q i
      → with_record now (first + q) i r ≡ begun first k rs old q (suc i)
  one_more q i now r l h e b =
      let rest = drop (q * 42) rs in
      let d = length-drop (q * 42) rs in
      let n : length now ≡ length old = ap length b ∙ begun_length q i in
      let w = room.whole in
      let there = record_there now (first + q) i r (omega arith) l in
      let long : length (joined (take i rest)) ≡ i * 12 = length_joined 12 (take i rest) (some_twelve q i) ∙ ap (λ (x : ℕ). x * 12) (length-take-le i rest (omega arith)) in
      let last : take i rest ++ (r ∷ []) ≡ take (suc i) rest =
      ap (λ (x : List ℕ). take i rest ++ (x ∷ [])) (e ∙ sym (get_or-drop (q * 42) rs i [])) ∙ sym (take-suc rest i [] (omega arith)) in
      stored_more (full first k rs old q) now (with_record now (first + q) i r) (joined (take i rest)) r ((first + q) * 512 + 4) ((first + q) * 512 + (4 + i * 12)) b (sym there) (omega (arith, long))
      ∙ ap (stored (full first k rs old q) ((first + q) * 512 + 4)) (sym (joined_more (take i rest) r) ∙ ap joined last)

  -- a block is closed with the records that it has
  closed : (q u : ℕ) (now : List ℕ) → u ≤ 42 → q * 42 < length rs → length (take u (drop (q * 42) rs)) ≡ u → take u (drop (q * 42) rs) ≡ part 42 rs q
      → now ≡ begun first k rs old q u → sealed now (first + q) k u ≡ full first k rs old (suc q)
  unfolding each_of
  closed q u now l h n same b =
      let rest = take u (drop (q * 42) rs) in
      let w = room.whole in
      let f = room.few in
      let base = full first k rs old q in
      let fl = full_length q in
      let sealing = seal_made base now (first + q) k rest (omega arith) (some_twelve q u) (omega arith) (omega arith) b in
      ap (sealed now (first + q) k) (sym n)
      ∙ stored_more old base (sealed now (first + q) k (length rest)) (each_of (block_no first k rs) q) (block_no first k rs q) (first * 512) ((first + q) * 512) refl
      (sealing ∙ ap (λ (x : List (List ℕ)). stored base ((first + q) * 512) (block_with (first + q) k x)) same)
      (omega (arith, length_each (block_no first k rs) 512 block_long q))

  -- nothing stands behind full blocks
  none_begun : (q : ℕ) → full first k rs old q ≡ begun first k rs old q 0
  unfolding joined
  none_begun q = stored_none (full first k rs old q) ((first + q) * 512 + 4)

  pub laid_put : (j : ℕ) (line : Line) (now r : List ℕ) → Laid first k rs old j line now → j < length rs → r ≡ get_or rs j []
      → Laid first k rs old (suc j) (next_of line) (put_on now line r)
  laid_put j line now r l h e = go (eqb l.i 41) refl
    where
      here : with_record now line.block line.used r ≡ begun first k rs old l.q (suc l.i)
      here =
          ap (λ (b : ℕ). with_record now b line.used r) l.block
          ∙ ap (λ (i : ℕ). with_record now (first + l.q) i r) l.used
          ∙ one_more l.q l.i now r l.below (omega (arith, l.at)) (e ∙ ap (λ (i : ℕ). get_or rs i []) (sym l.at)) l.bytes

      go : (t : Bool) → eqb l.i 41 ≡ t → Laid first k rs old (suc j) (next_of line) (put_on now line r)
      go true t =
          let i = eqb-true l.i 41 t in
          let u = l.used ∙ i in
          let next = next_full line u in
          let n = length-drop (l.q * 42) rs in
          let all : with_record now line.block line.used r ≡ begun first k rs old l.q 42 = here ∙ ap (λ (x : ℕ). begun first k rs old l.q (suc x)) i in
          let long : length (take 42 (drop (l.q * 42) rs)) ≡ 42 = length-take-le 42 (drop (l.q * 42) rs) (omega (arith, l.at)) in
          record {
            q = suc l.q;
            i = 0;
            at = omega (arith, l.at);
            below = omega arith;
            kind = ap (λ (x : Line). x.kind) next ∙ l.kind;
            block = ap (λ (x : Line). x.block) next ∙ omega (arith, l.block);
            used = ap (λ (x : Line). x.used) next;
            bytes =
                put_full now line r u
                ∙ ap (λ (b : ℕ). sealed (with_record now line.block line.used r) b line.kind 42) l.block
                ∙ ap (λ (j : ℕ). sealed (with_record now line.block line.used r) (first + l.q) j 42) l.kind
                ∙ closed l.q 42 (with_record now line.block line.used r) (omega arith) (omega (arith, l.at)) long refl all
                ∙ none_begun (suc l.q);
          }
      go false t =
          let apart : line.used ≡ 41 → ⊥ = λ z. eqb-false l.i 41 t (sym l.used ∙ z) in
          let next = next_open line apart in
          let i = eqb-false l.i 41 t in
          record {
            q = l.q;
            i = suc l.i;
            at = omega (arith, l.at);
            below = omega (arith, l.below, i);
            kind = ap (λ (x : Line). x.kind) next ∙ l.kind;
            block = ap (λ (x : Line). x.block) next ∙ l.block;
            used = ap (λ (x : Line). x.used) next ∙ omega (arith, l.used);
            bytes = put_open now line r apart ∙ here;
          }

  -- there is a block for the next record, or it is the one behind the last
  pub laid_there : (j : ℕ) (line : Line) (now : List ℕ) → Laid first k rs old j line now → j ≤ length rs → (line.block < 65536) × (line.used < 42)
  laid_there j line now l h =
      let f = room.few in
      (omega (arith, l.block, l.at), omega (arith, l.used, l.below))

  -- all records of the kind are written
  pub laid_end : (line : Line) (now : List ℕ) → Laid first k rs old (length rs) line now
      → (end_of line ≡ first + blocks_for (length rs)) × (end_on now line ≡ stored old (first * 512) (each_of (block_no first k rs) (blocks_for (length rs))))
  laid_end line now l = go (eqb l.i 0) refl
    where
      go : (t : Bool) → eqb l.i 0 ≡ t
          → (end_of line ≡ first + blocks_for (length rs)) × (end_on now line ≡ stored old (first * 512) (each_of (block_no first k rs) (blocks_for (length rs))))
      go true t =
          let i = eqb-true l.i 0 t in
          let e = end_empty now line (l.used ∙ i) in
          let q : l.q ≡ blocks_for (length rs) = omega (arith, l.at) in (
            e.0 ∙ l.block ∙ ap (λ (x : ℕ). first + x) q,
            e.1 ∙ l.bytes ∙ ap (begun first k rs old l.q) i ∙ sym (none_begun l.q) ∙ ap (full first k rs old) q,
          )
      go false t =
          let i = eqb-false l.i 0 t in
          let e = end_open now line (λ z. i (sym l.used ∙ z)) in
          let q : suc l.q ≡ blocks_for (length rs) = omega (arith, l.at, l.below, i) in
          let n = length-drop (l.q * 42) rs in
          let rest : length (drop (l.q * 42) rs) ≡ l.i = omega (arith, l.at) in
          let own : take l.i (drop (l.q * 42) rs) ≡ drop (l.q * 42) rs = take_all l.i (drop (l.q * 42) rs) (omega arith) in
          let all : part 42 rs l.q ≡ drop (l.q * 42) rs = take_all 42 (drop (l.q * 42) rs) (omega (arith, l.below)) in (
            e.0 ∙ omega (arith, l.block),
            e.1
                ∙ ap (λ (b : ℕ). sealed now b line.kind line.used) l.block
                ∙ ap (λ (j : ℕ). sealed now (first + l.q) j line.used) l.kind
                ∙ ap (sealed now (first + l.q) k) l.used
                ∙ closed l.q l.i now (omega (arith, l.below)) (omega (arith, l.at, i)) (ap length own ∙ rest) (own ∙ sym all) l.bytes
                ∙ ap (full first k rs old) q,
          )
