-- Where the records stand in a file that passes stages 1 and 3, and what stage 4 then says of them: each by its kind and its number.
use mathlib.Core.Path.{◌≡◌, refl, sym, ap, ◌∙◌}
use mathlib.Core.Bool.{Bool, true, false, ◌&&◌, cond}
use mathlib.Core.List.{List}
use Prim.Native.Nat.{ℕ, zero, suc, ◌+◌, ◌-◌, ◌*◌, ◌/◌, ◌%◌, ◌≤◌, ◌<◌}
use native.Mathlib.Numerals.{add-one}
use native.Mathlib.Omega.{arith}
use borrow.Author.Tests.{ltb-true, ltb-false, lt-ltb, le-ltb, leb-true, eqb-true, eq-eqb, ne_eqb}
use lib.Dec.{ltb, leb, eqb}
use lib.ListN.{length, get_or, drop, length-take, length-drop}
use Rattle.sets.specs.Below.{sum_below}
use Rattle.sets.specs.Groups.{place_in}
use Rattle.sets.specs.Tests.{within, all_zero}
use Rattle.sets.proofs.Tests.{Within, within_is, and_both, not_both}
use Rattle.sets.proofs.Below.{all_each, sum_has}
use Rattle.sets.proofs.Groups.{spot}
use Rattle.blocks.specs.Blocks.{blocks, block_of, used_in, room_right, kind_of, used_of, record_in, record_of, first_block, count_of, record_from, record_no}
use Rattle.blocks.proofs.BlockLaws.{block_length, record_here}
use Rattle.model.specs.Decoded.{subjects_in}
use Rattle.model.specs.Records.{full_key, order_of}
use Rattle.model.specs.Stages.{length_right, kind_right, full_right, block_right, record_before, header_right, fields_right, record_right}
use Rattle.model_promises.specs.Loads.{Passes1, Passes3, Passes4}
use Rattle.model_promises.proofs.Told.{Room, room}
use Rattle.model_promises.proofs.Ordered.{count_less, never_falls, less_first}
use Rattle.sets.proofs.Pieces.{sum_is}

-- ---- blocks whose kinds never fall, none empty, each full but the last of its kind

pub record Stacked (kind used : ℕ → ℕ) (n : ℕ) : Type 0 where
  pub some : (b : ℕ) → b < n → 1 ≤ used b
  pub few : (b : ℕ) → b < n → used b ≤ 42
  pub rises : (b : ℕ) → suc b < n → kind b ≤ kind (suc b)
  pub full : (b : ℕ) → suc b < n → kind (suc b) ≡ kind b → used b ≡ 42

-- how many records of kind k block b has
abbrev pub of_kind : (ℕ → ℕ) → (ℕ → ℕ) → ℕ → ℕ → ℕ
of_kind kind used k b = cond (eqb (kind b) k) (used b) 0

-- record j of kind k is record i of block b
pub record Stand (kind used : ℕ → ℕ) (n k j : ℕ) : Type 0 where
  pub b : ℕ
  pub i : ℕ
  pub there : b < n
  pub its_kind : kind b ≡ k
  pub inside : i < used b
  pub start : count_less kind n k ≤ b
  pub place : (b - count_less kind n k) * 42 + i ≡ j

module _ {kind used : ℕ → ℕ} {n : ℕ} (s : Stacked kind used n) (k : ℕ) where
  -- from the first block of kind k to one of kind k there is no other
  between : (b c : ℕ) → b < n → kind b ≡ k → c ≤ b → count_less kind n k ≤ c → kind c ≡ k
  between b c h e l m =
      let lo = ltb-false (kind c) k (less_first kind n s.rises k c (omega arith) ∙ le-ltb c (count_less kind n k) m) in
      omega (arith, never_falls kind n s.rises c b l h)

  -- before a block of kind k: 42 records in each block of the kind
  before : (b : ℕ) → b < n → kind b ≡ k → sum_below (of_kind kind used k) b ≡ (b - count_less kind n k) * 42
  before b h e = sum_is _ (λ c. (c - count_less kind n k) * 42) b (omega arith) (λ c l. go c l (ltb c (count_less kind n k)) refl)
    where
      go : (c : ℕ) → c < b → (t : Bool) → ltb c (count_less kind n k) ≡ t → (c - count_less kind n k) * 42 + of_kind kind used k c ≡ (suc c - count_less kind n k) * 42
      go c l true t =
          let less = ltb-true (kind c) k (less_first kind n s.rises k c (omega arith) ∙ t) in
          rw (ne_eqb (kind c) k (λ q. omega arith)) (omega (arith, ltb-true c (count_less kind n k) t))
      go c l false t =
          let m = ltb-false c (count_less kind n k) t in
          let here = between b c h e (omega arith) m in
          let next = between b (suc c) h e l (omega arith) in
          rw (eq-eqb (kind c) k here) (omega (arith, s.full c (omega arith) (next ∙ sym here)))

  -- a block of kind k does not stand before the first, and its records are among those of the kind
  pub from_first : (b : ℕ) → b < n → kind b ≡ k → count_less kind n k ≤ b
  from_first b h e = ltb-false b (count_less kind n k) (sym (less_first kind n s.rises k b h) ∙ le-ltb (kind b) k (omega arith))

  pub among : (b : ℕ) → b < n → kind b ≡ k → (b - count_less kind n k) * 42 + used b ≤ sum_below (of_kind kind used k) n
  among b h e = omega (arith, before b h e, rw (eq-eqb (kind b) k e) at (sum_has (of_kind kind used k) b n h))

  pub stand : (j : ℕ) → j < sum_below (of_kind kind used k) n → Stand kind used n k j
  stand j l = let a = spot (of_kind kind used k) n j l in go a.g a.k a.group a.inside a.place (eqb (kind a.g) k) refl
    where
      go : (b i : ℕ) → b < n → i < of_kind kind used k b → place_in (of_kind kind used k) b i ≡ j → (t : Bool) → eqb (kind b) k ≡ t → Stand kind used n k j
      go b i h m p true t =
          let e = eqb-true (kind b) k t in
          record {
            b = b;
            i = i;
            there = h;
            its_kind = e;
            inside = rw t at m;
            start = from_first b h e;
            place = omega (arith, before b h e);
          }
      go b i h m p false t = absurd (omega (arith, rw t at m))

-- ---- what stage 3 says of a block

pub first_kind : (before kind : ℕ) → kind_right 0 before kind ≡ true → kind ≡ 1
unfolding kind_right
first_kind before kind h = eqb-true kind 1 h

pub later_kind : (b before kind : ℕ) → kind_right (suc b) before kind ≡ true → Within 2 kind 4 × (before ≤ kind)
unfolding kind_right
later_kind b before kind h =
    let c = and_both (within 2 kind 4) (leb before kind) (rw (ne_eqb (suc b) 0 (λ e. omega arith)) at h) in
    (within_is 2 kind 4 c.left, leb-true before kind c.right)

full_used : (used kind after : ℕ) → full_right used kind after ≡ true → after ≡ kind → used ≡ 42
unfolding full_right
full_used used kind after h e = go (eqb used 42) refl
  where
    go : (t : Bool) → eqb used 42 ≡ t → used ≡ 42
    go true t = eqb-true used 42 t
    go false t = not_both (rw (t, eq-eqb after kind e) at h) refl

-- the three parts of stage 3
pub record Parts (file : List ℕ) (b : ℕ) : Type 0 where
  pub room : Room b (block_of file b)
  pub kind : kind_right b (kind_of file (b - 1)) (kind_of file b) ≡ true
  pub full : kind_of file (b + 1) ≡ kind_of file b → used_of file b ≡ 42

pub parts : (file : List ℕ) (b : ℕ) → block_right file b ≡ true → Parts file b
unfolding block_right
parts file b h =
    let d = and_both (room_right b (block_of file b) && kind_right b (kind_of file (b - 1)) (kind_of file b)) _ h in
    let c = and_both (room_right b (block_of file b)) _ d.left in
    record {
      room = room b (block_of file b) c.left;
      kind = c.right;
      full = full_used (used_of file b) (kind_of file b) (kind_of file (b + 1)) d.right;
    }

-- ---- what stage 4 says of a record

header_is : (file : List ℕ) (b i : ℕ) → kind_of file b ≡ 1 → record_right file b i ≡ true → header_right (used_of file b) i (record_of file b i) ≡ true
unfolding record_right
header_is file b i e h = rw (eq-eqb (kind_of file b) 1 e) at h

header_subjects : (used : ℕ) (r : List ℕ) → header_right used 0 r ≡ true → Within 1 (get_or r 0 0) 16 × (used ≡ get_or r 0 0 + 1)
unfolding header_right
header_subjects used r h =
    let c = and_both (within 1 (get_or r 0 0) 16) (eqb used (get_or r 0 0 + 1)) (and_both _ (all_zero (drop 3 r)) h).left in
    (within_is 1 (get_or r 0 0) 16 c.left, eqb-true _ _ c.right)

header_states : (used s : ℕ) (r : List ℕ) → header_right used (s + 1) r ≡ true → (get_or r 0 0 ≡ s) × Within 1 (get_or r 1 0) 32
unfolding header_right
header_states used s r h =
    let c = and_both (eqb (get_or r 0 0 + 1) (s + 1) && within 1 (get_or r 1 0) 32) (all_zero (drop 3 r)) (rw (ne_eqb (s + 1) 0 (λ e. omega arith)) at h) in
    let d = and_both (eqb (get_or r 0 0 + 1) (s + 1)) (within 1 (get_or r 1 0) 32) c.left in
    (omega (arith, eqb-true (get_or r 0 0 + 1) (s + 1) d.left), within_is 1 (get_or r 1 0) 32 d.right)

header_zeros : (used i : ℕ) (r : List ℕ) → header_right used i r ≡ true → all_zero (drop 3 r) ≡ true
unfolding header_right
header_zeros used i r h =
    (and_both
    (cond (eqb i 0) (within 1 (get_or r 0 0) 16 && eqb used (get_or r 0 0 + 1)) (eqb (get_or r 0 0 + 1) i && within 1 (get_or r 1 0) 32))
    (all_zero (drop 3 r))
    h).right

later_is : (file : List ℕ) (b i k : ℕ) → kind_of file b ≡ k → 2 ≤ k → record_right file b i ≡ true
    → (order_of k (record_before file b i) < order_of k (record_of file b i)) × (fields_right file k (record_of file b i) ≡ true)
unfolding record_right
later_is file b i k e l h =
    let c = and_both (ltb (order_of k (record_before file b i)) (order_of k (record_of file b i))) (fields_right file k (record_of file b i)) (rw (e, ne_eqb k 1 (λ q. omega arith)) at h) in
    (ltb-true _ _ c.left, c.right)

-- a record in use has twelve bytes
record_long : (block : List ℕ) (i : ℕ) → length block ≡ 512 → i < used_in block → i < 42 → length (record_in block i) ≡ 12
record_long block i n l h =
    rw (record_here block i l h) (length-take 12 (drop (4 + i * 12) block) ∙ omega (arith, length-drop (4 + i * 12) block))

-- where the records after the states are not empty, they ascend by all of their key
key_climbs : (k : ℕ) (r t : List ℕ) → 3 ≤ k → length r ≡ 12 → length t ≡ 12 → order_of k r < order_of k t → full_key r < full_key t
unfolding order_of
key_climbs k r t l a b h = let c = rw (a, b, ne_eqb k 2 (λ e. omega arith)) at h in omega arith

module _ (file : List ℕ) (p1 : Passes1 file) (p3 : Passes3 file) (p4 : Passes4 file) where
  pub some_block : 0 < blocks file
  unfolding length_right
  some_block = (within_is 1 (blocks file) 43 (and_both (eqb (length file % 512) 0) _ p1).right).low

  -- the header is block 0
  header : (i : ℕ) → i < used_of file 0 → header_right (used_of file 0) i (record_of file 0 i) ≡ true
  header i l =
      header_is file 0 i (first_kind _ _ (parts file 0 (p3 0 some_block)).kind) (all_each (record_right file 0) (used_of file 0) (p4 0 some_block) i l)

  pub subjects_header : Within 1 (subjects_in file) 16 × (used_of file 0 ≡ subjects_in file + 1)
  subjects_header = header_subjects (used_of file 0) (record_of file 0 0) (header 0 (parts file 0 (p3 0 some_block)).room.used.low)

  subject_header : (s : ℕ) → s < subjects_in file → (get_or (record_of file 0 (s + 1)) 0 0 ≡ s) × Within 1 (get_or (record_of file 0 (s + 1)) 1 0) 32
  subject_header s l = header_states (used_of file 0) s (record_of file 0 (s + 1)) (header (s + 1) (omega (arith, subjects_header.1)))

  -- the header of a subject names it
  pub header_names : (s : ℕ) → s < subjects_in file → get_or (record_of file 0 (s + 1)) 0 0 ≡ s
  header_names s l = (subject_header s l).0

  -- past its three bytes a header is zero
  pub header_rest : (i : ℕ) → i ≤ subjects_in file → all_zero (drop 3 (record_of file 0 i)) ≡ true
  header_rest i l = header_zeros (used_of file 0) i (record_of file 0 i) (header i (omega (arith, subjects_header.1)))

  pub subjects_within : Within 1 (subjects_in file) 16
  subjects_within = subjects_header.0

  pub states_within : (s : ℕ) → s < subjects_in file → Within 1 (get_or (record_of file 0 (s + 1)) 1 0) 32
  states_within s l = (subject_header s l).1

  pub stacked : Stacked (kind_of file) (used_of file) (blocks file)
  stacked =
      record {
        some = λ b l. (parts file b (p3 b l)).room.used.low;
        few = λ b l. (parts file b (p3 b l)).room.used.high;
        rises = λ b l. (later_kind b (kind_of file b) (kind_of file (suc b)) (rw (let e : suc b - 1 ≡ b = omega arith in e) at (parts file (suc b) (p3 (suc b) l)).kind)).1;
        full = λ b l e. (parts file b (p3 b (omega arith))).full (ap (kind_of file) (add-one b) ∙ e);
      }

  -- where record j of kind k stands
  abbrev Stands : ℕ → ℕ → Type 0
  Stands k j = Stand (kind_of file) (used_of file) (blocks file) k j

  pub stands : (k j : ℕ) → j < count_of file k → Stands k j
  unfolding count_of
  stands k j l = stand stacked k j l

  abbrev first : ℕ → ℕ
  first k = count_less (kind_of file) (blocks file) k

  no_is : (k j b i : ℕ) → first k ≤ b → (b - first k) * 42 + i ≡ j → i < 42 → record_no file k j ≡ record_of file b i
  unfolding record_from first_block
  no_is k j b i l e h =
      let a : first k + j / 42 ≡ b = omega arith in
      let c : j % 42 ≡ i = omega arith in
      rw (a, c)

  pub here : (k j : ℕ) (s : Stands k j) → record_no file k j ≡ record_of file s.b s.i
  here k j s = no_is k j s.b s.i s.start s.place (omega (arith, s.inside, stacked.few s.b s.there))

  -- record i of block b, by its kind and its number
  pub record_at : (k b i : ℕ) → b < blocks file → kind_of file b ≡ k → i < used_of file b
      → ((b - first_block file k) * 42 + i < count_of file k) × (record_no file k ((b - first_block file k) * 42 + i) ≡ record_of file b i)
  unfolding first_block count_of
  record_at k b i l e h = (
    omega (arith, among stacked k b l e),
    no_is k ((b - first_block file k) * 42 + i) b i (from_first stacked k b l e) refl (omega (arith, stacked.few b l)),
  )

  -- the record before record j + 1 is record j
  before_is : (k j : ℕ) (s : Stands k (suc j)) → record_before file s.b s.i ≡ record_no file k j
  unfolding record_before
  before_is k j s = go s.b s.i s.there s.its_kind s.inside s.start s.place
    where
      go : (b i : ℕ) → b < blocks file → kind_of file b ≡ k → i < used_of file b → first k ≤ b → (b - first k) * 42 + i ≡ suc j → record_before file b i ≡ record_no file k j
      go b (suc i) h e l m p =
          let z : suc i - 1 ≡ i = omega arith in
          rw (lt-ltb 0 (suc i) (omega arith), z) (sym (no_is k j b i m (omega arith) (omega (arith, stacked.few b h))))
      go b zero h e l m p =
          let kind = between stacked k b (b - 1) h e (omega arith) (omega arith) in
          rw (kind, e, eq-eqb k k refl) (sym (no_is k j (b - 1) 41 (omega arith) (omega arith) (omega arith)))

  stage_four : (k j : ℕ) → 2 ≤ k → (s : Stands k j)
      → (order_of k (record_before file s.b s.i) < order_of k (record_of file s.b s.i)) × (fields_right file k (record_of file s.b s.i) ≡ true)
  stage_four k j l s =
      later_is file s.b s.i k s.its_kind l (all_each (record_right file s.b) (used_of file s.b) (p4 s.b s.there) s.i s.inside)

  -- the fields of record j of kind k are right
  pub fields_right_lem : (k j : ℕ) → 2 ≤ k → j < count_of file k → fields_right file k (record_no file k j) ≡ true
  fields_right_lem k j l h = let s = stands k j h in rw (here k j s) (stage_four k j l s).1

  pub twelve : (k j : ℕ) → j < count_of file k → length (record_no file k j) ≡ 12
  unfolding record_of
  twelve k j h =
      let s = stands k j h in
      rw (here k j s)
      (record_long (block_of file s.b) s.i (block_length file s.b s.there) s.inside (omega (arith, s.inside, stacked.few s.b s.there)))

  -- the records of kind 3 and 4 ascend by their key
  pub keys_climb : (k j : ℕ) → 3 ≤ k → suc j < count_of file k → full_key (record_no file k j) < full_key (record_no file k (suc j))
  keys_climb k j l h =
      let s = stands k (suc j) h in
      key_climbs k (record_no file k j) (record_no file k (suc j)) l (twelve k j (omega arith)) (twelve k (suc j) h)
      (rw (← (before_is k j s), here k (suc j) s) (stage_four k (suc j) (omega arith) s).0)
