-- The records of a kind of a valid model as they are written, group by group.
use mathlib.Core.Path.{◌≡◌, refl, sym, ap, subst, ◌∙◌}
use mathlib.Core.List.{List, []}
use Prim.Native.Nat.{ℕ, suc, ◌+◌, ◌*◌, ◌/◌, ◌%◌, ◌≤◌, ◌<◌}
use native.Mathlib.Omega.{arith}
use lib.ListN.{length, get_or}
use Rattle.sets.specs.Below.{sum_below}
use Rattle.sets.specs.Groups.{place_in, lined}
use Rattle.sets.specs.Stores.{stored}
use Rattle.sets.proofs.Below.{sum_has, sum_more, table_at}
use Rattle.sets.proofs.Groups.{length_lined, lined_at}
use Rattle.model.specs.File.{header_record, subject_record, state_record, exit_record, limit_record, headers, state_records, exit_records, limit_records, records_of, start_of}
use Rattle.model.specs.Records.{with_exits}
use Rattle.model.specs.Valid.{subject_at, stored_at, exit_no, state_at, exit_at, row_at}
use Rattle.model.specs.inner.Lines.{HasRoom, next_of, put_on, end_of, end_on, kind_blocks}
use Rattle.model.specs.declared.Model.{Model}
use Rattle.model.specs.declared.writing.Line.{Line}
use Rattle.model.proofs.Facts.{GoodModel, model_good, states_of, rows_of, has_state_lem, exit_is}
use Rattle.model.proofs.Lines.{all_long, fits, length_headers}
use Rattle.model.proofs.Places.{start_more, start_grows}
use Rattle.model.proofs.WritingLaws.{Room, Laid, laid_start, laid_put, laid_there, laid_end}

-- a buffer with room for the file of a valid model, as it was before the records of kind k
pub record Ready (m : Model) (k : ℕ) (old : List ℕ) : Type 0 where
  pub good : GoodModel m
  pub kind : k ≤ 4
  pub enough : start_of (records_of m) 5 * 512 ≤ length old

pub ready_for : (m : Model) (k : ℕ) (old : List ℕ) → k ≤ 4 → HasRoom m old → Ready m k old
ready_for m k old h has = record { good = model_good m has.0; kind = h; enough = has.1 }

-- j records of kind k are written
abbrev pub Lay : Model → ℕ → List ℕ → ℕ → Line → List ℕ → Type 0
Lay m k old j line now = Laid (start_of (records_of m) k) k (records_of m k) old j line now

-- none of them yet
pub lay_start : (m : Model) (k : ℕ) (old : List ℕ) (block : ℕ) → block ≡ start_of (records_of m) k → Lay m k old 0 (record { kind = k; block = block; used = 0 }) old
lay_start m k old block e = rw e (laid_start (start_of (records_of m) k) k (records_of m k) old)

pub items_start : (m : Model) (k : ℕ) (old : List ℕ) (count : ℕ → ℕ) (block : ℕ) → block ≡ start_of (records_of m) k
    → Lay m k old (place_in count 0 0) (record { kind = k; block = block; used = 0 }) old
unfolding sum_below
items_start m k old count block e = lay_start m k old block e

module _ {m : Model} {k : ℕ} {old : List ℕ} (ready : Ready m k old) where
  room : Room (start_of (records_of m) k) (records_of m k) old
  room =
      let more = start_more (records_of m) k in
      let last = start_grows (records_of m) (suc k) 5 (omega (arith, ready.kind)) in
      record {
        twelve = all_long m k;
        whole = omega (arith, ready.enough);
        few = omega (arith, fits m ready.good);
      }

  -- one more
  pub kind_put : (j : ℕ) (line next : Line) (now after r : List ℕ) → Lay m k old j line now → j < length (records_of m k) → r ≡ get_or (records_of m k) j []
      → after ≡ put_on now line r → next ≡ next_of line → Lay m k old (suc j) next after
  kind_put j line next now after r l h e f g = rw (f, g) (laid_put (start_of (records_of m) k) k (records_of m k) old room j line now r l h e)

  -- the next one has its place
  pub kind_there : (j : ℕ) (line : Line) (now : List ℕ) → Lay m k old j line now → j ≤ length (records_of m k) → (line.block < 65536) × (line.used < 42)
  kind_there = laid_there (start_of (records_of m) k) k (records_of m k) old room

  -- all of them
  pub kind_end : (line : Line) (now after : List ℕ) (next : ℕ) → Lay m k old (length (records_of m k)) line now → after ≡ end_on now line → next ≡ end_of line
      → (after ≡ stored old (start_of (records_of m) k * 512) (kind_blocks (records_of m) k)) × (next ≡ start_of (records_of m) (suc k))
  unfolding kind_blocks
  kind_end line now after next l f g =
      let e = laid_end (start_of (records_of m) k) k (records_of m k) old room line now l in
      (f ∙ e.1, g ∙ e.0 ∙ sym (start_more (records_of m) k))

  -- the same number of records
  pub lay_at : {i j : ℕ} (line : Line) (now : List ℕ) → i ≡ j → Lay m k old i line now → Lay m k old j line now
  lay_at line now e l = subst (λ (n : ℕ). Lay m k old n line now) e l

  -- ---- where the records of the kind stand in groups

  module _ (count : ℕ → ℕ) (item : ℕ → ℕ → List ℕ) (n : ℕ) (is : records_of m k ≡ lined count item n) where
    how_many : length (records_of m k) ≡ sum_below count n
    how_many = ap length is ∙ length_lined count item n

    pub item_put : (g x : ℕ) (line next : Line) (now after r : List ℕ) → g < n → x < count g → r ≡ item g x → after ≡ put_on now line r → next ≡ next_of line
        → Lay m k old (place_in count g x) line now → Lay m k old (place_in count g (x + 1)) next after
    item_put g x line next now after r l h e f z lay =
        let here = ap (λ (rs : List (List ℕ)). get_or rs (place_in count g x) []) is ∙ lined_at count item n g x [] l h in
        let few = sum_has count g n l in
        lay_at next after (omega arith) (kind_put (place_in count g x) line next now after r lay (omega (arith, how_many)) (e ∙ sym here) f z)

    pub item_there : (g x : ℕ) (line : Line) (now : List ℕ) → g < n → x ≤ count g → Lay m k old (place_in count g x) line now → (line.block < 65536) × (line.used < 42)
    item_there g x line now l h lay = kind_there (place_in count g x) line now lay (omega (arith, how_many, sum_has count g n l))

    -- a group ends, and the next begins
    pub group_end : (g x : ℕ) (line : Line) (now : List ℕ) → x ≤ count g → count g ≤ x → Lay m k old (place_in count g x) line now
        → Lay m k old (place_in count (g + 1) 0) line now
    group_end g x line now l h lay = lay_at line now (omega (arith, sum_more count g)) lay

    -- behind the last group
    all_items : (g : ℕ) → g ≤ n → n ≤ g → place_in count g 0 ≡ length (records_of m k)
    all_items g l h = omega (arith, how_many, ap (sum_below count) (let e : g ≡ n = omega arith in e))

    pub items_there : (g : ℕ) (line : Line) (now : List ℕ) → g ≤ n → n ≤ g → Lay m k old (place_in count g 0) line now → (line.block < 65536) × (line.used < 42)
    items_there g line now l h lay = kind_there (place_in count g 0) line now lay (omega (arith, all_items g l h))

    pub items_end : (g : ℕ) (line : Line) (now after : List ℕ) (next : ℕ) → g ≤ n → n ≤ g → Lay m k old (place_in count g 0) line now
        → after ≡ end_on now line → next ≡ end_of line
        → (after ≡ stored old (start_of (records_of m) k * 512) (kind_blocks (records_of m) k)) × (next ≡ start_of (records_of m) (suc k))
    items_end g line now after next l h lay = kind_end line now after next (lay_at line now (all_items g l h) lay)

-- ---- the header

pub header_start : (m : Model) → start_of (records_of m) 1 ≡ 0
unfolding start_of sum_below records_of
header_start m = refl

pub header_first : (m : Model) → header_record m.n m.start ≡ get_or (records_of m 1) 0 []
unfolding records_of headers
header_first m = refl

pub header_then : (m : Model) (s : ℕ) → s < m.n → subject_record s (subject_at m s) ≡ get_or (records_of m 1) (suc s) []
unfolding records_of headers
header_then m s l = sym (table_at (λ s. subject_record s (subject_at m s)) m.n s [] l)

pub header_count : (m : Model) → length (records_of m 1) ≡ suc m.n
unfolding records_of
header_count m = length_headers m

-- ---- the groups of each kind

-- the record of the state at place p, whatever its exits
pub state_item : (m : Model) (s t p : ℕ) → state_record s t (with_exits (stored_at m p) []) ≡ state_record s t (state_at m p)
unfolding with_exits
state_item m s t p = refl

pub states_lined : (m : Model) → records_of m 2 ≡ lined (states_of m) (λ s t. state_record s t (state_at m (s * 32 + t))) 16
unfolding records_of state_records
states_lined m = refl

-- how many exits a state has is kept of it
abbrev pub exits_kept : Model → ℕ → ℕ
exits_kept m p = (stored_at m p).exits

-- exit x of the state at place p is the x-th from its first on
pub exit_item : (m : Model) → GoodModel m → (p x : ℕ) → p < 512 → x < exits_kept m p
    → exit_no m.exits ((stored_at m p).first + x) ≡ exit_at (state_at m p) x
unfolding with_exits
exit_item m good p x l h =
    ap (λ (f : ℕ). exit_no m.exits (f + x)) (good.first p l (has_state_lem m good p x l h)) ∙ sym (exit_is m good p x l h)

pub exits_few : (m : Model) → GoodModel m → (p : ℕ) → p < 512 → exits_kept m p ≤ 8
unfolding with_exits
exits_few m good p l = (good.state p l).small.exits

pub exits_lined : (m : Model) → records_of m 3 ≡ lined (exits_kept m) (λ p x. exit_record (p / 32) (p % 32) x (exit_at (state_at m p) x)) 512
unfolding records_of exit_records with_exits
exits_lined m = refl

pub limits_lined : (m : Model) → records_of m 4 ≡ lined (rows_of m) (λ s k. limit_record s (row_at (subject_at m s) k)) 16
unfolding records_of limit_records
limits_lined m = refl
