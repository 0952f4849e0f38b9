-- The yes/no for a pool: what yes means, and the limit of a sender in a pool that is shared out.
use Rattle.std.specs.Prelude.{Ok, Err}
use mathlib.Core.Path.{◌≡◌, refl, ap, ◌∙◌}
use mathlib.Core.Bool.{Bool, true, false, ◌&&◌, ◌||◌, not, cond}
use Prim.Native.Nat.{ℕ, ◌<◌}
use borrow.Author.Tests.{lt-ltb, ltb-true, le-leb, leb-true, eq-eqb, ne_eqb, eqb-true, eqb-false, not-true}
use lib.Dec.{eqb, ltb}
use Rattle.sets.specs.Below.{all_below, sum_below}
use Rattle.sets.specs.Masks.{bit}
use Rattle.sets.proofs.Tests.{and_true, and_both, not_both}
use Rattle.sets.proofs.Below.{all_each, all_by, some_is, some_by}
use Rattle.model.specs.Rules.{any}
use Rattle.model.specs.Valid.{subject_at, row_at, valid}
use Rattle.model.specs.declared.Model.{Model}
use Rattle.model.specs.declared.Subject.{Subject}
use Rattle.engine.specs.pools.Sizes.{most_entries}
use Rattle.engine.specs.configs.Answers.{is_yes}
use Rattle.engine.specs.configs.Shares.{row_names, rows_name, none_twice, has_row, sends_to, can_send, senders_have_rows, limits_fit, shared_out, share_of}
use Rattle.engine.specs.configs.Subjects.{is_send, state_of}
use Rattle.engine.specs.declared.NotAsked.TheVariants.{ModelNotValid, NoSubject}
use Rattle.engine.proofs.Cited.{if_true, true_if}
use Rattle.demands.specs.Shares.{SendsTo, RowFor, SharedOut, YesSays, limit_of, LimitIsTheRows}
use Rattle.demands.proofs.Counting.{sum_one, two_names}

-- ---- rows and senders, as tests and as records

module _ (own : Subject) (s : ℕ) where
  -- the test finds a row
  pub row_of_lem : has_row own s ≡ true → RowFor own s
  unfolding has_row
  row_of_lem h =
      let f = some_is (λ k. eqb (row_at own k).sender s) own.rows h in
      record { row = f.at; there = f.below; sender = eqb-true (row_at own f.at).sender s f.holds }

  -- a row passes the test
  pub has_row_lem : RowFor own s → has_row own s ≡ true
  unfolding has_row
  has_row_lem r = some_by (λ k. eqb (row_at own k).sender s) own.rows r.row r.there (eq-eqb (row_at own r.row).sender s r.sender)

module _ (m : Model) (owner s : ℕ) where
  -- the test finds a send state
  pub sends_of : can_send m owner s ≡ true → SendsTo m owner s
  unfolding can_send
  sends_of h =
      let f = some_is (λ t. sends_to owner (state_of m s t)) (subject_at m s).states h in
      let b = and_both (is_send (state_of m s f.at).kind) (bit (state_of m s f.at).receivers owner) f.holds in
      record { state = f.at; there = f.below; send = eqb-true (state_of m s f.at).kind 2 b.left; named = b.right }

  -- a send state passes the test
  pub can_send_lem : SendsTo m owner s → can_send m owner s ≡ true
  unfolding can_send
  can_send_lem h =
      some_by
      (λ t. sends_to owner (state_of m s t))
      (subject_at m s).states
      h.state
      h.there
      (and_true (eq-eqb (state_of m s h.state).kind 2 h.send) h.named)

-- ---- what yes means

module _ (m : Model) (owner : ℕ) where
  -- what the test of the rows says
  shared_read : shared_out most_entries m owner ≡ true → SharedOut m owner
  unfolding shared_out rows_name none_twice limits_fit senders_have_rows
  shared_read h =
      let own = subject_at m owner in
      let a = and_both ((rows_name own && none_twice own) && limits_fit most_entries own) (senders_have_rows m owner) h in
      let b = and_both (rows_name own && none_twice own) (limits_fit most_entries own) a.left in
      let d = and_both (rows_name own) (none_twice own) b.left in
      let names : (k : ℕ) → k < own.rows → row_names (row_at own k) ≡ true = all_each (λ k. row_names (row_at own k)) own.rows d.left in
      record {
        one_sender = λ k l. eqb-false (row_at own k).sender any (not-true _ (and_both (not (eqb (row_at own k).sender any)) (eqb (row_at own k).typ any) (names k l)).left);
        all_types = λ k l. eqb-true (row_at own k).typ any (and_both (not (eqb (row_at own k).sender any)) (eqb (row_at own k).typ any) (names k l)).right;
        none_twice = λ j k l g.
            eqb-false
            (row_at own j).sender
            (row_at own k).sender
            (not-true _ (all_each (λ j. not (eqb (row_at own j).sender (row_at own k).sender)) k (all_each (λ k. all_below (λ j. not (eqb (row_at own j).sender (row_at own k).sender)) k) own.rows d.right k g) j l));
        row_for_each = λ s l t.
            row_of_lem own s (if_true (can_send m owner s) (has_row own s) (all_each (λ s. not (can_send m owner s) || has_row own s) m.n a.right s l) (can_send_lem m owner s t));
        limits_fit = leb-true (sum_below (λ k. (row_at own k).limit) own.rows) most_entries b.right;
      }

  -- rows that are so pass it
  shared_by : SharedOut m owner → shared_out most_entries m owner ≡ true
  unfolding shared_out rows_name none_twice limits_fit senders_have_rows
  shared_by h =
      let own = subject_at m owner in
      and_true
      (and_true
      (and_true
      (all_by (λ k. row_names (row_at own k)) own.rows (λ k l. and_true (ap not (ne_eqb (row_at own k).sender any (h.one_sender k l))) (eq-eqb (row_at own k).typ any (h.all_types k l))))
      (all_by
      (λ k. all_below (λ j. not (eqb (row_at own j).sender (row_at own k).sender)) k)
      own.rows
      (λ k l. all_by (λ j. not (eqb (row_at own j).sender (row_at own k).sender)) k (λ j g. ap not (ne_eqb (row_at own j).sender (row_at own k).sender (h.none_twice j k g l))))))
      (le-leb (sum_below (λ k. (row_at own k).limit) own.rows) most_entries h.limits_fit))
      (all_by
      (λ s. not (can_send m owner s) || has_row own s)
      m.n
      (λ s l. true_if (can_send m owner s) (has_row own s) (λ e. has_row_lem own s (h.row_for_each s l (sends_of m owner s e)))))

  -- yes is answered only for a pool that is shared out
  yes_read : is_yes (share_of most_entries m owner) ≡ true → (valid m ≡ true) × (owner < m.n) × SharedOut m owner
  unfolding share_of
  yes_read h = go (valid m) refl (ltb owner m.n) refl (shared_out most_entries m owner) refl h
    where
      go : (a : Bool) → valid m ≡ a → (b : Bool) → ltb owner m.n ≡ b → (d : Bool) → shared_out most_entries m owner ≡ d
          → is_yes (cond a (cond b (Ok d) (Err NoSubject)) (Err ModelNotValid)) ≡ true
          → (valid m ≡ true) × (owner < m.n) × SharedOut m owner
      go true v true l true k e = (v, ltb-true owner m.n l, shared_read k)
      go true v true l false k e = not_both e refl
      go true v false l d k e = not_both e refl
      go false v b l d k e = not_both e refl

  -- and for each of them
  yes_by : (valid m ≡ true) × (owner < m.n) × SharedOut m owner → is_yes (share_of most_entries m owner) ≡ true
  unfolding share_of
  yes_by h = rw (h.0, lt-ltb owner m.n h.1, shared_by h.2)

-- the answer is yes exactly for the pools of a valid model that are shared out
pub yes_says : YesSays
yes_says m owner = (yes_read m owner, yes_by m owner)

module _ (m : Model) (owner : ℕ) (answer : is_yes (share_of most_entries m owner) ≡ true) where
  -- the model of a pool that is shared out is valid
  pub yes_valid : valid m ≡ true
  yes_valid = ((yes_says m owner).0 answer).0

  -- its owner is a subject
  pub yes_there : owner < m.n
  yes_there = ((yes_says m owner).0 answer).1

  -- and its rows share it out
  pub yes_shared : SharedOut m owner
  yes_shared = ((yes_says m owner).0 answer).2

-- ---- the limit

-- the limit of a sender is that of its row
pub limit_is_the_rows : LimitIsTheRows
unfolding limit_of
limit_is_the_rows m owner k shares l =
    let own = subject_at m owner in
    sum_one
    (λ i. cond (eqb (row_at own i).sender (row_at own k).sender) (row_at own i).limit 0)
    own.rows
    k
    l
    (λ i g d. rw (ne_eqb (row_at own i).sender (row_at own k).sender (two_names (λ i. (row_at own i).sender) own.rows (yes_shared m owner shares).none_twice i k g l d)))
    ∙ rw (eq-eqb (row_at own k).sender (row_at own k).sender refl)
