-- Laws of pools: the struct and the list of its entries, the loops over it, and what the steps do to it in terms of the list.
use Rattle.std.specs.Prelude.{Option, Some, None, unwrap_or}
use Rattle.std.specs.Option.{UnwrapsOrElse}
use mathlib.Core.Path.{◌≡◌, refl, sym, ap, ◌∙◌}
use mathlib.Core.Bool.{Bool, true, false, ◌&&◌, not, cond}
use mathlib.Core.List.{List, [], ◌∷◌, ◌++◌, map, append-nil}
use Prim.Native.Nat.{ℕ, ◌+◌, ◌-◌, ◌≤◌, ◌<◌}
use native.Mathlib.Omega.{arith}
use Rattle.std.specs.Prelude.{min}
use Rattle.std.specs.List.{list_all, enumerate_from, filter_map, cons_option}
use Rattle.std.proofs.lemmas.List.Elements.{filter_map-append}
use Rattle.std.proofs.Common.{add-one}
use Rattle.std.specs.Array.{AllOfLen}
use Rattle.std.proofs.lemmas.List.FromFn.{length-enumerate_from, get_or-enumerate_from}
use lib.Seq.{ext_get_or, take-suc, take-nil}
use Rattle.sets.proofs.Below.{all_same}
use Rattle.sets.proofs.Chains.{all_below_list}
use Prim.Native.Nat.{zero, suc}
use Rattle.model.specs.Sizes.{most_rows}
use Rattle.model.specs.declared.Row.{Row}
use Rattle.engine.specs.pools.Rows.{each_row}
use borrow.Author.Tests.{eq-eqb, ne_eqb, lt-ltb, le-ltb, le-leb, ltb-true, ltb-false, leb-true, leb-false, eqb-true, not-true}
use lib.Dec.{eqb, ltb, leb}
use lib.Pointwise.{pointwise}
use Rattle.std.proofs.Math.Bool.{and_comm, and-true}
use lib.ListN.{replicate, length, take, get_or, set, length-append, length-take, length-map, length-replicate}
use lib.Seq.{take_all, length-take-le, get_or-take}
use Rattle.sets.specs.Below.{all_below}
use Rattle.sets.specs.Lists.{all_of, passing, without, padded}
use Rattle.sets.proofs.Tests.{and_true, and_both, choose}
use Rattle.sets.proofs.Below.{all_each, all_by}
use Rattle.sets.proofs.Lists.{all_of_at, all_of_by, passing_all, length_passing, counted_bound, counted_none, length_padded, padded_front, padded_set, padded_at, padded_past, padded_of}
use Rattle.model.specs.Rules.{any}
use Rattle.model.specs.declared.Subject.{Subject}
use Rattle.engine.specs.pools.Entries.{blank_entry, is_blank_entry, reserved_by, delivered}
use Rattle.engine.specs.pools.Pools.{held, pooled, appended, taken_at, reservations, delivered_in, withdrawn_from, Well}
use Rattle.engine.specs.pools.Rows.{rows_kept}
use Rattle.engine.specs.pools.Valid.{entry_valid, place_valid, pool_valid, is_blank_pool}
use Rattle.engine.specs.declared.Entry.{Entry}
use Rattle.engine.specs.declared.Pool.{Pool}
use Rattle.sets.proofs.Lists.{without_short, map_stays}

-- a test that all from n up pass
all_first : (f g : ℕ → Bool) (n m : ℕ) → n ≤ m → ((i : ℕ) → i < n → f i ≡ g i) → ((i : ℕ) → n ≤ i → i < m → f i ≡ true) → all_below f m ≡ all_below g n
unfolding all_below
all_first f g n zero l e t = let z : n ≡ 0 = omega arith in rw z
all_first f g n (suc m) l e t = go (λ h. all_first f g n m h e (λ i a b. t i a (omega arith))) (leb n m) refl
  where
    go : (n ≤ m → all_below f m ≡ all_below g n) → (b : Bool) → leb n m ≡ b → all_below f (suc m) ≡ all_below g n
    go ih true k = let h = leb-true n m k in rw (t m h (omega arith), and-true) (ih h)
    go ih false k = let h : n ≡ suc m = let z = leb-false n m k in omega arith in rw h (all_same f g (suc m) (λ i a. e i (rw h a)))

-- so many of a list: no more than are there
pub take_within : {A : Type 0} (n k r : ℕ) (l : List A) → r ≡ min n k → length l ≤ k → take r l ≡ take n l
take_within n k r l e h = go (leb n k) refl
  where
    go : (b : Bool) → leb n k ≡ b → take r l ≡ take n l
    go true t = let small = leb-true n k t in ap (λ (i : ℕ). take i l) (omega (arith, e, small))
    go false t = let large = leb-false n k t in take_all r l (omega (arith, e, large)) ∙ sym (take_all n l (omega (arith, large)))

-- a test of each row that the owner has, by the list of them
abbrev pub first_rows : Subject → List Row
first_rows owner = take (min owner.rows most_rows) owner.row

pub each_row_list : (p : Row → Bool) (owner : Subject) → length owner.row ≡ most_rows → each_row p owner ≡ list_all p (first_rows owner)
each_row_list p owner n =
    let d : Row = record { sender = 0; typ = 0; limit = 0 } in
    let k = min owner.rows 8 in
    let long : length (first_rows owner) ≡ k = length-take-le k owner.row (omega (arith, n)) in
    all_first _ (λ i. p (get_or (first_rows owner) i d)) k 8 (omega arith)
    (λ i l. rw (lt-ltb i owner.rows (omega (arith, l))) (ap p (sym (get_or-take k owner.row i d l))))
    (λ i l m. rw (le-ltb i owner.rows (omega (arith, l, m))))
    ∙ ap (all_below (λ i. p (get_or (first_rows owner) i d))) (sym long)
    ∙ all_below_list p (first_rows owner) d

-- a test of each place and what stands there, by the list of the pairs
pub numbered_list : {A : Type 0} (p : ℕ → A → Bool) (xs : List A) (d : A)
    → all_below (λ i. p i (get_or xs i d)) (length xs) ≡ list_all (λ (t : ℕ × A). p t.0 t.1) (enumerate_from 0 xs)
numbered_list {A} p xs d =
    all_same _ _ (length xs) (λ i l. ap (λ (k : ℕ). p k (get_or xs i d)) (omega arith) ∙ ap (λ (t : ℕ × A). p t.0 t.1) (sym (get_or-enumerate_from 0 xs i (0, d) l)))
    ∙ ap (all_below (λ i. p (get_or (enumerate_from 0 xs) i (0, d)).0 (get_or (enumerate_from 0 xs) i (0, d)).1)) (sym (length-enumerate_from 0 xs))
    ∙ all_below_list (λ (t : ℕ × A). p t.0 t.1) (enumerate_from 0 xs) (0, d)

-- ---- what becomes of each of a list and its place

enumerate_more : {A : Type 0} (n : ℕ) (xs : List A) (x : A) → enumerate_from n (xs ++ (x ∷ [])) ≡ enumerate_from n xs ++ ((n + length xs, x) ∷ [])
enumerate_more n [] x = ap (λ (k : ℕ). (k, x) ∷ []) (omega arith)
enumerate_more {A} n (y ∷ ys) x =
    ap (λ (t : List (ℕ × A)). (n, y) ∷ t)
    (enumerate_more (n + 1) ys x ∙ ap (λ (k : ℕ). enumerate_from (n + 1) ys ++ ((k, x) ∷ [])) (omega arith))

module _ {A B : Type 0} where
  given_more : (g : ℕ × A → Option B) (l : List A) (j : ℕ) (d : A) → j < length l
      → filter_map g (enumerate_from 0 (take (j + 1) l)) ≡ filter_map g (enumerate_from 0 (take j l)) ++ cons_option (g (j, get_or l j d)) []
  given_more g l j d h =
      rw (add-one, take-suc l j d h)
      (ap (filter_map g) (enumerate_more 0 (take j l) (get_or l j d))
      ∙ filter_map-append g (enumerate_from 0 (take j l)) ((0 + length (take j l), get_or l j d) ∷ [])
      ∙ ap (λ (k : ℕ). filter_map g (enumerate_from 0 (take j l)) ++ cons_option (g (k, get_or l j d)) []) (omega (arith, length-take-le j l (omega (arith, h)))))

  -- each becomes one
  pub given_map : (f : A → B) (n : ℕ) (xs : List A) → filter_map (λ (t : ℕ × A). Some (f t.1)) (enumerate_from n xs) ≡ map f xs
  given_map f n [] = refl
  given_map f n (x ∷ xs) = ap (λ (t : List B). f x ∷ t) (given_map f (n + 1) xs)

module _ {A : Type 0} where
  -- those of a kind leave
  pub given_passing : (f : A → Bool) (n : ℕ) (xs : List A) → filter_map (λ (t : ℕ × A). cond (f t.1) None (Some t.1)) (enumerate_from n xs) ≡ passing (λ x. not (f x)) xs
  unfolding passing
  given_passing f n [] = refl
  given_passing f n (x ∷ xs) = go (f x) (given_passing f (n + 1) xs)
    where
      go : (b : Bool) {ys zs : List A} → ys ≡ zs → cons_option (cond b None (Some x)) ys ≡ cond (not b) (x ∷ zs) zs
      go true e = e
      go false e = ap (λ (t : List A). x ∷ t) e

  -- who stands at another place stays
  stay_behind : (i n : ℕ) → i < n → (xs : List A) → filter_map (λ (t : ℕ × A). cond (eqb t.0 i) None (Some t.1)) (enumerate_from n xs) ≡ xs
  stay_behind i n l [] = refl
  stay_behind i n l (x ∷ xs) = rw (ne_eqb n i (omega (arith, l))) (ap (λ (t : List A). x ∷ t) (stay_behind i (n + 1) (omega (arith, l)) xs))

  given_without : (i n k : ℕ) → k ≡ n + i → (xs : List A) → filter_map (λ (t : ℕ × A). cond (eqb t.0 k) None (Some t.1)) (enumerate_from n xs) ≡ without i xs
  unfolding without
  given_without i n k e [] = rw (take-nil {A = A} i) refl
  given_without zero n k e (x ∷ xs) = rw (eq-eqb n k (omega (arith, e))) (stay_behind k (n + 1) (omega (arith, e)) xs)
  given_without (suc i) n k e (x ∷ xs) = rw (ne_eqb n k (omega (arith, e))) (ap (λ (t : List A). x ∷ t) (given_without i (n + 1) k (omega (arith, e)) xs))

  pub given_others : (i : ℕ) (xs : List A) → filter_map (λ (t : ℕ × A). cond (eqb t.0 i) None (Some t.1)) (enumerate_from 0 xs) ≡ without i xs
  given_others i xs = given_without i 0 i (omega arith) xs

pub pool_is : {a b : Pool} → a.entries ≡ b.entries → a.count ≡ b.count → a ≡ b
pool_is p q = λ i. record { entries = p i; count = q i }

-- ---- the list of a pool, whatever stands in its array

module _ (p : Pool) where
  pub held_fits : length (held p) ≤ length p.entries
  unfolding held
  held_fits = omega (arith, length-take p.count p.entries)

  pub held_few : p.count ≤ length p.entries → length (held p) ≡ p.count
  unfolding held
  held_few h = length-take-le p.count p.entries h

  pub held_at : (i : ℕ) → i < length (held p) → get_or (held p) i blank_entry ≡ get_or p.entries i blank_entry
  unfolding held
  held_at i h = get_or-take p.count p.entries i blank_entry (omega (arith, length-take p.count p.entries))

-- ---- equality with what stands for nothing

-- a list compared with as many of the same
pub pointwise_blank : {A : Type 0} (same : A → A → Bool) (p : A → Bool) (z : A) → ((x : A) → same x z ≡ p x) → (xs : List A)
    → pointwise same xs (replicate (length xs) z) ≡ list_all p xs
pointwise_blank same p z k [] = refl
pointwise_blank same p z k (x ∷ xs) = rw (k x) (ap (λ (b : Bool). p x && b) (pointwise_blank same p z k xs))

-- ---- entries and places

blank_entry_is : (e : Entry) → is_blank_entry e ≡ true → e ≡ blank_entry
blank_entry_is e h =
    let b = and_both _ _ h in
    let f = and_both _ _ b.left in
    let g = and_both _ _ b.right in
    let s = eqb-true e.sender 0 f.left in
    let t = eqb-true e.typ 0 f.right in
    let m = not-true e.message g.left in
    let k = eqb-true e.content 0 g.right in
    λ i. record { sender = s i; typ = t i; message = m i; content = k i }

-- the entry by default
abbrev pub IsBlank : Entry → Type 0
IsBlank e = (e.sender ≡ 0) × ((e.typ ≡ 0) × ((e.message ≡ false) × (e.content ≡ 0)))

pub blank_by : {e : Entry} → IsBlank e → e ≡ blank_entry
blank_by h = λ i. record { sender = h.0 i; typ = h.1.0 i; message = h.1.1.0 i; content = h.1.1.1 i }

pub unwrapped : (o : Option Entry) (r : Entry) → UnwrapsOrElse o IsBlank r → r ≡ unwrap_or o blank_entry
unwrapped None r h = blank_by h
unwrapped (Some x) r h = h

module _ (n : ℕ) (p : Pool) (i : ℕ) (h : place_valid n p i ≡ true) where
  used_place : i < p.count → entry_valid n (get_or p.entries i blank_entry) ≡ true
  unfolding place_valid
  used_place l = rw (lt-ltb i p.count l) at h

  unused_place : p.count ≤ i → get_or p.entries i blank_entry ≡ blank_entry
  unfolding place_valid
  unused_place l = blank_entry_is (get_or p.entries i blank_entry) (rw (le-ltb i p.count l) at h)

none_reserved : (s : ℕ) (es : List Entry) → reservations s any es ≡ 0 → all_of (λ e. not (reserved_by s any e)) es ≡ true
unfolding reservations
none_reserved s es h = counted_none (reserved_by s any) es h

stays : (s w : ℕ) (e : Entry) → not (reserved_by s any e) ≡ true → delivered s w e ≡ e
unfolding delivered
stays s w e h = rw (not-true (reserved_by s any e) h)

module _ (places : ℕ) where
  -- ---- the pool of a list

  pub held_pooled : (es : List Entry) → held (pooled places es) ≡ es
  unfolding held pooled
  held_pooled es = padded_front places blank_entry es

  pub pooled_places : (es : List Entry) → length es ≤ places → length (pooled places es).entries ≡ places
  unfolding pooled
  pooled_places es h = length_padded places blank_entry es h

  pub well_pooled : (es : List Entry) → length es ≤ places → Well places (pooled places es)
  unfolding pooled
  well_pooled es h = record { small = h; exact = ap (padded places blank_entry) (sym (held_pooled es)) }

  pub append_pooled : (es : List Entry) (e : Entry) → appended places (pooled places es) e ≡ pooled places (es ++ (e ∷ []))
  unfolding appended
  append_pooled es e = rw (held_pooled es)

  pub count_pooled : {q : Pool} (es : List Entry) → q ≡ pooled places es → q.count ≡ length es
  unfolding pooled
  count_pooled es e = ap (λ (r : Pool). r.count) e

  -- the pool by default
  pub empty_pool : {q : Pool} → AllOfLen IsBlank q.entries places × (q.count ≡ 0) → q ≡ pooled places []
  unfolding pooled
  empty_pool {q} h =
      pool_is
      (ext_get_or blank_entry _ _ (h.0.long ∙ sym (length_padded places blank_entry [] (omega arith)))
      (λ i l. blank_by (h.0.at i blank_entry (omega (arith, h.0.long))) ∙ sym (padded_past places blank_entry [] i blank_entry (omega arith) (omega (arith, h.0.long)))))
      h.1

  store_pooled : (es : List Entry) (i : ℕ) (e : Entry) → length es ≡ i → i < places
      → record { entries = set (pooled places es).entries i e; count = (pooled places es).count + 1 } ≡ pooled places (es ++ (e ∷ []))
  unfolding pooled
  store_pooled es i e h l =
      pool_is
      (rw (← h) (padded_set places blank_entry es e (omega arith)))
      (sym (length-append es (e ∷ [])))

  -- the entry is stored at the first unused place
  pub store_is : (q : Pool) (es : List Entry) → q ≡ pooled places es → (i : ℕ) (e : Entry) → q.count ≡ i → i < places
      → record { entries = set q.entries i e; count = q.count + 1 } ≡ appended places q e
  store_is q es is i e h l =
      ap (λ (r : Pool). record { entries = set r.entries i e; count = r.count + 1 }) is
      ∙ store_pooled es i e (sym (count_pooled es is) ∙ h) l
      ∙ sym (ap (λ (r : Pool). appended places r e) is ∙ append_pooled es e)

  -- in a turn the entry at place j of the list of p is looked at, of which g gives nothing or one entry
  module _ (g : ℕ × Entry → Option Entry) (p q : Pool) (j : ℕ) (l : j < length (held p)) (x : Entry) (here : x ≡ get_or (held p) j blank_entry) where
    given_turn : filter_map g (enumerate_from 0 (take (j + 1) (held p))) ≡ filter_map g (enumerate_from 0 (take j (held p))) ++ cons_option (g (j, x)) []
    given_turn = rw here (given_more g (held p) j blank_entry l)

    pub left_turn : None ≡ g (j, x) → q ≡ pooled places (filter_map g (enumerate_from 0 (take j (held p)))) → q ≡ pooled places (filter_map g (enumerate_from 0 (take (j + 1) (held p))))
    left_turn n e = e ∙ ap (pooled places) (sym (given_turn ∙ rw (← n) (append-nil _)))

    pub given_one : (y : Entry) → Some y ≡ g (j, x) → q ≡ pooled places (filter_map g (enumerate_from 0 (take j (held p))))
        → appended places q y ≡ pooled places (filter_map g (enumerate_from 0 (take (j + 1) (held p))))
    given_one y n e =
        rw e (append_pooled (filter_map g (enumerate_from 0 (take j (held p)))) y ∙ ap (pooled places) (sym (given_turn ∙ rw (← n) refl)))

  -- ---- a pool that stores its list

  module _ (p : Pool) (w : Well places p) where
    pub length_held : length (held p) ≡ p.count
    unfolding held padded
    length_held =
        omega (arith, w.small, simp (length-append, length-replicate) at (ap length w.exact), length-take p.count p.entries)

    pub pooled_held : pooled places (held p) ≡ p
    unfolding pooled
    pooled_held = pool_is (sym w.exact) length_held

    pub well_short : length (held p) ≤ places
    well_short = omega (arith, length_held, w.small)

    -- every place of it is there
    pub well_full : length p.entries ≡ places
    well_full = ap length w.exact ∙ length_padded places blank_entry (held p) well_short

    -- without a reservation of s it stays as it is
    module _ (s : ℕ) (h : reservations s any (held p) ≡ 0) where
      pub delivered_same : (word : ℕ) → delivered_in places s word p ≡ p
      unfolding delivered_in
      delivered_same word =
          ap (pooled places) (map_stays (λ e. not (reserved_by s any e)) (delivered s word) (held p) (none_reserved s (held p) h) (stays s word))
          ∙ pooled_held

      pub withdrawn_same : withdrawn_from places s p ≡ p
      unfolding withdrawn_from
      withdrawn_same = ap (pooled places) (passing_all (λ e. not (reserved_by s any e)) (held p) (none_reserved s (held p) h)) ∙ pooled_held

  -- ---- what the tests of a pool tell

  -- the three parts of a valid pool
  record Parted (n : ℕ) (owner : Subject) (p : Pool) : Type 0 where
    few : p.count ≤ places
    right : (i : ℕ) → i < places → place_valid n p i ≡ true
    kept : rows_kept owner (held p) ≡ true

  parts_of_lem : (n : ℕ) (owner : Subject) (p : Pool) → pool_valid places n owner p ≡ true → Parted n owner p
  unfolding pool_valid
  parts_of_lem n owner p h =
      let b = and_both (leb p.count places) (all_below (place_valid n p) places && rows_kept owner (held p)) h in
      let c = and_both (all_below (place_valid n p) places) (rows_kept owner (held p)) b.right in
      record { few = leb-true p.count places b.left; right = all_each (place_valid n p) places c.left; kept = c.right }

  module _ (n : ℕ) (owner : Subject) (p : Pool) where
    pub well_of : length p.entries ≡ places → pool_valid places n owner p ≡ true → Well places p
    unfolding held
    well_of e h =
        let t = parts_of_lem n owner p h in
        record {
          small = t.few;
          exact = padded_of places blank_entry p.entries p.count (omega (arith, t.few)) e (λ i k l. unused_place n p i (t.right i l) k);
        }

    pub entries_valid : length p.entries ≡ places → pool_valid places n owner p ≡ true → all_of (entry_valid n) (held p) ≡ true
    entries_valid e h =
        let t = parts_of_lem n owner p h in
        let k = held_few p (omega (arith, t.few)) in
        all_of_by
        (entry_valid n)
        (held p)
        blank_entry
        (λ i l. ap (entry_valid n) (held_at p i l) ∙ used_place n p i (t.right i (omega (arith, t.few))) (omega arith))

    pub rows_kept_lem : pool_valid places n owner p ≡ true → rows_kept owner (held p) ≡ true
    rows_kept_lem h = (parts_of_lem n owner p h).kept

  pub valid_by : (n : ℕ) (owner : Subject) (es : List Entry) → length es ≤ places → all_of (entry_valid n) es ≡ true → rows_kept owner es ≡ true
      → pool_valid places n owner (pooled places es) ≡ true
  unfolding pool_valid place_valid pooled
  valid_by n owner es h a r =
      and_true
      (le-leb (length es) places h)
      (and_true (all_by (place_valid n (pooled places es)) places place) (ap (rows_kept owner) (held_pooled es) ∙ r))
    where
      place : (i : ℕ) → i < places → place_valid n (pooled places es) i ≡ true
      place i l =
          choose
          (λ (b : Bool). b ≡ true)
          (ltb i (length es))
          (λ t. ap (entry_valid n) (padded_at places blank_entry es i blank_entry (ltb-true i (length es) t)) ∙ all_of_at (entry_valid n) es blank_entry a i (ltb-true i (length es) t))
          (λ t. ap is_blank_entry (padded_past places blank_entry es i blank_entry (ltb-false i (length es) t) l))

  pub blank_is : (p : Pool) → length p.entries ≡ places → is_blank_pool places p ≡ true → p ≡ pooled places []
  unfolding is_blank_pool pooled
  blank_is p e h =
      let b = and_both _ _ h in
      pool_is
      (padded_of places blank_entry p.entries 0 (omega arith) e (λ i k l. blank_entry_is (get_or p.entries i blank_entry) (all_each (λ j. is_blank_entry (get_or p.entries j blank_entry)) places b.right i l)))
      (eqb-true p.count 0 b.left)

  pub blank_pooled : is_blank_pool places (pooled places []) ≡ true
  unfolding is_blank_pool pooled
  blank_pooled =
      and_true
      refl
      (all_by (λ j. is_blank_entry (get_or (padded places blank_entry []) j blank_entry)) places (λ i l. ap is_blank_entry (padded_past places blank_entry [] i blank_entry (omega arith) l)))

  -- the pool compared with the pool by default
  pub blank_by_eq : (same : Entry → Entry → Bool) → ((e : Entry) → same e blank_entry ≡ is_blank_entry e) → (p q : Pool) → length p.entries ≡ places → q ≡ pooled places []
      → (pointwise same p.entries q.entries && eqb p.count q.count) ≡ is_blank_pool places p
  unfolding is_blank_pool pooled padded
  blank_by_eq same k p q n e =
      let m : places - 0 ≡ length p.entries = omega (arith, n) in
      let blanks : pointwise same p.entries (replicate (places - 0) blank_entry) ≡ all_below (λ i. is_blank_entry (get_or p.entries i blank_entry)) places =
      ap (λ (i : ℕ). pointwise same p.entries (replicate i blank_entry)) m
      ∙ pointwise_blank same is_blank_entry blank_entry k p.entries
      ∙ sym (all_below_list is_blank_entry p.entries blank_entry)
      ∙ ap (all_below (λ i. is_blank_entry (get_or p.entries i blank_entry))) n in
      rw e (ap (λ (b : Bool). b && eqb p.count 0) blanks ∙ and_comm (all_below (λ i. is_blank_entry (get_or p.entries i blank_entry)) places) (eqb p.count 0))

  -- ---- what the steps do to the list

  module _ (s : ℕ) (p : Pool) where
    pub held_delivered : (w : ℕ) → held (delivered_in places s w p) ≡ map (delivered s w) (held p)
    unfolding delivered_in
    held_delivered w = held_pooled (map (delivered s w) (held p))

    pub held_withdrawn : held (withdrawn_from places s p) ≡ passing (λ e. not (reserved_by s any e)) (held p)
    unfolding withdrawn_from
    held_withdrawn = held_pooled (passing (λ e. not (reserved_by s any e)) (held p))

    pub well_delivered : (w : ℕ) → Well places p → Well places (delivered_in places s w p)
    unfolding delivered_in
    well_delivered w h =
        well_pooled (map (delivered s w) (held p)) (omega (arith, length-map (held p) (delivered s w), well_short p h))

    pub well_withdrawn : Well places p → Well places (withdrawn_from places s p)
    unfolding withdrawn_from
    well_withdrawn h =
        let f : Entry → Bool = λ e. not (reserved_by s any e) in
        well_pooled (passing f (held p)) (omega (arith, length_passing f (held p), counted_bound f (held p), well_short p h))

  pub held_taken : (p : Pool) (i : ℕ) → held (taken_at places p i).pool ≡ without i (held p)
  unfolding taken_at
  held_taken p i = held_pooled (without i (held p))

  pub well_taken : (p : Pool) (i : ℕ) → Well places p → Well places (taken_at places p i).pool
  unfolding taken_at
  well_taken p i h = well_pooled (without i (held p)) (omega (arith, without_short i (held p), well_short p h))

  -- ---- what they do to a pool of a list

  pub delivered_pooled : (s w : ℕ) (es : List Entry) → delivered_in places s w (pooled places es) ≡ pooled places (map (delivered s w) es)
  unfolding delivered_in
  delivered_pooled s w es = rw (held_pooled es)

  pub withdrawn_pooled : (s : ℕ) (es : List Entry) → withdrawn_from places s (pooled places es) ≡ pooled places (passing (λ e. not (reserved_by s any e)) es)
  unfolding withdrawn_from
  withdrawn_pooled s es = rw (held_pooled es)
