-- What was written of a model is read back, what is read is written the same, and a file that loads is written back.
use mathlib.Core.Path.{◌≡◌, refl, sym, ap, ◌∙◌}
use mathlib.Core.Logic.{◌⊎◌, inl, inr, ⊎_elim}
use mathlib.Core.Bool.{Bool, true, false, ◌||◌, not, cond}
use mathlib.Core.List.{List, [], ◌∷◌, ◌++◌, append-nil}
use Prim.Native.Nat.{ℕ, zero, suc, ◌+◌, ◌-◌, ◌*◌, ◌/◌, ◌%◌, ◌≤◌, ◌<◌}
use native.Mathlib.Omega.{arith}
use borrow.Author.Tests.{eq-eqb, ne_eqb, eqb-true, ltb-true, ltb-false}
use lib.Dec.{ltb, eqb}
use lib.ListN.{length, get_or, take, drop, length-take, length-drop, get_or-append}
use lib.Seq.{get_or-append-add, get_or-take, get_or-drop, drop-drop, take-add, drop_at}
use Rattle.sets.specs.Below.{sum_below, table_from}
use Rattle.sets.specs.Groups.{place_in, lined}
use Rattle.sets.specs.Stores.{each_of}
use Rattle.sets.proofs.Below.{table_at, table_of, part_table, sum_same, sum_has}
use Rattle.sets.proofs.Groups.{in_places_at, length_lined, lined_at}
use Rattle.sets.proofs.Lists.{padded_at}
use Rattle.sets.proofs.LineStores.{line_of}
use Rattle.sets.proofs.Pieces.{zeros_by, zero_at}
use Rattle.sets.proofs.Stores.{length_each, each_same}
use Rattle.sets.proofs.Tests.{and_both, within_is}
use Rattle.model.specs.Records.{blank_exit, blank_row, blank_stored, with_exits}
use Rattle.model.specs.Rules.{shape_of, state_fits}
use Rattle.model.specs.Valid as model_valid
use Rattle.model.specs.Valid.{no_subject, subject_at, stored_at, exit_no, unpacked, state_at, exit_at, row_at, Held}
use Rattle.model.specs.declared.Exit.{Exit}
use Rattle.model.specs.declared.Model.{Model}
use Rattle.model.specs.declared.State.{State}
use Rattle.model.specs.declared.Stored.{Stored}
use Rattle.model.specs.declared.Subject.{Subject}
use Rattle.model.proofs.Facts.{Empty, GoodModel, model_good, exits_of, exit_is}
use Rattle.model.specs.Writing.{written_as, buffer_of}
use Rattle.model_promises.specs.Loads.{AreBytes, LoadsTo}
use Rattle.model_promises.proofs.Loads.{loads_valid, loads_held}
use Rattle.model_promises.proofs.Writes.{writes_exactly}
use Rattle.exported.specs.Bytes.{short_of, model_size, row_bytes, own_bytes, exit_bytes, head_bytes, state_bytes, model_bytes, row_from, own_from, state_in, exits_in, head_from, stored_from, exit_in, exit_line, model_from, is_model}
use Rattle.exported.specs.Calls.{model_in}
use Rattle.exported.specs.Laws.{ModelWrittenIsRead, FileWrittenBack}
use Rattle.exported.proofs.BackLaws.{short_back, drop_each, each_byte, rest_bytes, short_parts, three, pieces}
use Rattle.exported.proofs.ModelLaws.{IsState, IsModel, is_model_lem, model_is}
use Rattle.exported.proofs.WriteLaws.{number_of, write_number_lem, write_room_lem}
use Rattle.exported.specs.Sizes.{length_own, length_state, length_model}

-- ---- the parts of a model's bytes

-- the first three bytes, then the subjects, and behind them the states
module _ (m : Model) where
  n_back : get_or (model_bytes m) 0 0 ≡ m.n
  unfolding model_bytes
  n_back = refl

  start_back : short_of (drop 1 (model_bytes m)) ≡ m.start
  unfolding model_bytes
  start_back = short_back m.start []

  own_part : (s : ℕ) → s < 16 → (tail : List ℕ) × (drop (3 + 27 * s) (model_bytes m) ≡ own_bytes (subject_at m s) ++ tail)
  unfolding model_bytes
  own_part s l =
      let r = drop_each (λ k. own_bytes (subject_at m k)) 27 (λ k. length_own _) 16 s (each_of (λ p. state_bytes (state_at m p)) 512) l in
      (r.0, sym (drop-drop (27 * s) 3 (model_bytes m)) ∙ r.1)

  state_part : (p : ℕ) → p < 512 → (tail : List ℕ) × (state_in (model_bytes m) p ≡ state_bytes (state_at m p) ++ tail)
  unfolding model_bytes
  state_part p l =
      let own = each_of (λ k. own_bytes (subject_at m k)) 16 in
      let states = each_of (λ k. state_bytes (state_at m k)) 512 in
      let r = drop_each (λ k. state_bytes (state_at m k)) 34 (λ k. length_state _) 512 p [] l in
      let behind : drop 435 (model_bytes m) ≡ states = drop_at own states 432 (length_each _ 27 (λ k. length_own _) 16) in
      (r.0, sym (drop-drop (34 * p) 435 (model_bytes m)) ∙ ap (drop (34 * p)) (behind ∙ sym (append-nil states)) ∙ r.1)

-- ---- a subject

own_back : (own : Subject) (rest : List ℕ) → length own.row ≡ 8 → own_from (own_bytes own ++ rest) ≡ own
unfolding own_from own_bytes
own_back own rest h =
    let rows : ℕ → List ℕ = λ k. row_bytes (row_at own k) in
    let row = table_of _ 8 blank_row own.row h
    (λ k l.
    let r = drop_each rows 3 (λ j. refl) 8 k rest l in
    ap row_from (sym (drop-drop (3 * k) 3 (own.states ∷ own.initial ∷ own.rows ∷ (each_of rows 8 ++ rest))) ∙ r.1)) in
    λ i. record { states = own.states; initial = own.initial; rows = own.rows; row = row i }

-- ---- a state

-- the fields before the exits
head_back : (st : Stored) (es : List Exit) (tail : List ℕ) → head_from (state_bytes (with_exits st es) ++ tail) st.first ≡ st
unfolding head_from state_bytes with_exits
head_back st es tail =
    let after = short_back st.after [] in
    let receivers = short_back st.receivers [] in
    λ i.
    record {
      kind = st.kind;
      exits = st.exits;
      sender = st.sender;
      typ = st.typ;
      after = after i;
      timeout = st.timeout;
      cancel = st.cancel;
      receivers = receivers i;
      first = st.first;
    }

-- byte f of exit x
exit_byte : (st : State) (tail : List ℕ) (x f : ℕ) → x < 8 → f < 3 → get_or (state_bytes st ++ tail) (10 + 3 * x + f) 0 ≡ get_or (exit_bytes (exit_at st x)) f 0
unfolding state_bytes
exit_byte st tail x f l h =
    let exits : ℕ → List ℕ = λ k. exit_bytes (exit_at st k) in
    let place : 10 + 3 * x + f ≡ 10 + (3 * x + f) = omega arith in
    get_or-append (head_bytes st ++ each_of exits 8) tail 0 (10 + 3 * x + f) (omega (arith, length_each exits 3 (λ k. refl) 8))
    ∙ ap (λ (k : ℕ). get_or (head_bytes st ++ each_of exits 8) k 0) place
    ∙ get_or-append-add (head_bytes st) (each_of exits 8) (3 * x + f) 0
    ∙ each_byte exits 3 8 x f (λ k. refl) l h

-- exit x
exit_back : (st : State) (tail : List ℕ) (x : ℕ) → x < 8 → exit_in (state_bytes st ++ tail) x ≡ exit_at st x
exit_back st tail x l =
    let first : 10 + 3 * x ≡ 10 + 3 * x + 0 = omega arith in
    let target = ap (λ (k : ℕ). get_or (state_bytes st ++ tail) k 0) first ∙ exit_byte st tail x 0 l (omega arith) in
    let sender = exit_byte st tail x 1 l (omega arith) in
    let typ = exit_byte st tail x 2 l (omega arith) in
    λ i. record { target = target i; sender = sender i; typ = typ i }

-- a blank exit is three zeros
blank_bytes : (f : ℕ) → get_or (exit_bytes blank_exit) f 0 ≡ 0
blank_bytes zero = refl
blank_bytes (suc zero) = refl
blank_bytes (suc (suc zero)) = refl
blank_bytes (suc (suc (suc f))) = refl

-- a state that fits has a kind
has_kind : (st : State) → state_fits st ≡ true → eqb st.kind 0 ≡ false
unfolding state_fits shape_of
has_kind st h =
    ne_eqb st.kind 0
    (λ (e : st.kind ≡ 0).
    let w = within_is 1 st.exits 0 (and_both _ _ (and_both _ _ (and_both _ _ (and_both _ _ (rw e at h)).left).left).left).left in
    omega (arith, w.low, w.high))

-- ---- all of it

-- a state with a kind, whose exits begin behind those of the states before it; or no state
abbrev SomeOrNone : Model → ℕ → Type 0
SomeOrNone m p =
    ((eqb (state_at m p).kind 0 ≡ false) × ((stored_at m p).first ≡ sum_below (exits_of m) p)) ⊎ (Empty (state_at m p) × ((stored_at m p).first ≡ 0))

module _ (m : Model) (good : GoodModel m) where
  -- the kind of a state, how many exits it has, and how many the states before it have
  kind_is : (p : ℕ) → p < 512 → get_or (state_in (model_bytes m) p) 0 0 ≡ (state_at m p).kind
  unfolding state_bytes
  kind_is p l = ap (λ (b : List ℕ). get_or b 0 0) (state_part m p l).1

  exits_are : (p : ℕ) → p < 512 → exits_in (model_bytes m) p ≡ exits_of m p
  unfolding state_bytes
  exits_are p l = ap (λ (b : List ℕ). get_or b 1 0) (state_part m p l).1

  before_are : (p : ℕ) → p ≤ 512 → sum_below (exits_in (model_bytes m)) p ≡ sum_below (exits_of m) p
  before_are p l = sum_same _ _ p (λ q k. exits_are q (omega arith))

  some_or_none : (p : ℕ) → p < 512 → SomeOrNone m p
  some_or_none p l = go (ltb (p % 32) (subject_at m (p / 32)).states) refl
    where
      go : (b : Bool) → ltb (p % 32) (subject_at m (p / 32)).states ≡ b → SomeOrNone m p
      go true e = let h = ltb-true _ _ e in inl (has_kind (state_at m p) ((good.state p l).fits h), good.first p l h)
      go false e = let h = ltb-false _ _ e in inr ((good.state p l).empty h, good.no_first p l h)

  -- so the kind tells where the exits begin
  first_back : (p : ℕ) → p < 512 → cond (eqb (state_at m p).kind 0) 0 (sum_below (exits_of m) p) ≡ (stored_at m p).first
  first_back p l = ⊎_elim (λ s. rw s.0 (sym s.1)) (λ n. rw (eq-eqb _ _ n.0.kind) (sym n.1)) (some_or_none p l)

  stored_back : (p : ℕ) → p < 512 → stored_from (model_bytes m) p ≡ stored_at m p
  unfolding stored_from
  stored_back p l =
      let r = state_part m p l in
      let first = (λ i. cond (eqb (kind_is p l i) 0) 0 (before_are p (omega arith) i)) ∙ first_back p l in
      (λ i. head_from (r.1 i) (first i)) ∙ head_back (stored_at m p) _ r.0

  -- every exit
  exits_back : Held m → exit_line (model_bytes m) ≡ m.exits
  unfolding exit_line
  exits_back held =
      let all = before_are 512 (omega arith) in
      line_of blank_exit _ _ 512 1024 m.exits held.exits (omega (arith, good.exits))
      (λ p x k h.
      let r = state_part m p k in
      let few = (good.state p k).small.exits in
      let some : x < exits_of m p = rw (exits_are p k) at h in
      ap (λ (b : List ℕ). exit_in b x) r.1
      ∙ exit_back (state_at m p) r.0 x (omega arith)
      ∙ exit_is m good p x k some
      ∙ ap (λ (n : ℕ). exit_no m.exits (n + x)) (sym (before_are p (omega arith))))
      (λ j h. good.no_more j (omega arith))

  -- the model
  model_back : Held m → model_from (model_bytes m) ≡ m
  unfolding model_from
  model_back held =
      let n = n_back m in
      let start = start_back m in
      let subjects = table_of (λ s. own_from (drop (3 + 27 * s) (model_bytes m))) 16 no_subject m.subjects held.subjects
      (λ s l. let r = own_part m s l in ap own_from r.1 ∙ own_back (subject_at m s) r.0 (held.rows s l)) in
      let states = table_of (stored_from (model_bytes m)) 512 blank_stored m.states held.states stored_back in
      let exits = exits_back held in
      λ i. record { n = n i; start = start i; subjects = subjects i; states = states i; exits = exits i }

  -- ---- its bytes are a model's

  -- none but a state with a kind has exits
  kind_right_lem : (p : ℕ) → p < 512 → (not (eqb (state_at m p).kind 0) || eqb (exits_of m p) 0) ≡ true
  kind_right_lem p l = ⊎_elim (λ s. rw s.0) (λ n. rw (eq-eqb _ _ n.0.kind, eq-eqb _ _ n.0.exits)) (some_or_none p l)

  -- those of a state are right
  state_accepted : (p : ℕ) → p < 512 → IsState (state_in (model_bytes m) p)
  state_accepted p l =
      let r = state_part m p l in
      let d = state_in (model_bytes m) p in
      let e = exits_in (model_bytes m) p in
      let same = exits_are p l in
      let few = (good.state p l).small.exits in
      record {
        few = omega arith;
        kind = rw (kind_is p l, same) (kind_right_lem p l);
        blank =
            zeros_by _
            (λ i h.
            let size = length-take (24 - 3 * e) (drop (10 + 3 * e) d) in
            let x = exits_of m p + i / 3 in
            let place : 10 + 3 * e + i ≡ 10 + 3 * x + i % 3 = omega arith in
            get_or-take (24 - 3 * e) _ i 0 (omega arith)
            ∙ get_or-drop (10 + 3 * e) d i 0
            ∙ ap (λ (k : ℕ). get_or d k 0) place
            ∙ ap (λ (b : List ℕ). get_or b (10 + 3 * x + i % 3) 0) r.1
            ∙ exit_byte (state_at m p) r.0 x (i % 3) (omega arith) (omega arith)
            ∙ ap (λ (w : Exit). get_or (exit_bytes w) (i % 3) 0) ((good.state p l).blank x (omega arith) (omega arith))
            ∙ blank_bytes (i % 3));
      }

  model_accepted : is_model (model_bytes m) ≡ true
  model_accepted =
      model_is _ record {
        long = omega (arith, length_model m);
        states = state_accepted;
        exits = omega (arith, before_are 512 (omega arith), good.exits);
      }

-- ---- written as it was read

-- the two bytes of a number at place k
short_at : (d : List ℕ) (k : ℕ) → AreBytes d → (short_of (drop k d) % 256 ≡ get_or d (k + 0) 0) × (short_of (drop k d) / 256 ≡ get_or d (k + 1) 0)
short_at d k h =
    let p = short_parts (drop k d) (rest_bytes d k h) in
    (p.0 ∙ get_or-drop k d 0 0, p.1 ∙ get_or-drop k d 1 0)

-- a subject
own_same : (d : List ℕ) → 27 ≤ length d → own_bytes (own_from d) ≡ take 27 d
unfolding own_bytes own_from
own_same d h =
    let rows =
    each_same _ (λ k. take 3 (drop (3 * k) (drop 3 d))) 8
    (λ k l.
    ap row_bytes (table_at (λ j. row_from (drop (3 + 3 * j) d)) 8 k blank_row l)
    ∙ sym (three (drop (3 + 3 * k) d) (omega (arith, length-drop (3 + 3 * k) d)))
    ∙ ap (take 3) (sym (drop-drop (3 * k) 3 d)))
    ∙ pieces 3 8 (drop 3 d) in
    (λ i. get_or d 0 0 ∷ get_or d 1 0 ∷ get_or d 2 0 ∷ rows i) ∙ ap (λ (t : List ℕ). t ++ take 24 (drop 3 d)) (sym (three d (omega arith))) ∙ sym (take-add 3 24 d)

-- the fields of a state before its exits
head_same : (d : List ℕ) (first : ℕ) (es : List Exit) → AreBytes d → 10 ≤ length d → head_bytes (with_exits (head_from d first) es) ≡ take 10 d
unfolding with_exits head_from table_from
head_same d first es h l =
    let a = short_at d 4 h in
    let r = short_at d 8 h in
    (λ i. get_or d 0 0 ∷ get_or d 1 0 ∷ get_or d 2 0 ∷ get_or d 3 0 ∷ a.0 i ∷ a.1 i ∷ get_or d 6 0 ∷ get_or d 7 0 ∷ r.0 i ∷ r.1 i ∷ [])
    ∙ sym (part_table 10 0 d 0 l)

exit_same : (d : List ℕ) (x : ℕ) → x < 8 → 34 ≤ length d → exit_bytes (exit_in d x) ≡ take 3 (drop (3 * x) (drop 10 d))
unfolding table_from
exit_same d x l h =
    let first : 10 + 3 * x ≡ 10 + 3 * x + 0 = omega arith in
    ap (λ (k : ℕ). get_or d k 0 ∷ get_or d (10 + 3 * x + 1) 0 ∷ get_or d (10 + 3 * x + 2) 0 ∷ []) first ∙ sym (part_table 3 (10 + 3 * x) d 0 (omega arith)) ∙ ap (take 3) (sym (drop-drop (3 * x) 10 d))

-- exit x of a state that a model keeps
unpacked_exit : (exits : List Exit) (st : Stored) (x : ℕ) → x < 8
    → exit_at (unpacked exits st) x ≡ cond (ltb x st.exits) (exit_no exits (st.first + x)) blank_exit
unfolding with_exits model_valid.exits_from
unpacked_exit exits st x l = in_places_at 8 blank_exit st.exits _ x blank_exit l

-- a state with an exit has a kind
kind_where : (kind exits : ℕ) → (not (eqb kind 0) || eqb exits 0) ≡ true → 0 < exits → eqb kind 0 ≡ false
kind_where kind exits h l = go (eqb kind 0) refl
  where
    go : (b : Bool) → eqb kind 0 ≡ b → eqb kind 0 ≡ false
    go true e = absurd (omega (arith, eqb-true exits 0 (rw e at h)))
    go false e = e

module _ (b : List ℕ) (are : AreBytes b) (ok : IsModel b) where
  -- all bytes of a state are there
  state_long : (p : ℕ) → p < 512 → 34 ≤ length (state_in b p)
  state_long p l = let all = ok.long in omega (arith, length-drop (435 + 34 * p) b)

  -- an exit that a state has is in the line; past the last there are zeros
  line_exit : (p x : ℕ) → p < 512 → x < exits_in b p → exit_no (exit_line b) (place_in (exits_in b) p x) ≡ exit_in (state_in b p) x
  unfolding exit_line
  line_exit p x l h =
      let item : ℕ → ℕ → Exit = λ q y. exit_in (state_in b q) y in
      padded_at 1024 blank_exit (lined (exits_in b) item 512) (place_in (exits_in b) p x) blank_exit (omega (arith, length_lined (exits_in b) item 512, sum_has (exits_in b) p 512 l))
      ∙ lined_at (exits_in b) item 512 p x blank_exit l h

  past_zero : (f p x : ℕ) → f < 3 → p < 512 → x < 8 → exits_in b p ≤ x → get_or (state_in b p) (10 + 3 * x + f) 0 ≡ 0
  past_zero f p x small l k h =
      let d = state_in b p in
      let e = exits_in b p in
      let j = 3 * (x - e) + f in
      let long = state_long p l in
      let size = length-take (24 - 3 * e) (drop (10 + 3 * e) d) in
      let place : 10 + 3 * x + f ≡ 10 + 3 * e + j = omega arith in
      ap (λ (i : ℕ). get_or d i 0) place
      ∙ sym (get_or-take (24 - 3 * e) (drop (10 + 3 * e) d) j 0 (omega arith) ∙ get_or-drop (10 + 3 * e) d j 0)
      ∙ zero_at _ (ok.states p l).blank j

  -- the state at place p of the model
  state_read : (p : ℕ) → p < 512 → state_at (model_from b) p ≡ unpacked (exit_line b) (stored_from b p)
  unfolding model_from
  state_read p l = ap (unpacked (exit_line b)) (table_at (stored_from b) 512 p blank_stored l)

  -- its exits
  exit_read : (p x : ℕ) → p < 512 → x < 8 → exit_at (unpacked (exit_line b) (stored_from b p)) x ≡ exit_in (state_in b p) x
  unfolding stored_from head_from
  exit_read p x l k = unpacked_exit _ (stored_from b p) x k ∙ go (ltb x (exits_in b p)) refl
    where
      go : (t : Bool) → ltb x (exits_in b p) ≡ t
          → cond (ltb x (exits_in b p)) (exit_no (exit_line b) ((stored_from b p).first + x)) blank_exit ≡ exit_in (state_in b p) x
      go true e =
          let h = ltb-true x (exits_in b p) e in
          let kind = kind_where (get_or (state_in b p) 0 0) (exits_in b p) (ok.states p l).kind (omega arith) in
          rw (e, kind) (line_exit p x l h)
      go false e =
          let h = ltb-false x (exits_in b p) e in
          let first : 10 + 3 * x ≡ 10 + 3 * x + 0 = omega arith in
          let target = ap (λ (i : ℕ). get_or (state_in b p) i 0) first ∙ past_zero 0 p x (omega arith) l k h in
          let sender = past_zero 1 p x (omega arith) l k h in
          let typ = past_zero 2 p x (omega arith) l k h in
          rw e (sym (λ i. record { target = target i; sender = sender i; typ = typ i }))

  -- its bytes
  state_same : (p : ℕ) → p < 512 → state_bytes (state_at (model_from b) p) ≡ take 34 (state_in b p)
  unfolding state_bytes stored_from head_from
  state_same p l =
      let d = state_in b p in
      let long = state_long p l in
      let own = model_valid.exits_from (exit_line b) (stored_from b p) in
      let head = head_same d (stored_from b p).first own (rest_bytes b (435 + 34 * p) are) (omega arith) in
      let exits =
      each_same _ (λ x. take 3 (drop (3 * x) (drop 10 d))) 8 (λ x k. ap exit_bytes (exit_read p x l k) ∙ exit_same d x k long) ∙ pieces 3 8 (drop 10 d) in
      ap state_bytes (state_read p l) ∙ (λ i. head i ++ exits i) ∙ sym (take-add 10 24 d)

  -- the bytes of subject s
  own_read : (s : ℕ) → s < 16 → own_bytes (subject_at (model_from b) s) ≡ take 27 (drop (27 * s) (drop 3 b))
  unfolding model_from
  own_read s l =
      let all = ok.long in
      ap own_bytes (table_at (λ k. own_from (drop (3 + 27 * k) b)) 16 s no_subject l)
      ∙ own_same (drop (3 + 27 * s) b) (omega (arith, length-drop (3 + 27 * s) b))
      ∙ ap (take 27) (sym (drop-drop (27 * s) 3 b))

  -- all bytes
  model_same : model_bytes (model_from b) ≡ take model_size b
  unfolding model_bytes model_from
  model_same =
      let all = ok.long in
      let start = short_at b 1 are in
      let own = each_same _ (λ s. take 27 (drop (27 * s) (drop 3 b))) 16 own_read ∙ pieces 27 16 (drop 3 b) in
      let states =
      each_same _ (λ p. take 34 (drop (34 * p) (drop 435 b))) 512 (λ p l. state_same p l ∙ ap (take 34) (sym (drop-drop (34 * p) 435 b)))
      ∙ pieces 34 512 (drop 435 b) in
      let behind : take 432 (drop 3 b) ++ take 17408 (drop 435 b) ≡ take 17840 (drop 3 b) =
      ap (λ (r : List ℕ). take 432 (drop 3 b) ++ take 17408 r) (sym (drop-drop 432 3 b)) ∙ sym (take-add 432 17408 (drop 3 b)) in
      (λ i. get_or b 0 0 ∷ start.0 i ∷ start.1 i ∷ (own i ++ states i))
      ∙ (λ i. get_or b 0 0 ∷ get_or b 1 0 ∷ get_or b 2 0 ∷ behind i)
      ∙ ap (λ (t : List ℕ). t ++ take 17840 (drop 3 b)) (sym (three b (omega arith)))
      ∙ sym (take-add 3 17840 b)

-- ---- what is promised

pub model_written_is_read : ModelWrittenIsRead
model_written_is_read =
    record {
      accepted = λ m ok. model_accepted m (model_good m ok);
      back = λ m held ok. model_back m (model_good m ok) held;
      same = λ b are ok. model_same b are (is_model_lem b ok);
    }

-- a file that loads is written back from the bytes of its model
pub file_written_back : FileWrittenBack
file_written_back file room bytes h l =
    let m = model_in file in
    let b = model_bytes m in
    let loads : LoadsTo file m = λ i. record { model = m; verdict = h i } in
    let held = loads_held file m bytes loads in
    let ok = loads_valid file m loads in
    let own = model_written_is_read.accepted m ok in
    let same = model_written_is_read.back m held ok in
    let w = writes_exactly.back file m room bytes loads l in (
      sym (write_number_lem b room own) ∙ ap number_of (ap (λ (x : Model). written_as x (length room)) same ∙ w.0),
      sym (write_room_lem b room own) ∙ ap (λ (x : Model). buffer_of x room) same ∙ w.1,
    )
