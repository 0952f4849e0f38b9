use Rattle.std.proofs.Common.{rules, ◌≡◌, sym, ap, ◌∙◌, length, ◌&&◌, ◌*◌, ◌<◌, ◌≤◌, ◌+◌, ◌-◌, ℕ}
use borrow.Author.Tests.{tests}
use native.Mathlib.Omega.{arith}
use lib.ListN.{take, drop}
use Rattle.std.proofs.lemmas.Iterator.{YieldsList-from_slice}
use Rattle.std.proofs.lemmas.Iterator.Search.{any_from_yields_List}
use Rattle.sets.proofs.Arrays.{length_mapped}
use Rattle.sets.specs.Masks.{bit}
use Rattle.model.specs.Records.{with_exits, blank_stored}
use Rattle.model.specs.Valid.{subject_at}
use Rattle.model.specs.declared.Stored.{Stored}
use Rattle.engine.specs.configs.Subjects.{is_send}
use Rattle.engine.specs.configs.Shares.{can_send}
use Rattle.engine.proofs.configs.ModelFacts.{n_high}
use Rattle.engine.proofs.configs.IndexFacts.{few_states}
use Rattle.engine.proofs.configs.ShareLaws.{some_within}
use Rattle.engine.proofs.configs.shares.can_send.Goals as goal
use Rattle.engine.proofs.configs.shares.can_send.Goals.{Start}

-- a subject of the model has its place in the arrays
there : (r : Start) → r.args.s < 16
there r = omega (arith, r.requires.s_lt_n, n_high r.args.m r.requires.m_value)

few : (r : Start) → (subject_at r.args.m r.args.s).states ≤ 32
few r = few_states r.args.m r.args.s r.requires.m_value (there r)

all : (r : Start) → length r.args.m.states ≡ 512
all r = search length_mapped

pub bounds-m-s : goal.bounds-m-s
bounds-m-s c = omega (arith, c.requires.s_lt_n, n_high c.args.m c.requires.m_value)

pub slice_bounds-iter-end : goal.slice_bounds-iter-end
slice_bounds-iter-end c =
    let r = (goal.at.slice_bounds-iter-end c).Start in
    omega (arith, there r, all r, few r)

pub returns : goal.returns
unfolding can_send with_exits
returns c =
    let a = c.args in
    let r = (goal.at.returns c).Start in
    let sends = λ (st : Stored). is_send st.kind && bit st.receivers a.owner in
    let first = a.s * 32 in
    let states = (subject_at a.m a.s).states in
    let k : first + states - first ≡ states = omega arith in
    let slice : c.iter.result.rest.now ≡ take states (drop first a.m.states) = c.iter.ensures.rest ∙ ap (λ (i : ℕ). take i (drop first a.m.states)) k in
    any_from_yields_List sends _ _ c.any.result c.any.ensures.ran (YieldsList-from_slice (take states (drop first a.m.states)) slice) (λ x b q k. search (rules, tests))
    ∙ sym (some_within sends a.m.states first states blank_stored (omega (arith, all r, few r, there r)))
