use Rattle.std.proofs.Common.{rules, ◌≡◌, ◌&&◌, ℕ, zero, suc, ◌*◌, List, [], ◌∷◌, ◌++◌, take, drop, length, ◌/◌, refl, sym, ap, ◌∙◌, arith}
use borrow.Author.Tests.{tests}
use Rattle.std.specs.List.{list_all}
use Rattle.std.specs.Simd.{first_chunks}
use Rattle.std.proofs.lemmas.Iterator.{YieldsList-from_slice}
use Rattle.std.proofs.lemmas.Iterator.Search.{all_from_yields_List}
use Rattle.std.proofs.lemmas.List.{take-append-drop, drop-drop}
use Rattle.model.specs.Valid.{is_blank_exit, none_after}
use Rattle.model.specs.declared.Exit.{Exit}
use Rattle.model.proofs.BlankLaws.{and_assoc}
use Rattle.model.proofs.valid.none_after.Goals as goal

-- from place k on: of those behind the first k, from the first on
behind : (k : ℕ) (l : List Exit) → none_after 0 (drop k l) ≡ none_after k l
unfolding none_after
behind zero [] = refl
behind zero (e ∷ es) = refl
behind (suc k) [] = refl
behind (suc k) (e ∷ es) = behind k es

both : (xs ys : List Exit) → (none_after 0 xs && none_after 0 ys) ≡ none_after 0 (xs ++ ys)
unfolding none_after
both [] ys = refl
both (e ∷ es) ys = sym (and_assoc (is_blank_exit e) (none_after 0 es) (none_after 0 ys)) ∙ ap (λ b. is_blank_exit e && b) (both es ys)

-- k chunks of n, and the others
chunks : (n k : ℕ) (l : List Exit) → (list_all (none_after 0) (first_chunks n k l) && none_after 0 (drop (k * n) l)) ≡ none_after 0 l
chunks n zero l =
    let none : zero * n ≡ 0 = omega arith in
    rw none
chunks n (suc k) l =
    let one = none_after 0 (take n l) in
    let next : drop (suc k * n) l ≡ drop (k * n) (drop n l) = ap (λ (i : ℕ). drop i l) (omega arith) ∙ sym (drop-drop (k * n) n l) in
    sym (and_assoc one (list_all (none_after 0) (first_chunks n k (drop n l))) (none_after 0 (drop (suc k * n) l)))
    ∙ ap (λ b. one && b) (rw next (chunks n k (drop n l)))
    ∙ both (take n l) (drop n l)
    ∙ ap (none_after 0) (take-append-drop n l)

whole : (k : ℕ) (es : List Exit) {l others : List Exit} {cs : List (List Exit)} → l ≡ drop k es
    → cs ≡ first_chunks 16 (length l / 16) l → others ≡ drop (length l / 16 * 16) l
    → (list_all (none_after 0) cs && none_after 0 others) ≡ none_after k es
whole k es e f g = rw (f, g) (chunks 16 _ _) ∙ ap (none_after 0) e ∙ behind k es

pub returns-then-all : goal.returns-then-all
returns-then-all c =
    let cs = c.as_chunks.ensures in
    let all = all_from_yields_List (none_after 0) _ _ c.all.result c.all.ensures.ran (YieldsList-from_slice _ cc) (λ x b q k. search (rules, tests)) in
    c.exits_blank.ensures
    ∙ ap (λ b. b && none_after 0 c.as_chunks.result.1.now) (sym c.if-all.true ∙ all)
    ∙ whole _ _ c.exits_behind.ensures cs.front cs.back

pub returns-else-all : goal.returns-else-all
returns-else-all c =
    let cs = c.as_chunks.ensures in
    let all = all_from_yields_List (none_after 0) _ _ c.all.result c.all.ensures.ran (YieldsList-from_slice _ cc) (λ x b q k. search (rules, tests)) in
    c.if-all.false
    ∙ ap (λ b. b && none_after 0 c.as_chunks.result.1.now) (sym c.if-all.false ∙ all)
    ∙ whole _ _ c.exits_behind.ensures cs.front cs.back
