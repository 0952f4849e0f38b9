-- One result: two results that a contract allows are equal.
use Rattle.std.specs.Prelude.{◌≡◌, List, ℕ}
use borrow.Fn.Kinds.{ParamKind, ResultKind, Out, Dens, res_t, ended_of}
use contract.Lifetimes.{Lfts}
use denote.Triple.Clauses.{AtExit}

-- a contract of n lifetimes, parameters ps and result r, with the ensures Q, that allows one result at the most
abbrev pub OneResult : (n : ℕ) (ps : List (ParamKind n)) (r : ResultKind n) → Out n ps r → Type 0
OneResult n ps r Q = (κs : Lfts n) (a : Dens κs ps) (x y : (res_t r κs).Denot) (e : AtExit (ended_of n ps r) κs) → Q κs a x e → Q κs a y e → x ≡ y

-- one that allows one list of bytes at the most, where the result is a part of the caller's slice
abbrev pub OnePart : (n : ℕ) (ps : List (ParamKind n)) (r : ResultKind n) → ((κs : Lfts n) → (res_t r κs).Denot → List ℕ) → Out n ps r → Type 0
OnePart n ps r bytes Q =
    (κs : Lfts n) (a : Dens κs ps) (x y : (res_t r κs).Denot) (e : AtExit (ended_of n ps r) κs) → Q κs a x e → Q κs a y e → bytes κs x ≡ bytes κs y

-- one that allows one result and one content of a lent buffer at the most, where the caller has the buffer's bytes back at the end
abbrev pub OneStore : (n : ℕ) (ps : List (ParamKind n)) (r : ResultKind n) → ((κs : Lfts n) → AtExit (ended_of n ps r) κs → List ℕ) → Out n ps r → Type 0
OneStore n ps r bytes Q =
    (κs : Lfts n) (a : Dens κs ps) (x y : (res_t r κs).Denot) (e f : AtExit (ended_of n ps r) κs) → Q κs a x e → Q κs a y f
    → (x ≡ y) × (bytes κs e ≡ bytes κs f)
