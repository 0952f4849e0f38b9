-- Runs of bytes: every number of the run is below 256, and so in its parts.
use mathlib.Core.List.{List, [], ◌∷◌, ◌++◌}
use Prim.Native.Nat.{ℕ, zero, suc, ◌<◌}
use native.Mathlib.Omega.{arith}
use lib.ListN.{get_or, take, drop, replicate}

pub data Bytes : List ℕ → Type 0 where
  none : Bytes []
  ◌&◌ : {x : ℕ} {s : List ℕ} → x < 256 → Bytes s → Bytes (x ∷ s)

infixr 5 ◌&◌
-- by the place of a byte
pub byte_at : {s : List ℕ} → Bytes s → (i : ℕ) → get_or s i 0 < 256
byte_at none i = omega arith
byte_at (h & b) zero = h
byte_at (h & b) (suc i) = byte_at b i

pub bytes_by : (s : List ℕ) → ((i : ℕ) → get_or s i 0 < 256) → Bytes s
bytes_by [] f = none
bytes_by (x ∷ s) f = f 0 & bytes_by s (λ i. f (suc i))

pub append_bytes : {s t : List ℕ} → Bytes s → Bytes t → Bytes (s ++ t)
append_bytes none c = c
append_bytes (h & b) c = h & append_bytes b c

pub zero_bytes : (n : ℕ) → Bytes (replicate n 0)
zero_bytes zero = none
zero_bytes (suc n) = let h : 0 < 256 = omega arith in h & zero_bytes n

pub take_bytes : (n : ℕ) {s : List ℕ} → Bytes s → Bytes (take n s)
take_bytes zero b = none
take_bytes (suc n) none = none
take_bytes (suc n) (h & b) = h & take_bytes n b

pub drop_bytes : (n : ℕ) {s : List ℕ} → Bytes s → Bytes (drop n s)
drop_bytes zero b = b
drop_bytes (suc n) none = none
drop_bytes (suc n) (h & b) = drop_bytes n b
