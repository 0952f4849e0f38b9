-- An arm for several commands, with `|` or `_`, is told their tags: what it gives is right where it is so at each tag.
use mathlib.Core.Path.{◌≡◌, sym, ap, ◌∙◌}
use mathlib.Core.Logic.{inl, inr}
use mathlib.Core.List.{List, [], ◌∷◌, map}
use Prim.Native.Nat.{ℕ}
use denote.Enum.Declared.{tag_of}
use lib.ListN.{get_or, drop}
use types.Run.{OneOf}
use Rattle.engine.specs.declared.Command.{Command}
use Rattle.engine.specs.declared.Command.TheVariants.{Do, Reserve, Deliver, Take, Run, Expire, Cancel, Tick}
use Rattle.engine.specs.contracts.Command.{the_type}

-- the command with a tag; fields that it lacks are ignored
abbrev pub of_tag : ℕ → ℕ → ℕ → ℕ → Command
of_tag s e w t = get_or (Do s e w ∷ Reserve s ∷ Deliver s ∷ Take s e ∷ Run s ∷ Expire s ∷ Cancel s ∷ Tick ∷ []) t Tick

-- every command is that of its own tag, with some fields
by_tag : (P : Command → Type 0) (k : Command) → ((s e w : ℕ) → P (of_tag s e w (tag_of the_type k))) → P k
by_tag P (Do s e w) h = h s e w
by_tag P (Reserve s) h = h s 0 0
by_tag P (Deliver s) h = h s 0 0
by_tag P (Take s e) h = h s e 0
by_tag P (Run s) h = h s 0 0
by_tag P (Expire s) h = h s 0 0
by_tag P (Cancel s) h = h s 0 0
by_tag P Tick h = h 0 0 0

-- f gives v at each tag of a list
one_tag : {A : Type 0} (f : ℕ → A) (v : A) (tags : List ℕ) → map (λ _. v) tags ≡ map f tags → (t : ℕ) → OneOf tags t → v ≡ f t
one_tag f v [] h t o = absurd o
one_tag f v (u ∷ []) h t e = ap (λ l. get_or l 0 v) h ∙ sym (ap f e)
one_tag f v (u ∷ (n ∷ rest)) h t (inl e) = ap (λ l. get_or l 0 v) h ∙ sym (ap f e)
one_tag f v (u ∷ (n ∷ rest)) h t (inr o) = one_tag f v (n ∷ rest) (ap (drop 1) h) t o

-- an arm gives v, and f does so for a command of each of its tags: the proof is `refl` where f computes
pub arm : {A : Type 0} {v : A} (f : Command → A) (k : Command) (tags : List ℕ)
    → OneOf tags (tag_of the_type k)
    → ◌≡◌ {A = ℕ → ℕ → ℕ → List A} (λ _ _ _. map (λ _. v) tags) (λ s e w. map (λ t. f (of_tag s e w t)) tags)
    → v ≡ f k
arm {A} {v} f k tags o h = by_tag (λ c. v ≡ f c) k (λ s e w. one_tag (λ t. f (of_tag s e w t)) v tags (λ i. h i s e w) (tag_of the_type k) o)
