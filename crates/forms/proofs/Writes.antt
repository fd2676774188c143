-- A loop that writes an array's elements one by one.
use Rattle.std.proofs.Common.{◌≡◌, ℕ, ◌+◌, ◌<◌, List, [], ◌∷◌, ◌++◌, map, length, get_or, take, set, sym, ap, ◌∙◌, subst, inl, inr, arith}
use Rattle.std.specs.List.{range_with_len}
use Rattle.std.proofs.lemmas.List.FromFn.{map-range_with_len_more}
use Rattle.std.proofs.lemmas.List.{take_more_set, map_push, get_or-set_same, get_or-set_other}
use Rattle.std.proofs.lemmas.Bool.{cases_eq}

-- the first i elements say what h says of 0, 1, .., i - 1; one more
pub written_more : {X Y : Type 0} (f : X → Y) (h : ℕ → Y) (xs : List X) (i : ℕ) (v : X) → i < length xs → f v ≡ h i
    → map f (take i xs) ≡ map h (range_with_len 0 i) → map f (take (i + 1) (set xs i v)) ≡ map h (range_with_len 0 (i + 1))
written_more f h xs i v l e inv =
    ap (map f) (take_more_set xs i v l) ∙ map_push f (take i xs) v ∙ (λ j. inv j ++ e j ∷ []) ∙ sym (map-range_with_len_more h 0 i i (omega arith))

-- what holds of every element and of what is written holds of every element after it
pub set_keeps : {X : Type 0} (P : X → Type 0) (xs : List X) (i : ℕ) (v d : X) → i < length xs → P v
    → ((k : ℕ) → P (get_or xs k d)) → (k : ℕ) → P (get_or (set xs i v) k d)
set_keeps P xs i v d l p h k =
    elim (cases_eq k i) [
      | inl e ↦ subst P (sym (ap (λ n. get_or (set xs i v) n d) e ∙ get_or-set_same xs i v d l)) p
      | inr ne ↦ subst P (sym (get_or-set_other xs i k v d ne)) (h k)
    ]

pub written_all : {X Y : Type 0} (f : X → Y) (h : ℕ → Y) (xs : List X) (i n : ℕ) → i ≡ n
    → map f (take i xs) ≡ map h (range_with_len 0 i) → map f (take n xs) ≡ map h (range_with_len 0 n)
written_all f h xs i n e inv = rw e at inv
