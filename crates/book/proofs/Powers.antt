-- All bits of some words together, and some words slot by slot.
use Rattle.std.proofs.Common.{◌≡◌, ℕ, zero, suc, ◌+◌, ◌*◌, ◌≤◌, Bool, true, ◌&&◌, leb, List, [], ◌∷◌, take, drop, fold, refl, sym, ap, ◌∙◌, arith}
use lib.Bits.{bit_or, or_add_and}
use Rattle.forms.specs.Bounds.{power_bound}
use Rattle.std.proofs.Math.Bool.{and_assoc, and-true}
use Rattle.std.proofs.lemmas.Nat.{and_le_l, and_le_r}
use Rattle.std.specs.List.{list_all}
use Rattle.std.specs.Simd.{first_chunks}
use Rattle.std.proofs.lemmas.Bool.{le-leb}
use Rattle.std.proofs.lemmas.List.{drop-drop, take-append-drop}
use Rattle.std.proofs.lemmas.List.Folds.{list_all-append}
use Rattle.std.proofs.lemmas.List.Sums.{fold-append}
use Rattle.book.specs.Sheets.{all_powers}

-- no word, and no bits before, are above all bits together
below_or : (a b : ℕ) → (a ≤ bit_or a b) × (b ≤ bit_or a b)
below_or a b = (omega (arith, or_add_and a b, and_le_r a b), omega (arith, or_add_and a b, and_le_l a b))

below_all : (a : ℕ) (ws : List ℕ) → a ≤ fold bit_or a ws
below_all a [] = omega arith
below_all a (w ∷ ws) = omega (arith, (below_or a w).0, below_all (bit_or a w) ws)

-- so where all bits are within the bound, each word is
pub bits_within : (a : ℕ) (ws : List ℕ) → fold bit_or a ws ≤ power_bound → all_powers ws ≡ true
unfolding all_powers
bits_within a [] h = refl
bits_within a (w ∷ ws) h =
    let low : w ≤ power_bound = omega (arith, (below_or a w).1, below_all (bit_or a w) ws, h) in
    (λ j. le-leb w power_bound low j && bits_within (bit_or a w) ws h j)

-- the bits of slots of n words, one slot after another, and of the words behind them
pub bits_by_slots : (n k a : ℕ) (ws : List ℕ) → fold bit_or (fold (λ b slot. fold bit_or b slot) a (first_chunks n k ws)) (drop (k * n) ws) ≡ fold bit_or a ws
bits_by_slots n zero a ws = let e : 0 * n ≡ 0 = omega arith in ap (λ m. fold bit_or a (drop m ws)) e
bits_by_slots n (suc k) a ws =
    let e : suc k * n ≡ n + k * n = omega arith in
    let first = fold bit_or a (take n ws) in
    ap (λ l. fold bit_or (fold (λ b slot. fold bit_or b slot) first (first_chunks n k (drop n ws))) l) (ap (λ m. drop m ws) e ∙ sym (drop-drop (k * n) n ws))
    ∙ bits_by_slots n k first (drop n ws)
    ∙ sym (fold-append bit_or a (take n ws) (drop n ws))
    ∙ ap (fold bit_or a) (take-append-drop n ws)

-- a pass that keeps whether all words so far are within the bound
pub pass_within : (b : Bool) (ws : List ℕ) → fold (λ b w. b && leb w power_bound) b ws ≡ (b && all_powers ws)
unfolding all_powers
pass_within b [] = sym (and-true b)
pass_within b (w ∷ ws) = pass_within (b && leb w power_bound) ws ∙ and_assoc b (leb w power_bound) (all_powers ws)

-- the words of slots of n words, one slot after another, and the words behind them
pub powers_by_slots : (n k : ℕ) (ws : List ℕ) → (list_all all_powers (first_chunks n k ws) && all_powers (drop (k * n) ws)) ≡ all_powers ws
unfolding all_powers
powers_by_slots n zero ws = let e : 0 * n ≡ 0 = omega arith in ap (λ m. all_powers (drop m ws)) e
powers_by_slots n (suc k) ws =
    let e : suc k * n ≡ n + k * n = omega arith in
    let first = all_powers (take n ws) in
    let slots = list_all all_powers (first_chunks n k (drop n ws)) in
    and_assoc first slots (all_powers (drop (suc k * n) ws))
    ∙ ap (λ l. first && (slots && all_powers l)) (ap (λ m. drop m ws) e ∙ sym (drop-drop (k * n) n ws))
    ∙ ap (λ b. first && b) (powers_by_slots n k (drop n ws))
    ∙ sym (list_all-append (λ w. leb w power_bound) (take n ws) (drop n ws))
    ∙ ap all_powers (take-append-drop n ws)
