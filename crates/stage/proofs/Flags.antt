-- Bits of a word that is cut at a bit and given that bit, and flags of words.
use Rattle.std.proofs.Common.{◌≡◌, ℕ, zero, suc, ◌+◌, ◌-◌, ◌*◌, ◌/◌, ◌%◌, ◌^◌, ◌<◌, Bool, true, false, cond, eqb, not, List, [], ◌∷◌, ◌++◌, map, length, get_or, set, refl, sym, ap, ◌∙◌, inl, inr, zero-mul, one-mul, arith}
use lib.Bits.{bit_and, bit_or}
use Rattle.std.specs.List.{range_with_len}
use Rattle.std.specs.Int.{bit_at}
use Rattle.std.proofs.lemmas.Nat.{pow_pos}
use Rattle.std.proofs.lemmas.Nat.Bits.{bit_at-lt, bit_at_and, bit_at_or, bit_at-pow_same, bit_at-pow_other, bit_at_ones, bit_at_ones_above, and_pow}
use Rattle.std.proofs.lemmas.List.{get_or-set_same, get_or-set_other}
use Rattle.std.proofs.lemmas.List.FromFn.{length-map-range_with_len, get_or-map-range_with_len, map-range_with_len_more, fill_by_all}
use Rattle.std.proofs.lemmas.Bool.{cases_eq, ne_eqb}
use Rattle.stage.specs.Marked.{bit, flag}

-- the word cut at bit r, and with that bit as given
abbrev pub with_bit : ℕ → ℕ → Bool → ℕ
with_bit w r x = cond x (bit_or (bit_and w (2 ^ r - 1)) (2 ^ r)) (bit_and w (2 ^ r - 1))

tested : (b p : ℕ) → b < 2 → 0 < p → not (eqb (b * p) 0) ≡ eqb b 1
tested zero p h l = rw (zero-mul p) refl
tested (suc zero) p h l = rw (one-mul p, ne_eqb p 0 (λ e. omega arith)) refl
tested (suc (suc b)) p h l = absurd (omega arith)

-- the bit that a word has at r
pub bit_tested : (w r : ℕ) → not (eqb (bit_and w (2 ^ r)) 0) ≡ bit w r
bit_tested w r = rw (and_pow w r) (tested (bit_at w r) (2 ^ r) (bit_at-lt w r) (pow_pos r))

bit_before : (w r j : ℕ) (x : Bool) → j < r → bit (with_bit w r x) j ≡ bit w j
bit_before w r j false h =
    ap (λ b. eqb b 1) (let e : bit_at (bit_and w (2 ^ r - 1)) j ≡ bit_at w j = omega (arith, bit_at_and w (2 ^ r - 1) j, bit_at_ones r j h, bit_at-lt w j) in e)
bit_before w r j true h =
    ap (λ b. eqb b 1) (let e : bit_at (bit_or (bit_and w (2 ^ r - 1)) (2 ^ r)) j ≡ bit_at w j = omega (arith, bit_at_or (bit_and w (2 ^ r - 1)) (2 ^ r) j, bit_at_and w (2 ^ r - 1) j, bit_at-pow_other r j (omega arith), bit_at_ones r j h, bit_at-lt w j) in e)

bit_here : (w r : ℕ) (x : Bool) → bit (with_bit w r x) r ≡ x
bit_here w r false =
    ap (λ b. eqb b 1) (let e : bit_at (bit_and w (2 ^ r - 1)) r ≡ 0 = omega (arith, bit_at_and w (2 ^ r - 1) r, bit_at_ones_above r r (omega arith)) in e)
bit_here w r true =
    ap (λ b. eqb b 1) (let e : bit_at (bit_or (bit_and w (2 ^ r - 1)) (2 ^ r)) r ≡ 1 = omega (arith, bit_at_or (bit_and w (2 ^ r - 1)) (2 ^ r) r, bit_at_and w (2 ^ r - 1) r, bit_at-pow_same r, bit_at_ones_above r r (omega arith)) in e)

module _ (ws : List ℕ) (n : ℕ) (x : Bool) (within : n / 64 < length ws) where
  abbrev after : List ℕ
  after = set ws (n / 64) (with_bit (get_or ws (n / 64) 0) (n % 64) x)

  flag_here : flag after n ≡ x
  flag_here =
      ap (λ w. bit w (n % 64)) (get_or-set_same ws (n / 64) _ 0 within) ∙ bit_here (get_or ws (n / 64) 0) (n % 64) x

  flag_before : (k : ℕ) → k < n → flag after k ≡ flag ws k
  flag_before k h =
      elim (cases_eq (k / 64) (n / 64)) [
        | inl e ↦
            let below : k % 64 < n % 64 = omega arith in
            ap (λ q. bit (get_or after q 0) (k % 64)) e
            ∙ ap (λ w. bit w (k % 64)) (get_or-set_same ws (n / 64) _ 0 within)
            ∙ bit_before (get_or ws (n / 64) 0) (n % 64) (k % 64) x below
            ∙ ap (λ q. bit (get_or ws q 0) (k % 64)) (sym e)
        | inr f ↦ ap (λ w. bit w (k % 64)) (get_or-set_other ws (n / 64) (k / 64) _ 0 f)
      ]

  -- the first n flags stay, and x comes after them
  pub flags_push : map (flag after) (range_with_len 0 (n + 1)) ≡ map (flag ws) (range_with_len 0 n) ++ x ∷ []
  flags_push =
      let same : map (flag after) (range_with_len 0 n) ≡ map (flag ws) (range_with_len 0 n) =
      fill_by_all (flag ws) (map (flag after) (range_with_len 0 n)) n false
      (length-map-range_with_len (flag after) 0 n)
      (λ k h. get_or-map-range_with_len (flag after) 0 n k k false h (omega arith) ∙ flag_before k h) in
      map-range_with_len_more (flag after) 0 n n (omega arith)
      ∙ ap (λ v. v ++ flag after n ∷ []) same
      ∙ ap (λ v. map (flag ws) (range_with_len 0 n) ++ v ∷ []) flag_here
