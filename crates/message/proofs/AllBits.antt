-- All bits of a message's values together.
use Rattle.std.proofs.Common.{◌≡◌, ℕ, zero, suc, ◌+◌, ◌*◌, ◌/◌, ◌%◌, ◌^◌, ◌≤◌, min, false, ◌&&◌, ltb, List, ◌⊎◌, inl, inr, refl, arith}
use Rattle.std.proofs.lemmas.Bool.{and_left, and_right, le-ltb}
use lib.Bits.{bit_or}
use Rattle.std.specs.Int.{w32, to_le_bytes}
use Rattle.std.proofs.lemmas.Nat.{le_or_l, le_or_r, or_shr, or_mod}
use Rattle.forms.specs.Bytes.{byte, be32}

-- the byte of a number at place k, low byte first
abbrev pub byte_of : ℕ → ℕ → ℕ
byte_of zero n = n % 2 ^ 8
byte_of (suc k) n = n / 2 ^ (8 * suc k) % 2 ^ 8

-- no byte of two numbers is above that of their bits together
byte_or : (a b k : ℕ) → (byte_of k a ≤ byte_of k (bit_or a b)) × (byte_of k b ≤ byte_of k (bit_or a b))
byte_or a b zero = rw (or_mod a b 8) (le_or_l (a % 2 ^ 8) (b % 2 ^ 8), le_or_r (a % 2 ^ 8) (b % 2 ^ 8))
byte_or a b (suc k) =
    let m = 8 * suc k in
    rw (or_shr a b m, or_mod (a / 2 ^ m) (b / 2 ^ m) 8)
    (le_or_l (byte_of (suc k) a) (byte_of (suc k) b), le_or_r (byte_of (suc k) a) (byte_of (suc k) b))

-- the number that four bytes are, high byte first
abbrev pub turned : List ℕ → ℕ
turned bytes = be32 bytes 0

-- no byte of a word is above that of these bits
pub record BytesWithin (word : List ℕ) (bits : ℕ) : Type 0 where
  pub first : byte word 0 ≤ byte_of 0 bits
  pub second : byte word 1 ≤ byte_of 1 bits
  pub third : byte word 2 ≤ byte_of 2 bits
  pub fourth : byte word 3 ≤ byte_of 3 bits

-- so the word is not above them with their bytes turned
pub word_within : (word : List ℕ) (bits : ℕ) → BytesWithin word bits
    → be32 word 0 ≤ byte_of 0 bits * 16777216 + byte_of 1 bits * 65536 + byte_of 2 bits * 256 + byte_of 3 bits
word_within word bits h = omega (arith, h.first, h.second, h.third, h.fourth)

-- more bits leave the bytes within, and take those of the word that they are
pub within_more : (word : List ℕ) (bits more : ℕ) → BytesWithin word bits → BytesWithin word (bit_or bits more)
within_more word bits more h = record {
  first = omega (arith, h.first, (byte_or bits more 0).0);
  second = omega (arith, h.second, (byte_or bits more 1).0);
  third = omega (arith, h.third, (byte_or bits more 2).0);
  fourth = omega (arith, h.fourth, (byte_or bits more 3).0);
}

pub within_taken : (word : List ℕ) (bits more : ℕ) → to_le_bytes w32 more ≡ word → BytesWithin word (bit_or bits more)
within_taken word bits more e = rw (← e) (record {
  first = (byte_or bits more 0).1;
  second = (byte_or bits more 1).1;
  third = (byte_or bits more 2).1;
  fourth = (byte_or bits more 3).1;
})

-- and those of one of two words
pub within_either : (word : List ℕ) (bits a b : ℕ) → (to_le_bytes w32 a ≡ word) ⊎ (to_le_bytes w32 b ≡ word) → BytesWithin word (bit_or bits (bit_or a b))
within_either word bits a b (inl e) = rw (← e) (record {
  first = omega (arith, (byte_or bits (bit_or a b) 0).1, (byte_or a b 0).0);
  second = omega (arith, (byte_or bits (bit_or a b) 1).1, (byte_or a b 1).0);
  third = omega (arith, (byte_or bits (bit_or a b) 2).1, (byte_or a b 2).0);
  fourth = omega (arith, (byte_or bits (bit_or a b) 3).1, (byte_or a b 3).0);
})
within_either word bits a b (inr e) = rw (← e) (record {
  first = omega (arith, (byte_or bits (bit_or a b) 0).1, (byte_or a b 0).1);
  second = omega (arith, (byte_or bits (bit_or a b) 1).1, (byte_or a b 1).1);
  third = omega (arith, (byte_or bits (bit_or a b) 2).1, (byte_or a b 2).1);
  fourth = omega (arith, (byte_or bits (bit_or a b) 3).1, (byte_or a b 3).1);
})

-- a number whose bytes a word is, is 0 where the word is
pub word_zero : (word : List ℕ) (n : ℕ) → to_le_bytes w32 n ≡ word → n ≡ 0 → be32 word 0 ≡ 0
word_zero word n e h = rw (← e, h) refl

-- where the lower of two numbers adds no bits, one of their words is 0
pub lower_none : (a b : ℕ) → min a b ≡ 0 → (a ≡ 0) ⊎ (b ≡ 0)
lower_none zero b h = inl refl
lower_none (suc a) zero h = inr refl
lower_none (suc a) (suc b) h = absurd (omega arith)

pub never_both : (x y : List ℕ) (bits a b : ℕ) → to_le_bytes w32 a ≡ x → to_le_bytes w32 b ≡ y → bit_or bits (min a b) ≡ 0
    → (ltb 0 (be32 x 0) && ltb 0 (be32 y 0)) ≡ false
never_both x y bits a b d e h =
    elim (lower_none a b (omega (arith, le_or_r bits (min a b), h))) [
      | inl z ↦ and_left _ _ (le-ltb 0 (be32 x 0) (omega (arith, word_zero x a d z)))
      | inr z ↦ and_right (ltb 0 (be32 x 0)) _ (le-ltb 0 (be32 y 0) (omega (arith, word_zero y b e z)))
    ]
