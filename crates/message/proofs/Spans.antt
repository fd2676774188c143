-- Where values stand, and that they stand within the message.
use Rattle.std.proofs.Common.{◌≡◌, ℕ, zero, suc, ◌+◌, ◌*◌, ◌<◌, ◌≤◌, List, [], length, get_or, take, drop, ap, ◌∙◌, add_assoc, add-mul, refl, arith}
use Rattle.std.specs.Simd.{first_chunks}
use Rattle.std.proofs.lemmas.Nat.{mul-le}
use Rattle.std.proofs.lemmas.List.{length-take-le, length-drop, drop-drop, get_or-take, get_or-drop}
use Rattle.forms.specs.Bytes.{byte, be32}
use Rattle.message.specs.Form.{Formed, series_count, values_start, value_at, values_at}

-- a value by the place of its first byte
pub value_from_start : (q : ℕ) (s : List ℕ) (i t : ℕ) → be32 s (values_start q s i + 4 * t) ≡ value_at q s i t
unfolding value_at
value_from_start q s i t = refl

byte_part : (s : List ℕ) (a n k : ℕ) → k < n → byte (take n (drop a s)) k ≡ byte s (a + k)
byte_part s a n k h = get_or-take n (drop a s) k 0 h ∙ get_or-drop a s k 0

be32_part : (s : List ℕ) (a n k : ℕ) → k + 4 ≤ n → be32 (take n (drop a s)) k ≡ be32 s (a + k)
be32_part s a n k h =
    rw (
      byte_part s a n k (omega arith),
      byte_part s a n (k + 1) (omega arith),
      byte_part s a n (k + 2) (omega arith),
      byte_part s a n (k + 3) (omega arith),
      ← add_assoc a k 1,
      ← add_assoc a k 2,
      ← add_assoc a k 3,
    )

-- a value out of the bytes of its series
pub value_of_bytes : (q : ℕ) (s : List ℕ) (i t : ℕ) → t < q → be32 (values_at q s i) (4 * t) ≡ value_at q s i t
value_of_bytes q s i t h = be32_part s (values_start q s i) (4 * q) (4 * t) (omega arith) ∙ value_from_start q s i t

chunk_at : {X : Type 0} (n k : ℕ) (xs : List X) (i : ℕ) (d : List X) → i < k → get_or (first_chunks n k xs) i d ≡ take n (drop (i * n) xs)
chunk_at n zero xs i d h = absurd (omega arith)
chunk_at n (suc k) xs zero d h = let e : 0 ≡ 0 * n = omega arith in ap (λ m. take n (drop m xs)) e
chunk_at n (suc k) xs (suc i) d h =
    let e : n + i * n ≡ suc i * n = omega arith in
    chunk_at n k (drop n xs) i d (omega arith) ∙ ap (take n) (drop-drop (i * n) n xs) ∙ ap (λ m. take n (drop m xs)) e

-- a number out of the four bytes of it
pub be32_of_chunk : (s : List ℕ) (k t : ℕ) → t < k → be32 (get_or (first_chunks 4 k s) t []) 0 ≡ be32 s (4 * t)
be32_of_chunk s k t l =
    ap (λ w. be32 w 0) (chunk_at 4 k s t [] l)
    ∙ be32_part s (t * 4) 4 0 (omega arith)
    ∙ (let e : t * 4 + 0 ≡ 4 * t = omega arith in ap (be32 s) e)

module _ (q : ℕ) (s : List ℕ) (i : ℕ) (formed : Formed q s) (there : i < series_count s) where
  -- the values of series i end within the message
  pub values_end : values_start q s i + 4 * q ≤ length s
  values_end = let l : i + 1 ≤ series_count s = omega arith in omega (arith, mul-le (i + 1) q (series_count s) q l (omega arith), add-mul i 1 q, formed.long)

  -- and are four bytes for each quarter hour
  pub length_values : length (values_at q s i) ≡ 4 * q
  length_values = length-take-le (4 * q) (drop (values_start q s i) s) (simp length-drop (omega (arith, values_end)))
