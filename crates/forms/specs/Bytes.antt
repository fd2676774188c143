-- Numbers out of bytes, high byte first.
use Rattle.std.specs.Prelude.{ℕ, ◌+◌, ◌*◌, List, ℤ, slice_index}
use Rattle.std.specs.Int.{w32, cast_signed}

abbrev pub byte : List ℕ → ℕ → ℕ
byte s i = slice_index s i

abbrev pub be16 : List ℕ → ℕ → ℕ
be16 s i = byte s i * 256 + byte s (i + 1)

-- the bytes of a 32-bit number
abbrev pub value_bytes : ℕ
value_bytes = 4

abbrev pub be32 : List ℕ → ℕ → ℕ
be32 s i = byte s i * 16777216 + byte s (i + 1) * 65536 + byte s (i + 2) * 256 + byte s (i + 3)

-- the same 32 bits as a signed number, in two's complement
abbrev pub signed32 : List ℕ → ℕ → ℤ
signed32 s i = cast_signed w32 (be32 s i)
