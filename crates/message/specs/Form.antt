-- A message in bytes: a header (series, quarter hours, group, version, day), a head (kind, counter) for each
-- series, and then the values, series by series. Series and quarter hours count from 0.
use Rattle.std.specs.Prelude.{◌≡◌, ℕ, ◌+◌, ◌*◌, cond, List, length, take, drop, Ok, Err, Result, ◌==◌, nat_lt}
use Rattle.forms.specs.Bytes.{byte, be16, be32, value_bytes}
use Rattle.forms.specs.declared.fault.Fault.{Fault}
use Rattle.forms.specs.declared.fault.Fault.TheVariants.{ShortForm, WrongSize, WrongLength}
use Rattle.message.specs.declared.Header.{Header}
use Rattle.message.specs.declared.Head.{Head}

-- how many series the message has
abbrev pub series_count : List ℕ → ℕ
series_count s = byte s 0

-- the bytes of the header, and of the head of a series
abbrev pub header_bytes : ℕ
header_bytes = 8

abbrev pub head_bytes : ℕ
head_bytes = 2

-- the length of a message of n series, each with q values
abbrev pub message_size : ℕ → ℕ → ℕ
message_size q n = header_bytes + head_bytes * n + value_bytes * (n * q)

-- what the header says
abbrev pub said : List ℕ → Header
said s = record { count = series_count s; group = be16 s 2; version = be16 s 4; day = be16 s 6 }

-- A message for a day of q quarter hours: not shorter than its header, with q in it, and as long as its sizes give.
abbrev pub header_of : ℕ → List ℕ → Result Header Fault
header_of q s =
    cond (nat_lt (length s) header_bytes) (Err ShortForm)
    (cond (byte s 1 == q)
    (cond (length s == message_size q (series_count s)) (Ok (said s)) (Err WrongLength))
    (Err WrongSize))

-- the length is what the sizes give
pub record Formed (q : ℕ) (s : List ℕ) : Type 0 where
  pub long : length s ≡ message_size q (series_count s)

-- where the head of series i begins; its kind and its counter
abbrev head_start : ℕ → ℕ
head_start i = header_bytes + head_bytes * i

abbrev pub kind_at : List ℕ → ℕ → ℕ
kind_at s i = byte s (head_start i)

abbrev pub counter_at : List ℕ → ℕ → ℕ
counter_at s i = byte s (head_start i + 1)

abbrev pub head_of : List ℕ → ℕ → Head
head_of s i = record { kind = kind_at s i; counter = counter_at s i }

-- where the values of series i begin, after all heads
abbrev pub values_start : ℕ → List ℕ → ℕ → ℕ
values_start q s i = head_start (series_count s) + value_bytes * (i * q)

-- the value of series i at quarter hour t
unfoldable pub value_at : ℕ → List ℕ → ℕ → ℕ → ℕ
value_at q s i t = be32 s (values_start q s i + value_bytes * t)

-- the bytes of the values of series i
abbrev pub values_at : ℕ → List ℕ → ℕ → List ℕ
values_at q s i = take (value_bytes * q) (drop (values_start q s i) s)
