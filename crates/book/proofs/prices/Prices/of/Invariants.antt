use Rattle.std.proofs.Common.{◌≡◌, ℕ, ◌<◌, length, get_or, pos}
use Rattle.forms.specs.Closings.{long_price, short_price}
use Rattle.settlement.specs.Sheets.{words_per_slot}
use Rattle.book.proofs.prices.Prices.of.Given as goal

abbrev pub invariant-loop-t : goal.invariant-loop-t
invariant-loop-t l =
    (length l.long ≡ words_per_slot)
    × (length l.short ≡ words_per_slot)
    × ((k : ℕ) → k < l.t → get_or l.long k (pos 0) ≡ long_price l.form.groups l.form.quarters l.form.bytes.now k)
    × ((k : ℕ) → k < l.t → get_or l.short k (pos 0) ≡ short_price l.form.groups l.form.quarters l.form.bytes.now k)
