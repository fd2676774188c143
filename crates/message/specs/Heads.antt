-- Which heads a message may have. Groups count from 0 here, the counters of heads from 1.
use Rattle.std.specs.Prelude.{◌≡◌, ℕ, ◌+◌, Bool, not, ◌&&◌, ◌||◌, List, is_some, Ok, ◌==◌}
use Rattle.std.specs.Int.{is_in_range}
use Rattle.std.specs.Result.{result_and}
use Rattle.forms.specs.Checks.{Verdict, refuse_if, each_of}
use Rattle.forms.specs.declared.fault.Fault.TheVariants.{UnlawfulHead, RepeatedHead}
use Rattle.message.specs.Form.{series_count, kind_at, counter_at}
use Rattle.message.specs.Read.{is_trade, is_forecast}
use Rattle.message.specs.Places.{first_of, head_is}

-- the counter names one of the g groups, other than the sender's own
abbrev pub names_other : ℕ → ℕ → ℕ → Bool
names_other g own counter = is_in_range 1 g counter && not (counter == own + 1)

-- A trade names another group, a forecast names 0, and there is no other kind.
abbrev pub lawful_head : ℕ → ℕ → ℕ → ℕ → Bool
lawful_head g own kind counter = (is_trade kind && names_other g own counter) || (is_forecast kind && counter == 0)

abbrev pub head_check : ℕ → ℕ → List ℕ → ℕ → Verdict
head_check g own s i = refuse_if (not (lawful_head g own (kind_at s i) (counter_at s i))) (UnlawfulHead (i + 1))

-- a series before i has the head of i
abbrev pub repeats : List ℕ → ℕ → Bool
repeats s i = is_some (first_of (head_is s (kind_at s i) (counter_at s i)) i)

-- of two equal heads the later is refused
abbrev pub once_check : List ℕ → ℕ → Verdict
once_check s i = refuse_if (repeats s i) (RepeatedHead (i + 1))

-- every head is lawful, and then none stands twice
abbrev pub heads_check : ℕ → ℕ → List ℕ → Verdict
heads_check g own s = result_and (each_of (head_check g own s) (series_count s)) (each_of (once_check s) (series_count s))

-- every head is lawful for one of the senders
abbrev pub HeadsLawful : ℕ → List ℕ → Type 0
HeadsLawful g s = (own : ℕ) × (each_of (head_check g own s) (series_count s) ≡ Ok tt)
