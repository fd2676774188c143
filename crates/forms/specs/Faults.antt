-- What a refusal says of each fault: its level, its number, and the series and the quarter hour, from 1, or 0 where none applies.
use Rattle.std.specs.Prelude.{ℕ, List, ◌++◌, codes, decimal}
use Rattle.forms.specs.declared.fault.Level.{Level}
use Rattle.forms.specs.declared.fault.Level.TheVariants.{Book, Message, Series, Interval}
use Rattle.forms.specs.declared.fault.Notice.{Notice}
use Rattle.forms.specs.declared.fault.Fault.{Fault}
use Rattle.forms.specs.declared.fault.Fault.TheVariants.{ShortForm, WrongSize, WrongLength, WrongPhase, WrongBuffer, WrongGroup, WrongDay, WrongVersion, UnlawfulHead, RepeatedHead, MissingSeries, OutOfRange, UnmeteredForecast, OpposedTrades, GrowingPosition, UnlawfulGroup, UnlawfulTariff}

abbrev of_book : ℕ → Notice
of_book number = record { level = Book; number = number; series = 0; quarter = 0 }

abbrev of_message : ℕ → Notice
of_message number = record { level = Message; number = number; series = 0; quarter = 0 }

abbrev of_series : ℕ → ℕ → Notice
of_series number series = record { level = Series; number = number; series = series; quarter = 0 }

abbrev of_interval : ℕ → ℕ → ℕ → Notice
of_interval number series quarter = record { level = Interval; number = number; series = series; quarter = quarter }

abbrev pub notice_of : Fault → Notice
notice_of ShortForm = of_message 1
notice_of WrongSize = of_message 2
notice_of WrongLength = of_message 3
notice_of WrongPhase = of_book 4
notice_of WrongBuffer = of_book 5
notice_of WrongGroup = of_message 6
notice_of WrongDay = of_message 7
notice_of WrongVersion = of_message 8
notice_of (UnlawfulHead series) = of_series 9 series
notice_of (RepeatedHead series) = of_series 10 series
notice_of MissingSeries = of_message 11
notice_of (OutOfRange series quarter) = of_interval 12 series quarter
notice_of (UnmeteredForecast series quarter) = of_interval 13 series quarter
notice_of (OpposedTrades series quarter) = of_interval 14 series quarter
notice_of (GrowingPosition quarter) = of_interval 15 0 quarter
notice_of (UnlawfulGroup group) = of_series 16 group
notice_of (UnlawfulTariff place) = of_series 17 place

abbrev pub letter_of : Level → List ℕ
letter_of Book = codes "B"
letter_of Message = codes "M"
letter_of Series = codes "S"
letter_of Interval = codes "I"

-- the four fields with one blank between, as M 3 0 0
abbrev pub shown_of : Notice → List ℕ
shown_of n = letter_of n.level ++ (codes " " ++ (decimal n.number ++ (codes " " ++ (decimal n.series ++ (codes " " ++ decimal n.quarter)))))
