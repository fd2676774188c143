-- Nobody who sends messages can bend the account. The words: what a journal is and what is counted in it in Journals, the numbers
-- reckoned from it in Reckoned, a journal of a book in Books. docs/JOURNAL.md has each sentence beside its definition.
use Rattle.std.specs.Prelude.{◌≡◌, ℕ, ◌+◌, ◌-◌, ◌<◌, ◌≤◌, Bool, true, List, [], ◌∷◌, map, length, ℤ, pos, Ok, Result, IfOk}
use Rattle.std.specs.List.{range_with_len}
use Rattle.forms.specs.declared.fault.Fault.{Fault}
use Rattle.forms.specs.Calendar.{year_days, quarters}
use Rattle.forms.specs.Figures.{Terms, group_count}
use Rattle.forms.specs.Openings.{terms_of}
use Rattle.forms.specs.Slots.{out_to, in_from}
use Rattle.message.specs.Form.{said}
use Rattle.stage.specs.Laws.{Bounded, Monotone}
use Rattle.settlement.specs.Positions.{confirmed, net_purchases, no_farther, positions_by}
use Rattle.settlement.specs.Sums.{sumℤ}
use Rattle.journal.specs.Books.{JournalOf}
use Rattle.journal.specs.Journals.{Entry, submit, advance, close, position_asked, trade, standing, total, Journal, cut_offs, today, says}
use Rattle.journal.specs.Reckoned.{open_at, mark, stage, penalties, balance, row, count_beyond}
use Rattle.stage.specs.Rules.{Meaning}

-- an answer that is no refusal is this
abbrev pub Is : {A : Type 0} → Result A Fault → A → Type 0
Is answer value = IfOk answer (λ x. x ≡ value)

-- The newest answer is the number so reckoned; j is the journal before it.
abbrev pub Right : Meaning → Terms → Entry → Journal → Type 0
Right m terms (submit form sheet answer) j = Is answer (count_beyond terms (submit form sheet answer ∷ j) ((said form).group - 1))
Right m terms (advance sheet answer) j = Unit {0}
Right m terms (close form sheet rows answer) j = Is answer (map (row m terms (close form sheet rows answer ∷ j) (today j)) (range_with_len 0 (group_count terms)))
Right m terms (position_asked sheet group quarter answer) j = Is answer (positions_by terms (says j) (group - 1) (quarter - 1))
Right m terms (trade sheet from to quarter answer) j = Is answer (confirmed (says j) (quarter - 1) (from - 1) (to - 1))
Right m terms (standing group day answer) j = Is answer (mark terms j (group - 1) day, stage m terms j (group - 1) day)
Right m terms (total group answer) j = Is answer (penalties m terms j (group - 1), balance terms j (group - 1))

-- every answer is
abbrev pub AllRight : Meaning → Terms → Journal → Type 0
AllRight m terms [] = Unit {0}
AllRight m terms (e ∷ j) = Right m terms e j × AllRight m terms j

-- 1. Each answer that is no refusal is the number reckoned from the journal, whatever the rule.
abbrev pub Answers : List ℕ → Type 0
Answers form = (m : Meaning) (j : Journal) → JournalOf m form j → AllRight m (terms_of form) j

-- 2. The confirmed net purchases of all groups add to zero; no confirmed trade is above what either side last had accepted today.
abbrev pub Energy : List ℕ → Type 0
Energy form =
    (m : Meaning) (j : Journal) → JournalOf m form j → (t : ℕ) → t < quarters (today j)
    → (sumℤ (net_purchases (says j) (group_count (terms_of form)) t) (group_count (terms_of form)) ≡ pos 0)
    × ((a b : ℕ) → a < group_count (terms_of form) → b < group_count (terms_of form)
    → (confirmed (says j) t a b ≤ says j a (out_to b) t) × (confirmed (says j) t a b ≤ says j b (in_from a) t))

-- two rules that say the same of the marks of 1 day up to a year's, whatever their types
abbrev pub OneRule : Meaning → Meaning → Type 0
OneRule m n = (xs : List Bool) → 1 ≤ length xs → length xs ≤ year_days → m xs ≡ n xs

-- 3. A stage depends on the marked days alone, whatever the rule. Said of the reckoned stages, and of the stage that standing answers or would answer next.
abbrev pub MarksAlone : List ℕ → Type 0
MarksAlone form =
    (m n : Meaning) (j k : Journal) → OneRule m n → JournalOf m form j → JournalOf n form k
    → (a day : ℕ) → a < group_count (terms_of form) → 1 ≤ day → day ≤ cut_offs j → day ≤ cut_offs k
    → ((d : ℕ) → 1 ≤ d → d ≤ day → mark (terms_of form) j a d ≡ mark (terms_of form) k a d)
    → (stage m (terms_of form) j a day ≡ stage n (terms_of form) k a day)
    × ((x y : Bool × ℕ) → JournalOf m form (standing (a + 1) day (Ok x) ∷ j) → JournalOf n form (standing (a + 1) day (Ok y) ∷ k) → x.1 ≡ y.1)

-- The two laws of a lawful stage rule, over the marks of a year at most: no more than a year has days, and marking more of the same days never lowers it.
pub record Lawful (m : Meaning) : Type 0 where
  pub bounded : Bounded m
  pub monotone : Monotone m

-- at each cut-off, in each quarter hour, group a's confirmed open position is at least as far from zero in the second journal
abbrev pub FartherAtCutOffs : Terms → Journal → Journal → ℕ → Type 0
FartherAtCutOffs terms j k a = (day t : ℕ) → 1 ≤ day → day ≤ cut_offs j → t < quarters day → no_farther (open_at terms j a day t) (open_at terms k a day t) ≡ true

-- 4. Under a lawful rule, standing farther out never costs less, in stages and penalties; balance amounts go by prices and are not meant.
-- Said of the reckoned ones, and of those that standing and total answer or would answer next.
abbrev pub FartherNoCheaper : List ℕ → Type 0
FartherNoCheaper form =
    (m n : Meaning) (j k : Journal) → Lawful m → OneRule m n → JournalOf m form j → JournalOf n form k
    → cut_offs j ≡ cut_offs k → (a : ℕ) → a < group_count (terms_of form)
    → FartherAtCutOffs (terms_of form) j k a
    → ((day : ℕ) → 1 ≤ day → day ≤ cut_offs j
    → (stage m (terms_of form) j a day ≤ stage n (terms_of form) k a day)
    × ((x y : Bool × ℕ) → JournalOf m form (standing (a + 1) day (Ok x) ∷ j) → JournalOf n form (standing (a + 1) day (Ok y) ∷ k) → x.1 ≤ y.1))
    × (penalties m (terms_of form) j a ≤ penalties n (terms_of form) k a)
    × ((x y : ℕ × ℤ) → JournalOf m form (total (a + 1) (Ok x) ∷ j) → JournalOf n form (total (a + 1) (Ok y) ∷ k) → x.0 ≤ y.0)

-- 5. Asked next, standing and total answer: of each day past its cut-off the reckoned mark and stage, and the reckoned penalties and balance.
abbrev pub AskedNext : List ℕ → Type 0
AskedNext form =
    (m : Meaning) (j : Journal) → JournalOf m form j → (a : ℕ) → a < group_count (terms_of form)
    → ((day : ℕ) → 1 ≤ day → day ≤ cut_offs j → JournalOf m form (standing (a + 1) day (Ok (mark (terms_of form) j a day, stage m (terms_of form) j a day)) ∷ j))
    × JournalOf m form (total (a + 1) (Ok (penalties m (terms_of form) j a, balance (terms_of form) j a)) ∷ j)

-- the whole, of every opening form
abbrev pub JournalsAreSound : Type 0
JournalsAreSound = (form : List ℕ) → Answers form × Energy form × MarksAlone form × FartherNoCheaper form × AskedNext form
