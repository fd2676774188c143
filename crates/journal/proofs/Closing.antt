-- An accepted close.
use Rattle.std.proofs.Common.{◌≡◌, ℕ, ◌+◌, ◌-◌, ◌/◌, ◌<◌, Bool, false, List, ◌∷◌, length, get_or, replicate, ◌+ℤ◌, Ok, sym, refl, ap, ◌∙◌, inl, inr, arith}
use Rattle.std.proofs.lemmas.List.FromFn.{get_or-map-range_with_len}
use Rattle.std.proofs.lemmas.List.{get_or-replicate, get_or_past, length-replicate}
use Rattle.std.proofs.lemmas.Bool.{cases_lt}
use Rattle.forms.specs.Calendar.{quarters}
use Rattle.forms.specs.Closings.{feed_in, long_price, short_price}
use Rattle.forms.specs.Slots.{Slot}
use Rattle.settlement.specs.declared.phase.Phase.TheVariants.{After}
use Rattle.settlement.specs.Amounts.{balance_amount, to_cents}
use Rattle.settlement.specs.Sheets.{slot_place}
use Rattle.settlement.proofs.Agreement.{day_cost_same}
use Rattle.settlement.proofs.Places.{on_sheet_unsent}
use Rattle.book.specs.Closes.{balance_today, closed_group, day_closed}
use Rattle.book.specs.Rows.{Row}
use Rattle.book.specs.States.{State, nothing_kept, size, kept, day_quarters, statements}
use Rattle.book.specs.Sheets.{all_flags}
use Rattle.journal.specs.Journals.{Entry, close, Journal, advanced_here, closed_here, advances, closes, cut_offs, today, before, says, last_message}
use Rattle.journal.specs.Reckoned.{balance_on, balance}
use Rattle.stage.specs.Rules.{Meaning}
use Rattle.journal.proofs.Advancing.{ahead_not_after}
use Rattle.journal.proofs.Counting.{one_more, no_more, before_now, form_now}
use Rattle.journal.proofs.Keeping.{Keeps, advances_in, marks_still, penalties_still, balance_more}

-- none of the flags is set
pub unset : (n i : ℕ) → get_or (replicate n false) i false ≡ false
unset n i =
    elim (cases_lt i n) [
      | inl l ↦ get_or-replicate n i false false l
      | inr l ↦ get_or_past (replicate n false) i false (omega (arith, length-replicate {A = Bool} n false))
    ]

module _ (m : Meaning) (s : State) (w form : List ℕ) (j : Journal) (given : List ℕ) (count : ℕ) (rows : List Row) (k : Keeps m j s w) (p : s.phase ≡ After) where
  abbrev e : Entry
  e = close form given count (Ok rows)

  one_close : closes (e ∷ j) ≡ closes j + 1
  one_close = one_more closed_here e j refl

  same_advances : advances (e ∷ j) ≡ advances j
  same_advances = no_more advanced_here e j refl

  -- nothing is said of the new day
  said_nothing : (a : ℕ) (slot : Slot) (t : ℕ) → says (e ∷ j) a slot t ≡ 0
  unfolding says last_message
  said_nothing a slot t = refl

  -- the balance amount as the book finds it is the one reckoned
  pub balance_found : (a : ℕ) → a < size s → balance_today s w form a ≡ balance_on s.terms (e ∷ j) a (closes j + 1)
  unfolding balance_today balance_on
  balance_found a l =
      let g = size s in
      let q : day_quarters s ≡ quarters (today j) = ap (λ n. quarters (n + 1)) k.closed in
      let part : before closed_here (closes j + 1 - 1) (e ∷ j) ≡ j = before_now closed_here e j (closes j + 1 - 1) refl (omega arith) in
      let told = form_now e j (closes j + 1) refl (omega arith) in
      ap to_cents (day_cost_same g (statements s w) (says j) a (feed_in (day_quarters s) form a) (long_price g (day_quarters s) form) (short_price g (day_quarters s) form) (day_quarters s)
      (λ t b. k.agree t (omega (arith, q))) l)
      ∙ (λ i. balance_amount (says (sym part i)) g a (feed_in (q i) (sym told i) a) (long_price g (q i) (sym told i)) (short_price g (q i) (sym told i)) (q i))

  group_after : (a : ℕ) → a < size s → kept (day_closed s (balance_today s w form)) a ≡ closed_group s (balance_today s w form) a
  unfolding day_closed
  group_after a l = get_or-map-range_with_len (closed_group s (balance_today s w form)) 0 (size s) a a nothing_kept l (omega arith)

  marks_there : (a : ℕ) → (closed_group s (balance_today s w form) a).marks ≡ (kept s a).marks
  unfolding closed_group
  marks_there a = refl

  owed_there : (a : ℕ) → (closed_group s (balance_today s w form) a).penalties ≡ (kept s a).penalties
  unfolding closed_group
  owed_there a = refl

  settled_there : (a : ℕ) → a < size s → (closed_group s (balance_today s w form) a).balance ≡ balance s.terms (e ∷ j) a
  unfolding closed_group
  settled_there a l =
      let x = k.settled a l in
      let y = balance_found a l in
      (λ i. x i +ℤ y i) ∙ sym (balance_more s.terms e j a one_close)

  nothing_stated : (left : List ℕ) (a : ℕ) (slot : Slot) (t : ℕ) → statements (day_closed s (balance_today s w form)) left a slot t ≡ 0
  unfolding day_closed
  nothing_stated left a slot t = on_sheet_unsent (size s) (replicate all_flags false) left a slot t (unset all_flags (slot_place (size s) a slot))

  pub keeps_close : (left : List ℕ) → length left ≡ length w → Keeps m (e ∷ j) (day_closed s (balance_today s w form)) left
  unfolding day_closed
  keeps_close left long =
      let c = one_close in
      let v = same_advances in
      let o : cut_offs (e ∷ j) ≡ cut_offs j = ap (λ n. n / 2) v in
      record {
        closed = ap (λ n. n + 1) k.closed ∙ sym c;
        advanced = omega (arith, c, v, k.advanced, ap advances_in p);
        year = omega (arith, o, k.year);
        room = long ∙ k.room;
        few = k.few;
        flags = omega (arith, k.few, length-replicate {A = Bool} all_flags false);
        agree = λ t l a slot b d. nothing_stated left a slot t ∙ sym (said_nothing a slot t);
        marks = λ a l. ap (λ x. x.marks) (group_after a l) ∙ marks_there a ∙ k.marks a l ∙ marks_still s.terms e j a o;
        due = λ a l q. absurd (ahead_not_after q);
        owed = λ a l. ap (λ x. x.penalties) (group_after a l) ∙ owed_there a ∙ k.owed a l ∙ penalties_still s.terms e j a m o;
        settled = λ a l. ap (λ x. x.balance) (group_after a l) ∙ settled_there a l;
      }
