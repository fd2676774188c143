-- What an accepted message leaves: the sender's series on the sheet are those of the message.
use Rattle.std.proofs.Common.{◌≡◌, ℕ, zero, suc, ◌+◌, ◌*◌, ◌<◌, ◌≤◌, Bool, false, cond, eqb, ltb, List, length, get_or, pos, ◌-ℤ◌, Some, None, sym, refl, ap, ◌∙◌, inl, inr, arith}
use Rattle.std.specs.Option.{option_map, option_or}
use Rattle.std.proofs.lemmas.List.FromFn.{get_or-map-range_with_len}
use Rattle.std.proofs.lemmas.Bool.{cases_Bool}
use Rattle.forms.specs.Figures.{GroupFigures}
use Rattle.forms.specs.Slots.{Slot, out_to, in_from, cons, kind_of, counter_of, Within, slots, slot_number}
use Rattle.message.specs.Places.{first_of, place_of, sent_in, stated}
use Rattle.message.proofs.Search.{none_from}
use Rattle.message.proofs.Stated.{value_missing}
use Rattle.settlement.specs.Positions.{stated_with, stated_open, excess}
use Rattle.settlement.specs.Sheets.{Statements, slot_place, sheet_size, on_sheet}
use Rattle.forms.proofs.SlotNumbers.{number_below, slot_again}
use Rattle.settlement.proofs.Places.{place_below, on_sheet_sent, on_sheet_unsent}
use Rattle.settlement.proofs.Sums.{sumℤ-same}
use Rattle.settlement.specs.Sums.{sumℕ}
use Rattle.book.specs.Messages.{sent_after, word_after, sheet_after, flags_after, by_message, state_with, beyond_now, beyond_at}
use Rattle.book.specs.States.{State, size, figures, today, day_quarters}
use Rattle.book.specs.Tallies.{count_where, tally}
use Rattle.book.proofs.Days.{quarters_fit}
use Rattle.book.proofs.ByMessage.{by_sender}
use Rattle.book.proofs.Laying.{word_own}
use Rattle.book.proofs.Flagging.{flag_own}

-- a slot that the message does not have states 0
missing_zero : (q : ℕ) (form : List ℕ) (s : Slot) (t : ℕ) → sent_in form s ≡ false → stated q form s t ≡ 0
missing_zero q form s t e = value_missing q form (kind_of s) (counter_of s) t (none_from (place_of form s) e)

module _ (g q own : ℕ) (form sheet : List ℕ) (sent : List Bool) (mine : own < g) (fits : q ≤ 96) (room : length sheet ≡ sheet_size g) (flags : g * slots g ≤ length sent) where
  -- the sender's statements on the sheet afterwards
  pub own_statements : (s : Slot) (t : ℕ) → Within g s → t < q
      → on_sheet g (flags_after g own form sent) (sheet_after g q own form sheet) own s t ≡ stated q form s t
  unfolding flags_after sheet_after
  own_statements s t w l =
      let n = slot_number g s in
      let below = number_below g s w in
      let place = slot_place g own s in
      let placed = place_below g own s mine w in
      let flag : get_or (flags_after g own form sent) place false ≡ sent_in form s =
      get_or-map-range_with_len (sent_after g own form sent) 0 (length sent) place place false (omega arith) (omega arith)
      ∙ flag_own g own form sent n place below refl ∙ ap (sent_in form) (slot_again g s w) in
      elim (cases_Bool (sent_in form s)) [
        | inl there ↦
            on_sheet_sent g (flags_after g own form sent) (sheet_after g q own form sheet) own s t (flag ∙ there)
            ∙ get_or-map-range_with_len (word_after g q own form sheet) 0 (length sheet) (place * 96 + t) (place * 96 + t) 0 (omega arith) (omega arith)
            ∙ word_own g q own form sheet n below (place * 96 + t) t (omega arith) (omega arith) l (ap (sent_in form) (slot_again g s w) ∙ there)
            ∙ ap (λ z. stated q form z t) (slot_again g s w)
        | inr absent ↦ on_sheet_unsent g (flags_after g own form sent) (sheet_after g q own form sheet) own s t (flag ∙ absent) ∙ sym (missing_zero q form s t absent)
      ]

-- an open position as stated depends on the group's own statements alone
pub stated_open_own : (S R : Statements) (f : GroupFigures) (g t a : ℕ) → ((s : Slot) → Within g s → S a s t ≡ R a s t) → stated_open S f g t a ≡ stated_open R f g t a
unfolding stated_open stated_with
stated_open_own S R f g t a h =
    let trades = sumℤ-same
    (λ b. cond (eqb b a) (pos 0) (pos (S a (in_from b) t) -ℤ pos (S a (out_to b) t)))
    (λ b. cond (eqb b a) (pos 0) (pos (R a (in_from b) t) -ℤ pos (R a (out_to b) t))) g
    (λ b l. let p = h (in_from b) l in let r = h (out_to b) l in λ j. cond (eqb b a) (pos 0) (pos (p j) -ℤ pos (r j))) in
    let c = h cons tt in
    rw (trades, c) refl

-- tests that agree below n count alike and have the same first place, and so the same tally
count_same : (p r : ℕ → Bool) (n : ℕ) → ((k : ℕ) → k < n → p k ≡ r k) → count_where p n ≡ count_where r n
unfolding count_where sumℕ
count_same p r zero h = refl
count_same p r (suc n) h = let e = count_same p r n (λ k l. h k (omega arith)) in let x = h n (omega arith) in λ j. e j + cond (x j) 1 0

first_same : (p r : ℕ → Bool) (n : ℕ) → ((k : ℕ) → k < n → p k ≡ r k) → first_of p n ≡ first_of r n
unfolding first_of
first_same p r zero h = refl
first_same p r (suc n) h = let e = first_same p r n (λ k l. h k (omega arith)) in let x = h n (omega arith) in λ j. option_or (e j) (cond (x j) (Some n) None)

pub tally_same : (p r : ℕ → Bool) (n : ℕ) → ((k : ℕ) → k < n → p k ≡ r k) → tally p n ≡ tally r n
tally_same p r n h = let c = count_same p r n h in let f = first_same p r n h in λ j. (c j, option_map (λ k. k + 1) (f j))

-- the quarter hours beyond the limit, by the sheet afterwards and by the message
pub beyond_same : (s : State) (own version : ℕ) (form sheet : List ℕ) → own < size s → length sheet ≡ sheet_size (size s) → size s * slots (size s) ≤ length s.sent
    → (t : ℕ) → t < day_quarters s → beyond_now (state_with s own version form) (sheet_after (size s) (day_quarters s) own form sheet) own t ≡ beyond_at s own form t
unfolding beyond_now
beyond_same s own version form sheet mine room flags t l =
    ap (λ o. ltb 0 (excess (figures s own) s.phase o))
    (stated_open_own (on_sheet (size s) (flags_after (size s) own form s.sent) (sheet_after (size s) (day_quarters s) own form sheet)) (by_message own (day_quarters s) form)
    (figures s own) (size s) t own
    (λ slot w. own_statements (size s) (day_quarters s) own form sheet s.sent mine (quarters_fit (today s)) room flags slot t w l ∙ sym (by_sender own (day_quarters s) form slot t)))
