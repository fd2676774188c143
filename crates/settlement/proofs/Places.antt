-- A place among all slots names one group and one slot of it.
use Rattle.std.proofs.Common.{◌≡◌, ℕ, ◌+◌, ◌*◌, ◌/◌, ◌%◌, ◌<◌, min, Bool, true, false, List, get_or, sym, refl, ap, ◌∙◌, arith}
use Rattle.std.proofs.lemmas.Nat.{mul-add-lt, div-mul-add, mod-mul-add}
use Rattle.forms.specs.Slots.{Slot, out_to, in_from, slots, slot_number, slot_at, Within}
use Rattle.forms.proofs.SlotNumbers.{number_below, slot_again}
use Rattle.settlement.specs.Positions.{confirmed}
use Rattle.settlement.specs.Sheets.{words_per_slot, slot_place, SlotsApart, on_sheet}

pub place_below : (g a : ℕ) (s : Slot) → a < g → Within g s → slot_place g a s < g * slots g
place_below g a s l h = omega (arith, mul-add-lt a (slots g) (slot_number g s) g l (number_below g s h))

pub slots_apart : SlotsApart
slots_apart g a b r s h k e =
    let w = slots g in
    let m = number_below g r h in
    let n = number_below g s k in (
      sym (div-mul-add a w (slot_number g r) m) ∙ ap (λ p. p / w) e ∙ div-mul-add b w (slot_number g s) n,
      sym (slot_again g r h)
          ∙ ap (slot_at g) (sym (mod-mul-add a w (slot_number g r) m) ∙ ap (λ p. p % w) e ∙ mod-mul-add b w (slot_number g s) n)
          ∙ slot_again g s k,
    )

-- a slot that was sent is read, and one that was not counts as zero
pub on_sheet_sent : (g : ℕ) (sent : List Bool) (words : List ℕ) (a : ℕ) (s : Slot) (t : ℕ) → get_or sent (slot_place g a s) false ≡ true
    → on_sheet g sent words a s t ≡ get_or words (slot_place g a s * words_per_slot + t) 0
unfolding on_sheet
on_sheet_sent g sent words a s t e = rw e refl

pub on_sheet_unsent : (g : ℕ) (sent : List Bool) (words : List ℕ) (a : ℕ) (s : Slot) (t : ℕ) → get_or sent (slot_place g a s) false ≡ false
    → on_sheet g sent words a s t ≡ 0
unfolding on_sheet
on_sheet_unsent g sent words a s t e = rw e refl

-- the same at a place that is the slot's
module _ (g : ℕ) (sent : List Bool) (words : List ℕ) (a : ℕ) (s : Slot) (t p : ℕ) (at : p ≡ slot_place g a s) where
  pub sent_at : get_or sent p false ≡ true → get_or words (p * words_per_slot + t) 0 ≡ on_sheet g sent words a s t
  sent_at e =
      ap (λ q. get_or words (q * words_per_slot + t) 0) at
      ∙ sym (on_sheet_sent g sent words a s t (ap (λ q. get_or sent q false) (sym at) ∙ e))

  pub unsent_at : get_or sent p false ≡ false → on_sheet g sent words a s t ≡ 0
  unsent_at e = on_sheet_unsent g sent words a s t (ap (λ q. get_or sent q false) (sym at) ∙ e)

-- a confirmed trade where both sides have sent theirs, and where one has not
module _ (g : ℕ) (sent : List Bool) (words : List ℕ) (t a b p q : ℕ) (out : p ≡ slot_place g a (out_to b)) (into : q ≡ slot_place g b (in_from a)) where
  pub confirmed_at : get_or sent p false ≡ true → get_or sent q false ≡ true
      → min (get_or words (p * words_per_slot + t) 0) (get_or words (q * words_per_slot + t) 0) ≡ confirmed (on_sheet g sent words) t a b
  unfolding confirmed
  confirmed_at e f = λ j. min (sent_at g sent words a (out_to b) t p out e j) (sent_at g sent words b (in_from a) t q into f j)

  pub no_out_at : get_or sent p false ≡ false → confirmed (on_sheet g sent words) t a b ≡ 0
  unfolding confirmed
  no_out_at e = let none = unsent_at g sent words a (out_to b) t p out e in omega arith

  pub no_in_at : get_or sent q false ≡ false → confirmed (on_sheet g sent words) t a b ≡ 0
  unfolding confirmed
  no_in_at e = let none = unsent_at g sent words b (in_from a) t q into e in omega arith
