-- The series that is found under a head or for a slot, and what the message states there.
use Rattle.std.proofs.Common.{◌≡◌, ℕ, true, false, eqb, List, Some, None, refl, ap, ◌∙◌, add-sub_cancel}
use Rattle.std.proofs.lemmas.Bool.{and_parts, eqb-true}
use Rattle.forms.specs.Slots.{Slot, out_to, in_from, cons, prod, pump, kind_of, counter_of}
use Rattle.message.specs.Form.{kind_at, counter_at, value_at}
use Rattle.message.specs.Read.{slot_under}
use Rattle.message.specs.Places.{head_is, place_of, place_under, sent_in, stated, value_under}
use Rattle.message.proofs.Search.{none_from}

-- what series i of a message is about
abbrev pub about : List ℕ → ℕ → Slot
about s i = slot_under (kind_at s i) (counter_at s i)

pub value_found : (q : ℕ) (s : List ℕ) (kind counter i t : ℕ) → place_under s kind counter ≡ Some i → value_under q s kind counter t ≡ value_at q s i t
unfolding value_under
value_found q s kind counter i t e = rw e refl

pub value_missing : (q : ℕ) (s : List ℕ) (kind counter t : ℕ) → place_under s kind counter ≡ None → value_under q s kind counter t ≡ 0
unfolding value_under
value_missing q s kind counter t e = rw e refl

pub stated_unsent : (q : ℕ) (s : List ℕ) (slot : Slot) (t : ℕ) → sent_in s slot ≡ false → stated q s slot t ≡ 0
stated_unsent q s slot t e = value_missing q s (kind_of slot) (counter_of slot) t (none_from (place_of s slot) e)

-- a slot is what its own kind and counter are about
slot_from_head : (slot : Slot) → slot_under (kind_of slot) (counter_of slot) ≡ slot
slot_from_head (out_to b) = ap out_to (add-sub_cancel b 1)
slot_from_head (in_from b) = ap in_from (add-sub_cancel b 1)
slot_from_head cons = refl
slot_from_head prod = refl
slot_from_head pump = refl

-- a series with the head of a slot is about it
pub head_about : (s : List ℕ) (slot : Slot) (i : ℕ) → head_is s (kind_of slot) (counter_of slot) i ≡ true → about s i ≡ slot
head_about s slot i e =
    let p = and_parts (eqb (kind_at s i) (kind_of slot)) (eqb (counter_at s i) (counter_of slot)) e in
    (λ j. slot_under (eqb-true _ _ p.0 j) (eqb-true _ _ p.1 j)) ∙ slot_from_head slot
