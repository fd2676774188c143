-- What follows once the heads of a message are lawful, and once none stands twice.
use Rattle.std.proofs.Common.{◌≡◌, ℕ, ◌+◌, ◌<◌, true, List, Some, None, Ok, sym, arith}
use Rattle.std.proofs.lemmas.Bool.{and_from, eq-eqb}
use Rattle.std.proofs.lemmas.Bool.Decides.{nat_tests}
use Rattle.forms.specs.Checks.{each_of}
use Rattle.forms.specs.Slots.{kind_of, counter_of, Within}
use Rattle.forms.specs.declared.fault.Fault.TheVariants.{UnlawfulHead, RepeatedHead}
use Rattle.forms.proofs.Firsts.{each_passed, passed_left, passed_right, unrefused, allowed}
use Rattle.message.specs.Form.{series_count, kind_at, counter_at, value_at}
use Rattle.message.specs.Read.{slot_under}
use Rattle.message.specs.Places.{first_of, head_is, place_under, place_of, stated}
use Rattle.message.specs.Heads.{lawful_head, head_check, repeats, once_check, heads_check}
use Rattle.message.proofs.Search.{none_from, first_found}
use Rattle.message.proofs.Stated.{about, value_found}

-- a lawful head is the kind and the counter of the slot that it is about, which is there
lawful_kind : (g own kind counter : ℕ) → lawful_head g own kind counter ≡ true → kind_of (slot_under kind counter) ≡ kind
lawful_kind g own kind counter h = grind (arith, nat_tests)

lawful_counter : (g own kind counter : ℕ) → lawful_head g own kind counter ≡ true → counter_of (slot_under kind counter) ≡ counter
lawful_counter g own kind counter h = grind (arith, nat_tests)

lawful_within : (g own kind counter : ℕ) → lawful_head g own kind counter ≡ true → Within g (slot_under kind counter)
lawful_within g own kind counter h = grind (arith, nat_tests)

module _ (g own : ℕ) (s : List ℕ) (lawful : each_of (head_check g own s) (series_count s) ≡ Ok tt) (i : ℕ) (there : i < series_count s) where
  pub head_lawful : lawful_head g own (kind_at s i) (counter_at s i) ≡ true
  head_lawful = allowed (lawful_head g own (kind_at s i) (counter_at s i)) (UnlawfulHead (i + 1)) (each_passed (head_check g own s) (series_count s) i lawful there)

  pub kind_about : kind_of (about s i) ≡ kind_at s i
  kind_about = lawful_kind g own (kind_at s i) (counter_at s i) head_lawful

  pub counter_about : counter_of (about s i) ≡ counter_at s i
  counter_about = lawful_counter g own (kind_at s i) (counter_at s i) head_lawful

  -- a series has the head of its slot
  pub about_head : head_is s (kind_of (about s i)) (counter_of (about s i)) i ≡ true
  about_head = and_from _ _ (eq-eqb _ _ (sym kind_about)) (eq-eqb _ _ (sym counter_about))

  -- which is there among the groups
  pub within : Within g (about s i)
  within = lawful_within g own (kind_at s i) (counter_at s i) head_lawful

module _ (g own : ℕ) (s : List ℕ) (passed : heads_check g own s ≡ Ok tt) where
  pub heads_lawful : each_of (head_check g own s) (series_count s) ≡ Ok tt
  heads_lawful = passed_left (each_of (head_check g own s) (series_count s)) (each_of (once_check s) (series_count s)) passed

  -- no series before i has its head
  pub none_before : (i : ℕ) → i < series_count s → first_of (head_is s (kind_at s i) (counter_at s i)) i ≡ None
  none_before i l =
      let p = passed_right (each_of (head_check g own s) (series_count s)) (each_of (once_check s) (series_count s)) passed in
      none_from (first_of (head_is s (kind_at s i) (counter_at s i)) i) (unrefused (repeats s i) (RepeatedHead (i + 1)) (each_passed (once_check s) (series_count s) i p l))

  -- so a series is the first that is about its slot
  about_first : (i : ℕ) → i < series_count s → first_of (head_is s (kind_of (about s i)) (counter_of (about s i))) i ≡ None
  about_first i l = rw (kind_about g own s heads_lawful i l, counter_about g own s heads_lawful i l) (none_before i l)

  pub place_about : (i : ℕ) → i < series_count s → place_of s (about s i) ≡ Some i
  unfolding place_under
  place_about i l = first_found (head_is s (kind_of (about s i)) (counter_of (about s i))) (series_count s) i l (about_first i l) (about_head g own s heads_lawful i l)

  -- and what the message states for its slot is its value
  pub stated_about : (q i t : ℕ) → i < series_count s → stated q s (about s i) t ≡ value_at q s i t
  stated_about q i t l = value_found q s (kind_of (about s i)) (counter_of (about s i)) i t (place_about i l)
