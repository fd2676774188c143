-- The book's own places of the ledger's arrays.
use Rattle.std.proofs.Common.{◌≡◌, ℕ, ◌*◌, ◌<◌, ◌≤◌, ◌++◌, List, map, length, get_or, set, replicate, sym, ap, ◌∙◌, subst, inl, inr, arith}
use Rattle.std.proofs.lemmas.List.{map-set, get_or-map, get_or-take, get_or_past, get_or-set_same, get_or-set_other, same_lists, length-set, get_or-replicate, length-append, length-map, length-replicate, length-take-le, set-append_left}
use Rattle.std.proofs.lemmas.Bool.{cases_eq, cases_lt}
use Rattle.forms.proofs.Writes.{set_keeps}
use Rattle.book.specs.declared.group_account.GroupAccount.{GroupAccount}
use Rattle.book.specs.Kept.{days_in, penalties_in, balance_in, most_penalty, most_balance}
use Rattle.book.specs.States.{GroupState, account_of, own_accounts}

-- the account of one of the g groups
pub account_at : (g : ℕ) (xs : List GroupAccount) (a : ℕ) (e : GroupAccount) (d : GroupState) → a < g → g ≤ length xs
    → get_or (own_accounts g xs) a d ≡ account_of (get_or xs a e)
unfolding own_accounts
account_at g xs a e d l h = get_or-take g (map account_of xs) a d l ∙ get_or-map account_of xs a e d (omega arith)

pub length_own : (g : ℕ) (xs : List GroupAccount) → g ≤ length xs → length (own_accounts g xs) ≡ g
unfolding own_accounts
length_own g xs h = length-take-le g (map account_of xs) (omega (arith, length-map xs account_of))

-- zero everywhere
pub get_or_zeros : (n k : ℕ) → get_or {A = ℕ} (replicate n 0) k 0 ≡ 0
get_or_zeros n k =
    elim (cases_lt k n) [
      | inl l ↦ get_or-replicate n k 0 0 l
      | inr l ↦ get_or_past (replicate n 0) k 0 (omega (arith, length-replicate {A = ℕ} n 0))
    ]

-- a bound on a figure of every account holds of one of them, and is kept where one is written within it
pub bounded_at : (f : GroupAccount → ℕ) (xs : List GroupAccount) (a : ℕ) (e : GroupAccount) (b : ℕ) → a < length xs
    → ((k : ℕ) → get_or (map f xs) k 0 ≤ b) → f (get_or xs a e) ≤ b
bounded_at f xs a e b l h = omega (arith, get_or-map f xs a e 0 l, h a)

pub bounded_set : (f : GroupAccount → ℕ) (xs : List GroupAccount) (i : ℕ) (v : GroupAccount) (b : ℕ) → i < length xs → f v ≤ b
    → ((k : ℕ) → get_or (map f xs) k 0 ≤ b) → (k : ℕ) → get_or (map f (set xs i v)) k 0 ≤ b
bounded_set f xs i v b l p h k =
    let kept = set_keeps (λ (n : ℕ). n ≤ b) (map f xs) i (f v) 0 (omega (arith, length-map xs f)) p h k in
    omega (arith, kept, ap (λ ys. get_or ys k 0) (map-set f xs i v))

-- no account is past so many cut-offs and so many closed days
abbrev pub Within : ℕ → ℕ → List GroupAccount → Type 0
Within cuts closed xs =
    ((k : ℕ) → get_or (map days_in xs) k 0 ≤ cuts)
    × ((k : ℕ) → get_or (map penalties_in xs) k 0 ≤ cuts * most_penalty)
    × ((k : ℕ) → get_or (map balance_in xs) k 0 ≤ closed * most_balance)

pub within_set : (cuts closed : ℕ) (xs ys : List GroupAccount) (i : ℕ) (v : GroupAccount) → i < length xs
    → days_in v ≤ cuts → penalties_in v ≤ cuts * most_penalty → balance_in v ≤ closed * most_balance
    → Within cuts closed (xs ++ ys) → Within cuts closed (set xs i v ++ ys)
within_set cuts closed xs ys i v l d p b h =
    let below : i < length (xs ++ ys) = omega (arith, length-append xs ys) in
    subst (Within cuts closed) (set-append_left xs ys i v l) (
      bounded_set days_in (xs ++ ys) i v _ below d h.0,
      bounded_set penalties_in (xs ++ ys) i v _ below p h.1,
      bounded_set balance_in (xs ++ ys) i v _ below b h.2,
    )

-- one account written
pub own_set : (g : ℕ) (xs : List GroupAccount) (a : ℕ) (v : GroupAccount) → a < g → g ≤ length xs
    → own_accounts g (set xs a v) ≡ set (own_accounts g xs) a (account_of v)
own_set g xs a v l h =
    let long : g ≤ length (set xs a v) = omega (arith, length-set xs a v) in
    same_lists (own_accounts g (set xs a v)) (set (own_accounts g xs) a (account_of v))
    (length_own g (set xs a v) long ∙ sym (length-set (own_accounts g xs) a (account_of v) ∙ length_own g xs h))
    (λ k d m.
    let below : k < g = omega (arith, length_own g (set xs a v) long) in
    account_at g (set xs a v) k v d below long
    ∙ elim (cases_eq k a) [
      | inl e ↦
          ap (λ j. account_of (get_or (set xs a v) j v)) e ∙ ap account_of (get_or-set_same xs a v v (omega arith))
          ∙ sym (get_or-set_same (own_accounts g xs) a (account_of v) d (omega (arith, length_own g xs h))) ∙ ap (λ j. get_or (set (own_accounts g xs) a (account_of v)) j d) (sym e)
      | inr f ↦
          ap account_of (get_or-set_other xs a k v v f) ∙ sym (account_at g xs k v d below h)
          ∙ sym (get_or-set_other (own_accounts g xs) a k (account_of v) d f)
    ])
