-- Whether a message moves its group farther out, by check values.
use Rattle.std.proofs.Common.{◌≡◌, ℕ, ◌<◌, Bool, false, Ok, ap, not, ◌&&◌, ltb, List, ℤ, sym, ◌∙◌}
use Rattle.forms.specs.Figures.{GroupFigures}
use Rattle.settlement.specs.declared.phase.Phase.TheVariants.{After}
use Rattle.forms.proofs.Firsts.{each_all}
use Rattle.message.proofs.Passes.{refuse_none}
use Rattle.settlement.specs.Positions.{beyond_by, stated_check, stated_open, open_position, excess, no_farther}
use Rattle.settlement.specs.Sheets.{on_sheet}
use Rattle.book.specs.Messages.{by_message, grows_at, grown_at, each_growth}
use Rattle.book.specs.States.{State, size, figures, day_quarters, statements}

module _ (s : State) (sheet form : List ℕ) (own t : ℕ) where
  -- the check value that the sheet has, as it is read, and that the message states
  pub last_known : (g : ℕ) (sent : List Bool) (words : List ℕ) (z : ℤ) → g ≡ size s → sent ≡ s.sent → words ≡ sheet
      → z ≡ stated_check (on_sheet g sent words) g t own → z ≡ stated_check (statements s sheet) (size s) t own
  last_known g sent words z p q r e = e ∙ (λ j. stated_check (on_sheet (p j) (q j) (r j)) (p j) t own)

  pub next_known : (q g : ℕ) (z : ℤ) → q ≡ day_quarters s → g ≡ size s
      → z ≡ stated_check (by_message own q form) g t own → z ≡ stated_check (by_message own (day_quarters s) form) (size s) t own
  next_known q g z p r e = e ∙ (λ j. stated_check (by_message own (p j) form) (r j) t own)

  pub grows_known : (f : GroupFigures) (next last : ℤ) (r : Bool)
      → r ≡ (ltb 0 (excess f After (open_position f next)) && not (no_farther (open_position f next) (open_position f last)))
      → f ≡ figures s own → next ≡ stated_check (by_message own (day_quarters s) form) (size s) t own → last ≡ stated_check (statements s sheet) (size s) t own
      → r ≡ grows_at s sheet own form t
  unfolding grows_at stated_open
  grows_known f next last r e p m n =
      e ∙ (λ j. ltb 0 (excess (p j) After (open_position (p j) (m j))) && not (no_farther (open_position (p j) (m j)) (open_position (p j) (n j))))

-- a message that states no open position beyond the limit moves its group nowhere
pub none_grows : (s : State) (sheet form : List ℕ) (own q : ℕ) → q ≡ day_quarters s
    → ((t : ℕ) → t < day_quarters s → beyond_by s.terms (by_message own q form) After own t ≡ false)
    → each_growth s sheet own form (day_quarters s) ≡ Ok tt
unfolding grows_at
none_grows s sheet form own q p none =
    each_all (grown_at s sheet own form) (day_quarters s)
    (λ t l.
    let e = ap (λ n. beyond_by s.terms (by_message own n form) After own t) (sym p) ∙ none t l in
    refuse_none _ _ (ap (λ b. b && not (no_farther (stated_open (by_message own (day_quarters s) form) (figures s own) (size s) t own) (stated_open (statements s sheet) (figures s own) (size s) t own))) e))
