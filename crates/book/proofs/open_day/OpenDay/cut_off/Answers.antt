use Rattle.std.proofs.Common.{◌≡◌, ℕ, ◌+◌, ◌<◌, ◌++◌, Bool, List, length, map, take, drop, sym, refl, nat_abs, ap, ◌∙◌, subst, arith}
use Rattle.std.proofs.Math.Seq.{length_front}
use Rattle.std.proofs.lemmas.List.{length-take-le, take-map, take-append-le, take-append-drop}
use Rattle.forms.proofs.Writes.{written_more, written_all}
use Rattle.stage.proofs.MarkLists.{length_marks}
use Rattle.settlement.specs.declared.phase.Phase.TheVariants.{After}
use Rattle.settlement.specs.Positions.{day_excess}
use Rattle.settlement.specs.Sheets.{on_sheet}
use Rattle.book.specs.Cuts.{charged, excess_today, past_cut_off, cut_off}
use Rattle.book.specs.Kept.{cut_offs}
use Rattle.book.specs.States.{State, state_of, size, account_of, own_accounts}
use Rattle.book.proofs.Accounts.{Within, within_set}
use Rattle.book.proofs.open_day.OpenDay.cut_off.Goals as goal

pub loop-a-init : goal.loop-a-init
loop-a-init g c =
    let l = c.args.self.now.ledger.now in
    let near = ap (cut_offs l.closed) c.requires.0 in
    let whole = (λ j. take (c.groups.ensures.value j) l.accounts ++ drop (size (state_of l)) l.accounts) ∙ take-append-drop (size (state_of l)) l.accounts in (
      refl,
      subst (Within (l.closed + 1) l.closed) (sym whole) (λ k. omega (arith, l.marked k, near), λ k. omega (arith, l.owed k, near), l.settled),
    )

pub charged-requires-clause-room : goal.charged-requires-clause-room
charged-requires-clause-room g c =
    let near = ap (cut_offs c.args.self.now.ledger.now.closed) c.requires.0 in (
      omega (arith, length_marks c.account.result.marks, c.account.ensures.days, near, c.requires.1),
      omega (arith, c.account.ensures.penalties, near, c.requires.1),
    )

pub loop-a-preserved : goal.loop-a-preserved
unfolding past_cut_off
loop-a-preserved g c =
    let s : State = state_of c.args.self.now.ledger.now in
    let sheet = c.args.self.now.sheet.now in
    let m : List Bool → ℕ = g.R.StageRule.meaning c.args.rule.now in
    let xs = c.loop-a.account-items in
    let a = c.loop-a.a in
    let new = c.charged.result in
    let near = ap (cut_offs c.args.self.now.ledger.now.closed) c.requires.0 in
    let within : a < length xs = omega (arith, c.loop-a-test.true, c.loop-a.auto.account-items) in
    let groups = c.on_sheet-sheet.ensures.groups in
    let sent = c.on_sheet-sheet.ensures.sent in
    let words = c.on_sheet-sheet.ensures.words in
    let figures = c.figures.ensures in
    let quarters = c.quarters-quarters.ensures.value in
    let energy : c.excess-energy.result ≡ excess_today s sheet a =
    c.excess-energy.ensures.value
    ∙ (λ j. day_excess (on_sheet (groups j) (sent j) (words j)) (figures j) (groups j) a (quarters j)) in
    let is : account_of new ≡ past_cut_off m s sheet a =
    c.charged.ensures.value ∙ (λ j. charged m s.terms.tariff (c.account.ensures.value j) (energy j)) in (
      written_more account_of (past_cut_off m s sheet) xs a new within is c.loop-a.invariant.0,
      within_set _ _ xs _ a new within
          (omega (arith, c.charged.ensures.days, c.account.ensures.days, near))
          (omega (arith, c.charged.ensures.penalties, c.account.ensures.penalties, near))
          (omega (arith, ap nat_abs c.charged.ensures.balance, c.account.ensures.balance)) c.loop-a.invariant.1,
    )

pub invariant_of-next : goal.invariant_of-next
invariant_of-next g c =
    let l = c.args.self.now.ledger.now in
    let xs = c.loop-a.account-items in
    let n = c.groups.result in
    let kept = subst (λ n. Within (l.closed + 1) l.closed (xs ++ drop n l.accounts)) (sym c.groups.ensures.value) c.loop-a.invariant.1 in
    record {
      year = omega (arith, c.requires.1);
      flags = l.flags;
      groups = length_front l.accounts xs n c.loop-a.auto.account-items ∙ l.groups;
      marked = kept.0;
      owed = kept.1;
      settled = kept.2;
    }

pub returns : goal.returns
unfolding cut_off own_accounts
returns g c =
    let l = c.args.self.now.ledger.now in
    let s : State = state_of l in
    let m : List Bool → ℕ = g.R.StageRule.meaning c.args.rule.now in
    let n = c.groups.result in
    let xs = c.loop-a.account-items in
    let long : length xs ≡ n = c.loop-a.auto.account-items ∙ length-take-le n l.accounts (omega (arith, l.groups, c.groups.ensures.few)) in
    let all : c.loop-a.a ≡ size s = omega (arith, c.groups.ensures.value, long, c.loop-a-test.false, c.loop-a.auto) in
    let groups =
    take-map account_of (size s) (xs ++ drop n l.accounts)
    ∙ ap (map account_of) (take-append-le (size s) xs (drop n l.accounts) (omega (arith, c.groups.ensures.value, long)))
    ∙ written_all account_of (past_cut_off m s c.args.self.now.sheet.now) xs c.loop-a.a (size s) all c.loop-a.invariant.0 in
    λ j. record { terms = s.terms; closed = s.closed; phase = After; sent = s.sent; groups = groups j }
