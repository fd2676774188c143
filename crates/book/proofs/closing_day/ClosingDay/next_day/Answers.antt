use Rattle.std.proofs.Common.{◌≡◌, ◌+◌, ◌<◌, false, length, get_or, pos, nat_abs, sym, ap, ◌∙◌, arith, w64, to_z, of_z, rules}
use Rattle.std.proofs.lemmas.List.{length-set, take-map, get_or-map}
use Rattle.std.proofs.lemmas.Int.{to_z-of_z}
use Rattle.forms.proofs.OpeningLaws.{lawful_in}
use Rattle.forms.proofs.Writes.{written_more, written_all}
use Rattle.settlement.specs.declared.phase.Phase.TheVariants.{Ahead}
use Rattle.book.specs.declared.result_row.ResultRow.{ResultRow}
use Rattle.book.specs.Closes.{day_done, closed_group, day_closed}
use Rattle.book.specs.Kept.{cut_offs, days_in, penalties_in, balance_in}
use Rattle.book.specs.Rows.{Row, row_of, amount_in, balance_in_row}
use Rattle.book.specs.States.{State, state_of, size, account_of, own_accounts}
use Rattle.book.proofs.Accounts.{bounded_set}
use Rattle.book.proofs.closing_day.ClosingDay.next_day.Goals as goal

abbrev no_row : ResultRow
no_row = record { day = 0; group = 0; mark = false; stage = 0; penalty = 0; balance = pos 0 }

pub offset_bounds-accounts-a : goal.offset_bounds-accounts-a
offset_bounds-accounts-a c = let l : c.loop-a.a < 16 = omega (arith, c.requires.0, c.loop-a-test.true, (lawful_in c.args.self.now.day.ledger.now.opening).groups_most) in search rules

pub bounds-accounts-a : goal.bounds-accounts-a
bounds-accounts-a c = omega (arith, c.requires.0, c.loop-a-test.true, (lawful_in c.args.self.now.day.ledger.now.opening).groups_most)

pub day_done-requires : goal.day_done-requires
day_done-requires c =
    let l = c.args.self.now.day.ledger.now in
    let rows = c.args.rows.now in
    let a = c.loop-a.a in
    let after = ap (cut_offs l.closed) c.args.self.now.after in
    let within : a < length rows = omega (arith, c.loop-a-test.true) in
    let same = to_z-of_z w64 (get_or rows a no_row).balance (search rules) in (
      omega (arith, c.account.ensures.balance, after, l.year),
      omega (arith, ap nat_abs same, get_or-map amount_in rows a no_row 0 within, c.requires.1 a),
    )

pub loop-a-preserved : goal.loop-a-preserved
unfolding closed_group balance_in_row
loop-a-preserved c =
    let l = c.args.self.now.day.ledger.now in
    let s : State = state_of l in
    let rows = c.args.rows.now in
    let xs = c.loop-a.accounts in
    let a = c.loop-a.a in
    let inv = c.loop-a.invariant in
    let new = c.day_done.result in
    let after = ap (cut_offs l.closed) c.args.self.now.after in
    let within : a < length xs = omega (arith, inv.0, c.requires.0, c.loop-a-test.true, (lawful_in l.opening).groups_most) in
    let in_rows : a < length rows = omega (arith, c.loop-a-test.true) in
    let same = to_z-of_z w64 (get_or rows a no_row).balance (search rules) in
    let amount : to_z w64 (of_z w64 (get_or rows a no_row).balance) ≡ balance_in_row rows a =
    same ∙ ap (λ (r : Row). r.balance) (sym (get_or-map row_of rows a no_row _ in_rows)) in
    let is : account_of new ≡ closed_group s (balance_in_row rows) a =
    c.day_done.ensures.value ∙ (λ j. day_done (c.account.ensures.value j) (amount j)) in (
      length-set xs a new ∙ inv.0,
      written_more account_of (closed_group s (balance_in_row rows)) xs a new within is inv.1,
      bounded_set days_in xs a new _ within (omega (arith, c.day_done.ensures.days, c.account.ensures.days, after)) inv.2,
      bounded_set penalties_in xs a new _ within (omega (arith, c.day_done.ensures.penalties, c.account.ensures.penalties, after)) inv.3,
      bounded_set balance_in xs a new _ within (omega (arith, c.day_done.ensures.balance, c.account.ensures.balance)) inv.4,
    )

pub returns : goal.returns
unfolding day_closed own_accounts
returns c =
    let s : State = state_of c.args.self.now.day.ledger.now in
    let amounts = balance_in_row c.args.rows.now in
    let all : c.loop-a.a ≡ size s = omega (arith, c.requires.0, c.loop-a-test.false) in
    let groups =
    take-map account_of (size s) c.loop-a.accounts
    ∙ written_all account_of (closed_group s amounts) c.loop-a.accounts c.loop-a.a (size s) all c.loop-a.invariant.1 in
    λ j. record { terms = s.terms; closed = s.closed + 1; phase = Ahead; sent = c.nothing_sent-next.ensures j; groups = groups j }
