use Rattle.std.proofs.Common.{◌≡◌, ℕ, ◌<◌, Bool, List, map, length, sym, ap, ◌∙◌, inl, inr, arith}
use Rattle.std.proofs.lemmas.List.{take_all, length-map, get_or_past}
use Rattle.std.proofs.lemmas.Bool.{cases_lt}
use Rattle.forms.proofs.Writes.{written_more, written_all}
use Rattle.book.specs.Closes.{day_row, day_rows}
use Rattle.book.specs.Rows.{row_of, amount_in}
use Rattle.book.specs.States.{State, state_of, size}
use Rattle.book.proofs.RowLists.{amounts_more}
use Rattle.book.proofs.closing_day.ClosingDay.fill_rows.Goals as goal

pub loop-a-preserved : goal.loop-a-preserved
loop-a-preserved g c =
    let s : State = state_of c.args.self.now.day.ledger.now in
    let m : List Bool → ℕ = g.R.StageRule.meaning c.args.rule.now in
    let xs = c.loop-a.rows in
    let within : c.loop-a.a < length xs = omega (arith, c.loop-a-test.true) in (
      written_more row_of (day_row m s c.args.self.now.day.sheet.now c.args.self.now.form.bytes.now) xs c.loop-a.a c.result_row.result within c.result_row.ensures.row c.loop-a.invariant.0,
      amounts_more xs c.loop-a.a c.result_row.result within c.result_row.ensures.bound c.loop-a.invariant.1,
    )

pub returns : goal.returns
unfolding day_rows
returns g c =
    let s : State = state_of c.args.self.now.day.ledger.now in
    let f = day_row (g.R.StageRule.meaning c.args.rule.now) s c.args.self.now.day.sheet.now c.args.self.now.form.bytes.now in
    let xs = c.loop-a.rows in
    let all : c.loop-a.a ≡ size s = omega (arith, c.requires, c.loop-a.auto.rows, c.loop-a-test.false) in
    let long : length xs ≡ size s = omega (arith, c.loop-a.auto.rows, c.requires) in
    record {
      rows = ap (map row_of) (sym (take_all (size s) xs (omega arith))) ∙ written_all row_of f xs c.loop-a.a (size s) all c.loop-a.invariant.0;
      bound = λ k. elim (cases_lt k c.loop-a.a) [
        | inl l ↦ c.loop-a.invariant.1 k l
        | inr l ↦ omega (arith, get_or_past (map amount_in xs) k 0 (omega (arith, length-map xs amount_in)))
      ];
    }
