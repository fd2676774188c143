use Rattle.std.proofs.Common.{ℕ, Bool, List, map, length, replicate, Err, sym, refl, ap, ◌∙◌}
use Rattle.std.proofs.lemmas.List.{length-map}
use Rattle.std.proofs.lemmas.Result.{err_from_is_err_and}
use Rattle.forms.specs.Checks.{Verdict}
use Rattle.book.specs.SheetWords.{words_in}
use Rattle.book.specs.Closes.{Lent, close_check, day_closed, day_rows}
use Rattle.book.specs.Rows.{row_of, balance_in_row}
use Rattle.book.specs.States.{State, state_of}
use Rattle.book.proofs.Closing.{close_refused, close_accepted}
use Rattle.book.proofs.RowLists.{closed_by_rows}
use Rattle.book.proofs.opened.Opened.close.Goals as goal

pub returns-in_err-closing : goal.returns-in_err-closing
returns-in_err-closing g c =
    let s : State = state_of c.args.self.now.ledger in
    let m : List Bool → ℕ = g.R.StageRule.meaning c.args.self.now.rule in
    let rows = c.args.rows.now in
    let lent : Lent = record { sheet = words_in c.args.sheet; rows = map row_of rows } in
    let p = err_from_is_err_and c.from_residual.result c.from_residual.ensures.1 in
    record {
      book = ap (λ (o : Verdict × State × Lent). (o.0, o.1, o.2.rows)) (close_refused m s lent c.args.form.now c.from_residual.result _ (p.1 ∙ ap Err p.2) (sym (ap (λ n. close_check s (words_in c.args.sheet) n c.args.form.now) (length-map rows row_of) ∙ c.in_err-closing.ensures)));
      rule = refl;
    }

pub returns : goal.returns
returns g c =
    let s : State = state_of c.args.self.now.ledger in
    let m : List Bool → ℕ = g.R.StageRule.meaning c.args.self.now.rule in
    let form = c.args.form.now in
    let sheet = words_in c.args.sheet in
    let rows = c.args.rows.now in
    let lent : Lent = record { sheet = sheet; rows = map row_of rows } in
    let found = c.in_ok-closing.ensures in
    let ledger = found.1.0 in
    let of-sheet = found.1.1 in
    let of-form = found.1.2 in
    let written = c.fill_rows.ensures.rows ∙ (λ j. day_rows m (state_of (ledger j)) (of-sheet j) (of-form j)) in
    record {
      book = ap (λ (o : Verdict × State × Lent). (o.0, o.1, o.2.rows)) (close_accepted m s lent form _ _
          (sym (ap (λ n. close_check s sheet n form) (length-map rows row_of) ∙ found.0))
          (c.next_day-self.ensures ∙ (λ j. day_closed (state_of (ledger j)) (balance_in_row c.fill_rows.new.rows)) ∙ closed_by_rows m s sheet form c.fill_rows.new.rows written)
          (λ j. record { sheet = replicate (length sheet) 0; rows = written j }));
      rule = refl;
    }
