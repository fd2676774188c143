use Rattle.std.proofs.Common.{◌≡◌, ℕ, ◌+◌, Bool, List, [], ◌∷◌, ◌++◌, length, sym, ap, ◌∙◌, arith, w64, SFits, to_z, of_z, rules}
use Rattle.std.proofs.lemmas.List.{length_push}
use Rattle.std.proofs.lemmas.Int.{to_z-of_z}
use Rattle.forms.specs.Figures.{RateFigures}
use Rattle.forms.specs.Openings.{terms_in}
use Rattle.stage.specs.Marked.{marks_of}
use Rattle.stage.proofs.MarkLists.{length_marks}
use Rattle.settlement.specs.Amounts.{is_marked, row_for, penalty}
use Rattle.book.proofs.Tariffs.{row_within, rows_there}
use Rattle.book.proofs.group_account.GroupAccount.charged.Goals as goal

pub row_for-requires : goal.row_for-requires
row_for-requires g c = rows_there c.args.opening.now c.tariff.result.now c.tariff.ensures.told

pub penalty-due-requires : goal.penalty-due-requires
penalty-due-requires g c =
    let e = c.row_for.ensures ∙ ap (λ rows. row_for rows c.stage-stage.result) c.tariff.ensures.told in
    (omega (arith, ap (λ (f : RateFigures). f.rate) e, row_within c.args.opening.now c.stage-stage.result), c.requires.energy)

pub returns : goal.returns
returns g c =
    let old = c.args.self.now in
    let E = c.args.energy in
    let m : List Bool → ℕ = g.R.StageRule.meaning c.args.rule.now in
    let tariff = (terms_in c.args.opening.now).tariff in
    let fits : SFits w64 old.balance = search rules in
    let same : to_z w64 (of_z w64 old.balance) ≡ old.balance = to_z-of_z w64 old.balance fits in
    let marks : marks_of c.push.new.self ≡ marks_of old.marks ++ is_marked E ∷ [] = c.push.ensures in
    let due : c.penalty-due.result ≡ penalty (row_for tariff (m (marks_of old.marks ++ is_marked E ∷ []))) E =
    c.penalty-due.ensures.value
    ∙ ap (λ row. penalty row E) (c.row_for.ensures ∙ ap (λ rows. row_for rows c.stage-stage.result) c.tariff.ensures.told)
    ∙ ap (λ stage. penalty (row_for tariff stage) E) (c.stage-stage.ensures ∙ ap m marks) in
    record {
      value = λ j. record { version = old.version; marks = marks j; due = due j; penalties = old.penalties + due j; balance = same j };
      days = sym (length_marks c.push.new.self) ∙ ap length marks ∙ length_push (marks_of old.marks) (is_marked E) ∙ ap (λ n. n + 1) (length_marks old.marks);
      penalties = omega (arith, c.penalty-due.ensures.bound);
      balance = same;
    }
