use Rattle.std.proofs.Common.{◌≡◌, ℕ, zero, suc, ◌∷◌, map, replicate, refl, ap, ◌∙◌}
use Rattle.std.proofs.lemmas.Result.{IfOk-weaker}
use Rattle.book.specs.declared.result_row.ResultRow.{ResultRow}
use Rattle.book.specs.Rows.{row_of}
use Rattle.session.proofs.step.blank_rows.Goals as goal

rows_alike : (n : ℕ) (x : ResultRow) → map row_of (replicate n x) ≡ replicate n (row_of x)
rows_alike zero x = refl
rows_alike (suc n) x = ap (λ rs. row_of x ∷ rs) (rows_alike n x)

pub returns : goal.returns
returns c = IfOk-weaker c.vec.result _ _ (λ v h. ap (map row_of) (h (λ y e. e)) ∙ rows_alike c.args.groups _) c.vec.ensures.items_if_clones_equal
