use Rattle.std.proofs.Common.{◌+◌, ◌-◌, ◌≤◌, ℕ, List, take, drop, vec_items, ap, sym, ◌∙◌, arith}
use Rattle.std.proofs.lemmas.List.{drop-drop, drop-take}
use Rattle.std.proofs.lemmas.Grind.{common_steps}
use Rattle.serve.specs.Held.{Held}
use Rattle.serve.proofs.input_buffer.InputBuffer.consume.Goals as goal

pub returns : goal.returns
returns g c =
    let b = c.self.inside in
    let n = c.args.count in
    let left = b.end - (b.start + n) in
    let fits : b.start + n ≤ b.end = grind (arith, common_steps) in
    let rest = g.R.Read.remaining b.input in
    let with_bytes : List ℕ → Held = λ l. record { bytes = l; rest = rest } in
    let without : Held → Held = λ h. record { bytes = drop n h.bytes; rest = h.rest } in
    ap with_bytes
    (ap (take left) (sym (drop-drop n b.start (vec_items b.bytes)))
    ∙ sym (drop-take n left (drop b.start (vec_items b.bytes)))
    ∙ ap (λ k. drop n (take k (drop b.start (vec_items b.bytes)))) (omega arith))
    ∙ ap without c.self.view_is
