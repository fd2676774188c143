use Rattle.std.proofs.Common.{◌≡◌, ◌+◌, ◌-◌, take, drop, vec_items, ap, sym, ◌∙◌, arith}
use Rattle.std.proofs.lemmas.List.{take-take}
use Rattle.serve.proofs.Reading.{kept_by_read, front_and_read}
use Rattle.serve.proofs.input_buffer.InputBuffer.fill.Goals as goal

pub loop-self-preserved : goal.loop-self-preserved
loop-self-preserved g c =
    let i = c.loop-self.invariant in
    let held = c.self.inside.end - c.self.inside.start in
    let end = c.loop-self.self-inside.end in
    let n = c.in_ok-n.n in
    let before = vec_items c.loop-self.self-inside.bytes in
    let after = vec_items c.read_after.new.bytes in
    let read = c.in_ok-n.ensures in
    let front : take held after ≡ take held before =
    sym (take-take held end after i.1) ∙ ap (take held) read.kept ∙ take-take held end before i.1 in (
      i.0,
      omega (arith, i.1),
      omega (arith, i.3, read.within, read.len),
      read.len ∙ i.3,
      front ∙ i.4,
      kept_by_read _ _ _ (take end before) (take n (drop end after)) (take (end + n) after) i.5 read.bytes.0 (front_and_read end n before after read.kept),
    )
