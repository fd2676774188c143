use Rattle.std.proofs.Common.{◌≡◌, ◌+◌, ◌/◌, ◌%◌, map, get_or, set, ap, ◌∙◌, arith}
use Rattle.std.specs.List.{range_with_len}
use Rattle.std.proofs.lemmas.List.{length-set}
use Rattle.stage.specs.Marked.{flag, marks_of}
use Rattle.stage.proofs.Flags.{with_bit, flags_push}
use Rattle.stage.proofs.MarkLists.{length_marks}
use Rattle.stage.proofs.marks.Marks.push.Goals as goal
use Rattle.stage.proofs.marks.Marks.push.Goals.{then-mark, else-mark}

pub invariant_of-self : goal.invariant_of-self
invariant_of-self c =
    let m = c.args.self.now in
    record { year = omega (arith, length_marks m); size = length-set m.words _ _ ∙ m.size }

pub returns : goal.returns
unfolding marks_of
returns c =
    let m = c.args.self.now in
    let x = c.args.mark in
    let w = get_or m.words (m.days / 64) 0 in
    let r = m.days % 64 in
    let at = c.place-word.ensures in
    let word : c.if-mark.words ≡ with_bit w r x =
    elim c.if-mark.branch [
      | then-mark p ↦ cc (p.words-is, at.word, at.bit, ap (with_bit w r) p.if-mark.true)
      | else-mark p ↦ cc (p.words-is, at.word, at.bit, ap (with_bit w r) p.if-mark.false)
    ] in
    (λ j. map (flag (set m.words (at.word j) (word j))) (range_with_len 0 (m.days + 1)))
    ∙ flags_push m.words m.days x (omega (arith, m.size, m.year))
