use Rattle.std.proofs.Common.{subst, sym, ap, ◌∙◌, arith}
use Rattle.std.specs.Io.Buffered.{writer_contents}
use Rattle.std.specs.Io.KnownBytes.{Appends}
use Rattle.session.specs.Replies.{told_by}
use Rattle.session.specs.Views.{view_of}
use Rattle.serve.specs.Printed.{answer}
use Rattle.serve.specs.Sessions.{Serves}
use Rattle.serve.specs.Taken.{TakesFrame}
use Rattle.serve.proofs.Framing.{Made, turn_more, served_all, served_many, served_stop, not_stop, kept_before}
use Rattle.serve.proofs.service.Service.answer_frames.Goals as goal

pub loop-turn-preserved : goal.loop-turn-preserved
loop-turn-preserved g c =
    let first = c.args.self.now in
    let now = c.loop-turn.self in
    let taken = c.take_frame.new.self in
    let printed = c.print.new.self in
    let reply = told_by c.in-Some.reply in
    let i = c.loop-turn.invariant in
    let step = rw c.in-Some.is at c.in_ok-reply.ensures.step in
    let before = writer_contents g.W.Write.contents now.output in
    let after = writer_contents g.W.Write.contents printed.output in
    let out = kept_before before (writer_contents g.W.Write.contents taken.output) after (answer reply (view_of taken.session)) c.in_ok-reply.ensures.printed c.in_ok-print.ensures.answer in
    let step = subst (λ n. TakesFrame n (view_of now.session) reply (view_of taken.session) now.input taken.input) i.0 step in
    let more =
    turn_more first.most c.loop-turn._turn i.1.0 (view_of first.session) (view_of now.session) (view_of taken.session) reply first.input now.input taken.input
    (writer_contents g.W.Write.contents first.output) before after i.1.1 i.1.2 i.1.3 step (not_stop c.in-Some.reply c.in_default-reply.not-Stop) out in (
      c.in_ok-print.ensures.most ∙ c.in_ok-reply.ensures.most ∙ i.0,
      (
        more.0,
        more.1,
        more.2,
        subst (λ s. Made first.most more.0 (view_of first.session) (view_of s) first.input printed.input (writer_contents g.W.Write.contents first.output) after) (sym c.in_ok-print.ensures.session)
            (subst (λ h. Made first.most more.0 (view_of first.session) (view_of taken.session) first.input h (writer_contents g.W.Write.contents first.output) after) (sym c.in_ok-print.ensures.input) more.3),
      ),
    )

pub returns-after-loop-turn : goal.returns-after-loop-turn
returns-after-loop-turn g c =
    let first = c.args.self.now in
    let now = c.loop-turn.self in
    let i = c.loop-turn.invariant in
    served_many first.most i.1.0 (view_of first.session) (view_of now.session) first.input now.input (writer_contents g.W.Write.contents first.output)
    (writer_contents g.W.Write.contents now.output) i.1.3 i.1.2 (omega (arith, i.1.1, c.loop-turn-test.false))

pub returns-in_default : goal.returns-in_default
returns-in_default g c =
    let first = c.args.self.now in
    let now = c.loop-turn.self in
    let taken = c.take_frame.new.self in
    let i = c.loop-turn.invariant in
    let old = writer_contents g.W.Write.contents first.output in
    let after = writer_contents g.W.Write.contents taken.output in
    let same = rw c.in_default.is at c.in_ok-reply.ensures.none in
    let end = rw c.in_default.is at c.in_ok-reply.ensures.end in
    let kept = rw c.in_default.is at c.in_ok-reply.ensures.none_lost in
    subst (λ s. Serves first.most (view_of first.session) (view_of s) first.input taken.input old after) (sym same)
    (served_all first.most i.1.0 (view_of first.session) (view_of now.session) first.input now.input taken.input old (writer_contents g.W.Write.contents now.output) after
    i.1.3 i.1.2 kept end c.in_ok-reply.ensures.printed)

pub returns-in-Stop : goal.returns-in-Stop
returns-in-Stop g c =
    let first = c.args.self.now in
    let now = c.loop-turn.self in
    let taken = c.take_frame.new.self in
    let printed = c.print.new.self in
    let i = c.loop-turn.invariant in
    let old = writer_contents g.W.Write.contents first.output in
    let before = writer_contents g.W.Write.contents now.output in
    let after = writer_contents g.W.Write.contents printed.output in
    let is_stop = ap (λ r. told_by r) c.in-Stop.is in
    let step = rw c.in-Some.is at c.in_ok-reply.ensures.step in
    let step = subst (λ n. TakesFrame n (view_of now.session) (told_by c.in-Some.reply) (view_of taken.session) now.input taken.input) i.0 step in
    let step = subst (λ t. TakesFrame first.most (view_of now.session) t (view_of taken.session) now.input taken.input) is_stop step in
    let out = kept_before before (writer_contents g.W.Write.contents taken.output) after (answer (told_by c.in-Some.reply) (view_of taken.session)) c.in_ok-reply.ensures.printed c.in_ok-print.ensures.answer in
    let out = subst (λ t. Appends before after (answer t (view_of taken.session))) is_stop out in
    subst (λ s. Serves first.most (view_of first.session) (view_of s) first.input printed.input old after) (sym c.in_ok-print.ensures.session)
    (subst (λ h. Serves first.most (view_of first.session) (view_of taken.session) first.input h old after) (sym c.in_ok-print.ensures.input)
    (served_stop first.most i.1.0 (view_of first.session) (view_of now.session) (view_of taken.session) first.input now.input taken.input old before after i.1.3 i.1.2 step out))
