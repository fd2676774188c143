use Rattle.std.proofs.Common.{◌≡◌, ℕ, ◌-◌, ◌≤◌, List, length, take, drop, Some, inl, inr, refl, sym, ap, subst, ◌∙◌, arith, take-append-drop, length-drop}
use Rattle.std.specs.Prelude.{slice_index}
use Rattle.std.specs.Io.KnownBytes.{Keeps, Consumes}
use Rattle.std.proofs.KnownBytes.{Keeps-trans}
use Rattle.std.proofs.lemmas.List.{take-take, take_all, length-take, length-take-le, get_or-take}
use Rattle.std.proofs.lemmas.Grind.{common_steps}
use Rattle.session.specs.Frames.{announced, frame_head}
use Rattle.session.specs.Replies.{Told, stop, told_by}
use Rattle.session.specs.Steps.{stepped}
use Rattle.session.specs.Views.{SessionState, view_of}
use Rattle.serve.specs.Held.{Held, to_come}
use Rattle.serve.specs.Taken.{Steps, Ends, BodyIsCut}
use Rattle.serve.proofs.Reading.{consumed_front}
use Rattle.serve.proofs.service.Service.take_frame.Goals as goal

-- the frame that stands at the front, first its head and then the whole of it
steps_by_front : (most : ℕ) (before after : SessionState) (reply : Told) (old first whole left : Held) (head : List ℕ) (n : ℕ)
    → Keeps (to_come old) (to_come first) → Keeps (to_come first) (to_come whole)
    → frame_head ≤ length first.bytes → take (length first.bytes) whole.bytes ≡ first.bytes
    → head ≡ take frame_head first.bytes → announced head ≡ Some (n - frame_head) → frame_head ≤ n → n ≤ length whole.bytes
    → left ≡ record { bytes = drop n whole.bytes; rest = whole.rest }
    → (reply, after) ≡ stepped most before (slice_index head 0) (drop frame_head (take n whole.bytes))
    → Steps most before reply after old left
steps_by_front most before after reply old first whole left head n kept_first kept_whole there kept is_head size low high rest step =
    let frame = take n whole.bytes in
    let heads : take frame_head frame ≡ head =
    take-take frame_head n whole.bytes low ∙ sym (take-take frame_head (length first.bytes) whole.bytes there)
    ∙ ap (take frame_head) kept ∙ sym is_head in
    let long : length frame ≡ n = length-take-le n whole.bytes high in
    let letter : slice_index head 0 ≡ slice_index frame 0 =
    ap (λ l. slice_index l 0) (sym heads) ∙ get_or-take frame_head frame 0 0 (omega arith) in
    let taken = step ∙ ap (λ k. stepped most before k (drop frame_head frame)) letter in
    let all = Keeps-trans (to_come old) (to_come first) (to_come whole) kept_first kept_whole in (
      frame,
      (omega (arith, low, long), ap (λ l. announced l) heads ∙ size ∙ ap (λ k. Some (k - frame_head)) (sym long)),
      subst (λ h. Consumes (to_come old) (to_come h) frame) (sym rest)
          (consumed_front (to_come old) whole.rest whole.bytes frame (drop n whole.bytes) all (sym (take-append-drop n whole.bytes))),
      ap (λ (p : Told × SessionState). p.0) taken,
      ap (λ (p : Told × SessionState). p.1) taken,
    )

pub returns-clause-step : goal.returns-clause-step
returns-clause-step g c =
    let now = c.args.self.now in
    let first = c.wait_for.new.self in
    let whole = c.read_body.new.self in
    let head = c.copy_from_slice.new.self in
    let body = c.front-2.result.now in
    let frame = rw c.in-Some.is at c.in_ok-length.ensures.frame in
    let most : whole.most ≡ now.most = c.in_ok-length.ensures.most ∙ c.in_ok-wait_for.ensures.most in
    let session : view_of whole.session ≡ view_of now.session =
    ap (λ s. view_of s) (c.in_ok-length.ensures.session ∙ c.in_ok-wait_for.ensures.session) in
    let step =
    c.in_ok-reply.ensures
    ∙ ap (λ l. stepped whole.most (view_of whole.session) (slice_index head 0) l)
    (take_all (length body - frame_head) (drop frame_head body) (omega (arith, length-drop frame_head body)))
    ∙ ap (λ k. stepped k (view_of whole.session) (slice_index head 0) (drop frame_head body)) most
    ∙ ap (λ v. stepped now.most v (slice_index head 0) (drop frame_head body)) session
    ∙ ap (λ l. stepped now.most (view_of now.session) (slice_index head 0) (drop frame_head l)) c.front-2.ensures.value in
    inr (steps_by_front now.most (view_of now.session) (view_of c.step.new.self) (told_by c.in_ok-reply.reply) now.input first.input whole.input
    c.consume.new.self head c.in-Some.length c.in_ok-wait_for.ensures.none_lost c.in_ok-length.ensures.none_lost
    (grind (arith, common_steps)) c.in_ok-length.ensures.kept
    (c.copy_from_slice.ensures.after ∙ c.front.ensures.value) frame.0 frame.1 frame.2 c.consume.ensures step)

-- the head stands at the front, and its body is cut short or too long
ends_by_front : (before after : SessionState) (old first whole : Held) (head : List ℕ)
    → Keeps (to_come old) (to_come first) → Keeps (to_come first) (to_come whole)
    → frame_head ≤ length first.bytes → take (length first.bytes) whole.bytes ≡ first.bytes
    → head ≡ take frame_head first.bytes → BodyIsCut head whole → after ≡ before
    → Ends before stop after old whole
ends_by_front before after old first whole head kept_first kept_whole there kept is_head cut same =
    let front : take frame_head whole.bytes ≡ head =
    sym (take-take frame_head (length first.bytes) whole.bytes there) ∙ ap (take frame_head) kept ∙ sym is_head in
    let long : length first.bytes ≤ length whole.bytes = omega (arith, ap length kept, length-take (length first.bytes) whole.bytes) in (
      refl,
      same,
      Keeps-trans (to_come old) (to_come first) (to_come whole) kept_first kept_whole,
      record {
        some = omega arith;
        head = λ few. absurd (omega arith);
        body = λ _. subst (λ h. BodyIsCut h whole) (sym front) cut;
      },
    )

pub returns-in_default-clause-step : goal.returns-in_default-clause-step
returns-in_default-clause-step g c =
    let now = c.args.self.now in
    let first = c.wait_for.new.self in
    let whole = c.read_body.new.self in
    let cut = rw c.in_default.is at c.in_ok-length.ensures.none in
    inl (ends_by_front (view_of now.session) (view_of whole.session) now.input first.input whole.input c.copy_from_slice.new.self
    c.in_ok-wait_for.ensures.none_lost c.in_ok-length.ensures.none_lost (grind (arith, common_steps)) c.in_ok-length.ensures.kept
    (c.copy_from_slice.ensures.after ∙ c.front.ensures.value) cut
    (ap (λ s. view_of s) (c.in_ok-length.ensures.session ∙ c.in_ok-wait_for.ensures.session)))
