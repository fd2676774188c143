-- Frame after frame.
use Rattle.std.proofs.Common.{◌≡◌, ◌≢◌, ℕ, ◌+◌, ◌-◌, ◌^◌, List, ◌∷◌, ◌++◌, Option, map, length, inl, inr, refl, sym, ap, subst, ◌∙◌, arith, None, Some}
use Rattle.std.proofs.lemmas.List.{append-nil, length-map}
use Rattle.std.proofs.lemmas.List.Elements.{All-cons}
use Rattle.std.specs.List.{All}
use Rattle.std.proofs.KnownBytes.{Consumes-trans, Consumes-kept, Appends-trans, Appends-kept}
use Rattle.std.specs.Io.KnownBytes.{Keeps, Consumes, Appends, IsAtEnd}
use Rattle.session.specs.Replies.{Told, stop, told_by}
use Rattle.session.specs.declared.reply.Reply.{Reply}
use Rattle.session.specs.declared.reply.Reply.TheVariants.{Stop, Refused, Done, Taken, Closed}
use Rattle.session.specs.Runs.{told_at, state_after, session_from}
use Rattle.session.specs.Views.{SessionState}
use Rattle.serve.specs.Held.{Held, to_come}
use Rattle.serve.specs.Printed.{answer}
use Rattle.serve.specs.Sessions.{all_taken, stopped, cut, counted_out, bytes_of_frames, answers, last_answer, GoesOn, Serves, SessionLeft}
use Rattle.serve.specs.Taken.{frame_of, IsFrame, Steps, TakesFrame, FramesMake}

-- what frames that were taken have made of session, input and output
pub record Made (most : ℕ) (frames : List (List ℕ)) (x y : SessionState) (held left : Held) (old new : Option (List ℕ)) : Type 0 where
  pub whole : All IsFrame frames
  pub bytes : Consumes (to_come held) (to_come left) (bytes_of_frames frames)
  pub session : y ≡ session_from most x (map frame_of frames)
  pub printed : Appends old new (answers most x (map frame_of frames))

-- what is told of one frame more
pub told_more : (most : ℕ) (frames : List (List ℕ)) (x y z : SessionState) (reply : Told) (held left : Held)
    → y ≡ session_from most x (map frame_of frames) → (s : Steps most y reply z held left)
    → told_at most (session_from most x (map frame_of frames)) (frame_of s.0) ≡ reply
told_more most frames x y z reply held left made s =
    ap (λ v. told_at most v (frame_of s.0)) (sym made) ∙ sym s.3

-- one frame more, and what is printed for it
pub made_more : (most : ℕ) (frames : List (List ℕ)) (x y z : SessionState) (reply : Told) (held now left : Held) (old mid new : Option (List ℕ))
    → Made most frames x y held now old mid → (s : Steps most y reply z now left) → Appends mid new (answer reply z)
    → Made most (s.0 ∷ frames) x z held left old new
made_more most frames x y z reply held now left old mid new made s printed =
    let frame = s.0 in
    let told : told_at most (session_from most x (map frame_of frames)) (frame_of frame) ≡ reply =
    told_more most frames x y z reply now left made.session s in
    let after : z ≡ session_from most x (map frame_of (frame ∷ frames)) =
    s.4 ∙ ap (λ v. state_after most v (frame_of frame)) made.session in
    record {
      whole = All-cons IsFrame frame frames s.1 made.whole;
      bytes = Consumes-trans (to_come held) (to_come now) (to_come left) (bytes_of_frames frames) frame made.bytes s.2;
      session = after;
      printed =
          Appends-trans old mid new (answers most x (map frame_of frames)) (answer (told_at most (session_from most x (map frame_of frames)) (frame_of frame)) (session_from most x (map frame_of (frame ∷ frames)))) made.printed
          (subst (λ t. Appends mid new (answer t (session_from most x (map frame_of (frame ∷ frames))))) (sym told)
          (subst (λ v. Appends mid new (answer reply v)) after printed));
    }

-- one turn more: a frame that isn't answered STOP
pub turn_more : (most n : ℕ) (frames : List (List ℕ)) (x y z : SessionState) (reply : Told) (held now left : Held) (old mid new : Option (List ℕ))
    → length frames ≡ n → GoesOn most x (map frame_of frames) → Made most frames x y held now old mid
    → TakesFrame most y reply z now left → reply ≢ stop → Appends mid new (answer reply z)
    → (fs : List (List ℕ)) × (length fs ≡ n + 1) × GoesOn most x (map frame_of fs) × Made most fs x z held left old new
turn_more most n frames x y z reply held now left old mid new count goes made taken on printed =
    elim taken [
      | inl ends ↦ absurd (on ends.0)
      | inr s ↦ (
        s.0 ∷ frames,
        omega (arith, count),
        (λ e. on (sym (told_more most frames x y z reply now left made.session s) ∙ e), goes),
        made_more most frames x y z reply held now left old mid new made s printed,
      )
    ]

-- the frames that are taken when nothing more comes
pub served_all : (most : ℕ) (frames : List (List ℕ)) (x y : SessionState) (held now left : Held) (old mid new : Option (List ℕ))
    → Made most frames x y held now old mid → GoesOn most x (map frame_of frames) → Keeps (to_come now) (to_come left) → IsAtEnd (to_come left)
    → Keeps mid new → Serves most x y held left old new
served_all most frames x y held now left old mid new made goes kept end out = (
  frames,
  all_taken,
  record {
    whole = made.whole;
    bytes = Consumes-kept (to_come held) (to_come now) (to_come left) (bytes_of_frames frames) made.bytes kept;
    session = made.session;
    ended = (goes, end);
  },
  subst (Appends old new) (sym (append-nil (answers most x (map frame_of frames)))) (Appends-kept old mid new (answers most x (map frame_of frames)) made.printed out),
)

-- so many frames that the count of turns ends
pub served_many : (most : ℕ) (frames : List (List ℕ)) (x y : SessionState) (held left : Held) (old new : Option (List ℕ))
    → Made most frames x y held left old new → GoesOn most x (map frame_of frames) → length frames ≡ 2 ^ 64 - 1 → Serves most x y held left old new
served_many most frames x y held left old new made goes many = (
  frames,
  counted_out,
  record {
    whole = made.whole;
    bytes = made.bytes;
    session = made.session;
    ended = (goes, length-map frames frame_of ∙ many);
  },
  subst (Appends old new) (sym (append-nil (answers most x (map frame_of frames)))) made.printed,
)

-- a frame that is answered STOP, or that is cut short or too long
pub served_stop : (most : ℕ) (frames : List (List ℕ)) (x y z : SessionState) (held now left : Held) (old mid new : Option (List ℕ))
    → Made most frames x y held now old mid → GoesOn most x (map frame_of frames) → TakesFrame most y stop z now left
    → Appends mid new (answer stop z) → Serves most x z held left old new
served_stop most frames x y z held now left old mid new made goes taken printed =
    let so_far = answers most x (map frame_of frames) in
    elim taken [
      | inl ends ↦ (
        frames,
        cut,
        record {
          whole = made.whole;
          bytes = Consumes-kept (to_come held) (to_come now) (to_come left) (bytes_of_frames frames) made.bytes ends.2;
          session = ends.1 ∙ made.session;
          ended = (goes, ends.3);
        },
        Appends-trans old mid new so_far (last_answer cut) made.printed printed,
      )
      | inr s ↦
          let more = made_more most frames x y z stop held now left old mid new made s printed in (
            s.0 ∷ frames,
            stopped,
            record {
              whole = more.whole;
              bytes = more.bytes;
              session = more.session;
              ended = (told_more most frames x y z stop now left made.session s, goes);
            },
            subst (Appends old new) (sym (append-nil (answers most x (map frame_of (s.0 ∷ frames))))) more.printed,
          )
    ]

-- only Stop tells that the session ends
pub not_stop : (r : Reply) → r ≢ Stop → told_by r ≢ stop
not_stop Stop ne e = ne refl
not_stop (Refused f) ne e = cc
not_stop Done ne e = cc
not_stop (Taken t) ne e = cc
not_stop Closed ne e = cc

-- what stayed as it was, and then grew
pub kept_before : (a b c : Option (List ℕ)) (bs : List ℕ) → Keeps a b → Appends b c bs → Appends a c bs
kept_before None b c bs p q = tt
kept_before (Some x) None c bs p q = absurd p
kept_before (Some x) (Some y) None bs p q = absurd q
kept_before (Some x) (Some y) (Some z) bs p q = q ∙ ap (λ l. l ++ bs) p

-- what is printed stays so when it goes out
pub serves_kept : (most : ℕ) (x y : SessionState) (held left : Held) (old mid new : Option (List ℕ)) → Serves most x y held left old mid → Keeps mid new
    → Serves most x y held left old new
serves_kept most x y held left old mid new s kept =
    (s.0, s.1, s.2, Appends-kept old mid new (answers most x (map frame_of s.0) ++ last_answer s.1) s.3 kept)

-- a session that frames of an input left is one that frames make
pub frames_make : (most n : ℕ) (x y z : SessionState) (held : Held) → n ≡ most → y ≡ x → SessionLeft n y z held → FramesMake most x z
frames_make most n x y z held same_most same left =
    (map frame_of left.0, left.3.session ∙ ap (λ m. session_from m y (map frame_of left.0)) same_most ∙ ap (λ v. session_from most v (map frame_of left.0)) same)
