-- A frame that is refused changes no place: where a place is written, the answer is none of these.
use mathlib.Core.Path.{◌≡◌, refl, sym, ◌∙◌}
use mathlib.Core.Bool.{Bool, true, false, true≢false, and-false}
use mathlib.Core.List.{List, []}
use mathlib.Core.Option.{Option, none, some}
use Prim.Native.Nat.{ℕ}
use native.Mathlib.Omega.{arith}
use lib.Dec.{leb}
use lib.ListN.{get_or}
use borrow.Author.Tests.{lt-leb, ne_eqb}
use Rattle.rules.specs.Answer.{Answer, Reason, passed, reason_number, number_of}
use Rattle.rules.specs.Blocks.{keeps, blocks_in}
use Rattle.rules.specs.Check.{Parsed, parsed, check}
use Rattle.rules.specs.Frame.{is_anonymous}
use Rattle.rules.specs.Reception.{session_in, step_at, step_new, step_start, step_seek, step_anonymous, step_checked, step}
use Rattle.rules.specs.Refusal.{refuses, RefusalLaw}
use Rattle.rules.specs.Session.{Session, over, proceed_if, proceed, met, fresh}
use Rattle.rules.specs.Table.{Places, empty, seek, holds, place_for}
use Rattle.rules.proofs.Landing.{answer_at}
use Rattle.rules.proofs.Ranges.{reason-range}
use Rattle.rules.proofs.Takes.{Takes, unfinished, whole, too_long, bad_sum, takes-answer}

abbrev Answers : Answer → Type 0
Answers a = refuses (number_of a) ≡ false

taken-answers : {a : Answer} → Takes a → Answers a
taken-answers unfinished = refl
taken-answers whole = refl
taken-answers too_long = refl
taken-answers bad_sum = refl

passed-answers : (r : Reason) → Answers (passed r)
passed-answers r =
    let n = reason_number r in
    let k = reason-range r in
    rw (lt-leb n 9 (omega arith), and-false (leb 2 n), ne_eqb n 19 (λ e. omega arith), ne_eqb n 20 (λ e. omega arith))

module _ (v : Parsed) where
  -- ── a session that a frame meets ──

  proceed-answers : (s : Session) → Answers (proceed s v).answer
  unfolding proceed proceed_if
  proceed-answers s = go (over s v)
    where
      go : (o : Option Reason) → Answers (proceed_if o s v).answer
      go (some r) = passed-answers r
      go none = taken-answers (takes-answer v s)

  -- ── the table ──

  module _ (ps : Places) where
    at-kept : (i : ℕ) (s : Session) (bs : List ℕ) → refuses (number_of (step_at ps i s bs v).answer) ≡ true → (step_at ps i s bs v).places ≡ ps
    at-kept i s bs e =
        let n : Answers (step_at ps i s bs v).answer = answer_at ps i s bs v Answers refl (proceed-answers s) in
        absurd (true≢false (sym e ∙ n))

    new-kept : (o : Option ℕ) → refuses (number_of (step_new o ps v).answer) ≡ true → (step_new o ps v).places ≡ ps
    unfolding step_new
    new-kept none e = refl
    new-kept (some i) e = at-kept i (fresh v) [] e

    start-kept : (b : Bool) → refuses (number_of (step_start b ps v).answer) ≡ true → (step_start b ps v).places ≡ ps
    unfolding step_start
    start-kept false e = refl
    start-kept true e = new-kept (place_for v.time ps) e

    seek-kept : (o : Option ℕ) → refuses (number_of (step_seek o ps v).answer) ≡ true → (step_seek o ps v).places ≡ ps
    unfolding step_seek
    seek-kept (some i) e = let p = get_or ps i empty in let s = met (session_in p v) v in at-kept i s (keeps s (blocks_in p)) e
    seek-kept none e = start-kept v.start e

    named-kept : (anonymous : Bool) → refuses (number_of (step_anonymous anonymous ps v).answer) ≡ true → (step_anonymous anonymous ps v).places ≡ ps
    unfolding step_anonymous
    named-kept true e = refl
    named-kept false e = seek-kept (seek (holds v.stream) ps) e

    checked-kept : (o : Option ℕ) (a : Bool) → refuses (number_of (step_checked o a ps v).answer) ≡ true → (step_checked o a ps v).places ≡ ps
    unfolding step_checked
    checked-kept (some n) a e = refl
    checked-kept none a e = named-kept a e

pub refusals : RefusalLaw
unfolding step
refusals u ps r = checked-kept (parsed u r.arrival) ps (check u r) (is_anonymous r.arrival.frame.id)
