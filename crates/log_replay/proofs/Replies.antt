-- What a line gives, step by step.
use mathlib.Core.Path.{◌≡◌, refl, sym, ap, ◌∙◌}
use mathlib.Core.Bool.{true}
use Rattle.std.specs.Prelude.{Some, None, unwrap_or}
use Rattle.std.specs.Prelude as std
use mathlib.Core.List.{List, ◌++◌}
use mathlib.Core.Option.{Option, none, some}
use Prim.Native.Nat.{ℕ, ◌+◌, ◌-◌, ◌≤◌}
use native.Mathlib.Omega.{arith}
use lib.ListN.{length, take, replicate, length-append}
use lib.Seq.{length-take-le, take_at}
use Rattle.bits.specs.Part.{splice}
use Rattle.bits.proofs.Splice.{splice-next}
use Rattle.log_answer.specs.Answer.{answer_text}
use Rattle.log_line.specs.Line.{time_text}
use Rattle.log_line.specs.Reading.{said, line_with, line_in}
use Rattle.log_line.specs.declared.read.Line as line
use Rattle.log_line.proofs.Lines.{Timed, timed, read}
use Rattle.rules.specs.Frame.{Frame, Arrival}
use Rattle.rules.specs.Sent.{frame_at}
use Rattle.receiver.specs.Receive as receive
use Rattle.receiver.specs.Receive.{arriving, lent, received_if, received}
use Rattle.rules.specs.Reception.{step}
use Rattle.state.specs.Layout.{setup_of, places_of}
use Rattle.state.specs.Sound.{sound_state}
use Rattle.guarantees.specs.Received.{Typed}
use Rattle.log_replay.specs.Replay.{counted, is_handed, answered, logged, reply}
use Rattle.log_replay.specs.inside.Call.{returned, replayed}
use Rattle.log_replay.specs.declared.Counts.{Counts}
use Rattle.answers.specs.declared.Answer.{Answer}
use Rattle.digits.specs.inside.Text.{Puts}
use Rattle.digits.specs.Find.{before}

-- the frame that a line says
abbrev pub frame_said : line.Line → Frame
frame_said r = frame_at r.id (take r.len r.bytes) r.time

-- the struct of a line that reads
record Struct (l : List ℕ) (r : line.Line) : Type 0 where
  says : said l ≡ some (frame_said r)
  head : r.head ≡ before 46 l + 4
  few : r.len ≤ length r.bytes

struct : (l : List ℕ) (r : line.Line) → line_in l ≡ Some r → Struct l r
struct l r e = go (said l) refl where
  go : (o : Option Frame) → said l ≡ o → Struct l r
  go none n =
      let q : ◌≡◌ {A = std.Option line.Line} None (Some r) = sym (ap (line_with (before 46 l)) n) ∙ e in
      let z : ◌≡◌ {A = ℕ} 0 1 = cc in
      absurd (omega arith)
  go (some f) n =
      let q : r ≡ unwrap_or (line_with (before 46 l) (some f)) r =
      ap (λ (o : std.Option line.Line). unwrap_or o r) (sym e ∙ ap (line_with (before 46 l)) n) in
      let t : take (length f.bytes) (f.bytes ++ replicate (8 - length f.bytes) 0) ≡ f.bytes = take_at f.bytes (replicate (8 - length f.bytes) 0) (length f.bytes) refl in
      record {
        says = n ∙ rw q (ap (λ (b : List ℕ). some (frame_at f.id b f.time)) (sym t));
        head = ap (λ (x : line.Line). x.head) q;
        few = rw q (omega (arith, length-append f.bytes (replicate (8 - length f.bytes) 0)));
      }

module _ (l : List ℕ) (r : line.Line) (is : line_in l ≡ Some r) where
  pub says : said l ≡ some (frame_said r)
  says = (struct l r is).says

  front : Timed l (frame_said r)
  front = timed l (frame_said r) says

  pub len-in : r.len ≤ length r.bytes
  len-in = (struct l r is).few

  pub head_in : r.head ≤ length l
  head_in = omega (arith, (struct l r is).head, front.long)

  pub head_few : r.head ≤ 13
  head_few = omega (arith, (struct l r is).head, front.few)

  pub least : 15 ≤ length l
  least = front.least

  pub time : take r.head l ≡ time_text r.time
  time = ap (λ (k : ℕ). take k l) (struct l r is).head ∙ front.text

  -- what the types of a frame give
  pub in-range : Typed (frame_said r)
  in-range = let c = (read l (frame_said r) says).carried in record { bytes = c.octets; time = omega (arith, c.time) }

  -- the time, and the answer after it
  module _ (m m' pay out out₁ out₂ : List ℕ) (c c' : Counts) (a : Answer) (at p : ℕ) (room : at + r.head ≤ length out) where
    pub replied : receive.returned a m' pay ≡ received m (logged (frame_said r)) (replicate 512 0) → out₁ ≡ splice out at (take r.head l)
        → Puts out₁ out₂ (at + r.head) p (answer_text a pay)
        → c' ≡ counted c (is_handed a) → returned (record { past = p; counts = c' }) m' out₂ ≡ replayed m l c out at
    unfolding reply answered
    replied e f g n =
        let t = time_text r.time in
        let k : length t ≡ r.head = sym (ap length time) ∙ length-take-le r.head l head_in in
        let x : out₂ ≡ splice out at (t ++ answer_text a pay) =
        splice-next out out₁ out₂ at r.head t (answer_text a pay) (omega arith) k (f ∙ ap (splice out at) time) g.out in
        let y : p ≡ at + length (t ++ answer_text a pay) = g.end ∙ omega (arith, length-append t (answer_text a pay), k) in
        rw (says, ← e, y, n, x)

-- a reception on a state without a fault is the rules' step
pub tested : (m : List ℕ) (f : Arrival) (out : List ℕ) → sound_state m ≡ true → received m f out ≡ lent m out (step (setup_of m) (places_of m) (arriving f out))
unfolding received received_if
tested m f out h = rw h
