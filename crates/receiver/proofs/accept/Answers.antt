-- `accept` meets its contract: handed out, or what the stream's session makes of it.
use mathlib.Core.Path.{◌≡◌, refl, sym, ap, subst, ◌∙◌}
use mathlib.Core.Bool.{Bool, true, false}
use mathlib.Core.List.{List}
use Prim.Native.Nat.{ℕ, ◌-◌, ◌≤◌, ◌<◌}
use native.Mathlib.Nat.{sub-zero}
use native.Mathlib.Omega.{arith}
use lib.ListN.{length, take}
use lib.Seq.{length-take-le}
use Rattle.answers.specs.Reception.{told}
use Rattle.bits.proofs.Octets.{octets-all}
use Rattle.bits.specs.Part.{span, splice}
use Rattle.receiver.specs.Receive.{lent}
use Rattle.receiver.specs.inside.Called.{Accepted, Called}
use Rattle.receiver.proofs.Lent.{untouched}
use Rattle.rules.specs.Answer as rules
use Rattle.rules.specs.Frame.{unnamed, payload_of}
use Rattle.rules.specs.Reception.{step_anonymous, step_seek}
use Rattle.rules.specs.Table.{seek, holds}
use Rattle.session.specs.inside.Session.{stream_of, parsed_of}
use Rattle.session.specs.declared.Incoming.{Incoming}
use Rattle.state.specs.Layout.{places_of}
use borrow.Author.Rules.{rules}
use Rattle.receiver.proofs.accept.Goals as goal

-- the part of the frame before its tail
before-tail : (bs : List ℕ) → span bs 0 (length bs - 1 - 0) ≡ payload_of bs
before-tail bs = ap (λ (n : ℕ). take n bs) (sub-zero (length bs - 1))

called : (m out bs : List ℕ) (h : Incoming) → Accepted m h bs out → unnamed (stream_of h) ≡ false → (p : List ℕ) → p ≡ payload_of bs → Called m h p out
called m out bs h q a p f = record {
  sound = q.sound;
  transfer = q.transfer;
  start = q.start;
  transfer_type = q.transfer_type;
  type = q.type;
  source = q.source;
  named = q.named a;
  destination = q.destination;
  fits = q.fits a;
  whole = λ e. subst (λ (x : List ℕ). 0 < length x) (sym f) (omega (arith, length-take-le (length bs - 1) bs (omega arith), q.whole e));
  payload = subst (λ (x : List ℕ). length x ≤ 7) (sym f) (omega (arith, length-take-le (length bs - 1) bs (omega arith), q.few_bytes));
  interface = q.interface;
  room = q.room;
}

pub returns-then-is_anonymous : goal.returns-then-is_anonymous
unfolding step_anonymous parsed_of
returns-then-is_anonymous c =
    let a = c.args in
    let m = a.state.now in
    let out = a.out.now in
    let bs = a.frame.now in
    let v = parsed_of a.f (payload_of bs) in
    let q = c.hand_out.ensures in
    untouched m c.requires.sound (octets-all m (search rules)) out (step_anonymous true (places_of m) v) c.hand_out.result refl
    (q.answer ∙ ap (λ p. told (rules.handed p (stream_of a.f) a.f.head.priority a.f.head.transfer)) (before-tail bs)) _
    (q.out ∙ ap (λ p. splice out 0 p) (before-tail bs))
    ∙ ap (λ (x : Bool). lent m out (step_anonymous x (places_of m) v)) (sym (sym c.is_anonymous.ensures ∙ c.if-is_anonymous.true))

pub arrive-requires : goal.arrive-requires
arrive-requires c =
    let a = c.args in
    called a.state.now a.out.now a.frame.now a.f c.requires (sym c.is_anonymous.ensures ∙ c.if-is_anonymous.false) _ (before-tail a.frame.now)

pub returns : goal.returns
unfolding step_anonymous parsed_of
returns c =
    let a = c.args in
    let m = a.state.now in
    let out = a.out.now in
    let bs = a.frame.now in
    let v = parsed_of a.f (payload_of bs) in
    c.arrive.ensures
    ∙ ap (λ p. lent m out (step_seek (seek (holds (stream_of a.f)) (places_of m)) (places_of m) (parsed_of a.f p))) (before-tail bs)
    ∙ ap (λ (x : Bool). lent m out (step_anonymous x (places_of m) v)) (sym (sym c.is_anonymous.ensures ∙ c.if-is_anonymous.false))
