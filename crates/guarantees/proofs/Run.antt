-- Many receptions: by induction over the calls.
use mathlib.Core.Path.{◌≡◌, refl, ap, ap₂, ◌∙◌}
use mathlib.Core.Bool.{true}
use mathlib.Core.List.{List, [], ◌∷◌, map}
use Prim.Native.Nat.{ℕ, ◌+◌}
use lib.ListN.{length, take, drop}
use lib.Seq.{take_at}
use Rattle.guarantees.specs.Received.{step_on}
use Rattle.guarantees.specs.Run.{Call, result_of, left, receptions, Reading, reading, readings, reading_of, RunLaw}
use Rattle.guarantees.proofs.Received.{view-law, sound-law}
use Rattle.rules.specs.Answer as rules
use Rattle.rules.specs.Reception.{Step, run, after}
use Rattle.rules.specs.Setup.{Setup}
use Rattle.rules.specs.Table.{Places}
use Rattle.receiver.specs.Receive.{received_if, received, lent}
use Rattle.answers.specs.Reception.{transfer_in, told, out_after}
use Rattle.answers.proofs.Reception.{told-length}
use Rattle.state.specs.Sound.{sound_state}

-- a payload is read back from the front of the output buffer
payload-back : (a : rules.Answer) (out : List ℕ) → take (transfer_in (told a)).len (out_after a out) ≡ rules.handed_payload a
payload-back a out =
    let p = rules.handed_payload a in
    ap (λ n. take n (out_after a out)) (told-length a) ∙ take_at p (drop (0 + length p) out) (length p) refl

reading-lent : (m out : List ℕ) (s : Step) → reading (lent m out s) ≡ reading_of s.answer
reading-lent m out s = ap (λ (p : List ℕ). record { answer = told s.answer; payload = p }) (payload-back s.answer out)

pub reading-is : (m : List ℕ) (c : Call) → sound_state m ≡ true → reading (result_of m c) ≡ reading_of (step_on m c.arrival c.out).answer
unfolding received received_if
reading-is m c fine = rw fine (reading-lent m c.out (step_on m c.arrival c.out))

pub run-law : RunLaw
unfolding readings left run after
run-law m [] fine bytes typed = record { read = refl; places = refl; setup = refl; sound = fine; bytes = bytes }
run-law m (c ∷ cs) fine bytes typed =
    let v = view-law m c.arrival c.out fine bytes typed.0 in
    let s = sound-law m c.arrival c.out fine bytes typed.0 in
    let h = run-law (result_of m c).state cs s.0 s.1 typed.1 in
    record {
      read = ap₂ (λ (r : Reading) (l : List Reading). r ∷ l) (reading-is m c fine)
          (h.read ∙ ap₂ (λ (u : Setup) (ps : Places). map reading_of (run u ps (receptions cs))) v.setup v.places);
      places = h.places ∙ ap₂ (λ (u : Setup) (ps : Places). after u ps (receptions cs)) v.setup v.places;
      setup = h.setup ∙ v.setup;
      sound = h.sound;
      bytes = h.bytes;
    }
