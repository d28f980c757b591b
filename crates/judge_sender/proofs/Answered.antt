-- A run by the rules sends what its calls that are answered 0 send: the others change nothing.
use mathlib.Core.Path.{◌≡◌, refl, ap, ◌∙◌}
use mathlib.Core.Bool.{Bool, true, false}
use mathlib.Core.List.{List, [], ◌∷◌, ◌++◌}
use Prim.Native.Nat.{ℕ, ◌*◌}
use native.Mathlib.Omega.{arith}
use lib.Dec.{eqb}
use lib.ListN.{length}
use borrow.Author.Tests.{eqb-true, eqb-false}
use Rattle.bits.specs.Tabulate.{tabulate}
use Rattle.judge_rules.specs.Sender as rules
use Rattle.rules.specs.Condition3.{keep}
use Rattle.rules.specs.Map.{Map}
use Rattle.rules.specs.Sending as sending
use Rattle.rules.specs.Sending.{Step, send_step}
use Rattle.rules.specs.SendingLaws.{frame_in}
use Rattle.rules.specs.Setup.{Setup}
use Rattle.rules.specs.Tests.{pick}
use Rattle.rules.proofs.Sends.{record-laws}
use Rattle.judge_sender.specs.Runs.{Send, Gives, recorded, sent_from, Orderly}

abbrev pub given : ℕ → Step → Gives Map
given time o = record { number = sending.number_of o.answer; frames = recorded time o.records (sending.frames_of o.answer); state = o.map }

abbrev step_of : Map → Send → Step
step_of m s = send_step s.call m (length s.out)

abbrev pub by_rules : Map → Send → Gives Map
by_rules m s = given s.call.time (send_step s.call m (length s.out))

abbrev with_room : Send → rules.Send
with_room s = record { call = s.call; room = length s.out }

unfoldable pub answered : Map → List Send → List rules.Send
answered m [] = []
answered m (s ∷ l) = keep (eqb (by_rules m s).number 0) (with_room s) (answered (by_rules m s).state l)

no_frames : (o : Step) (time : ℕ) → o.records ≡ [] → length o.records ≡ 13 * sending.frames_of o.answer → recorded time o.records (sending.frames_of o.answer) ≡ []
unfolding tabulate
no_frames o time e h =
    let z : sending.frames_of o.answer ≡ 0 = omega (arith, h, ap length e) in
    ap (tabulate (frame_in o.records time) 0) z

pub same-sent : (l : List Send) (m : Map) → sent_from by_rules m l ≡ rules.sent_from m (answered m l)
unfolding sent_from rules.sent_from answered
same-sent [] m = refl
same-sent (s ∷ l) m = go (eqb (by_rules m s).number 0) refl (same-sent l (step_of m s).map)
  where
    go : (b : Bool) → eqb (by_rules m s).number 0 ≡ b
        → sent_from by_rules (step_of m s).map l ≡ rules.sent_from (step_of m s).map (answered (step_of m s).map l)
        → (by_rules m s).frames ++ sent_from by_rules (step_of m s).map l ≡ rules.sent_from m (keep b (with_room s) (answered (step_of m s).map l))
    go true e q = ap (λ x. (by_rules m s).frames ++ x) q
    go false e q =
        let k = record-laws.refusal s.call m (length s.out) (eqb-false (sending.number_of (step_of m s).answer) 0 e) in
        let f = no_frames (step_of m s) s.call.time k.1 (record-laws.size s.call m (length s.out)) in
        ap (λ x. x ++ sent_from by_rules (step_of m s).map l) f ∙ q ∙ ap (λ x. rules.sent_from x (answered (step_of m s).map l)) k.0

pub proper : (u : Setup) (own t : ℕ) (l : List Send) (m : Map) → Orderly by_rules u own t m l → rules.Orderly u own t (answered m l)
unfolding answered
proper u own t [] m h = tt
proper u own t (s ∷ l) m h = go (eqb (by_rules m s).number 0) refl h.1 (λ t k. proper u own t l (step_of m s).map k)
  where
    go : (b : Bool) → eqb (by_rules m s).number 0 ≡ b → Orderly by_rules u own (pick b s.call.time t) (step_of m s).map l
        → ((t : ℕ) → Orderly by_rules u own t (step_of m s).map l → rules.Orderly u own t (answered (step_of m s).map l))
        → rules.Orderly u own t (keep b (with_room s) (answered (step_of m s).map l))
    go true e k q = (h.0 (eqb-true (sending.number_of (step_of m s).answer) 0 e), q s.call.time k)
    go false e k q = q t k
