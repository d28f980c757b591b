-- Sending and then receiving: the records of a send, heard by a receiver that they are for, hand the payload out if their start is taken.
use mathlib.Core.Path.{◌≡◌, refl, sym, ap, ap₂, ◌∙◌, subst}
use mathlib.Core.Bool.{true, false, ◌&&◌}
use mathlib.Core.List.{List, [], ◌∷◌, map}
use mathlib.Mathlib.Data.Bool.Basic.{and_elim_left, and_elim_right, and_intro}
use Prim.Native.Nat.{ℕ, suc, ◌+◌, ◌*◌, ◌-◌, ◌^◌, ◌≤◌, ◌<◌}
use native.Mathlib.Omega.{arith}
use lib.Dec.{ltb}
use lib.ListN.{length, get_or}
use borrow.Author.Tests.{eq-eqb, ne_eqb, ltb-true}
use Rattle.bits.specs.Tabulate.{tabulate}
use Rattle.rules.specs.Answer.{handed}
use Rattle.rules.specs.BlockBounds.{total, rival_need}
use Rattle.rules.specs.Condition3.{of_stream, start_of, All, answers_to, up_to, Receiver, frames, answers, took_start, never, front, Transfer, handouts, Past, rules_table}
use Rattle.rules.specs.Frame.{Arrival, Stream, stream_of, is_start, tail_of}
use Rattle.rules.specs.Limits.{switch_delay}
use Rattle.rules.specs.Reception.{step}
use Rattle.rules.specs.Sending as sending
use Rattle.rules.specs.Sending.{Call, done, frames_of, send_step}
use Rattle.rules.specs.SendingLaws.{transfer_for, Correct, Hears, frame_in, untimed, frames_in, frames_by, Hearing, in_turn, at_once, Delivered}
use Rattle.rules.specs.Map.{Map, sound}
use Rattle.rules.specs.Sent.{tail_byte, framed, carried, sent, id_of, frame_at, arrival_at}
use Rattle.rules.specs.Setup.{Setup}
use Rattle.rules.specs.Sound.{service_fits, stream_fits, sound as faultless}
use Rattle.rules.specs.Table.{Places}
use Rattle.rules.proofs.Arrivals.{starts, Opening, opening, each, frames_at, of-it, arrivals_at, frames-each, upto-each, roomy-each, forward-each, untimed-each, soon-each, length-each, first-timed, brings-timed, starts-each, no-starts, signed, sorts-start}
use Rattle.rules.proofs.Bounds.{At, still-room, all-served}
use Rattle.rules.proofs.Ids.{id-laws}
use Rattle.rules.proofs.Lasting.{lasting}
use Rattle.rules.proofs.Lift.{free}
use Rattle.rules.proofs.Reasons.{Sorted}
use Rattle.rules.proofs.Records.{Short, sent-short, length-records, back}
use Rattle.rules.proofs.Sends.{record-laws, source-laws}
use Rattle.rules.proofs.Theorem.{past-sound, past_fits, theorem}

module _ (u : Setup) (c : Call) (hears : Hears u c) (m : Map) (records : List ℕ) (ok : Correct c m records) (named : 0 < c.own) where
  abbrev d : Stream
  d = sending.stream_of c

  abbrev id : ℕ
  id = id_of d c.priority

  abbrev t : ℕ
  t = transfer_for c m

  abbrev small : id < 2 ^ 29
  small = id-laws.small d c.priority ok.stream ok.priority

  abbrev stream : stream_of id ≡ d
  stream = id-laws.stream d c.priority ok.stream

  abbrev data' : List (List ℕ)
  data' = sent c.signature t c.payload

  aimed : (c.transfer_type ≡ 0 → ⊥) → 0 < c.destination
  unfolding stream_fits
  aimed n =
      let k = and_elim_right (ltb c.transfer_type 3) _ (and_elim_right (ltb 0 c.own && ltb c.own 128) _ ok.stream) in
      let s : service_fits d ≡ true = rw (ne_eqb c.transfer_type 0 n) at k in
      ltb-true 0 c.destination (and_elim_left _ _ (and_elim_right (ltb c.type 256) _ s))

  module _ (n : ℕ) (x : Receiver (rules_table u)) (h : Hearing u d records n x) (o : Opening t ok.transfer data')
      (heard : map untimed (frames_by x.start.arrival.interface (x.start.arrival ∷ frames (rules_table u) d x)) ≡ frames_at id 0 data') where
    abbrev f : Arrival
    f = x.start.arrival

    abbrev time : ℕ
    time = f.frame.time

    abbrev fs : List Arrival
    fs = frames (rules_table u) d x

    abbrev first : List ℕ
    first = framed o.bytes (tail_byte true o.last false t)

    in-order : map untimed (f.frame ∷ frames_by f.interface fs) ≡ frames_at id 0 (first ∷ o.rest)
    unfolding frames_by
    in-order = rw (eq-eqb f.interface f.interface refl) at heard ∙ ap (frames_at id 0) o.is

    start_is : frame_at id first time ≡ f.frame
    start_is = first-timed id f.frame (frames_by f.interface fs) first o.rest in-order

    starting : start_of d f.frame ≡ true
    starting =
        subst (λ g. start_of d g ≡ true) start_is
        (and_intro (of-it id d small stream first time) (starts t ok.transfer o.bytes true o.last false))

    transfer : Transfer u d f fs c.priority t c.payload
    transfer =
        record {
          size = ok.payload;
          fields = (ok.priority, ok.transfer);
          signature = c.signature;
          subscribed = signed u c hears id small stream named aimed;
          brings = brings-timed id f.interface (time + switch_delay) data' (f ∷ fs) heard (omega arith, h.soon);
        }

    hands_out : took_start (rules_table u) x ≡ true → handouts (rules_table u) (answers (rules_table u) d x) ≡ handed c.payload d c.priority t ∷ []
    hands_out tk =
        ((theorem u d x x
        (record {
          pasts = (h.past, h.past);
          typed = (free u (x.start ∷ x.list), free u (x.start ∷ x.list));
          named = named;
          start = starting;
          together = refl;
          take = (tk, tk);
          same = refl;
        })
        ).delivered c.priority t c.payload transfer h.while h.while).0

    sorted : Sorted (step u x.state x.start).answer
    sorted =
        subst (λ g. Sorted (step u x.state (record { arrival = record { frame = g; interface = f.interface }; room = x.start.room })).answer) start_is
        (sorts-start u c hears id small stream named aimed t ok.transfer o.bytes o.last o.most o.whole time f.interface h.interface x.state (past_fits u x.state h.past) x.start.room h.room)

-- what is read from the records is each frame in turn
tab-each : {A : Type 0} (g : List ℕ → A) (l : List (List ℕ)) (f : ℕ → A) (i : ℕ) → ((k : ℕ) → k < length l → f (i + k) ≡ g (get_or l k [])) → tabulate f i (length l) ≡ map g l
unfolding tabulate
tab-each g [] f i h = refl
tab-each {A} g (c ∷ l) f i h =
    let z : i + 0 ≡ i = omega arith in
    ap₂ (λ (r : A) (rs : List A). r ∷ rs) (ap f (sym z) ∙ h 0 (omega arith))
    (tab-each g l f (suc i) (λ k b. let e : suc i + k ≡ i + suc k = omega arith in ap f e ∙ h (suc k) (omega arith)))

-- a successful send of a named source
module _ (c : Call) (m : Map) (room n i : ℕ) (h : sound m ≡ true) (e : (send_step c m room).answer ≡ done n i) (named : 0 < c.own) where
  abbrev out : List ℕ
  out = (send_step c m room).records

  abbrev correct : Correct c m out
  correct = source-laws.named c m room n i h e named

  abbrev wire : ℕ
  wire = id_of (sending.stream_of c) c.priority

  abbrev all : List (List ℕ)
  all = sent c.signature (transfer_for c m) c.payload

  short : Short all
  short = sent-short c.signature (transfer_for c m) c.payload

  many : n ≡ length all
  many =
      omega (
        arith,
        record-laws.size c m room ∙ ap (λ a. 13 * frames_of a) e,
        ap length correct.frames ∙ length-records wire all short,
      )

  below : wire < 2 ^ 29
  below = id-laws.small (sending.stream_of c) c.priority correct.stream correct.priority

  read : (time k : ℕ) → k < length all → frame_in out time k ≡ frame_at wire (get_or all k []) time
  read time k b = ap (λ r. frame_in r time k) correct.frames ∙ back wire (omega (arith, below)) time all k short b

  frames-in : frames_in out n ≡ frames_at wire 0 all
  frames-in =
      ap (frames_in out) many
      ∙ tab-each (λ b. frame_at wire b 0) all (frame_in out 0) 0 (λ k b. let z : 0 + k ≡ k = omega arith in ap (frame_in out 0) z ∙ read 0 k b)

  opens : Opening (transfer_for c m) correct.transfer all
  unfolding sent
  opens = opening (transfer_for c m) correct.transfer (carried c.signature c.payload)

  -- ── heard at one time ──

  module _ (u : Setup) (ps : Places) (past : Past u ps) (time space : ℕ) (wide : 512 ≤ space) where
    abbrev one : List ℕ
    one = framed opens.bytes (tail_byte true opens.last false (transfer_for c m))

    abbrev rest : List (List ℕ)
    rest = opens.rest

    abbrev d' : Stream
    d' = sending.stream_of c

    abbrev plain : Receiver (rules_table u)
    plain = record { state = ps; start = record { arrival = arrival_at 0 wire one time; room = space }; list = each wire time space rest }

    fine : faultless ps ≡ true
    fine = past-sound u ps past

    stream-of : stream_of wire ≡ d'
    stream-of = id-laws.stream d' c.priority correct.stream

    plain-frames : frames (rules_table u) d' plain ≡ arrivals_at wire time rest
    plain-frames = frames-each wire d' below stream-of u time space rest

    plain-front : front (rules_table u) d' (length (frames (rules_table u) d' plain)) plain ≡ each wire time space rest
    plain-front =
        ap (up_to (rules_table u) (of_stream d') (each wire time space rest)) (ap length plain-frames ∙ length-each wire time rest)
        ∙ upto-each wire d' below stream-of u time space rest

    none-starts : answers_to (rules_table u) (start_of d') (step u ps plain.start).places (each wire time space rest) ≡ []
    none-starts = no-starts u d' (step u ps plain.start).places (each wire time space rest)
        (subst (All (λ a. is_start (tail_of a.frame.bytes) ≡ false)) (sym plain-frames) (starts-each wire time rest opens.later))

    each_at : (l : List (List ℕ)) → All (At d' time) (each wire time space l)
    each_at [] = tt
    each_at (b ∷ l) = (record { stream = stream-of; time = refl }, each_at l)

    hears-plain : total (rival_need d' time) ps + 9 ≤ 64 → Hearing u d' out n plain
    unfolding frames_by
    hears-plain s =
        record {
          past = past;
          interface = omega arith;
          heard = ap (λ fs. frame_at wire one 0 ∷ map untimed (frames_by 0 fs)) plain-frames ∙ ap (λ fs. frame_at wire one 0 ∷ fs) (untimed-each wire time rest)
              ∙ sym (frames-in ∙ ap (frames_at wire 0) opens.is);
          soon = subst (All (λ a. a.frame.time ≤ time + switch_delay)) (sym plain-frames) (soon-each wire time rest);
          room = wide;
          while =
              record {
                time = rw plain-front (forward-each u wire time space rest);
                room = rw plain-front (roomy-each wire d' below stream-of u time space wide rest);
                table = rw plain-front (ap (never (rules_table u) 9) none-starts);
                blocks =
                    rw plain-front
                    (all-served u d' time (of_stream d') (step u ps plain.start).places (each wire time space rest) (lasting.reception u ps plain.start fine)
                    (each_at rest) (still-room u d' time ps plain.start fine (record { stream = stream-of; time = refl }) (omega (arith, s))));
              };
        }

    longer : length all ≡ suc (length rest)
    longer = ap length opens.is

    -- record k is frame k
    turn : (k : ℕ) → k < length all → in_turn out time space k ≡ record { arrival = arrival_at 0 wire (get_or all k []) time; room = space }
    turn k b = ap (λ f. record { arrival = record { frame = f; interface = 0 }; room = space }) (read time k b)

    is_plain : at_once u ps out n time space ≡ plain
    is_plain =
        let first : in_turn out time space 0 ≡ plain.start =
        turn 0 (omega (arith, longer)) ∙ ap (λ l. record { arrival = arrival_at 0 wire (get_or l 0 []) time; room = space }) opens.is in
        let others : tabulate (in_turn out time space) 1 (n - 1) ≡ plain.list =
        ap (tabulate (in_turn out time space) 1) (omega (arith, many, longer))
        ∙ tab-each (λ b. record { arrival = arrival_at 0 wire b time; room = space }) rest (in_turn out time space) 1
        (λ k b. let z : 1 + k ≡ suc k = omega arith in
        ap (in_turn out time space) z ∙ turn (suc k) (omega (arith, longer)) ∙ ap (λ l. record { arrival = arrival_at 0 wire (get_or l (suc k) []) time; room = space }) opens.is) in
        λ i. record { state = ps; start = first i; list = others i }

    hears-at-once : total (rival_need d' time) ps + 9 ≤ 64 → Hearing u d' out n (at_once u ps out n time space)
    hears-at-once s = subst (Hearing u d' out n) (sym is_plain) (hears-plain s)

pub delivered : Delivered
delivered =
    record {
      arrives = λ c m room n i h e named u hears x hearing.
          let ok = correct c m room n i h e named in
          let o = opens c m room n i h e named in
          let heard = hearing.heard ∙ frames-in c m room n i h e named in
          record {
            start = sorted u c hears m (send_step c m room).records ok named n x hearing o heard;
            once = hands_out u c hears m (send_step c m room).records ok named n x hearing o heard;
          };
      met = λ c m room n i h e named u ps past time space wide. hears-at-once c m room n i h e named u ps past time space wide;
    }
